-- Tags with numbers: what one event and one command after another makes of them.
use Rattle.std.proofs.Common.{◌≡◌, ◌≢◌, ℕ, zero, suc, ◌+◌, ◌<◌, ◌≤◌, Bool, true, false, Option, Some, None, List, [], ◌∷◌, ◌++◌, length, drop, get_or, refl, sym, ap, ◌∙◌, arith, add-one, drop-cons}
use Rattle.std.specs.List.{All}
use Rattle.std.specs.Prelude.{slice_set}
use Rattle.std.proofs.lemmas.List.Elements.{All-append, All-nil}
use Rattle.std.proofs.lemmas.Bool.{eq-eqb, ne_eqb}
use Rattle.std.proofs.lemmas.List.{drop_all}
use Rattle.air_events.specs.declared.Entry.{Entry}
use Rattle.air_events.specs.declared.Event.{Event}
use Rattle.command_grammar.specs.declared.commands.Command.{Command}
use Rattle.tag_machine.specs.Events.{tag_after_event}
use Rattle.tag_machine.specs.TagValue.{TagValue, IsLegalTag}
use Rattle.tag_machine.proofs.StepFacts.{step_facts}
use Rattle.tag_machine.specs.Answers.{IsSent, Sent}
use Rattle.tag_machine.specs.TagsInExchange.{AreLegalTags, Replied, is_missed, outcome_unless, replies_from, reply_of, tag_after_own_event, tags_after_event, tags_after}
use Rattle.tag_population.specs.Hearing.{tags_after_events, hearing_from}

-- an event befalls no tag of another number
other_tag : (number befallen : ℕ) (event : Event) (tag : TagValue) → befallen ≢ number → tag_after_own_event number event befallen tag ≡ tag
other_tag number befallen event tag other = rw (ne_eqb befallen number other) refl

this_tag : (number befallen : ℕ) (event : Event) (tag : TagValue) → befallen ≡ number → tag_after_own_event number event befallen tag ≡ tag_after_event event tag.state tag.body
this_tag number befallen event tag same = rw (eq-eqb befallen number same) refl

other_tags : (number befallen : ℕ) (event : Event) (tags : List TagValue) → befallen < number → tags_after_event number event befallen tags ≡ tags
other_tags number befallen event [] below = refl
other_tags number befallen event (tag ∷ tags) below =
    let first = other_tag number befallen event tag (omega arith) in
    let rest = other_tags (number + 1) befallen event tags (omega arith) in
    rw (first, rest) refl

-- an event befalls the tag of its number
befallen_tags : (number befallen at : ℕ) (event : Event) (tags : List TagValue) (d : TagValue) → at < length tags → befallen ≡ number + at
    → slice_set tags at (tag_after_event event (get_or tags at d).state (get_or tags at d).body) ≡ tags_after_event number event befallen tags
befallen_tags number befallen at event [] d below is = absurd (omega arith)
befallen_tags number befallen zero event (tag ∷ tags) d below is =
    let first = this_tag number befallen event tag (omega arith) in
    let rest = other_tags (number + 1) befallen event tags (omega arith) in
    rw (first, rest) refl
befallen_tags number befallen (suc at) event (tag ∷ tags) d below is =
    let first = other_tag number befallen event tag (omega arith) in
    let rest = befallen_tags (number + 1) befallen at event tags d (omega arith) (omega arith) in
    rw (first, ← rest) refl

pub befallen_at : (befallen : ℕ) (event : Event) (tags : List TagValue) (old new d : TagValue) → befallen < length tags
    → old ≡ get_or tags befallen d → new ≡ tag_after_event event old.state old.body → slice_set tags befallen new ≡ tags_after_event 0 event befallen tags
befallen_at befallen event tags old new d below at is =
    rw (is, at) (befallen_tags 0 befallen befallen event tags d below (omega arith))

pub length-tags_after_event : (number befallen : ℕ) (event : Event) (tags : List TagValue) → length (tags_after_event number event befallen tags) ≡ length tags
length-tags_after_event number befallen event [] = refl
length-tags_after_event number befallen event (tag ∷ tags) = ap (λ n. suc n) (length-tags_after_event (number + 1) befallen event tags)

-- one event more befell its tag
pub befallen_next : (events : List (Event × ℕ)) (at : ℕ) (d : Event × ℕ) (before after end : List TagValue) → at < length events
    → tags_after_events 0 (drop at events) before ≡ end → after ≡ tags_after_event 0 (get_or events at d).0 (get_or events at d).1 before
    → tags_after_events 0 (drop (at + 1) events) after ≡ end
befallen_next events at d before after end below so_far step =
    let rest : drop at events ≡ get_or events at d ∷ drop (at + 1) events = rw (drop-cons events at d below, add-one at) refl in
    rw step (sym (ap (λ (l : List (Event × ℕ)). tags_after_events 0 l before) rest) ∙ so_far)

-- all events befell their tags
pub befallen_all : (events : List (Event × ℕ)) (at : ℕ) (tags end : List TagValue) → length events ≤ at → tags_after_events 0 (drop at events) tags ≡ end → tags ≡ end
befallen_all events at tags end past so_far = sym (ap (λ (l : List (Event × ℕ)). tags_after_events 0 l tags) (drop_all at events past)) ∙ so_far

-- legal tags with one put in place of another
pub legal-set : (tags : List TagValue) (at : ℕ) (tag : TagValue) → AreLegalTags tags → IsLegalTag tag → AreLegalTags (slice_set tags at tag)
legal-set [] at tag legal here = tt
legal-set (first ∷ tags) zero tag legal here = (here, legal.1)
legal-set (first ∷ tags) (suc at) tag legal here = (legal.0, legal-set tags at tag legal.1 here)

pub legal_at : (tags : List TagValue) (at : ℕ) (d : TagValue) → AreLegalTags tags → at < length tags → IsLegalTag (get_or tags at d)
legal_at [] at d legal within = absurd (omega (arith, within))
legal_at (first ∷ tags) zero d legal within = legal.0
legal_at (first ∷ tags) (suc at) d legal within = legal_at tags at d legal.1 (omega (arith, within))

pub legal-append : (tags : List TagValue) (tag : TagValue) → AreLegalTags tags → IsLegalTag tag → AreLegalTags (tags ++ tag ∷ [])
legal-append [] tag legal here = (here, tt)
legal-append (first ∷ tags) tag legal here = (legal.0, legal-append tags tag legal.1 here)

-- no tag is lost
pub length-heard : (number : ℕ) (command : Command) (entry : Entry) (tags : List TagValue) → length (tags_after (hearing_from number command entry tags)) ≡ length tags
length-heard number command entry [] = refl
length-heard number command entry (tag ∷ tags) = ap (λ n. suc n) (length-heard (number + 1) command entry tags)

-- what legal tags send is legal
all_one : {X : Type 0} (P : X → Type 0) (x : X) → P x → All P (x ∷ [])
all_one P x is zero d within = is
all_one P x is (suc index) d within = absurd (omega (arith, within))

sent_one : (number : ℕ) (answer : Option Sent) → ((sent : Sent) → answer ≡ Some sent → IsSent (Some sent)) → All (λ replied. IsSent (Some replied.sent)) (reply_of number answer)
sent_one number None each = All-nil (λ (replied : Replied). IsSent (Some replied.sent))
sent_one number (Some sent) each = all_one (λ (replied : Replied). IsSent (Some replied.sent)) (record { number = number; sent = sent }) (each sent refl)

sent_unless : (misses : Bool) (command : Command) (tag : TagValue) (sent : Sent) → IsLegalTag tag → (outcome_unless misses command tag).answer ≡ Some sent → IsSent (Some sent)
sent_unless true command tag sent legal is = absurd cc
sent_unless false command tag sent legal is = (((step_facts command tag.state tag.body).sent sent is).fits legal).1

pub sent_all : (start : ℕ) (command : Command) (entry : Entry) (tags : List TagValue) → AreLegalTags tags → All (λ replied. IsSent (Some replied.sent)) (replies_from start (hearing_from start command entry tags))
sent_all start command entry [] legal = All-nil (λ (replied : Replied). IsSent (Some replied.sent))
sent_all start command entry (tag ∷ tags) legal =
    All-append (λ (replied : Replied). IsSent (Some replied.sent)) (reply_of start (outcome_unless (is_missed start entry) command tag).answer) (replies_from (start + 1) (hearing_from (start + 1) command entry tags))
    (sent_one start (outcome_unless (is_missed start entry) command tag).answer (λ sent is. sent_unless (is_missed start entry) command tag sent legal.0 is)) (sent_all (start + 1) command entry tags legal.1)
