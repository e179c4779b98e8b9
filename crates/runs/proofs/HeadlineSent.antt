-- Each list line is what a present tag sent, where no raw stream is given: from what the channel gave to a reply, and from the
-- reply to the tag with its number.
use Rattle.runs.proofs.Names.{◌≡◌, ℕ, zero, suc, ◌+◌, Bool, true, false, inl, inr, List, [], ◌∷◌, Contains, Option, Some, None, slice_get, if◌then◌else◌, refl, ap, sym, ◌∙◌, subst, arith, replies_in}
use Rattle.runs.proofs.Names.{Replied, is_missed, outcome_unless, tag_after_events, given_in, Given, whole, broken, raw, whole_or_silence, first_broken, default_given, given_of, IsOfReplies, Start}
use Rattle.runs.proofs.Names.{Record, Item, tag_behind, tags_behind, next_entry, next_record, hearers_of, is_expected, reception_of, whole_reply, no_such_reply, Choice, Entry, Several, AreLegalSteps}
use Rattle.runs.proofs.Names.{Acknowledges, tag_in_exchange, IsFromTag, IsGivenWhole, IsSentByATag, HasNoRawStream, history_of, Listed, Command, LinkValue, Reply, Step, Sent, step, TagValue}
use Rattle.runs.proofs.Names.{StateValue, BodyValue, KilledState, UnpoweredState, is_present}
use Rattle.air_events.specs.declared.Choice.TheVariants as choices
use Rattle.air_events.specs.declared.Several.TheVariants as severals
use Rattle.command_grammar.specs.declared.commands.Command.TheVariants as commands
use Rattle.reply_grammar.specs.declared.expected.Expect.TheVariants as expects
use Rattle.reply_grammar.specs.declared.expected.Reply.TheVariants as replies
use Rattle.runs.proofs.Growth.{RoundsKeepLimit}
use Rattle.runs.proofs.Among.{Among, contains-of}
use Rattle.runs.proofs.HeadlineListed.{IsTold}
use Rattle.runs.proofs.HeadlineTold.{told-ack}
use Rattle.runs.proofs.MadeRecords.{made-record, none-given}
use Rattle.runs.proofs.Population.{answerer}

among-get : {A : Type 0} (list : List A) (place : ℕ) (item : A) → slice_get list place ≡ Some item → Among item list
among-get [] place item is = absurd (cc)
among-get (first ∷ others) zero item is = inl (cc)
among-get (first ∷ others) (suc place) item is = inr (among-get others place item is)

picked : (replies : List Replied) (found : Option Replied) (number : ℕ) (replied : Replied) → slice_get replies number ≡ found
    → whole_or_silence found ≡ whole replied → Among replied replies
picked replies None number replied is given = absurd (cc)
picked replies (Some other) number replied is given = among-get replies number replied (is ∙ ap (λ (r : Replied). Some r) (cc))

by-default : (several : Several) (replies : List Replied) (replied : Replied) → default_given several replies ≡ whole replied → Among replied replies
by-default several [] replied given = absurd (cc)
by-default several (one ∷ []) replied given = inl (cc)
by-default severals.Break (one ∷ other ∷ others) replied given = absurd (cc)
by-default severals.Capture (one ∷ other ∷ others) replied given = inl (cc)

first-broken : (replies : List Replied) (place : ℕ) (replied : Replied) → first_broken replies place ≡ whole replied → Among replied replies
first-broken [] place replied given = absurd (cc)
first-broken (one ∷ others) place replied given = absurd (cc)

-- what the channel gives whole is one of the replies
given-among : (link : LinkValue) (replies : List Replied) (choice : Option Choice) (several : Several) (replied : Replied) → given_of link replies choice several ≡ whole replied
    → Among replied replies
given-among link replies (Some (choices.Pick number)) several replied given = picked replies (slice_get replies number) number replied refl given
given-among link replies (Some (choices.Break place)) several replied given = first-broken replies place replied given
given-among link replies None several replied given = by-default several replies replied given
given-among link replies choice several replied given = absurd (cc)

-- what a tag becomes by a command that it didn't miss
record Hears (missed : Bool) (command : Command) (tag : TagValue) (sent : Sent) : Type 0 where
  pub not_missed : missed ≡ false
  pub answered : (step command tag.state tag.body).answer ≡ Some sent

hears : (missed : Bool) (command : Command) (tag : TagValue) (sent : Sent) → (outcome_unless missed command tag).answer ≡ Some sent → Hears missed command tag sent
hears true command tag sent answered = absurd (cc)
hears false command tag sent answered = record { not_missed = refl; answered = answered }

-- who answers an ACK is present
answers-present : (rn : ℕ) (state : StateValue) (body : BodyValue) (sent : Sent) → (step (commands.Ack rn) state body).answer ≡ Some sent → is_present state ≡ true
answers-present rn KilledState body sent answered = absurd (cc)
answers-present rn UnpoweredState body sent answered = absurd (cc)
answers-present rn state body sent answered = refl

-- what a record of an ACK gives whole is from a tag
pub from-tag : (start : Start) (sent : Record) (earlier : List Item) (rn : ℕ) (replied : Replied) → sent ≡ next_record start sent.round sent.slot sent.command earlier
    → Acknowledges sent rn → sent.given ≡ whole replied → IsFromTag start sent earlier replied
from-tag start sent earlier rn replied made acknowledges given =
    let entry : Entry = next_entry start earlier in
    let entry_is : sent.entry ≡ entry = ap (λ (r : Record). r.entry) made in
    let replies_are : sent.replies ≡ replies_in sent.command entry (tags_behind start earlier) = ap (λ (r : Record). r.replies) made in
    let hearers_are : sent.hearers ≡ hearers_of 0 entry (tags_behind start earlier) = ap (λ (r : Record). r.hearers) made in
    let given_is : given_in start.link start.several sent.command entry (tags_behind start earlier) ≡ whole replied = sym (ap (λ (r : Record). r.given) made) ∙ given in
    let among : Among replied (replies_in sent.command entry (tags_behind start earlier)) =
    given-among start.link (replies_in sent.command entry (tags_behind start earlier)) entry.choice start.several replied given_is in
    let by = answerer 0 sent.command entry earlier start.tags replied among in
    let tag = tag_after_events replied.number entry.events (tag_behind replied.number by.tag earlier) in
    let heard : Hears (is_missed replied.number entry) sent.command tag replied.sent = hears (is_missed replied.number entry) sent.command tag replied.sent by.answered in
    let present : is_present tag.state ≡ true =
    answers-present rn tag.state tag.body replied.sent (subst (λ (c : Command). (step c tag.state tag.body).answer ≡ Some replied.sent) acknowledges heard.answered) in
    let tag_same : tag_in_exchange sent earlier replied.number by.tag ≡ tag =
    ap (λ (e : Entry). tag_after_events replied.number e.events (tag_behind replied.number by.tag earlier)) entry_is in
    record {
      tag = by.tag;
      numbered = subst (λ place. slice_get start.tags place ≡ Some by.tag) (sym (by.number_is ∙ omega arith)) by.numbered;
      present = subst (λ (t : TagValue). is_present t.state ≡ true) (sym tag_same) present;
      heard = subst (λ (hearers : List ℕ). Contains hearers replied.number) (sym hearers_are)
          (contains-of replied.number (hearers_of 0 entry (tags_behind start earlier)) (by.heard (rw heard.not_missed present)));
      answered = subst (λ (t : TagValue). (step sent.command t.state t.body).answer ≡ Some replied.sent) (sym tag_same) heard.answered;
      recorded = subst (λ (replies : List Replied). Contains replies replied) (sym replies_are)
          (contains-of replied (replies_in sent.command entry (tags_behind start earlier)) among);
    }

-- a reply that came whole is the one that was sent
pub whole-reply : (expected : Bool) (sent reply : Reply) → (if expected then whole_reply sent else no_such_reply) ≡ whole_reply reply → sent ≡ reply
whole-reply true sent reply heard = cc
whole-reply false sent reply heard = absurd (cc)

-- an EPC that came whole, and not as a raw stream, was given whole
given-whole : (given : Given) (pc : ℕ) (epc : List ℕ) → IsOfReplies given → reception_of expects.Epc given ≡ whole_reply (replies.Epc pc epc)
    → (replied : Replied) × IsGivenWhole given pc epc replied
given-whole (whole replied) pc epc of heard =
    (replied, record { unbroken = refl; reply = whole-reply (is_expected expects.Epc replied.sent) replied.sent.reply (replies.Epc pc epc) heard })
given-whole (raw code trext levels) pc epc of heard = absurd of
given-whole given pc epc of heard = absurd (cc)

-- a list line is that of one record, which has what a tag sent, where no raw stream is given
pub sent-by-a-tag : RoundsKeepLimit → (start : Start) (steps : List Step) (listed : Listed) → AreLegalSteps steps → HasNoRawStream start.entries
    → IsTold (history_of start steps) listed → IsSentByATag start (history_of start steps) listed.round listed.slot listed.pc listed.epc
sent-by-a-tag keeps start steps listed legal none found =
    let made = made-record start steps found.sent found.earlier found.recorded in
    let (replied, given) = given-whole found.sent.given listed.pc listed.epc (none-given start found.sent found.earlier none made) found.tells.heard in
    record {
      sent = found.sent;
      earlier = found.earlier;
      ack = told-ack keeps start steps listed legal found;
      replied = replied;
      given = given;
      from_tag = from-tag start found.sent found.earlier found.tells.rn replied made found.tells.acknowledges given.unbroken;
    }
