-- One tag after another hears a command, in the order of their numbers.
use Rattle.std.proofs.Common.{◌≡◌, ◌≢◌, ℕ, zero, suc, ◌+◌, ◌<◌, ◌≤◌, inl, inr, Bool, false, List, [], ◌∷◌, ◌++◌, length, drop, Option, Some, None, get_or, set, refl, sym, ap, ◌∙◌, subst, arith, append_assoc, append-nil, add-one, drop-cons, length-append}
use Rattle.std.proofs.Math.ListN.{get_or-map}
use Rattle.std.proofs.lemmas.Bool.Decides.{eqb_tells}
use Rattle.std.proofs.lemmas.List.{get_or-set_same, get_or-set_other, set-get_or, length-set, drop_all, ext_get_or, length-map, map-append}
use Rattle.air_events.specs.declared.Entry.{Entry}
use Rattle.command_grammar.specs.declared.commands.Command.{Command}
use Rattle.tag_machine.specs.Answers.{Outcome, Sent, silent}
use Rattle.tag_machine.specs.TagsInExchange.{is_missed, tags_after, reply_of, replies_from}
use Rattle.tag_machine.specs.TagValue.{TagValue}
use Rattle.tag_population.proofs.SeatedTags.{participation_of_tag}
use Rattle.tag_population.specs.Answers.{AnswersValue, AnswerValue, answer_of, answers_of}
use Rattle.tag_population.specs.Floor.{floor_with, is_reached, participation_in, participations_of, no_tag, FloorValue}
use Rattle.tag_population.specs.Hearing.{HasHeard, IsReady, outcome_reached, reach_of, reach_steps, reached_from, steps_to_hear}
use Rattle.tag_population.specs.Participation.{participation_at}
use Rattle.tag_population.specs.declared.participation.Participation.{Participation}

-- a command that is sent to tags, which take this many steps before it
pub record Sending : Type 0 where
  pub command : Command
  pub entry : Entry
  pub before : FloorValue
  pub old : AnswersValue
  pub start : ℕ

-- what comes of it for the tag of a number, and for all
abbrev pub came : Sending → ℕ → Outcome
came s number = outcome_reached (is_reached (reach_of s.command) (participation_at s.before.parts number)) (is_missed number s.entry) s.command (get_or s.before.tags number no_tag)

abbrev pub outcomes : Sending → List Outcome
outcomes s = reached_from 0 s.command s.entry s.before.parts s.before.tags

-- the tags below a number heard it, and these are their answers
pub record HeardBelow (s : Sending) (number : ℕ) (now : FloorValue) (answers : AnswersValue) (steps : ℕ) : Type 0 where
  pub inside : number ≤ length s.before.tags
  pub whole : length now.tags ≡ length s.before.tags
  pub parts_whole : length now.parts ≡ length s.before.tags
  pub heard : (other : ℕ) → other < number → (get_or now.tags other no_tag ≡ (came s other).tag) × (participation_at now.parts other ≡ participation_in (came s other).tag.state)
  pub left : (other : ℕ) → number ≤ other → (get_or now.tags other no_tag ≡ get_or s.before.tags other no_tag) × (participation_at now.parts other ≡ participation_at s.before.parts other)
  pub answers_are : answers.items ++ answers_of (replies_from number (drop number (outcomes s))) ≡ answers_of (replies_from 0 (outcomes s))
  pub few : length answers.items ≤ number
  pub room : answers.tags ≡ s.old.tags
  pub counted : steps + reach_steps (reach_of s.command) (drop number s.before.parts) ≤ s.start + reach_steps (reach_of s.command) s.before.parts

-- the tag of a number hears it
pub record HearsNext (s : Sending) (number : ℕ) (now after : FloorValue) (answers more : AnswersValue) (steps stepped : ℕ) : Type 0 where
  pub within : number < length s.before.tags
  pub floor_is : after ≡ floor_with now number (came s number).tag
  pub items : more.items ≡ answers.items ++ answers_of (reply_of number (came s number).answer)
  pub room : more.tags ≡ answers.tags
  pub counts : stepped ≤ steps + steps_to_hear (reach_of s.command) (participation_at s.before.parts number)

abbrev no_outcome : Outcome
no_outcome = silent no_tag.state no_tag.body

length-reached : (start : ℕ) (command : Command) (entry : Entry) (parts : List (Option Participation)) (tags : List TagValue) → length parts ≡ length tags
    → length (reached_from start command entry parts tags) ≡ length tags
length-reached start command entry [] [] same = refl
length-reached start command entry (part ∷ parts) (tag ∷ tags) same = ap (λ n. suc n) (length-reached (start + 1) command entry parts tags (omega (arith, same)))
length-reached start command entry parts tags same = absurd (omega (arith, same))

came_at : (start number at : ℕ) (command : Command) (entry : Entry) (parts : List (Option Participation)) (tags : List TagValue) → length parts ≡ length tags → number < length tags → at ≡ start + number
    → get_or (reached_from start command entry parts tags) number no_outcome ≡ outcome_reached (is_reached (reach_of command) (participation_at parts number)) (is_missed at entry) command (get_or tags number no_tag)
came_at start zero at command entry (part ∷ parts) (tag ∷ tags) same within is =
    let here : at ≡ start = omega (arith, is) in
    rw here refl
came_at start (suc number) at command entry (part ∷ parts) (tag ∷ tags) same within is =
    came_at (start + 1) number at command entry parts tags (omega (arith, same)) (omega (arith, within)) (omega (arith, is))
came_at start number at command entry parts tags same within is = absurd (omega (arith, same, within))

one_answer : (number : ℕ) (answer : Option Sent) → length (answers_of (reply_of number answer)) ≤ 1
one_answer number None = omega arith
one_answer number (Some sent) = omega arith

module _ (s : Sending) (ready : IsReady (reach_of s.command) s.before) where
  pub heard_none : s.old.items ≡ [] → HeardBelow s 0 s.before s.old s.start
  heard_none none = record {
    inside = omega arith;
    whole = refl;
    parts_whole = ready.whole;
    heard = λ other below. absurd (omega (arith, below));
    left = λ other past. (refl, refl);
    answers_are = ap (λ (l : List AnswerValue). l ++ answers_of (replies_from 0 (outcomes s))) none;
    few = rw none (omega arith);
    room = refl;
    counted = omega arith;
  }

  one_further : (number : ℕ) → number < length s.before.tags → drop number (outcomes s) ≡ came s number ∷ drop (number + 1) (outcomes s)
  one_further number within =
      let long : length (outcomes s) ≡ length s.before.tags = length-reached 0 s.command s.entry s.before.parts s.before.tags ready.whole in
      let this = came_at 0 number number s.command s.entry s.before.parts s.before.tags ready.whole within (omega arith) in
      rw (drop-cons (outcomes s) number no_outcome (rw long within), add-one number, this) refl

  pub heard_next : (number : ℕ) (now after : FloorValue) (answers more : AnswersValue) (steps stepped : ℕ) → HeardBelow s number now answers steps → HearsNext s number now after answers more steps stepped
      → HeardBelow s (number + 1) after more stepped
  heard_next number now after answers more steps stepped so_far next =
      let tag : TagValue = (came s number).tag in
      let tags : after.tags ≡ set now.tags number tag = ap (λ (f : FloorValue). f.tags) next.floor_is in
      let parts : after.parts ≡ set now.parts number (participation_in tag.state) = ap (λ (f : FloorValue). f.parts) next.floor_is in
      let others : (other : ℕ) → other ≢ number → (get_or after.tags other no_tag ≡ get_or now.tags other no_tag) × (participation_at after.parts other ≡ participation_at now.parts other) =
      λ other apart. rw (tags, parts) (get_or-set_other now.tags number other tag no_tag apart, get_or-set_other now.parts number other (participation_in tag.state) None apart) in
      let replied = reply_of number (came s number).answer in
      let rest = replies_from (number + 1) (drop (number + 1) (outcomes s)) in
      let fewer : reach_steps (reach_of s.command) (drop number s.before.parts) ≡ steps_to_hear (reach_of s.command) (participation_at s.before.parts number) + reach_steps (reach_of s.command) (drop (number + 1) s.before.parts) =
      rw (drop-cons s.before.parts number None (rw ready.whole next.within), add-one number) refl in
      record {
        inside = omega (arith, next.within);
        whole = rw (tags, length-set now.tags number tag) so_far.whole;
        parts_whole = rw (parts, length-set now.parts number (participation_in tag.state)) so_far.parts_whole;
        heard = λ other below.
            elim (eqb_tells other number) [
              | inl one ↦
                  rw (one.1, tags, parts)
                  (get_or-set_same now.tags number tag no_tag (rw so_far.whole next.within), get_or-set_same now.parts number (participation_in tag.state) None (rw so_far.parts_whole next.within))
              | inr apart ↦ rw ((others other apart.1).0, (others other apart.1).1) (so_far.heard other (omega (arith, below, apart.1)))
            ];
        left = λ other past.
            let apart = others other (λ same. omega (arith, same, past)) in
            rw (apart.0, apart.1) (so_far.left other (omega (arith, past)));
        answers_are =
            rw (next.items, append_assoc answers.items (answers_of replied) (answers_of rest), ← map-append answer_of replied rest)
            (ap (λ (l : List Outcome). answers.items ++ answers_of (replies_from number l)) (sym (one_further number next.within)) ∙ so_far.answers_are);
        few = rw next.items (omega (arith, so_far.few, length-append answers.items (answers_of replied), one_answer number (came s number).answer));
        room = next.room ∙ so_far.room;
        counted = omega (arith, so_far.counted, fewer, next.counts);
      }

  -- a tag that isn't reached stays as it is, and sends nothing
  heard_past : (number : ℕ) (now : FloorValue) (answers : AnswersValue) (steps : ℕ) → HeardBelow s number now answers steps → number < length s.before.tags
      → is_reached (reach_of s.command) (participation_at s.before.parts number) ≡ false → HeardBelow s (number + 1) now answers steps
  heard_past number now answers steps so_far within unreached =
      let here = so_far.left number (omega arith) in
      let is : came s number ≡ silent (get_or s.before.tags number no_tag).state (get_or s.before.tags number no_tag).body =
      ap (λ (b : Bool). outcome_reached b (is_missed number s.entry) s.command (get_or s.before.tags number no_tag)) unreached in
      heard_next number now now answers answers steps steps so_far (record {
        within = within;
        floor_is =
            rw (is, ← ready.settled number within unreached, ← here.0, ← here.1, set-get_or now.tags number no_tag, set-get_or now.parts number None) refl;
        items = rw is (sym (append-nil answers.items));
        room = refl;
        counts = omega arith;
      })

  -- ... nor do those up to a number
  pub heard_to : (more from to : ℕ) (now : FloorValue) (answers : AnswersValue) (steps : ℕ) → HeardBelow s from now answers steps → from + more ≡ to → to ≤ length s.before.tags
      → ((number : ℕ) → from ≤ number → number < to → is_reached (reach_of s.command) (participation_at now.parts number) ≡ false) → HeardBelow s to now answers steps
  heard_to zero from to now answers steps so_far is within unreached =
      let here : from ≡ to = omega (arith, is) in
      subst (λ n. HeardBelow s n now answers steps) here so_far
  heard_to (suc more) from to now answers steps so_far is within unreached =
      let first : is_reached (reach_of s.command) (participation_at s.before.parts from) ≡ false =
      ap (λ (p : Option Participation). is_reached (reach_of s.command) p) (sym (so_far.left from (omega arith)).1) ∙ unreached from (omega arith) (omega (arith, is)) in
      heard_to more (from + 1) to now answers steps (heard_past from now answers steps so_far (omega (arith, is, within)) first) (omega (arith, is)) within
      (λ number least most. unreached number (omega (arith, least)) most)

  -- all tags heard it
  pub heard_all : (now : FloorValue) (answers : AnswersValue) (steps : ℕ) → HeardBelow s (length s.before.tags) now answers steps → HasHeard (outcomes s) now s.old answers
  heard_all now answers steps so_far =
      let long : length (outcomes s) ≡ length s.before.tags = length-reached 0 s.command s.entry s.before.parts s.before.tags ready.whole in
      let kept : answers.items ≡ answers_of (replies_from 0 (outcomes s)) =
      sym (append-nil answers.items)
      ∙ ap (λ (l : List Outcome). answers.items ++ answers_of (replies_from (length s.before.tags) l)) (sym (drop_all (length s.before.tags) (outcomes s) (omega (arith, long))))
      ∙ so_far.answers_are in
      record {
        tags =
            ext_get_or no_tag now.tags (tags_after (outcomes s)) (so_far.whole ∙ sym long ∙ sym (length-map (outcomes s) (λ (o : Outcome). o.tag)))
            (λ other below.
            let within : other < length s.before.tags = rw (← so_far.whole) below in
            (so_far.heard other within).0
            ∙ ap (λ (o : Outcome). o.tag) (sym (came_at 0 other other s.command s.entry s.before.parts s.before.tags ready.whole within (omega arith)))
            ∙ sym (get_or-map (λ (o : Outcome). o.tag) (outcomes s) other no_outcome));
        settled =
            ext_get_or None now.parts (participations_of now.tags) (so_far.parts_whole ∙ sym (length-map now.tags (λ (t : TagValue). participation_in t.state) ∙ so_far.whole))
            (λ other below.
            let was = so_far.heard other (rw (← so_far.parts_whole) below) in
            was.1 ∙ ap (λ (t : TagValue). participation_in t.state) (sym was.0) ∙ sym (participation_of_tag now.tags other));
        answers = rw (← kept, ← so_far.room) refl;
      }
