-- What a round that keeps no outcomes does is what the table says of the outcomes.
use Rattle.std.proofs.Common.{◌≡◌, ◌≢◌, ℕ, ◌+◌, ◌^◌, ◌==◌, ◌&&◌, Bool, true, false, List, ◌∷◌, length, Option, Some, None, refl, ap, sym, ◌∙◌, subst, add-one, add-zero, eq-eqb, if◌then◌else◌}
use Rattle.std.proofs.lemmas.Bool.{ne_eqb}
use Rattle.command_fields.specs.declared.choices.UpDn.{UpDn}
use Rattle.command_fields.specs.declared.choices.UpDn.TheVariants.{Up, Same, Down}
use Rattle.command_grammar.specs.declared.commands.Command.TheVariants.{QueryAdjust, QueryRep}
use Rattle.q_round.specs.declared.frame.Frame.{Frame}
use Rattle.q_round.specs.declared.frame.Outcome.{Outcome}
use Rattle.q_round.specs.declared.round.Next.TheVariants.{Send, Limit}
use Rattle.q_round.specs.declared.round.Stage.TheVariants as stages
use Rattle.q_round.specs.declared.rule.Rule.{Rule}
use Rattle.q_round.specs.SpecValue.{SpecValue}
use Rattle.q_round.specs.Rounds.{goes_up, goes_down, Turn, adjust, rep, limit, turn_of, frame_of, is_over, slots_of}
use Rattle.q_round.proofs.SlotLaws.{slots-underway}
use Rattle.q_round.proofs.TurnFacts.{turn_at}
use Rattle.q_round.specs.RoundValue.{RoundValue, frame_after_outcome, change_of, frame_begun_by, IsFrameOf, IsStageOf, RoundStandsFor, IsNextAnswer}

-- the line of the table behind one more outcome, by what the frame knows
pub turn-is : (spec : SpecValue) (outcomes : List Outcome) (outcome : Outcome) (frame : Frame) → IsFrameOf frame spec outcomes →
    turn_of spec (outcome ∷ outcomes) ≡ turn_at spec (length outcomes + 1) (frame_after_outcome spec.rule outcome frame)
turn-is spec outcomes outcome frame s = rw (s.q, s.qfp, s.slots, s.refused, s.silent, add-one (length (frame_of spec outcomes)))

-- its second line
pub turn-limit : (spec : SpecValue) (sent : ℕ) (frame : Frame) → (frame.slots == 2 ^ frame.q && frame.silent) ≡ false → sent ≡ spec.limit → turn_at spec sent frame ≡ limit
turn-limit spec sent frame h e = rw (h, eq-eqb sent spec.limit e)

-- what follows where the round goes on
abbrev pub turn_for : Option UpDn → Turn
turn_for None = rep
turn_for (Some updn) = adjust updn

turn-for : (up down whole : Bool) → (if up then adjust Up else if down then adjust Down else if whole then adjust Same else rep)
    ≡ turn_for (if up then Some Up else if down then Some Down else if whole then Some Same else None)
turn-for true down whole = refl
turn-for false true whole = refl
turn-for false false true = refl
turn-for false false false = refl

-- the lines below them
pub turn-on : (spec : SpecValue) (sent : ℕ) (frame : Frame) → (frame.slots == 2 ^ frame.q && frame.silent) ≡ false → sent ≢ spec.limit →
    turn_at spec sent frame ≡ turn_for (change_of spec.rule frame)
turn-on spec sent frame h other = rw (h, ne_eqb sent spec.limit other)
    (turn-for (goes_up spec.rule frame.q frame.qfp frame.slots frame.refused) (goes_down spec.rule frame.q frame.qfp frame.slots frame.refused) (frame.slots == 2 ^ frame.q))

-- the frame that a QueryAdjust begins
pub frame-begun : (spec : SpecValue) (outcomes : List Outcome) (outcome : Outcome) (frame : Frame) (updn : UpDn) → IsFrameOf frame spec outcomes →
    turn_of spec (outcome ∷ outcomes) ≡ adjust updn → IsFrameOf (frame_begun_by updn (frame_after_outcome spec.rule outcome frame)) spec (outcome ∷ outcomes)
frame-begun spec outcomes outcome frame updn s t = record {
  goes_on = rw t;
  q = rw (t, s.q);
  qfp = rw s.qfp;
  slots = rw t;
  refused = rw t;
  silent = rw t;
}

-- the frame that goes on
pub frame-goes_on : (spec : SpecValue) (outcomes : List Outcome) (outcome : Outcome) (frame : Frame) → IsFrameOf frame spec outcomes →
    turn_of spec (outcome ∷ outcomes) ≡ rep → IsFrameOf (frame_after_outcome spec.rule outcome frame) spec (outcome ∷ outcomes)
frame-goes_on spec outcomes outcome frame s t = record {
  goes_on = rw t;
  q = rw (t, s.q);
  qfp = rw s.qfp;
  slots = rw (t, s.slots) (add-one (length (frame_of spec outcomes)));
  refused = rw (t, s.refused);
  silent = rw (t, s.silent);
}

-- a round under way knows its frame, and counts its slots
pub underway : (round : RoundValue) (spec : SpecValue) (outcomes : List Outcome) (frame : Frame) → RoundStandsFor round spec outcomes →
    round.stage ≡ stages.Underway frame → IsFrameOf frame spec outcomes
underway round spec outcomes frame s is = subst (λ stage. IsStageOf stage spec outcomes) is s.stage

-- A round under way was given one more outcome, by which `next` is its frame; the frame doesn't end it, as a whole one of silent slots would.
pub record Counts (round : RoundValue) (spec : SpecValue) (outcomes : List Outcome) (outcome : Outcome) (next : Frame) : Type 0 where
  pub frame : Frame
  pub rule : Rule
  pub stands : RoundStandsFor round spec outcomes
  pub on : is_over spec outcomes ≡ false
  pub underway_is : round.stage ≡ stages.Underway frame
  pub rule_is : rule ≡ round.spec.rule
  pub next_is : next ≡ frame_after_outcome rule outcome frame
  pub not_quiet : (next.slots == 2 ^ next.q && next.silent) ≡ false

module _ (round : RoundValue) (spec : SpecValue) (outcomes : List Outcome) (outcome : Outcome) (next : Frame) (counts : Counts round spec outcomes outcome next) where
  -- its rule is that of the parameters
  rule-of : counts.rule ≡ spec.rule
  rule-of = counts.rule_is ∙ ap (λ p. p.rule) counts.stands.spec_is

  -- the frame before the outcome
  frame-before : IsFrameOf counts.frame spec outcomes
  frame-before = underway round spec outcomes counts.frame counts.stands counts.underway_is

  -- the frame behind it, by the rule of the parameters
  next-is : next ≡ frame_after_outcome spec.rule outcome counts.frame
  next-is = counts.next_is ∙ ap (λ rule. frame_after_outcome rule outcome counts.frame) rule-of

  -- the line of the table, by what the round knows
  turn-counted : turn_of spec (outcome ∷ outcomes) ≡ turn_at spec round.slots_sent next
  turn-counted =
      let sent : length outcomes + 1 ≡ round.slots_sent = sym (slots-underway spec outcomes counts.stands.outcomes_are counts.on) ∙ sym counts.stands.sent in
      turn-is spec outcomes outcome counts.frame frame-before
      ∙ ap (λ n. turn_at spec n (frame_after_outcome spec.rule outcome counts.frame)) sent ∙ ap (turn_at spec round.slots_sent) (sym next-is)

  -- the round ends at its limit
  pub stands-limit : round.slots_sent ≡ round.spec.limit →
      IsNextAnswer Limit (record { spec = round.spec; stage = stages.Limit; slots_sent = round.slots_sent }) spec (outcome ∷ outcomes)
  stands-limit full =
      let s = counts.stands in
      let t : turn_of spec (outcome ∷ outcomes) ≡ limit = turn-counted ∙ turn-limit spec round.slots_sent next counts.not_quiet (full ∙ ap (λ p. p.limit) s.spec_is) in
      record {
        stands = record {
          spec_is = s.spec_is;
          outcomes_are = (counts.on, s.outcomes_are);
          stage = t;
          sent = rw (t, add-zero (slots_of spec outcomes)) s.sent;
        };
        next = λ link. rw t;
        over = rw t;
      }

  -- what follows where the round goes on
  goes-on : round.slots_sent ≢ round.spec.limit → turn_of spec (outcome ∷ outcomes) ≡ turn_for (change_of counts.rule next)
  goes-on other =
      let other' : round.slots_sent ≢ spec.limit = λ e. other (e ∙ sym (ap (λ p. p.limit) counts.stands.spec_is)) in
      turn-counted ∙ turn-on spec round.slots_sent next counts.not_quiet other' ∙ ap (λ rule. turn_for (change_of rule next)) (sym rule-of)

  -- it adjusts Q
  pub stands-adjust : (updn : UpDn) → round.slots_sent ≢ round.spec.limit → change_of counts.rule next ≡ Some updn →
      IsNextAnswer (Send (QueryAdjust round.spec.session updn)) (record { spec = round.spec; stage = stages.Underway (frame_begun_by updn next); slots_sent = round.slots_sent + 1 }) spec (outcome ∷ outcomes)
  stands-adjust updn other due =
      let s = counts.stands in
      let t : turn_of spec (outcome ∷ outcomes) ≡ adjust updn = goes-on other ∙ ap turn_for due in
      record {
        stands = record {
          spec_is = s.spec_is;
          outcomes_are = (counts.on, s.outcomes_are);
          stage = rw next-is (frame-begun spec outcomes outcome counts.frame updn frame-before t);
          sent = rw (t, s.sent);
        };
        next = λ link. rw (t, s.spec_is);
        over = rw t;
      }

  -- or it goes on in the same frame
  pub stands-rep : round.slots_sent ≢ round.spec.limit → change_of counts.rule next ≡ None →
      IsNextAnswer (Send (QueryRep round.spec.session)) (record { spec = round.spec; stage = stages.Underway next; slots_sent = round.slots_sent + 1 }) spec (outcome ∷ outcomes)
  stands-rep other due =
      let s = counts.stands in
      let t : turn_of spec (outcome ∷ outcomes) ≡ rep = goes-on other ∙ ap turn_for due in
      record {
        stands = record {
          spec_is = s.spec_is;
          outcomes_are = (counts.on, s.outcomes_are);
          stage = rw next-is (frame-goes_on spec outcomes outcome counts.frame frame-before t);
          sent = rw (t, s.sent);
        };
        next = λ link. rw (t, s.spec_is);
        over = rw t;
      }
