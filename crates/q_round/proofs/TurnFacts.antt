-- What is known where the table has a turn.
use Rattle.std.proofs.Common.{◌≡◌, ◌≢◌, ℕ, ◌+◌, ◌-◌, ◌^◌, ◌<◌, ◌≤◌, ◌==◌, ◌&&◌, Bool, true, false, refl, if◌then◌else◌, arith}
use Rattle.std.proofs.Math.Nat.{one-le-pow}
use Rattle.std.proofs.lemmas.Bool.Decides.{nat_tests}
use Rattle.command_fields.specs.declared.choices.UpDn.{UpDn}
use Rattle.command_fields.specs.declared.choices.UpDn.TheVariants.{Up, Same, Down}
use Rattle.q_round.specs.declared.frame.Frame.{Frame}
use Rattle.q_round.specs.declared.frame.Outcome.{Outcome}
use Rattle.q_round.specs.declared.frame.Outcome.TheVariants.{Silence, Whole, Refused}
use Rattle.q_round.specs.declared.rule.Rule.{Rule}
use Rattle.q_round.specs.declared.rule.Rule.TheVariants as rules
use Rattle.q_round.specs.SpecValue.{SpecValue}
use Rattle.q_round.specs.Rounds.{one_if_refused, goes_up, goes_down, Turn, query, adjust, rep, quiet, limit}
use Rattle.q_round.specs.RoundValue.{IsSoundFrame, IsCounted, IsMovable, frame_after_outcome, frame_begun_by}

-- the table, by what is known of the frame
abbrev pub turn_at : SpecValue → ℕ → Frame → Turn
turn_at spec sent frame =
    if frame.slots == 2 ^ frame.q && frame.silent then quiet else
    if sent == spec.limit then limit else
    if goes_up spec.rule frame.q frame.qfp frame.slots frame.refused then adjust Up else
    if goes_down spec.rule frame.q frame.qfp frame.slots frame.refused then adjust Down else
    if frame.slots == 2 ^ frame.q then adjust Same else rep

-- the frame, which has the last outcome, and the number of slots of the round are such that this is the turn
abbrev pub IsTurn : Turn → ℕ → ℕ → Frame → Type 0
IsTurn query most sent frame = ⊥
IsTurn (adjust updn) most sent frame = (sent ≢ most) × IsMovable updn frame.q
IsTurn rep most sent frame = (sent ≢ most) × (frame.slots ≢ 2 ^ frame.q)
IsTurn quiet most sent frame = (frame.slots ≡ 2 ^ frame.q) × (frame.silent ≡ true)
IsTurn limit most sent frame = sent ≡ most

-- what each test of the table tells
record Tells (ended full up down whole : Bool) (most sent : ℕ) (frame : Frame) : Type 0 where
  quiet_is : ended ≡ true → (frame.slots ≡ 2 ^ frame.q) × (frame.silent ≡ true)
  full_is : full ≡ true → sent ≡ most
  full_not : full ≡ false → sent ≢ most
  up_is : up ≡ true → frame.q < 15
  down_is : down ≡ true → 0 < frame.q
  whole_not : whole ≡ false → frame.slots ≢ 2 ^ frame.q

picked : (ended full up down whole : Bool) (most sent : ℕ) (frame : Frame) → Tells ended full up down whole most sent frame →
    IsTurn (if ended then quiet else if full then limit else if up then adjust Up else if down then adjust Down else if whole then adjust Same else rep) most sent frame
picked true full up down whole most sent frame t = t.quiet_is refl
picked false true up down whole most sent frame t = t.full_is refl
picked false false true down whole most sent frame t = (t.full_not refl, t.up_is refl)
picked false false false true whole most sent frame t = (t.full_not refl, t.down_is refl)
picked false false false false true most sent frame t = (t.full_not refl, tt)
picked false false false false false most sent frame t = (t.full_not refl, t.whole_not refl)

pub both : (a b : Bool) → (a && b) ≡ true → (a ≡ true) × (b ≡ true)
both true true h = (refl, refl)
both true false h = absurd (cc)
both false b h = absurd (cc)

-- no rule raises Q beyond 15, nor lowers it below 0
pub up-below : (rule : Rule) (frame : Frame) → IsCounted frame → goes_up rule frame.q frame.qfp frame.slots frame.refused ≡ true → frame.q < 15
up-below rules.Fixed frame s h = absurd (cc)
up-below (rules.Float c) frame s h = grind (arith, nat_tests)
up-below rules.Frame frame s h = grind (arith, nat_tests)

pub down-above : (rule : Rule) (frame : Frame) → goes_down rule frame.q frame.qfp frame.slots frame.refused ≡ true → 0 < frame.q
down-above rules.Fixed frame h = absurd (cc)
down-above (rules.Float c) frame h = grind (arith, nat_tests)
down-above rules.Frame frame h = grind (arith, nat_tests)

pub turn-tells : (spec : SpecValue) (sent : ℕ) (frame : Frame) → IsCounted frame → IsTurn (turn_at spec sent frame) spec.limit sent frame
turn-tells spec sent frame s =
    let up = goes_up spec.rule frame.q frame.qfp frame.slots frame.refused in
    let down = goes_down spec.rule frame.q frame.qfp frame.slots frame.refused in
    picked (frame.slots == 2 ^ frame.q && frame.silent) (sent == spec.limit) up down (frame.slots == 2 ^ frame.q) spec.limit sent frame record {
      quiet_is = λ h. let b = both (frame.slots == 2 ^ frame.q) frame.silent h in (grind (arith, nat_tests), b.1);
      full_is = λ h. grind (arith, nat_tests);
      full_not = λ h. grind (arith, nat_tests);
      up_is = up-below spec.rule frame s;
      down_is = down-above spec.rule frame;
      whole_not = λ h. grind (arith, nat_tests);
    }

-- one more outcome
counted-qfp : (rule : Rule) (outcome : Outcome) (frame : Frame) → frame.qfp ≤ 15000 → (frame_after_outcome rule outcome frame).qfp ≤ 15000
counted-qfp rules.Fixed outcome frame h = h
counted-qfp (rules.Float c) Silence frame h = omega (arith, h)
counted-qfp (rules.Float c) Whole frame h = h
counted-qfp (rules.Float c) Refused frame h = omega (arith, h)
counted-qfp rules.Frame outcome frame h = h

counted-refused : (outcome : Outcome) (refused slots : ℕ) → refused ≤ slots → refused + one_if_refused outcome ≤ slots + 1
counted-refused Silence refused slots h = omega (arith, h)
counted-refused Whole refused slots h = omega (arith, h)
counted-refused Refused refused slots h = omega (arith, h)

pub counted-frame : (rule : Rule) (outcome : Outcome) (frame : Frame) → IsSoundFrame frame → IsCounted (frame_after_outcome rule outcome frame)
counted-frame rule outcome frame s = record {
  q = s.q;
  qfp = counted-qfp rule outcome frame s.qfp;
  slots = omega arith;
  refused = counted-refused outcome frame.refused frame.slots s.refused;
}

pub some-slots : (q : ℕ) → 0 < 2 ^ q
some-slots q = omega (arith, one-le-pow q 2 (omega arith))

-- the frame of what comes next is sound, where the round goes on
pub begun-sound : (updn : UpDn) (frame : Frame) → IsCounted frame → IsMovable updn frame.q → IsSoundFrame (frame_begun_by updn frame)
begun-sound Up frame s h = record { q = omega arith; qfp = s.qfp; slots = some-slots (frame.q + 1); refused = omega arith }
begun-sound Same frame s h = record { q = s.q; qfp = s.qfp; slots = some-slots frame.q; refused = omega arith }
begun-sound Down frame s h = record { q = omega arith; qfp = s.qfp; slots = some-slots (frame.q - 1); refused = omega arith }

pub rep-sound : (frame : Frame) → IsCounted frame → frame.slots ≢ 2 ^ frame.q → IsSoundFrame frame
rep-sound frame s other = record { q = s.q; qfp = s.qfp; slots = omega arith; refused = s.refused }
