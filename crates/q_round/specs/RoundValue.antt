-- What a round that keeps no outcomes knows of them (profile).
use Rattle.std.specs.Prelude.{◌≡◌, ℕ, ◌+◌, ◌^◌, ◌<◌, ◌≤◌, ◌==◌, ◌&&◌, true, false, List, length, Option, Some, None, if◌then◌else◌}
use Rattle.command_fields.specs.declared.choices.UpDn.{UpDn}
use Rattle.command_fields.specs.declared.choices.UpDn.TheVariants.{Up, Same, Down}
use Rattle.q_round.specs.declared.frame.Frame.{Frame}
use Rattle.q_round.specs.declared.frame.Outcome.{Outcome}
use Rattle.pie_line.specs.Link.{LinkValue}
use Rattle.q_round.specs.declared.round.Next.{Next}
use Rattle.q_round.specs.declared.round.Next.TheVariants as nexts
use Rattle.q_round.specs.declared.round.Stage.{Stage}
use Rattle.q_round.specs.declared.round.Stage.TheVariants.{Underway, Quiet, Limit}
use Rattle.q_round.specs.declared.rule.Rule.{Rule}
use Rattle.q_round.specs.SpecValue.{SpecValue}
use Rattle.q_round.specs.Rounds.{qfp_after, qfp_of, is_silent, all_silent, one_if_refused, refused_in, goes_up, goes_down, q_moved_by, quiet, limit, turn_of, q_of, frame_of, is_over, is_end, AreOutcomes, slots_of, next_command}

-- what a contract sees of a round
pub record RoundValue : Type 0 where
  pub spec : SpecValue
  pub stage : Stage
  pub slots_sent : ℕ

-- before the outcome of a slot: the frame has a slot left
pub record IsSoundFrame (frame : Frame) : Type 0 where
  pub q : frame.q ≤ 15
  pub qfp : frame.qfp ≤ 15000
  pub slots : frame.slots < 2 ^ frame.q
  pub refused : frame.refused ≤ frame.slots

-- behind the outcome of a slot: the frame may have no slot left
pub record IsCounted (frame : Frame) : Type 0 where
  pub q : frame.q ≤ 15
  pub qfp : frame.qfp ≤ 15000
  pub slots : frame.slots ≤ 2 ^ frame.q
  pub refused : frame.refused ≤ frame.slots

-- the frame with one slot more, which had this outcome
abbrev pub frame_after_outcome : Rule → Outcome → Frame → Frame
frame_after_outcome rule outcome frame = record {
  q = frame.q;
  qfp = qfp_after rule outcome frame.qfp;
  slots = frame.slots + 1;
  refused = frame.refused + one_if_refused outcome;
  silent = is_silent outcome && frame.silent;
}

-- how Q changes behind a slot that doesn't end the round; none where the frame goes on
abbrev pub change_of : Rule → Frame → Option UpDn
change_of rule frame =
    if goes_up rule frame.q frame.qfp frame.slots frame.refused then Some Up else
    if goes_down rule frame.q frame.qfp frame.slots frame.refused then Some Down else
    if frame.slots == 2 ^ frame.q then Some Same else None

-- Q stays from 0 to 15
abbrev pub IsMovable : UpDn → ℕ → Type 0
IsMovable Up q = q < 15
IsMovable Same q = Unit {0}
IsMovable Down q = 0 < q

-- the frame that a QueryAdjust begins, which keeps Qfp
abbrev pub frame_begun_by : UpDn → Frame → Frame
frame_begun_by updn frame = record { q = q_moved_by updn frame.q; qfp = frame.qfp; slots = 0; refused = 0; silent = true }

-- a frame that is under way is sound
abbrev pub IsSoundStage : Stage → Type 0
IsSoundStage (Underway frame) = IsSoundFrame frame
IsSoundStage Quiet = Unit {0}
IsSoundStage Limit = Unit {0}

-- what holds of every round
pub record IsSoundRound (round : RoundValue) : Type 0 where
  pub sent : round.slots_sent ≤ round.spec.limit
  pub stage : IsSoundStage round.stage

-- the frame is the one behind these outcomes
pub record IsFrameOf (frame : Frame) (spec : SpecValue) (outcomes : List Outcome) : Type 0 where
  pub goes_on : is_over spec outcomes ≡ false
  pub q : frame.q ≡ q_of spec outcomes
  pub qfp : frame.qfp ≡ qfp_of spec outcomes
  pub slots : frame.slots ≡ length (frame_of spec outcomes)
  pub refused : frame.refused ≡ refused_in (frame_of spec outcomes)
  pub silent : frame.silent ≡ all_silent (frame_of spec outcomes)

-- where a round stands after these outcomes: within a frame, or at one of its two ends
abbrev pub IsStageOf : Stage → SpecValue → List Outcome → Type 0
IsStageOf (Underway frame) spec outcomes = IsFrameOf frame spec outcomes
IsStageOf Quiet spec outcomes = turn_of spec outcomes ≡ quiet
IsStageOf Limit spec outcomes = turn_of spec outcomes ≡ limit

-- the round has these parameters, and was given these outcomes
pub record RoundStandsFor (round : RoundValue) (spec : SpecValue) (outcomes : List Outcome) : Type 0 where
  pub spec_is : round.spec ≡ spec
  pub outcomes_are : AreOutcomes spec outcomes
  pub stage : IsStageOf round.stage spec outcomes
  pub sent : round.slots_sent ≡ slots_of spec outcomes

-- the round stands for these outcomes, and this is what follows them
pub record IsNextAnswer (answer : Next) (round : RoundValue) (spec : SpecValue) (outcomes : List Outcome) : Type 0 where
  pub stands : RoundStandsFor round spec outcomes
  pub next : (link : LinkValue) → answer ≡ next_command spec link outcomes
  pub over : is_over spec outcomes ≡ is_end answer

-- how many slot commands an answer is
abbrev pub slots_in : Next → ℕ
slots_in (nexts.Send command) = 1
slots_in nexts.Quiet = 0
slots_in nexts.Limit = 0
