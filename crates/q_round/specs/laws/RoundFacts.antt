-- What an inventory goes by of the rule for Q (6.3.2.8 Inventorying Tag populations, 6.3.2.11.2 Inventory commands; which rule
-- an interrogator has is left free by the standard). Nothing else of a rule matters to which tags a round counts, besides only
-- that a round gives no more slot commands than its limit.
use Rattle.std.specs.Prelude.{◌≡◌, ℕ, ◌^◌, ◌<◌, ◌≤◌, List, [], ◌∷◌, length}
use Rattle.command_fields.specs.declared.choices.UpDn.{UpDn}
use Rattle.command_grammar.specs.declared.commands.Command.{Command}
use Rattle.command_grammar.specs.declared.commands.Command.TheVariants.{Query, QueryAdjust, QueryRep}
use Rattle.pie_line.specs.Link.{LinkValue}
use Rattle.q_round.specs.declared.frame.Outcome.{Outcome}
use Rattle.q_round.specs.declared.round.Next.{Next}
use Rattle.q_round.specs.declared.round.Next.TheVariants.{Send, Quiet, Limit}
use Rattle.q_round.specs.laws.RoundLaws.{IsMoved, IsSilentFrame}
use Rattle.q_round.specs.Rounds.{AreOutcomes, next_command, q_of, frame_of}
use Rattle.q_round.specs.SpecValue.{SpecValue}

-- 6.3.2.11.2.3 QueryRep: the frame goes on with its Q, and has a slot left
pub record IsNextInFrame (session q : ℕ) (frame : List Outcome) (own next_q : ℕ) (next_frame : List Outcome) : Type 0 where
  pub session_is : own ≡ session
  pub q_is : next_q ≡ q
  pub frame_is : next_frame ≡ frame
  pub room : length frame < 2 ^ q

-- 6.3.2.11.2.2 QueryAdjust: Q rises by 1, falls by 1 or stays, and a frame begins
pub record BeginsFrame (session q : ℕ) (updn : UpDn) (own next_q : ℕ) (next_frame : List Outcome) : Type 0 where
  pub session_is : own ≡ session
  pub q_moves : IsMoved updn q next_q
  pub frame_is : next_frame ≡ []

-- the command begins the slot that comes behind the slots of this frame, and from then on Q and the frame are the next ones
abbrev pub IsNextSlot : Command → (session q : ℕ) → List Outcome → (next_q : ℕ) → List Outcome → Type 0
IsNextSlot (QueryRep own) session q frame next_q next_frame = IsNextInFrame session q frame own next_q next_frame
IsNextSlot (QueryAdjust own updn) session q frame next_q next_frame = BeginsFrame session q updn own next_q next_frame
IsNextSlot command session q frame next_q next_frame = ⊥

-- what comes behind the slots of this frame: such a slot, the quiet end behind a whole frame of silent slots, or the limit
abbrev pub IsNextTurn : Next → (session q : ℕ) → List Outcome → (next_q : ℕ) → List Outcome → Type 0
IsNextTurn (Send command) session q frame next_q next_frame = IsNextSlot command session q frame next_q next_frame
IsNextTurn Quiet session q frame next_q next_frame = IsSilentFrame q frame
IsNextTurn Limit session q frame next_q next_frame = Unit {0}

-- A round begins with its Query, with its Q and an empty frame. Q is from 0 to 15. Behind each outcome comes a turn of the frame
-- that ends with it.
pub record RoundFacts (spec : SpecValue) (link : LinkValue) : Type 0 where
  pub begins : next_command spec link [] ≡ Send (Query link.dr link.code link.trext spec.sel spec.session spec.target spec.q)
  pub first_q : q_of spec [] ≡ spec.q
  pub first_frame : frame_of spec [] ≡ []
  pub range : (outcomes : List Outcome) → AreOutcomes spec outcomes → q_of spec outcomes ≤ 15
  pub turn : (outcome : Outcome) (before : List Outcome) → AreOutcomes spec (outcome ∷ before)
      → IsNextTurn (next_command spec link (outcome ∷ before)) spec.session (q_of spec before) (outcome ∷ frame_of spec before)
      (q_of spec (outcome ∷ before)) (frame_of spec (outcome ∷ before))
