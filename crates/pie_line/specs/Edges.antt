-- What a decoder that takes one interval at a time knows of the intervals it was given (profile).
use Rattle.std.specs.Prelude.{◌≡◌, ◌≤◌, ◌+◌, ◌*◌, ℕ, Bool, Result, Ok, Err, List, [], ◌∷◌, ◌++◌, length, take, IsOk, MatchResult}
use Rattle.pie_line.specs.declared.frame.FrameKind.{FrameKind}
use Rattle.pie_line.specs.declared.frame.PieRefusal.{PieRefusal}
use Rattle.pie_line.specs.declared.frame_state.FrameState.{FrameState}
use Rattle.pie_line.specs.declared.frame_state.FrameState.TheVariants.{High}
use Rattle.pie_line.specs.declared.edges.Edge.{Edge}
use Rattle.pie_line.specs.declared.edges.Edge.TheVariants.{More, Bit, Refused}
use Rattle.pie_line.specs.Pie.{IsFrame}
use Rattle.pie_line.specs.FrameState.{IsSoundState, Completes, rtcal_of}
use Rattle.pie_line.specs.Refusal.{IsFrameRefusedAt}

-- where a decoder stands, or what it has refused, and how many intervals it took before
pub record EdgesValue : Type 0 where
  pub standing : Result FrameState PieRefusal
  pub count : ℕ

-- these intervals, from which the bits were read, lead to the place: what makes a frame of them is what completes
-- the frame of the place
pub record LeadsToState (place : FrameState) (bits : List Bool) (intervals : List ℕ) : Type 0 where
  pub sound : IsSoundState place
  pub only : (kind : FrameKind) (all : List Bool) (rest : List ℕ) → IsFrame kind all (intervals ++ rest) →
      (more : List Bool) × (all ≡ bits ++ more) × Completes place kind more rest
  pub back : (kind : FrameKind) (more : List Bool) (rest : List ℕ) → Completes place kind more rest →
      IsFrame kind (bits ++ more) (intervals ++ rest)

-- the decoder was given these intervals, and has read these bits from them
abbrev pub EdgesStandFor : EdgesValue → List Bool → List ℕ → Type 0
EdgesStandFor edges bits intervals = MatchResult edges.standing
    (λ place. (edges.count ≡ length intervals) × LeadsToState place bits intervals)
    (λ refusal. (place : ℕ) × IsFrameRefusedAt refusal intervals place)

-- the decoder was given the intervals before this place, and has read these bits from them
pub record EdgesHaveReadTo (edges : EdgesValue) (bits : List Bool) (intervals : List ℕ) (at : ℕ) : Type 0 where
  pub within : at ≤ length intervals
  pub stands : EdgesStandFor edges bits (take at intervals)
  pub counted : edges.count ≤ at
  pub read : length bits ≤ at

-- the answer to the last of these intervals, with the decoder after it and the bits that were read before it
abbrev pub IsEdgesAnswer : Edge → EdgesValue → List Bool → List ℕ → Type 0
IsEdgesAnswer More edges bits intervals = IsOk edges.standing × EdgesStandFor edges bits intervals
IsEdgesAnswer (Bit bit) edges bits intervals = IsOk edges.standing × EdgesStandFor edges (bits ++ bit ∷ []) intervals
IsEdgesAnswer (Refused refusal) edges bits intervals = (edges.standing ≡ Err refusal) × EdgesStandFor edges bits intervals

-- a high and a low that make a data symbol (6.3.1.2.3, 6.3.1.2.8)
pub record IsDataSymbol (rtcal high low : ℕ) : Type 0 where
  pub lasts_high : 1 ≤ high
  pub lasts_low : 1 ≤ low
  pub within : high + low ≤ 4 * rtcal

-- a decoder stands before a data symbol, and the next two intervals make one
pub record IsBeforeSymbol (edges : EdgesValue) (high low : ℕ) : Type 0 where
  pub kind : FrameKind
  pub standing : edges.standing ≡ Ok (High kind)
  pub symbol : IsDataSymbol (rtcal_of kind) high low
