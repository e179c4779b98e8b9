-- What a decoder stands for, before and after an interval.
use Rattle.std.proofs.Common.{◌≡◌, ℕ, ◌+◌, Bool, Some, None, Result, Ok, Err, List, [], ◌∷◌, ◌++◌, length, refl, sym, subst, arith, length-append}
use Rattle.std.specs.Result.{MatchResult}
use Rattle.std.proofs.lemmas.List.{append-nil}
use Rattle.std.proofs.lemmas.Result.{MatchResult-at_ok, MatchResult-at_err}
use Rattle.pie_line.specs.declared.frame.PieRefusal.{PieRefusal}
use Rattle.pie_line.specs.declared.edges.Edge.TheVariants.{More, Bit, Refused}
use Rattle.pie_line.specs.declared.frame_state.FrameState.{FrameState}
use Rattle.pie_line.specs.FrameState.{Moves}
use Rattle.pie_line.specs.Refusal.{IsFrameRefusedAt}
use Rattle.pie_line.specs.Edges.{EdgesValue, LeadsToState, EdgesStandFor, IsEdgesAnswer}
use Rattle.pie_line.proofs.Leads.{leads-moves, refused-more}

-- what a decoder knows at a place
abbrev Reads : ℕ → List Bool → List ℕ → FrameState → Type 0
Reads count bits xs place = (count ≡ length xs) × LeadsToState place bits xs

-- what a decoder knows after a refusal
abbrev Knows : List ℕ → PieRefusal → Type 0
Knows xs refusal = (at : ℕ) × IsFrameRefusedAt refusal xs at

pub stands-at : (edges : EdgesValue) (place : FrameState) (bits : List Bool) (xs : List ℕ) → edges.standing ≡ Ok place → EdgesStandFor edges bits xs →
    (edges.count ≡ length xs) × LeadsToState place bits xs
stands-at edges place bits xs is s = MatchResult-at_ok (Reads edges.count bits xs) (Knows xs) place is s

pub stands-refused : (edges : EdgesValue) (refusal : PieRefusal) (bits : List Bool) (xs : List ℕ) → edges.standing ≡ Err refusal → EdgesStandFor edges bits xs →
    (at : ℕ) × IsFrameRefusedAt refusal xs at
stands-refused edges refusal bits xs is s = MatchResult-at_err (Reads edges.count bits xs) (Knows xs) refusal is s

pub standing-so : (edges : EdgesValue) (place : FrameState) (bits : List Bool) (xs : List ℕ) → edges.standing ≡ Ok place →
    (edges.count ≡ length xs) × LeadsToState place bits xs → EdgesStandFor edges bits xs
standing-so edges place bits xs is at =
    let P : Result FrameState PieRefusal → Type 0 = λ standing. MatchResult standing (Reads edges.count bits xs) (Knows xs) in
    subst P (sym is) at

-- after a refusal every interval is answered by the same one
pub refused-again : (edges : EdgesValue) (refusal : PieRefusal) (x : ℕ) (bits : List Bool) (xs : List ℕ) → edges.standing ≡ Err refusal → EdgesStandFor edges bits xs →
    IsEdgesAnswer (Refused refusal) edges bits (xs ++ x ∷ [])
refused-again edges refusal x bits xs is s =
    let ys = xs ++ x ∷ [] in
    let P : Result FrameState PieRefusal → Type 0 = λ standing. MatchResult standing (Reads edges.count bits ys) (Knows ys) in
    (is, subst P (sym is) (refused-more refusal xs (x ∷ []) (stands-refused edges refusal bits xs is s)))

-- a symbol ended
pub answers-bit : (place next : FrameState) (bit : Bool) (bits : List Bool) (xs : List ℕ) (x count : ℕ) → (count ≡ length xs) × LeadsToState place bits xs →
    Moves place x next (Some bit) → IsEdgesAnswer (Bit bit) (record { standing = Ok next; count = count + 1 }) bits (xs ++ x ∷ [])
answers-bit place next bit bits xs x count s m =
    (refl, (omega (arith, s.0, length-append xs (x ∷ [])), leads-moves place next (Some bit) bits xs x s.1 m))

-- no symbol ended
pub answers-more : (place next : FrameState) (bits : List Bool) (xs : List ℕ) (x count : ℕ) → (count ≡ length xs) × LeadsToState place bits xs →
    Moves place x next None → IsEdgesAnswer More (record { standing = Ok next; count = count + 1 }) bits (xs ++ x ∷ [])
answers-more place next bits xs x count s m = (
  refl,
  (
    omega (arith, s.0, length-append xs (x ∷ [])),
    subst (λ all. LeadsToState next all (xs ++ x ∷ [])) (append-nil bits) (leads-moves place next None bits xs x s.1 m),
  ),
)
