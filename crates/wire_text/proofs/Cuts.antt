-- A text that is cut in two, and the letters of texts.
use Rattle.std.proofs.Common.{◌≡◌, ◌≢◌, ◌-◌, ℕ, List, ◌++◌, length, get_or, take, drop, Bor, arith, ap, sym, ◌∙◌, refl, length-append}
use Rattle.std.specs.Prelude.{Option, Some, None, IfSome, IsSomeAnd, MatchOption}
use Rattle.std.proofs.Math.Seq.{take-append_seam, drop-append_seam}
use Rattle.std.proofs.lemmas.List.{append_cancel_left}

-- what a text is behind its front, where `strip_prefix` says so
pub stripped : (text front : List ℕ) (rest : Option (Bor (List ℕ)))
    → MatchOption rest ((back : List ℕ) → text ≢ front ++ back) (λ it. text ≡ front ++ it.now)
    → IfSome rest (λ it. text ≡ front ++ it.now) × ((back : List ℕ) → text ≡ front ++ back → IsSomeAnd rest (λ it. it.now ≡ back))
stripped text front None none = (tt, λ back whole. absurd (none back whole))
stripped text front (Some it) cut = (cut, λ back whole. append_cancel_left front it.now back (sym cut ∙ whole))

-- the two parts, by the length of the second
pub cut_back : (size : ℕ) (text front back : List ℕ) → length back ≡ size → text ≡ front ++ back
    → (take (length text - size) text ≡ front) × (drop (length text - size) text ≡ back)
cut_back size text front back sized whole =
    let at : length text - size ≡ length front = omega (arith, sized, ap length whole, length-append front back) in
    (rw (at, whole) (take-append_seam front back), rw (at, whole) (drop-append_seam front back))

-- two texts with second parts of one length have the same parts
pub parts_told : (one more other rest : List ℕ) → length more ≡ length rest → one ++ more ≡ other ++ rest → (one ≡ other) × (more ≡ rest)
parts_told one more other rest sizes same =
    let mine = cut_back (length rest) (one ++ more) one more sizes refl in
    let yours = cut_back (length rest) (one ++ more) other rest refl same in
    (sym mine.0 ∙ yours.0, sym mine.1 ∙ yours.1)

-- the letter at a place of two equal texts
pub letter : (place : ℕ) (one other : List ℕ) → one ≡ other → get_or one place 0 ≡ get_or other place 0
letter place one other same = ap (λ (text : List ℕ). get_or text place 0) same
