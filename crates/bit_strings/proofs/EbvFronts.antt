-- What the front of a list of bits tells of the extensible bit vector that begins there.
use Rattle.std.specs.Prelude.{◌≡◌, ℕ, ◌<◌, Bool, true, List, [], ◌∷◌, ◌++◌, length}
use Rattle.std.proofs.Common.{sym, ◌∙◌, ap, arith, append_assoc}
use Rattle.std.proofs.lemmas.List.{take_at}
use Rattle.bit_strings.specs.NumbersInBits.{value_of}
use Rattle.bit_strings.specs.laws.NumbersInBits.{same_from_value}
use Rattle.bit_strings.specs.Ebv.{IsEbv, number_of_digits, blocks_of, BeginsWithNothing}
use Rattle.bit_strings.specs.laws.Ebv.{AreSevens, seven-head, seven-tail, append_apart, shortest-some, zeros}

-- the digits of a vector can be read off its front
blocks_apart : (ds es : List (List Bool)) (more rest : List Bool) → 0 < length ds → 0 < length es → AreSevens ds → AreSevens es → blocks_of ds ++ more ≡ blocks_of es ++ rest → ds ≡ es
blocks_apart [] es more rest p q ss ts same = absurd (omega arith)
blocks_apart (d ∷ ds) [] more rest p q ss ts same = absurd (omega arith)
blocks_apart (d ∷ []) (e ∷ []) more rest p q ss ts same =
    let tail : d ++ more ≡ e ++ rest = cc in
    let found : (d ≡ e) × (more ≡ rest) = append_apart d e more rest (seven-head d [] ss ∙ sym (seven-head e [] ts)) tail in
    ap (λ (digit : List Bool). digit ∷ []) found.0
blocks_apart (d ∷ []) (e ∷ e' ∷ es) more rest p q ss ts same = cc
blocks_apart (d ∷ d' ∷ ds) (e ∷ []) more rest p q ss ts same = cc
blocks_apart (d ∷ d' ∷ ds) (e ∷ e' ∷ es) more rest p q ss ts same =
    let tail : (d ++ blocks_of (d' ∷ ds)) ++ more ≡ (e ++ blocks_of (e' ∷ es)) ++ rest = cc in
    let turned : d ++ (blocks_of (d' ∷ ds) ++ more) ≡ e ++ (blocks_of (e' ∷ es) ++ rest) =
    sym (append_assoc d (blocks_of (d' ∷ ds)) more) ∙ tail ∙ append_assoc e (blocks_of (e' ∷ es)) rest in
    let found : (d ≡ e) × (blocks_of (d' ∷ ds) ++ more ≡ blocks_of (e' ∷ es) ++ rest) = append_apart d e (blocks_of (d' ∷ ds) ++ more) (blocks_of (e' ∷ es) ++ rest) (seven-head d (d' ∷ ds) ss ∙ sym (seven-head e (e' ∷ es) ts)) turned in
    let others : ◌≡◌ {A = List (List Bool)} (d' ∷ ds) (e' ∷ es) = blocks_apart (d' ∷ ds) (e' ∷ es) more rest (omega arith) (omega arith) (seven-tail d (d' ∷ ds) ss) (seven-tail e (e' ∷ es) ts) found.1 in
    let first : d ≡ e = found.0 in
    cc

-- no extensible bit vector begins another
pub ebv_apart : (n m : ℕ) (xs ys more rest : List Bool) → IsEbv n xs → IsEbv m ys → xs ++ more ≡ ys ++ rest → (n ≡ m) × (xs ≡ ys)
ebv_apart n m xs ys more rest left right same =
    let fronts : blocks_of left.digits ++ more ≡ blocks_of right.digits ++ rest = ap (λ (bits : List Bool). bits ++ more) (sym left.spelled) ∙ same ∙ ap (λ (bits : List Bool). bits ++ rest) right.spelled in
    let digits : left.digits ≡ right.digits = blocks_apart left.digits right.digits more rest (shortest-some left.digits left.shortest) (shortest-some right.digits right.shortest) left.sevens right.sevens fronts in
    (left.value ∙ ap number_of_digits digits ∙ sym right.value, left.spelled ∙ ap blocks_of digits ∙ sym right.spelled)

-- a first block that another follows and whose digit is 0 says nothing
pub digit-nothing : (d behind : List Bool) → length d ≡ 7 → value_of d ≡ 0 → BeginsWithNothing (true ∷ d ++ behind)
unfolding zeros
digit-nothing d behind seven none =
    let digit : d ≡ zeros = same_from_value d zeros seven none in
    ap (λ (b : List Bool). true ∷ b) (take_at d behind 7 seven ∙ digit)
