-- At most one answer holds where an extensible bit vector is looked for.
use Rattle.std.proofs.Common.{◌≡◌, ℕ, ◌-◌, Bool, true, List, [], ◌++◌, length, drop, refl, sym, ◌∙◌, ap, subst, arith, length-append, length-take, length-drop, append_assoc, append-nil, Some}
use Rattle.std.specs.Prelude.{slice_get}
use Rattle.std.proofs.lemmas.List.{take-append-drop, take_all, nil_from_length}
use Rattle.bit_strings.specs.NumbersInBits.{part_of}
use Rattle.bit_strings.specs.Ebv.{IsEbv, IsCutEbv, IsTooLong, BeginsWithNothing}
use Rattle.bit_strings.specs.laws.Ebv.{says-ebv, ends-ebv, no_ebv-nothing, no_ebv-long}
use Rattle.bit_strings.proofs.EbvFronts.{ebv_apart}
use Rattle.bit_strings.specs.EbvAnswers.{IsEbvAnswer, HasEbvAt, IsEbvStep}
use Rattle.bit_strings.specs.declared.ebv_front.EbvStep.{EbvStep}
use Rattle.bit_strings.specs.declared.ebv_front.EbvStep.TheVariants as steps
use Rattle.bit_strings.specs.declared.ebv.Ebv.{Ebv}
use Rattle.bit_strings.specs.declared.ebv.Ebv.TheVariants.{Value, Short, NotShortest, TooLong}

-- a list's front and what follows
abbrev rest_of : List Bool → ℕ → ℕ → List Bool
rest_of items from next = drop (next - from) (drop from items)

split-at : (items : List Bool) (from next : ℕ) → part_of items from (next - from) ++ rest_of items from next ≡ drop from items
split-at items from next = take-append-drop (next - from) (drop from items)

value-value : (items : List Bool) (from n next m other : ℕ) → HasEbvAt items from n next → HasEbvAt items from m other → (n ≡ m) × (next ≡ other)
value-value items from n next m other left right =
    let same : (n ≡ m) × (part_of items from (next - from) ≡ part_of items from (other - from)) =
    ebv_apart n m (part_of items from (next - from)) (part_of items from (other - from)) (rest_of items from next) (rest_of items from other) left.vector right.vector (split-at items from next ∙ sym (split-at items from other)) in
    let lengths = ap length same.1 in
    let l = length-take (next - from) (drop from items) in
    let r = length-take (other - from) (drop from items) in
    let d = length-drop from items in
    (same.0, omega (arith, left.forward, left.within, right.forward, right.within))

value-short : (items : List Bool) (from n next : ℕ) → HasEbvAt items from n next → IsCutEbv (drop from items) → ⊥
value-short items from n next here cut =
    let front : List Bool = part_of items from (next - from) in
    let turned : front ++ (rest_of items from next ++ cut.more) ≡ (drop from items ++ cut.more) ++ [] =
    sym (append_assoc front (rest_of items from next) cut.more) ∙ ap (λ (b : List Bool). b ++ cut.more) (split-at items from next) ∙ sym (append-nil (drop from items ++ cut.more)) in
    let same : (n ≡ cut.number) × (front ≡ drop from items ++ cut.more) = ebv_apart n cut.number front (drop from items ++ cut.more) (rest_of items from next ++ cut.more) [] here.vector cut.whole turned in
    cut.some_more (nil_from_length cut.more (omega (arith, ap length same.1, length-append (drop from items) cut.more, length-take (next - from) (drop from items))))

value-nothing : (items : List Bool) (from n next : ℕ) → HasEbvAt items from n next → BeginsWithNothing (drop from items) → ⊥
value-nothing items from n next here nothing =
    says-ebv n (part_of items from (next - from)) (rest_of items from next) here.vector (subst BeginsWithNothing (sym (split-at items from next)) nothing)

value-long : (items : List Bool) (from n next : ℕ) → HasEbvAt items from n next → IsTooLong (drop from items) → ⊥
value-long items from n next here long =
    let back = sym (split-at items from next) in
    let at : (i : ℕ) → slice_get (drop from items) i ≡ Some true → slice_get (part_of items from (next - from) ++ rest_of items from next) i ≡ Some true =
    λ i there. ap (λ (b : List Bool). slice_get b i) (split-at items from next) ∙ there in
    ends-ebv n (part_of items from (next - from)) (rest_of items from next) here.vector (at 0 long.first) (at 8 long.second) (at 16 long.third) (at 24 long.fourth)

short-nothing : (bits : List Bool) → IsCutEbv bits → BeginsWithNothing bits → ⊥
short-nothing bits cut nothing = no_ebv-nothing cut.number bits cut.more cut.whole nothing

short-long : (bits : List Bool) → IsCutEbv bits → IsTooLong bits → ⊥
short-long bits cut long = no_ebv-long cut.number bits cut.more cut.whole long

pub one_answer : (items : List Bool) (from : ℕ) (a b : Ebv) → IsEbvAnswer a items from → IsEbvAnswer b items from → a ≡ b
one_answer items from (Value n next) (Value m other) left right =
    let same = value-value items from n next m other left right in
    let number = same.0 in
    let place = same.1 in
    cc
one_answer items from (Value n next) Short left right = absurd (value-short items from n next left right)
one_answer items from (Value n next) NotShortest left right = absurd (value-nothing items from n next left right)
one_answer items from (Value n next) TooLong left right = absurd (value-long items from n next left right)
one_answer items from Short (Value m other) left right = absurd (value-short items from m other right left)
one_answer items from Short Short left right = refl
one_answer items from Short NotShortest left right = absurd (short-nothing (drop from items) left right)
one_answer items from Short TooLong left right = absurd (short-long (drop from items) left right)
one_answer items from NotShortest (Value m other) left right = absurd (value-nothing items from m other right left)
one_answer items from NotShortest Short left right = absurd (short-nothing (drop from items) right left)
one_answer items from NotShortest NotShortest left right = refl
one_answer items from NotShortest TooLong left right = absurd (right.says left)
one_answer items from TooLong (Value m other) left right = absurd (value-long items from m other right left)
one_answer items from TooLong Short left right = absurd (short-long (drop from items) right left)
one_answer items from TooLong NotShortest left right = absurd (left.says right)
one_answer items from TooLong TooLong left right = refl

-- ---- of one step

-- the step as an answer for a list that ends with the bit
abbrev as_answer : EbvStep → ℕ → Ebv
as_answer (steps.More front) count = Short
as_answer (steps.Value number) count = Value number count
as_answer steps.NotShortest count = NotShortest
as_answer steps.TooLong count = TooLong

answers : (step : EbvStep) (bits : List Bool) → IsEbvStep step bits → IsEbvAnswer (as_answer step (length bits)) bits 0
answers (steps.More front) bits holds = holds.1
answers (steps.Value number) bits holds = record {
  forward = omega arith;
  within = omega arith;
  vector = subst (IsEbv number) (sym (take_all (length bits - 0) bits (omega arith))) holds;
}
answers steps.NotShortest bits holds = holds
answers steps.TooLong bits holds = holds

same_step : (a b : EbvStep) (bits : List Bool) → IsEbvStep a bits → IsEbvStep b bits → as_answer a (length bits) ≡ as_answer b (length bits) → a ≡ b
same_step (steps.More front) (steps.More other) bits left right same = ap (λ (l : List Bool). steps.More l) (left.0 ∙ sym right.0)
same_step (steps.More front) (steps.Value n) bits left right same = absurd cc
same_step (steps.More front) steps.NotShortest bits left right same = absurd cc
same_step (steps.More front) steps.TooLong bits left right same = absurd cc
same_step (steps.Value m) (steps.More other) bits left right same = absurd cc
same_step (steps.Value m) (steps.Value n) bits left right same = cc
same_step (steps.Value m) steps.NotShortest bits left right same = absurd cc
same_step (steps.Value m) steps.TooLong bits left right same = absurd cc
same_step steps.NotShortest (steps.More other) bits left right same = absurd cc
same_step steps.NotShortest (steps.Value n) bits left right same = absurd cc
same_step steps.NotShortest steps.NotShortest bits left right same = refl
same_step steps.NotShortest steps.TooLong bits left right same = absurd cc
same_step steps.TooLong (steps.More other) bits left right same = absurd cc
same_step steps.TooLong (steps.Value n) bits left right same = absurd cc
same_step steps.TooLong steps.NotShortest bits left right same = absurd cc
same_step steps.TooLong steps.TooLong bits left right same = refl

pub one_step : (a b : EbvStep) (bits : List Bool) → IsEbvStep a bits → IsEbvStep b bits → a ≡ b
one_step a b bits left right =
    same_step a b bits left right (one_answer bits 0 (as_answer a (length bits)) (as_answer b (length bits)) (answers a bits left) (answers b bits right))
