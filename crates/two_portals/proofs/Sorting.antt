-- Two sorted lists that hold each pair equally often are equal.
use Rattle.std.proofs.Common.{◌≡◌, ◌+◌, false, List, [], ◌∷◌, refl, sym, ap, ◌∙◌, subst, arith}
use native.Mathlib.Numerals.{unary_clauses}
use Rattle.std.specs.Prelude.{All}
use Rattle.std.specs.Bool.{Decides}
use Rattle.std.specs.Cmp.{IsTotalOrder, IsStrictWeakOrder, both_tied, both_ways, unsigned_ties}
use Rattle.std.specs.List.Sorted.{IsPermutation, IsSorted}
use Rattle.std.specs.Ordering.{is_eq, is_lt, ordering_reverse, nat_cmp, ordering_then}
use Rattle.std.specs.Cmp.Lexicographic.{pointwise, pointwise_decides, slice_cmp, texts_ties}
use Rattle.std.proofs.lemmas.Cmp.{nat_cmp_total, nat_list_cmp_total, on_total, then_total}
use Rattle.std.specs.declared.cmp.Ordering.{Ordering}
use Rattle.std.specs.declared.cmp.Ordering.TheVariants.{Less, Equal, Greater}
use Rattle.std.proofs.lemmas.List.Elements.{All-contains}
use Rattle.std.proofs.lemmas.List.Sorted.{ranks_by, sorted_far, sum_by-IsPermutation}
use Rattle.reply_grammar.specs.PcAndEpc.{same_pair}
use Rattle.reply_grammar.proofs.SamePairs.{same_pair-is, same_pair-equal}
use Rattle.two_portals.specs.PortalLines.{are_same}
use Rattle.two_portals.proofs.Counts.{Pair, AreAlike, alike-rest, alike-same, count, count-itself, counted-stands, one-where, same-alike}

-- an order in which pairs that tie are equal
pub record Ranks (cmp : Pair → Pair → Ordering) : Type 0 where
  pub total : IsTotalOrder cmp
  pub tied : (one other : Pair) → cmp one other ≡ Equal → one ≡ other

weak : (cmp : Pair → Pair → Ordering) → Ranks cmp → IsStrictWeakOrder (λ one other. is_lt (cmp one other))
weak cmp ranks = ranks_by ranks.total (λ (pair : Pair). pair)

-- no pair is below the first
least : (cmp : Pair → Pair → Ordering) → Ranks cmp → (first : Pair) (pairs : List Pair) → IsSorted cmp (first ∷ pairs) → All (λ pair. is_lt (cmp pair first) ≡ false) (first ∷ pairs)
least cmp ranks first pairs sorted = λ at default inside.
    sorted_far (λ one other. is_lt (cmp one other)) (weak cmp ranks) (first ∷ pairs) sorted 0 at default (omega arith) inside

sorted-rest : (cmp : Pair → Pair → Ordering) (first : Pair) (pairs : List Pair) → IsSorted cmp (first ∷ pairs) → IsSorted cmp pairs
sorted-rest cmp first pairs sorted = λ at default low inside.
    let later = sorted (at + 1) default (omega arith) (omega (arith, inside)) in
    let read = (simp unary_clauses at later) in
    simp unary_clauses read

neither : (cmp : Pair → Pair → Ordering) → Ranks cmp → (one other : Pair) → is_lt (cmp one other) ≡ false → is_lt (cmp other one) ≡ false → cmp one other ≡ Equal
neither cmp ranks one other up down = by_answer (cmp one other) (cmp other one) (ranks.total.antisymm other one) up down
  where
    by_answer : (r s : Ordering) → s ≡ ordering_reverse r → is_lt r ≡ false → is_lt s ≡ false → r ≡ Equal
    by_answer Less s back up down = absurd (cc)
    by_answer Equal s back up down = refl
    by_answer Greater s back up down = absurd (cc)

pub sorted-one : (cmp : Pair → Pair → Ordering) → Ranks cmp → (one other : List Pair) → IsSorted cmp one → IsSorted cmp other → AreAlike one other → one ≡ other
sorted-one cmp ranks [] [] up down alike = refl
sorted-one cmp ranks [] (pair ∷ pairs) up down alike = absurd (let counted = count-itself pair pairs in let same = alike pair in omega (arith, counted, same))
sorted-one cmp ranks (pair ∷ pairs) [] up down alike = absurd (let counted = count-itself pair pairs in let same = alike pair in omega (arith, counted, same))
sorted-one cmp ranks (first ∷ one) (second ∷ other) up down alike =
    let counted = count-itself first one in
    let same = alike first in
    let below = All-contains (λ pair. is_lt (cmp pair second) ≡ false) (second ∷ other) first (least cmp ranks second other down)
    (counted-stands first (second ∷ other) (omega (arith, counted, same))) in
    let counted2 = count-itself second other in
    let same2 = alike second in
    let above = All-contains (λ pair. is_lt (cmp pair first) ≡ false) (first ∷ one) second (least cmp ranks first one up)
    (counted-stands second (first ∷ one) (omega (arith, counted2, same2))) in
    let tied = ranks.tied first second (neither cmp ranks first second below above) in
    let rest = sorted-one cmp ranks one other (sorted-rest cmp first one up) (sorted-rest cmp second other down)
    (alike-rest first one other (subst (λ (pair : Pair). AreAlike (first ∷ one) (pair ∷ other)) (sym tied) alike)) in
    λ i. tied i ∷ rest i

-- the order of pairs: by PC, and then by the words of the EPC
abbrev pub pair_cmp : Pair → Pair → Ordering
pair_cmp one other = ordering_then (nat_cmp one.0 other.0) (slice_cmp nat_cmp one.1 other.1)

pair-ranks : Ranks pair_cmp
pair-ranks = record {
  total = then_total (on_total (λ (pair : Pair). pair.0) nat_cmp_total) (on_total (λ (pair : Pair). pair.1) nat_list_cmp_total);
  tied = λ one other tie. same_pair-is one other
      (both_tied _ _ (nat_cmp one.0 other.0) (slice_cmp nat_cmp one.1 other.1) (unsigned_ties one.0 other.0) (texts_ties one.1 other.1) ∙ ap is_eq tie);
}

pairs-decided : (one other : List Pair) → Decides (pointwise same_pair one other) (one ≡ other)
pairs-decided one other = pointwise_decides (λ first second. (same_pair-is first second, same_pair-equal first second)) one other

moved-alike : (one other : List Pair) → IsPermutation one other → AreAlike other one
moved-alike one other moved = λ pair. sum_by-IsPermutation (λ (each : Pair). one-where (same_pair pair each)) one other moved

-- sorted, two lists are equal exactly where they hold each pair equally often
pub sorted-same : (one other sorted sorted2 : List Pair) → IsPermutation one sorted → IsPermutation other sorted2 → IsSorted pair_cmp sorted → IsSorted pair_cmp sorted2
    → pointwise same_pair sorted sorted2 ≡ are_same one other
sorted-same one other sorted sorted2 moved moved2 up up2 =
    let decided = pairs-decided sorted sorted2 in
    both_ways (pointwise same_pair sorted sorted2) (are_same one other)
    (λ equal. alike-same one other (λ pair.
    sym (moved-alike one sorted moved pair) ∙ ap (count pair) (decided.0 equal) ∙ moved-alike other sorted2 moved2 pair))
    (λ same. decided.1 (sorted-one pair_cmp pair-ranks sorted sorted2 up up2 (λ pair.
    moved-alike one sorted moved pair ∙ same-alike one other same pair ∙ sym (moved-alike other sorted2 moved2 pair))))
