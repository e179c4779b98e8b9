-- Which pairs of PC and EPC are one.
use Rattle.std.proofs.Common.{◌≡◌, ℕ, true, List, refl, sym, subst, eq-eqb}
use Rattle.std.specs.Prelude.{◌==◌, nat_eq}
use Rattle.std.specs.Cmp.{first_so, second_so}
use Rattle.std.specs.Cmp.Lexicographic.{pointwise, same_text}
use Rattle.std.proofs.lemmas.Bool.{eqb-true}
use Rattle.std.proofs.lemmas.Cmp.{nat_list_eq_equiv}
use Rattle.reply_grammar.specs.PcAndEpc.{same_pair}

-- pairs that are one are equal
pub same_pair-is : (one other : ℕ × List ℕ) → same_pair one other ≡ true → one ≡ other
same_pair-is one other e =
    let numbers = one.0 == other.0 in
    let words = pointwise nat_eq one.1 other.1 in
    let number : one.0 ≡ other.0 = eqb-true one.0 other.0 (first_so numbers words e) in
    let epc : one.1 ≡ other.1 = same_text one.1 other.1 (sym (second_so numbers words e)) in
    λ i. (number i, epc i)

pub same_pair-refl : (pair : ℕ × List ℕ) → same_pair pair pair ≡ true
same_pair-refl pair = rw (eq-eqb pair.0 pair.0 refl, nat_list_eq_equiv.refl pair.1) refl

pub same_pair-equal : (one other : ℕ × List ℕ) → one ≡ other → same_pair one other ≡ true
same_pair-equal one other e = subst (λ (pair : ℕ × List ℕ). same_pair one pair ≡ true) e (same_pair-refl one)
