-- Tests that can't come out so, and what they tell.
use Rattle.std.proofs.Common.{◌≡◌, ◌∙◌, ◌==◌, ℕ, arith, sym, ◌&&◌, Bool, true, false, is_some, Option, Some, None, refl}
use Rattle.std.proofs.lemmas.Bool.{and_parts}
use Rattle.std.proofs.lemmas.Bool.Decides.{nat_tests}
use Rattle.log_judge.specs.Log.{Seen}

pub not_so : false ≡ true → ⊥
not_so same = absurd (cc)

pub so_not : true ≡ false → ⊥
so_not same = absurd (cc)

pub no_test : {test : Bool} → test ≡ false → test ≡ true → ⊥
no_test other is = not_so (sym other ∙ is)

pub one_number : (one other : ℕ) → (one == other) ≡ true → one ≡ other
one_number one other same = grind (arith, nat_tests)

-- nothing is not something
pub some_or_none : {A : Type 0} {a : A} → Some a ≡ None → ⊥
some_or_none same = absurd (cc)

pub none_or_some : {A : Type 0} {a : A} → None ≡ Some a → ⊥
none_or_some same = absurd (cc)

-- what a test says that is true of two
pub and_left : (a b : Bool) → (a && b) ≡ true → a ≡ true
and_left a b both = (and_parts a b both).0

pub and_right : (a b : Bool) → (a && b) ≡ true → b ≡ true
and_right a b both = (and_parts a b both).1

pub nothing_seen : (seen : Option Seen) → is_some seen ≡ false → seen ≡ None
nothing_seen None none = refl
nothing_seen (Some seen) none = absurd (so_not none)

pub something_seen : (seen : Option Seen) → is_some seen ≡ true → (said : Seen) × (seen ≡ Some said)
something_seen None some = absurd (not_so some)
something_seen (Some seen) some = (seen, refl)
