use Rattle.std.proofs.Common.{◌≡◌, ℕ, ◌==◌, Bool, true, false, List, refl, ap, sym}
use Rattle.std.specs.List.{list_any}
use Rattle.tag_machine.specs.TagsInExchange.{is_missed}
use Rattle.tag_population.proofs.population.is_missed.Goals as goal

-- tests that tell the same
same_true : (left right : Bool) → (left ≡ true → right ≡ true) → (right ≡ true → left ≡ true) → left ≡ right
same_true true right there back = sym (there refl)
same_true false true there back = back refl
same_true false false there back = refl

pub returns-then-is_empty : goal.returns-then-is_empty
returns-then-is_empty c = ap (λ (l : List ℕ). list_any (λ missed. missed == c.args.number) l) (sym (c.is_empty.ensures.0 c.if-is_empty.true))

pub returns : goal.returns
returns c =
    same_true c.contains.result (is_missed c.args.number c.args.entry.now) (λ yes. (c.requires c.args.number).0 (c.contains.ensures.0 yes))
    (λ any. c.contains.ensures.1 ((c.requires c.args.number).1 any))
