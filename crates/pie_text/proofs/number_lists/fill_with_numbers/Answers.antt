-- The fields spell the numbers that are read from them, and no others.
use Rattle.std.proofs.Common.{◌≤◌, ℕ, List, All, arith, ap, sym, ◌∙◌, length, map, eqb}
use Rattle.std.proofs.lemmas.List.Splits.{length-slice_split}
use Rattle.text_fields.specs.Lines.{fields_of, space}
use Rattle.pie_text.specs.NumberLists.{AreFewFilled}
use Rattle.pie_text.specs.Spelling.{IsNumberUpTo, decimal_value}
use Rattle.pie_text.proofs.Numerals.{spelled_shape, spelled_numbers, fields_spell, one_spelling}
use Rattle.pie_text.proofs.number_lists.fill_with_numbers.Goals as goal

pub returns-in-Some-clause-ok : goal.returns-in-Some-clause-ok
returns-in-Some-clause-ok c = λ yes.
    let all = c.push_numbers.ensures.all.0 yes in
    let some : 1 ≤ length (fields_of c.in-Some.line.now) = omega (arith, length-slice_split (λ each. eqb each space) c.in-Some.line.now) in
    rw (c.in-Some.ensures.value, c.push_numbers.ensures.values yes) (fields_spell c.args.most_items c.args.most (fields_of c.in-Some.line.now) some all.0 all.1)

pub returns-in-Some-clause-only : goal.returns-in-Some-clause-only
returns-in-Some-clause-only c = λ numbers spells.
    let shape : AreFewFilled c.args.most_items (fields_of c.in-Some.line.now) =
    rw c.in-Some.ensures.value at (spelled_shape _ _ _ numbers (omega arith) spells) in
    let are : All (IsNumberUpTo c.args.most) (fields_of c.in-Some.line.now) =
    spelled_numbers _ _ numbers (omega arith) spells.within (sym c.in-Some.ensures.value ∙ spells.spelling) in
    let yes = c.push_numbers.ensures.all.1 (shape.room, are) in (
      yes,
      c.push_numbers.ensures.values yes
          ∙ ap (λ (fields : List (List ℕ)). map decimal_value fields) (sym c.in-Some.ensures.value)
          ∙ one_spelling c.args.most_items c.args.most c.args.fields numbers (omega arith) spells,
    )

pub returns-in-Some-clause-refused : goal.returns-in-Some-clause-refused
returns-in-Some-clause-refused c = rw c.in-Some.ensures.value c.push_numbers.ensures.refused
