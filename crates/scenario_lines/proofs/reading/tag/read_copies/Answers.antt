-- A number, and behind it the fields of a tag.
use Rattle.std.proofs.Common.{◌≡◌, ◌≢◌, [], ◌∷◌, ◌∙◌, ap, arith, length, rules, sym}
use Rattle.std.proofs.lemmas.Bool.{eqb-false}
use Rattle.std.proofs.lemmas.Result.{err_from_is_err_and}
use Rattle.scenario_lines.proofs.CopiesFields.{copies_filled, copies_misread}
use Rattle.scenario_lines.proofs.FirstNumbers.{first_number, not_found}
use Rattle.scenario_lines.proofs.reading.tag.read_copies.Goals as goal

pub returns-in_err-parts-clause-refused : goal.returns-in_err-parts-clause-refused
returns-in_err-parts-clause-refused c =
    let first : c.args.others ≡ c.in-Some.count.now ∷ c.next.new.self = search rules in
    let filled : c.in-Some.count.now ≢ [] = λ none.
    eqb-false (length c.in-Some.count.now) 0 (sym c.is_empty.ensures ∙ c.if-is_empty.false) (ap length none) in
    let p = err_from_is_err_and c.from_residual.result c.from_residual.ensures.1 in
    rw (p.1, p.2, first) (copies_misread c.in-Some.count.now c.next.new.self _ filled c.in_err-parts.ensures.refused)

pub returns-in_default-number_from-clause-refused : goal.returns-in_default-number_from-clause-refused
returns-in_default-number_from-clause-refused c =
    let first : c.args.others ≡ c.in-Some.count.now ∷ c.next.new.self = search rules in
    let filled : c.in-Some.count.now ≢ [] = λ none.
    eqb-false (length c.in-Some.count.now) 0 (sym c.is_empty.ensures ∙ c.if-is_empty.false) (ap length none) in
    let parts = c.in_ok-parts.ensures.ok in (
      rw first (copies_filled c.in-Some.count.now c.next.new.self _ filled parts.0 parts.1),
      λ count tag number form spells.
          not_found (c.in_default-number_from.ensures.only count number.0 (omega (arith, number.1, c.from.ensures)) (first_number c.in-Some.count.now c.next.new.self _ count first spells).0),
    )
