use Rattle.std.proofs.Common.{ℕ, refl, ap, ◌∙◌, List, ◌∷◌, codes}
use Rattle.report_lines.proofs.tx_reading.read_tx_line.Goals as goal

pub returns-clause-fields : goal.returns-clause-fields
returns-clause-fields c =
    let spells = c.read_numbers.ensures.ok c.if-is_err.ensures.negation in (
      record {
        exchange = c.in-Some-next_field.number.now;
        intervals = c.read_numbers.new.out.items;
        are = c.in-Some.ensures.some ∙ ap (λ (others : List (List ℕ)). codes "tx" ∷ others)
            (c.in-Some-next_field.ensures.some ∙ ap (λ (others : List (List ℕ)). c.in-Some-next_field.number.now ∷ others) spells.spelling);
        number = c.if-not-is_number.ensures.yes refl;
        some = spells.some;
        few = spells.room;
        short = spells.within;
      },
      refl,
      refl,
    )
