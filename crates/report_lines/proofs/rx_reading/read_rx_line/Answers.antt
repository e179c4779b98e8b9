use Rattle.std.proofs.Common.{ℕ, refl, sym, ap, ◌∙◌, List, [], ◌∷◌, codes}
use Rattle.bit_strings.specs.BitString.{BitString}
use Rattle.report_lines.proofs.rx_reading.read_rx_line.Goals as goal

pub returns-clause-fields : goal.returns-clause-fields
returns-clause-fields c =
    let three = c.in-Some-three_left in (
      record {
        exchange = three.exchange.now;
        count = three.count.now;
        levels = c.in-Some-new.came;
        are = c.in-Some.ensures.some ∙ ap (λ (others : List (List ℕ)). codes "rx" ∷ others) three.ensures.some
            ∙ ap (λ (levels : List ℕ). codes "rx" ∷ three.exchange.now ∷ three.count.now ∷ levels ∷ []) c.in-Some-new.ensures.value.0;
        number = c.if-not-is_number.ensures.yes refl;
        count_number = c.if-not-is_number-2.ensures.yes refl;
        few = c.in-Some-new.ensures.value.1;
      },
      refl,
      refl,
      sym (ap (λ (b : BitString). b.items) c.copy_to.ensures),
    )
