-- The rows of each table are the blocks of four bits, in the order of their numbers.
use Rattle.std.proofs.Common.{◌≡◌, ◌∙◌, List, Bool, [], ap, sym, refl, rules}
use Rattle.std.specs.List.{flat_map}
use Rattle.line_code.proofs.Rows.{row_at}
use Rattle.bit_strings.specs.NumbersInBits.{field_of}
use Rattle.miller_line.specs.FourSymbols.{symbols}
use Rattle.miller_line.specs.declared.subcarrier.TheConstants.{FOUR_SYMBOLS_2, FOUR_SYMBOLS_4, FOUR_SYMBOLS_8}
use Rattle.miller_line.proofs.subcarrier.four_symbols.Goals as goal

-- the levels of a row that has them by halves
abbrev halves : List (List Bool) → List Bool
halves row = flat_map (λ half. half) row

pub returns-in-2 : goal.returns-in-2
unfolding field_of
returns-in-2 c =
    let a = c.args in
    c.as_flattened.ensures.value ∙ row_at halves (symbols 2) FOUR_SYMBOLS_2 [] refl a.start a.number ∙ ap (λ m. symbols m a.start (field_of a.number 4)) (sym c.in-2.is)

pub returns-in-4 : goal.returns-in-4
unfolding field_of
returns-in-4 c =
    let a = c.args in
    c.as_flattened-in-4.ensures.value ∙ row_at halves (symbols 4) FOUR_SYMBOLS_4 [] refl a.start a.number ∙ ap (λ m. symbols m a.start (field_of a.number 4)) (sym c.in-4.is)

pub returns-in_default : goal.returns-in_default
unfolding field_of
returns-in_default c =
    let a = c.args in
    let eight : a.m ≡ 8 = search rules in
    c.as_flattened-in_default.ensures.value ∙ row_at halves (symbols 8) FOUR_SYMBOLS_8 [] refl a.start a.number ∙ ap (λ m. symbols m a.start (field_of a.number 4)) (sym eight)
