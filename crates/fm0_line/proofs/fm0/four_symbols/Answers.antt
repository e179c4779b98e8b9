-- The rows of the table are the blocks of four bits, in the order of their numbers.
use Rattle.std.proofs.Common.{Bool, true, List, [], refl}
use Rattle.line_code.specs.Stream.{blocks}
use Rattle.line_code.proofs.Rows.{row_at}
use Rattle.bit_strings.specs.NumbersInBits.{field_of}
use Rattle.fm0_line.specs.Fm0.{fm0}
use Rattle.fm0_line.specs.declared.fm0.TheConstants.{FOUR_SYMBOLS}
use Rattle.fm0_line.proofs.fm0.four_symbols.Goals as goal

-- the blocks of four bits, by the level before them
abbrev symbols : Bool → List Bool → List Bool
symbols before bits = blocks fm0 (record { before = true; phase = before }) bits

pub returns : goal.returns
unfolding field_of
returns c = row_at (λ row. row) symbols FOUR_SYMBOLS [] refl c.args.before c.args.number
