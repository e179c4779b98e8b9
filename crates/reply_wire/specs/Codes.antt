-- The line codes that the field M of Query names (6.3.2.11.2.1), as tables.
use Rattle.std.specs.Prelude.{ℕ}
use Rattle.bit_strings.specs.declared.code.Code.{Code}
use Rattle.bit_strings.specs.declared.code.Code.TheVariants.{Fm0, M2, M4, M8}
use Rattle.line_code.specs.Table.{Table}
use Rattle.fm0_line.specs.Fm0.{fm0}
use Rattle.miller_line.specs.Miller.{miller}

-- the table of a code
abbrev pub table_of : Code → Table
table_of Fm0 = fm0
table_of M2 = miller 2
table_of M4 = miller 4
table_of M8 = miller 8

-- how many levels a bit has in a code
abbrev pub chips_of : Code → ℕ
chips_of Fm0 = 2
chips_of M2 = 4
chips_of M4 = 8
chips_of M8 = 16
