-- The context of a bit, by the symbol before it.
use Rattle.line_code.specs.Table.{Context}
use Rattle.miller_line.specs.declared.subcarrier.SymbolBefore.{SymbolBefore}

-- what a bit's block depends on: the bit of the symbol before it, and the phase in which that ended
abbrev pub context : SymbolBefore → Context
context symbol = record { before = symbol.bit; phase = symbol.phase }
