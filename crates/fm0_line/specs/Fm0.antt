-- FM0 baseband (6.3.1.3.2.1): the level inverts at each boundary of a symbol, and a data-0 inverts in its middle too.
use Rattle.std.specs.Prelude.{ℕ, zero, suc, Bool, true, false, not, List, [], ◌∷◌, ◌++◌}
use Rattle.line_code.specs.Table.{Context, Table}

-- the second level of a symbol: that of the first in a data-1, its inverse in a data-0
abbrev pub fm0_second : Bool → Bool → Bool
fm0_second first true = first
fm0_second first false = not first

-- the first level is the inverse of the level before
abbrev pub fm0_block : Context → Bool → List Bool
fm0_block c bit = not c.phase ∷ fm0_second (not c.phase) bit ∷ []

-- the phase of a context is the last level of the symbol before
abbrev pub fm0_next : Context → Bool → Context
fm0_next c bit = record { before = bit; phase = fm0_second (not c.phase) bit }

-- 6.3.1.3.2.2: the symbols 1, 0, 1, 0, v, 1, where v lacks its inversion at the boundary; the first level is 1 (profile)
abbrev pub fm0_preamble : List Bool
fm0_preamble = true ∷ true ∷ false ∷ true ∷ false ∷ false ∷ true ∷ false ∷ false ∷ false ∷ true ∷ true ∷ []

-- a number of data-0 symbols that begin with a high level
abbrev pub fm0_zeros : ℕ → List Bool
fm0_zeros zero = []
fm0_zeros (suc n) = true ∷ false ∷ fm0_zeros n

-- TRext 1 puts twelve data-0 symbols before the preamble
abbrev pub fm0_lead : Bool → List Bool
fm0_lead false = fm0_preamble
fm0_lead true = fm0_zeros 12 ++ fm0_preamble

-- the code; data begins as after a data-1 that ended with a high level
abbrev pub fm0 : Table
fm0 = record { lead = fm0_lead; start = record { before = true; phase = true }; block = fm0_block; next = fm0_next }
