-- Miller-modulated subcarrier (6.3.1.3.2.3 and 6.3.1.3.2.4). A symbol has 2 M levels, M of 2, 4 or 8: two halves of M levels.
use Rattle.std.specs.Prelude.{◌≡◌, ◌⊎◌, ℕ, zero, suc, ◌*◌, Bool, true, false, not, List, [], ◌∷◌, ◌++◌}
use Rattle.line_code.specs.Table.{Context, Table}

-- M of one of the three codes
abbrev pub IsOneOfThree : ℕ → Type 0
IsOneOfThree m = (m ≡ 2) ⊎ ((m ≡ 4) ⊎ (m ≡ 8))

-- a number of levels of the subcarrier: high and low in turn, the first of them high in phase 0, which is false
abbrev pub carrier : ℕ → Bool → List Bool
carrier zero phase = []
carrier (suc n) phase = not phase ∷ carrier n (not phase)

-- a symbol, by the phases of its halves
abbrev pub symbol : ℕ → Bool → Bool → List Bool
symbol m start middle = carrier m start ++ carrier m middle

-- the phase at the start of a data-0: unchanged after a data-1, inverted after a data-0
abbrev pub zero_start : Bool → Bool → Bool
zero_start true phase = phase
zero_start false phase = not phase

-- the phase at a symbol's start
abbrev pub start_phase : Context → Bool → Bool
start_phase c true = c.phase
start_phase c false = zero_start c.before c.phase

-- the phase from the middle of a symbol on: a data-1 inverts it there, a data-0 leaves it
abbrev pub middle_phase : Bool → Bool → Bool
middle_phase start true = not start
middle_phase start false = start

-- the levels of a bit: its symbol, which begins in the phase that the context gives
abbrev pub miller_block : ℕ → Context → Bool → List Bool
miller_block m c bit = symbol m (start_phase c bit) (middle_phase (start_phase c bit) bit)

-- the phase of a context is that in which the symbol before ended
abbrev pub miller_next : Context → Bool → Context
miller_next c bit = record { before = bit; phase = middle_phase (start_phase c bit) bit }

-- the bits 0 1 0 1 1 1, of which the first 0 goes on without inversion, by the phases of their halves
abbrev pub miller_preamble : ℕ → List Bool
miller_preamble m =
    symbol m false false ++ symbol m false true ++ symbol m true true
    ++ symbol m true false ++ symbol m false true ++ symbol m true false

-- the pilot in phase 0 without inversion: 4 symbols, or 16 with TRext 1; the first level is 1 (profile)
abbrev pub miller_lead : ℕ → Bool → List Bool
miller_lead m false = carrier (8 * m) false ++ miller_preamble m
miller_lead m true = carrier (32 * m) false ++ miller_preamble m

-- the code of this M; data begins as after a data-1 that ended in phase 0
abbrev pub miller : ℕ → Table
miller m = record { lead = miller_lead m; start = record { before = true; phase = false }; block = miller_block m; next = miller_next }
