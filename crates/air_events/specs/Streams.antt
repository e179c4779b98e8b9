-- How many levels a stream has.
use Rattle.std.specs.Prelude.{ℕ, ◌≤◌, Bool, List, length}

-- the longest stream that a tag sends (6.3.1.3.2): the levels of the longest lead, and 16 for each of 8,225 bits and for the dummy
abbrev pub longest_stream : ℕ
longest_stream = 131968

-- a raw stream has a level at least, and no more than the longest stream of a tag
abbrev pub HasStreamLength : List Bool → Type 0
HasStreamLength levels = (1 ≤ length levels) × (length levels ≤ longest_stream)
