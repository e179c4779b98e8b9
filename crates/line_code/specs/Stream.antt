-- What a tag sends for a list of bits (6.3.1.3.2.1 to 6.3.1.3.2.4): the lead, one block for each bit, and the
-- block of a dummy data-1 at the end.
use Rattle.std.specs.Prelude.{◌≡◌, Bool, true, List, [], ◌∷◌, ◌++◌}
use Rattle.line_code.specs.Table.{Context, Table}

-- the blocks of a list of bits, the first of them in this context
abbrev pub blocks : Table → Context → List Bool → List Bool
blocks t c [] = []
blocks t c (bit ∷ bits) = t.block c bit ++ blocks t (t.next c bit) bits

-- the one stream of a list of bits
abbrev pub stream_of : Table → Bool → List Bool → List Bool
stream_of t trext bits = t.lead trext ++ blocks t t.start (bits ++ true ∷ [])

-- the levels are the stream of the bits
abbrev pub IsStream : Table → Bool → List Bool → List Bool → Type 0
IsStream t trext bits levels = levels ≡ stream_of t trext bits

-- the family of the streams of one code and one TRext
abbrev pub Streams : Table → Bool → List Bool → Type 0
Streams t trext levels = (bits : List Bool) × IsStream t trext bits levels
