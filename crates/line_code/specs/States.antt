-- The decoder's three states (profile): what a contract sees of each, and for which list of levels it stands.
use Rattle.std.specs.Prelude.{◌≡◌, ℕ, ◌<◌, Bool, true, false, List, [], ◌∷◌, ◌++◌, length, take, Option, Some, None, IsTrue, ◌↔◌}
use Rattle.line_code.specs.Table.{Context, Table}
use Rattle.line_code.specs.Stream.{blocks, IsStream}

-- before the data: the TRext, and how many levels were taken
pub record SeekingValue : Type 0 where
  pub trext : Bool
  pub taken : ℕ

-- in the data: the context of the block that is begun, how many of its levels were taken, whether it may still be
-- the block of 0 and of 1, how many levels were taken in all, how many bits were put, and the last of them
pub record InsideValue : Type 0 where
  pub context : Context
  pub place : ℕ
  pub zero_fits : Bool
  pub one_fits : Bool
  pub taken : ℕ
  pub put : ℕ
  pub last : Option Bool

-- behind a whole stream: how many bits it has
pub record EndedValue : Type 0 where
  pub bits : ℕ

-- the buffer that the bits go to, over one call: what stood in it before the bits of the stream, and all that it
-- has before the call and behind it
pub record Buffer : Type 0 where
  pub stood : List Bool
  pub old : List Bool
  pub new : List Bool

-- the levels are the first ones of the lead, and not the whole lead
pub record Seeks (t : Table) (trext : Bool) (state : SeekingValue) (levels : List Bool) : Type 0 where
  pub trext_is : state.trext ≡ trext
  pub levels_are : levels ≡ take state.taken (t.lead trext)
  pub inside : state.taken < length (t.lead trext)

-- whether the block that is begun may still be that of a bit
abbrev pub fits_of : InsideValue → Bool → Bool
fits_of state false = state.zero_fits
fits_of state true = state.one_fits

-- the last of the bits, if there is one
abbrev pub LastIs : List Bool → Option Bool → Type 0
LastIs bits None = bits ≡ []
LastIs bits (Some bit) = (front : List Bool) × (bits ≡ front ++ bit ∷ [])

-- the context behind these bits
abbrev pub context_after : Table → Context → List Bool → Context
context_after t c [] = c
context_after t c (bit ∷ bits) = context_after t (t.next c bit) bits

-- the levels are the lead, the blocks of these bits, and a part of a further block that is not whole
pub record Reads (t : Table) (trext : Bool) (state : InsideValue) (levels bits : List Bool) : Type 0 where
  pub part : List Bool
  pub levels_are : levels ≡ t.lead trext ++ (blocks t t.start bits ++ part)
  pub context_is : state.context ≡ context_after t t.start bits
  pub place_is : state.place ≡ length part
  pub begun : (bit : Bool) → state.place < length (t.block state.context bit)
  pub fits_is : (bit : Bool) → IsTrue (fits_of state bit) ↔ (part ≡ take state.place (t.block state.context bit))
  pub some_bit : Bool
  pub some_fits : IsTrue (fits_of state some_bit)
  pub taken_is : state.taken ≡ length levels
  pub put_is : state.put ≡ length bits
  pub last_is : LastIs bits state.last

-- the levels are the lead and the blocks of these bits, and this is the context of the next block
pub record HasBlocks (t : Table) (trext : Bool) (context : Context) (levels bits : List Bool) : Type 0 where
  pub levels_are : levels ≡ t.lead trext ++ blocks t t.start bits
  pub context_is : context ≡ context_after t t.start bits

-- the levels are the stream of these bits
pub record Ends (t : Table) (trext : Bool) (state : EndedValue) (levels bits : List Bool) : Type 0 where
  pub stream : IsStream t trext bits levels
  pub bits_is : state.bits ≡ length bits
