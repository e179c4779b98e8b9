-- What reads of at most so many bytes come to.
use Rattle.std.proofs.Common.{◌≡◌, ℕ, ◌+◌, ◌≤◌, List, ◌++◌, length, take, Result, Ok, Err, IfErr, arith, length-append, length-take}
use Rattle.air_io.specs.ReadEnds.{most_read}
use Rattle.air_io.specs.declared.transfer.ReadEnd.{ReadEnd}
use Rattle.air_io.specs.declared.transfer.ReadEnd.TheVariants.{Fault, TooLong, OutOfMemory}

-- how many items there are with so many of a buffer behind them
pub length-append-take : (items buf : List ℕ) (count : ℕ) → count ≤ length buf → length (items ++ take count buf) ≡ length items + count
length-append-take items buf count within = grind (arith, length-append, length-take)

-- a count within a buffer that is the first `room` of something is within the room
pub count_within_room : (whole buf : List ℕ) (room count : ℕ) → count ≤ length buf → length buf ≡ length (take room whole) → count ≤ room
count_within_room whole buf room count within same = grind (arith, length-take)

-- the limit is never more than what may be read
pub most_read-limit : (end : ReadEnd) (limit : ℕ) → limit ≤ most_read end limit
most_read-limit Fault limit = omega arith
most_read-limit TooLong limit = omega arith
most_read-limit OutOfMemory limit = omega arith

-- what holds of each error holds at a refusal
pub IfErr-always : {T E : Type 0} (result : Result T E) (P : E → Type 0) → ((error : E) → P error) → IfErr result P
IfErr-always (Ok value) P holds = tt
IfErr-always (Err error) P holds = holds error
