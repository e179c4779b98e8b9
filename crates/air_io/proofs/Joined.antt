-- Parts of a piece that writes add one after another.
use Rattle.std.proofs.Common.{ℕ, List, Option, ◌+◌, ◌-◌, length, take, drop}
use Rattle.std.proofs.lemmas.List.{take_rest}
use Rattle.std.proofs.Math.Seq.{take-add}
use Rattle.air_io.specs.Flow.{Adds}
use Rattle.air_io.specs.laws.Flow.{Adds-more}

-- the first `done` bytes of a piece, and then the first `count` of the rest
pub Adds-next : (old between new : Option (List ℕ)) (piece : List ℕ) (done count : ℕ) → Adds old between (take done piece) → Adds between new (take count (take (length piece - done) (drop done piece))) → Adds old new (take (done + count) piece)
Adds-next old between new piece done count first second =
    rw take-add (Adds-more old between new (take done piece) (take count (drop done piece)) first (rw take_rest at second))
