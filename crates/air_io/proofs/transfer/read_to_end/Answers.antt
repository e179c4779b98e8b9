use Rattle.std.proofs.Common.{◌≤◌, ◌++◌, List, ℕ, length, take, arith}
use Rattle.air_io.specs.Flow.{TakesBytes}
use Rattle.air_io.specs.ReadEnds.{most_read}
use Rattle.air_io.specs.declared.transfer.ReadEnd.{ReadEnd}
use Rattle.air_io.specs.laws.Flow.{Reads-more}
use Rattle.air_io.proofs.ReadEnds.{IfErr-always, length-append-take, count_within_room, most_read-limit}
use Rattle.air_io.proofs.transfer.read_to_end.Goals as goal

pub returns-then-count-most-clause-too_long : goal.returns-then-count-most-clause-too_long
returns-then-count-most-clause-too_long g c _ =
    let took = c.in-Took.ensures.took in
    let len = length-append-take c.reads.bytes.items c.read.new.buf c.in-Took.count took.1 in
    let within = count_within_room c.deref_mut.result.now c.read.new.buf c.min-room.result c.in-Took.count took.1 c.read.auto.buf in
    (c.reads.bytes.items ++ take c.in-Took.count c.read.new.buf, Reads-more _ _ _ _ _ c.reads.invariant.read took.2, omega arith)

pub returns-then-count-most-clause-part : goal.returns-then-count-most-clause-part
returns-then-count-most-clause-part g c =
    let took = c.in-Took.ensures.took in
    let len = length-append-take c.reads.bytes.items c.read.new.buf c.in-Took.count took.1 in
    let within = count_within_room c.deref_mut.result.now c.read.new.buf c.min-room.result c.in-Took.count took.1 c.read.auto.buf in
    (c.reads.bytes.items ++ take c.in-Took.count c.read.new.buf, Reads-more _ _ _ _ _ c.reads.invariant.read took.2, omega arith)

pub returns-in_err-extend_from_slice-in-Took-clause-part :
    goal.returns-in_err-extend_from_slice-in-Took-clause-part
returns-in_err-extend_from_slice-in-Took-clause-part g c =
    let took = c.in-Took.ensures.took in
    let len = length-append-take c.reads.bytes.items c.read.new.buf c.in-Took.count took.1 in
    let within : (end : ReadEnd) → length (c.reads.bytes.items ++ take c.in-Took.count c.read.new.buf) ≤ most_read end c.args.limit =
    λ end. let least = most_read-limit end c.args.limit in omega arith in
    let read : (end : ReadEnd) → (bytes : List ℕ) × TakesBytes (g.I.Source.left c.args.src.now) (g.I.Source.left c.read.new.self) bytes × (length bytes ≤ most_read end c.args.limit) =
    λ end. (c.reads.bytes.items ++ take c.in-Took.count c.read.new.buf, Reads-more _ _ _ _ _ c.reads.invariant.read took.2, within end) in
    IfErr-always _ _ read
