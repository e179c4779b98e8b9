use Rattle.std.proofs.Common.{◌≤◌, ◌++◌, List, [], Option, Some, None, ℕ, length, take, refl, arith, length-append}
use Rattle.air_io.specs.Flow.{TakesBytes}
use Rattle.air_io.specs.laws.Flow.{Reads-more}
use Rattle.air_io.specs.ReadEnds.{most_read}
use Rattle.air_io.specs.declared.transfer.ReadEnd.{ReadEnd}
use Rattle.air_io.proofs.ReadEnds.{IfErr-always, length-append-take, count_within_room, most_read-limit}
use Rattle.decode_lines.proofs.source.answer_source.Goals as goal

-- before anything was read nothing was taken
nothing_taken : (left : Option (List ℕ)) → TakesBytes left left []
nothing_taken None = refl
nothing_taken (Some bytes) = refl

pub reads-init : goal.reads-init
reads-init g c = record {
  buffer = c.in_ok-buffer.ensures;
  most = omega (arith, c.requires);
  within = omega arith;
  number = omega (arith, c.in_ok-answering.ensures.number);
  bytes = [];
  size = refl;
  taken = nothing_taken (g.I.Source.left c.args.source.now);
  stands = c.in_ok-answering.ensures.stands;
  count = refl;
}

pub returns-then-count-most-clause-too_long : goal.returns-then-count-most-clause-too_long
returns-then-count-most-clause-too_long g c _ =
    let took = c.in-Took.ensures.took in
    let bytes = c.reads.invariant.bytes in
    let size = c.reads.invariant.size in
    let len = length-append-take bytes c.read.new.buf c.in-Took.count took.1 in
    let within = count_within_room c.deref_mut.result.now c.read.new.buf c.min-room.result c.in-Took.count took.1 c.read.auto.buf in
    (bytes ++ take c.in-Took.count c.read.new.buf, Reads-more _ _ _ _ _ c.reads.invariant.taken took.2, omega arith)

pub returns-then-count-most-clause-part : goal.returns-then-count-most-clause-part
returns-then-count-most-clause-part g c =
    let it = returns-then-count-most-clause-too_long g c refl in (it.0, it.1, omega (arith, it.2))

pub returns-in_err-take-in-Took-clause-part : goal.returns-in_err-take-in-Took-clause-part
returns-in_err-take-in-Took-clause-part g c =
    let took = c.in-Took.ensures.took in
    let bytes = c.reads.invariant.bytes in
    let size = c.reads.invariant.size in
    let len = length-append-take bytes c.read.new.buf c.in-Took.count took.1 in
    let within : (end : ReadEnd) → length (bytes ++ take c.in-Took.count c.read.new.buf) ≤ most_read end c.args.limit =
    λ end. let least = most_read-limit end c.args.limit in omega arith in
    let read : (end : ReadEnd) → (bytes : List ℕ) × TakesBytes (g.I.Source.left c.args.source.now) (g.I.Source.left c.read.new.self) bytes × (length bytes ≤ most_read end c.args.limit) =
    λ end. (bytes ++ take c.in-Took.count c.read.new.buf, Reads-more _ _ _ _ _ c.reads.invariant.taken took.2, within end) in
    IfErr-always _ _ read

pub reads-preserved : goal.reads-preserved
reads-preserved g c =
    let took = c.in-Took.ensures.took in
    let old = c.reads.invariant in
    let size = old.size in
    let taken = length-append-take old.bytes c.read.new.buf c.in-Took.count took.1 in
    let joined = length-append old.bytes (take c.in-Took.count c.read.new.buf) in
    let room = c.if-count-most.false in
    let number = old.number in
    let more = c.take.ensures.number in
    let counted = c.in-Took.ensures.steady in
    let before = old.count in
    let within = old.within in
    record {
      buffer = old.buffer;
      most = old.most;
      within = omega arith;
      number = omega arith;
      bytes = old.bytes ++ take c.in-Took.count c.read.new.buf;
      size = omega arith;
      taken = Reads-more _ _ _ _ _ old.taken took.2;
      stands = c.in_ok-take-in-Took.ensures.stands old.bytes old.stands;
      count = omega arith;
    }
