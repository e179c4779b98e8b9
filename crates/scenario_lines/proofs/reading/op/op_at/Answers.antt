-- One operation is spelled so.
use Rattle.std.proofs.Common.{◌<◌, ◌^◌, rules, sym}
use Rattle.access_ops.specs.declared.Op.TheVariants as ops
use Rattle.wire_text.proofs.CommandsToldApart.{block_of_list}
use Rattle.scenario_lines.proofs.OneOp.{at_place, one_op}
use Rattle.scenario_lines.proofs.reading.op.op_at.Goals as goal

pub returns-in_ok-count-in-Read-clause-only : goal.returns-in_ok-count-in-Read-clause-only
returns-in_ok-count-in-Read-clause-only c = λ op kind fields is.
    let value = c.in_ok-count-in-Read.ensures.value in
    one_op (ops.Read c.args.bank c.args.pointer c.in_ok-count-in-Read.field-0) op
    (record { same_kind = sym c.in-Read.is; spelling = at_place c.args.bank c.args.pointer value.0; in_range = (c.requires, value.1) })
    (record { same_kind = kind; spelling = sym fields; in_range = is })

pub returns-in_ok-word-in-Write-clause-only : goal.returns-in_ok-word-in-Write-clause-only
returns-in_ok-word-in-Write-clause-only c = λ op kind fields is.
    let small : c.in_ok-word-in-Write.word < 2 ^ 16 = search rules in
    one_op (ops.Write c.args.bank c.args.pointer c.in_ok-word-in-Write.word) op
    (record { same_kind = sym c.in-Write.is; spelling = at_place c.args.bank c.args.pointer c.in_ok-word-in-Write.ensures.value; in_range = (c.requires, small) })
    (record { same_kind = kind; spelling = sym fields; in_range = is })

pub returns-in_ok-words-in-BlockWrite-clause-only : goal.returns-in_ok-words-in-BlockWrite-clause-only
returns-in_ok-words-in-BlockWrite-clause-only c = λ op kind fields is.
    let value = c.in_ok-words-in-BlockWrite.ensures.value in
    let block = block_of_list c.in_ok-words-in-BlockWrite.words value.1 in
    one_op (ops.BlockWrite c.args.bank c.args.pointer c.in_ok-words-in-BlockWrite.words) op
    (record { same_kind = sym c.in-BlockWrite.is; spelling = at_place c.args.bank c.args.pointer value.0; in_range = (c.requires, block.0, block.1, block.2) })
    (record { same_kind = kind; spelling = sym fields; in_range = is })

pub returns-in_ok-count-in-BlockErase-clause-only : goal.returns-in_ok-count-in-BlockErase-clause-only
returns-in_ok-count-in-BlockErase-clause-only c = λ op kind fields is.
    let value = c.in_ok-count-in-BlockErase.ensures.value in
    one_op (ops.BlockErase c.args.bank c.args.pointer c.in_ok-count-in-BlockErase.count) op
    (record { same_kind = sym c.in-BlockErase.is; spelling = at_place c.args.bank c.args.pointer value.0; in_range = (c.requires, value.1, value.2) })
    (record { same_kind = kind; spelling = sym fields; in_range = is })
