-- The text gains the kind and the field of the operation that it is.
use Rattle.std.proofs.Common.{◌++◌, ◌∷◌, ap, sym}
use Rattle.std.specs.String.{string_bytes}
use Rattle.std.proofs.lemmas.Result.{IfOk-equal}
use Rattle.text_fields.specs.Lines.{line_with, space}
use Rattle.access_ops.specs.declared.Op.{Op}
use Rattle.scenario_lines.specs.Names.{op_kind, op_word}
use Rattle.scenario_lines.specs.Spelling.{op_fields}
use Rattle.scenario_lines.proofs.printing.op.next_op.Goals as goal

pub returns-in-Lock : goal.returns-in-Lock
returns-in-Lock c =
    IfOk-equal _ _ _ _ c.next_lock.ensures (ap (λ (op : Op). string_bytes c.args.text.now ++ space ∷ line_with (op_word (op_kind op) ∷ op_fields op)) (sym c.in-Lock.is))

pub returns-in-Access : goal.returns-in-Access
returns-in-Access c =
    IfOk-equal _ _ _ _ c.next_secret.ensures (ap (λ (op : Op). string_bytes c.args.text.now ++ space ∷ line_with (op_word (op_kind op) ∷ op_fields op)) (sym c.in-Access.is))

pub returns-in-Kill : goal.returns-in-Kill
returns-in-Kill c =
    IfOk-equal _ _ _ _ c.next_secret-in-Kill.ensures (ap (λ (op : Op). string_bytes c.args.text.now ++ space ∷ line_with (op_word (op_kind op) ∷ op_fields op)) (sym c.in-Kill.is))
