use Rattle.std.proofs.Common.{◌∙◌, ◌++◌, ap, List, ℕ}
use Rattle.std.proofs.lemmas.Result.{IfOk-equal}
use Rattle.wire_text.specs.PasswordsAndLocks.{locks_text}
use Rattle.scenario_lines.proofs.LinePieces.{three_fields}
use Rattle.scenario_lines.proofs.printing.tag.next_secrets.Goals as goal

pub returns : goal.returns
returns c = IfOk-equal _ _ _ _ c.push_locks.ensures
    (ap (λ (l : List ℕ). l ++ locks_text c.args.locks.now) c.in_ok-push_str.ensures.bytes ∙ three_fields _ _ _ _ c.in_ok-push_next_password.ensures c.in_ok-push_next_password-2.ensures)
