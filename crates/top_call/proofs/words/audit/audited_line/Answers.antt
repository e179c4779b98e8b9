use Rattle.std.proofs.Common.{◌≡◌, length, arith, subst}
use Rattle.std.specs.Prelude.{vec_len}
use Rattle.air_audit.specs.AuditorStanding.{AreAsGiven}
use Rattle.tag_machine.specs.Hearing.{tag_value_of}
use Rattle.top_call.proofs.AuditEnds.{given-tags}
use Rattle.top_call.proofs.words.audit.audited_line.Goals as goal

pub audit-requires-clause-given : goal.audit-requires-clause-given
audit-requires-clause-given c =
    let count : length c.in_ok-tags.tags.items ≡ vec_len c.in_ok-tags.tags = omega (arith, c.in_ok-tags.tags.ok.0) in
    subst (λ n. AreAsGiven n c.args.scenario.entries) count
    (given-tags tag_value_of c.in_ok-tags.tags.items c.args.scenario c.requires.scenario c.in_ok-tags.ensures)
