use Rattle.std.proofs.Common.{◌∙◌, None, subst, sym}
use Rattle.tag_machine.specs.Hearing.{tag_value_of}
use Rattle.log_judge.specs.Explaining.{ByTables}
use Rattle.log_judge.specs.Log.{Exchange}
use Rattle.log_judge.specs.laws.Known.{Known}
use Rattle.log_judge.specs.Answers.{seen_in}
use Rattle.log_judge.specs.KnownTag.{Goes}
use Rattle.log_judge.proofs.Tests.{nothing_seen}
use Rattle.log_judge.proofs.Showing.{no_command_explained}
use Rattle.log_judge.proofs.known_tag.KnownTag.hear_no_command.Goals as goal

pub returns-else-is_some : goal.returns-else-is_some
returns-else-is_some c =
    let seen = seen_in c.args.seen.now in
    subst (λ (k : Known). Goes ByTables k (Exchange None seen) k) c.self.view_is
    (no_command_explained (tag_value_of c.self.inside.tag) c.self.inside.most seen c.self.invariant.1 (nothing_seen seen (sym c.is_some.ensures ∙ c.if-is_some.false)))
