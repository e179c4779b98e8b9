use Rattle.air_audit.proofs.Names.{sym}
use Rattle.air_audit.proofs.Following.{tags-next, tells-or-stops}
use Rattle.air_audit.proofs.auditor.Auditor.tell_on.Goals as goal

pub returns-in-OfTags-clause-follows : goal.returns-in-OfTags-clause-follows
returns-in-OfTags-clause-follows g c = λ start past keeps.
    tells-or-stops start past c.args.told _ (tags-next start past c.args.told) c.args.line.now (sym c.in-OfTags.ensures.is) c.args.self.now c.tell.new.self keeps c.tell.result
    (record { tells = c.tell.ensures.tells; other = c.tell.ensures.other })
