use Rattle.air_audit.proofs.Names.{◌+◌, refl, ap, sym}
use Rattle.air_audit.proofs.Following.{passes-by, sends-not, sends-on, tags-first, tells-or-stops}
use Rattle.air_audit.proofs.auditor.Auditor.go_on.Goals as goal

pub returns-in-Ok-clause-follows : goal.returns-in-Ok-clause-follows
returns-in-Ok-clause-follows g c = λ start past at.
    sends-on start past c.args.line.now c.send.new.self (sym c.in-Tx.ensures.is) (c.in-Ok.ensures.sends refl start past at.keeps)

pub returns-in-Err-clause-follows : goal.returns-in-Err-clause-follows
returns-in-Err-clause-follows g c = λ start past at.
    sends-not start past c.args.line.now (c.args.self.now.exchanges + 1) c.in-Err.reason (sym c.in-Tx.ensures.is) (ap (λ n. n + 1) at.keeps.exchanges)
    c.in-Err.ensures.refused

pub returns-in-Unjudged-clause-follows : goal.returns-in-Unjudged-clause-follows
returns-in-Unjudged-clause-follows g c = λ start past at.
    passes-by start past c.args.line.now c.args.self.now (sym c.in-Unjudged.ensures.is) at

pub returns-in-OfTags-clause-follows : goal.returns-in-OfTags-clause-follows
returns-in-OfTags-clause-follows g c = λ start past at.
    tells-or-stops start past 0 _ (tags-first start past) c.args.line.now (sym c.in-OfTags.ensures.is) c.args.self.now c.tell.new.self at.keeps c.tell.result
    (record { tells = c.tell.ensures.tells; other = c.tell.ensures.other })
