use Rattle.air_audit.proofs.Names.{◌∙◌, refl, sym, subst, IsNoTxLine, IsNoFrame, AuditReason, IfErr-weaker}
use Rattle.air_audit.proofs.ReadLines.{tx-faulty, tx-other}
use Rattle.air_audit.proofs.SentFrames.{line-refused, line-sends}
use Rattle.air_audit.proofs.sent_frame.SentFrame.read.Goals as goal

pub returns-in-Err-clause-refused : goal.returns-in-Err-clause-refused
returns-in-Err-clause-refused c =
    subst (λ (reason : AuditReason). IsNoTxLine c.args.exchange c.args.line.now reason) (sym c.reason_of.ensures)
    (tx-faulty c.args.exchange c.args.line.now c.in-Err.fault c.requires c.in-Err.ensures.refused)

pub returns-then-not-spells-clause-refused : goal.returns-then-not-spells-clause-refused
returns-then-not-spells-clause-refused c =
    let tx = c.in-Ok.ensures.fields in
    tx-other c.args.exchange c.args.line.now tx.0 (λ same. c.if-not-spells.ensures.no refl (sym tx.1 ∙ same))

pub returns-clause-reads : goal.returns-clause-reads
returns-clause-reads c = λ ok.
    let tx = c.in-Ok.ensures.fields in
    line-sends c.args.exchange c.args.line.now c.read_tx_line.new.intervals.items c.read_frame.new.answer (tx.0, tx.1 ∙ c.if-not-spells.ensures.yes refl, tx.2) (c.read_frame.ensures.reads ok)

pub returns-clause-refused : goal.returns-clause-refused
returns-clause-refused c =
    let tx = c.in-Ok.ensures.fields in
    IfErr-weaker c.read_frame.result (IsNoFrame c.read_tx_line.new.intervals.items) (IsNoTxLine c.args.exchange c.args.line.now)
    (λ reason none. line-refused c.args.exchange c.args.line.now c.read_tx_line.new.intervals.items reason (tx.0, tx.1 ∙ c.if-not-spells.ensures.yes refl, tx.2) none)
    c.read_frame.ensures.refused
