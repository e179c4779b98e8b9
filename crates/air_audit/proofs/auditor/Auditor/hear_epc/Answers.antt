use Rattle.air_audit.proofs.Names.{◌≡◌, ◌∙◌, Bool, List, ap, subst, AuditorValue, table_of, LinkValue, Received, IsReceived}
use Rattle.reply_grammar.specs.declared.expected.Expect.TheVariants as expects
use Rattle.bit_strings.specs.declared.code.Code.{Code}
use Rattle.air_audit.proofs.auditor.Auditor.hear_epc.Goals as goal

pub returns-clause-received : goal.returns-clause-received
returns-clause-received g c =
    let received : Received = c.receive.new.received in
    let own : LinkValue = c.args.self.now.answers.link in
    let link : c.link-link.result.now ≡ own = c.link-link.ensures ∙ ap (λ (a : AuditorValue). a.answers.link) c.self.view_is in
    let levels : c.levels.result.now.items ≡ c.args.self.now.answers.levels = c.levels.ensures.value ∙ ap (λ (a : AuditorValue). a.answers.levels) c.self.view_is in
    let code : c.code.result ≡ own.code = c.code.ensures.value ∙ ap (λ (l : LinkValue). l.code) link in
    let trext : c.trext.result ≡ own.trext = c.trext.ensures.value ∙ ap (λ (l : LinkValue). l.trext) link in
    let is : IsReceived (table_of own.code) own.trext expects.Epc c.args.self.now.answers.levels received =
    subst (λ (l : List Bool). IsReceived (table_of own.code) own.trext expects.Epc l received) levels
    (subst (λ (t : Bool). IsReceived (table_of own.code) t expects.Epc c.levels.result.now.items received) trext
    (subst (λ (k : Code). IsReceived (table_of k) c.trext.result expects.Epc c.levels.result.now.items received) code c.receive.ensures.received)) in
    (received, is, c.pair_of.ensures)
