use Rattle.air_audit.proofs.Names.{◌≢◌, [], refl, sym, ap, ◌∙◌, AuditorValue, TagLaws}
use Rattle.air_audit.proofs.Received.{lists-received}
use Rattle.air_audit.proofs.auditor.Auditor.pair_to_list.Goals as goal

pub returns-clause-lists : goal.returns-clause-lists
returns-clause-lists g c = λ start past sent is.
    let laws : TagLaws = record { rows = c.answers_are_replies.ensures.reply; range = c.answers_are_replies.ensures.legal; stays = c.steps_keep_tags_legal.ensures.befallen } in
    let ack = c.if-not-is_ack.ensures.yes refl in
    let heard = c.hear_epc.ensures.received in
    let levels = ap (λ (a : AuditorValue). a.answers.levels) c.self.view_is in
    let lent = c.levels.ensures.value in
    let empty = c.is_empty.ensures in
    let test = c.if-is_empty.false in
    let some : c.args.self.now.answers.levels ≢ [] = λ none. let yes = empty.1 (lent ∙ levels ∙ none) in absurd (cc) in
    lists-received laws start past sent c.args.self.now heard.0 c.hear_epc.result
    (record { is = is; rn = ack.0; ack = sym (ap (λ (a : AuditorValue). a.sent) c.self.view_is) ∙ ack.1; some = some; heard = heard.1 }) heard.2
