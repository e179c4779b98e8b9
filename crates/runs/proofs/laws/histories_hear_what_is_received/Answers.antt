use Rattle.runs.proofs.Names.{◌∷◌, ◌++◌, [], exchanged, start_of, history}
use Rattle.runs.proofs.MadeRecords.{behind-record, recorded-expected, recorded-unmistakable, made-read}
use Rattle.runs.proofs.laws.histories_hear_what_is_received.Goals as goal

pub returns-clause-inventory : goal.returns-clause-inventory
returns-clause-inventory c = λ scenario sent earlier expect received is recorded asked got heard.
    let made = c.records_follow_from_the_past.ensures (start_of scenario) scenario.steps sent earlier recorded in
    let legal = c.histories_keep_tags_legal.ensures scenario (recorded.later ++ exchanged sent ∷ []) earlier is (behind-record (history scenario) sent earlier recorded) in
    c.reception_law.ensures.stream scenario.link expect sent.given received
    (recorded-expected (record { rows = c.answers_are_replies.ensures.reply; range = c.answers_are_replies.ensures.legal; stays = c.steps_keep_tags_legal.ensures.befallen }) (start_of scenario) sent earlier expect made legal asked)
    (made-read (start_of scenario) sent earlier made) got heard

pub returns-clause-operations : goal.returns-clause-operations
returns-clause-operations c = λ scenario sent earlier expect extended received is recorded asked got heard.
    let made = c.records_follow_from_the_past.ensures (start_of scenario) scenario.steps sent earlier recorded in
    let legal = c.histories_keep_tags_legal.ensures scenario (recorded.later ++ exchanged sent ∷ []) earlier is (behind-record (history scenario) sent earlier recorded) in
    c.reception_law.ensures.with scenario.link extended expect sent.given received
    (recorded-unmistakable (record { rows = c.answers_are_replies.ensures.reply; range = c.answers_are_replies.ensures.legal; stays = c.steps_keep_tags_legal.ensures.befallen }) (start_of scenario) sent earlier expect extended made legal asked)
    (made-read (start_of scenario) sent earlier made) got heard
