use Rattle.std.proofs.Common.{◌∙◌, ap, length, List}
use Rattle.tag_machine.specs.TagValue.{TagValue}
use Rattle.tag_machine.specs.TagsInExchange.{replies_from}
use Rattle.tag_population.proofs.EventsOnTags.{length-heard, sent_all}
use Rattle.tag_population.specs.Answers.{AnswersValue, answers_of}
use Rattle.tag_population.specs.Hearing.{hearing_from}
use Rattle.tag_population.proofs.population.Population.hear.Goals as goal

pub returns-clause-tags : goal.returns-clause-tags
returns-clause-tags g c =
    let heard = rw c.call_for.ensures.called.outcomes at c.hear_reached.ensures.heard in
    rw (← c.self.view_is) heard.tags

pub returns-clause-count : goal.returns-clause-count
returns-clause-count g c =
    let heard = rw c.call_for.ensures.called.outcomes at c.hear_reached.ensures.heard in
    rw (← c.self.view_is) (ap (λ (l : List TagValue). length l) heard.tags ∙ length-heard 0 c.args.command.now c.args.entry.now c.self.inside.floor.tags)

pub returns-clause-answers : goal.returns-clause-answers
returns-clause-answers g c =
    let heard = rw c.call_for.ensures.called.outcomes at c.hear_reached.ensures.heard in
    rw (← c.self.view_is)
    (heard.answers
    ∙ ap (λ (a : AnswersValue). let kept : AnswersValue = record { items = answers_of (replies_from 0 (hearing_from 0 c.args.command.now c.args.entry.now c.self.inside.floor.tags)); tags = a.tags } in kept) c.clear.ensures)

pub returns-clause-sent : goal.returns-clause-sent
returns-clause-sent g c = rw (← c.self.view_is) (sent_all 0 c.args.command.now c.args.entry.now c.self.inside.floor.tags c.len-few.ensures.legal)

pub invariant_of-self : goal.invariant_of-self
invariant_of-self g c = (c.hear_reached.ensures.heard.settled, c.remove_all.ensures)
