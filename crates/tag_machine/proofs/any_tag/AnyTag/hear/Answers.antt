use Rattle.std.proofs.Common.{◌∙◌, ap}
use Rattle.tag_machine.specs.TagValue.{TagValue}
use Rattle.tag_machine.specs.Answers.{Outcome}
use Rattle.tag_machine.specs.Hearing.{tag_value_of, mark_of}
use Rattle.tag_machine.proofs.AbsentTags.{absent}
use Rattle.tag_machine.proofs.Marks.{marked}
use Rattle.tag_machine.proofs.StepFacts.{step_facts}
use Rattle.tag_machine.proofs.any_tag.AnyTag.hear.Goals as goal

pub returns-clause-isolated : goal.returns-clause-isolated
returns-clause-isolated g c =
    rw c.take.ensures.tag (step_facts c.args.command.now (tag_value_of c.args.self).state (tag_value_of c.args.self).body).isolated

pub returns-clause-marked : goal.returns-clause-marked
returns-clause-marked g c =
    marked c.args.command.now (tag_value_of c.args.self).state (tag_value_of c.args.self).body c.take.result.answered c.take.ensures.answered

pub returns-clause-refused : goal.returns-clause-refused
returns-clause-refused g c = λ sent code is error.
    ap (λ (tag : TagValue). tag.body) c.take.ensures.tag
    ∙ ((step_facts c.args.command.now (tag_value_of c.args.self).state (tag_value_of c.args.self).body).sent sent is).refused code error

pub returns-clause-absent : goal.returns-clause-absent
returns-clause-absent g c = λ gone.
    let same = absent c.args.command.now (tag_value_of c.args.self).state (tag_value_of c.args.self).body gone in
    (c.take.ensures.tag ∙ ap (λ (o : Outcome). o.tag) same, c.take.ensures.answered ∙ ap (λ (o : Outcome). mark_of o.answer) same)
