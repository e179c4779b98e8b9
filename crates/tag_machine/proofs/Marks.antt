-- The mark of an answer says which preamble it has.
use Rattle.std.proofs.Common.{◌≡◌, Bool, Option, Some, None, if◌then◌else◌, refl, ◌∙◌, ap}
use Rattle.command_grammar.specs.declared.commands.Command.{Command}
use Rattle.tag_machine.specs.TagValue.{StateValue, BodyValue}
use Rattle.tag_machine.specs.Answers.{Sent}
use Rattle.tag_machine.specs.laws.Extended.{is_extended}
use Rattle.tag_machine.specs.Step.{step}
use Rattle.tag_machine.specs.declared.any_tag.Answered.{Answered}
use Rattle.tag_machine.specs.declared.any_tag.Answered.TheVariants.{Silent, Plain, Extended}
use Rattle.tag_machine.specs.Hearing.{mark_of}
use Rattle.tag_machine.proofs.StepFacts.{step_facts}

marked_by : (answer : Option Sent) (delayed : Bool) (answered : Answered) → answered ≡ mark_of answer → (answered ≡ Silent → ⊥) → ((sent : Sent) → answer ≡ Some sent → sent.extended ≡ delayed) → answered ≡ (if delayed then Extended else Plain)
marked_by None delayed answered is not_silent marks = absurd (not_silent is)
marked_by (Some sent) delayed answered is not_silent marks = is ∙ ap (λ (b : Bool). if b then Extended else Plain) (marks sent refl)

pub marked : (command : Command) (state : StateValue) (body : BodyValue) (answered : Answered) → answered ≡ mark_of (step command state body).answer → (answered ≡ Silent → ⊥) → answered ≡ (if is_extended command state then Extended else Plain)
marked command state body answered is not_silent =
    marked_by (step command state body).answer (is_extended command state) answered is not_silent (λ sent one. ((step_facts command state body).sent sent one).marked)
