use Rattle.std.proofs.Common.{◌∙◌, sym}
use Rattle.std.proofs.lemmas.Result.{IfOk-weaker}
use Rattle.line_objects.proofs.FieldPairs.{kind_alone, kind_first}
use Rattle.line_objects.proofs.field_members.members_behind.Goals as goal

pub returns-in_default : goal.returns-in_default
returns-in_default c uris are =
    IfOk-weaker c.plain_members.result _ _ (λ members pairs. pairs ∙ kind_first uris c.args.word.now c.args.fields c.args.keys.now c.in_default.ensures.none) (c.plain_members.ensures uris are)

pub returns-in-None : goal.returns-in-None
returns-in-None c uris are =
    IfOk-weaker c.plain_members-in-None.result _ _
    (λ members pairs. pairs ∙ kind_alone uris c.args.word.now c.args.fields c.args.keys.now (sym c.again-behind.ensures ∙ c.in-None.ensures.steps.0))
    (c.plain_members-in-None.ensures uris are)
