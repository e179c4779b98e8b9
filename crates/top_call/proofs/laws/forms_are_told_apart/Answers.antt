use Rattle.top_call.proofs.ToldForms.{forms_told}
use Rattle.top_call.proofs.laws.forms_are_told_apart.Goals as goal

pub returns : goal.returns
returns c = forms_told
