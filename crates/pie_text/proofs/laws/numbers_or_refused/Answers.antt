use Rattle.pie_text.proofs.Decided.{decided}
use Rattle.pie_text.proofs.laws.numbers_or_refused.Goals as goal

pub returns : goal.returns
returns c = decided
