use Rattle.line_objects.proofs.NumbersRead.{spelled_in}
use Rattle.line_objects.proofs.TextValues.{text_told}
use Rattle.line_objects.proofs.laws.fields_are_told.Goals as goal

pub returns : goal.returns
returns c = record { numbers = spelled_in; texts = text_told }
