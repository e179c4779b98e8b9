use Rattle.line_objects.proofs.NumbersRead.{number_read}
use Rattle.line_objects.proofs.values.number_in.Goals as goal

pub returns : goal.returns
returns c = number_read c.args.field.now c.spelled_number.result c.spelled_number.ensures.value c.spelled_number.ensures.only
