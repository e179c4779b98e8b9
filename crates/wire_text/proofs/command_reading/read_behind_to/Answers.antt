use Rattle.wire_text.proofs.NoSelect.{no_select_read}
use Rattle.wire_text.proofs.command_reading.read_behind_to.Goals as goal

pub returns-in-Select-clause-none : goal.returns-in-Select-clause-none
returns-in-Select-clause-none c =
    no_select_read c.read_select_to.result c.args.kind c.args.fields c.in-Select.is c.read_select_to.ensures.none
