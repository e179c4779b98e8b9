-- The lines of the six signals, one behind the other.
use Rattle.std.proofs.lemmas.Result.{IfOk-equal}
use Rattle.wave_dump.proofs.DumpTexts.{six_lists}
use Rattle.wave_dump.proofs.signals.push_changes.Goals as goal

pub returns : goal.returns
returns c = IfOk-equal _ _ _ _ c.push_text_value-2.ensures
    (six_lists _ _ _ _ _ _ _ _ _ _ _ _ c.in_ok-push_reader.ensures c.in_ok-push_tag.ensures c.in_ok-push_number_value.ensures
    (rw (c.from.ensures, c.from-2.ensures) at c.in_ok-push_number_value-2.ensures) c.in_ok-push_text_value.ensures)
