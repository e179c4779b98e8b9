-- Profile: the reasons for which a line of a text is faulty, and their words.
use Rattle.std.specs.Prelude.{ℕ, List, codes}
use Rattle.text_fields.specs.declared.fields_fault.FieldsFault.{FieldsFault}
use Rattle.text_fields.specs.declared.fields_fault.FieldsFault.TheVariants as fields
use Rattle.checked_lines.specs.declared.fault.FaultReason.{FaultReason}
use Rattle.checked_lines.specs.declared.fault.FaultReason.TheVariants.{Extra, End, Version, Word, Order, Limit, Shape, Number, Tari, RtCal, TrCal, Pw, Pc, Copies, Tag, Twice}

-- the reason of a line's fields
abbrev pub reason_of : FieldsFault → FaultReason
reason_of fields.Word = Word
reason_of fields.Shape = Shape
reason_of fields.Number = Number

-- the word by which the fault line of checked lines names this reason
abbrev pub reason_word : FaultReason → List ℕ
reason_word Extra = codes "extra"
reason_word End = codes "end"
reason_word Version = codes "version"
reason_word Word = codes "word"
reason_word Order = codes "order"
reason_word Limit = codes "limit"
reason_word Shape = codes "shape"
reason_word Number = codes "number"
reason_word Tari = codes "tari"
reason_word RtCal = codes "rtcal"
reason_word TrCal = codes "trcal"
reason_word Pw = codes "pw"
reason_word Pc = codes "pc"
reason_word Copies = codes "copies"
reason_word Tag = codes "tag"
reason_word Twice = codes "twice"
