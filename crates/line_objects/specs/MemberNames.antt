-- Profile: the members of the objects of lines: what each is called, and what its value is made of.
use Rattle.std.specs.Prelude.{ℕ, List, codes}
use Rattle.line_objects.specs.declared.member_names.Key.{Key}
use Rattle.line_objects.specs.declared.member_names.Key.TheVariants as keys
use Rattle.line_objects.specs.declared.member_names.Shape.{Shape}
use Rattle.line_objects.specs.declared.member_names.Shape.TheVariants.{Number, Text, EpcText, PlaceOrReason, Joint}

-- what a member is called; a place or a reason has the name of what it is
abbrev pub key_name : Key → List ℕ
key_name keys.Action = codes "action"
key_name keys.Bank = codes "bank"
key_name keys.Bits = codes "bits"
key_name keys.Code = codes "code"
key_name keys.Command = codes "command"
key_name keys.Count = codes "count"
key_name keys.Cover = codes "cover"
key_name keys.Covered = codes "covered"
key_name keys.Dr = codes "dr"
key_name keys.End = codes "end"
key_name keys.Epc = codes "epc"
key_name keys.EpcBank = codes "epc"
key_name keys.EpcWords = codes "words"
key_name keys.Error = codes "error"
key_name keys.Exchange = codes "exchange"
key_name keys.Flags = codes "flags"
key_name keys.Given = codes "given"
key_name keys.Half = codes "half"
key_name keys.Handle = codes "handle"
key_name keys.Index = codes "index"
key_name keys.Levels = codes "levels"
key_name keys.Line = codes "line"
key_name keys.Locks = codes "locks"
key_name keys.Mask = codes "mask"
key_name keys.Payload = codes "payload"
key_name keys.Pc = codes "pc"
key_name keys.Or = codes "or"
key_name keys.OrPreamble = codes "or"
key_name keys.Place = codes "place"
key_name keys.Pointer = codes "pointer"
key_name keys.Preamble = codes "preamble"
key_name keys.Ptr = codes "ptr"
key_name keys.Q = codes "q"
key_name keys.Reason = codes "reason"
key_name keys.Refused = codes "reason"
key_name keys.Reply = codes "reply"
key_name keys.Reserved = codes "res"
key_name keys.Result = codes "result"
key_name keys.Rn = codes "rn"
key_name keys.Rn16 = codes "rn16"
key_name keys.Round = codes "round"
key_name keys.RtCal = codes "rtcal"
key_name keys.Sel = codes "sel"
key_name keys.Session = codes "session"
key_name keys.Slot = codes "slot"
key_name keys.Slots = codes "slots"
key_name keys.State = codes "state"
key_name keys.StateOf = codes "state"
key_name keys.Tag = codes "tag"
key_name keys.TagNumber = codes "number"
key_name keys.Target = codes "target"
key_name keys.Tari = codes "tari"
key_name keys.Tid = codes "tid"
key_name keys.TrCal = codes "trcal"
key_name keys.TrExt = codes "trext"
key_name keys.UpDn = codes "updn"
key_name keys.Uri = codes "uri"
key_name keys.User = codes "user"
key_name keys.Value = codes "value"
key_name keys.Wanted = codes "preamble"
key_name keys.Words = codes "words"

-- what the value of a member is made of, in the object of a line
abbrev pub key_shape : Key → Shape
key_shape keys.Action = Number
key_shape keys.Count = Number
key_shape keys.Dr = Number
key_shape keys.Exchange = Number
key_shape keys.Index = Number
key_shape keys.Line = Number
key_shape keys.Place = Number
key_shape keys.Pointer = Number
key_shape keys.Ptr = Number
key_shape keys.Q = Number
key_shape keys.Round = Number
key_shape keys.RtCal = Number
key_shape keys.Session = Number
key_shape keys.Slot = Number
key_shape keys.Slots = Number
key_shape keys.Tag = Number
key_shape keys.TagNumber = Number
key_shape keys.Tari = Number
key_shape keys.TrCal = Number
key_shape keys.TrExt = Number
key_shape keys.Epc = EpcText
key_shape keys.EpcWords = EpcText
key_shape keys.Refused = PlaceOrReason
key_shape keys.Or = Joint
key_shape key = Text
