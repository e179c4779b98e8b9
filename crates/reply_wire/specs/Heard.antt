-- Profile: what an interrogator heard, as what it makes of it.
use Rattle.std.specs.Prelude.{ℕ, List, Option, Some, None}
use Rattle.reply_grammar.specs.Reception.{Reception, whole_reply}
use Rattle.reply_grammar.specs.declared.expected.Reply.{Reply}
use Rattle.reply_grammar.specs.declared.expected.Reply.TheVariants as replies

-- the RN16 of a reply that is one
abbrev pub rn16_in : Reply → Option ℕ
rn16_in (replies.Rn16 rn) = Some rn
rn16_in reply = None

-- the RN16 that comes whole
abbrev pub rn16_received : Reception → Option ℕ
rn16_received (whole_reply reply) = rn16_in reply
rn16_received reception = None

-- the PC and the EPC of a reply that brings them
abbrev pub pair_in : Reply → Option (ℕ × List ℕ)
pair_in (replies.Epc pc epc) = Some (pc, epc)
pair_in reply = None

-- the PC and the EPC that come whole
abbrev pub pair_received : Reception → Option (ℕ × List ℕ)
pair_received (whole_reply reply) = pair_in reply
pair_received reception = None
