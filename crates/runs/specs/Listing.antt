-- Profile: what a run lists: each EPC that comes whole in reply to an ACK, whether a tag sent it or a raw stream brings it.
use Rattle.std.specs.Prelude.{ℕ, List, [], ◌∷◌, ◌++◌}
use Rattle.air_model.specs.Past.{Record, Item, befell, exchanged, operated, ended}
use Rattle.air_model.specs.Reception.{reception_of}
use Rattle.reply_grammar.specs.Reception.{Reception, no_stream, whole_reply}
use Rattle.command_grammar.specs.declared.commands.Command.{Command}
use Rattle.command_grammar.specs.declared.commands.Command.TheVariants as commands
use Rattle.reply_grammar.specs.declared.expected.Expect.TheVariants as expects
use Rattle.reply_grammar.specs.declared.expected.Reply.TheVariants as replies

-- a PC and an EPC, with the round and the slot in which they came
pub record Listed : Type 0 where
  pub round : ℕ
  pub slot : ℕ
  pub pc : ℕ
  pub epc : List ℕ

-- the command is an ACK: what it brings is received as an EPC
abbrev pub reception_of_ack : Record → Command → Reception
reception_of_ack sent (commands.Ack rn) = reception_of expects.Epc sent.given
reception_of_ack sent command = no_stream

abbrev pub listed_from : Record → Reception → List Listed
listed_from sent (whole_reply (replies.Epc pc epc)) = record { round = sent.round; slot = sent.slot; pc = pc; epc = epc } ∷ []
listed_from sent reception = []

-- what a record lists: the EPC that came whole in reply to an ACK, or nothing
abbrev pub listed_by : Record → List Listed
listed_by sent = listed_from sent (reception_of_ack sent sent.command)

-- what a past lists, in the order in which it came
abbrev pub listing_of : List Item → List Listed
listing_of [] = []
listing_of (befell event number ∷ past) = listing_of past
listing_of (exchanged sent ∷ past) = listing_of past ++ listed_by sent
listing_of (operated round slot index result ∷ past) = listing_of past
listing_of (ended round end slots ∷ past) = listing_of past
