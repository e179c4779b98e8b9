-- Profile: which tags a history lists, by their numbers. Two tags may have one EPC, but never one number.
use Rattle.std.specs.Prelude.{ℕ, ◌==◌, ◌&&◌, Bool, List, [], ◌∷◌, ◌++◌, if◌then◌else◌}
use Rattle.air_model.specs.Channel.{Given, silence, whole, broken, raw}
use Rattle.air_model.specs.Past.{Record, Item, befell, exchanged, operated, ended}
use Rattle.runs.specs.Listing.{Listed, listed_by}
use Rattle.tag_memory.specs.Memory.{Banks, pc_of, epc_of}
pub use Rattle.two_portals.specs.Played.{times}

-- who sent what the channel gave whole; a raw stream names no sender
abbrev pub sender_in : Given → List ℕ
sender_in silence = []
sender_in (whole replied) = replied.number ∷ []
sender_in (broken replied place) = []
sender_in (raw code trext levels) = []

-- who sent what the channel gave whole, where the record of the exchange lists something
abbrev pub sender_where : List Listed → Given → List ℕ
sender_where [] given = []
sender_where (listed ∷ more) given = sender_in given

-- the tag that a record lists: the sender of the EPC that came whole in reply to an ACK
abbrev pub sender_listed_by : Record → List ℕ
sender_listed_by sent = sender_where (listed_by sent) sent.given

-- the tags that those records list which pass a test, in the order in which they were listed
abbrev pub tags_listed_where : (Record → Bool) → List Item → List ℕ
tags_listed_where test [] = []
tags_listed_where test (befell event number ∷ past) = tags_listed_where test past
tags_listed_where test (exchanged sent ∷ past) = tags_listed_where test past ++ (if test sent then sender_listed_by sent else [])
tags_listed_where test (operated round slot index result ∷ past) = tags_listed_where test past
tags_listed_where test (ended round end slots ∷ past) = tags_listed_where test past

-- the record is one of a round
abbrev pub is_of_round : ℕ → Record → Bool
is_of_round round sent = sent.round == round

-- the record is one of a slot of a round
abbrev pub is_of_slot : ℕ → ℕ → Record → Bool
is_of_slot round slot sent = sent.round == round && sent.slot == slot

-- the tags that are listed in a round
abbrev pub tags_listed_in : ℕ → List Item → List ℕ
tags_listed_in round history = tags_listed_where (is_of_round round) history

-- the tags that are listed in a slot of a round
abbrev pub tags_listed_in_slot : ℕ → ℕ → List Item → List ℕ
tags_listed_in_slot round slot history = tags_listed_where (is_of_slot round slot) history

-- what a record lists of a tag with this memory: the PC and the EPC in it
abbrev pub listed_as : Record → Banks → Listed
listed_as sent memory = record { round = sent.round; slot = sent.slot; pc = pc_of memory; epc = epc_of memory }
