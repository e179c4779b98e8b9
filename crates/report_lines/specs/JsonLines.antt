-- Profile: a line of a plain report as a JSON object in compact form, by the kit's definition of the text of a JSON value.
use Rattle.std.specs.Prelude.{ℕ, List, [], ◌∷◌, ◌++◌, codes}
use Rattle.std.specs.List.{flat_map}
use Rattle.serde_json.specs.Data.{Data, Members, member, no_members, number, object, string, unsigned}
use Rattle.serde_json.specs.Written.{compact_text}
use Rattle.access_ops.specs.declared.op_next.OpResult.{OpResult}
use Rattle.access_ops.specs.declared.op_next.OpResult.TheVariants as results
use Rattle.report_lines.specs.ReportLine.{ReportLine, ListLine, OpLine, RoundLine, SeenLine, TagLine, DoneLine, end_word, flags_word, state_word}
use Rattle.tag_machine.specs.StateNames.{name_of}
use Rattle.text_fields.specs.Hexadecimal.{hex_byte, hex_word}
use Rattle.text_fields.specs.Lines.{line_feed}
use Rattle.wire_text.specs.PasswordsAndLocks.{locks_text}

-- words as their digits: no words are the empty text, and no hyphen stands for them
abbrev pub digits_of : List ℕ → List ℕ
digits_of words = flat_map hex_word words

-- how an operation with a tag ended, as the word in the JSON object of its line
abbrev pub result_word : OpResult → List ℕ
result_word (results.Ok words) = codes "ok"
result_word (results.TagError code) = codes "error"
result_word results.Silent = codes "silent"
result_word results.Broken = codes "broken"
result_word results.Denied = codes "denied"

-- what an operation brought: the words of a Read, or the two digits of an error code (Annex I)
abbrev pub result_value : OpResult → List ℕ
result_value (results.Ok words) = digits_of words
result_value (results.TagError code) = hex_byte code
result_value results.Silent = []
result_value results.Broken = []
result_value results.Denied = []

-- a count as a JSON value
abbrev pub count_value : ℕ → Data
count_value count = number (unsigned count)

-- the keys of the object of a list line, each with its value: the digits of the EPC and of the PC, the round and the slot
abbrev pub list_pairs : (epc pc : List ℕ) → (round slot : ℕ) → List (List ℕ × Data)
list_pairs epc pc round slot =
    (codes "epc", string epc) ∷ (codes "kind", string (codes "list")) ∷ (codes "pc", string pc) ∷ (codes "round", count_value round)
    ∷ (codes "slot", count_value slot) ∷ []

-- those of an operation: its number, how it ended, the round and the slot, and what it brought
abbrev pub op_pairs : (index : ℕ) → (result : List ℕ) → (round slot : ℕ) → (value : List ℕ) → List (List ℕ × Data)
op_pairs index result round slot value =
    (codes "index", count_value index) ∷ (codes "kind", string (codes "op")) ∷ (codes "result", string result) ∷ (codes "round", count_value round)
    ∷ (codes "slot", count_value slot) ∷ (codes "value", string value) ∷ []

-- those of a round: how it ended, its number and its slots
abbrev pub round_pairs : (end : List ℕ) → (round slots : ℕ) → List (List ℕ × Data)
round_pairs end round slots =
    (codes "end", string end) ∷ (codes "kind", string (codes "round")) ∷ (codes "round", count_value round) ∷ (codes "slots", count_value slots) ∷ []

-- those of a count: how often the EPC and the PC of these digits were listed
abbrev pub seen_pairs : (count : ℕ) → (epc pc : List ℕ) → List (List ℕ × Data)
seen_pairs count epc pc =
    (codes "count", count_value count) ∷ (codes "epc", string epc) ∷ (codes "kind", string (codes "seen")) ∷ (codes "pc", string pc) ∷ []

-- those of a tag: the digits of its banks, and the texts of its flags, its lock bits and its state
abbrev pub tag_pairs : (epc flags locks : List ℕ) → (place : ℕ) → (reserved state tid user : List ℕ) → List (List ℕ × Data)
tag_pairs epc flags locks place reserved state tid user =
    (codes "epc", string epc) ∷ (codes "flags", string flags) ∷ (codes "kind", string (codes "tag")) ∷ (codes "locks", string locks)
    ∷ (codes "number", count_value place) ∷ (codes "res", string reserved) ∷ (codes "state", string state) ∷ (codes "tid", string tid)
    ∷ (codes "user", string user) ∷ []

-- those of the last line
abbrev pub done_pairs : List (List ℕ × Data)
done_pairs = (codes "kind", string (codes "done")) ∷ []

-- the keys of the object of a line, each with its value; none for a line that no plain report has
abbrev pub json_pairs : ReportLine → List (List ℕ × Data)
json_pairs (ListLine round slot pc epc) = list_pairs (digits_of epc) (hex_word pc) round slot
json_pairs (OpLine round slot index result) = op_pairs index (result_word result) round slot (result_value result)
json_pairs (RoundLine round end slots) = round_pairs (end_word end) round slots
json_pairs (SeenLine count pc epc) = seen_pairs count (digits_of epc) (hex_word pc)
json_pairs (TagLine place tag) =
    let memory = tag.body.memory in
    tag_pairs (digits_of memory.epc) (flags_word tag.body.flags) (locks_text tag.body.locks) place (digits_of memory.reserved)
    (state_word (name_of tag.state)) (digits_of memory.tid) (digits_of memory.user)
json_pairs DoneLine = done_pairs
json_pairs line = []

-- an object's members, in this order
abbrev pub members_in : List (List ℕ × Data) → Members
members_in [] = no_members
members_in (pair ∷ pairs) = member pair.0 pair.1 (members_in pairs)

-- a line that is an object of these pairs, with its line feed; none without pairs
abbrev pub object_line : List (List ℕ × Data) → List ℕ
object_line [] = []
object_line (pair ∷ pairs) = compact_text (object (members_in (pair ∷ pairs))) ++ line_feed ∷ []

-- a line of a plain report as an object
abbrev pub json_line_text : ReportLine → List ℕ
json_line_text line = object_line (json_pairs line)
