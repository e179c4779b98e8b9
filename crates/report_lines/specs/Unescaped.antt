-- Profile: what stands in the JSON of a report without an escape.
use Rattle.std.specs.Prelude.{◌≡◌, ◌<◌, ◌^◌, ℕ, List}
use Rattle.json.specs.Print.{escape}
use Rattle.serde_json.specs.Data.{Data, string}
use Rattle.access_ops.specs.declared.op_next.OpResult.{OpResult}
use Rattle.access_ops.specs.declared.op_next.OpResult.TheVariants as results
use Rattle.reply_grammar.specs.Replies.{AreWords}
use Rattle.report_lines.specs.ReportLine.{ReportLine, ListLine, OpLine, SeenLine, TagLine}
use Rattle.tag_memory.specs.Memory.{AreBanksOfWords}

-- a text stands in JSON as it is: none of its bytes has an escape
abbrev pub IsUnescaped : List ℕ → Type 0
IsUnescaped text = escape text ≡ text

-- a value that is a text stands in JSON without escapes
abbrev pub HasPlainText : Data → Type 0
HasPlainText (string text) = IsUnescaped text
HasPlainText value = Unit {0}

-- a key and its value stand so
abbrev pub IsPlainPair : List ℕ × Data → Type 0
IsPlainPair pair = IsUnescaped pair.0 × HasPlainText pair.1

-- the words that an operation brought are numbers of 16 bits, an error code is a byte
abbrev pub BringsWords : OpResult → Type 0
BringsWords (results.Ok words) = AreWords words
BringsWords (results.TagError code) = code < 2 ^ 8
BringsWords result = Unit {0}

-- the words in a line of a report are numbers of 16 bits: a PC and an EPC, what an operation brought, and the memory of a tag
abbrev pub HasWords : ReportLine → Type 0
HasWords (ListLine round slot pc epc) = (pc < 2 ^ 16) × AreWords epc
HasWords (OpLine round slot index result) = BringsWords result
HasWords (SeenLine count pc epc) = (pc < 2 ^ 16) × AreWords epc
HasWords (TagLine place tag) = AreBanksOfWords tag.body.memory
HasWords line = Unit {0}
