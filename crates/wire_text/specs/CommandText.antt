-- Profile: how commands, and why bits are no command, stand in a text.
use Rattle.std.specs.Prelude.{ℕ, ◌/◌, ◌%◌, List, [], ◌∷◌, codes}
use Rattle.std.specs.Fmt.{decimal}
use Rattle.text_fields.specs.Lines.{line_with}
use Rattle.text_fields.specs.Binary.{binary, binary_digit}
use Rattle.text_fields.specs.Hexadecimal.{hex_digit, hex_word, hex_words}
use Rattle.text_fields.specs.CodeNames.{code_word}
use Rattle.text_fields.specs.NamedFields.{AreFaulty, AreSpelling, SpellBehind, Vocabulary}
use Rattle.text_fields.specs.declared.fields_fault.FieldsFault.{FieldsFault}
use Rattle.command_grammar.specs.Commands.{IsLegalCommand}
use Rattle.command_grammar.specs.declared.kinds.CommandKind.{CommandKind}
use Rattle.command_grammar.specs.declared.kinds.CommandKind.TheVariants as kinds
use Rattle.command_fields.specs.declared.choices.Sel.{Sel}
use Rattle.command_fields.specs.declared.choices.Sel.TheVariants as sels
use Rattle.command_fields.specs.declared.choices.Side.{Side}
use Rattle.command_fields.specs.declared.choices.Side.TheVariants.{A, B}
use Rattle.command_fields.specs.declared.choices.UpDn.{UpDn}
use Rattle.command_fields.specs.declared.choices.UpDn.TheVariants.{Up, Same, Down}
use Rattle.command_fields.specs.declared.choices.Bank.{Bank}
use Rattle.command_fields.specs.declared.choices.Bank.TheVariants as banks
use Rattle.command_fields.specs.declared.choices.MaskBank.{MaskBank}
use Rattle.command_fields.specs.declared.choices.MaskBank.TheVariants as mask_banks
use Rattle.command_fields.specs.declared.choices.FlagName.{FlagName}
use Rattle.command_fields.specs.declared.choices.FlagName.TheVariants as flags
use Rattle.command_grammar.specs.declared.commands.Command.{Command}
use Rattle.command_grammar.specs.declared.commands.Command.TheVariants.{QueryRep, Ack, Query, QueryAdjust, Select, Nak, ReqRn, Read, Write, Kill, Lock, Access, BlockWrite, BlockErase}
use Rattle.command_grammar.specs.declared.refusal.CommandRefusal.{CommandRefusal}
use Rattle.command_grammar.specs.declared.refusal.CommandRefusal.TheVariants.{At, Short}
use Rattle.command_grammar.specs.declared.refusal.Reason.{Reason}
use Rattle.command_grammar.specs.declared.refusal.Reason.TheVariants as reasons

-- Profile: Sel of a Query, as its two bits are sent
abbrev pub sel_word : Sel → List ℕ
sel_word sels.All00 = codes "00"
sel_word sels.All01 = codes "01"
sel_word sels.NotSl = codes "10"
sel_word sels.Sl = codes "11"

-- Profile: the value of an inventoried flag
abbrev pub side_word : Side → List ℕ
side_word A = codes "a"
side_word B = codes "b"

-- Profile: ... as a letter, where the flags of a tag are written
abbrev pub side_letter : Side → List ℕ
side_letter A = codes "A"
side_letter B = codes "B"

-- Profile: what becomes of Q
abbrev pub updn_word : UpDn → List ℕ
updn_word Up = codes "up"
updn_word Same = codes "same"
updn_word Down = codes "down"

-- Profile: a flag that a Select changes
abbrev pub flag_word : FlagName → List ℕ
flag_word flags.S0 = codes "s0"
flag_word flags.S1 = codes "s1"
flag_word flags.S2 = codes "s2"
flag_word flags.S3 = codes "s3"
flag_word flags.Sl = codes "sl"

-- Profile: a bank that a Select compares its mask with
abbrev pub mask_bank_word : MaskBank → List ℕ
mask_bank_word mask_banks.Epc = codes "epc"
mask_bank_word mask_banks.Tid = codes "tid"
mask_bank_word mask_banks.User = codes "user"

-- Profile: a bank of the tag's memory that an access command reads, writes or erases
abbrev pub bank_word : Bank → List ℕ
bank_word banks.Reserved = codes "res"
bank_word banks.Epc = codes "epc"
bank_word banks.Tid = codes "tid"
bank_word banks.User = codes "user"

-- Profile: the payload of a Lock, 20 bits in five upper-case hexadecimal digits
abbrev pub payload_digits : ℕ → List ℕ
payload_digits payload = hex_digit (payload / 65536) ∷ hex_word (payload % 65536)

-- Profile: the name of a command
abbrev pub command_name : CommandKind → List ℕ
command_name kinds.QueryRep = codes "queryrep"
command_name kinds.Ack = codes "ack"
command_name kinds.Query = codes "query"
command_name kinds.QueryAdjust = codes "queryadjust"
command_name kinds.Select = codes "select"
command_name kinds.Nak = codes "nak"
command_name kinds.ReqRn = codes "req_rn"
command_name kinds.Read = codes "read"
command_name kinds.Write = codes "write"
command_name kinds.Kill = codes "kill"
command_name kinds.Lock = codes "lock"
command_name kinds.Access = codes "access"
command_name kinds.BlockWrite = codes "blockwrite"
command_name kinds.BlockErase = codes "blockerase"

-- Profile: how many fields stand behind the name
abbrev pub command_field_count : CommandKind → ℕ
command_field_count kinds.QueryRep = 1
command_field_count kinds.Ack = 1
command_field_count kinds.Query = 7
command_field_count kinds.QueryAdjust = 2
command_field_count kinds.Select = 5
command_field_count kinds.Nak = 0
command_field_count kinds.ReqRn = 1
command_field_count kinds.Read = 4
command_field_count kinds.Write = 4
command_field_count kinds.Kill = 2
command_field_count kinds.Lock = 2
command_field_count kinds.Access = 2
command_field_count kinds.BlockWrite = 4
command_field_count kinds.BlockErase = 4

-- which command it is
abbrev pub command_kind : Command → CommandKind
command_kind (QueryRep session) = kinds.QueryRep
command_kind (Ack rn) = kinds.Ack
command_kind (Query dr code trext sel session target q) = kinds.Query
command_kind (QueryAdjust session updn) = kinds.QueryAdjust
command_kind (Select target action bank pointer mask) = kinds.Select
command_kind Nak = kinds.Nak
command_kind (ReqRn rn) = kinds.ReqRn
command_kind (Read bank pointer count rn) = kinds.Read
command_kind (Write bank pointer covered rn) = kinds.Write
command_kind (Kill covered rn) = kinds.Kill
command_kind (Lock payload rn) = kinds.Lock
command_kind (Access covered rn) = kinds.Access
command_kind (BlockWrite bank pointer words rn) = kinds.BlockWrite
command_kind (BlockErase bank pointer count rn) = kinds.BlockErase

-- Profile: the fields behind the name, in the order in which they are sent (6.3.2.11), without the check number
abbrev pub other_command_fields : Command → List (List ℕ)
other_command_fields (QueryRep session) = decimal session ∷ []
other_command_fields (Ack rn) = hex_word rn ∷ []
other_command_fields (Query dr code trext sel session target q) =
    (binary_digit dr ∷ []) ∷ code_word code ∷ (binary_digit trext ∷ []) ∷ sel_word sel ∷ decimal session ∷ side_word target ∷ decimal q ∷ []
other_command_fields (QueryAdjust session updn) = decimal session ∷ updn_word updn ∷ []
other_command_fields (Select target action bank pointer mask) =
    flag_word target ∷ decimal action ∷ mask_bank_word bank ∷ decimal pointer ∷ binary mask ∷ []
other_command_fields Nak = []
other_command_fields (ReqRn rn) = hex_word rn ∷ []
other_command_fields (Read bank pointer count rn) = bank_word bank ∷ decimal pointer ∷ decimal count ∷ hex_word rn ∷ []
other_command_fields (Write bank pointer covered rn) = bank_word bank ∷ decimal pointer ∷ hex_word covered ∷ hex_word rn ∷ []
other_command_fields (Kill covered rn) = hex_word covered ∷ hex_word rn ∷ []
other_command_fields (Lock payload rn) = payload_digits payload ∷ hex_word rn ∷ []
other_command_fields (Access covered rn) = hex_word covered ∷ hex_word rn ∷ []
other_command_fields (BlockWrite bank pointer words rn) = bank_word bank ∷ decimal pointer ∷ hex_words words ∷ hex_word rn ∷ []
other_command_fields (BlockErase bank pointer count rn) = bank_word bank ∷ decimal pointer ∷ decimal count ∷ hex_word rn ∷ []

-- the commands as what may be spelled
abbrev pub commands : Vocabulary CommandKind Command
commands = record { name = command_name; count = command_field_count; kind = command_kind; others = other_command_fields }

-- the fields of a command: its name, and those behind that
abbrev pub command_fields : Command → List (List ℕ)
command_fields command = command_name (command_kind command) ∷ other_command_fields command

-- a command as a line, without its line feed
abbrev pub command_line : Command → List ℕ
command_line command = line_with (command_fields command)

-- the fields spell the command, each of whose numbers is within its field
abbrev pub IsCommandText : List (List ℕ) → Command → Type 0
IsCommandText fields command = AreSpelling commands IsLegalCommand fields command

-- behind the name of this command, the fields spell the command
abbrev pub IsCommandBehind : CommandKind → List (List ℕ) → Command → Type 0
IsCommandBehind kind fields command = SpellBehind commands IsLegalCommand kind fields command

-- the first reason for which fields spell no command
abbrev pub IsFaultyCommand : List (List ℕ) → FieldsFault → Type 0
IsFaultyCommand fields fault = AreFaulty commands IsLegalCommand fields fault

-- Profile: the field in which a refused bit stands
abbrev pub refused_field_word : Reason → List ℕ
refused_field_word reasons.Code = codes "code"
refused_field_word reasons.UpDn = codes "updn"
refused_field_word reasons.Target = codes "target"
refused_field_word reasons.Bank = codes "bank"
refused_field_word reasons.Ebv = codes "ebv"
refused_field_word reasons.Truncate = codes "truncate"
refused_field_word reasons.KillBits = codes "killbits"
refused_field_word reasons.Count = codes "count"
refused_field_word reasons.Crc5 = codes "crc5"
refused_field_word reasons.Crc16 = codes "crc16"
refused_field_word reasons.Extra = codes "extra"

-- Profile: why bits are no command, as a line without its line feed: the place of the first bit that no command has there
-- and the field in which it stands, or the number of bits, which begin a command and are none
abbrev pub command_refusal_line : CommandRefusal → List ℕ
command_refusal_line (At place reason) = line_with (codes "refused" ∷ decimal place ∷ refused_field_word reason ∷ [])
command_refusal_line (Short count) = line_with (codes "short" ∷ decimal count ∷ [])
