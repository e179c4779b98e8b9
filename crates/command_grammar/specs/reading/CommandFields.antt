-- 6.3.2.11: how each field of a command is read into its value, and with them the commands, whose fields Commands.antt has.
use Rattle.std.specs.Prelude.{ℕ, Bool, false, List, [], ◌∷◌, length, Result, Ok, Err, ◌==◌, if◌then◌else◌}
use Rattle.command_grammar.specs.declared.commands.Command.{Command}
use Rattle.command_grammar.specs.Commands.{command_fields_of, command_of}
use Rattle.command_grammar.specs.reading.Readers.{Stop, Reading, ◌>>=◌, bit_at, reading_bits, reading_number, choice_at, m_values, sel_values, query_target_values, updn_values, select_target_values, mask_bank_values, bank_values, kind_values, exactly_at, count_at, words_at, ebv_at, crc5_at, crc16_at, Bad}
use Rattle.bit_strings.specs.declared.code.Code.TheVariants.{Fm0}
use Rattle.command_fields.specs.declared.choices.Sel.TheVariants as sels
use Rattle.command_fields.specs.declared.choices.Side.TheVariants as sides
use Rattle.command_fields.specs.declared.choices.UpDn.TheVariants.{Same}
use Rattle.command_fields.specs.declared.choices.Bank.TheVariants as banks
use Rattle.command_fields.specs.declared.choices.MaskBank.TheVariants as mask_banks
use Rattle.command_fields.specs.declared.choices.FlagName.TheVariants as flags
use Rattle.command_grammar.specs.declared.kinds.CommandKind.{CommandKind}
use Rattle.command_grammar.specs.declared.fields.Field.{Field}
use Rattle.command_grammar.specs.declared.fields.Field.TheVariants as fields
use Rattle.command_grammar.specs.declared.reader.fields.Fields.{Fields}
use Rattle.command_grammar.specs.declared.refusal.Reason.TheVariants as reasons

-- A field: how it is read, and which value it sets. Of a counted one the number is read first, and then so many. Here and below
-- `whole` are all bits from the code on, over which a check number is computed, and `bits` those that are still to come.
pub data FieldReader : Type 1 where
  alone : {A : Type 0} → (List Bool → List Bool → Reading A) → (Fields → A → Fields) → FieldReader
  counted : {A : Type 0} → (List Bool → Reading ℕ) → (ℕ → List Bool → Reading A) → (Fields → A → Fields) → FieldReader

-- how each field is read, and which value it sets
abbrev pub reader_of : Field → FieldReader
reader_of fields.Dr = alone (λ whole. bit_at) (λ v x. record v { dr = x })
reader_of fields.M = alone (λ whole. choice_at m_values reasons.Code) (λ v x. record v { m = x })
reader_of fields.TRext = alone (λ whole. bit_at) (λ v x. record v { trext = x })
reader_of fields.Sel = alone (λ whole. choice_at sel_values reasons.Code) (λ v x. record v { sel = x })
reader_of fields.Session = alone (λ whole. reading_number 2) (λ v x. record v { session = x })
reader_of fields.QueryTarget = alone (λ whole. choice_at query_target_values reasons.Code) (λ v x. record v { query_target = x })
reader_of fields.Q = alone (λ whole. reading_number 4) (λ v x. record v { q = x })
reader_of fields.Crc5 = alone crc5_at (λ v x. v)
reader_of fields.UpDn = alone (λ whole. choice_at updn_values reasons.UpDn) (λ v x. record v { updn = x })
reader_of fields.SelectTarget = alone (λ whole. choice_at select_target_values reasons.Target) (λ v x. record v { select_target = x })
reader_of fields.Action = alone (λ whole. reading_number 3) (λ v x. record v { action = x })
reader_of fields.MaskBank = alone (λ whole. choice_at mask_bank_values reasons.Bank) (λ v x. record v { mask_bank = x })
reader_of fields.Pointer = alone (λ whole. ebv_at) (λ v x. record v { pointer = x })
reader_of fields.Mask = counted (reading_number 8) reading_bits (λ v x. record v { mask = x })
reader_of fields.Truncate = alone (λ whole. exactly_at (false ∷ []) reasons.Truncate) (λ v x. v)
reader_of fields.Bank = alone (λ whole. choice_at bank_values reasons.Code) (λ v x. record v { bank = x })
reader_of fields.Count = alone (λ whole. reading_number 8) (λ v x. record v { count = x })
reader_of fields.Words = counted count_at words_at (λ v x. record v { words = x })
reader_of fields.WordCount = alone (λ whole. count_at) (λ v x. record v { word_count = x })
reader_of fields.Covered = alone (λ whole. reading_number 16) (λ v x. record v { covered = x })
reader_of fields.KillBits = alone (λ whole. exactly_at (false ∷ false ∷ false ∷ []) reasons.KillBits) (λ v x. v)
reader_of fields.Payload = alone (λ whole. reading_number 20) (λ v x. record v { payload = x })
reader_of fields.Rn = alone (λ whole. reading_number 16) (λ v x. record v { rn = x })
reader_of fields.Crc16 = alone crc16_at (λ v x. v)

-- the field, and then what reads on with its value
abbrev pub field_then : {A : Type 0} → FieldReader → Fields → List Bool → List Bool → (Fields × List Bool → Result A Stop) → Result A Stop
field_then (alone read set) v whole bits next = read whole bits >>= λ x. next (set v x.0, x.1)
field_then (counted count read set) v whole bits next = count bits >>= λ n. (read n.0 n.1 >>= λ x. next (set v x.0, x.1))

-- reads the field of a command alone, and sets its value
abbrev pub field_from : Field → Fields → List Bool → List Bool → Reading Fields
field_from field v whole bits = field_then (reader_of field) v whole bits (λ x. Ok x)

-- these fields, and the command that has them
abbrev pub command_from : List Field → CommandKind → Fields → List Bool → List Bool → Reading Command
command_from [] kind v whole bits = Ok (command_of kind v, bits)
command_from (field ∷ behind) kind v whole bits = field_then (reader_of field) v whole bits (λ x. command_from behind kind x.0 whole x.1)

-- No field was read. None of these values comes into a command, since each field that a command has is read.
abbrev pub no_fields : Fields
no_fields = record {
  dr = false;
  m = Fm0;
  trext = false;
  sel = sels.All00;
  session = 0;
  query_target = sides.A;
  q = 0;
  updn = Same;
  select_target = flags.S0;
  action = 0;
  mask_bank = mask_banks.Epc;
  pointer = 0;
  mask = [];
  bank = banks.Reserved;
  count = 0;
  words = [];
  word_count = 1;
  covered = 0;
  payload = 0;
  rn = 0;
}

-- the fields of a kind
abbrev pub fields_at : CommandKind → List Bool → List Bool → Reading Command
fields_at kind whole bits = command_from (command_fields_of kind) kind no_fields whole bits

-- a command: its code, and the fields of its kind
unfoldable pub command_at : List Bool → Reading Command
command_at bits = choice_at kind_values reasons.Code bits >>= λ kind. fields_at kind.0 bits kind.1

-- all of the bits
unfoldable pub all_of : List Bool → Result Command Stop
all_of bits = command_at bits >>= λ read. (if length read.1 == 0 then Ok read.0 else Err (Bad (length read.1) reasons.Extra))

-- no bits stand behind a command
abbrev pub only_whole : Command → List Bool → Result Command Stop
only_whole command bits = if length bits == 0 then Ok command else Err (Bad (length bits) reasons.Extra)

-- these fields and then nothing
abbrev pub run : List Field → CommandKind → Fields → List Bool → List Bool → Result Command Stop
run [] kind v whole bits = only_whole (command_of kind v) bits
run (field ∷ behind) kind v whole bits = field_from field v whole bits >>= λ x. run behind kind x.0 whole x.1
