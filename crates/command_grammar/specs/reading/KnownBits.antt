-- Profile: bits of a command that are known before they come, of which some were read.
use Rattle.std.specs.Prelude.{suc, ◌/◌, ◌%◌, ◌^◌, ◌==◌, Bool, List, Ok}
use Rattle.bit_strings.specs.NumbersInBits.{field_of}
use Rattle.command_grammar.specs.declared.reader.fields.Fields.{Fields}
use Rattle.command_grammar.specs.declared.reader.known_bits.KnownBits.{KnownBits}
use Rattle.command_grammar.specs.declared.refusal.Reason.{Reason}
use Rattle.command_grammar.specs.reading.Readers.{Reading, ◌>>=◌, exactly_at}

-- those that are still to come
abbrev pub known_bits : KnownBits → List Bool
known_bits number = field_of number.value (suc number.behind)

-- the next one
abbrev pub next_bit : KnownBits → Bool
next_bit number = number.value / 2 ^ number.behind % 2 == 1

-- reads them; no field of the command is set
abbrev pub known_from : Reason → KnownBits → Fields → List Bool → Reading Fields
known_from reason number v bits = exactly_at (known_bits number) reason bits >>= λ x. Ok (v, x.1)
