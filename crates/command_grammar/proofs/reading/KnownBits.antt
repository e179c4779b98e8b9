-- The bits of a number are read one by one, and no others.
use Rattle.std.proofs.Common.{◌≡◌, ℕ, suc, ◌+◌, Bool, true, false, List, [], ◌∷◌, length, Ok, Err, refl, sym, ap, ◌∙◌, arith}
use Rattle.std.specs.Prelude.{not}
use mathlib.Core.Bool.{beq}
use Rattle.bit_strings.specs.NumbersInBits.{field_of}
use Rattle.bit_strings.specs.laws.NumbersInBits.{field_of-more, field_of-none}
use Rattle.gen2_crc.specs.Crc.{differ}
use Rattle.command_grammar.specs.declared.refusal.Reason.{Reason}
use Rattle.command_grammar.specs.declared.reader.fields.Fields.{Fields}
use Rattle.command_grammar.specs.declared.reader.known_bits.KnownBits.{KnownBits}
use Rattle.command_grammar.specs.reading.Readers.{Bad, Short, Reading, ◌>>=◌, exactly_at}
use Rattle.command_grammar.specs.reading.KnownBits.{known_bits, next_bit, known_from}

-- what a test of two bits says
pub same_bits : (a b : Bool) → not (beq a b) ≡ false → a ≡ b
same_bits true true test = refl
same_bits true false test = absurd cc
same_bits false true test = absurd cc
same_bits false false test = refl

other_differ : (a b : Bool) → not (beq a b) ≡ true → differ b a ≡ true
other_differ true true test = absurd cc
other_differ true false test = refl
other_differ false true test = refl
other_differ false false test = absurd cc

-- the next bit stands first
pub known_next : (number : KnownBits) → known_bits number ≡ next_bit number ∷ field_of number.value number.behind
known_next number = field_of-more number.value (suc number.behind) number.behind (omega arith)

-- the next bit isn't the last one
pub known_more : (number : KnownBits) (less : ℕ) (bit : Bool) → bit ≡ next_bit number → less + 1 ≡ number.behind → known_bits number ≡ bit ∷ known_bits (record { behind = less; value = number.value })
known_more number less bit same e =
    let places : number.behind ≡ suc less = omega (arith, e) in
    known_next number ∙ ap (λ (b : Bool). b ∷ field_of number.value number.behind) (sym same) ∙ ap (λ n. bit ∷ field_of number.value n) places

-- ... or is
pub known_last : (number : KnownBits) (bit : Bool) → bit ≡ next_bit number → number.behind ≡ 0 → known_bits number ≡ bit ∷ []
known_last number bit same none =
    known_next number ∙ ap (λ (b : Bool). b ∷ field_of number.value number.behind) (sym same) ∙ ap (λ (l : List Bool). bit ∷ l) (field_of-none number.value number.behind none)

abbrev kept : Fields → Reading (Unit {0}) → Reading Fields
kept v r = r >>= λ x. Ok (v, x.1)

exactly-same : (bit : Bool) (others : List Bool) (reason : Reason) (rest : List Bool) → exactly_at (bit ∷ others) reason (bit ∷ rest) ≡ exactly_at others reason rest
exactly-same true others reason rest = refl
exactly-same false others reason rest = refl

-- reading goes on behind it
pub reads_more : (reason : Reason) (number more : KnownBits) (v : Fields) (bit : Bool) (rest : List Bool) → known_bits number ≡ bit ∷ known_bits more → known_from reason number v (bit ∷ rest) ≡ known_from reason more v rest
reads_more reason number more v bit rest same =
    ap (λ (l : List Bool). kept v (exactly_at l reason (bit ∷ rest))) same ∙ ap (kept v) (exactly-same bit (known_bits more) reason rest)

pub reads_last : (reason : Reason) (number : KnownBits) (v : Fields) (bit : Bool) (rest : List Bool) → known_bits number ≡ bit ∷ [] → known_from reason number v (bit ∷ rest) ≡ Ok (v, rest)
reads_last reason number v bit rest same =
    ap (λ (l : List Bool). kept v (exactly_at l reason (bit ∷ rest))) same ∙ ap (kept v) (exactly-same bit [] reason rest)

-- another bit is refused
pub reads_other : (reason : Reason) (number : KnownBits) (v : Fields) (bit : Bool) (rest : List Bool) → not (beq bit (next_bit number)) ≡ true → known_from reason number v (bit ∷ rest) ≡ Err (Bad (length rest + 1) reason)
reads_other reason number v bit rest test =
    ap (λ (l : List Bool). kept v (exactly_at l reason (bit ∷ rest))) (known_next number)
    ∙ rw (other_differ bit (next_bit number) test) refl

-- some are still to come
pub known-short : (reason : Reason) (number : KnownBits) (v : Fields) → known_from reason number v [] ≡ Err Short
known-short reason number v = ap (λ (l : List Bool). kept v (exactly_at l reason [])) (known_next number)
