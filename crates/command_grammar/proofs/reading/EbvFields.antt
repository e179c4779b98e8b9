-- Extensible bit vectors are read as they are spelled.
use Rattle.std.proofs.Common.{◌≡◌, ◌≢◌, ℕ, zero, suc, ◌+◌, ◌*◌, ◌^◌, ◌<◌, ◌≤◌, Bool, true, false, cond, List, [], ◌∷◌, ◌++◌, length, Ok, refl, sym, ap, ◌∙◌, append-nil, arith}
use Rattle.std.proofs.Math.Nat.{pow-suc}
use Rattle.std.proofs.lemmas.Bool.Decides.{nat_tests}
use Rattle.std.specs.Prelude.{Option, Some, None, ◌&&◌, ◌==◌}
use Rattle.std.proofs.lemmas.List.Elements.{All-cons, All-nil}
use Rattle.bit_strings.specs.NumbersInBits.{value_of, field_of}
use Rattle.bit_strings.specs.laws.NumbersInBits.{length-field_of, value_of-within, value_of-field, field_of-value_of}
use Rattle.bit_strings.specs.Ebv.{IsEbv, number_of_digits, blocks_of, IsShortest, ebv_of}
use Rattle.bit_strings.specs.laws.Ebv.{AreSevens, seven-head, seven-tail, IsEbv-ebv_of, same-ebv, below-ebv}
use Rattle.command_grammar.specs.reading.Readers.{Block, ◌>>=◌, bit_at, reading_number, block_at, block_within_at, last_digit_at, blocks_at, ebv_at, exactly_at}
use Rattle.command_grammar.specs.declared.refusal.Reason.{Reason}
use Rattle.command_grammar.specs.declared.refusal.Reason.TheVariants as reasons
use Rattle.command_grammar.proofs.reading.ExactFields.{reads_exactly}
use Rattle.command_grammar.proofs.reading.Readers.{FieldKind, Reads, Pair, reads_then, reads_as, reads_map, reads_nothing, reads_but}
use Rattle.command_grammar.proofs.reading.NumberFields.{IsNumber, number_field, reads_bit, reads_field, is_zero}

-- ---- one block

-- the block behind digits that are this number
abbrev IsBlock : ℕ → Block → List Bool → Type 0
IsBlock value block bits = (digit : ℕ) × (digit < 2 ^ 7) × (block.number ≡ value * 128 + digit) × (bits ≡ block.more ∷ field_of digit 7)

abbrev block_of : Bool → ℕ → Block
block_of more number = record { more = more; number = number }

abbrev Digit : ℕ → Bool → Block → List Bool → Type 0
Digit value more block bits = (digit : ℕ) × (block_of more (value * 128 + digit) ≡ block) × IsNumber 7 digit bits

join_block : (value : ℕ) (block : Block) (bits : List Bool) → Pair (λ more l. l ≡ more ∷ []) (Digit value) block bits → IsBlock value block bits
join_block value block bits p = (
  p.right.0,
  p.right.2.0,
  ap (λ (b : Block). b.number) (sym p.right.1),
  p.whole ∙ ap (λ (l : List Bool). l ++ p.back) p.left ∙ ap (λ (l : List Bool). p.first ∷ l) p.right.2.1 ∙ ap (λ (b : Block). b.more ∷ field_of p.right.0 7) p.right.1,
)

reads_block : (value : ℕ) (name : Option Reason) → Reads (IsBlock value) name (block_at value)
unfolding block_at
reads_block value name =
    reads_as (Pair (λ more l. l ≡ more ∷ []) (Digit value)) (IsBlock value) name (block_at value) (join_block value)
    (λ block bits h. record { first = block.more; front = block.more ∷ []; back = field_of h.0 7; left = refl; right = (h.0, ap (block_of block.more) (sym h.2), (h.1, refl)); whole = h.3 })
    (reads_then (λ more l. l ≡ more ∷ []) (Digit value) name bit_at (λ more bits. reading_number 7 bits >>= λ digit. Ok (block_of more (value * 128 + digit.0), digit.1)) (reads_bit name)
    (λ more front h. reads_map (number_field 7 name) (Digit value more) (λ bits. reading_number 7 bits >>= λ digit. Ok (block_of more (value * 128 + digit.0), digit.1)) (λ digit. block_of more (value * 128 + digit)) (λ bits. refl)
    (λ digit bits h. (digit, refl, h)) (λ block bits h. (h.0, h.2, h.1)))
    (λ more front h. (block_of more (value * 128 + 0), field_of 0 7, (0, refl, (omega arith, refl)))))

-- only says that another follows
abbrev says_nothing : Block → Bool
says_nothing block = block.more && (block.number == 0)

abbrev IsTelling : ℕ → Block → List Bool → Type 0
IsTelling value block bits = IsBlock value block bits × (says_nothing block ≡ false)

nothing_is : (more : Bool) (number : ℕ) → (more && (number == 0)) ≡ true → (more ≡ true) × (number ≡ 0)
nothing_is true number e = (refl, is_zero number e)
nothing_is false number e = absurd cc

not_zero : (n : ℕ) → n ≢ 0 → (n == 0) ≡ false
not_zero n e = grind (arith, nat_tests)

zero_says : (n : ℕ) → (n == 0) ≡ false → n ≢ 0
zero_says n e = grind (arith, nat_tests)

-- a block that says nothing is 10000000
nothing_bits : (value : ℕ) (block : Block) (bits : List Bool) → IsBlock value block bits → says_nothing block ≡ true → bits ≡ true ∷ field_of 0 7
nothing_bits value block bits h e =
    let n = nothing_is block.more block.number e in
    let digit : h.0 ≡ 0 = omega (arith, h.2, n.1) in
    h.3 ∙ ap (λ (b : Bool). b ∷ field_of h.0 7) n.0 ∙ ap (λ d. true ∷ field_of d 7) digit

reads_block_within : (value : ℕ) → Reads (IsTelling value) (Some reasons.Ebv) (block_within_at value)
unfolding block_within_at field_of
reads_block_within value = reads_but (record { Spells = IsBlock value; name = None; read = block_at value; reads = reads_block value None }) reasons.Ebv says_nothing refl (record {
  front = true ∷ field_of 0 6;
  bit = false;
  only = nothing_bits value;
  value = block_of true (value * 128 + 1);
  next = true;
  more = [];
  spelled = (1, omega arith, refl, refl);
  kept = not_zero (value * 128 + 1) (λ none. omega arith);
})

abbrev IsLast : ℕ → List Bool → Type 0
IsLast digit bits = (digit < 2 ^ 7) × (bits ≡ false ∷ field_of digit 7)

reads_last_digit : Reads IsLast (Some reasons.Ebv) last_digit_at
unfolding last_digit_at
reads_last_digit =
    reads_as (Pair {A = Unit {0}} (λ value bits. bits ≡ false ∷ []) (λ value. IsNumber 7)) IsLast (Some reasons.Ebv) last_digit_at
    (λ digit bits p. (p.right.0, p.whole ∙ ap (λ (l : List Bool). l ++ p.back) p.left ∙ ap (λ (l : List Bool). false ∷ l) p.right.1))
    (λ digit bits h. record { first = tt; front = false ∷ []; back = field_of digit 7; left = refl; right = (h.0, refl); whole = h.1 })
    (reads_then {A = Unit {0}} (λ value bits. bits ≡ false ∷ []) (λ value. IsNumber 7) (Some reasons.Ebv) (exactly_at (false ∷ []) reasons.Ebv) (λ value. reading_number 7) (reads_exactly reasons.Ebv (false ∷ []))
    (λ value front h. reads_field 7 (Some reasons.Ebv)) (λ value front h. (0, field_of 0 7, (omega arith, refl))))

-- ---- blocks, of which at most so many follow the first

abbrev Behind : (ℕ → ℕ → List Bool → Type 0) → Bool → ℕ → ℕ → List Bool → Type 0
Behind blocks true value = blocks value
Behind blocks false value = λ number bits. (number ≡ value) × (bits ≡ [])

abbrev Blocks : ℕ → ℕ → ℕ → List Bool → Type 0
Blocks zero value = λ number bits. (digit : ℕ) × (number ≡ value * 128 + digit) × IsLast digit bits
Blocks (suc others) value = Pair (IsTelling value) (λ block. Behind (Blocks others) block.more block.number)

some_blocks : (others value : ℕ) → (number : ℕ) × (bits : List Bool) × Blocks others value number bits
some_blocks zero value = (value * 128 + 0, false ∷ field_of 0 7, (0, refl, (omega arith, refl)))
some_blocks (suc others) value = (
  value * 128 + 0,
  (false ∷ field_of 0 7) ++ [],
  record { first = block_of false (value * 128 + 0); front = false ∷ field_of 0 7; back = []; left = ((0, omega arith, refl, refl), refl); right = (refl, refl); whole = refl },
)

some_behind : (others : ℕ) (more : Bool) (value : ℕ) → (number : ℕ) × (bits : List Bool) × Behind (Blocks others) more value number bits
some_behind others true value = some_blocks others value
some_behind others false value = (value, [], (refl, refl))

reads_behind : (others : ℕ) (more : Bool) (value : ℕ) → Reads (Blocks others value) (Some reasons.Ebv) (blocks_at others value) → Reads (Behind (Blocks others) more value) (Some reasons.Ebv) (λ bits. cond more (blocks_at others value bits) (Ok (value, bits)))
reads_behind others true value reads = reads
reads_behind others false value reads = reads_nothing value (Some reasons.Ebv)

reads_blocks : (others value : ℕ) → Reads (Blocks others value) (Some reasons.Ebv) (blocks_at others value)
unfolding blocks_at
reads_blocks zero value =
    reads_map (record { Spells = IsLast; name = Some reasons.Ebv; read = last_digit_at; reads = reads_last_digit }) (Blocks zero value) (blocks_at zero value) (λ digit. value * 128 + digit) (λ bits. refl)
    (λ digit bits h. (digit, refl, h)) (λ number bits h. (h.0, h.2, sym h.1))
reads_blocks (suc others) value =
    reads_then (IsTelling value) (λ block. Behind (Blocks others) block.more block.number) (Some reasons.Ebv) (block_within_at value) (λ block bits. cond block.more (blocks_at others block.number bits) (Ok (block.number, bits))) (reads_block_within value)
    (λ block front h. reads_behind others block.more block.number (reads_blocks others block.number)) (λ block front h. some_behind others block.more block.number)

-- ---- they are the shortest spellings

-- the bits are the blocks of some digits, and the number is theirs behind this one
record Spelled (others value number : ℕ) (bits : List Bool) : Type 0 where
  digits : List (List Bool)
  sevens : AreSevens digits
  some : 0 < length digits
  few : length digits ≤ others + 1
  shortest : value ≡ 0 → IsShortest digits
  number_is : number ≡ value * 128 ^ length digits + number_of_digits digits
  spelled : bits ≡ blocks_of digits

cons : (digit : ℕ) (ds : List (List Bool)) → AreSevens ds → AreSevens (field_of digit 7 ∷ ds)
cons digit ds sevens = All-cons (λ d. length d ≡ 7) (field_of digit 7) ds (length-field_of digit 7) sevens

nil : AreSevens []
nil = All-nil (λ d. length d ≡ 7)

-- one block alone, and one before others
alone : (others value number digit : ℕ) (bits : List Bool) → number ≡ value * 128 + digit → digit < 2 ^ 7 → bits ≡ false ∷ field_of digit 7 → Spelled others value number bits
alone others value number digit bits same small spelled = record {
  digits = field_of digit 7 ∷ [];
  sevens = cons digit [] nil;
  some = omega arith;
  few = omega arith;
  shortest = λ none. tt;
  number_is = omega (arith, same, value_of-field digit 7 small);
  spelled = spelled;
}

open_blocks_of : (d : List Bool) (ds : List (List Bool)) → 0 < length ds → blocks_of (d ∷ ds) ≡ true ∷ d ++ blocks_of ds
open_blocks_of d [] some = absurd (omega arith)
open_blocks_of d (e ∷ ds) some = refl

open_shortest : (d : List Bool) (ds : List (List Bool)) → 0 < length ds → value_of d ≢ 0 → IsShortest (d ∷ ds)
open_shortest d [] some says = absurd (omega arith)
open_shortest d (e ∷ ds) some says = says

before_others : (others value number : ℕ) (block : Block) (front back : List Bool) → IsTelling value block front → block.more ≡ true → Spelled others block.number number back → Spelled (suc others) value number (front ++ back)
before_others others value number block front back telling another s =
    let is_block : IsBlock value block front = telling.0 in
    let digit : ℕ = is_block.0 in
    let same : block.number ≡ value * 128 + digit = is_block.2 in
    let says : block.number ≢ 0 = zero_says block.number (sym (ap (λ (b : Bool). b && (block.number == 0)) another) ∙ telling.1) in
    let d : List Bool = field_of digit 7 in
    let is : value_of d ≡ digit = value_of-field digit 7 is_block.1 in
    record {
      digits = d ∷ s.digits;
      sevens = cons digit s.digits s.sevens;
      some = omega arith;
      few = omega (arith, s.few);
      shortest = λ none. open_shortest d s.digits s.some (λ zero_digit. says (omega (arith, same, none, is, zero_digit)));
      number_is = placed value block.number digit number (length s.digits) (number_of_digits s.digits) (value_of d) same is s.number_is;
      spelled = ap (λ (l : List Bool). l ++ back) is_block.3 ∙ ap (λ (b : Bool). b ∷ d ++ back) another ∙ ap (λ (l : List Bool). true ∷ d ++ l) s.spelled ∙ sym (open_blocks_of d s.digits s.some);
    }
  where
    placed : (value so_far digit number places rest d : ℕ) → so_far ≡ value * 128 + digit → d ≡ digit → number ≡ so_far * 128 ^ places + rest → number ≡ value * 128 ^ suc places + (d * 128 ^ places + rest)
    placed value so_far digit number places rest d same is number_is = rw (number_is, same, is, pow-suc 128 places) (grind arith)

spelled_blocks : (others value number : ℕ) (bits : List Bool) → Blocks others value number bits → Spelled others value number bits
spelled_blocks zero value number bits h = alone zero value number h.0 bits h.1 h.2.0 h.2.1
spelled_blocks (suc others) value number bits p = by p.first.more refl p.right (λ h. spelled_blocks others p.first.number number p.back h)
  where
    block : IsBlock value p.first p.front
    block = p.left.0

    bits_are : p.first.more ≡ false → bits ≡ (false ∷ field_of block.0 7) ++ p.back
    bits_are same = p.whole ∙ ap (λ (l : List Bool). l ++ p.back) (block.3 ∙ ap (λ (b : Bool). b ∷ field_of block.0 7) same)

    by : (more : Bool) → p.first.more ≡ more → Behind (Blocks others) more p.first.number number p.back → (Blocks others p.first.number number p.back → Spelled others p.first.number number p.back) → Spelled (suc others) value number bits
    by true same h others_are = rw p.whole (before_others others value number p.first p.front p.back p.left same (others_are h))
    by false same h others_are =
        alone (suc others) value number block.0 bits (h.0 ∙ block.2) block.1
        (bits_are same ∙ ap (λ (l : List Bool). (false ∷ field_of block.0 7) ++ l) h.1 ∙ append-nil (false ∷ field_of block.0 7))

seven_bits : (digit : List Bool) → length digit ≡ 7 → digit ≡ field_of (value_of digit) 7
seven_bits digit seven = sym (field_of-value_of digit) ∙ ap (λ n. field_of (value_of digit) n) seven

is_block : (value : ℕ) (more : Bool) (digit : List Bool) → length digit ≡ 7 → IsBlock value (block_of more (value * 128 + value_of digit)) (more ∷ digit)
is_block value more digit seven = (value_of digit, value_of-within digit 7 (omega (arith, seven)), refl, ap (λ (l : List Bool). more ∷ l) (seven_bits digit seven))

blocks_from : (others value number : ℕ) (d : List Bool) (ds : List (List Bool)) → AreSevens (d ∷ ds) → length ds ≤ others → (value ≡ 0 → IsShortest (d ∷ ds)) → number ≡ value * 128 ^ length (d ∷ ds) + number_of_digits (d ∷ ds) → Blocks others value number (blocks_of (d ∷ ds))
blocks_from zero value number d [] sevens few shortest same =
    let seven = seven-head d [] sevens in
    (value_of d, omega (arith, same), (value_of-within d 7 (omega (arith, seven)), ap (λ (l : List Bool). false ∷ l) (seven_bits d seven)))
blocks_from zero value number d (e ∷ ds) sevens few shortest same = absurd (omega arith)
blocks_from (suc others) value number d [] sevens few shortest same = record {
  first = block_of false (value * 128 + value_of d);
  front = false ∷ d;
  back = [];
  left = (is_block value false d (seven-head d [] sevens), refl);
  right = (omega (arith, same), refl);
  whole = sym (append-nil (false ∷ d));
}
blocks_from (suc others) value number d (e ∷ ds) sevens few shortest same =
    let so_far = value * 128 + value_of d in
    let says : so_far ≢ 0 = λ none. shortest (omega (arith, none)) (omega (arith, none)) in
    record {
      first = block_of true so_far;
      front = true ∷ d;
      back = blocks_of (e ∷ ds);
      left = (is_block value true d (seven-head d (e ∷ ds) sevens), not_zero so_far says);
      right = blocks_from others so_far number e ds (seven-tail d (e ∷ ds) sevens) (omega arith) (λ none. absurd (says none)) (placed (length (e ∷ ds)) (number_of_digits (e ∷ ds)) same);
      whole = refl;
    }
  where
    placed : (places rest : ℕ) → number ≡ value * 128 ^ suc places + (value_of d * 128 ^ places + rest) → number ≡ (value * 128 + value_of d) * 128 ^ places + rest
    placed places rest same = rw (same, pow-suc 128 places) (grind arith)

to_ebv : (number : ℕ) (bits : List Bool) → Blocks 3 0 number bits → IsEbv number bits
to_ebv number bits h =
    let s = spelled_blocks 3 0 number bits h in
    record { digits = s.digits; sevens = s.sevens; few = s.few; shortest = s.shortest refl; value = omega (arith, s.number_is); spelled = s.spelled }

from_ebv : (number : ℕ) (bits : List Bool) → IsEbv number bits → Blocks 3 0 number bits
from_ebv number bits ebv = by ebv.digits ebv.sevens ebv.few ebv.shortest ebv.value ebv.spelled
  where
    by : (digits : List (List Bool)) → AreSevens digits → length digits ≤ 4 → IsShortest digits → number ≡ number_of_digits digits → bits ≡ blocks_of digits → Blocks 3 0 number bits
    by [] sevens few shortest same spelled = absurd shortest
    by (d ∷ ds) sevens few shortest same spelled = rw spelled (blocks_from 3 0 number d ds sevens (omega arith) (λ none. shortest) (omega (arith, same)))

-- the place as its vector
abbrev pub IsPointer : ℕ → List Bool → Type 0
IsPointer number bits = (number < 2 ^ 28) × (bits ≡ ebv_of number)

pub reads_ebv : Reads IsPointer (Some reasons.Ebv) ebv_at
unfolding ebv_at
reads_ebv =
    reads_as (Blocks 3 0) IsPointer (Some reasons.Ebv) ebv_at
    (λ number bits h. let ebv = to_ebv number bits h in (below-ebv number bits ebv, same-ebv number bits ebv))
    (λ number bits h. from_ebv number bits (rw h.1 (IsEbv-ebv_of number h.0)))
    (reads_blocks 3 0)

abbrev pub pointer_field : FieldKind ℕ
pointer_field = record { Spells = IsPointer; name = Some reasons.Ebv; read = ebv_at; reads = reads_ebv }
