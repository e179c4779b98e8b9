-- Reading a list of bits from left to right, one field after another, with the first place at which no command goes on.
-- FieldStages.antt and Framing.antt say what is left of it once some bits were read; what it has to do with spellings is what
-- the laws in proofs/ say.
use Rattle.std.specs.Prelude.{◌≡◌, ℕ, zero, suc, ◌+◌, ◌-◌, ◌*◌, Bool, false, List, [], ◌∷◌, length, take, drop, Option, Some, None, Result, Ok, Err, nat_lt, ◌==◌, if◌then◌else◌, ◌&&◌}
use Rattle.bit_strings.specs.NumbersInBits.{value_of}
use Rattle.bit_strings.specs.declared.code.Code.{Code}
use Rattle.bit_strings.specs.declared.code.Code.TheVariants.{Fm0, M2, M4, M8}
use Rattle.gen2_crc.specs.Crc.{crc5_of, crc16_of, differ}
use Rattle.command_fields.specs.declared.choices.Sel.{Sel}
use Rattle.command_fields.specs.declared.choices.Sel.TheVariants as sels
use Rattle.command_fields.specs.declared.choices.Side.{Side}
use Rattle.command_fields.specs.declared.choices.Side.TheVariants as side
use Rattle.command_fields.specs.declared.choices.UpDn.{UpDn}
use Rattle.command_fields.specs.declared.choices.UpDn.TheVariants.{Up, Same, Down}
use Rattle.command_fields.specs.declared.choices.Bank.{Bank}
use Rattle.command_fields.specs.declared.choices.Bank.TheVariants as banks
use Rattle.command_fields.specs.declared.choices.MaskBank.{MaskBank}
use Rattle.command_fields.specs.declared.choices.MaskBank.TheVariants as mask_banks
use Rattle.command_fields.specs.declared.choices.FlagName.{FlagName}
use Rattle.command_fields.specs.declared.choices.FlagName.TheVariants as flags
use Rattle.command_grammar.specs.Commands.{all_kinds, code_of}
use Rattle.command_grammar.specs.declared.kinds.CommandKind.{CommandKind}
use Rattle.command_grammar.specs.declared.refusal.Reason.{Reason}
use Rattle.command_grammar.specs.declared.refusal.Reason.TheVariants as reasons

-- why a field can't be read: the bits end inside it, or no command goes on so, with the number of bits from the first one
-- on with which none does and the field that it stands in
pub data Stop : Type 0 where
  Short : Stop
  Bad : (left : ℕ) → (reason : Reason) → Stop

-- what was read and the bits behind it
abbrev pub Reading : Type 0 → Type 0
Reading A = Result (A × List Bool) Stop

-- reads on with what was read, where no bit was refused
infixl 10 ◌>>=◌
abbrev pub ◌>>=◌ : {A B : Type 0} → Result A Stop → (A → Result B Stop) → Result B Stop
(Ok x) >>= f = f x
(Err e) >>= f = Err e

-- reads one bit of a command
abbrev pub bit_at : List Bool → Reading Bool
bit_at [] = Err Short
bit_at (bit ∷ rest) = Ok (bit, rest)

-- reads so many bits of a command, as a list of bits
abbrev pub reading_bits : ℕ → List Bool → Reading (List Bool)
reading_bits width bits = if nat_lt (length bits) width then Err Short else Ok (take width bits, drop width bits)

-- reads so many bits of a command, as a number
abbrev pub reading_number : ℕ → List Bool → Reading ℕ
reading_number width bits = if nat_lt (length bits) width then Err Short else Ok (value_of (take width bits), drop width bits)

-- what a field of a few bits may be: by its bits, the next one 0 or 1
pub data Choice (A : Type 0) : Type 0 where
  pick : A → Choice A
  none : Choice A
  fork : Choice A → Choice A → Choice A

-- what the next bit leaves of a choice between values that bits spell
abbrev pub child : {A : Type 0} → Choice A → Bool → Choice A
child (pick a) bit = pick a
child none bit = none
child (fork zeros ones) bit = if bit then ones else zeros

-- In a field where all bits are some value's the reason is never given.
abbrev pub choice_at : {A : Type 0} → Choice A → Reason → List Bool → Reading A
choice_at (pick a) reason bits = Ok (a, bits)
choice_at none reason bits = Err (Bad (length bits + 1) reason)
choice_at (fork zeros ones) reason bits = bit_at bits >>= λ next. (if next.0 then choice_at ones reason next.1 else choice_at zeros reason next.1)

-- a choice of which at least one bit is still to come
abbrev pub next_at : {A : Type 0} → Choice A → Reason → List Bool → Reading A
next_at t reason bits = bit_at bits >>= λ next. choice_at (child t next.0) reason next.1

-- what a choice says
abbrev pub IsChosen : {A : Type 0} → Option A → Choice A → Type 0
IsChosen None t = t ≡ none
IsChosen (Some value) t = t ≡ pick value

-- 6.3.2.11.2.1 Query: the line codes that M may ask for, by its two bits
abbrev pub m_values : Choice Code
m_values = fork (fork (pick Fm0) (pick M2)) (fork (pick M4) (pick M8))

-- 6.3.2.11.2.1 Query: the values of Sel, by its two bits
abbrev pub sel_values : Choice Sel
sel_values = fork (fork (pick sels.All00) (pick sels.All01)) (fork (pick sels.NotSl) (pick sels.Sl))

-- 6.3.2.11.2.1 Query: the values of the inventoried flag that Target may name, by its bit
abbrev pub query_target_values : Choice Side
query_target_values = fork (pick side.A) (pick side.B)

-- 6.3.2.11.2.2 QueryAdjust: the values of UpDn, by its three bits, of which five combinations stand for none
abbrev pub updn_values : Choice UpDn
updn_values = fork (fork (fork (pick Same) none) (fork none (pick Down))) (fork none (fork (pick Up) none))

-- 6.3.2.11.1.1 Select: the flags that Target may name, by its three bits
abbrev pub select_target_values : Choice FlagName
select_target_values = fork (fork (fork (pick flags.S0) (pick flags.S1)) (fork (pick flags.S2) (pick flags.S3))) (fork (fork (pick flags.Sl) none) none)

-- 6.3.2.11.1.1 Select: the banks that MemBank may name, by its two bits; profile: the Reserved bank is none of them
abbrev pub mask_bank_values : Choice MaskBank
mask_bank_values = fork (fork none (pick mask_banks.Epc)) (fork (pick mask_banks.Tid) (pick mask_banks.User))

-- 6.3.2.11.3.2 Read: the banks that MemBank may name, by its two bits
abbrev pub bank_values : Choice Bank
bank_values = fork (fork (pick banks.Reserved) (pick banks.Epc)) (fork (pick banks.Tid) (pick banks.User))

-- the choice with one value more, which has these bits
abbrev pub with_value : {A : Type 0} → List Bool → A → Choice A → Choice A
with_value [] value t = pick value
with_value (bit ∷ bits) value (fork zeros ones) = if bit then fork zeros (with_value bits value ones) else fork (with_value bits value zeros) ones
with_value (bit ∷ bits) value t = if bit then fork none (with_value bits value none) else fork (with_value bits value none) none

-- these kinds of commands, each by its code
abbrev pub kinds_by_code : List CommandKind → Choice CommandKind
kinds_by_code [] = none
kinds_by_code (kind ∷ others) = with_value (code_of kind) kind (kinds_by_code others)

-- 6.3.2.11, Table 6.18: the codes
abbrev pub kind_values : Choice CommandKind
kind_values = kinds_by_code all_kinds

-- reads bits of a command that are known beforehand, as those of a check number are; another bit is refused for the reason
abbrev pub exactly_at : List Bool → Reason → List Bool → Reading (Unit {0})
exactly_at [] reason bits = Ok (tt, bits)
exactly_at (wanted ∷ others) reason bits = bit_at bits >>= λ next. (if differ wanted next.0 then Err (Bad (length next.1 + 1) reason) else exactly_at others reason next.1)

-- a number of words that is not 0
unfoldable pub count_at : List Bool → Reading ℕ
count_at bits = reading_number 8 bits >>= λ count. (if count.0 == 0 then Err (Bad (length count.1 + 1) reasons.Count) else Ok count)

-- reads so many words of a command, 16 bits each
unfoldable pub words_at : ℕ → List Bool → Reading (List ℕ)
words_at zero bits = Ok ([], bits)
words_at (suc count) bits = do
  word ← reading_number 16 bits
  words ← words_at count word.1
  Ok (word.0 ∷ words.0, words.1)

-- Annex A: a block of an extensible bit vector says whether another follows, and has a digit to the base 128
pub record Block : Type 0 where
  pub more : Bool
  pub number : ℕ

-- the block, with the number of the digits up to its own, where that of the digits before is this
unfoldable pub block_at : ℕ → List Bool → Reading Block
block_at value bits = do
  more ← bit_at bits
  digit ← reading_number 7 more.1
  Ok (record { more = more.0; number = value * 128 + digit.0 }, digit.1)

-- a block of a vector before its fourth; no vector begins with one that says only that another follows
unfoldable pub block_within_at : ℕ → List Bool → Reading Block
block_within_at value bits = block_at value bits >>= λ block.
    (if block.0.more && (block.0.number == 0) then Err (Bad (length block.1 + 1) reasons.Ebv) else Ok block)

-- the fourth block, which no other follows
unfoldable pub last_digit_at : List Bool → Reading ℕ
last_digit_at bits = do
  more ← exactly_at (false ∷ []) reasons.Ebv bits
  reading_number 7 more.1

-- the blocks of a vector from one on, behind which at most so many may follow
unfoldable pub blocks_at : ℕ → ℕ → List Bool → Reading ℕ
blocks_at zero value bits = last_digit_at bits >>= λ digit. Ok (value * 128 + digit.0, digit.1)
blocks_at (suc others) value bits = block_within_at value bits >>= λ block.
    (if block.0.more then blocks_at others block.0.number block.1 else Ok (block.0.number, block.1))

-- Annex A: reads an extensible bit vector of at most four blocks, as a number
unfoldable pub ebv_at : List Bool → Reading ℕ
ebv_at bits = blocks_at 3 0 bits

-- the bits of `whole` before `bits`
abbrev pub before : List Bool → List Bool → List Bool
before whole bits = take (length whole - length bits) whole

-- Annex F: reads the CRC-5 of the bits before
unfoldable pub crc5_at : List Bool → List Bool → Reading (Unit {0})
crc5_at whole bits = exactly_at (crc5_of (before whole bits)) reasons.Crc5 bits

-- Annex F: reads the CRC-16 of the bits before
unfoldable pub crc16_at : List Bool → List Bool → Reading (Unit {0})
crc16_at whole bits = exactly_at (crc16_of (before whole bits)) reasons.Crc16 bits
