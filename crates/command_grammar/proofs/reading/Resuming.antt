-- Reading goes on from each state for the bits that are still to come.
use Rattle.std.proofs.Common.{◌≡◌, ℕ, ◌+◌, ◌-◌, ◌*◌, ◌<◌, ◌≤◌, ◌^◌, Bool, true, List, [], ◌∷◌, ◌++◌, length, Result, Ok, Err, refl, sym, ap, subst, ◌∙◌, append_assoc, append-nil, length-append, take, drop, slice_index_or, inl, inr, arith}
use Rattle.std.specs.Prelude.{◌⊎◌, Option, Some, None, not}
use mathlib.Core.Bool.{beq}
use Rattle.std.proofs.lemmas.Bool.{cases_lt}
use Rattle.std.proofs.lemmas.List.{take_all}
use Rattle.bit_strings.specs.NumbersInBits.{digit_of, value_of, field_of}
use Rattle.bit_strings.specs.laws.NumbersInBits.{value_of-push, value_of-within, field_of-value_of}
use Rattle.bit_strings.specs.Family.{IsShortAt}
use Rattle.command_grammar.specs.declared.commands.Command.{Command}
use Rattle.command_grammar.specs.declared.kinds.CommandKind.{CommandKind}
use Rattle.command_grammar.specs.declared.kinds.CommandKind.TheVariants as kinds
use Rattle.command_grammar.specs.declared.kinds.CodeFront.{CodeFront}
use Rattle.command_grammar.specs.declared.kinds.CodeFront.TheVariants as fronts
use Rattle.command_grammar.specs.declared.fields.Field.{Field}
use Rattle.command_grammar.specs.declared.reader.fields.Fields.{Fields}
use Rattle.command_grammar.specs.declared.reader.field_in_progress.BitField.TheVariants as bit_fields
use Rattle.command_grammar.specs.declared.reader.field_in_progress.PairField.TheVariants as pair_fields
use Rattle.command_grammar.specs.declared.reader.field_in_progress.TripleField.TheVariants as triple_fields
use Rattle.command_grammar.specs.declared.reader.check.Check.{Check}
use Rattle.command_grammar.specs.declared.reader.known_bits.KnownBits.{KnownBits}
use Rattle.command_grammar.specs.declared.reader.field_in_progress.NumberField.{NumberField}
use Rattle.command_grammar.specs.declared.reader.field_in_progress.Stage.{Stage}
use Rattle.command_grammar.specs.declared.reader.field_in_progress.Stage.TheVariants as stages
use Rattle.command_grammar.specs.declared.reader.command_in_progress.Position.{Position}
use Rattle.command_grammar.specs.declared.reader.command_in_progress.Position.TheVariants as positions
use Rattle.command_grammar.specs.declared.reader.command_in_progress.State.{State}
use Rattle.command_grammar.specs.declared.refusal.Reason.{Reason}
use Rattle.command_grammar.specs.declared.refusal.Reason.TheVariants as reasons
use Rattle.command_grammar.specs.Commands.{command_fields_of, command_of, Spellings, SpellsCommand, IsCommandRefusedAt}
use Rattle.command_grammar.specs.reading.Readers.{Stop, Short, Bad, Reading, ◌>>=◌, Choice, child, kind_values, choice_at, next_at, reading_number}
use Rattle.command_grammar.specs.reading.Codes.{behind_code}
use Rattle.command_grammar.specs.reading.CommandFields.{FieldReader, alone, counted, reader_of, field_then, field_from, command_from, fields_at, command_at, all_of, only_whole, run}
use Rattle.command_grammar.specs.reading.FieldStages.{width_of, number_then, stage_from}
use Rattle.command_grammar.specs.reading.KnownBits.{known_bits, next_bit}
use Rattle.command_grammar.specs.reading.CheckNumbers.{IsRegisterOf}
use Rattle.command_grammar.specs.reading.Framing.{resume, StateStandsFor, HasDigits, HasRead, IsOpen, IsSoundPosition, Keeps, TakesBit, bits_of_number}
use Rattle.command_grammar.proofs.reading.FieldRests.{is_fork, fork-at, number-short, number-whole, mask-short}
use Rattle.command_grammar.proofs.reading.FieldStages.{few_bits as few_bits_of, some_bits}
use Rattle.command_grammar.proofs.reading.KnownBits.{reads_more, reads_last, reads_other, known-short}
use Rattle.command_grammar.proofs.SpellingLaws.{begun}
use Rattle.command_grammar.proofs.reading.WholeReading.{all_whole, all_short, all_bad}
use Rattle.command_grammar.proofs.SpellingLengths.{length-begins}

-- ---- a command is its fields, one behind the other

abbrev whole_of : Command × List Bool → Result Command Stop
whole_of read = only_whole read.0 read.1

then : {A : Type 0} (r : Reading A) (k : A × List Bool → Reading Command) (h : A × List Bool → Fields × List Bool) (g : Fields × List Bool → Result Command Stop)
    → ((x : A × List Bool) → (k x >>= whole_of) ≡ g (h x)) → ((r >>= k) >>= whole_of) ≡ ((r >>= λ x. Ok (h x)) >>= g)
then (Ok x) k h g e = e x
then (Err stop) k h g e = refl

then_two : {A B : Type 0} (r : Reading A) (s : A × List Bool → Reading B) (k : A × List Bool → B × List Bool → Reading Command) (h : A × List Bool → B × List Bool → Fields × List Bool) (g : Fields × List Bool → Result Command Stop)
    → ((x : A × List Bool) (y : B × List Bool) → (k x y >>= whole_of) ≡ g (h x y)) → ((r >>= λ x. (s x >>= λ y. k x y)) >>= whole_of) ≡ ((r >>= λ x. (s x >>= λ y. Ok (h x y))) >>= g)
then_two (Ok x) s k h g e = then (s x) (k x) (h x) g (e x)
then_two (Err stop) s k h g e = refl

field_whole : (reader : FieldReader) (v : Fields) (whole bits : List Bool) (k : Fields × List Bool → Reading Command) (g : Fields × List Bool → Result Command Stop)
    → ((x : Fields × List Bool) → (k x >>= whole_of) ≡ g x) → (field_then reader v whole bits k >>= whole_of) ≡ (field_then reader v whole bits (λ x. Ok x) >>= g)
field_whole (alone read set) v whole bits k g e = then (read whole bits) _ _ g (λ x. e (set v x.0, x.1))
field_whole (counted count read set) v whole bits k g e = then_two (count bits) (λ n. read n.0 n.1) _ _ g (λ n x. e (set v x.0, x.1))

runs : (fields : List Field) (kind : CommandKind) (v : Fields) (whole bits : List Bool) → (command_from fields kind v whole bits >>= whole_of) ≡ run fields kind v whole bits
runs [] kind v whole bits = refl
runs (field ∷ behind) kind v whole bits = field_whole (reader_of field) v whole bits _ (λ x. run behind kind x.0 whole x.1) (λ x. runs behind kind x.0 whole x.1)

-- a command has each of its fields read, so it doesn't matter what they were
from_any : (kind : CommandKind) (v : Fields) (whole bits : List Bool) → fields_at kind whole bits ≡ command_from (command_fields_of kind) kind v whole bits
from_any kinds.QueryRep v whole bits = refl
from_any kind v whole bits = refl

fields_run : (kind : CommandKind) (v : Fields) (whole bits : List Bool) → (fields_at kind whole bits >>= whole_of) ≡ run (command_fields_of kind) kind v whole bits
fields_run kind v whole bits = ap (λ (r : Reading Command). r >>= whole_of) (from_any kind v whole bits) ∙ runs (command_fields_of kind) kind v whole bits

-- ---- from no bits on

pub code-forks : (front : CodeFront) → is_fork (behind_code front) ≡ true
code-forks fronts.Nothing = refl
code-forks front = refl

pub code-more : (front more : CodeFront) (bit : Bool) (rest : List Bool) → child (behind_code front) bit ≡ behind_code more → next_at (behind_code front) reasons.Code (bit ∷ rest) ≡ next_at (behind_code more) reasons.Code rest
code-more front more bit rest e = ap (λ (t : Choice CommandKind). choice_at t reasons.Code rest) e ∙ fork-at (behind_code more) reasons.Code rest (code-forks more)

abbrev pub Resumes : CommandKind → Position → List Field → Fields → List Bool → Type 0
Resumes kind position behind v bits = (rest : List Bool) → all_of (bits ++ rest) ≡ resume kind position behind v (bits ++ rest) rest

pub resumes_none : (kind : CommandKind) (behind : List Field) (v : Fields) → Resumes kind (positions.Code fronts.Nothing) behind v []
unfolding all_of command_at
resumes_none kind behind v rest = goes (choice_at kind_values reasons.Code rest) ∙ ap (λ (r : Reading CommandKind). r >>= λ x. run (command_fields_of x.0) x.0 v rest x.1) (fork-at kind_values reasons.Code rest refl)
  where
    goes : (r : Reading CommandKind) → ((r >>= λ x. fields_at x.0 rest x.1) >>= whole_of) ≡ (r >>= λ x. run (command_fields_of x.0) x.0 v rest x.1)
    goes (Ok x) = fields_run x.0 v rest x.1
    goes (Err stop) = refl

-- ---- with more bits

pub resumes_more : (s : State) (position : Position) (v : Fields) (bits run_bits : List Bool) → StateStandsFor s bits
    → ((rest : List Bool) → resume s.kind s.position s.behind.now s.fields ((bits ++ run_bits) ++ rest) (run_bits ++ rest) ≡ resume s.kind position s.behind.now v ((bits ++ run_bits) ++ rest) rest)
    → Resumes s.kind position s.behind.now v (bits ++ run_bits)
resumes_more s position v bits run_bits stands step rest =
    let same : (bits ++ run_bits) ++ rest ≡ bits ++ (run_bits ++ rest) = append_assoc bits run_bits rest in
    ap all_of same ∙ stands.reads (run_bits ++ rest) ∙ ap (λ (whole : List Bool). resume s.kind s.position s.behind.now s.fields whole (run_bits ++ rest)) (sym same) ∙ step rest

-- ---- no state but the last ends with no bits

-- nor does a number
number-ends : (field : NumberField) (v : Fields) (read : List Bool) → length read < width_of field → stage_from (stages.Number field) v read ≡ Err Short
number-ends field v read less = ap (λ (r : Reading ℕ). r >>= λ n. number_then field n.0 v n.1) (number-short (width_of field) read less)

stage-short : (stage : Stage) (v : Fields) → stage_from stage v [] ≡ Err Short
stage-short (stages.Bit bit_fields.Dr) v = refl
stage-short (stages.Bit bit_fields.TRext) v = refl
stage-short (stages.Bit bit_fields.QueryTarget) v = refl
stage-short (stages.Pair pair_fields.M first) v = refl
stage-short (stages.Pair pair_fields.Sel first) v = refl
stage-short (stages.Pair pair_fields.Bank first) v = refl
stage-short (stages.Pair pair_fields.MaskBank first) v = refl
stage-short (stages.Triple triple_fields.UpDn front) v = refl
stage-short (stages.Triple triple_fields.SelectTarget front) v = refl
stage-short (stages.Number field) v = number-ends field v [] (omega (arith, some_bits field))
stage-short (stages.Ebv front) v = refl
stage-short (stages.Mask behind) v = ap (λ (r : Reading (List Bool)). r >>= λ x. Ok (record v { mask = x.0 }, x.1)) (mask-short behind v.mask)

all_here : (kind : CommandKind) (position : Position) (behind : List Field) (v : Fields) (bits : List Bool) → Resumes kind position behind v bits → all_of bits ≡ resume kind position behind v (bits ++ []) []
all_here kind position behind v bits resumes = ap all_of (sym (append-nil bits)) ∙ resumes []

pub code_short : (kind : CommandKind) (front : CodeFront) (behind : List Field) (v : Fields) (bits : List Bool) → Resumes kind (positions.Code front) behind v bits → all_of bits ≡ Err Short
code_short kind front behind v bits resumes = all_here kind (positions.Code front) behind v bits resumes

pub within_short : (kind : CommandKind) (stage : Stage) (behind : List Field) (v : Fields) (bits : List Bool) → Resumes kind (positions.Within stage) behind v bits → all_of bits ≡ Err Short
within_short kind stage behind v bits resumes =
    all_here kind (positions.Within stage) behind v bits resumes ∙ ap (λ (r : Reading Fields). r >>= λ x. run behind kind x.0 (bits ++ []) x.1) (stage-short stage v)

pub known_short : (kind : CommandKind) (reason : Reason) (number : KnownBits) (behind : List Field) (v : Fields) (bits : List Bool) → Resumes kind (positions.Known reason number) behind v bits → all_of bits ≡ Err Short
known_short kind reason number behind v bits resumes =
    all_here kind (positions.Known reason number) behind v bits resumes ∙ ap (λ (r : Reading Fields). r >>= λ x. run behind kind x.0 (bits ++ []) x.1) (known-short reason number v)

pub whole_here : (kind : CommandKind) (behind : List Field) (v : Fields) (bits : List Bool) → Resumes kind positions.Whole behind v bits → all_of bits ≡ Ok (command_of kind v)
whole_here kind behind v bits resumes = all_here kind positions.Whole behind v bits resumes

-- so the bits begin some command, and are few
pub few_bits : (kind : CommandKind) (position : Position) (behind : List Field) (v : Fields) (bits : List Bool) → Resumes kind position behind v bits → length bits ≤ 4162
few_bits kind (positions.Code front) behind v bits resumes = length-begins bits (all_short bits (code_short kind front behind v bits resumes)).begins
few_bits kind (positions.Within stage) behind v bits resumes = length-begins bits (all_short bits (within_short kind stage behind v bits resumes)).begins
few_bits kind (positions.Known reason number) behind v bits resumes = length-begins bits (all_short bits (known_short kind reason number behind v bits resumes)).begins
few_bits kind positions.Whole behind v bits resumes =
    length-begins bits (begun Spellings bits (command_of kind v, all_whole (command_of kind v) bits (whole_here kind behind v bits resumes)))

-- a bit that no command goes on with is the place of refusal
pub refused_last : (bits : List Bool) (bit : Bool) (place : ℕ) (reason : Reason) → place ≡ length bits → all_of (bits ++ bit ∷ []) ≡ Err (Bad (length {A = Bool} [] + 1) reason) → IsCommandRefusedAt (bits ++ bit ∷ []) place reason
refused_last bits bit place reason same e =
    let here : length (bits ++ bit ∷ []) - 1 ≡ place = omega (arith, length-append bits (bit ∷ [])) in
    subst (λ (n : ℕ). IsCommandRefusedAt (bits ++ bit ∷ []) n reason) here (all_bad (bits ++ bit ∷ []) 1 reason e).1

-- ---- what is said of a state

pub whole_spells : (s : State) (bits : List Bool) → s.position ≡ positions.Whole → StateStandsFor s bits → SpellsCommand (command_of s.kind s.fields) bits
whole_spells s bits whole stands =
    let resumes : Resumes s.kind positions.Whole s.behind.now s.fields bits = subst (λ (position : Position). Resumes s.kind position s.behind.now s.fields bits) whole stands.reads in
    all_whole (command_of s.kind s.fields) bits (whole_here s.kind s.behind.now s.fields bits resumes)

-- the bits aren't a whole command
abbrev pub IsOngoing : Position → Type 0
IsOngoing position = ((front : CodeFront) × (position ≡ positions.Code front)) ⊎ (((stage : Stage) × (position ≡ positions.Within stage)) ⊎ ((reason : Reason) × (number : KnownBits) × (position ≡ positions.Known reason number)))

pub open_short : (s : State) (bits : List Bool) → IsOngoing s.position → StateStandsFor s bits → IsShortAt Spellings bits (length bits)
open_short s bits (inl code) stands =
    all_short bits (code_short s.kind code.0 s.behind.now s.fields bits (subst (λ (position : Position). Resumes s.kind position s.behind.now s.fields bits) code.1 stands.reads))
open_short s bits (inr (inl within)) stands =
    all_short bits (within_short s.kind within.0 s.behind.now s.fields bits (subst (λ (position : Position). Resumes s.kind position s.behind.now s.fields bits) within.1 stands.reads))
open_short s bits (inr (inr known)) stands =
    all_short bits (known_short s.kind known.0 known.1 s.behind.now s.fields bits (subst (λ (position : Position). Resumes s.kind position s.behind.now s.fields bits) known.2 stands.reads))

-- ---- inside a number

pub few_digits : (position : Position) → bits_of_number position ≤ 20
few_digits (positions.Within (stages.Number field)) = few_bits_of field
few_digits position = omega arith

-- bits inside a number begin some command, and are none
inside_short : (kind : CommandKind) (position : Position) (behind : List Field) (v : Fields) (whole read : List Bool) → length read < bits_of_number position → resume kind position behind v whole read ≡ Err Short
inside_short kind (positions.Within (stages.Number field)) behind v whole read less = ap (λ (r : Reading Fields). r >>= λ x. run behind kind x.0 whole x.1) (number-ends field v read less)
inside_short kind position behind v whole read less = absurd (omega arith)

pub read_short : (s : State) (pushed : ℕ) (bits : List Bool) → 1 ≤ s.left → HasRead s pushed bits → IsShortAt Spellings bits (length bits)
read_short s pushed bits some h =
    all_short bits (ap all_of h.split ∙ h.stands.reads h.read ∙ inside_short s.kind s.position s.behind.now s.fields (h.before ++ h.read) h.read (omega (arith, h.digits.wide, some)))

-- where no number is being read the state stands for all of the bits
pub read_none : (s : State) (pushed : ℕ) (bits : List Bool) → s.left ≡ 0 → HasRead s pushed bits → StateStandsFor s bits
read_none s pushed bits none h =
    subst (λ (l : List Bool). StateStandsFor s l) (sym (h.split ∙ ap (λ (l : List Bool). h.before ++ l) (h.digits.nothing none) ∙ append-nil h.before)) h.stands

pub read_all : (s : State) (pushed : ℕ) (bits : List Bool) → HasDigits s [] → StateStandsFor s bits → pushed ≡ length bits → HasRead s pushed bits
read_all s pushed bits digits stands count = record { before = bits; read = []; split = sym (append-nil bits); digits = digits; stands = stands; count = count }

pub few_read : (s : State) (pushed : ℕ) (bits : List Bool) → HasRead s pushed bits → pushed ≤ 4162
few_read s pushed bits h =
    elim (cases_lt 0 s.left) [
      | inl some ↦ omega (arith, h.count, length-begins bits (read_short s pushed bits (omega (arith, some)) h).begins)
      | inr none ↦ omega (arith, h.count, few_bits s.kind s.position s.behind.now s.fields bits (read_none s pushed bits (omega (arith, none)) h).reads)
    ]

-- what the bits read of a number are is small
pub small_value : (s : State) (read : List Bool) → HasDigits s read → s.value < 2 ^ 30
small_value s read digits = omega (arith, digits.value, value_of-within read 30 (omega (arith, digits.wide, few_digits s.position)))

-- one bit more of a number that isn't its last one
pub digit_more : (s more : State) (pushed : ℕ) (bits : List Bool) (bit : Bool) → more ≡ record s { left = s.left - 1; value = 2 * s.value + digit_of bit } → 2 ≤ s.left → HasRead s pushed bits → HasRead more (pushed + 1) (bits ++ bit ∷ [])
digit_more s more pushed bits bit same some h =
    subst (λ (t : State). HasRead t (pushed + 1) (bits ++ bit ∷ [])) (sym same) (record {
      before = h.before;
      read = h.read ++ bit ∷ [];
      split = ap (λ (l : List Bool). l ++ bit ∷ []) h.split ∙ append_assoc h.before h.read (bit ∷ []);
      digits = record {
        wide = omega (arith, h.digits.wide, length-append h.read (bit ∷ []), some);
        value = ap (λ n. 2 * n + digit_of bit) h.digits.value ∙ sym (value_of-push h.read bit);
        nothing = λ none. absurd (omega (arith, none, some));
      };
      stands = record { counted = h.stands.counted; served = h.stands.served; reads = h.stands.reads };
      count = omega (arith, h.count, length-append bits (bit ∷ []));
    })

-- the last bit of a number: how many bits it has, and what it is
pub number_wide : (s : State) (field : NumberField) (read : List Bool) → s.position ≡ positions.Within (stages.Number field) → s.left ≡ 1 → HasDigits s read → length read + 1 ≡ width_of field
number_wide s field read here last digits = omega (arith, digits.wide, last, ap bits_of_number here)

pub number_value : (s : State) (read : List Bool) (bit : Bool) (value : ℕ) → HasDigits s read → value ≡ 2 * s.value + digit_of bit → value ≡ value_of (read ++ bit ∷ [])
number_value s read bit value digits same = same ∙ ap (λ n. 2 * n + digit_of bit) digits.value ∙ sym (value_of-push read bit)

pub number_small : (s : State) (field : NumberField) (read : List Bool) (bit : Bool) (value : ℕ) → s.position ≡ positions.Within (stages.Number field) → s.left ≡ 1 → HasDigits s read → value ≡ 2 * s.value + digit_of bit → value < 2 ^ width_of field
number_small s field read bit value here last digits same =
    subst (λ n. n < 2 ^ width_of field) (sym (number_value s read bit value digits same))
    (value_of-within (read ++ bit ∷ []) (width_of field) (omega (arith, length-append read (bit ∷ []), number_wide s field read here last digits)))

-- ... and reading goes on with what the number is
pub number_goes : (s : State) (field : NumberField) (before read : List Bool) (bit : Bool) (value : ℕ) → s.position ≡ positions.Within (stages.Number field) → length read + 1 ≡ width_of field → value ≡ value_of (read ++ bit ∷ []) → StateStandsFor s before → (rest : List Bool)
    → all_of (((before ++ read) ++ bit ∷ []) ++ rest) ≡ (number_then field value s.fields rest >>= λ x. run s.behind.now s.kind x.0 (((before ++ read) ++ bit ∷ []) ++ rest) x.1)
number_goes s field before read bit value here wide same stands rest =
    let digits : List Bool = read ++ bit ∷ [] in
    let all : ((before ++ read) ++ bit ∷ []) ++ rest ≡ before ++ (digits ++ rest) = ap (λ (l : List Bool). l ++ rest) (append_assoc before read (bit ∷ [])) ∙ append_assoc before digits rest in
    let number : reading_number (width_of field) (digits ++ rest) ≡ Ok (value, rest) = number-whole (width_of field) digits rest (omega (arith, wide, length-append read (bit ∷ []))) ∙ ap (λ n. Ok (n, rest)) (sym same) in
    ap all_of all ∙ stands.reads (digits ++ rest)
    ∙ ap (λ (position : Position). resume s.kind position s.behind.now s.fields (before ++ (digits ++ rest)) (digits ++ rest)) here
    ∙ ap (λ (r : Reading ℕ). (r >>= λ n. number_then field n.0 s.fields n.1) >>= λ x. run s.behind.now s.kind x.0 (before ++ (digits ++ rest)) x.1) number
    ∙ ap (λ (whole : List Bool). number_then field value s.fields rest >>= λ x. run s.behind.now s.kind x.0 whole x.1) (sym all)

-- ... and the check number with its bits
pub number_counted : (check : Check) (before read : List Bool) (bit : Bool) (value width : ℕ) → length read + 1 ≡ width → value ≡ value_of (read ++ bit ∷ []) → IsRegisterOf check (before ++ field_of value width) → IsRegisterOf check ((before ++ read) ++ bit ∷ [])
number_counted check before read bit value width wide same register =
    let digits : List Bool = read ++ bit ∷ [] in
    let long : width ≡ length digits = omega (arith, wide, length-append read (bit ∷ [])) in
    let field : field_of value width ≡ digits = ap (λ n. field_of n width) same ∙ ap (λ n. field_of (value_of digits) n) long ∙ field_of-value_of digits in
    subst (IsRegisterOf check) (ap (λ (l : List Bool). before ++ l) field ∙ sym (append_assoc before read (bit ∷ []))) register

-- where no number is being read, what was read of one is nothing
pub no_number : (s : State) (read : List Bool) → s.left ≡ 0 → HasDigits s read → bits_of_number s.position ≡ 0
no_number s read none digits = omega (arith, digits.wide, none, ap length (digits.nothing none))

pub no_value : (s : State) (read : List Bool) → s.left ≡ 0 → HasDigits s read → s.value ≡ 0
no_value s read none digits = digits.value ∙ ap value_of (digits.nothing none)

-- no number is being read in the code, nor in a field of another kind
pub none_left : (s : State) (read : List Bool) (position : Position) → s.position ≡ position → bits_of_number position ≡ 0 → HasDigits s read → (s.left ≡ 0) × (s.value ≡ 0)
none_left s read position is other digits =
    let none : s.left ≡ 0 = omega (arith, digits.wide, ap bits_of_number is, other) in
    (none, no_value s read none digits)

-- no bit of a number was read
pub no_digits : (s : State) → s.left ≡ bits_of_number s.position → s.value ≡ 0 → HasDigits s []
no_digits s wide value = record { wide = omega (arith, wide); value = value; nothing = λ none. refl }

-- the next field begins
pub first_and_behind : (fields : List Field) (default : Field) → 1 ≤ length fields → slice_index_or fields 0 default ∷ take (length fields - 1) (drop 1 fields) ≡ fields
first_and_behind [] default some = absurd (omega arith)
first_and_behind (field ∷ behind) default some = ap (λ (others : List Field). field ∷ others) (take_all (length (field ∷ behind) - 1) behind (omega arith))

-- ---- what comes of one bit more

-- the code goes on
pub code_run : (s : State) (bits run_bits : List Bool) (front more : CodeFront) → s.position ≡ positions.Code front → ((rest : List Bool) → next_at (behind_code front) reasons.Code (run_bits ++ rest) ≡ next_at (behind_code more) reasons.Code rest) → StateStandsFor s bits
    → Resumes s.kind (positions.Code more) s.behind.now s.fields (bits ++ run_bits)
code_run s bits run_bits front more here goes stands =
    resumes_more s (positions.Code more) s.fields bits run_bits stands
    (λ rest. ap (λ (position : Position). resume s.kind position s.behind.now s.fields ((bits ++ run_bits) ++ rest) (run_bits ++ rest)) here ∙ ap (λ (r : Reading CommandKind). r >>= λ x. run (command_fields_of x.0) x.0 s.fields ((bits ++ run_bits) ++ rest) x.1) (goes rest))

pub code_goes_on : (s : State) (bits : List Bool) (bit : Bool) (front more : CodeFront) → s.position ≡ positions.Code front → child (behind_code front) bit ≡ behind_code more → StateStandsFor s bits → Resumes s.kind (positions.Code more) s.behind.now s.fields (bits ++ bit ∷ [])
code_goes_on s bits bit front more here e stands = code_run s bits (bit ∷ []) front more here (λ rest. code-more front more bit rest e) stands

-- a field goes on
pub stage_run : (s : State) (bits run_bits : List Bool) (stage more : Stage) (v : Fields) → s.position ≡ positions.Within stage → ((rest : List Bool) → stage_from stage s.fields (run_bits ++ rest) ≡ stage_from more v rest) → StateStandsFor s bits
    → Resumes s.kind (positions.Within more) s.behind.now v (bits ++ run_bits)
stage_run s bits run_bits stage more v here goes stands =
    resumes_more s (positions.Within more) v bits run_bits stands
    (λ rest. ap (λ (position : Position). resume s.kind position s.behind.now s.fields ((bits ++ run_bits) ++ rest) (run_bits ++ rest)) here ∙ ap (λ (r : Reading Fields). r >>= λ x. run s.behind.now s.kind x.0 ((bits ++ run_bits) ++ rest) x.1) (goes rest))

-- bits that are known go on, or end, or another bit comes
goes_on : (s : State) (bits : List Bool) (bit : Bool) (rest : List Bool) → StateStandsFor s bits → all_of ((bits ++ bit ∷ []) ++ rest) ≡ resume s.kind s.position s.behind.now s.fields ((bits ++ bit ∷ []) ++ rest) (bit ∷ rest)
goes_on s bits bit rest stands =
    let same : (bits ++ bit ∷ []) ++ rest ≡ bits ++ (bit ∷ rest) = append_assoc bits (bit ∷ []) rest in
    ap all_of same ∙ stands.reads (bit ∷ rest) ∙ ap (λ (whole : List Bool). resume s.kind s.position s.behind.now s.fields whole (bit ∷ rest)) (sym same)

abbrev runs_on : State → List Bool → Reading Fields → Result Command Stop
runs_on s whole r = r >>= λ x. run s.behind.now s.kind x.0 whole x.1

pub known_goes_on : (s : State) (bits : List Bool) (bit : Bool) (reason : Reason) (number more : KnownBits) → s.position ≡ positions.Known reason number → known_bits number ≡ bit ∷ known_bits more → StateStandsFor s bits → Resumes s.kind (positions.Known reason more) s.behind.now s.fields (bits ++ bit ∷ [])
known_goes_on s bits bit reason number more here same stands rest =
    goes_on s bits bit rest stands
    ∙ ap (λ (position : Position). resume s.kind position s.behind.now s.fields ((bits ++ bit ∷ []) ++ rest) (bit ∷ rest)) here
    ∙ ap (runs_on s ((bits ++ bit ∷ []) ++ rest)) (reads_more reason number more s.fields bit rest same)

pub known_ends : (s : State) (bits : List Bool) (bit : Bool) (reason : Reason) (number : KnownBits) → s.position ≡ positions.Known reason number → known_bits number ≡ bit ∷ [] → StateStandsFor s bits → (rest : List Bool)
    → all_of ((bits ++ bit ∷ []) ++ rest) ≡ run s.behind.now s.kind s.fields ((bits ++ bit ∷ []) ++ rest) rest
known_ends s bits bit reason number here same stands rest =
    goes_on s bits bit rest stands
    ∙ ap (λ (position : Position). resume s.kind position s.behind.now s.fields ((bits ++ bit ∷ []) ++ rest) (bit ∷ rest)) here
    ∙ ap (runs_on s ((bits ++ bit ∷ []) ++ rest)) (reads_last reason number s.fields bit rest same)

pub known_stops : (s : State) (bits : List Bool) (bit : Bool) (reason : Reason) (number : KnownBits) → s.position ≡ positions.Known reason number → not (beq bit (next_bit number)) ≡ true → StateStandsFor s bits → (rest : List Bool)
    → all_of (bits ++ bit ∷ rest) ≡ Err (Bad (length rest + 1) reason)
known_stops s bits bit reason number here test stands rest =
    stands.reads (bit ∷ rest)
    ∙ ap (λ (position : Position). resume s.kind position s.behind.now s.fields (bits ++ bit ∷ rest) (bit ∷ rest)) here
    ∙ ap (runs_on s (bits ++ bit ∷ rest)) (reads_other reason number s.fields bit rest test)

-- ... and the check number has them already
pub known_counted : (check : Check) (bits others : List Bool) (bit : Bool) (number : KnownBits) → known_bits number ≡ bit ∷ others → IsRegisterOf check (bits ++ known_bits number) → IsRegisterOf check ((bits ++ bit ∷ []) ++ others)
known_counted check bits others bit number same register =
    subst (IsRegisterOf check) (ap (λ (l : List Bool). bits ++ l) same ∙ sym (append_assoc bits (bit ∷ []) others)) register

-- ---- what a Framer keeps, with one bit more

stopped_none : (s : State) → s.position ≡ positions.Whole → HasDigits s [] → s.left ≡ 0
stopped_none s whole digits = omega (arith, digits.wide, ap bits_of_number whole)

-- inside a number no bit was refused
pub open_none : (s : State) (pushed : ℕ) (refused : Option (ℕ × Reason)) → IsOpen s pushed refused → 2 ≤ s.left → refused ≡ None
open_none s pushed None is some = refl
open_none s pushed (Some refusal) is some = absurd (omega (arith, stopped_none s is.0 is.1, some))

pub open_small : (s : State) (pushed : ℕ) (refused : Option (ℕ × Reason)) → IsOpen s pushed refused → 2 ≤ s.left → s.value < 2 ^ 30
open_small s pushed None is some = small_value s is.2.read is.2.digits
open_small s pushed (Some refusal) is some = absurd (omega (arith, stopped_none s is.0 is.1, some))

pub open_few : (s : State) (pushed : ℕ) (refused : Option (ℕ × Reason)) → IsOpen s pushed refused → 2 ≤ s.left → pushed ≤ 4162
open_few s pushed None is some = few_read s pushed is.1 is.2
open_few s pushed (Some refusal) is some = absurd (omega (arith, stopped_none s is.0 is.1, some))

pub few_open : (s : State) (pushed : ℕ) (refused : Option (ℕ × Reason)) → refused ≡ None → IsOpen s pushed refused → pushed ≤ 4162
few_open s pushed None none is = few_read s pushed is.1 is.2
few_open s pushed (Some refusal) none is = absurd cc

pub open_more : (s more : State) (pushed : ℕ) (refused : Option (ℕ × Reason)) (bit : Bool) → more ≡ record s { left = s.left - 1; value = 2 * s.value + digit_of bit } → 2 ≤ s.left → IsOpen s pushed refused → IsOpen more (pushed + 1) refused
open_more s more pushed None bit same some is =
    (subst (λ (t : State). IsSoundPosition t.position t.fields) (sym same) is.0, is.1 ++ bit ∷ [], digit_more s more pushed is.1 bit same some is.2)
open_more s more pushed (Some refusal) bit same some is = absurd (omega (arith, stopped_none s is.0 is.1, some))

pub keeps_more : (s more : State) (pushed : ℕ) (refused : Option (ℕ × Reason)) (bits : List Bool) (bit : Bool) → more ≡ record s { left = s.left - 1; value = 2 * s.value + digit_of bit } → 2 ≤ s.left → IsOpen s pushed refused → Keeps s pushed refused bits
    → Keeps more (pushed + 1) refused (bits ++ bit ∷ []) × IsShortAt Spellings (bits ++ bit ∷ []) (length (bits ++ bit ∷ []))
keeps_more s more pushed None bits bit same some is keeps =
    let read = digit_more s more pushed bits bit same some keeps in
    (read, read_short more (pushed + 1) (bits ++ bit ∷ []) (omega (arith, ap (λ (t : State). t.left) same, some)) read)
keeps_more s more pushed (Some refusal) bits bit same some is keeps = absurd (omega (arith, stopped_none s is.0 is.1, some))

-- a bit inside another field, or of the code
pub open_sound : (s : State) (pushed : ℕ) (refused : Option (ℕ × Reason)) → IsOpen s pushed refused → IsSoundPosition s.position s.fields
open_sound s pushed None is = is.0
open_sound s pushed (Some refusal) is = subst (λ (position : Position). IsSoundPosition position s.fields) (sym is.0) tt

pub open_digits : (s : State) (pushed : ℕ) (refused : Option (ℕ × Reason)) → IsOpen s pushed refused → (read : List Bool) × HasDigits s read
open_digits s pushed None is = (is.2.read, is.2.digits)
open_digits s pushed (Some refusal) is = ([], is.1)

pub ongoing_none : (s : State) (pushed : ℕ) (refused : Option (ℕ × Reason)) → IsOpen s pushed refused → ¬ (s.position ≡ positions.Whole) → refused ≡ None
ongoing_none s pushed None is ongoing = refl
ongoing_none s pushed (Some refusal) is ongoing = absurd (ongoing is.0)

pub inside_stands : (s more : State) (pushed : ℕ) (refused : Option (ℕ × Reason)) (bits : List Bool) (bit : Bool) → refused ≡ None → s.left ≡ 0 → ((front : List Bool) → StateStandsFor s front → StateStandsFor more (front ++ bit ∷ [])) → Keeps s pushed refused bits
    → StateStandsFor more (bits ++ bit ∷ [])
inside_stands s more pushed None bits bit going none goes keeps = goes bits (read_none s pushed bits none keeps)
inside_stands s more pushed (Some refusal) bits bit going none goes keeps = absurd cc

pub inside_keeps : (s more : State) (pushed : ℕ) (refused : Option (ℕ × Reason)) (bits : List Bool) (bit : Bool) → refused ≡ None → s.left ≡ 0 → ((front : List Bool) → StateStandsFor s front → StateStandsFor more (front ++ bit ∷ [])) → HasDigits more [] → Keeps s pushed refused bits
    → Keeps more (pushed + 1) refused (bits ++ bit ∷ [])
inside_keeps s more pushed None bits bit going none goes digits keeps =
    read_all more (pushed + 1) (bits ++ bit ∷ []) digits (goes bits (read_none s pushed bits none keeps)) (omega (arith, keeps.count, length-append bits (bit ∷ [])))
inside_keeps s more pushed (Some refusal) bits bit going none goes digits keeps = absurd cc

pub inside_open : (s more : State) (pushed : ℕ) (refused : Option (ℕ × Reason)) (bit : Bool) → refused ≡ None → s.left ≡ 0 → ((front : List Bool) → StateStandsFor s front → StateStandsFor more (front ++ bit ∷ [])) → HasDigits more [] → IsSoundPosition more.position more.fields → IsOpen s pushed refused
    → IsOpen more (pushed + 1) refused
inside_open s more pushed None bit going none goes digits sound is =
    (sound, is.1 ++ bit ∷ [], inside_keeps s more pushed None is.1 bit going none goes digits is.2)
inside_open s more pushed (Some refusal) bit going none goes digits sound is = absurd cc

-- a bit that ends a number or a field, or is refused
pub edge_stands : (s more : State) (pushed : ℕ) (bits : List Bool) (bit : Bool) → HasRead s pushed bits → ((before read : List Bool) → StateStandsFor s before → HasDigits s read → TakesBit None more (before ++ read) bit) → HasDigits more [] → HasRead more (pushed + 1) (bits ++ bit ∷ [])
edge_stands s more pushed bits bit h goes digits =
    read_all more (pushed + 1) (bits ++ bit ∷ []) digits
    (subst (λ (l : List Bool). StateStandsFor more (l ++ bit ∷ [])) (sym h.split) (goes h.before h.read h.stands h.digits))
    (omega (arith, h.count, length-append bits (bit ∷ [])))

pub edge_refused : (s more : State) (pushed : ℕ) (bits : List Bool) (bit : Bool) (reason : Reason) → HasRead s pushed bits → ((before read : List Bool) → StateStandsFor s before → HasDigits s read → TakesBit (Some reason) more (before ++ read) bit) → IsCommandRefusedAt (bits ++ bit ∷ []) pushed reason
edge_refused s more pushed bits bit reason h goes =
    refused_last bits bit pushed reason h.count (ap (λ (l : List Bool). all_of (l ++ bit ∷ [])) h.split ∙ goes h.before h.read h.stands h.digits [])

-- ---- what is said of what was read

pub whole_read : (s : State) (pushed : ℕ) (bits : List Bool) → s.position ≡ positions.Whole → HasRead s pushed bits → SpellsCommand (command_of s.kind s.fields) bits
whole_read s pushed bits whole h =
    let none : s.left ≡ 0 = omega (arith, h.digits.wide, ap bits_of_number whole) in
    whole_spells s bits whole (read_none s pushed bits none h)

pub open_read : (s : State) (pushed : ℕ) (bits : List Bool) → IsOngoing s.position → HasRead s pushed bits → IsShortAt Spellings bits (length bits)
open_read s pushed bits way h =
    elim (cases_lt 0 s.left) [
      | inl some ↦ read_short s pushed bits (omega (arith, some)) h
      | inr none ↦ open_short s bits way (read_none s pushed bits (omega (arith, none)) h)
    ]
