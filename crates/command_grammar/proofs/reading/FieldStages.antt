-- One bit more in a field, and the beginning of each field.
use Rattle.std.proofs.Common.{◌≡◌, ℕ, ◌+◌, ◌-◌, ◌≤◌, Bool, true, false, List, [], ◌∷◌, ◌++◌, length, Result, Ok, Err, refl, sym, ap, subst, ◌∙◌, append_assoc, append-nil, length-append, arith, cond}
use Rattle.std.specs.Prelude.{◌==◌}
use Rattle.std.proofs.lemmas.Bool.Decides.{nat_tests}
use Rattle.std.proofs.lemmas.List.{take_at}
use Rattle.bit_strings.specs.NumbersInBits.{digit_of, value_of, field_of}
use Rattle.bit_strings.specs.Ebv.{IsEbv, IsCutEbv}
use Rattle.gen2_crc.specs.Crc.{crc5_of, crc16_of}
use Rattle.command_grammar.specs.declared.reader.fields.Fields.{Fields}
use Rattle.command_grammar.specs.declared.reader.field_in_progress.NumberField.{NumberField}
use Rattle.command_grammar.specs.declared.reader.field_in_progress.NumberField.TheVariants as number_fields
use Rattle.command_grammar.specs.declared.reader.field_in_progress.Stage.TheVariants as stages
use Rattle.command_grammar.specs.declared.refusal.Reason.TheVariants as reasons
use Rattle.command_grammar.specs.reading.Readers.{Stop, Bad, Reading, ◌>>=◌, reading_bits, reading_number, exactly_at, count_at, words_at, ebv_at, before, crc5_at, crc16_at}
use Rattle.command_grammar.specs.reading.KnownBits.{known_from}
use Rattle.command_grammar.specs.reading.FieldStages.{width_of, number_then, words_then, mask_from, ebv_from, stage_from}
use Rattle.command_grammar.proofs.reading.EbvFronts.{ebv_none, ebv_more, ebv_done, ebv_refused}
use Rattle.command_grammar.proofs.CheckNumbers.{crc5-field, crc16-field}
use Rattle.command_grammar.proofs.reading.FieldRests.{mask-start, words-more, words-none}

-- ---- numbers

pub few_bits : (field : NumberField) → width_of field ≤ 20
few_bits number_fields.Session = omega arith
few_bits number_fields.Q = omega arith
few_bits number_fields.Action = omega arith
few_bits number_fields.Count = omega arith
few_bits number_fields.WordCount = omega arith
few_bits number_fields.Covered = omega arith
few_bits number_fields.Payload = omega arith
few_bits number_fields.Rn = omega arith
few_bits number_fields.MaskLength = omega arith
few_bits number_fields.WordsLength = omega arith
few_bits (number_fields.FirstWord left) = omega arith
few_bits (number_fields.Word left) = omega arith

pub some_bits : (field : NumberField) → 1 ≤ width_of field
some_bits number_fields.Session = omega arith
some_bits number_fields.Q = omega arith
some_bits number_fields.Action = omega arith
some_bits number_fields.Count = omega arith
some_bits number_fields.WordCount = omega arith
some_bits number_fields.Covered = omega arith
some_bits number_fields.Payload = omega arith
some_bits number_fields.Rn = omega arith
some_bits number_fields.MaskLength = omega arith
some_bits number_fields.WordsLength = omega arith
some_bits (number_fields.FirstWord left) = omega arith
some_bits (number_fields.Word left) = omega arith

pub small_digit : (bit : Bool) → digit_of bit ≤ 1
small_digit true = omega arith
small_digit false = omega arith

-- ---- words

pub no_words : (left : ℕ) (v : Fields) (bits : List Bool) → left ≡ 0 → words_then left v bits ≡ Ok (v, bits)
no_words left v bits nothing =
    ap (λ (r : Reading (List ℕ)). r >>= λ x. Ok (record v { words = v.words ++ x.0 }, x.1)) (words-none left bits nothing)
    ∙ ap (λ (l : List ℕ). Ok (record v { words = l }, bits)) (append-nil v.words)

two : {A B C D : Type 0} (r : Reading A) (s : A × List Bool → Reading B) (h : A × List Bool → B × List Bool → C × List Bool) (k : C × List Bool → Result D Stop) → ((r >>= λ x. (s x >>= λ y. Ok (h x y))) >>= k) ≡ (r >>= λ x. (s x >>= λ y. k (h x y)))
two (Ok x) s h k = one (s x) (h x) k
  where
    one : {B C D : Type 0} (r : Reading B) (h : B × List Bool → C × List Bool) (k : C × List Bool → Result D Stop) → ((r >>= λ y. Ok (h y)) >>= k) ≡ (r >>= λ y. k (h y))
    one (Ok y) h k = refl
    one (Err stop) h k = refl
two (Err stop) s h k = refl

pub more_words : (left less : ℕ) (v : Fields) (bits : List Bool) → less + 1 ≡ left
    → words_then left v bits ≡ stage_from (stages.Number (number_fields.Word less)) v bits
more_words left less v bits same =
    ap (λ (r : Reading (List ℕ)). r >>= λ x. Ok (record v { words = v.words ++ x.0 }, x.1)) (words-more left less bits same)
    ∙ two (reading_number 16 bits) (λ word. words_at less word.1) (λ word words. (word.0 ∷ words.0, words.1)) (λ x. Ok (record v { words = v.words ++ x.0 }, x.1))

pub first_words : (count less : ℕ) (v : Fields) (bits : List Bool) → less + 1 ≡ count
    → (words_at count bits >>= λ x. Ok (record v { words = x.0 }, x.1)) ≡ stage_from (stages.Number (number_fields.FirstWord less)) v bits
first_words count less v bits same =
    ap (λ (r : Reading (List ℕ)). r >>= λ x. Ok (record v { words = x.0 }, x.1)) (words-more count less bits same)
    ∙ two (reading_number 16 bits) (λ word. words_at less word.1) (λ word words. (word.0 ∷ words.0, words.1)) (λ x. Ok (record v { words = x.0 }, x.1))

nonzero : (n less : ℕ) → less + 1 ≡ n → (n == 0) ≡ false
nonzero n less same = grind (arith, nat_tests)

pub length_words : (count less : ℕ) (v : Fields) (bits : List Bool) → less + 1 ≡ count
    → number_then number_fields.WordsLength count v bits ≡ stage_from (stages.Number (number_fields.FirstWord less)) v bits
length_words count less v bits same =
    ap (λ (b : Bool). cond b (Err (Bad (length bits + 1) reasons.Count)) (words_at count bits >>= λ x. Ok (record v { words = x.0 }, x.1))) (nonzero count less same)
    ∙ first_words count less v bits same

pub first_word : (left word : ℕ) (words : List ℕ) (v : Fields) (bits : List Bool) → words ≡ word ∷ [] → number_then (number_fields.FirstWord left) word v bits ≡ words_then left (record v { words = words }) bits
first_word left word words v bits same = ap (λ (l : List ℕ). words_then left (record v { words = l }) bits) (sym same)

pub next_words : (left word : ℕ) (words : List ℕ) (v : Fields) (bits : List Bool) → words ≡ v.words ++ word ∷ [] → number_then (number_fields.Word left) word v bits ≡ words_then left (record v { words = words }) bits
next_words left word words v bits same = behind (words_at left bits) ∙ ap (λ (l : List ℕ). words_then left (record v { words = l }) bits) (sym same)
  where
    one_more : Reading (List ℕ) → Reading Fields
    one_more r = r >>= λ x. Ok (record v { words = v.words ++ word ∷ x.0 }, x.1)

    others : Reading (List ℕ) → Reading Fields
    others r = r >>= λ x. Ok (record v { words = (v.words ++ word ∷ []) ++ x.0 }, x.1)

    behind : (r : Reading (List ℕ)) → one_more r ≡ others r
    behind (Ok x) = ap (λ (l : List ℕ). Ok (record v { words = l }, x.1)) (sym (append_assoc v.words (word ∷ []) x.0))
    behind (Err stop) = refl

-- ---- masks

abbrev masked : Fields → Reading (List Bool) → Reading Fields
masked v r = r >>= λ x. Ok (record v { mask = x.0 }, x.1)

pub some_mask : (count less : ℕ) (v : Fields) (bits : List Bool) → less + 1 ≡ count → v.mask ≡ [] → masked v (reading_bits count bits) ≡ stage_from (stages.Mask less) v bits
some_mask count less v bits same nothing =
    ap (masked v) (sym (mask-start count less bits same) ∙ ap (λ (m : List Bool). mask_from less m bits) (sym nothing))

-- ---- extensible bit vectors

abbrev pointed : Fields → Reading ℕ → Reading Fields
pointed v r = r >>= λ x. Ok (record v { pointer = x.0 }, x.1)

pub ebv_run : (front run rest next : List Bool) (v : Fields) → next ≡ front ++ run → IsCutEbv next → stage_from (stages.Ebv front) v (run ++ rest) ≡ stage_from (stages.Ebv next) v rest
ebv_run front run rest next v same cut =
    ap (pointed v) (ebv_more front run rest (subst IsCutEbv same cut) ∙ ap (λ (l : List Bool). ebv_from l rest) (sym same))

pub ebv_whole : (front rest : List Bool) (bit : Bool) (number pointer : ℕ) (v : Fields) → pointer ≡ number → IsEbv number (front ++ bit ∷ []) → stage_from (stages.Ebv front) v (bit ∷ rest) ≡ Ok (record v { pointer = pointer }, rest)
ebv_whole front rest bit number pointer v same ebv =
    ap (pointed v) (ebv_done front rest bit number ebv) ∙ ap (λ n. Ok (record v { pointer = n }, rest)) (sym same)

pub ebv_stops : (front rest : List Bool) (bit : Bool) (v : Fields) → IsCutEbv front → ((number : ℕ) (more : List Bool) → IsEbv number ((front ++ bit ∷ []) ++ more) → ⊥) → stage_from (stages.Ebv front) v (bit ∷ rest) ≡ Err (Bad (length rest + 1) reasons.Ebv)
ebv_stops front rest bit v cut none = ap (pointed v) (ebv_refused front rest bit cut none)

-- ---- the beginning of each field

abbrev kept : Fields → Reading (Unit {0}) → Reading Fields
kept v r = r >>= λ x. Ok (v, x.1)

pub truncate_start : (v : Fields) (bits : List Bool) → known_from reasons.Truncate (record { behind = 0; value = 0 }) v bits ≡ kept v (exactly_at (false ∷ []) reasons.Truncate bits)
unfolding field_of
truncate_start v bits = refl

pub kill_bits_start : (v : Fields) (bits : List Bool) → known_from reasons.KillBits (record { behind = 2; value = 0 }) v bits ≡ kept v (exactly_at (false ∷ false ∷ false ∷ []) reasons.KillBits bits)
unfolding field_of
kill_bits_start v bits = refl

before_is : (bits rest : List Bool) → before (bits ++ rest) rest ≡ bits
before_is bits rest = take_at bits rest (length (bits ++ rest) - length rest) (omega (arith, length-append bits rest))

pub crc5_start : (number : ℕ) (v : Fields) (bits rest : List Bool) → number ≡ value_of (crc5_of bits) → kept v (exactly_at (field_of number 5) reasons.Crc5 rest) ≡ kept v (crc5_at (bits ++ rest) rest)
unfolding crc5_at
crc5_start number v bits rest e =
    ap (λ (l : List Bool). kept v (exactly_at l reasons.Crc5 rest)) (crc5-field bits number e ∙ ap crc5_of (sym (before_is bits rest)))

pub crc16_start : (number : ℕ) (v : Fields) (bits rest : List Bool) → number ≡ value_of (crc16_of bits) → kept v (exactly_at (field_of number 16) reasons.Crc16 rest) ≡ kept v (crc16_at (bits ++ rest) rest)
unfolding crc16_at
crc16_start number v bits rest e =
    ap (λ (l : List Bool). kept v (exactly_at l reasons.Crc16 rest)) (crc16-field bits number e ∙ ap crc16_of (sym (before_is bits rest)))

pub pointer_start : (front : List Bool) (v : Fields) (bits : List Bool) → front ≡ [] → stage_from (stages.Ebv front) v bits ≡ pointed v (ebv_at bits)
pointer_start front v bits nothing = ap (λ (l : List Bool). pointed v (ebv_from l bits)) nothing ∙ ap (pointed v) (ebv_none bits)

abbrev counts : Reading ℕ → Reading ℕ
counts r = r

counted : {A : Type 0} (r : Reading ℕ) (k : ℕ × List Bool → Reading A) → (r >>= λ n. cond (n.0 == 0) (Err (Bad (length n.1 + 1) reasons.Count)) (k n)) ≡ ((r >>= λ n. cond (n.0 == 0) (Err (Bad (length n.1 + 1) reasons.Count)) (Ok n)) >>= k)
counted {A} (Ok n) k = either (n.0 == 0)
  where
    either : (b : Bool) → cond b (Err (Bad (length n.1 + 1) reasons.Count)) (k n) ≡ (counts (cond b (Err (Bad (length n.1 + 1) reasons.Count)) (Ok n)) >>= k)
    either true = refl
    either false = refl
counted (Err stop) k = refl

pub words_start : (v : Fields) (bits : List Bool) → stage_from (stages.Number number_fields.WordsLength) v bits ≡ (count_at bits >>= λ n. (words_at n.0 n.1 >>= λ x. Ok (record v { words = x.0 }, x.1)))
unfolding count_at
words_start v bits = counted (reading_number 8 bits) (λ n. words_at n.0 n.1 >>= λ x. Ok (record v { words = x.0 }, x.1))

pub count_start : (v : Fields) (bits : List Bool) → stage_from (stages.Number number_fields.WordCount) v bits ≡ (count_at bits >>= λ n. Ok (record v { word_count = n.0 }, n.1))
unfolding count_at
count_start v bits = counted (reading_number 8 bits) (λ n. Ok (record v { word_count = n.0 }, n.1))
