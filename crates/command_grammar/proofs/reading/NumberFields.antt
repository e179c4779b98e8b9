-- The fields of numbers, bits and words are read as they are spelled.
use Rattle.std.proofs.Common.{◌≡◌, ℕ, ◌-◌, ◌^◌, ◌<◌, ◌≤◌, Bool, true, false, cond, ltb, List, [], ◌∷◌, ◌++◌, length, take, drop, Ok, Err, refl, sym, ap, ◌∙◌, length-append, arith, inl, inr}
use Rattle.std.specs.Prelude.{Option, Some, None, ◌==◌}
use Rattle.std.proofs.lemmas.Bool.{cases_lt, le-ltb, lt-ltb}
use Rattle.std.proofs.lemmas.List.{take_at, drop_at, take-append-drop, length-take}
use Rattle.std.proofs.lemmas.Bool.Decides.{nat_tests}
use Rattle.bit_strings.specs.NumbersInBits.{value_of, field_of}
use Rattle.bit_strings.specs.laws.NumbersInBits.{length-field_of, value_of-field, field_of-value_of, value_of-within}
use Rattle.command_grammar.specs.declared.refusal.Reason.{Reason}
use Rattle.command_grammar.specs.declared.refusal.Reason.TheVariants as reasons
use Rattle.command_grammar.specs.reading.Readers.{Stop, Short, Bad, Reading, ◌>>=◌, bit_at, reading_bits, reading_number, count_at}
use Rattle.command_grammar.proofs.reading.Readers.{FieldKind, Reads, SpelledField, Stuck, reads_map, reads_but}

-- ---- one bit

pub reads_bit : (name : Option Reason) → Reads (λ value bits. bits ≡ value ∷ []) name bit_at
reads_bit name = record {
  again = λ value bits rest e. rw e refl;
  found = bit-found;
  short = bit-short;
  bad = bit-bad;
} where
  bit-found : (bits : List Bool) (value : Bool) (rest : List Bool) → bit_at bits ≡ Ok (value, rest) → (front : List Bool) × (front ≡ value ∷ []) × (bits ≡ front ++ rest)
  bit-found [] value rest e = absurd cc
  bit-found (bit ∷ bits) value rest e =
      let pair : ◌≡◌ {A = Bool × List Bool} (bit, bits) (value, rest) = cc in
      (value ∷ [], refl, ap (λ (p : Bool × List Bool). p.0 ∷ p.1) pair)

  bit-short : (bits : List Bool) → bit_at bits ≡ Err Short → (value : Bool) × (more : List Bool) × (bits ++ more ≡ value ∷ [])
  bit-short [] e = (false, false ∷ [], refl)
  bit-short (bit ∷ bits) e = absurd cc

  bit-bad : (bits : List Bool) (left : ℕ) (reason : Reason) → bit_at bits ≡ Err (Bad left reason) → (name ≡ Some reason) × Stuck (λ value l. l ≡ value ∷ []) bit_at bits left reason
  bit-bad [] left reason e = absurd cc
  bit-bad (bit ∷ bits) left reason e = absurd cc

abbrev pub bit_field : SpelledField Bool
bit_field = record { spell = λ value. value ∷ []; name = None; read = bit_at; reads = reads_bit None }

-- ---- so many bits

enough : (bits : List Bool) (width : ℕ) → {A : Type 0} → (x y : Reading A) → width ≤ length bits → cond (ltb (length bits) width) x y ≡ y
enough bits width x y long = rw (le-ltb (length bits) width long) refl

too_few : (bits : List Bool) (width : ℕ) → {A : Type 0} → (x y : Reading A) → length bits < width → cond (ltb (length bits) width) x y ≡ x
too_few bits width x y short = rw (lt-ltb (length bits) width short) refl

pub reads_bits : (width : ℕ) (name : Option Reason) → Reads (λ value bits. (length value ≡ width) × (bits ≡ value)) name (reading_bits width)
reads_bits width name = record {
  again = λ value bits rest h.
      let long : width ≤ length (bits ++ rest) = omega (arith, h.0, ap length h.1, length-append bits rest) in
      let same : length bits ≡ width = ap length h.1 ∙ h.0 in
      enough (bits ++ rest) width (Err Short) (Ok (take width (bits ++ rest), drop width (bits ++ rest))) long ∙ rw (take_at bits rest width same, drop_at bits rest width same, h.1) refl;
  found = λ bits value rest e.
      elim (cases_lt (length bits) width) [
        | inl short ↦ absurd (not_ok (sym (too_few bits width (Err Short) (Ok (take width bits, drop width bits)) short) ∙ e))
        | inr long ↦
            let pair : ◌≡◌ {A = List Bool × List Bool} (take width bits, drop width bits) (value, rest) = ok_pair (sym (enough bits width (Err Short) (Ok (take width bits, drop width bits)) long) ∙ e) in
            let front : take width bits ≡ value = ap (λ (p : List Bool × List Bool). p.0) pair in
            let back : drop width bits ≡ rest = ap (λ (p : List Bool × List Bool). p.1) pair in
            (value, (ap length (sym front) ∙ length_front bits width long, refl), sym (take-append-drop width bits) ∙ rw (front, back) refl)
      ];
  short = λ bits e.
      elim (cases_lt (length bits) width) [
        | inl short ↦
            let more : List Bool = field_of 0 (width - length bits) in
            (bits ++ more, more, (omega (arith, length-append bits more, length-field_of 0 (width - length bits)), refl))
        | inr long ↦ absurd (not_err (sym (enough bits width (Err Short) (Ok (take width bits, drop width bits)) long) ∙ e))
      ];
  bad = λ bits left reason e.
      elim (cases_lt (length bits) width) [
        | inl short ↦ absurd (not_bad (sym (too_few bits width (Err Short) (Ok (take width bits, drop width bits)) short) ∙ e))
        | inr long ↦ absurd (not_err (sym (enough bits width (Err Short) (Ok (take width bits, drop width bits)) long) ∙ e))
      ];
} where
  not_ok : {x : List Bool × List Bool} → ◌≡◌ {A = Reading (List Bool)} (Err Short) (Ok x) → ⊥
  not_ok e = cc

  not_err : {x : List Bool × List Bool} {stop : Stop} → ◌≡◌ {A = Reading (List Bool)} (Ok x) (Err stop) → ⊥
  not_err e = cc

  not_bad : {left : ℕ} {reason : Reason} → ◌≡◌ {A = Reading (List Bool)} (Err Short) (Err (Bad left reason)) → ⊥
  not_bad e = cc

  ok_pair : {x y : List Bool × List Bool} → ◌≡◌ {A = Reading (List Bool)} (Ok x) (Ok y) → x ≡ y
  ok_pair e = cc

  length_front : (bits : List Bool) (width : ℕ) → width ≤ length bits → length (take width bits) ≡ width
  length_front bits width long = omega (arith, length-take width bits)

abbrev pub bits_field : ℕ → Option Reason → FieldKind (List Bool)
bits_field width name = record { Spells = λ value bits. (length value ≡ width) × (bits ≡ value); name = name; read = reading_bits width; reads = reads_bits width name }

-- ---- a number

abbrev reading : Reading (List Bool) → Reading (List Bool)
reading r = r

pub is_zero : (n : ℕ) → (n == 0) ≡ true → n ≡ 0
is_zero n e = grind (arith, nat_tests)

abbrev number : List Bool × List Bool → Reading ℕ
number x = Ok (value_of x.0, x.1)

as_number : (b : Bool) (x : List Bool × List Bool) → cond b (Err Short) (number x) ≡ (reading (cond b (Err Short) (Ok x)) >>= λ y. Ok (value_of y.0, y.1))
as_number true x = refl
as_number false x = refl

abbrev pub IsNumber : ℕ → ℕ → List Bool → Type 0
IsNumber width value bits = (value < 2 ^ width) × (bits ≡ field_of value width)

pub reads_field : (width : ℕ) (name : Option Reason) → Reads (IsNumber width) name (reading_number width)
reads_field width name =
    reads_map (bits_field width name) (IsNumber width) (reading_number width) value_of
    (λ bits. as_number (ltb (length bits) width) (take width bits, drop width bits))
    (λ value bits h. (value_of-within value width (omega (arith, h.0)), h.1 ∙ sym (field_of-value_of value) ∙ ap (λ n. field_of (value_of value) n) h.0))
    (λ value bits h. (bits, ((ap length h.1 ∙ length-field_of value width), refl), ap value_of h.1 ∙ value_of-field value width h.0))

abbrev pub number_field : ℕ → Option Reason → FieldKind ℕ
number_field width name = record { Spells = IsNumber width; name = name; read = reading_number width; reads = reads_field width name }

-- ---- a number of words that is not 0

abbrev pub IsCount : ℕ → List Bool → Type 0
IsCount value bits = IsNumber 8 value bits × ((value == 0) ≡ false)

pub reads_count : Reads IsCount (Some reasons.Count) count_at
unfolding count_at field_of
reads_count = reads_but (number_field 8 None) reasons.Count (λ n. n == 0) refl (record {
  front = field_of 0 7;
  bit = false;
  only = λ other bits h zero. h.1 ∙ ap (λ n. field_of n 8) (is_zero other zero);
  value = 1;
  next = true;
  more = [];
  spelled = (omega arith, refl);
  kept = refl;
})

abbrev pub count_field : FieldKind ℕ
count_field = record { Spells = IsCount; name = Some reasons.Count; read = count_at; reads = reads_count }
