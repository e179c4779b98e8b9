-- Bits that answer pass all four questions.
use Rattle.std.proofs.Common.{◌≡◌, ◌≢◌, ℕ, ◌+◌, ◌-◌, ◌*◌, ◌/◌, ◌^◌, ◌<◌, Bool, true, false, List, [], ◌∷◌, ◌++◌, length, take, drop, refl, sym, ◌∙◌, ap, subst, inl, inr, arith, length-append, length-drop, append_assoc, eq-eqb, Some}
use Rattle.std.proofs.lemmas.Nat.{div-mul-add}
use Rattle.std.proofs.lemmas.Bool.{ne_eqb}
use Rattle.std.proofs.lemmas.List.{take_at, drop_at, take-append-drop, take-append-le}
use Rattle.bit_strings.specs.NumbersInBits.{value_of, field_of, part_of}
use Rattle.bit_strings.specs.laws.NumbersInBits.{length-field_of, value_of-field, value_of-append, value_of-within}
use Rattle.bit_strings.specs.Words.{bits_of_words}
use Rattle.bit_strings.specs.laws.Words.{length-bits_of_words}
use Rattle.gen2_crc.specs.Crc.{crc16_of}
use Rattle.gen2_crc.specs.laws.CheckNumbers.{length-crc16_of}
use Rattle.reply_grammar.specs.declared.expected.Expect.{Expect}
use Rattle.reply_grammar.specs.declared.expected.Expect.TheVariants.{Rn16 as OneRn16, Epc as OneEpc, Handle as OneHandle, Same, Words as SomeWords, AnyWords, Header as OneHeader}
use Rattle.reply_grammar.specs.declared.expected.Reply.{Reply}
use Rattle.reply_grammar.specs.declared.expected.Reply.TheVariants.{Rn16, Epc, Handle, Words, Header, Error}
use Rattle.reply_grammar.specs.Replies.{AnswersExpected, Suits, IsReply, handle_of, spelling, with_check}
use Rattle.reply_grammar.specs.Refusals.{EndsWithCheck, HasHeader, HasHandle, Passes}

pub length-with_check : (front : List Bool) → length (with_check front) ≡ length front + 16
length-with_check front = omega (arith, length-append front (crc16_of front), length-crc16_of front)

ends : (front : List Bool) → EndsWithCheck (with_check front)
ends front = record { front = front; split = refl }

-- the first five bits of a word
pub first-five : (word : List Bool) → length word ≡ 16 → value_of (take 5 word) ≡ value_of word / 2 ^ 11
first-five word long =
    let behind : length (drop 5 word) ≡ 11 = omega (arith, length-drop 5 word) in
    let small : value_of (drop 5 word) < 2 ^ 11 = value_of-within (drop 5 word) 11 (omega arith) in
    let whole : value_of word ≡ value_of (take 5 word) * 2 ^ 11 + value_of (drop 5 word) =
    ap value_of (sym (take-append-drop 5 word)) ∙ value_of-append (take 5 word) (drop 5 word) ∙ ap (λ n. value_of (take 5 word) * 2 ^ n + value_of (drop 5 word)) behind in
    sym (div-mul-add (value_of (take 5 word)) (2 ^ 11) (value_of (drop 5 word)) small) ∙ ap (λ n. n / 2 ^ 11) (sym whole)

handle-there : (front : List Bool) (handle : ℕ) → handle < 2 ^ 16 → HasHandle handle (with_check (front ++ field_of handle 16))
handle-there front handle fits =
    let field : List Bool = field_of handle 16 in
    let check : List Bool = crc16_of (front ++ field) in
    let place : length (with_check (front ++ field)) - 32 ≡ length front = omega (arith, length-with_check (front ++ field), length-append front field, length-field_of handle 16) in
    let part : part_of (with_check (front ++ field)) (length front) 16 ≡ field =
    ap (λ (b : List Bool). take 16 (drop (length front) b)) (append_assoc front field check)
    ∙ ap (λ (b : List Bool). take 16 b) (drop_at front (field ++ check) (length front) refl)
    ∙ take_at field check 16 (length-field_of handle 16) in
    ap (λ n. value_of (part_of (with_check (front ++ field)) n 16)) place ∙ ap value_of part ∙ value_of-field handle 16 fits

success-header : (rest : List Bool) → length (false ∷ rest) ≢ 41 → HasHeader (false ∷ rest)
success-header rest other = ap (λ (b : Bool). Some b) (sym (ne_eqb (length (false ∷ rest)) 41 other))

error-header : (rest : List Bool) → length (true ∷ rest) ≡ 41 → HasHeader (true ∷ rest)
error-header rest same = ap (λ (b : Bool). Some b) (sym (eq-eqb (length (true ∷ rest)) 41 same))

length-words : (words : List ℕ) (handle : ℕ) → length (with_check (false ∷ (bits_of_words words ++ field_of handle 16))) ≡ 33 + 16 * length words
length-words words handle =
    omega (arith, length-with_check (false ∷ (bits_of_words words ++ field_of handle 16)), length-append (bits_of_words words) (field_of handle 16), length-bits_of_words words, length-field_of handle 16)

length-header : (handle : ℕ) → length (with_check (false ∷ field_of handle 16)) ≡ 33
length-header handle = omega (arith, length-with_check (false ∷ field_of handle 16), length-field_of handle 16)

length-error : (code handle : ℕ) → length (with_check (true ∷ (field_of code 8 ++ field_of handle 16))) ≡ 41
length-error code handle =
    omega (arith, length-with_check (true ∷ (field_of code 8 ++ field_of handle 16)), length-append (field_of code 8) (field_of handle 16), length-field_of code 8, length-field_of handle 16)

length-one : (rn : ℕ) → length (with_check (field_of rn 16)) ≡ 32
length-one rn = omega (arith, length-with_check (field_of rn 16), length-field_of rn 16)

-- a reply's own spelling passes
spelled-passes : (reply : Reply) (expect : Expect) → Suits reply expect → IsReply reply → handle_of expect < 2 ^ 16 → Passes expect (spelling reply (handle_of expect))
unfolding spelling
spelled-passes (Rn16 rn) OneRn16 suits range fits = record { length_fits = length-field_of rn 16; check = tt; header = tt; number = tt }
spelled-passes (Epc pc epc) OneEpc suits range fits =
    let front : List Bool = field_of pc 16 ++ bits_of_words epc in
    let long : length (with_check front) ≡ 32 + 16 * length epc = omega (arith, length-with_check front, length-append (field_of pc 16) (bits_of_words epc), length-field_of pc 16, length-bits_of_words epc) in
    let five : take 5 (with_check front) ≡ take 5 (field_of pc 16) =
    ap (λ (b : List Bool). take 5 b) (append_assoc (field_of pc 16) (bits_of_words epc) (crc16_of front))
    ∙ take-append-le 5 (field_of pc 16) (bits_of_words epc ++ crc16_of front) (omega (arith, length-field_of pc 16)) in
    let count : value_of (take 5 (with_check front)) ≡ length epc =
    ap value_of five ∙ first-five (field_of pc 16) (length-field_of pc 16) ∙ ap (λ n. n / 2 ^ 11) (value_of-field pc 16 range.0) ∙ sym range.2 in
    record { length_fits = omega arith; check = ends front; header = tt; number = tt }
spelled-passes (Handle rn) OneHandle suits range fits = record { length_fits = length-one rn; check = ends (field_of rn 16); header = tt; number = tt }
spelled-passes (Handle rn) (Same handle) suits range fits =
    record {
      length_fits = length-one rn;
      check = ends (field_of rn 16);
      header = tt;
      number = handle-there [] rn range ∙ suits;
    }
spelled-passes (Words words) (SomeWords count handle) suits range fits =
    record {
      length_fits = inl (length-words words handle ∙ ap (λ n. 33 + 16 * n) suits);
      check = ends (false ∷ (bits_of_words words ++ field_of handle 16));
      header = success-header _ (λ same. omega (arith, length-words words handle));
      number = handle-there (false ∷ bits_of_words words) handle fits;
    }
spelled-passes (Words words) (AnyWords handle) suits range fits =
    record {
      length_fits = inl (length words, suits.0, suits.1, length-words words handle);
      check = ends (false ∷ (bits_of_words words ++ field_of handle 16));
      header = success-header _ (λ same. omega (arith, length-words words handle));
      number = handle-there (false ∷ bits_of_words words) handle fits;
    }
spelled-passes Header (OneHeader handle) suits range fits =
    record {
      length_fits = inl (length-header handle);
      check = ends (false ∷ field_of handle 16);
      header = success-header _ (λ same. omega (arith, length-header handle));
      number = handle-there (false ∷ []) handle fits;
    }
spelled-passes (Error code) (SomeWords count handle) suits range fits =
    record {
      length_fits = inr (length-error code handle);
      check = ends (true ∷ (field_of code 8 ++ field_of handle 16));
      header = error-header _ (length-error code handle);
      number = handle-there (true ∷ field_of code 8) handle fits;
    }
spelled-passes (Error code) (AnyWords handle) suits range fits =
    record {
      length_fits = inr (length-error code handle);
      check = ends (true ∷ (field_of code 8 ++ field_of handle 16));
      header = error-header _ (length-error code handle);
      number = handle-there (true ∷ field_of code 8) handle fits;
    }
spelled-passes (Error code) (OneHeader handle) suits range fits =
    record {
      length_fits = inr (length-error code handle);
      check = ends (true ∷ (field_of code 8 ++ field_of handle 16));
      header = error-header _ (length-error code handle);
      number = handle-there (true ∷ field_of code 8) handle fits;
    }
spelled-passes reply expect suits range fits = absurd suits

pub answers_pass : (reply : Reply) (expect : Expect) (bits : List Bool) → AnswersExpected reply expect bits → Passes expect bits
answers_pass reply expect bits answers = subst (Passes expect) (sym answers.spelled) (spelled-passes reply expect answers.suits answers.in_range answers.handle_in_range)
