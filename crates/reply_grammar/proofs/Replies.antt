-- What is sent answers; bits answer as one reply at most, or have one fault, and are no answer where they have one.
use Rattle.std.proofs.Common.{◌≡◌, ℕ, ◌^◌, ◌<◌, Bool, true, false, List, ◌∷◌, ◌++◌, length, refl, sym, ◌∙◌, ap, arith, length-append}
use Rattle.std.proofs.lemmas.List.{append_cancel_right}
use Rattle.bit_strings.specs.NumbersInBits.{field_of}
use Rattle.bit_strings.specs.laws.NumbersInBits.{length-field_of, field_of-same}
use Rattle.bit_strings.specs.laws.Ebv.{append_apart}
use Rattle.bit_strings.specs.Words.{bits_of_words}
use Rattle.bit_strings.specs.laws.Words.{bits_of_words-same}
use Rattle.gen2_crc.specs.Crc.{crc16_of}
use Rattle.gen2_crc.specs.laws.CheckNumbers.{length-crc16_of}
use Rattle.reply_grammar.specs.declared.expected.Expect.{Expect}
use Rattle.reply_grammar.specs.declared.expected.Expect.TheVariants.{Rn16 as OneRn16, Epc as OneEpc, Handle as OneHandle, Same, Words as SomeWords, AnyWords, Header as OneHeader}
use Rattle.reply_grammar.specs.declared.expected.Reply.{Reply}
use Rattle.reply_grammar.specs.declared.expected.Reply.TheVariants.{Rn16, Epc, Handle, Words, Header, Error}
use Rattle.reply_grammar.specs.declared.expected.ReplyRefusal.{ReplyRefusal}
use Rattle.reply_grammar.specs.declared.expected.ReplyRefusal.TheVariants.{Length, Crc, Header as HeaderBit, Number}
use Rattle.reply_grammar.specs.Replies.{AnswersExpected, Suits, Carries, IsReply, AreWords, handle_of, spelling, with_check}
use Rattle.reply_grammar.specs.Refusals.{RefusesReply, Passes}

-- a reply that suits an expectation answers it
pub answers_from : (reply : Reply) (expect : Expect) (handle : ℕ) → Suits reply expect → Carries expect handle → IsReply reply → handle < 2 ^ 16 → AnswersExpected reply expect (spelling reply handle)
unfolding spelling
answers_from (Rn16 rn) OneRn16 handle suits carries range fits = record { suits = suits; in_range = range; handle_in_range = omega arith; spelled = refl }
answers_from (Epc pc epc) OneEpc handle suits carries range fits = record { suits = suits; in_range = range; handle_in_range = omega arith; spelled = refl }
answers_from (Handle rn) OneHandle handle suits carries range fits = record { suits = suits; in_range = range; handle_in_range = omega arith; spelled = refl }
answers_from (Handle rn) (Same named) handle suits carries range fits = record { suits = suits; in_range = range; handle_in_range = omega arith; spelled = refl }
answers_from (Words words) (SomeWords count named) handle suits carries range fits =
    record { suits = suits; in_range = range; handle_in_range = omega arith; spelled = ap (λ h. spelling (Words words) h) (sym carries) }
answers_from (Words words) (AnyWords named) handle suits carries range fits =
    record { suits = suits; in_range = range; handle_in_range = omega arith; spelled = ap (λ h. spelling (Words words) h) (sym carries) }
answers_from Header (OneHeader named) handle suits carries range fits =
    record { suits = suits; in_range = range; handle_in_range = omega arith; spelled = ap (λ h. spelling Header h) (sym carries) }
answers_from (Error code) (SomeWords count named) handle suits carries range fits =
    record { suits = suits; in_range = range; handle_in_range = omega arith; spelled = ap (λ h. spelling (Error code) h) (sym carries) }
answers_from (Error code) (AnyWords named) handle suits carries range fits =
    record { suits = suits; in_range = range; handle_in_range = omega arith; spelled = ap (λ h. spelling (Error code) h) (sym carries) }
answers_from (Error code) (OneHeader named) handle suits carries range fits =
    record { suits = suits; in_range = range; handle_in_range = omega arith; spelled = ap (λ h. spelling (Error code) h) (sym carries) }
answers_from reply expect handle suits carries range fits = absurd suits

-- bits with a check number tell what stands before it
unchecked : (xs ys : List Bool) → with_check xs ≡ with_check ys → xs ≡ ys
unchecked xs ys same =
    let lengths : length xs ≡ length ys =
    omega (arith, ap length same, length-append xs (crc16_of xs), length-append ys (crc16_of ys), length-crc16_of xs, length-crc16_of ys) in
    let found : (xs ≡ ys) × (crc16_of xs ≡ crc16_of ys) = append_apart xs ys (crc16_of xs) (crc16_of ys) lengths same in
    found.0

one-word : (a b : ℕ) → a < 2 ^ 16 → b < 2 ^ 16 → with_check (field_of a 16) ≡ with_check (field_of b 16) → a ≡ b
one-word a b p q same = field_of-same a b 16 p q (unchecked (field_of a 16) (field_of b 16) same)

one-words : (xs ys : List ℕ) (handle : ℕ) → AreWords xs → AreWords ys → with_check (false ∷ (bits_of_words xs ++ field_of handle 16)) ≡ with_check (false ∷ (bits_of_words ys ++ field_of handle 16)) → xs ≡ ys
one-words xs ys handle p q same =
    let inside = unchecked (false ∷ (bits_of_words xs ++ field_of handle 16)) (false ∷ (bits_of_words ys ++ field_of handle 16)) same in
    let rest : bits_of_words xs ++ field_of handle 16 ≡ bits_of_words ys ++ field_of handle 16 = cc in
    bits_of_words-same xs ys p q (append_cancel_right (bits_of_words xs) (bits_of_words ys) (field_of handle 16) rest)

one-code : (a b handle : ℕ) → a < 2 ^ 8 → b < 2 ^ 8 → with_check (true ∷ (field_of a 8 ++ field_of handle 16)) ≡ with_check (true ∷ (field_of b 8 ++ field_of handle 16)) → a ≡ b
one-code a b handle p q same =
    let inside = unchecked (true ∷ (field_of a 8 ++ field_of handle 16)) (true ∷ (field_of b 8 ++ field_of handle 16)) same in
    let rest : field_of a 8 ++ field_of handle 16 ≡ field_of b 8 ++ field_of handle 16 = cc in
    field_of-same a b 8 p q (append_cancel_right (field_of a 8) (field_of b 8) (field_of handle 16) rest)

not-both : (xs ys : List Bool) → with_check (false ∷ xs) ≡ with_check (true ∷ ys) → ⊥
not-both xs ys same = let inside = unchecked (false ∷ xs) (true ∷ ys) same in cc

-- spellings of two replies to one expectation
one-spelling : (e : Expect) (r s : Reply) → Suits r e → Suits s e → IsReply r → IsReply s → spelling r (handle_of e) ≡ spelling s (handle_of e) → r ≡ s
unfolding spelling
one-spelling OneRn16 (Rn16 a) (Rn16 b) left right p q same = ap (λ n. Rn16 n) (field_of-same a b 16 p q same)
one-spelling OneEpc (Epc a xs) (Epc b ys) left right p q same =
    let found : (field_of a 16 ≡ field_of b 16) × (bits_of_words xs ≡ bits_of_words ys) =
    append_apart (field_of a 16) (field_of b 16) (bits_of_words xs) (bits_of_words ys) (length-field_of a 16 ∙ sym (length-field_of b 16)) (unchecked (field_of a 16 ++ bits_of_words xs) (field_of b 16 ++ bits_of_words ys) same) in
    let pc : a ≡ b = field_of-same a b 16 p.0 q.0 found.0 in
    let epc : xs ≡ ys = bits_of_words-same xs ys p.1 q.1 found.1 in
    cc
one-spelling OneHandle (Handle a) (Handle b) left right p q same = ap (λ n. Handle n) (one-word a b p q same)
one-spelling (Same h) (Handle a) (Handle b) left right p q same = ap (λ n. Handle n) (one-word a b p q same)
one-spelling (SomeWords n h) (Words xs) (Words ys) left right p q same = ap (λ (ws : List ℕ). Words ws) (one-words xs ys h p q same)
one-spelling (AnyWords h) (Words xs) (Words ys) left right p q same = ap (λ (ws : List ℕ). Words ws) (one-words xs ys h p q same)
one-spelling (SomeWords n h) (Words xs) (Error b) left right p q same = absurd (not-both (bits_of_words xs ++ field_of h 16) (field_of b 8 ++ field_of h 16) same)
one-spelling (AnyWords h) (Words xs) (Error b) left right p q same = absurd (not-both (bits_of_words xs ++ field_of h 16) (field_of b 8 ++ field_of h 16) same)
one-spelling (SomeWords n h) (Error a) (Words ys) left right p q same = absurd (not-both (bits_of_words ys ++ field_of h 16) (field_of a 8 ++ field_of h 16) (sym same))
one-spelling (AnyWords h) (Error a) (Words ys) left right p q same = absurd (not-both (bits_of_words ys ++ field_of h 16) (field_of a 8 ++ field_of h 16) (sym same))
one-spelling (SomeWords n h) (Error a) (Error b) left right p q same = ap (λ k. Error k) (one-code a b h p q same)
one-spelling (AnyWords h) (Error a) (Error b) left right p q same = ap (λ k. Error k) (one-code a b h p q same)
one-spelling (OneHeader h) (Error a) (Error b) left right p q same = ap (λ k. Error k) (one-code a b h p q same)
one-spelling (OneHeader h) Header Header left right p q same = refl
one-spelling (OneHeader h) Header (Error b) left right p q same = absurd (not-both (field_of h 16) (field_of b 8 ++ field_of h 16) same)
one-spelling (OneHeader h) (Error a) Header left right p q same = absurd (not-both (field_of h 16) (field_of a 8 ++ field_of h 16) (sym same))
one-spelling OneRn16 (Rn16 a) s left right p q same = absurd right
one-spelling OneEpc (Epc a xs) s left right p q same = absurd right
one-spelling OneHandle (Handle a) s left right p q same = absurd right
one-spelling (Same h) (Handle a) s left right p q same = absurd right
one-spelling (SomeWords n h) (Words xs) s left right p q same = absurd right
one-spelling (SomeWords n h) (Error a) s left right p q same = absurd right
one-spelling (AnyWords h) (Words xs) s left right p q same = absurd right
one-spelling (AnyWords h) (Error a) s left right p q same = absurd right
one-spelling (OneHeader h) Header s left right p q same = absurd right
one-spelling (OneHeader h) (Error a) s left right p q same = absurd right
one-spelling e r s left right p q same = absurd left

pub one_reply : (r s : Reply) (e : Expect) (bits : List Bool) → AnswersExpected r e bits → AnswersExpected s e bits → r ≡ s
one_reply r s e bits left right = one-spelling e r s left.suits right.suits left.in_range right.in_range (sym left.spelled ∙ right.spelled)

-- what passes has no fault
pub passes_apart : (f : ReplyRefusal) (e : Expect) (bits : List Bool) → Passes e bits → RefusesReply f e bits → ⊥
passes_apart Length e bits passes fault = fault passes.length_fits
passes_apart Crc e bits passes fault = fault.1 passes.check
passes_apart HeaderBit e bits passes fault = fault.2 passes.header
passes_apart Number e bits passes fault = fault.3 passes.number

pub one_fault : (f g : ReplyRefusal) (e : Expect) (bits : List Bool) → RefusesReply f e bits → RefusesReply g e bits → f ≡ g
one_fault Length Length e bits left right = refl
one_fault Length Crc e bits left right = absurd (left right.0)
one_fault Length HeaderBit e bits left right = absurd (left right.0)
one_fault Length Number e bits left right = absurd (left right.0)
one_fault Crc Length e bits left right = absurd (right left.0)
one_fault Crc Crc e bits left right = refl
one_fault Crc HeaderBit e bits left right = absurd (left.1 right.1)
one_fault Crc Number e bits left right = absurd (left.1 right.1)
one_fault HeaderBit Length e bits left right = absurd (right left.0)
one_fault HeaderBit Crc e bits left right = absurd (right.1 left.1)
one_fault HeaderBit HeaderBit e bits left right = refl
one_fault HeaderBit Number e bits left right = absurd (left.2 right.2)
one_fault Number Length e bits left right = absurd (right left.0)
one_fault Number Crc e bits left right = absurd (right.1 left.1)
one_fault Number HeaderBit e bits left right = absurd (right.2 left.2)
one_fault Number Number e bits left right = refl
