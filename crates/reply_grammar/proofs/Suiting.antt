-- That `suits` decides `Suits`, and how long the bits of a reply are.
use Rattle.std.proofs.Common.{◌≡◌, ℕ, ◌+◌, ◌*◌, ◌≤◌, Bool, true, false, ◌&&◌, List, ◌∷◌, ◌++◌, length, refl, arith, length-append}
use Rattle.std.specs.Prelude.{◌↔◌, nat_le}
use Rattle.std.proofs.lemmas.Bool.{eqb-true, eq-eqb, leb-true, le-leb}
use Rattle.bit_strings.specs.NumbersInBits.{field_of}
use Rattle.bit_strings.specs.laws.NumbersInBits.{length-field_of}
use Rattle.bit_strings.specs.Words.{bits_of_words}
use Rattle.bit_strings.specs.laws.Words.{length-bits_of_words}
use Rattle.reply_grammar.specs.declared.expected.Expect.{Expect}
use Rattle.reply_grammar.specs.declared.expected.Expect.TheVariants.{Rn16 as OneRn16, Epc as OneEpc, Handle as OneHandle, Same, Words as SomeWords, AnyWords, Header as OneHeader}
use Rattle.reply_grammar.specs.declared.expected.Reply.{Reply}
use Rattle.reply_grammar.specs.declared.expected.Reply.TheVariants.{Rn16, Epc, Handle, Words, Header, Error}
use Rattle.reply_grammar.specs.Replies.{Suits, suits, IsReply, FitsBank, longest_reply, spelling, with_check}
use Rattle.reply_grammar.specs.laws.Passing.{length-with_check}

both-true : (a b : Bool) → (a && b) ≡ true → (a ≡ true) × (b ≡ true)
both-true true b e = (refl, e)
both-true false b e = cc

both-from : (a b : Bool) → a ≡ true → b ≡ true → (a && b) ≡ true
both-from true b e f = f
both-from false b e f = e

pub suits-true : (reply : Reply) (expect : Expect) → suits reply expect ≡ true → Suits reply expect
suits-true (Rn16 rn) OneRn16 e = tt
suits-true (Epc pc epc) OneEpc e = tt
suits-true (Handle rn) OneHandle e = tt
suits-true (Handle rn) (Same handle) e = eqb-true rn handle e
suits-true (Words words) (SomeWords count handle) e = eqb-true (length words) count e
suits-true (Words words) (AnyWords handle) e =
    let both = both-true (nat_le 1 (length words)) (nat_le (length words) 512) e in
    (leb-true 1 (length words) both.0, leb-true (length words) 512 both.1)
suits-true Header (OneHeader handle) e = tt
suits-true (Error code) (SomeWords count handle) e = tt
suits-true (Error code) (AnyWords handle) e = tt
suits-true (Error code) (OneHeader handle) e = tt
suits-true reply expect e = let none : false ≡ true = e in cc

pub suits-from : (reply : Reply) (expect : Expect) → Suits reply expect → suits reply expect ≡ true
suits-from (Rn16 rn) OneRn16 s = refl
suits-from (Epc pc epc) OneEpc s = refl
suits-from (Handle rn) OneHandle s = refl
suits-from (Handle rn) (Same handle) s = eq-eqb rn handle s
suits-from (Words words) (SomeWords count handle) s = eq-eqb (length words) count s
suits-from (Words words) (AnyWords handle) s =
    both-from (nat_le 1 (length words)) (nat_le (length words) 512) (le-leb 1 (length words) s.0) (le-leb (length words) 512 s.1)
suits-from Header (OneHeader handle) s = refl
suits-from (Error code) (SomeWords count handle) s = refl
suits-from (Error code) (AnyWords handle) s = refl
suits-from (Error code) (OneHeader handle) s = refl
suits-from reply expect s = absurd s

pub suits-decides : (reply : Reply) (expect : Expect) → (suits reply expect ≡ true) ↔ Suits reply expect
suits-decides reply expect = (suits-true reply expect, suits-from reply expect)

-- the bits of a reply are at least the 16 of an RN16, and at most those of 512 words
pub spelling-within : (reply : Reply) (handle : ℕ) → IsReply reply → FitsBank reply → (16 ≤ length (spelling reply handle)) × (length (spelling reply handle) ≤ longest_reply)
unfolding spelling
spelling-within (Rn16 rn) handle range fits = (omega (arith, length-field_of rn 16), omega (arith, length-field_of rn 16))
spelling-within (Epc pc epc) handle range fits =
    let front : List Bool = field_of pc 16 ++ bits_of_words epc in
    let long : length (with_check front) ≡ 32 + 16 * length epc = omega (arith, length-with_check front, length-append (field_of pc 16) (bits_of_words epc), length-field_of pc 16, length-bits_of_words epc) in
    (omega arith, omega arith)
spelling-within (Handle rn) handle range fits =
    let long : length (with_check (field_of rn 16)) ≡ 32 = omega (arith, length-with_check (field_of rn 16), length-field_of rn 16) in
    (omega arith, omega arith)
spelling-within (Words words) handle range fits =
    let front : List Bool = false ∷ (bits_of_words words ++ field_of handle 16) in
    let long : length (with_check front) ≡ 33 + 16 * length words =
    omega (arith, length-with_check front, length-append (bits_of_words words) (field_of handle 16), length-bits_of_words words, length-field_of handle 16) in
    (omega arith, omega arith)
spelling-within Header handle range fits =
    let front : List Bool = false ∷ field_of handle 16 in
    let long : length (with_check front) ≡ 33 = omega (arith, length-with_check front, length-field_of handle 16) in
    (omega arith, omega arith)
spelling-within (Error code) handle range fits =
    let front : List Bool = true ∷ (field_of code 8 ++ field_of handle 16) in
    let long : length (with_check front) ≡ 41 = omega (arith, length-with_check front, length-append (field_of code 8) (field_of handle 16), length-field_of code 8, length-field_of handle 16) in
    (omega arith, omega arith)
