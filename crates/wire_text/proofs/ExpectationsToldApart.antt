-- Two expectations are not spelled alike.
use Rattle.std.proofs.Common.{◌≡◌, ◌<◌, ◌≤◌, ◌^◌, ℕ, List, ◌++◌, get_or, arith, ap, refl}
use Rattle.std.specs.Prelude.{codes}
use Rattle.std.specs.Fmt.{decimal}
use Rattle.std.proofs.lemmas.List.{append_cancel_left}
use Rattle.text_fields.specs.Hexadecimal.{hex_word}
use Rattle.text_fields.proofs.ToldApart.{decimal_told, hex_word_told}
use Rattle.reply_grammar.specs.declared.expected.Expect.{Expect}
use Rattle.reply_grammar.specs.declared.expected.Expect.TheVariants.{Rn16, Epc, Handle, Same, Words, AnyWords, Header}
use Rattle.wire_text.specs.ReplyText.{IsExpect, expect_word}
use Rattle.wire_text.proofs.Cuts.{parts_told}

handle_told : (front : List ℕ) (one other : ℕ) → one < 2 ^ 16 → other < 2 ^ 16 → front ++ hex_word one ≡ front ++ hex_word other → one ≡ other
handle_told front one other small small' same =
    hex_word_told one other small small' (append_cancel_left front (hex_word one) (hex_word other) same)

count_and_handle_told : (count handle count' handle' : ℕ) → count ≤ 255 → handle < 2 ^ 16 → count' ≤ 255 → handle' < 2 ^ 16
    → decimal count ++ (codes "-" ++ hex_word handle) ≡ decimal count' ++ (codes "-" ++ hex_word handle') → (count ≡ count') × (handle ≡ handle')
count_and_handle_told count handle count' handle' few small few' small' same =
    let parts = parts_told (decimal count) (codes "-" ++ hex_word handle) (decimal count') (codes "-" ++ hex_word handle') refl same in
    (decimal_told count count' (omega arith) (omega arith) parts.0, handle_told (codes "-") handle handle' small small' parts.1)

pub expect_told : (one other : Expect) → IsExpect one → IsExpect other → expect_word one ≡ expect_word other → one ≡ other
expect_told Rn16 Rn16 _ _ same = refl
expect_told Epc Epc _ _ same = refl
expect_told Handle Handle _ _ same = refl
expect_told (Same handle) (Same handle') is is' same = ap Same (handle_told (codes "same-") handle handle' is is' same)
expect_told (Words count handle) (Words count' handle') is is' same =
    let behind = append_cancel_left (codes "words-") (decimal count ++ (codes "-" ++ hex_word handle)) (decimal count' ++ (codes "-" ++ hex_word handle')) same in
    let both : (count ≡ count') × (handle ≡ handle') = count_and_handle_told count handle count' handle' is.1 is.2 is'.1 is'.2 behind in
    let counts = both.0 in
    let handles = both.1 in
    cc
expect_told (AnyWords handle) (AnyWords handle') is is' same = ap AnyWords (handle_told (codes "any-") handle handle' is is' same)
expect_told (Header handle) (Header handle') is is' same = ap Header (handle_told (codes "header-") handle handle' is is' same)
expect_told one other is is' same =
    let first = ap (λ (text : List ℕ). get_or text 0 0) same in
    let second = ap (λ (text : List ℕ). get_or text 1 0) same in
    absurd (omega arith)
