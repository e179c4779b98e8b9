-- Expectations are spelled with visible bytes.
use Rattle.std.proofs.Common.{◌++◌, arith}
use Rattle.std.specs.Prelude.{codes}
use Rattle.std.specs.Fmt.{decimal}
use Rattle.text_fields.specs.Lines.{IsFieldText}
use Rattle.text_fields.specs.Hexadecimal.{hex_word}
use Rattle.text_fields.proofs.FieldTextLaws.{IsFieldText-append as joined, IsFieldText-cons as before, IsFieldText-decimal, IsFieldText-hex_word, IsFieldText-one}
use Rattle.reply_grammar.specs.declared.expected.Expect.{Expect}
use Rattle.reply_grammar.specs.declared.expected.Expect.TheVariants.{Rn16, Epc, Handle, Same, Words, AnyWords, Header}
use Rattle.wire_text.specs.ReplyText.{IsExpect, expect_word}

pub expect_word_is_field_text : (expect : Expect) → IsExpect expect → IsFieldText (expect_word expect)
expect_word_is_field_text Rn16 is = search (arith, before, IsFieldText-one) depth 12
expect_word_is_field_text Epc is = search (arith, before, IsFieldText-one) depth 12
expect_word_is_field_text Handle is = search (arith, before, IsFieldText-one) depth 12
expect_word_is_field_text (Same handle) is =
    joined (codes "same-") (hex_word handle) (search (arith, before, IsFieldText-one) depth 12) (IsFieldText-hex_word handle)
expect_word_is_field_text (Words count handle) is =
    joined (codes "words-") (decimal count ++ (codes "-" ++ hex_word handle)) (search (arith, before, IsFieldText-one) depth 12)
    (joined (decimal count) (codes "-" ++ hex_word handle) (IsFieldText-decimal count (omega arith))
    (joined (codes "-") (hex_word handle) (IsFieldText-one 45 (omega arith)) (IsFieldText-hex_word handle)))
expect_word_is_field_text (AnyWords handle) is =
    joined (codes "any-") (hex_word handle) (search (arith, before, IsFieldText-one) depth 12) (IsFieldText-hex_word handle)
expect_word_is_field_text (Header handle) is =
    joined (codes "header-") (hex_word handle) (search (arith, before, IsFieldText-one) depth 12) (IsFieldText-hex_word handle)
