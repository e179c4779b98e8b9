-- The digits of the bytes are those of the words.
use Rattle.std.proofs.Common.{◌≡◌, ◌<◌, ◌^◌, List, ℕ, slice_index, arith, ◌∙◌, ap, sym, subst}
use Rattle.std.specs.List.{flat_map}
use Rattle.std.specs.Str.{IsAscii}
use Rattle.text_fields.specs.Hexadecimal.{hex_byte, hex_word}
use Rattle.text_fields.proofs.ByteDigits.{bytes_of_words}
use Rattle.text_fields.proofs.UpperHexadecimal.{digits_ascii, words_pass}
use Rattle.text_fields.proofs.hexadecimal.push_part.Goals as goal

pub push_ascii-requires : goal.push_ascii-requires
push_ascii-requires c =
    let small : (i : ℕ) → slice_index c.args.words.now i < 2 ^ 16 = λ i. omega (arith, c.type_inv.words i) in
    let bytes = c.as_flattened.ensures.value ∙ ap (λ (each : List (List ℕ)). flat_map (λ bytes. bytes) each) c.write_bytes.ensures in
    let are : c.write_upper.new.digits ≡ flat_map hex_word c.args.words.now =
    c.write_upper.ensures ∙ ap (flat_map hex_byte) bytes ∙ bytes_of_words c.args.words.now small in
    subst (λ digits. IsAscii digits) (sym are) (digits_ascii (flat_map hex_word c.args.words.now) (words_pass c.args.words.now small))

pub returns : goal.returns
returns c =
    let small : (i : ℕ) → slice_index c.args.words.now i < 2 ^ 16 = λ i. omega (arith, c.type_inv.words i) in
    let bytes = c.as_flattened.ensures.value ∙ ap (λ (each : List (List ℕ)). flat_map (λ bytes. bytes) each) c.write_bytes.ensures in
    let are : c.write_upper.new.digits ≡ flat_map hex_word c.args.words.now =
    c.write_upper.ensures ∙ ap (flat_map hex_byte) bytes ∙ bytes_of_words c.args.words.now small in
    rw (← are) c.push_ascii.ensures
