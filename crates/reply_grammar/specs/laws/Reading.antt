-- How words are read one after another.
use Rattle.std.proofs.Common.{◌≡◌, ℕ, ◌+◌, ◌*◌, ◌^◌, ◌<◌, ◌≤◌, Bool, List, [], ◌∷◌, ◌++◌, length, take, drop, refl, sym, ◌∙◌, ap, arith, length-append, length-take, length-drop}
use Rattle.std.proofs.Math.Seq.{take-add}
use Rattle.std.proofs.lemmas.List.{drop-drop}
use Rattle.std.proofs.lemmas.List.Elements.{All-push, All-nil}
use Rattle.bit_strings.specs.NumbersInBits.{value_of, field_of, part_of}
use Rattle.bit_strings.specs.laws.NumbersInBits.{field_of-value_of, value_of-within}
use Rattle.bit_strings.specs.Words.{bits_of_words}
use Rattle.bit_strings.specs.laws.Words.{bits_of_words-push}
use Rattle.reply_grammar.specs.Replies.{AreWords}

pub length-part_of : (bits : List Bool) (at width : ℕ) → at + width ≤ length bits → length (part_of bits at width) ≡ width
length-part_of bits at width within = omega (arith, length-take width (drop at bits), length-drop at bits)

-- a part is the field of its value
pub part-field : (bits : List Bool) (at width value : ℕ) → at + width ≤ length bits → value ≡ value_of (part_of bits at width) → field_of value width ≡ part_of bits at width
part-field bits at width value within read =
    let long : length (part_of bits at width) ≡ width = length-part_of bits at width within in
    ap (λ n. field_of n width) read ∙ ap (λ n. field_of (value_of (part_of bits at width)) n) (sym long) ∙ field_of-value_of (part_of bits at width)

pub value_of-part : (bits : List Bool) (at width : ℕ) → at + width ≤ length bits → value_of (part_of bits at width) < 2 ^ width
value_of-part bits at width within = value_of-within (part_of bits at width) width (omega (arith, length-part_of bits at width within))

-- two parts side by side
pub part-add : (bits : List Bool) (at m n : ℕ) → part_of bits at (m + n) ≡ part_of bits at m ++ part_of bits (at + m) n
part-add bits at m n = take-add m n (drop at bits) ∙ ap (λ (b : List Bool). part_of bits at m ++ take n b) (drop-drop m at bits)

-- the words read from a place on, up to another
pub record ReadTo (bits : List Bool) (from at : ℕ) (words : List ℕ) : Type 0 where
  pub place : at ≡ from + 16 * length words
  pub range : AreWords words
  pub words_are : bits_of_words words ≡ part_of bits from (16 * length words)

pub read_none : (bits : List Bool) (from : ℕ) → ReadTo bits from from []
read_none bits from = record { place = omega arith; range = All-nil (λ word. word < 2 ^ 16); words_are = refl }

pub read_more : (bits : List Bool) (from at word : ℕ) (words : List ℕ) → ReadTo bits from at words → at + 16 ≤ length bits → word ≡ value_of (part_of bits at 16) → ReadTo bits from (at + 16) (words ++ word ∷ [])
read_more bits from at word words so_far within read =
    let count : length (words ++ word ∷ []) ≡ length words + 1 = length-append words (word ∷ []) in
    record {
      place = omega (arith, so_far.place, count);
      range = All-push (λ word. word < 2 ^ 16) words word so_far.range (omega (arith, value_of-part bits at 16 within));
      words_are =
          bits_of_words-push words word
          ∙ ap (λ (b : List Bool). b ++ field_of word 16) so_far.words_are
          ∙ ap (λ (b : List Bool). part_of bits from (16 * length words) ++ b) (part-field bits at 16 word within read)
          ∙ ap (λ n. part_of bits from (16 * length words) ++ part_of bits n 16) so_far.place
          ∙ sym (part-add bits from (16 * length words) 16)
          ∙ ap (λ n. part_of bits from n) (omega (arith, count));
    }
