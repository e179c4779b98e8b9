-- The words of the groups are those of the digits.
use Rattle.std.proofs.Common.{◌∙◌, List, ℕ, length, map, ap, arith, ◌/◌, subst, sym}
use Rattle.std.specs.List.{AllPass}
use Rattle.std.specs.Prelude.{All}
use Rattle.text_fields.specs.WordLists.{first_word, is_upper_hex_digit}
use Rattle.text_fields.proofs.Groups.{groups_pass}
use Rattle.text_fields.proofs.WordDigits.{digits_upper, words_in_groups, words_length}
use Rattle.text_fields.proofs.word_lists.Words.write_to.Goals as goal

pub write_words-requires-clause-digits : goal.write_words-requires-clause-digits
write_words-requires-clause-digits c =
    let digits = c.self.inside.digits.now in
    subst (λ (groups : List (List ℕ)). All (AllPass is_upper_hex_digit) groups) (sym c.as_chunks.ensures.front)
    (groups_pass is_upper_hex_digit 4 (length digits / 4) digits (digits_upper digits c.self.invariant))

pub write_words-requires-clause-count : goal.write_words-requires-clause-count
write_words-requires-clause-count c =
    omega (arith, c.requires, ap length c.self.view_is, words_length c.self.inside.digits.now, c.as_chunks.ensures.front_len)

pub returns : goal.returns
returns c = c.write_words.ensures ∙ ap (map first_word) c.as_chunks.ensures.front ∙ words_in_groups c.self.inside.digits.now ∙ c.self.view_is
