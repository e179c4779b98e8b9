-- Keys and texts of the objects of a report stand in JSON as they are.
use Rattle.std.proofs.Common.{◌≡◌, ◌<◌, ◌≤◌, ◌^◌, ◌/◌, ◌%◌, ℕ, Bool, true, false, List, [], ◌∷◌, ◌++◌, refl, arith, ap₂, ◌∙◌}
use Rattle.std.proofs.lemmas.Bool.Decides.{nat_tests}
use Rattle.std.proofs.lemmas.Grind.{flat_map-append}
use Rattle.std.proofs.lemmas.List.Elements.{recursion_from_All}
use Rattle.std.specs.List.{AllByRecursion}
use Rattle.json.specs.Print.{escape_byte}
use Rattle.access_ops.specs.declared.op_next.OpResult.{OpResult}
use Rattle.access_ops.specs.declared.op_next.OpResult.TheVariants as results
use Rattle.command_fields.specs.declared.choices.Side.{Side}
use Rattle.command_fields.specs.declared.choices.Side.TheVariants as sides
use Rattle.wire_text.specs.CommandText.{side_letter}
use Rattle.lock_rules.specs.declared.locks.Locks.{Locks}
use Rattle.lock_rules.specs.declared.locks.Pair.{Pair}
use Rattle.q_round.specs.declared.round.RoundEnd.{RoundEnd}
use Rattle.q_round.specs.declared.round.RoundEnd.TheVariants as ends
use Rattle.reply_grammar.specs.Replies.{AreWords}
use Rattle.report_lines.specs.JsonLines.{digits_of, json_pairs, result_value, result_word}
use Rattle.report_lines.specs.ReportLine.{ReportLine, ListLine, OpLine, RoundLine, SeenLine, TagLine, DoneLine, end_word, flags_word, state_word}
use Rattle.report_lines.specs.Unescaped.{BringsWords, HasWords, IsPlainPair, IsUnescaped}
use Rattle.session_flags.specs.declared.flags.Flags.{Flags}
use Rattle.tag_machine.specs.StateNames.{name_of}
use Rattle.tag_machine.specs.declared.states.StateName.{StateName}
use Rattle.tag_machine.specs.declared.states.StateName.TheVariants as names
use Rattle.text_fields.specs.Binary.{binary_digit}
use Rattle.text_fields.specs.Hexadecimal.{hex_byte, hex_digit, hex_word}
use Rattle.wire_text.specs.PasswordsAndLocks.{locks_text, pair_text}

-- a byte between the quotation mark and the backslash has no escape
between : (byte : ℕ) → 35 ≤ byte → byte < 92 → escape_byte byte ≡ byte ∷ []
unfolding escape_byte
between byte least most = grind (arith, nat_tests)

digit : (n : ℕ) → n < 16 → escape_byte (hex_digit n) ≡ hex_digit n ∷ []
digit n small = between (hex_digit n) (grind (arith, nat_tests)) (grind (arith, nat_tests))

both : (text more : List ℕ) → IsUnescaped text → IsUnescaped more → IsUnescaped (text ++ more)
both text more first second = flat_map-append escape_byte text more ∙ ap₂ (λ (one other : List ℕ). one ++ other) first second

byte_digits : (byte : ℕ) → byte < 2 ^ 8 → IsUnescaped (hex_byte byte)
byte_digits byte small = rw (digit (byte / 16) (omega arith), digit (byte % 16) (omega arith)) refl

word_digits : (word : ℕ) → word < 2 ^ 16 → IsUnescaped (hex_word word)
word_digits word small = both (hex_byte (word / 256)) (hex_byte (word % 256)) (byte_digits (word / 256) (omega arith)) (byte_digits (word % 256) (omega arith))

all_digits : (words : List ℕ) → AllByRecursion (λ word. word < 2 ^ 16) words → IsUnescaped (digits_of words)
all_digits [] are = refl
all_digits (word ∷ words) are = both (hex_word word) (digits_of words) (word_digits word are.0) (all_digits words are.1)

words_digits : (words : List ℕ) → AreWords words → IsUnescaped (digits_of words)
words_digits words are = all_digits words (recursion_from_All (λ word. word < 2 ^ 16) words are)

bit_digit : (bit : Bool) → IsUnescaped (binary_digit bit ∷ [])
unfolding escape_byte
bit_digit false = refl
bit_digit true = refl

pair_bits : (pair : Pair) → IsUnescaped (pair_text pair)
pair_bits pair = both (binary_digit pair.write_bit ∷ []) (binary_digit pair.permalock ∷ []) (bit_digit pair.write_bit) (bit_digit pair.permalock)

lock_bits : (locks : Locks) → IsUnescaped (locks_text locks)
lock_bits locks =
    both (pair_text locks.kill_word ++ pair_text locks.access_word ++ pair_text locks.epc ++ pair_text locks.tid) (pair_text locks.user)
    (both (pair_text locks.kill_word ++ pair_text locks.access_word ++ pair_text locks.epc) (pair_text locks.tid)
    (both (pair_text locks.kill_word ++ pair_text locks.access_word) (pair_text locks.epc)
    (both (pair_text locks.kill_word) (pair_text locks.access_word) (pair_bits locks.kill_word) (pair_bits locks.access_word))
    (pair_bits locks.epc)) (pair_bits locks.tid)) (pair_bits locks.user)

side : (side : Side) → IsUnescaped (side_letter side)
unfolding escape_byte
side sides.A = refl
side sides.B = refl

flag_letters : (flags : Flags) → IsUnescaped (flags_word flags)
flag_letters flags =
    both (side_letter flags.s0 ++ side_letter flags.s1 ++ side_letter flags.s2 ++ side_letter flags.s3) (binary_digit flags.sl ∷ [])
    (both (side_letter flags.s0 ++ side_letter flags.s1 ++ side_letter flags.s2) (side_letter flags.s3)
    (both (side_letter flags.s0 ++ side_letter flags.s1) (side_letter flags.s2)
    (both (side_letter flags.s0) (side_letter flags.s1) (side flags.s0) (side flags.s1)) (side flags.s2)) (side flags.s3)) (bit_digit flags.sl)

state : (name : StateName) → IsUnescaped (state_word name)
unfolding escape_byte
state names.Ready = refl
state name = refl

end_name : (end : RoundEnd) → IsUnescaped (end_word end)
unfolding escape_byte
end_name ends.Quiet = refl
end_name end = refl

result_name : (result : OpResult) → IsUnescaped (result_word result)
unfolding escape_byte
result_name results.Silent = refl
result_name result = refl

result_digits : (result : OpResult) → BringsWords result → IsUnescaped (result_value result)
result_digits (results.Ok words) are = words_digits words are
result_digits (results.TagError code) small = byte_digits code small
result_digits result is = refl

-- no key and no text of a line's object has an escape
pub plain_pairs : (line : ReportLine) → HasWords line → AllByRecursion IsPlainPair (json_pairs line)
unfolding escape_byte
plain_pairs (ListLine round slot pc epc) words =
    ((refl, words_digits epc words.1), ((refl, refl), ((refl, word_digits pc words.0), ((refl, tt), ((refl, tt), tt)))))
plain_pairs (OpLine round slot index result) words =
    ((refl, tt), ((refl, refl), ((refl, result_name result), ((refl, tt), ((refl, tt), ((refl, result_digits result words), tt))))))
plain_pairs (RoundLine round end slots) words = ((refl, end_name end), ((refl, refl), ((refl, tt), ((refl, tt), tt))))
plain_pairs (SeenLine count pc epc) words = ((refl, tt), ((refl, words_digits epc words.1), ((refl, refl), ((refl, word_digits pc words.0), tt))))
plain_pairs (TagLine place tag) words = (
  (refl, words_digits tag.body.memory.epc words.epc),
  (
    (refl, flag_letters tag.body.flags),
    (
      (refl, refl),
      (
        (refl, lock_bits tag.body.locks),
        (
          (refl, tt),
          (
            (refl, words_digits tag.body.memory.reserved words.reserved),
            (
              (refl, state (name_of tag.state)),
              (
                (refl, words_digits tag.body.memory.tid words.tid),
                ((refl, words_digits tag.body.memory.user words.user), tt),
              ),
            ),
          ),
        ),
      ),
    ),
  ),
)
plain_pairs DoneLine words = ((refl, refl), tt)
plain_pairs line words = tt
