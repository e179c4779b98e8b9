-- The pieces of a line are not empty, and may stand as fields.
use Rattle.std.proofs.Common.{◌≢◌, ◌<◌, ◌^◌, ◌/◌, ◌%◌, ℕ, Bool, true, false, List, [], ◌∷◌, ◌++◌, arith, refl}
use Rattle.std.specs.Prelude.{codes}
use Rattle.std.specs.Fmt.{decimal}
use Rattle.text_fields.specs.Lines.{IsFieldText, space}
use Rattle.text_fields.specs.Binary.{binary, binary_digit}
use Rattle.text_fields.specs.Hexadecimal.{hex_word, hex_words}
use Rattle.text_fields.proofs.FieldTextLaws.{IsFieldText-append as joined, IsFieldText-binary, IsFieldText-cons as before, IsFieldText-decimal, IsFieldText-hex_word, IsFieldText-hex_words, IsFieldText-one}
use Rattle.command_fields.specs.declared.choices.Sel.{Sel}
use Rattle.command_fields.specs.declared.choices.Sel.TheVariants as sels
use Rattle.lock_rules.specs.declared.locks.Locks.{Locks}
use Rattle.air_events.specs.declared.Several.{Several}
use Rattle.air_events.specs.declared.Several.TheVariants as severals
use Rattle.q_round.specs.SpecValue.{IsLegalRule}
use Rattle.q_round.specs.declared.rule.Rule.{Rule}
use Rattle.q_round.specs.declared.rule.Rule.TheVariants as rules
use Rattle.scenario_lines.specs.declared.version.Version.{Version}
use Rattle.scenario_lines.specs.declared.version.Version.TheVariants.{One, Two}
use Rattle.scenario_lines.specs.declared.keywords.Keyword.{Keyword}
use Rattle.scenario_lines.specs.declared.keywords.Keyword.TheVariants as keywords
use Rattle.scenario_lines.specs.declared.keywords.EventKind.{EventKind}
use Rattle.scenario_lines.specs.declared.keywords.EventKind.TheVariants as events
use Rattle.scenario_lines.specs.declared.keywords.OpKind.{OpKind}
use Rattle.scenario_lines.specs.declared.keywords.OpKind.TheVariants as op_kinds
use Rattle.scenario_lines.specs.declared.keywords.AirKind.{AirKind}
use Rattle.scenario_lines.specs.declared.keywords.AirKind.TheVariants as airs
use Rattle.scenario_lines.specs.Names.{HasRuleText, air_word, event_word, keyword_text, op_word, rule_text, sel_text, several_text, version_digit}
use Rattle.wire_text.specs.PasswordsAndLocks.{locks_text, pair_text, password_text}

pub number_text : (n : ℕ) → n < 2 ^ 32 → IsFieldText (decimal n)
number_text n small = IsFieldText-decimal n small

pub sel_text_is : (sel : Sel) → sel ≢ sels.All01 → IsFieldText (sel_text sel)
sel_text_is sels.All01 named = absurd (named refl)
sel_text_is sel named = search (arith, before, IsFieldText-one) depth 12

pub keyword_text_is : (keyword : Keyword) → IsFieldText (keyword_text keyword)
keyword_text_is keywords.Version = search (arith, before, IsFieldText-one) depth 12
keyword_text_is keyword = search (arith, before, IsFieldText-one) depth 16

pub version_text_is : (version : Version) → IsFieldText (version_digit version)
version_text_is One = search (arith, before, IsFieldText-one) depth 12
version_text_is version = search (arith, before, IsFieldText-one) depth 12

pub several_text_is : (several : Several) → IsFieldText (several_text several)
several_text_is severals.Break = search (arith, before, IsFieldText-one) depth 12
several_text_is severals.Capture = search (arith, before, IsFieldText-one) depth 16

float_is : IsFieldText (codes "float-")
float_is = search (arith, before, IsFieldText-one) depth 16

pub rule_text_is : (version : Version) (rule : Rule) → IsLegalRule rule → HasRuleText version rule → IsFieldText (rule_text version rule)
rule_text_is One (rules.Float c) legal has = number_text c (omega (arith, legal.1))
rule_text_is Two (rules.Float c) legal has = joined (codes "float-") (decimal c) float_is (number_text c (omega (arith, legal.1)))
rule_text_is One rule legal has = absurd has
rule_text_is Two rule legal has = search (arith, before, IsFieldText-one) depth 12

pub event_word_is : (kind : EventKind) → IsFieldText (event_word kind)
event_word_is events.Timeout = search (arith, before, IsFieldText-one) depth 12
event_word_is kind = search (arith, before, IsFieldText-one) depth 12

pub op_word_is : (kind : OpKind) → IsFieldText (op_word kind)
op_word_is op_kinds.Read = search (arith, before, IsFieldText-one) depth 12
op_word_is kind = search (arith, before, IsFieldText-one) depth 24

pub air_word_is : (kind : AirKind) → IsFieldText (air_word kind)
air_word_is (airs.Event kind) = event_word_is kind
air_word_is kind = search (arith, before, IsFieldText-one) depth 12

pub password_is : (password : ℕ) → IsFieldText (password_text password)
password_is password =
    joined (hex_word (password / 2 ^ 16)) (hex_word (password % 2 ^ 16)) (IsFieldText-hex_word (password / 2 ^ 16)) (IsFieldText-hex_word (password % 2 ^ 16))

pub one_word_is : (word : ℕ) → IsFieldText (hex_word word)
one_word_is word = IsFieldText-hex_word word

digit_visible : (bit : Bool) → space < binary_digit bit
digit_visible false = omega arith
digit_visible true = omega arith

pair_is : (first second : Bool) → IsFieldText (binary_digit first ∷ binary_digit second ∷ [])
pair_is first second =
    before (binary_digit first) (binary_digit second ∷ []) (digit_visible first) (IsFieldText-one (binary_digit second) (digit_visible second))

pub locks_is : (locks : Locks) → IsFieldText (locks_text locks)
locks_is locks =
    let kill = locks.kill_word in
    let access = locks.access_word in
    let epc = locks.epc in
    let tid = locks.tid in
    let user = locks.user in
    joined (pair_text kill ++ pair_text access ++ pair_text epc ++ pair_text tid) (pair_text user)
    (joined (pair_text kill ++ pair_text access ++ pair_text epc) (pair_text tid)
    (joined (pair_text kill ++ pair_text access) (pair_text epc)
    (joined (pair_text kill) (pair_text access) (pair_is kill.write_bit kill.permalock) (pair_is access.write_bit access.permalock))
    (pair_is epc.write_bit epc.permalock)) (pair_is tid.write_bit tid.permalock)) (pair_is user.write_bit user.permalock)

pub words_is : (words : List ℕ) → IsFieldText (hex_words words)
words_is words = IsFieldText-hex_words words

pub bits_are : (bits : List Bool) → IsFieldText (binary bits)
bits_are bits = IsFieldText-binary bits
