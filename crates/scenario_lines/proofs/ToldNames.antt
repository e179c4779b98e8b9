-- Two words of a scenario are not spelled alike.
use Rattle.std.proofs.Common.{◌≡◌, ◌≤◌, ◌<◌, ◌^◌, ℕ, List, [], ◌∷◌, drop, get_or, ap, arith, refl, sym}
use Rattle.std.specs.Fmt.{decimal}
use Rattle.std.proofs.lemmas.Fmt.{decimal_is_IsNumeral}
use Rattle.std.proofs.lemmas.Str.Parse.{digit_at}
use Rattle.text_fields.proofs.ToldApart.{decimal_told}
use Rattle.air_events.specs.declared.Several.{Several}
use Rattle.air_events.specs.declared.Several.TheVariants as severals
use Rattle.q_round.specs.SpecValue.{IsLegalRule}
use Rattle.q_round.specs.declared.rule.Rule.{Rule}
use Rattle.q_round.specs.declared.rule.Rule.TheVariants as rules
use Rattle.scenario_lines.specs.declared.version.Version.{Version}
use Rattle.scenario_lines.specs.declared.version.Version.TheVariants.{One, Two}
use Rattle.command_fields.specs.declared.choices.Sel.{Sel}
use Rattle.command_fields.specs.declared.choices.Sel.TheVariants as sels
use Rattle.scenario_lines.specs.declared.keywords.Keyword.{Keyword}
use Rattle.scenario_lines.specs.declared.keywords.EventKind.{EventKind}
use Rattle.scenario_lines.specs.declared.keywords.EventKind.TheVariants.{Timeout, Off, On, Expire}
use Rattle.scenario_lines.specs.declared.keywords.OpKind.{OpKind}
use Rattle.scenario_lines.specs.declared.keywords.AirKind.{AirKind}
use Rattle.wire_text.specs.NameLists.{EachFound}
use Rattle.wire_text.specs.FieldNames.{all_sels}
use Rattle.wire_text.proofs.NameLists.{told}
use Rattle.wire_text.proofs.Cuts.{letter}
use Rattle.scenario_lines.specs.Names.{HasRuleText, air_found, all_air_kinds, air_word, all_keywords, event_word, keyword_found, keyword_text, op_found, all_op_kinds, op_word, rule_text, sel_text, several_text, version_digit}

pub keyword_told : (one other : Keyword) → keyword_text one ≡ keyword_text other → one ≡ other
keyword_told = told keyword_text all_keywords keyword_found

abbrev pub all_versions : List Version
all_versions = One ∷ Two ∷ []

pub version_found : EachFound version_digit all_versions
version_found One = refl
version_found version = refl

pub version_told : (one other : Version) → version_digit one ≡ version_digit other → one ≡ other
version_told = told version_digit all_versions version_found

abbrev pub all_severals : List Several
all_severals = severals.Break ∷ severals.Capture ∷ []

pub several_found : EachFound several_text all_severals
several_found severals.Break = refl
several_found several = refl

pub several_told : (one other : Several) → several_text one ≡ several_text other → one ≡ other
several_told = told several_text all_severals several_found

-- a number begins with a digit
begins_with_digit : (n : ℕ) (text : List ℕ) → n < 2 ^ 32 → decimal n ≡ text → get_or text 0 0 ≤ 57
begins_with_digit n text small same =
    let numeral = (decimal_is_IsNumeral n (omega arith)).0 in
    let digit = digit_at (decimal n) 0 numeral.1 (omega (arith, numeral.0)) in
    omega (arith, digit.1, letter 0 _ _ same)

-- ... and what version 2 names a rule by, with the letter f
begins_with_letter : (rule : Rule) → get_or (rule_text Two rule) 0 0 ≡ 102
begins_with_letter rules.Fixed = refl
begins_with_letter rule = refl

no_digit_first : (c : ℕ) (rule : Rule) → IsLegalRule (rules.Float c) → decimal c ≡ rule_text Two rule → ⊥
no_digit_first c rule legal same =
    omega (arith, begins_with_letter rule, begins_with_digit c (rule_text Two rule) (omega (arith, legal.1)) same)

-- the rule of one version
one_rule_told : (one other : Rule) → IsLegalRule one → IsLegalRule other → rule_text Two one ≡ rule_text Two other → one ≡ other
one_rule_told rules.Fixed rules.Fixed legal legal' same = refl
one_rule_told (rules.Float c) (rules.Float c') legal legal' same =
    ap rules.Float (decimal_told c c' (omega (arith, legal.1)) (omega (arith, legal'.1)) (ap (λ (text : List ℕ). drop 6 text) same))
one_rule_told rules.Frame rules.Frame legal legal' same = refl
one_rule_told one other legal legal' same = absurd (omega (arith, letter 1 _ _ same))

pub rule_told : (version version' : Version) (one other : Rule) → IsLegalRule one → IsLegalRule other → HasRuleText version one
    → HasRuleText version' other → rule_text version one ≡ rule_text version' other → (version ≡ version') × (one ≡ other)
rule_told One One (rules.Float c) (rules.Float c') legal legal' has has' same =
    (refl, ap rules.Float (decimal_told c c' (omega (arith, legal.1)) (omega (arith, legal'.1)) same))
rule_told One Two (rules.Float c) other legal legal' has has' same = absurd (no_digit_first c other legal same)
rule_told Two One one (rules.Float c) legal legal' has has' same = absurd (no_digit_first c one legal' (sym same))
rule_told Two Two one other legal legal' has has' same = (refl, one_rule_told one other legal legal' same)
rule_told One version rules.Fixed other legal legal' has has' same = absurd has
rule_told One version rules.Frame other legal legal' has has' same = absurd has
rule_told version One one rules.Fixed legal legal' has has' same = absurd has'
rule_told version One one rules.Frame legal legal' has has' same = absurd has'

abbrev pub all_event_kinds : List EventKind
all_event_kinds = Timeout ∷ Off ∷ On ∷ Expire ∷ []

pub event_found : EachFound event_word all_event_kinds
event_found Timeout = refl
event_found kind = refl

pub event_word_told : (one other : EventKind) → event_word one ≡ event_word other → one ≡ other
event_word_told = told event_word all_event_kinds event_found

pub air_word_told : (one other : AirKind) → air_word one ≡ air_word other → one ≡ other
air_word_told = told air_word all_air_kinds air_found

pub op_word_told : (one other : OpKind) → op_word one ≡ op_word other → one ≡ other
op_word_told = told op_word all_op_kinds op_found

pub sel_found : EachFound sel_text all_sels
sel_found sels.All00 = refl
sel_found sel = refl

pub sel_told : (one other : Sel) → sel_text one ≡ sel_text other → one ≡ other
sel_told = told sel_text all_sels sel_found
