-- A list of fields spells at most one line.
use Rattle.std.proofs.Common.{◌≡◌, ◌≤◌, ℕ, List, [], ◌∷◌, ap, arith, refl, sym, ◌∙◌}
use Rattle.std.specs.Fmt.{decimal}
use Rattle.text_fields.proofs.ToldApart.{binary_told, decimal_told, hex_word_told, hex_words_told}
use Rattle.text_fields.specs.Binary.{binary}
use Rattle.text_fields.specs.Hexadecimal.{hex_words}
use Rattle.wire_text.specs.CommandText.{flag_word, payload_digits}
use Rattle.access_ops.specs.declared.Op.{Op}
use Rattle.access_ops.specs.declared.Op.TheVariants as ops
use Rattle.access_ops.specs.laws.OperationLaws.{IsLegalOp}
use Rattle.air_events.specs.declared.Event.{Event}
use Rattle.air_events.specs.declared.Event.TheVariants as events
use Rattle.air_events.specs.declared.Choice.TheVariants as choices
use Rattle.pie_line.specs.Link.{LinkValue}
use Rattle.q_round.specs.SpecValue.{SpecValue}
use Rattle.scenario_lines.specs.declared.version.Version.{Version}
use Rattle.scenario_lines.specs.declared.tag.TagSpec.{TagSpec}
use Rattle.scenario_lines.specs.declared.line.Selection.{Selection}
use Rattle.scenario_lines.specs.declared.line.Happening.{Happening}
use Rattle.scenario_lines.specs.declared.line.Happening.TheVariants as happenings
use Rattle.scenario_lines.specs.declared.line.Line.{Line}
use Rattle.scenario_lines.specs.declared.line.Line.TheVariants as lines
use Rattle.scenario_lines.specs.Names.{air_kind, air_word, event_kind, event_word, op_kind, op_word, keyword_text, several_text, version_digit}
use Rattle.scenario_lines.specs.TagForm.{IsTagForm}
use Rattle.scenario_lines.specs.LineForm.{HasForm, IsEvent, IsHappening, IsLinkForm, IsRound, IsSelection}
use Rattle.scenario_lines.specs.SpelledLines.{SpellsLine}
use Rattle.wire_text.specs.PasswordsAndLocks.{password_text}
use Rattle.scenario_lines.specs.Spelling.{event_fields, happening_fields, line_fields, link_fields, op_fields, other_fields, round_fields, select_fields, tag_spec_fields, keyword_of}
use Rattle.scenario_lines.proofs.Counted.{field_at}
use Rattle.scenario_lines.proofs.TagFields.{same_tag, tag_fields_are}
use Rattle.scenario_lines.proofs.ToldNames.{air_word_told, event_word_told, op_word_told, rule_told, sel_told, several_told, keyword_told, version_told}
use Rattle.wire_text.proofs.CommandsToldApart.{bank_told, bit_told, code_told, flag_told, list_of_block, mask_bank_told, payload_told, side_told}
use Rattle.scenario_lines.proofs.ToldFields.{locks_told, password_told}

-- the first of two equal lists of fields, and those behind it
pub same_fields : (a b : List ℕ) (behind behind' : List (List ℕ)) → a ∷ behind ≡ b ∷ behind' → (a ≡ b) × (behind ≡ behind')
same_fields a b behind behind' same = (cc, cc)

-- two places are not spelled alike
place_told : (one other : ℕ) (behind behind' : List (List ℕ)) → one ≤ 1000000 → other ≤ 1000000 → decimal one ∷ behind ≡ decimal other ∷ behind' → one ≡ other
place_told one other behind behind' small small' same =
    decimal_told one other (omega arith) (omega arith) (same_fields (decimal one) (decimal other) behind behind' same).0

link_told : (one other : LinkValue) → IsLinkForm one → IsLinkForm other → link_fields one ≡ link_fields other → one ≡ other
link_told one other form form' same =
    let tari = decimal_told one.tari other.tari (omega arith) (omega arith) (field_at 0 (link_fields one) (link_fields other) same) in
    let rtcal = decimal_told one.rtcal other.rtcal (omega arith) (omega arith) (field_at 1 (link_fields one) (link_fields other) same) in
    let trcal = decimal_told one.trcal other.trcal (omega arith) (omega arith) (field_at 2 (link_fields one) (link_fields other) same) in
    let pw = decimal_told one.pw other.pw (omega arith) (omega arith) (field_at 3 (link_fields one) (link_fields other) same) in
    let dr = bit_told one.dr other.dr (field_at 4 (link_fields one) (link_fields other) same) in
    let code = code_told one.code other.code (field_at 5 (link_fields one) (link_fields other) same) in
    let trext = bit_told one.trext other.trext (field_at 6 (link_fields one) (link_fields other) same) in
    let whole : ◌≡◌ {A = LinkValue} (record {
      tari = one.tari;
      rtcal = one.rtcal;
      trcal = one.trcal;
      pw = one.pw;
      dr = one.dr;
      code = one.code;
      trext = one.trext;
    }) other = rw (tari, rtcal, trcal, pw, dr, code, trext) refl in
    whole

tag_told : (one other : TagSpec) → IsTagForm one → IsTagForm other → tag_spec_fields one ≡ tag_spec_fields other → one ≡ other
tag_told one other form form' same =
    let are = tag_fields_are (tag_spec_fields one) other same in
    same_tag one other (record {
      kill = password_told one.image.kill other.image.kill form.kill form'.kill are.kill_is;
      access = password_told one.image.access other.image.access form.access form'.access are.access_is;
      locks = locks_told one.locks other.locks are.locks_is;
      epc = hex_words_told one.image.epc other.image.epc form.epc.small form'.epc.small are.epc_is;
      tid = hex_words_told one.image.tid other.image.tid form.tid.small form'.tid.small are.tid_is;
      user = hex_words_told one.image.user other.image.user form.user.small form'.user.small are.user_is;
      words = hex_words_told one.words other.words form.words.small form'.words.small are.words_is;
    })

-- the event of a kind, and the number of its tag
event_told : (one other : Event) (tag tag' : ℕ) → IsEvent one tag → IsEvent other tag' → event_kind one ≡ event_kind other
    → event_fields one tag ≡ event_fields other tag' → (one ≡ other) × (tag ≡ tag')
event_told events.Timeout events.Timeout tag tag' is is' kind same = (refl, place_told tag tag' [] [] (omega (arith, is.place)) (omega (arith, is'.place)) same)
event_told events.Off events.Off tag tag' is is' kind same = (refl, place_told tag tag' [] [] (omega (arith, is.place)) (omega (arith, is'.place)) same)
event_told events.On events.On tag tag' is is' kind same = (refl, place_told tag tag' [] [] (omega (arith, is.place)) (omega (arith, is'.place)) same)
event_told (events.Expire flag) (events.Expire flag') tag tag' is is' kind same =
    let fields = same_fields (flag_word flag) (flag_word flag') (decimal tag ∷ []) (decimal tag' ∷ []) same in (
      ap events.Expire (flag_told flag flag' fields.0),
      place_told tag tag' [] [] (omega (arith, is.place)) (omega (arith, is'.place)) fields.1,
    )
event_told one other tag tag' is is' kind same = cc

happening_told : (one other : Happening) → IsHappening one → IsHappening other → air_kind one ≡ air_kind other
    → happening_fields one ≡ happening_fields other → one ≡ other
happening_told (happenings.Event event tag) (happenings.Event event' tag') is is' kind same =
    let kinds : event_kind event ≡ event_kind event' = cc in
    let both = event_told event event' tag tag' is is' kinds same in
    let events_same = both.0 in
    let tags_same = both.1 in
    cc
happening_told (happenings.Miss tag) (happenings.Miss tag') is is' kind same =
    ap happenings.Miss (place_told tag tag' [] [] (omega (arith, is)) (omega (arith, is')) same)
happening_told (happenings.Choice (choices.Pick reply)) (happenings.Choice (choices.Pick reply')) is is' kind same =
    ap (λ n. happenings.Choice (choices.Pick n)) (place_told reply reply' [] [] (omega (arith, is)) (omega (arith, is')) same)
happening_told (happenings.Choice choices.Silent) (happenings.Choice choices.Silent) is is' kind same = refl
happening_told (happenings.Choice (choices.Break place)) (happenings.Choice (choices.Break place')) is is' kind same =
    ap (λ n. happenings.Choice (choices.Break n)) (place_told place place' [] [] (omega (arith, is)) (omega (arith, is')) same)
happening_told (happenings.Choice (choices.Raw levels)) (happenings.Choice (choices.Raw levels')) is is' kind same =
    ap (λ list. happenings.Choice (choices.Raw list)) (binary_told levels levels' (same_fields (binary levels) (binary levels') [] [] same).0)
happening_told one (happenings.Choice choices.Silent) is is' kind same = cc
happening_told one other is is' kind same = cc

selection_told : (one other : Selection) → IsSelection one → IsSelection other → select_fields one ≡ select_fields other → one ≡ other
selection_told one other is is' same =
    let target = flag_told one.target other.target (field_at 0 (select_fields one) (select_fields other) same) in
    let action = decimal_told one.action other.action (omega arith) (omega arith) (field_at 1 (select_fields one) (select_fields other) same) in
    let bank = mask_bank_told one.bank other.bank (field_at 2 (select_fields one) (select_fields other) same) in
    let pointer = decimal_told one.pointer other.pointer (omega arith) (omega arith) (field_at 3 (select_fields one) (select_fields other) same) in
    let mask = binary_told one.mask other.mask (field_at 4 (select_fields one) (select_fields other) same) in
    let whole : ◌≡◌ {A = Selection} (record {
      target = one.target;
      action = one.action;
      bank = one.bank;
      pointer = one.pointer;
      mask = one.mask;
    }) other = rw (target, action, bank, pointer, mask) refl in
    whole

round_told : (version version' : Version) (one other : SpecValue) → IsRound version one → IsRound version' other
    → round_fields version one ≡ round_fields version' other → (version ≡ version') × (one ≡ other)
round_told version version' one other is is' same =
    let sel = sel_told one.sel other.sel (field_at 0 (round_fields version one) (round_fields version' other) same) in
    let session = decimal_told one.session other.session (omega (arith, is.legal.session)) (omega (arith, is'.legal.session))
    (field_at 1 (round_fields version one) (round_fields version' other) same) in
    let target = side_told one.target other.target (field_at 2 (round_fields version one) (round_fields version' other) same) in
    let q = decimal_told one.q other.q (omega (arith, is.legal.q)) (omega (arith, is'.legal.q))
    (field_at 3 (round_fields version one) (round_fields version' other) same) in
    let rule = rule_told version version' one.rule other.rule is.legal.rule is'.legal.rule is.spelled is'.spelled
    (field_at 4 (round_fields version one) (round_fields version' other) same) in
    let limit = decimal_told one.limit other.limit (omega (arith, is.legal.limit)) (omega (arith, is'.legal.limit))
    (field_at 5 (round_fields version one) (round_fields version' other) same) in
    let whole : ◌≡◌ {A = SpecValue} (record {
      sel = one.sel;
      session = one.session;
      target = one.target;
      q = one.q;
      rule = one.rule;
      limit = one.limit;
    }) other = rw (sel, session, target, q, rule.1, limit) refl in
    (rule.0, whole)

pub op_told : (one other : Op) → IsLegalOp one → IsLegalOp other → op_kind one ≡ op_kind other → op_fields one ≡ op_fields other → one ≡ other
op_told (ops.Read bank pointer count) (ops.Read bank' pointer' count') is is' kind same =
    let banks = bank_told bank bank' (field_at 0 (op_fields (ops.Read bank pointer count)) (op_fields (ops.Read bank' pointer' count')) same) in
    let pointers = decimal_told pointer pointer' (omega (arith, is.0)) (omega (arith, is'.0)) (field_at 1 (op_fields (ops.Read bank pointer count)) (op_fields (ops.Read bank' pointer' count')) same) in
    let counts = decimal_told count count' (omega (arith, is.1)) (omega (arith, is'.1)) (field_at 2 (op_fields (ops.Read bank pointer count)) (op_fields (ops.Read bank' pointer' count')) same) in
    cc
op_told (ops.Write bank pointer word) (ops.Write bank' pointer' word') is is' kind same =
    let banks = bank_told bank bank' (field_at 0 (op_fields (ops.Write bank pointer word)) (op_fields (ops.Write bank' pointer' word')) same) in
    let pointers = decimal_told pointer pointer' (omega (arith, is.0)) (omega (arith, is'.0)) (field_at 1 (op_fields (ops.Write bank pointer word)) (op_fields (ops.Write bank' pointer' word')) same) in
    let words_same = hex_word_told word word' is.1 is'.1 (field_at 2 (op_fields (ops.Write bank pointer word)) (op_fields (ops.Write bank' pointer' word')) same) in
    cc
op_told (ops.BlockWrite bank pointer block) (ops.BlockWrite bank' pointer' block') is is' kind same =
    let banks = bank_told bank bank' (field_at 0 (op_fields (ops.BlockWrite bank pointer block)) (op_fields (ops.BlockWrite bank' pointer' block')) same) in
    let pointers = decimal_told pointer pointer' (omega (arith, is.0)) (omega (arith, is'.0)) (field_at 1 (op_fields (ops.BlockWrite bank pointer block)) (op_fields (ops.BlockWrite bank' pointer' block')) same) in
    let blocks = hex_words_told block block' (list_of_block block (is.1, is.2, is.3)).small (list_of_block block' (is'.1, is'.2, is'.3)).small (field_at 2 (op_fields (ops.BlockWrite bank pointer block)) (op_fields (ops.BlockWrite bank' pointer' block')) same) in
    cc
op_told (ops.BlockErase bank pointer count) (ops.BlockErase bank' pointer' count') is is' kind same =
    let banks = bank_told bank bank' (field_at 0 (op_fields (ops.BlockErase bank pointer count)) (op_fields (ops.BlockErase bank' pointer' count')) same) in
    let pointers = decimal_told pointer pointer' (omega (arith, is.0)) (omega (arith, is'.0)) (field_at 1 (op_fields (ops.BlockErase bank pointer count)) (op_fields (ops.BlockErase bank' pointer' count')) same) in
    let counts = decimal_told count count' (omega (arith, is.2)) (omega (arith, is'.2)) (field_at 2 (op_fields (ops.BlockErase bank pointer count)) (op_fields (ops.BlockErase bank' pointer' count')) same) in
    cc
op_told (ops.Lock payload) (ops.Lock payload') is is' kind same =
    ap ops.Lock (payload_told payload payload' (omega (arith, is)) (omega (arith, is')) (same_fields (payload_digits payload) (payload_digits payload') [] [] same).0)
op_told (ops.Access password) (ops.Access password') is is' kind same =
    ap ops.Access (password_told password password' is is' (same_fields (password_text password) (password_text password') [] [] same).0)
op_told (ops.Kill password) (ops.Kill password') is is' kind same =
    ap ops.Kill (password_told password password' is is' (same_fields (password_text password) (password_text password') [] [] same).0)
op_told one other is is' kind same = cc

-- the fields behind one keyword spell at most one line
behind_told : (one other : Line) → HasForm one → HasForm other → keyword_of one ≡ keyword_of other → other_fields one ≡ other_fields other → one ≡ other
behind_told (lines.Version version) (lines.Version version') form form' keyword same =
    ap lines.Version (version_told version version' (same_fields (version_digit version) (version_digit version') [] [] same).0)
behind_told (lines.Link link) (lines.Link link') form form' keyword same = ap lines.Link (link_told link link' form form' same)
behind_told (lines.Default several) (lines.Default several') form form' keyword same =
    ap lines.Default (several_told several several' (same_fields (several_text several) (several_text several') [] [] same).0)
behind_told (lines.Tag tag) (lines.Tag tag') form form' keyword same = ap lines.Tag (tag_told tag tag' form form' same)
behind_told (lines.Copies count tag) (lines.Copies count' tag') form form' keyword same =
    let fields = same_fields (decimal count) (decimal count') (tag_spec_fields tag) (tag_spec_fields tag') same in
    let counts = decimal_told count count' (omega (arith, form.0.1)) (omega (arith, form'.0.1)) fields.0 in
    let tags = tag_told tag tag' form.1 form'.1 fields.1 in
    cc
behind_told (lines.Air exchange happening) (lines.Air exchange' happening') form form' keyword same =
    let first = same_fields (decimal exchange) (decimal exchange') (air_word (air_kind happening) ∷ happening_fields happening)
    (air_word (air_kind happening') ∷ happening_fields happening') same in
    let second = same_fields (air_word (air_kind happening)) (air_word (air_kind happening')) (happening_fields happening) (happening_fields happening') first.1 in
    let exchanges = decimal_told exchange exchange' (omega (arith, form.0.1)) (omega (arith, form'.0.1)) first.0 in
    let happenings_same = happening_told happening happening' form.1 form'.1 (air_word_told (air_kind happening) (air_kind happening') second.0) second.1 in
    cc
behind_told (lines.Select selection) (lines.Select selection') form form' keyword same =
    ap lines.Select (selection_told selection selection' form form' same)
behind_told lines.Nak lines.Nak form form' keyword same = refl
behind_told (lines.Event event tag) (lines.Event event' tag') form form' keyword same =
    let fields = same_fields (event_word (event_kind event)) (event_word (event_kind event')) (event_fields event tag) (event_fields event' tag') same in
    let both = event_told event event' tag tag' form form' (event_word_told (event_kind event) (event_kind event') fields.0) fields.1 in
    let events_same = both.0 in
    let tags_same = both.1 in
    cc
behind_told (lines.Round version spec) (lines.Round version' spec') form form' keyword same =
    let both = round_told version version' spec spec' form form' same in
    let versions = both.0 in
    let specs = both.1 in
    cc
behind_told (lines.Only epc) (lines.Only epc') form form' keyword same =
    ap lines.Only (hex_words_told epc epc' form.small form'.small (same_fields (hex_words epc) (hex_words epc') [] [] same).0)
behind_told (lines.Op op) (lines.Op op') form form' keyword same =
    let fields = same_fields (op_word (op_kind op)) (op_word (op_kind op')) (op_fields op) (op_fields op') same in
    ap lines.Op (op_told op op' form form' (op_word_told (op_kind op) (op_kind op') fields.0) fields.1)
behind_told lines.End lines.End form form' keyword same = refl
behind_told one other form form' keyword same = cc

-- two lines whose fields are of their forms are not spelled alike, even where the fields of one don't agree with one another
pub line_told : (one other : Line) → HasForm one → HasForm other → line_fields one ≡ line_fields other → one ≡ other
line_told one other form form' same =
    let fields = same_fields (keyword_text (keyword_of one)) (keyword_text (keyword_of other)) (other_fields one) (other_fields other) same in
    behind_told one other form form' (keyword_told (keyword_of one) (keyword_of other) fields.0) fields.1

pub spelled_told : (fields : List (List ℕ)) (one other : Line) → SpellsLine fields one → SpellsLine fields other → one ≡ other
spelled_told fields one other spells spells' = line_told one other spells.is.form spells'.is.form (sym spells.spelling ∙ spells'.spelling)
