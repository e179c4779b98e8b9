-- The fields of a line are each of their form and range, or they are of no line's.
use Rattle.std.proofs.Common.{◌≡◌, ◌≢◌, ◌<◌, ◌≤◌, ◌^◌, ℕ, Bool, List, [], ◌∷◌, refl, sym, ◌∙◌, ap, ap₂, subst, inl, inr, arith}
use Rattle.std.specs.Fmt.{decimal}
use Rattle.text_fields.specs.Binary.{binary}
use Rattle.text_fields.specs.Hexadecimal.{hex_word, hex_words}
use Rattle.wire_text.specs.CommandText.{bank_word, flag_word, payload_digits}
use Rattle.command_fields.specs.declared.choices.Bank.{Bank}
use Rattle.access_ops.specs.declared.Op.{Op}
use Rattle.access_ops.specs.declared.Op.TheVariants as ops
use Rattle.access_ops.specs.laws.OperationLaws.{IsLegalOp}
use Rattle.air_events.specs.declared.Event.{Event}
use Rattle.air_events.specs.declared.Event.TheVariants as events
use Rattle.air_events.specs.declared.Choice.TheVariants as choices
use Rattle.air_events.specs.Streams.{HasStreamLength, longest_stream}
use Rattle.command_fields.specs.declared.choices.FlagName.{FlagName}
use Rattle.command_fields.specs.declared.choices.FlagName.TheVariants as flags
use Rattle.scenario_lines.specs.declared.keywords.EventKind.{EventKind}
use Rattle.scenario_lines.specs.declared.keywords.EventKind.TheVariants as event_kinds
use Rattle.scenario_lines.specs.declared.keywords.OpKind.{OpKind}
use Rattle.scenario_lines.specs.declared.keywords.OpKind.TheVariants as op_kinds
use Rattle.scenario_lines.specs.declared.keywords.AirKind.{AirKind}
use Rattle.scenario_lines.specs.declared.keywords.AirKind.TheVariants as airs
use Rattle.scenario_lines.specs.declared.keywords.Keyword.{Keyword}
use Rattle.scenario_lines.specs.declared.keywords.Keyword.TheVariants as keywords
use Rattle.air_events.specs.TagNumbers.{most_tags}
use Rattle.q_round.specs.SpecValue.{SpecValue}
use Rattle.scenario_lines.specs.declared.version.Version.{Version}
use Rattle.scenario_lines.specs.declared.line.Happening.{Happening}
use Rattle.scenario_lines.specs.declared.line.Happening.TheVariants as happenings
use Rattle.scenario_lines.specs.declared.line.Line.{Line}
use Rattle.scenario_lines.specs.declared.line.Line.TheVariants as lines
use Rattle.scenario_lines.specs.Names.{air_found, air_kind, air_word, all_air_kinds, all_op_kinds, event_word, op_found, op_kind, op_word, several_text, version_digit}
use Rattle.text_fields.specs.NamedFields.{SpellBehind, Vocabulary, spelled_fields}
use Rattle.text_fields.specs.WordLists.{IsWordList}
use Rattle.wire_text.specs.PasswordsAndLocks.{password_text}
use Rattle.scenario_lines.specs.TagForm.{IsTagForm, tag_spec_of}
use Rattle.scenario_lines.specs.LineForm.{HasForm, IsEvent, IsHappening, IsLinkForm, IsPlace, IsRound, IsSelection, most_level, most_nanoseconds}
use Rattle.scenario_lines.specs.Spelling.{air_vocabulary, event_vocabulary, happening_fields, link_fields, op_fields, op_vocabulary, other_fields, round_fields, select_fields, tag_spec_fields, keyword_of}
use Rattle.scenario_lines.specs.Reading.{IsEventText, IsHappeningText, IsOpText}
use Rattle.scenario_lines.proofs.Decisions.{Any, Decided, EachDecided, Spelled, behind_decided as then, nothing_decided, only_decided, same_answer, text_decided}
use Rattle.scenario_lines.proofs.KindsDecided.{Both, by_kind, nothing, with}
use Rattle.scenario_lines.proofs.FieldsDecided.{IsLasting, IsWithin, any_bank_decided, bank_decided, bit_decided, bits_decided, code_decided, decimal_decided, flag_decided, lasting_decided, locks_decided, named_decided, password_decided, payload_decided, rule_decided, sel_decided, several_decided, side_decided, version_decided, word_decided, words_decided}
use Rattle.scenario_lines.proofs.ToldLines.{same_fields}
use Rattle.scenario_lines.proofs.ToldNames.{air_word_told, all_event_kinds, event_found, event_word_told, op_word_told}
use Rattle.wire_text.proofs.CommandsToldApart.{block_of_list, list_of_block}

-- one word alone
abbrev the : List ℕ → Unit {0} → List ℕ
the word any = word

-- a whole list of fields is of its form and range, or is not
abbrev FieldsDecided : {V : Type 0} → (V → List (List ℕ)) → (V → Type 0) → Type 0
FieldsDecided fields May = EachDecided fields May

end : FieldsDecided nothing Any
end = nothing_decided

-- whether behind the name of a kind fields spell a value of it
abbrev BehindDecided : {K V : Type 0} → Vocabulary K V → (V → Type 0) → Type 0
BehindDecided words May = (kind : _) (fields : List (List ℕ)) → Decided ((value : _) × SpellBehind words May kind fields value)

-- the name of a kind, and behind it the fields of a value of this kind
behind_kind_decided : {K V : Type 0} (words : Vocabulary K V) (May : V → Type 0) → ((one other : K) → words.name one ≡ words.name other → one ≡ other)
    → EachDecided words.name Any → BehindDecided words May → FieldsDecided (spelled_fields words) May
behind_kind_decided words May told kind_decided behind [] = inr (λ some. let same = some.2 in cc)
behind_kind_decided words May told kind_decided behind (field ∷ fields) = elim (kind_decided field) [
  | inl known ↦ elim (behind known.0 fields) [
    | inl found ↦ inl (found.0, found.1.in_range, ap₂ (λ x xs. x ∷ xs) (known.2 ∙ ap words.name (sym found.1.same_kind)) found.1.spelling)
    | inr never ↦ inr (λ some.
        let same = same_fields field (words.name (words.kind some.0)) fields (words.others some.0) some.2 in
        never (some.0, record { same_kind = told (words.kind some.0) known.0 (sym same.0 ∙ known.2); in_range = some.1; spelling = same.1 }))
  ]
  | inr unknown ↦ inr (λ some.
      unknown (words.kind some.0, tt, (same_fields field (words.name (words.kind some.0)) fields (words.others some.0) some.2).0))
]

word : (text : List ℕ) → (field : List ℕ) → Decided (Spelled (the text) Any field)
word text = only_decided text_decided text

number : (least most : ℕ) → (field : List ℕ) → Decided (Spelled decimal (IsWithin least most) field)
number = decimal_decided

-- the same lists of fields, by other names: each value of the one spelling has one of the other
record Renames {V W : Type 0} (fields : V → List (List ℕ)) (May : V → Type 0) (others : W → List (List ℕ)) (Might : W → Type 0) : Type 0 where
  pub to : V → W
  pub there : (value : V) → May value → Might (to value) × (fields value ≡ others (to value))
  pub from : W → V
  pub back : (value : W) → Might value → May (from value) × (others value ≡ fields (from value))

named : {V W : Type 0} {fields : V → List (List ℕ)} {May : V → Type 0} {others : W → List (List ℕ)} {Might : W → Type 0} → FieldsDecided fields May
    → Renames fields May others Might → FieldsDecided others Might
named decided by texts =
    same_answer (λ found. let both = by.there found.0 found.1 in (by.to found.0, both.0, found.2 ∙ both.1))
    (λ found. let both = by.back found.0 found.1 in (by.from found.0, both.0, found.2 ∙ both.1)) (decided texts)

link_decided : FieldsDecided link_fields IsLinkForm
link_decided =
    named
    (then (number 0 most_nanoseconds) (then (number 0 most_nanoseconds) (then (number 0 most_nanoseconds) (then (number 0 most_nanoseconds)
    (then bit_decided (then code_decided (then bit_decided end)))))))
    (record {
      to = λ v. record { tari = v.0; rtcal = v.1.0; trcal = v.1.1.0; pw = v.1.1.1.0; dr = v.1.1.1.1.0; code = v.1.1.1.1.1.0; trext = v.1.1.1.1.1.1.0 };
      there = λ v may. (record { tari = may.0.1; rtcal = may.1.0.1; trcal = may.1.1.0.1; pw = may.1.1.1.0.1 }, refl);
      from = λ link. (link.tari, (link.rtcal, (link.trcal, (link.pw, (link.dr, (link.code, (link.trext, tt)))))));
      back = λ link form. (((omega arith, form.tari), ((omega arith, form.rtcal), ((omega arith, form.trcal), ((omega arith, form.pw), (tt, (tt, (tt, tt))))))), refl);
    })

tag_decided : FieldsDecided tag_spec_fields IsTagForm
tag_decided =
    named
    (then password_decided (then password_decided (then locks_decided (then (words_decided 1 32) (then (words_decided 2 16)
    (then (words_decided 0 512) (then (words_decided 1 256) end)))))))
    (record {
      to = λ v. tag_spec_of v.0 v.1.0 v.1.1.0 v.1.1.1.0 v.1.1.1.1.0 v.1.1.1.1.1.0 v.1.1.1.1.1.1.0;
      there = λ v may. (
        record {
          kill = may.0;
          access = may.1.0;
          epc = may.1.1.1.0;
          tid = may.1.1.1.1.0;
          user = may.1.1.1.1.1.0;
          words = may.1.1.1.1.1.1.0;
        },
        refl,
      );
      from = λ tag. (tag.image.kill, (tag.image.access, (tag.locks, (tag.image.epc, (tag.image.tid, (tag.image.user, (tag.words, tt)))))));
      back = λ tag form. ((form.kill, (form.access, (tt, (form.epc, (form.tid, (form.user, (form.words, tt))))))), refl);
    })

select_decided : FieldsDecided select_fields IsSelection
select_decided =
    named (then flag_decided (then (number 0 7) (then bank_decided (then (number 0 268435455) (then (bits_decided 0 255) end)))))
    (record {
      to = λ v. record { target = v.0; action = v.1.0; bank = v.1.1.0; pointer = v.1.1.1.0; mask = v.1.1.1.1.0 };
      there = λ v may. (record { action = may.1.0.1; pointer = may.1.1.1.0.1; mask = may.1.1.1.1.0.1 }, refl);
      from = λ selection. (selection.target, (selection.action, (selection.bank, (selection.pointer, (selection.mask, tt)))));
      back = λ selection form. ((tt, ((omega arith, form.action), (tt, ((omega arith, form.pointer), ((omega arith, form.mask), tt))))), refl);
    })

-- how many tags, and the tag of which they are copies
copies_decided : FieldsDecided (with decimal tag_spec_fields) (Both (IsWithin 2 most_tags) IsTagForm)
copies_decided = then (number 2 most_tags) tag_decided

-- the parameters of a round, and the version that spells its rule so
abbrev round_text : Version × SpecValue → List (List ℕ)
round_text round = round_fields round.0 round.1

round_decided : FieldsDecided round_text (λ round. IsRound round.0 round.1)
round_decided =
    named (then sel_decided (then (number 0 3) (then side_decided (then (number 0 15) (then rule_decided (then (number 1 70000) end))))))
    (record {
      to = λ v. (
        v.1.1.1.1.0.0,
        record { sel = v.0; session = v.1.0; target = v.1.1.0; q = v.1.1.1.0; rule = v.1.1.1.1.0.1; limit = v.1.1.1.1.1.0 },
      );
      there = λ v may. (
        record {
          legal = record { session = may.1.0.1; q = may.1.1.1.0.1; rule = may.1.1.1.1.0.0; limit = may.1.1.1.1.1.0 };
          named = may.0;
          spelled = may.1.1.1.1.0.1;
        },
        refl,
      );
      from = λ round. let spec = round.1 in (spec.sel, (spec.session, (spec.target, (spec.q, ((round.0, spec.rule), (spec.limit, tt))))));
      back = λ round is.
          let legal = is.legal in
          ((is.named, ((omega arith, legal.session), (tt, ((omega arith, legal.q), ((legal.rule, is.spelled), (legal.limit, tt)))))), refl);
    })

-- the kind of an event, and that of an air line
pub event_kind_decided : (field : List ℕ) → Decided (Spelled event_word Any field)
event_kind_decided = named_decided event_word all_event_kinds event_found

pub air_kind_decided : (field : List ℕ) → Decided (Spelled air_word Any field)
air_kind_decided = named_decided air_word all_air_kinds air_found

-- one number
one_number : (most : ℕ) → FieldsDecided (λ (n : ℕ). decimal n ∷ []) (λ n. n ≤ most)
one_number most =
    named (then (number 0 most) end)
    (record { to = λ v. v.0; there = λ v may. (may.0.1, refl); from = λ n. (n, tt); back = λ n is. (((omega arith, is), tt), refl) })

one_place : FieldsDecided (λ (n : ℕ). decimal n ∷ []) IsPlace
one_place = one_number 4095

-- the levels of one stream
one_stream : FieldsDecided (λ (levels : List Bool). binary levels ∷ []) HasStreamLength
one_stream =
    named (then (bits_decided 1 longest_stream) end)
    (record { to = λ v. v.0; there = λ v may. (may.0, refl); from = λ levels. (levels, tt); back = λ levels is. ((is, tt), refl) })

-- what stands behind the kind of an event
abbrev HasEvent : EventKind → List (List ℕ) → Type 0
HasEvent kind fields = (event : Event × ℕ) × IsEventText kind fields event.0 event.1

place_behind : (kind : EventKind) (fields : List (List ℕ)) → kind ≢ event_kinds.Expire → (event : Event) (tag : ℕ) → IsEventText kind fields event tag
    → Spelled (λ (n : ℕ). decimal n ∷ []) IsPlace fields
place_behind kind fields other (events.Expire flag) tag text = absurd (other (sym text.same_kind))
place_behind kind fields other event tag text = (tag, text.in_range.place, text.spelling)

flag_behind : (fields : List (List ℕ)) (event : Event) (tag : ℕ) → IsEventText event_kinds.Expire fields event tag
    → Spelled (with flag_word (with decimal nothing)) (Both IsLasting (Both (IsWithin 0 4095) Any)) fields
flag_behind fields (events.Expire flag) tag text =
    ((flag, (tag, tt)), (λ same. text.in_range.expires (ap events.Expire same), ((omega arith, text.in_range.place), tt)), text.spelling)
flag_behind fields event tag text = let kind = text.same_kind in cc

same_flag : (flag other : FlagName) → events.Expire flag ≡ events.Expire other → flag ≡ other
same_flag flag other same = cc

event_behind : (kind : EventKind) (fields : List (List ℕ)) → Decided (HasEvent kind fields)
event_behind event_kinds.Timeout fields =
    same_answer (λ found. (
      (events.Timeout, found.0),
      record { same_kind = refl; spelling = found.2; in_range = record { expires = λ same. cc; place = found.1 } },
    )) (λ some. place_behind event_kinds.Timeout fields (λ same. cc) some.0.0 some.0.1 some.1) (one_place fields)
event_behind event_kinds.Off fields =
    same_answer (λ found. (
      (events.Off, found.0),
      record { same_kind = refl; spelling = found.2; in_range = record { expires = λ same. cc; place = found.1 } },
    )) (λ some. place_behind event_kinds.Off fields (λ same. cc) some.0.0 some.0.1 some.1) (one_place fields)
event_behind event_kinds.On fields =
    same_answer (λ found. (
      (events.On, found.0),
      record { same_kind = refl; spelling = found.2; in_range = record { expires = λ same. cc; place = found.1 } },
    )) (λ some. place_behind event_kinds.On fields (λ same. cc) some.0.0 some.0.1 some.1) (one_place fields)
event_behind event_kinds.Expire fields =
    same_answer (λ found. (
      (events.Expire found.0.0, found.0.1.0),
      record {
        same_kind = refl;
        spelling = found.2;
        in_range = record { expires = λ same. found.1.0 (same_flag found.0.0 flags.S0 same); place = found.1.1.0.1 };
      },
    )) (λ some. flag_behind fields some.0.0 some.0.1 some.1) (then lasting_decided (then (number 0 4095) end) fields)

event_decided : FieldsDecided (spelled_fields event_vocabulary) (λ event. IsEvent event.0 event.1)
event_decided = behind_kind_decided event_vocabulary (λ event. IsEvent event.0 event.1) event_word_told event_kind_decided event_behind

pub op_kind_decided : (field : List ℕ) → Decided (Spelled op_word Any field)
op_kind_decided = named_decided op_word all_op_kinds op_found

-- what stands behind the kind of an operation
abbrev HasOp : OpKind → List (List ℕ) → Type 0
HasOp kind fields = (op : Op) × IsOpText kind fields op

-- the fields of an operation at a place, whose last field is spelled so
abbrev placed : {V : Type 0} → (V → List ℕ) → Bank × (ℕ × (V × Unit {0})) → List (List ℕ)
placed last = with bank_word (with decimal (with last nothing))

abbrev IsPlaced : {V : Type 0} → (V → Type 0) → Bank × (ℕ × (V × Unit {0})) → Type 0
IsPlaced May = Both Any (Both (IsWithin 0 268435455) (Both May Any))

at_place : {V : Type 0} {last : V → List ℕ} {May : V → Type 0} → ((field : List ℕ) → Decided (Spelled last May field)) → FieldsDecided (placed last) (IsPlaced May)
at_place decided = then any_bank_decided (then (number 0 268435455) (then decided end))

-- behind each kind of an operation its fields are these
abbrev OpForms : OpKind → List (List ℕ) → Type 0
OpForms op_kinds.Read = Spelled (placed decimal) (IsPlaced (IsWithin 0 255))
OpForms op_kinds.Write = Spelled (placed hex_word) (IsPlaced (λ word. word < 2 ^ 16))
OpForms op_kinds.BlockWrite = Spelled (placed hex_words) (IsPlaced (IsWordList 1 255))
OpForms op_kinds.BlockErase = Spelled (placed decimal) (IsPlaced (IsWithin 1 255))
OpForms op_kinds.Lock = Spelled (with payload_digits nothing) (Both (λ payload. payload < 1048576) Any)
OpForms op_kinds.Access = Spelled (with password_text nothing) (Both (λ password. password < 2 ^ 32) Any)
OpForms op_kinds.Kill = Spelled (with password_text nothing) (Both (λ password. password < 2 ^ 32) Any)

op_formed : (op : Op) (fields : List (List ℕ)) → IsLegalOp op → fields ≡ op_fields op → OpForms (op_kind op) fields
op_formed (ops.Read bank pointer count) fields legal is =
    ((bank, (pointer, (count, tt))), (tt, ((omega arith, omega (arith, legal.0)), ((omega arith, legal.1), tt))), is)
op_formed (ops.Write bank pointer word) fields legal is =
    ((bank, (pointer, (word, tt))), (tt, ((omega arith, omega (arith, legal.0)), (legal.1, tt))), is)
op_formed (ops.BlockWrite bank pointer block) fields legal is =
    ((bank, (pointer, (block, tt))), (tt, ((omega arith, omega (arith, legal.0)), (list_of_block block (legal.1, legal.2, legal.3), tt))), is)
op_formed (ops.BlockErase bank pointer count) fields legal is =
    ((bank, (pointer, (count, tt))), (tt, ((omega arith, omega (arith, legal.0)), ((legal.1, legal.2), tt))), is)
op_formed (ops.Lock payload) fields legal is = ((payload, tt), (omega (arith, legal), tt), is)
op_formed (ops.Access password) fields legal is = ((password, tt), (legal, tt), is)
op_formed (ops.Kill password) fields legal is = ((password, tt), (legal, tt), is)

op_there : (kind : OpKind) (fields : List (List ℕ)) → HasOp kind fields → OpForms kind fields
op_there = by_kind op_vocabulary IsLegalOp OpForms op_formed

op_behind : (kind : OpKind) (fields : List (List ℕ)) → Decided (HasOp kind fields)
op_behind op_kinds.Read fields =
    same_answer (λ found. (
      ops.Read found.0.0 found.0.1.0 found.0.1.1.0,
      record { same_kind = refl; spelling = found.2; in_range = (omega (arith, found.1.1.0.1), found.1.1.1.0.1) },
    )) (op_there op_kinds.Read fields) (at_place (number 0 255) fields)
op_behind op_kinds.Write fields =
    same_answer (λ found. (
      ops.Write found.0.0 found.0.1.0 found.0.1.1.0,
      record { same_kind = refl; spelling = found.2; in_range = (omega (arith, found.1.1.0.1), found.1.1.1.0) },
    )) (op_there op_kinds.Write fields) (at_place word_decided fields)
op_behind op_kinds.BlockWrite fields =
    same_answer (λ found. (
      ops.BlockWrite found.0.0 found.0.1.0 found.0.1.1.0,
      record {
        same_kind = refl;
        spelling = found.2;
        in_range =
            let block = block_of_list found.0.1.1.0 found.1.1.1.0 in
            (omega (arith, found.1.1.0.1), block.0, block.1, block.2);
      },
    )) (op_there op_kinds.BlockWrite fields) (at_place (words_decided 1 255) fields)
op_behind op_kinds.BlockErase fields =
    same_answer (λ found. (
      ops.BlockErase found.0.0 found.0.1.0 found.0.1.1.0,
      record { same_kind = refl; spelling = found.2; in_range = (omega (arith, found.1.1.0.1), found.1.1.1.0.0, found.1.1.1.0.1) },
    )) (op_there op_kinds.BlockErase fields) (at_place (number 1 255) fields)
op_behind op_kinds.Lock fields =
    same_answer (λ found. (ops.Lock found.0.0, record { same_kind = refl; spelling = found.2; in_range = omega (arith, found.1.0) })) (op_there op_kinds.Lock fields)
    (then payload_decided end fields)
op_behind op_kinds.Access fields =
    same_answer (λ found. (ops.Access found.0.0, record { same_kind = refl; spelling = found.2; in_range = found.1.0 })) (op_there op_kinds.Access fields)
    (then password_decided end fields)
op_behind op_kinds.Kill fields =
    same_answer (λ found. (ops.Kill found.0.0, record { same_kind = refl; spelling = found.2; in_range = found.1.0 })) (op_there op_kinds.Kill fields)
    (then password_decided end fields)

op_decided : FieldsDecided (spelled_fields op_vocabulary) IsLegalOp
op_decided = behind_kind_decided op_vocabulary IsLegalOp op_word_told op_kind_decided op_behind

-- what stands behind the kind of an air line
abbrev HasHappening : AirKind → List (List ℕ) → Type 0
HasHappening kind fields = (happening : Happening) × IsHappeningText kind fields happening

-- behind each kind of an air line its fields are these
abbrev HappeningForms : AirKind → List (List ℕ) → Type 0
HappeningForms (airs.Event kind) = HasEvent kind
HappeningForms airs.Miss = Spelled (λ (n : ℕ). decimal n ∷ []) IsPlace
HappeningForms airs.Pick = Spelled (λ (n : ℕ). decimal n ∷ []) IsPlace
HappeningForms airs.Silent = Spelled nothing Any
HappeningForms airs.Break = Spelled (λ (n : ℕ). decimal n ∷ []) (λ n. n ≤ most_level)
HappeningForms airs.Raw = Spelled (λ (levels : List Bool). binary levels ∷ []) HasStreamLength

happening_formed : (happening : Happening) (fields : List (List ℕ)) → IsHappening happening → fields ≡ happening_fields happening
    → HappeningForms (air_kind happening) fields
happening_formed (happenings.Event event tag) fields form is = ((event, tag), record { same_kind = refl; spelling = is; in_range = form })
happening_formed (happenings.Miss tag) fields form is = (tag, form, is)
happening_formed (happenings.Choice (choices.Pick reply)) fields form is = (reply, form, is)
happening_formed (happenings.Choice choices.Silent) fields form is = (tt, tt, is)
happening_formed (happenings.Choice (choices.Break place)) fields form is = (place, form, is)
happening_formed (happenings.Choice (choices.Raw levels)) fields form is = (levels, form, is)

happening_there : (kind : AirKind) (fields : List (List ℕ)) → HasHappening kind fields → HappeningForms kind fields
happening_there = by_kind air_vocabulary IsHappening HappeningForms happening_formed

happening_behind : (kind : AirKind) (fields : List (List ℕ)) → Decided (HasHappening kind fields)
happening_behind (airs.Event kind) fields =
    same_answer (λ found. (
      happenings.Event found.0.0 found.0.1,
      record { same_kind = ap airs.Event found.1.same_kind; spelling = found.1.spelling; in_range = found.1.in_range },
    )) (happening_there (airs.Event kind) fields) (event_behind kind fields)
happening_behind airs.Miss fields =
    same_answer (λ found. (happenings.Miss found.0, record { same_kind = refl; spelling = found.2; in_range = found.1 }))
    (happening_there airs.Miss fields) (one_place fields)
happening_behind airs.Pick fields =
    same_answer (λ found. (happenings.Choice (choices.Pick found.0), record { same_kind = refl; spelling = found.2; in_range = found.1 }))
    (happening_there airs.Pick fields) (one_place fields)
happening_behind airs.Silent fields =
    same_answer (λ found. (happenings.Choice choices.Silent, record { same_kind = refl; spelling = found.2; in_range = tt }))
    (happening_there airs.Silent fields) (end fields)
happening_behind airs.Break fields =
    same_answer (λ found. (happenings.Choice (choices.Break found.0), record { same_kind = refl; spelling = found.2; in_range = found.1 }))
    (happening_there airs.Break fields) (one_number most_level fields)
happening_behind airs.Raw fields =
    same_answer (λ found. (happenings.Choice (choices.Raw found.0), record { same_kind = refl; spelling = found.2; in_range = found.1 }))
    (happening_there airs.Raw fields) (one_stream fields)

happening_decided : FieldsDecided (spelled_fields air_vocabulary) IsHappening
happening_decided = behind_kind_decided air_vocabulary IsHappening air_word_told air_kind_decided happening_behind

air_decided : FieldsDecided (with decimal (spelled_fields air_vocabulary)) (Both (IsWithin 1 1000000) IsHappening)
air_decided = then (number 1 1000000) happening_decided

-- behind this first field the fields are of their forms
abbrev pub FormedBehind : Keyword → List (List ℕ) → Type 0
FormedBehind first others = (line : Line) × HasForm line × (keyword_of line ≡ first) × (others ≡ other_fields line)

-- behind each keyword the fields of a line are these
abbrev LineForms : Keyword → List (List ℕ) → Type 0
LineForms keywords.Version = Spelled (with version_digit nothing) (Both Any Any)
LineForms keywords.Link = Spelled link_fields IsLinkForm
LineForms keywords.Default = Spelled (with several_text nothing) (Both Any Any)
LineForms keywords.Copies = Spelled (with decimal tag_spec_fields) (Both (IsWithin 2 most_tags) IsTagForm)
LineForms keywords.Tag = Spelled tag_spec_fields IsTagForm
LineForms keywords.Air = Spelled (with decimal (spelled_fields air_vocabulary)) (Both (IsWithin 1 1000000) IsHappening)
LineForms keywords.Select = Spelled select_fields IsSelection
LineForms keywords.Nak = Spelled nothing Any
LineForms keywords.Event = Spelled (spelled_fields event_vocabulary) (λ event. IsEvent event.0 event.1)
LineForms keywords.Round = Spelled round_text (λ round. IsRound round.0 round.1)
LineForms keywords.Only = Spelled (with hex_words nothing) (Both (IsWordList 0 31) Any)
LineForms keywords.Op = Spelled (spelled_fields op_vocabulary) IsLegalOp
LineForms keywords.End = Spelled nothing Any

line_formed : (line : Line) (others : List (List ℕ)) → HasForm line → others ≡ other_fields line → LineForms (keyword_of line) others
line_formed (lines.Version version) others form is = ((version, tt), (tt, tt), is)
line_formed (lines.Link link) others form is = (link, form, is)
line_formed (lines.Default several) others form is = ((several, tt), (tt, tt), is)
line_formed (lines.Copies count tag) others form is = ((count, tag), form, is)
line_formed (lines.Tag tag) others form is = (tag, form, is)
line_formed (lines.Air exchange happening) others form is = ((exchange, happening), form, is)
line_formed (lines.Select selection) others form is = (selection, form, is)
line_formed lines.Nak others form is = (tt, tt, is)
line_formed (lines.Event event tag) others form is = ((event, tag), form, is)
line_formed (lines.Round version spec) others form is = ((version, spec), form, is)
line_formed (lines.Only epc) others form is = ((epc, tt), (form, tt), is)
line_formed (lines.Op op) others form is = (op, form, is)
line_formed lines.End others form is = (tt, tt, is)

line_there : (first : Keyword) (others : List (List ℕ)) → FormedBehind first others → LineForms first others
line_there first others (line, form, same, is) = subst (λ (keyword : Keyword). LineForms keyword others) same (line_formed line others form is)

-- fields behind a first field are of the forms of some line, or of none
pub formed_behind : (first : Keyword) (others : List (List ℕ)) → Decided (FormedBehind first others)
formed_behind keywords.Version others =
    same_answer (λ found. (lines.Version found.0.0, tt, refl, found.2)) (line_there keywords.Version others) (then version_decided end others)
formed_behind keywords.Link others = same_answer (λ found. (lines.Link found.0, found.1, refl, found.2)) (line_there keywords.Link others) (link_decided others)
formed_behind keywords.Default others =
    same_answer (λ found. (lines.Default found.0.0, tt, refl, found.2)) (line_there keywords.Default others) (then several_decided end others)
formed_behind keywords.Copies others =
    same_answer (λ found. (lines.Copies found.0.0 found.0.1, found.1, refl, found.2)) (line_there keywords.Copies others) (copies_decided others)
formed_behind keywords.Tag others = same_answer (λ found. (lines.Tag found.0, found.1, refl, found.2)) (line_there keywords.Tag others) (tag_decided others)
formed_behind keywords.Air others =
    same_answer (λ found. (lines.Air found.0.0 found.0.1, found.1, refl, found.2)) (line_there keywords.Air others) (air_decided others)
formed_behind keywords.Select others = same_answer (λ found. (lines.Select found.0, found.1, refl, found.2)) (line_there keywords.Select others) (select_decided others)
formed_behind keywords.Nak others = same_answer (λ found. (lines.Nak, tt, refl, found.2)) (line_there keywords.Nak others) (end others)
formed_behind keywords.Event others =
    same_answer (λ found. (lines.Event found.0.0 found.0.1, found.1, refl, found.2)) (line_there keywords.Event others) (event_decided others)
formed_behind keywords.Round others =
    same_answer (λ found. (lines.Round found.0.0 found.0.1, found.1, refl, found.2)) (line_there keywords.Round others) (round_decided others)
formed_behind keywords.Only others =
    same_answer (λ found. (lines.Only found.0.0, found.1.0, refl, found.2)) (line_there keywords.Only others) (then (words_decided 0 31) end others)
formed_behind keywords.Op others = same_answer (λ found. (lines.Op found.0, found.1, refl, found.2)) (line_there keywords.Op others) (op_decided others)
formed_behind keywords.End others = same_answer (λ found. (lines.End, tt, refl, found.2)) (line_there keywords.End others) (end others)
