-- A line of a log says something, or there is a reason for which it says nothing, wherever it stands.
use Rattle.std.proofs.Common.{◌≡◌, ◌⊎◌, ℕ, Bool, true, false, List, [], ◌∷◌, refl, sym, ap, subst, inl, inr, arith}
use Rattle.std.specs.Prelude.{Option, Some, None}
use Rattle.air_events.specs.declared.Event.{Event}
use Rattle.air_events.specs.declared.Event.TheVariants as events
use Rattle.command_fields.specs.declared.choices.FlagName.TheVariants.{S0}
use Rattle.command_grammar.specs.Commands.{IsLegalCommand}
use Rattle.wire_text.specs.CommandText.{commands, flag_word}
use Rattle.wire_text.specs.NameLists.{EachFound}
use Rattle.wire_text.proofs.CommandFieldTexts.{flag_is}
use Rattle.scenario_lines.proofs.ToldNames.{event_word_told}
use Rattle.text_fields.proofs.FilledFields.{none_filled, one_more}
use Rattle.log_judge.specs.Log.{Seen}
use Rattle.bench_lines.specs.ProbeLineFaults.{BeginsWithWord, IsFaultyProbeLine}
use Rattle.bench_lines.specs.ProbeLine.{IsProbeEvent, SpellsProbeLine, SpellsTag, line_word, probe_events}
use Rattle.bench_lines.specs.ProbeText.{BeginsAsTag, IsFaultyTagLine}
use Rattle.bench_lines.specs.Stimuli.{ProbeLine}
use Rattle.bench_lines.specs.Stimuli as said
use Rattle.bench_lines.specs.declared.probe_line.LineWord.{LineWord}
use Rattle.bench_lines.specs.declared.probe_line.LineWord.TheVariants as words
use Rattle.wire_text.specs.ReplyText.{IsReplyForm, replies}
use Rattle.scenario_lines.specs.Names.{keyword_text}
use Rattle.scenario_lines.specs.declared.keywords.EventKind.{EventKind}
use Rattle.scenario_lines.specs.declared.keywords.EventKind.TheVariants as kinds
use Rattle.scenario_lines.specs.declared.keywords.Keyword.TheVariants as keywords
use Rattle.scenario_lines.specs.declared.tag.TagSpec.{TagSpec}
use Rattle.scenario_lines.proofs.Decisions.{Any, Decided, Spelled, behind_decided as then, head_same, nothing_decided as end, same_answer, text_decided}
use Rattle.scenario_lines.proofs.FieldsDecided.{IsLasting, bits_decided, lasting_decided, named_decided}
use Rattle.scenario_lines.proofs.KindsDecided.{Both, by_kind, filled_decided, nothing, with}
use Rattle.scenario_lines.proofs.LinesDecided.{FormedBehind, event_kind_decided, formed_behind}
use Rattle.scenario_lines.specs.declared.line.Line.TheVariants as lines
use Rattle.tag_machine.specs.declared.any_tag.Answered.{Answered}
use Rattle.tag_machine.specs.declared.any_tag.Answered.TheVariants.{Silent, Plain, Extended}
use Rattle.tag_memory.specs.Image.{pc_fits}
use Rattle.checked_lines.specs.declared.fault.FaultReason.{FaultReason}
use Rattle.checked_lines.specs.declared.fault.FaultReason.TheVariants as faults
use Rattle.text_fields.specs.NamedFields.{AreFilled, SpellBehind}
use Rattle.text_fields.specs.declared.fields_fault.FieldsFault.{FieldsFault}
use Rattle.text_fields.specs.declared.fields_fault.FieldsFault.TheVariants.{Word, Shape, Number}
use Rattle.bench_lines.proofs.CommandsDecided.{commands_decided}
use Rattle.bench_lines.proofs.RepliesDecided.{replies_decided}
use Rattle.bench_lines.proofs.VocabularyDecided.{AreDecided, SpellOrAreFaulty, spell_or_are_faulty}
use Rattle.bench_lines.specs.SeenLine.{AreFaultySeen, SpellSeen, seen_mark_word}
use Rattle.bench_lines.proofs.LineTexts.{all_words, word_found}

-- an event: its kind, and the flag of an expiry
abbrev HasEvent : EventKind → List (List ℕ) → Type 0
HasEvent kind fields = (event : Event) × SpellBehind probe_events IsProbeEvent kind fields event

-- behind each kind its fields are these
abbrev Forms : EventKind → List (List ℕ) → Type 0
Forms kinds.Expire = Spelled (with flag_word nothing) (Both IsLasting Any)
Forms kind = Spelled nothing Any

formed : (event : Event) (fields : List (List ℕ)) → IsProbeEvent event → fields ≡ probe_events.others event → Forms (probe_events.kind event) fields
formed (events.Expire flag) fields lasting is = ((flag, tt), (λ same. lasting (ap events.Expire same), tt), is)
formed event fields lasting is = (tt, tt, is)

there_of : (kind : EventKind) (fields : List (List ℕ)) → HasEvent kind fields → Forms kind fields
there_of = by_kind probe_events IsProbeEvent Forms formed

same_flag : (flag other : _) → events.Expire flag ≡ events.Expire other → flag ≡ other
same_flag flag other same = cc

event_behind : (kind : EventKind) (fields : List (List ℕ)) → Decided (HasEvent kind fields)
event_behind kinds.Timeout fields =
    same_answer (λ found. (events.Timeout, record { same_kind = refl; in_range = λ same. cc; spelling = found.2 })) (there_of kinds.Timeout fields) (end fields)
event_behind kinds.Off fields = same_answer (λ found. (events.Off, record { same_kind = refl; in_range = λ same. cc; spelling = found.2 })) (there_of kinds.Off fields) (end fields)
event_behind kinds.On fields = same_answer (λ found. (events.On, record { same_kind = refl; in_range = λ same. cc; spelling = found.2 })) (there_of kinds.On fields) (end fields)
event_behind kinds.Expire fields =
    same_answer (λ found. (
      events.Expire found.0.0,
      record { same_kind = refl; in_range = λ same. found.1.0 (same_flag found.0.0 S0 same); spelling = found.2 },
    )) (there_of kinds.Expire fields) (then lasting_decided end fields)

-- behind the kind of an event stand as many fields as it has
event_filled : (event : Event) → AreFilled (probe_events.count (probe_events.kind event)) (probe_events.others event)
event_filled (events.Expire flag) = one_more 0 (flag_word flag) [] (flag_is flag).filled none_filled
event_filled event = none_filled

events_decided : AreDecided probe_events IsProbeEvent
events_decided = record { is = record { told = event_word_told; filled = λ event is. event_filled event }; names = event_kind_decided; behind = event_behind }

-- what a line of a probe does or is
abbrev pub SaysOrIsFaulty : List (List ℕ) → Type 0
SaysOrIsFaulty fields = ((line : ProbeLine) × SpellsProbeLine fields line) ⊎ ((fault : FieldsFault) × IsFaultyProbeLine fields fault)

bits_or_faulty : (others : List (List ℕ)) → SaysOrIsFaulty (line_word words.Bits ∷ others)
bits_or_faulty others =
    let begins : BeginsWithWord (line_word words.Bits ∷ others) words.Bits = record { others = others; first = refl } in
    elim (filled_decided 1 others) [
      | inr unfilled ↦ inr (Shape, inl (record { word = words.Bits; begins = begins; behind = unfilled }))
      | inl filled ↦ elim (then (bits_decided 0 8240) end others) [
        | inl found ↦ inl (
          said.Does (said.SendsBits found.0.0),
          record { spelling = ap (λ (rest : List (List ℕ)). line_word words.Bits ∷ rest) found.2; is = found.1.0.1 },
        )
        | inr never ↦ inr (
          Number,
          inl (record { word = words.Bits; begins = begins; behind = (filled, λ bits few is. never ((bits, tt), ((omega arith, few), tt), is)) }),
        )
      ]
    ]

event_or_faulty : (others : List (List ℕ)) → SpellOrAreFaulty probe_events IsProbeEvent others → SaysOrIsFaulty (line_word words.Event ∷ others)
event_or_faulty others (inl found) =
    inl (
      said.Does (said.Brings found.0),
      record { spelling = ap (λ (rest : List (List ℕ)). line_word words.Event ∷ rest) found.1.spelling; is = found.1.in_range },
    )
event_or_faulty others (inr faulty) =
    inr (faulty.0, inl (record { word = words.Event; begins = record { others = others; first = refl }; behind = faulty.1 }))

end_or_faulty : (others : List (List ℕ)) → SaysOrIsFaulty (line_word words.End ∷ others)
end_or_faulty [] = inl (said.End, record { spelling = refl; is = tt })
end_or_faulty (field ∷ others) =
    inr (Shape, inl (record { word = words.End; begins = record { others = field ∷ others; first = refl }; behind = λ same. cc }))

command_or_faulty : (fields : List (List ℕ)) → ((word : LineWord) → ¬ BeginsWithWord fields word) → SpellOrAreFaulty commands IsLegalCommand fields → SaysOrIsFaulty fields
command_or_faulty fields other (inl found) = inl (said.Does (said.SendsCommand found.0), record { spelling = found.1.spelling; is = found.1.in_range })
command_or_faulty fields other (inr faulty) = inr (faulty.0, inr (record { other = other; faulty = faulty.1 }))

worded_or_faulty : (word : LineWord) (others : List (List ℕ)) → SaysOrIsFaulty (line_word word ∷ others)
worded_or_faulty words.Bits others = bits_or_faulty others
worded_or_faulty words.Event others = event_or_faulty others (spell_or_are_faulty probe_events IsProbeEvent events_decided others)
worded_or_faulty words.End others = end_or_faulty others

pub says_or_is_faulty : (fields : List (List ℕ)) → SaysOrIsFaulty fields
says_or_is_faulty [] =
    command_or_faulty [] (λ word begins. let same = begins.first in cc) (spell_or_are_faulty commands IsLegalCommand commands_decided [])
says_or_is_faulty (first ∷ others) = elim (named_decided line_word all_words word_found first) [
  | inl found ↦ subst (λ (field : List ℕ). SaysOrIsFaulty (field ∷ others)) (sym found.2) (worded_or_faulty found.0 others)
  | inr none ↦ command_or_faulty (first ∷ others)
      (λ word begins. none (word, tt, head_same first (line_word word) others begins.others begins.first))
      (spell_or_are_faulty commands IsLegalCommand commands_decided (first ∷ others))
]

-- what an answer line does or is, behind its first field
abbrev pub TellsOrIsFaulty : List (List ℕ) → Type 0
TellsOrIsFaulty others = ((seen : Option Seen) × SpellSeen others seen) ⊎ ((fault : FieldsFault) × AreFaultySeen others fault)

silent_or_faulty : (behind : List (List ℕ)) → TellsOrIsFaulty (seen_mark_word Silent ∷ behind)
silent_or_faulty [] = inl (None, record { spelling = refl; is = tt })
silent_or_faulty (field ∷ behind) =
    inr (Shape, inl (record { mark = Silent; behind = field ∷ behind; marked = refl; faulty = λ same. cc }))

plain_or_faulty : (behind : List (List ℕ)) → SpellOrAreFaulty replies IsReplyForm behind → TellsOrIsFaulty (seen_mark_word Plain ∷ behind)
plain_or_faulty behind (inl found) =
    inl (
      Some (record { reply = found.0; extended = false }),
      record { spelling = ap (λ (rest : List (List ℕ)). seen_mark_word Plain ∷ rest) found.1.spelling; is = found.1.in_range },
    )
plain_or_faulty behind (inr faulty) = inr (faulty.0, inl (record { mark = Plain; behind = behind; marked = refl; faulty = faulty.1 }))

extended_or_faulty : (behind : List (List ℕ)) → SpellOrAreFaulty replies IsReplyForm behind → TellsOrIsFaulty (seen_mark_word Extended ∷ behind)
extended_or_faulty behind (inl found) =
    inl (
      Some (record { reply = found.0; extended = true }),
      record { spelling = ap (λ (rest : List (List ℕ)). seen_mark_word Extended ∷ rest) found.1.spelling; is = found.1.in_range },
    )
extended_or_faulty behind (inr faulty) = inr (faulty.0, inl (record { mark = Extended; behind = behind; marked = refl; faulty = faulty.1 }))

marked_or_faulty : (mark : Answered) (behind : List (List ℕ)) → TellsOrIsFaulty (seen_mark_word mark ∷ behind)
marked_or_faulty Silent behind = silent_or_faulty behind
marked_or_faulty Plain behind = plain_or_faulty behind (spell_or_are_faulty replies IsReplyForm replies_decided behind)
marked_or_faulty Extended behind = extended_or_faulty behind (spell_or_are_faulty replies IsReplyForm replies_decided behind)

abbrev all_marks : List Answered
all_marks = Silent ∷ Plain ∷ Extended ∷ []

mark_found : EachFound seen_mark_word all_marks
mark_found Silent = refl
mark_found mark = refl

pub tells_or_is_faulty : (others : List (List ℕ)) → TellsOrIsFaulty others
tells_or_is_faulty [] = inr (Shape, inr (inr (refl, refl)))
tells_or_is_faulty (first ∷ behind) = elim (named_decided seen_mark_word all_marks mark_found first) [
  | inl found ↦ subst (λ (field : List ℕ). TellsOrIsFaulty (field ∷ behind)) (sym found.2) (marked_or_faulty found.0 behind)
  | inr none ↦ inr (Word, inr (inl (refl, λ mark is. none (mark, tt, is))))
]

-- what a tag line does or is
abbrev pub TellsTagOrIsFaulty : List (List ℕ) → Type 0
TellsTagOrIsFaulty fields = ((tag : TagSpec) × SpellsTag fields tag) ⊎ ((fault : FaultReason) × IsFaultyTagLine fields fault)

-- either way of a test
tested : (test : Bool) → (test ≡ true) ⊎ (test ≡ false)
tested true = inl refl
tested false = inr refl

-- fields that are each of their form and range are those of a tag, but for its PC
formed_or_not : (others : List (List ℕ)) → FormedBehind keywords.Tag others → TellsTagOrIsFaulty (keyword_text keywords.Tag ∷ others)
formed_or_not others (lines.Tag tag, form, same, is) = elim (tested (pc_fits tag.image)) [
  | inl fits ↦ inl (
    tag,
    record { spelling = ap (λ (rest : List (List ℕ)). keyword_text keywords.Tag ∷ rest) is; is = record { form = form; pc = fits } },
  )
  | inr broken ↦ inr (faults.Pc, (record { others = others; first = refl }, record { tag = tag; spelling = is; form = form; broken = broken }))
]
formed_or_not others (line, form, same, is) = cc

tag_behind : (others : List (List ℕ)) → TellsTagOrIsFaulty (keyword_text keywords.Tag ∷ others)
tag_behind others =
    let begins : BeginsAsTag (keyword_text keywords.Tag ∷ others) = record { others = others; first = refl } in
    elim (filled_decided 7 others) [
      | inr unfilled ↦ inr (faults.Shape, (begins, unfilled))
      | inl filled ↦ elim (formed_behind keywords.Tag others) [
        | inl formed ↦ formed_or_not others formed
        | inr never ↦ inr (faults.Number, (begins, (filled, λ tag form is. never (lines.Tag tag, form, refl, is))))
      ]
    ]

pub tag_or_faulty : (fields : List (List ℕ)) → TellsTagOrIsFaulty fields
tag_or_faulty [] = inr (faults.Word, λ begins. let same = begins.first in cc)
tag_or_faulty (first ∷ others) = elim (text_decided first (keyword_text keywords.Tag)) [
  | inl is ↦ subst (λ (field : List ℕ). TellsTagOrIsFaulty (field ∷ others)) (sym is) (tag_behind others)
  | inr other ↦ inr (faults.Word, λ begins. other (head_same first (keyword_text keywords.Tag) others begins.others begins.first))
]
