-- Each line of a log leads on or is faulty, so that bytes are the text of a log or have a first faulty line.
use Rattle.std.proofs.Common.{◌≡◌, ◌⊎◌, ◌<◌, ◌≤◌, ◌+◌, ℕ, List, [], ◌∷◌, ap, arith, refl, inl, inr}
use Rattle.std.specs.Prelude.{Option}
use Rattle.std.specs.List.{AllZip}
use Rattle.std.proofs.lemmas.Bool.{cases_lt}
use Rattle.checked_lines.specs.TextRules.{Faulty, HasOutcome, TextOutcome, Whole}
use Rattle.checked_lines.specs.laws.OneOutcome.{AreComplete, LeadsOrIsFaulty, some_outcome}
use Rattle.checked_lines.specs.laws.TextLaws.{whole_ends}
use Rattle.checked_lines.specs.declared.fault.FaultReason.{FaultReason}
use Rattle.checked_lines.specs.declared.fault.FaultReason.TheVariants.{Extra, Version, Word, Order, Limit, Shape, Number}
use Rattle.command_grammar.specs.declared.commands.Command.{Command}
use Rattle.log_judge.specs.Log.{LogEntry, LoggedTag, lines_in}
use Rattle.bench_lines.specs.ProbeAnswers.{HasEffect}
use Rattle.bench_lines.specs.ProbeLineFaults.{BeginsWithWord}
use Rattle.bench_lines.specs.ProbeLine.{SpellsProbeLine, line_word}
use Rattle.bench_lines.specs.ProbeText.{IsStimulusTooMuch, most_stimuli}
use Rattle.bench_lines.specs.Stimuli.{Stimulus, StimulusEffect, Does}
use Rattle.bench_lines.specs.Stimuli as said
use Rattle.bench_lines.specs.declared.probe_line.LineWord.TheVariants as words
use Rattle.scenario_lines.proofs.Decisions.{Decided, head_same, text_decided}
use Rattle.text_fields.specs.Lines.{fields_of, lines_of}
use Rattle.text_fields.specs.declared.fields_fault.FieldsFault.TheVariants as reasons
use Rattle.bench_lines.proofs.LinesDecided.{SaysOrIsFaulty, TellsOrIsFaulty, TellsTagOrIsFaulty, says_or_is_faulty, tag_or_faulty, tells_or_is_faulty}
use Rattle.bench_lines.proofs.LogLaws.{answer_known, other_known, unknown_answer, unknown_other}
use Rattle.bench_lines.specs.LogText.{IsFaultyNext, IsFaultySeen, IsFirstLogFault, IsLogText, LogMayEnd, LogStanding, TellsNextEntry, TellsSeen, asked, begun, behind_effect, ended, log_rules, logged_tag, start, log_version_line, with_word, within}
use Rattle.bench_lines.specs.SeenLine.{BeginsAsAnswer, answer_word}
use Rattle.bench_lines.specs.laws.LogLineLaws.{LogLineLaws}

effect_of_one : (stimulus : Stimulus) (effects : List StimulusEffect) → AllZip HasEffect (stimulus ∷ []) effects → (effect : StimulusEffect) × HasEffect stimulus effect
effect_of_one stimulus [] has = absurd has
effect_of_one stimulus (effect ∷ effects) has = (effect, has.0)

-- how a line begins
answer_decided : (fields : List (List ℕ)) → Decided (BeginsAsAnswer fields)
answer_decided [] = inr (λ begins. let same = begins.first in cc)
answer_decided (first ∷ others) = elim (text_decided first answer_word) [
  | inl is ↦ inl (record { others = others; first = ap (λ (field : List ℕ). field ∷ others) is })
  | inr other ↦ inr (λ begins. other (head_same first answer_word others begins.others begins.first))
]

end_decided : (fields : List (List ℕ)) → Decided (BeginsWithWord fields words.End)
end_decided [] = inr (λ begins. let same = begins.first in cc)
end_decided (first ∷ others) = elim (text_decided first (line_word words.End)) [
  | inl is ↦ inl (record { others = others; first = ap (λ (field : List ℕ). field ∷ others) is })
  | inr other ↦ inr (λ begins. other (head_same first (line_word words.End) others begins.others begins.first))
]

too_much_decided : (count : ℕ) (fields : List (List ℕ)) → Decided (IsStimulusTooMuch count fields)
too_much_decided count fields = elim (cases_lt count most_stimuli) [
  | inl room ↦ inr (λ many. let full = many.full in absurd (omega arith))
  | inr full ↦ elim (end_decided fields) [ inl ends ↦ inr (λ many. many.needs ends) | inr needs ↦ inl (record { full = full; needs = needs }) ]
]

-- what is done to a tag is no end
ends_or_faulty : LogLineLaws → (fields others : List (List ℕ)) (stimulus : Stimulus) → SpellsProbeLine fields (Does stimulus) → fields ≡ line_word words.End ∷ others → ⊥
ends_or_faulty known fields [] stimulus spells is =
    let same = known.lines.told fields (Does stimulus) said.End spells (record { spelling = is; is = tt }) in
    cc
ends_or_faulty known fields (field ∷ others) stimulus spells is =
    known.lines.not_faulty fields (Does stimulus) reasons.Shape spells
    (inl (record { word = words.End; begins = record { others = field ∷ others; first = is }; behind = λ same. cc }))

-- a line that begins as an answer, where none is awaited
misplaced : LogLineLaws → (count : ℕ) (fields : List (List ℕ)) (begins : BeginsAsAnswer fields) → TellsOrIsFaulty begins.others → (reason : FaultReason) × IsFaultyNext count fields reason
misplaced known count fields begins (inl found) = (Order, (answer_known known.seen fields begins found.0 found.1, begins))
misplaced known count fields begins (inr (reasons.Word, faulty)) = (Word, inl (record { begins = begins; faulty = faulty }))
misplaced known count fields begins (inr (fault, faulty)) =
    (Order, (λ unknown. let same = unknown_answer known.seen fields fault unknown (record { begins = begins; faulty = faulty }) in cc, begins))

-- a line that doesn't, where one is awaited
missed : LogLineLaws → (count : ℕ) (fields : List (List ℕ)) → (¬ BeginsAsAnswer fields) → SaysOrIsFaulty fields → (reason : FaultReason) × IsFaultySeen count fields reason
missed known count fields other (inl found) = (Order, (other_known known.lines fields found.0 other found.1, other))
missed known count fields other (inr (reasons.Word, faulty)) = (Word, inr (record { other = other; faulty = faulty }))
missed known count fields other (inr (fault, faulty)) =
    (Order, (λ unknown. let same = unknown_other known.lines fields fault unknown (record { other = other; faulty = faulty }) in cc, other))

-- a line that begins as an answer, where one is awaited
abbrev SeenOrIsFaulty : LoggedTag → List LogEntry → Option Command → List (List ℕ) → Type 0
SeenOrIsFaulty tag log heard fields = ((to : LogStanding) × TellsSeen tag log heard fields to) ⊎ ((reason : FaultReason) × IsFaultySeen (lines_in log + 1) fields reason)

seen_or_faulty : LogLineLaws → (tag : LoggedTag) (log : List LogEntry) (heard : Option Command) (fields : List (List ℕ)) (begins : BeginsAsAnswer fields)
    → TellsOrIsFaulty begins.others → (lines_in log + 1 < most_stimuli) ⊎ (most_stimuli ≤ lines_in log + 1) → SeenOrIsFaulty tag log heard fields
seen_or_faulty known tag log heard fields begins (inl found) (inl room) =
    inl (_, record { begins = begins; seen = found.0; spells = found.1; room = room; leads = refl })
seen_or_faulty known tag log heard fields begins (inl found) (inr full) = inr (Limit, (answer_known known.seen fields begins found.0 found.1, begins, full))
seen_or_faulty known tag log heard fields begins (inr (reasons.Word, faulty)) room = inr (Word, inl (record { begins = begins; faulty = faulty }))
seen_or_faulty known tag log heard fields begins (inr (reasons.Shape, faulty)) (inl room) = inr (Shape, (room, record { begins = begins; faulty = faulty }))
seen_or_faulty known tag log heard fields begins (inr (reasons.Number, faulty)) (inl room) = inr (Number, (room, record { begins = begins; faulty = faulty }))
seen_or_faulty known tag log heard fields begins (inr (fault, faulty)) (inr full) =
    inr (Limit, (λ unknown. let same = unknown_answer known.seen fields fault unknown (record { begins = begins; faulty = faulty }) in cc, begins, full))

-- a line that doesn't, where none is awaited
abbrev NextOrIsFaulty : LoggedTag → List LogEntry → List (List ℕ) → Type 0
NextOrIsFaulty tag log fields = ((to : LogStanding) × TellsNextEntry tag log fields to) ⊎ ((reason : FaultReason) × IsFaultyNext (lines_in log) fields reason)

does_next : LogLineLaws → (tag : LoggedTag) (log : List LogEntry) (fields : List (List ℕ)) (stimulus : Stimulus) → (¬ BeginsAsAnswer fields) → SpellsProbeLine fields (Does stimulus)
    → (lines_in log < most_stimuli) ⊎ (most_stimuli ≤ lines_in log) → NextOrIsFaulty tag log fields
does_next known tag log fields stimulus other spells (inl room) =
    let some = known.some_effect (stimulus ∷ []) in
    let found = effect_of_one stimulus some.0 some.1 in
    inl (
      behind_effect tag log found.0,
      record { other = other; says = Does stimulus; spells = spells; leads = record { room = room; effect = found.0; has = found.1; leads = refl } },
    )
does_next known tag log fields stimulus other spells (inr full) = inr (
  Limit,
  (
    other_known known.lines fields (Does stimulus) other spells,
    other,
    record { full = full; needs = λ ends. ends_or_faulty known fields ends.others stimulus spells ends.first },
  ),
)

next_or_faulty : LogLineLaws → (tag : LoggedTag) (log : List LogEntry) (fields : List (List ℕ)) → (¬ BeginsAsAnswer fields) → SaysOrIsFaulty fields
    → Decided (IsStimulusTooMuch (lines_in log) fields) → NextOrIsFaulty tag log fields
next_or_faulty known tag log fields other (inl (said.End, spells)) many = inl (ended tag log, record { other = other; says = said.End; spells = spells; leads = refl })
next_or_faulty known tag log fields other (inl (said.Does stimulus, spells)) many =
    does_next known tag log fields stimulus other spells (cases_lt (lines_in log) most_stimuli)
next_or_faulty known tag log fields other (inr (reasons.Word, faulty)) many = inr (Word, inr (record { other = other; faulty = faulty }))
next_or_faulty known tag log fields other (inr (fault, faulty)) (inl many) =
    inr (Limit, (λ unknown. let same = unknown_other known.lines fields fault unknown (record { other = other; faulty = faulty }) in cc, other, many))
next_or_faulty known tag log fields other (inr (reasons.Shape, faulty)) (inr fits) = inr (Shape, (fits, record { other = other; faulty = faulty }))
next_or_faulty known tag log fields other (inr (reasons.Number, faulty)) (inr fits) = inr (Number, (fits, record { other = other; faulty = faulty }))

version_or_faulty : (line : List ℕ) → LeadsOrIsFaulty log_rules start line
version_or_faulty line = elim (text_decided line log_version_line) [ inl is ↦ inl (begun, (is, refl)) | inr other ↦ inr (Version, (refl, other)) ]

tag_leads : (line : List ℕ) → TellsTagOrIsFaulty (with_word (fields_of line)) → LeadsOrIsFaulty log_rules begun line
tag_leads line (inl found) = inl (within (logged_tag found.0) [], record { tag = found.0; spells = found.1; leads = refl })
tag_leads line (inr faulty) = inr faulty

each_line : LogLineLaws → (from : LogStanding) (line : List ℕ) → LeadsOrIsFaulty log_rules from line
each_line known start line = version_or_faulty line
each_line known begun line = tag_leads line (tag_or_faulty (with_word (fields_of line)))
each_line known (within tag log) line = elim (answer_decided (fields_of line)) [
  | inl begins ↦ inr (misplaced known (lines_in log) (fields_of line) begins (tells_or_is_faulty begins.others))
  | inr other ↦ next_or_faulty known tag log (fields_of line) other (says_or_is_faulty (fields_of line)) (too_much_decided (lines_in log) (fields_of line))
]
each_line known (asked tag log heard) line = elim (answer_decided (fields_of line)) [
  | inl begins ↦ seen_or_faulty known tag log heard (fields_of line) begins (tells_or_is_faulty begins.others) (cases_lt (lines_in log + 1) most_stimuli)
  | inr other ↦ inr (missed known (lines_in log + 1) (fields_of line) other (says_or_is_faulty (fields_of line)))
]
each_line known (ended tag log) line = inr (Extra, refl)

end_or_not : (standing : LogStanding) → LogMayEnd standing ⊎ (¬ LogMayEnd standing)
end_or_not (ended tag log) = inl tt
end_or_not standing = inr (λ may. may)

logs_complete : LogLineLaws → AreComplete log_rules
logs_complete known = record { lines = each_line known; ends = end_or_not }

-- what bytes do or are
abbrev pub AreLogOrFaulty : List ℕ → Type 0
AreLogOrFaulty bytes =
    ((tag : LoggedTag) × (log : List LogEntry) × IsLogText bytes tag log) ⊎ ((number : ℕ) × (fault : FaultReason) × IsFirstLogFault bytes number fault)

outcome_told : (bytes : List ℕ) (outcome : TextOutcome LogStanding FaultReason) → HasOutcome log_rules bytes outcome → AreLogOrFaulty bytes
outcome_told bytes (Whole (ended tag log)) is = inl (tag, log, is)
outcome_told bytes (Whole standing) is = absurd (whole_ends log_rules start standing 1 (lines_of bytes) is).may
outcome_told bytes (Faulty number fault) is = inr (number, fault, is)

pub log_or_faulty : LogLineLaws → (bytes : List ℕ) → AreLogOrFaulty bytes
log_or_faulty known bytes = let found = some_outcome log_rules (logs_complete known) bytes in outcome_told bytes found.0 found.1
