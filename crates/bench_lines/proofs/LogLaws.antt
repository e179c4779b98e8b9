-- A line of a log leads to one standing, or is faulty for one reason.
use Rattle.std.proofs.Common.{rules, ◌≡◌, ◌⊎◌, ◌+◌, ℕ, List, [], ◌∷◌, ◌++◌, ap, arith, refl, sym, ◌∙◌, subst, inl, inr}
use Rattle.std.specs.Prelude.{Option}
use Rattle.checked_lines.specs.laws.OneOutcome.{AreUnambiguous}
use Rattle.command_grammar.specs.declared.commands.Command.{Command}
use Rattle.log_judge.specs.Log.{LogEntry, LoggedTag, Seen, Exchange, lines_in}
use Rattle.bench_lines.specs.ProbeLine.{SpellsProbeLine}
use Rattle.bench_lines.specs.ProbeText.{IsStimulusTooMuch}
use Rattle.bench_lines.specs.Stimuli.{ProbeLine, StimulusEffect, Does}
use Rattle.bench_lines.specs.Stimuli as said
use Rattle.bench_lines.specs.laws.ProbeLineLaws.{ProbeLineLaws}
use Rattle.scenario_lines.specs.declared.tag.TagSpec.{TagSpec}
use Rattle.text_fields.specs.Lines.{fields_of}
use Rattle.text_fields.specs.declared.fields_fault.FieldsFault.{FieldsFault}
use Rattle.text_fields.specs.declared.fields_fault.FieldsFault.TheVariants as reasons
use Rattle.text_fields.proofs.NamedFieldLaws.{same_behind}
use Rattle.bench_lines.specs.SeenLine.{AreFaultySeen, BeginsAsAnswer, SpellSeen, answer_word}
use Rattle.bench_lines.specs.LogText.{LogGoesTo, HasUnknownWord, IsFaultyAsAnswer, IsFaultyAsOther, IsFaultyLogLine, IsFaultyNext, IsFaultySeen, LogLeadsTo, LogStanding, TellsNextEntry, TellsSeen, TellsLoggedTag, asked, begun, behind_effect, ended, log_rules, logged_tag, start, with_word, within}
use Rattle.checked_lines.specs.declared.fault.FaultReason.{FaultReason}
use Rattle.checked_lines.specs.declared.fault.FaultReason.TheVariants.{Word, Order, Limit, Shape, Number}
use Rattle.bench_lines.specs.laws.LogLineLaws.{LogLineLaws}
use Rattle.bench_lines.specs.laws.SeenLaws.{SeenLaws}

-- what stands behind the first field
same_others : (fields : List (List ℕ)) (one other : BeginsAsAnswer fields) → one.others ≡ other.others
same_others fields one other = (same_behind answer_word answer_word one.others other.others (sym one.first ∙ other.first)).1

-- where a stimulus leads
same_effect : (one other : StimulusEffect) → one ∷ [] ≡ other ∷ [] → one ≡ other
same_effect one other same = cc

one_lead : LogLineLaws → (tag : LoggedTag) (log : List LogEntry) (says : ProbeLine) (one other : LogStanding) → LogLeadsTo tag log says one → LogLeadsTo tag log says other → one ≡ other
one_lead known tag log said.End one other leads leads' = leads ∙ sym leads'
one_lead known tag log (said.Does stimulus) one other leads leads' =
    let same = same_effect leads.effect leads'.effect
    (known.one_effect (stimulus ∷ []) (leads.effect ∷ []) (leads'.effect ∷ []) (leads.has, tt) (leads'.has, tt)) in
    leads.leads ∙ ap (λ (effect : StimulusEffect). behind_effect tag log effect) same ∙ sym leads'.leads

one_next : LogLineLaws → (tag : LoggedTag) (log : List LogEntry) (fields : List (List ℕ)) (one other : LogStanding) → TellsNextEntry tag log fields one → TellsNextEntry tag log fields other → one ≡ other
one_next known tag log fields one other tells tells' =
    let same = known.lines.told fields tells'.says tells.says tells'.spells tells.spells in
    one_lead known tag log tells.says one other tells.leads (subst (λ (says : ProbeLine). LogLeadsTo tag log says other) same tells'.leads)

one_seen : LogLineLaws → (tag : LoggedTag) (log : List LogEntry) (heard : Option Command) (fields : List (List ℕ)) (one other : LogStanding)
    → TellsSeen tag log heard fields one → TellsSeen tag log heard fields other → one ≡ other
one_seen known tag log heard fields one other tells tells' =
    let others = same_others fields tells'.begins tells.begins in
    let same = known.seen.told tells.begins.others tells.seen tells'.seen tells.spells
    (subst (λ (list : List (List ℕ)). SpellSeen list tells'.seen) others tells'.spells) in
    tells.leads ∙ ap (λ (seen : Option Seen). within tag (log ++ Exchange heard seen ∷ [])) same ∙ sym tells'.leads

one_tag : LogLineLaws → (line : List ℕ) (one other : LogStanding) → TellsLoggedTag line one → TellsLoggedTag line other → one ≡ other
one_tag known line one other tells tells' =
    let same = known.tags.told (with_word (fields_of line)) tells.tag tells'.tag tells.spells tells'.spells in
    tells.leads ∙ ap (λ (tag : TagSpec). within (logged_tag tag) []) same ∙ sym tells'.leads

one_standing : LogLineLaws → (from one other : LogStanding) (line : List ℕ) → LogGoesTo from line one → LogGoesTo from line other → one ≡ other
one_standing known start one other line goes goes' = goes.1 ∙ sym goes'.1
one_standing known begun one other line goes goes' = one_tag known line one other goes goes'
one_standing known (within tag log) one other line goes goes' = one_next known tag log (fields_of line) one other goes goes'
one_standing known (asked tag log heard) one other line goes goes' = one_seen known tag log heard (fields_of line) one other goes goes'
one_standing known (ended tag log) one other line goes goes' = absurd goes

-- a word that is unknown is the reason
pub unknown_other : ProbeLineLaws → (fields : List (List ℕ)) (fault : FieldsFault) → HasUnknownWord fields → IsFaultyAsOther fields fault → reasons.Word ≡ fault
unknown_other laws fields fault (inl answer) other = absurd (other.other answer.begins)
unknown_other laws fields fault (inr first) other = laws.one_fault fields reasons.Word fault first.faulty other.faulty

pub unknown_answer : SeenLaws → (fields : List (List ℕ)) (fault : FieldsFault) → HasUnknownWord fields → IsFaultyAsAnswer fields fault → reasons.Word ≡ fault
unknown_answer laws fields fault (inr other) answer = absurd (other.other answer.begins)
unknown_answer laws fields fault (inl first) answer =
    laws.one_fault answer.begins.others reasons.Word fault
    (subst (λ (list : List (List ℕ)). AreFaultySeen list reasons.Word) (same_others fields first.begins answer.begins) first.faulty) answer.faulty

pub no_unknown_other : ProbeLineLaws → (fields : List (List ℕ)) → HasUnknownWord fields → IsFaultyAsOther fields reasons.Shape ⊎ IsFaultyAsOther fields reasons.Number → ⊥
no_unknown_other laws fields unknown (inl shape) = let same = unknown_other laws fields reasons.Shape unknown shape in cc
no_unknown_other laws fields unknown (inr number) = let same = unknown_other laws fields reasons.Number unknown number in cc

pub no_unknown_answer : SeenLaws → (fields : List (List ℕ)) → HasUnknownWord fields → IsFaultyAsAnswer fields reasons.Shape ⊎ IsFaultyAsAnswer fields reasons.Number → ⊥
no_unknown_answer laws fields unknown (inl shape) = let same = unknown_answer laws fields reasons.Shape unknown shape in cc
no_unknown_answer laws fields unknown (inr number) = let same = unknown_answer laws fields reasons.Number unknown number in cc

answer_not_faulty : SeenLaws → (fields : List (List ℕ)) (begins : BeginsAsAnswer fields) (seen : Option Seen) (fault : FieldsFault) → SpellSeen begins.others seen
    → IsFaultyAsAnswer fields fault → ⊥
answer_not_faulty laws fields begins seen fault spells faulty =
    laws.not_faulty begins.others seen fault spells
    (subst (λ (list : List (List ℕ)). AreFaultySeen list fault) (same_others fields faulty.begins begins) faulty.faulty)

-- no word is unknown of a line that says something
pub answer_known : SeenLaws → (fields : List (List ℕ)) (begins : BeginsAsAnswer fields) (seen : Option Seen) → SpellSeen begins.others seen → HasUnknownWord fields → ⊥
answer_known laws fields begins seen spells (inl answer) = answer_not_faulty laws fields begins seen reasons.Word spells answer
answer_known laws fields begins seen spells (inr other) = other.other begins

pub other_known : ProbeLineLaws → (fields : List (List ℕ)) (line : ProbeLine) → (¬ BeginsAsAnswer fields) → SpellsProbeLine fields line → HasUnknownWord fields → ⊥
other_known laws fields line other spells (inl answer) = other answer.begins
other_known laws fields line other spells (inr faulty) = laws.not_faulty fields line reasons.Word spells faulty.faulty

seen_shape_or_number : LogLineLaws → (fields : List (List ℕ)) → IsFaultyAsAnswer fields reasons.Shape → IsFaultyAsAnswer fields reasons.Number → ⊥
seen_shape_or_number known fields shape number =
    let same = known.seen.one_fault number.begins.others reasons.Shape reasons.Number
    (subst (λ (list : List (List ℕ)). AreFaultySeen list reasons.Shape) (same_others fields shape.begins number.begins) shape.faulty) number.faulty in
    cc

one_next_reason : LogLineLaws → (count : ℕ) (fields : List (List ℕ)) (one other : FaultReason) → IsFaultyNext count fields one → IsFaultyNext count fields other → one ≡ other
one_next_reason known count fields Word Word a b = refl
one_next_reason known count fields Order Order a b = refl
one_next_reason known count fields Limit Limit a b = refl
one_next_reason known count fields Shape Shape a b = refl
one_next_reason known count fields Number Number a b = refl
one_next_reason known count fields one other a b = absurd (search rules)

one_seen_reason : LogLineLaws → (count : ℕ) (fields : List (List ℕ)) (one other : FaultReason) → IsFaultySeen count fields one → IsFaultySeen count fields other → one ≡ other
one_seen_reason known count fields Word Word a b = refl
one_seen_reason known count fields Order Order a b = refl
one_seen_reason known count fields Limit Limit a b = refl
one_seen_reason known count fields Shape Shape a b = refl
one_seen_reason known count fields Number Number a b = refl
one_seen_reason known count fields Limit Shape a b = absurd (omega (arith, a.2, b.0))
one_seen_reason known count fields Limit Number a b = absurd (omega (arith, a.2, b.0))
one_seen_reason known count fields Shape Limit a b = absurd (omega (arith, b.2, a.0))
one_seen_reason known count fields Number Limit a b = absurd (omega (arith, b.2, a.0))
one_seen_reason known count fields one other a b =
    absurd (search (rules, inl, inr, no_unknown_answer known.seen fields, seen_shape_or_number known fields))

one_reason : LogLineLaws → (from : LogStanding) (line : List ℕ) (one other : FaultReason) → IsFaultyLogLine from line one → IsFaultyLogLine from line other → one ≡ other
one_reason known start line one other a b = a.0 ∙ sym b.0
one_reason known begun line one other a b = known.tags.one_fault (with_word (fields_of line)) one other a b
one_reason known (within tag log) line one other a b = one_next_reason known (lines_in log) (fields_of line) one other a b
one_reason known (asked tag log heard) line one other a b = one_seen_reason known (lines_in log + 1) (fields_of line) one other a b
one_reason known (ended tag log) line one other a b = a ∙ sym b

-- a line that says something has room
has_room : (tag : LoggedTag) (log : List LogEntry) (fields : List (List ℕ)) (says : ProbeLine) (to : LogStanding) → SpellsProbeLine fields says → LogLeadsTo tag log says to
    → IsStimulusTooMuch (lines_in log) fields → ⊥
has_room tag log fields said.End to spells leads many = many.needs (record { others = []; first = spells.spelling })
has_room tag log fields (said.Does stimulus) to spells leads many = let room = leads.room in let full = many.full in omega arith

next_not_faulty : LogLineLaws → (tag : LoggedTag) (log : List LogEntry) (fields : List (List ℕ)) (to : LogStanding) (fault : FaultReason) → TellsNextEntry tag log fields to
    → IsFaultyNext (lines_in log) fields fault → ⊥
next_not_faulty known tag log fields to Word tells (inl answer) = tells.other answer.begins
next_not_faulty known tag log fields to Word tells (inr other) = known.lines.not_faulty fields tells.says reasons.Word tells.spells other.faulty
next_not_faulty known tag log fields to Order tells faulty = tells.other faulty.1
next_not_faulty known tag log fields to Limit tells faulty = has_room tag log fields tells.says to tells.spells tells.leads faulty.2
next_not_faulty known tag log fields to Shape tells faulty = known.lines.not_faulty fields tells.says reasons.Shape tells.spells faulty.1.faulty
next_not_faulty known tag log fields to Number tells faulty = known.lines.not_faulty fields tells.says reasons.Number tells.spells faulty.1.faulty
next_not_faulty known tag log fields to fault tells faulty = absurd faulty

seen_not_faulty : LogLineLaws → (tag : LoggedTag) (log : List LogEntry) (heard : Option Command) (fields : List (List ℕ)) (to : LogStanding) (fault : FaultReason)
    → TellsSeen tag log heard fields to → IsFaultySeen (lines_in log + 1) fields fault → ⊥
seen_not_faulty known tag log heard fields to Word tells (inl answer) = answer_not_faulty known.seen fields tells.begins tells.seen reasons.Word tells.spells answer
seen_not_faulty known tag log heard fields to Word tells (inr other) = other.other tells.begins
seen_not_faulty known tag log heard fields to Order tells faulty = faulty.1 tells.begins
seen_not_faulty known tag log heard fields to Limit tells faulty = let room = tells.room in let full = faulty.2 in omega arith
seen_not_faulty known tag log heard fields to Shape tells faulty = answer_not_faulty known.seen fields tells.begins tells.seen reasons.Shape tells.spells faulty.1
seen_not_faulty known tag log heard fields to Number tells faulty = answer_not_faulty known.seen fields tells.begins tells.seen reasons.Number tells.spells faulty.1
seen_not_faulty known tag log heard fields to fault tells faulty = absurd faulty

not_faulty : LogLineLaws → (from to : LogStanding) (line : List ℕ) (fault : FaultReason) → LogGoesTo from line to → IsFaultyLogLine from line fault → ⊥
not_faulty known start to line fault goes faulty = faulty.1 goes.0
not_faulty known begun to line fault goes faulty = known.tags.not_faulty (with_word (fields_of line)) goes.tag fault goes.spells faulty
not_faulty known (within tag log) to line fault goes faulty = next_not_faulty known tag log (fields_of line) to fault goes faulty
not_faulty known (asked tag log heard) to line fault goes faulty = seen_not_faulty known tag log heard (fields_of line) to fault goes faulty
not_faulty known (ended tag log) to line fault goes faulty = goes

pub logs_unambiguous : LogLineLaws → AreUnambiguous log_rules
logs_unambiguous known = record { one_standing = one_standing known; one_reason = one_reason known; not_faulty = not_faulty known }
