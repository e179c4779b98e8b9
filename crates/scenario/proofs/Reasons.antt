-- A line leads to one standing at most, or is faulty for one first reason at most, and not both.
use Rattle.std.proofs.Common.{◌≡◌, ◌⊎◌, inl, inr, ℕ, List, refl, sym, ◌∙◌, ap, subst}
use Rattle.text_fields.specs.Lines.{fields_of}
use Rattle.checked_lines.specs.laws.OneOutcome.{AreUnambiguous}
use Rattle.scenario_lines.specs.declared.line.Line.{Line}
use Rattle.scenario_lines.specs.declared.line.Line.TheVariants as lines
use Rattle.scenario_lines.specs.declared.version.Version.{Version as TextVersion}
use Rattle.scenario_lines.specs.LineBeginnings.{spelled_begins}
use Rattle.scenario_lines.specs.LineFaults.{IsFaultyLine}
use Rattle.scenario_lines.specs.SpelledLines.{SpellsLine}
use Rattle.scenario_lines.specs.Spelling.{keyword_of, line_text}
use Rattle.checked_lines.specs.declared.fault.FaultReason.{FaultReason}
use Rattle.checked_lines.specs.declared.fault.FaultReason.TheVariants.{Word, Order, Limit, Number, Copies, Tag, Twice}
use Rattle.scenario.specs.AirLinesSoFar.{ChoosesOnce, KeepsOrder}
use Rattle.scenario.specs.Draft.{DraftValue, tag_count}
use Rattle.scenario.specs.Faults.{Disagrees, DisagreesAt, DisagreesBy, IsFirstUnmet, HasRoomFor, IsFaultyAt, IsFaultyInScenario, LeadsBy, MayBegin, scenario_rules}
use Rattle.scenario.specs.Standing.{Agrees, AgreesWith, IsOfVersion, MayCopy, MayStand, MayStandNext, NamesTag, ScenarioStanding, ended, standing_after, start, within}
use Rattle.scenario.specs.laws.LineLaws.{LineLaws}
use Rattle.scenario.proofs.Texts.{text_spelled}

-- one reason applies
abbrev Once : (FaultReason → Type 0) → Type 0
Once reasons = (fault reason : FaultReason) → reasons fault → reasons reason → fault ≡ reason

fails_once : (first : Type 0) (cause : FaultReason) (others : FaultReason → Type 0) → (first → Once others) → Once (IsFirstUnmet first cause others)
fails_once first cause others once fault reason (inl fails) (inl fails') = fails.1 ∙ sym fails'.1
fails_once first cause others once fault reason (inl fails) (inr holds) = absurd (fails.0 holds.0)
fails_once first cause others once fault reason (inr holds) (inl fails) = absurd (fails.0 holds.0)
fails_once first cause others once fault reason (inr holds) (inr holds') = once holds.0 fault reason holds.1 holds'.1

one_disagreement : (draft : DraftValue) (line : Line) → Once (DisagreesBy draft line)
one_disagreement draft line =
    fails_once (IsOfVersion draft.head.version line) Number _
    (λ version. fails_once (MayCopy (tag_count draft) line) Copies _
    (λ copies. fails_once (NamesTag (tag_count draft) line) Tag _
    (λ names. fails_once (KeepsOrder draft.air line) Order _
    (λ order. fails_once (ChoosesOnce draft.air line) Twice _ (λ once fault reason none. absurd none)))))

one_disagreement_here : (standing : ScenarioStanding) (line : Line) → Once (DisagreesAt standing line)
one_disagreement_here (within draft) line fault reason one = one_disagreement draft line fault reason one
one_disagreement_here standing line fault reason one = absurd one

one_unfit : LineLaws → (standing : ScenarioStanding) (fields : List (List ℕ)) → Once (λ fault. IsFaultyLine fields fault ⊎ Disagrees standing fields fault)
one_unfit laws standing fields fault reason (inl one) (inl other) = laws.lines_have_one_fault fields fault reason one other
one_unfit laws standing fields fault reason (inl one) (inr other) = absurd (laws.spelled_lines_are_not_faulty fields other.line fault other.spells one)
one_unfit laws standing fields fault reason (inr one) (inl other) = absurd (laws.spelled_lines_are_not_faulty fields one.line reason one.spells other)
one_unfit laws standing fields fault reason (inr one) (inr other) =
    let line = laws.lines_are_told_apart fields one.line other.line one.spells other.spells in
    one_disagreement_here standing other.line fault reason (subst (λ (l : Line). DisagreesAt standing l fault) line one.disagrees) other.disagrees

one_reason_at : LineLaws → (standing : ScenarioStanding) (fields : List (List ℕ)) → Once (IsFaultyAt standing fields)
one_reason_at laws standing fields =
    fails_once (MayBegin standing fields) Word _
    (λ begins. fails_once (HasRoomFor standing fields) Limit _ (λ place. one_unfit laws standing fields))

one_reason : LineLaws → (standing : ScenarioStanding) (line : List ℕ) → Once (IsFaultyInScenario standing line)
one_reason laws start line fault reason one other = one.0 ∙ sym other.0
one_reason laws (ended draft) line fault reason one other = one ∙ sym other
one_reason laws standing line fault reason one other = one_reason_at laws standing (fields_of line) fault reason one other

-- a line that agrees with the lines before it doesn't disagree with them
no_disagreement : (draft : DraftValue) (line : Line) (fault : FaultReason) → Agrees draft line → DisagreesBy draft line fault → ⊥
no_disagreement draft line fault agrees (inl fails) = fails.0 agrees.version
no_disagreement draft line fault agrees (inr (version, inl fails)) = fails.0 agrees.copies
no_disagreement draft line fault agrees (inr (version, inr (copies, inl fails))) = fails.0 agrees.names
no_disagreement draft line fault agrees (inr (version, inr (copies, inr (names, inl fails)))) = fails.0 agrees.order
no_disagreement draft line fault agrees (inr (version, inr (copies, inr (names, inr (order, inl fails))))) = fails.0 agrees.once
no_disagreement draft line fault agrees (inr (version, inr (copies, inr (names, inr (order, inr (once, none)))))) = none

no_disagreement_here : (standing : ScenarioStanding) (line : Line) (fault : FaultReason) → AgreesWith standing line → DisagreesAt standing line fault → ⊥
no_disagreement_here (within draft) line fault agrees disagrees = no_disagreement draft line fault agrees disagrees
no_disagreement_here standing line fault agrees disagrees = disagrees

-- a line that may follow is not faulty
follows_well : LineLaws → (standing : ScenarioStanding) (fields : List (List ℕ)) (line : Line) (fault : FaultReason) → SpellsLine fields line → MayStandNext standing line
    → IsFaultyAt standing fields fault → ⊥
follows_well laws standing fields line fault spells follows (inl fails) =
    fails.0 (record { keyword = keyword_of line; begins = spelled_begins fields line spells; stands = follows.stands })
follows_well laws standing fields line fault spells follows (inr (begins, inl fails)) =
    fails.0 (record { keyword = keyword_of line; begins = spelled_begins fields line spells; room = follows.room })
follows_well laws standing fields line fault spells follows (inr (begins, inr (place, inl nothing))) =
    laws.spelled_lines_are_not_faulty fields line fault spells nothing
follows_well laws standing fields line fault spells follows (inr (begins, inr (place, inr disagrees))) =
    let same = laws.lines_are_told_apart fields line disagrees.line spells disagrees.spells in
    no_disagreement_here standing disagrees.line fault (subst (λ (l : Line). AgreesWith standing l) same follows.agrees) disagrees.disagrees

-- the first line is a version
version_alone : (said : Line) → MayStand start (keyword_of said) → (version : TextVersion) × (said ≡ lines.Version version)
version_alone (lines.Version version) stands = (version, refl)
version_alone line stands = absurd stands

not_faulty : LineLaws → (from to : ScenarioStanding) (line : List ℕ) (fault : FaultReason) → LeadsBy from line to → IsFaultyInScenario from line fault → ⊥
not_faulty laws start to line fault leads faulty =
    let version = version_alone leads.said leads.follows.stands in
    faulty.1 version.0 (text_spelled line leads.said leads.spells ∙ ap line_text version.1)
not_faulty laws (ended draft) to line fault leads faulty = leads.follows.stands
not_faulty laws from to line fault leads faulty = follows_well laws from (fields_of line) leads.said fault leads.spells leads.follows faulty

one_standing : LineLaws → (from one other : ScenarioStanding) (line : List ℕ) → LeadsBy from line one → LeadsBy from line other → one ≡ other
one_standing laws from one other line leads leads' =
    let same = laws.lines_are_told_apart (fields_of line) leads.said leads'.said leads.spells leads'.spells in
    sym leads.leads ∙ ap (λ (said : Line). standing_after from said) same ∙ leads'.leads

pub unambiguous : LineLaws → AreUnambiguous scenario_rules
unambiguous laws = record { one_standing = one_standing laws; one_reason = one_reason laws; not_faulty = not_faulty laws }
