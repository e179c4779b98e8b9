-- Each line leads on or is faulty, so a text is that of a scenario, or has a first faulty line.
use Rattle.std.proofs.Common.{◌≡◌, ◌≢◌, ◌⊎◌, ℕ, List, inl, inr, refl, sym, subst}
use Rattle.text_fields.specs.Lines.{fields_of, lines_of}
use Rattle.checked_lines.specs.TextRules.{TextOutcome, Whole, Faulty, HasOutcome}
use Rattle.checked_lines.specs.laws.OneOutcome.{AreComplete, LeadsOrIsFaulty, some_outcome}
use Rattle.scenario_lines.specs.declared.line.Line.{Line}
use Rattle.scenario_lines.specs.declared.line.Line.TheVariants as lines
use Rattle.scenario_lines.specs.declared.version.Version.{Version as TextVersion}
use Rattle.scenario_lines.specs.declared.version.Version.TheVariants.{One, Two}
use Rattle.scenario_lines.specs.LineBeginnings.{spelled_begins}
use Rattle.scenario_lines.specs.SpelledLines.{SpellsLine}
use Rattle.scenario_lines.specs.Spelling.{line_text, keyword_of}
use Rattle.scenario.specs.ScenarioText.{IsScenarioText}
use Rattle.checked_lines.specs.declared.fault.FaultReason.{FaultReason}
use Rattle.checked_lines.specs.declared.fault.FaultReason.TheVariants.{Extra, Version, Word, Order, Limit, Number, Copies, Tag, Twice}
use Rattle.scenario.specs.laws.LineLaws.{LineLaws}
use Rattle.scenario.specs.Draft.{DraftValue, scenario_of, tag_count}
use Rattle.scenario.specs.Faults.{DisagreesAt, DisagreesBy, HasRoomFor, IsFaultyAt, IsFirstScenarioFault, LeadsBy, MayBegin, ScenarioMayEnd, scenario_rules}
use Rattle.scenario.specs.Standing.{Agrees, AgreesWith, HasRoomForLine, MayStand, ScenarioStanding, begun, ended, standing_after, start, within}
use Rattle.scenario.proofs.Decisions.{chooses_once_decided, has_room_decided, is_of_version_decided, keeps_order_decided, may_copy_decided, may_stand_decided, names_tag_decided}
use Rattle.scenario_lines.proofs.Decisions.{text_decided}
use Rattle.checked_lines.specs.laws.TextLaws.{whole_ends}
use Rattle.scenario.proofs.Texts.{spells_text}
use Rattle.scenario.proofs.WholeTexts.{whole_is_spelled}

-- what a line says that has its place agrees with the lines before it, or doesn't
agrees_or_not : (draft : DraftValue) (line : Line) → Agrees draft line ⊎ ((fault : FaultReason) × DisagreesBy draft line fault)
agrees_or_not draft line = elim (is_of_version_decided draft.head.version line) [
  | inr never ↦ inr (Number, inl (never, refl))
  | inl version ↦ elim (may_copy_decided (tag_count draft) line) [
    | inr never ↦ inr (Copies, inr (version, inl (never, refl)))
    | inl copies ↦ elim (names_tag_decided (tag_count draft) line) [
      | inr never ↦ inr (Tag, inr (version, inr (copies, inl (never, refl))))
      | inl names ↦ elim (keeps_order_decided draft line) [
        | inr never ↦ inr (Order, inr (version, inr (copies, inr (names, inl (never, refl)))))
        | inl order ↦ elim (chooses_once_decided draft line) [
          | inr never ↦ inr (Twice, inr (version, inr (copies, inr (names, inr (order, inl (never, refl))))))
          | inl once ↦ inl (record { version = version; copies = copies; names = names; order = order; once = once })
        ]
      ]
    ]
  ]
]

agrees_or_not_here : (standing : ScenarioStanding) (line : Line) → AgreesWith standing line ⊎ ((fault : FaultReason) × DisagreesAt standing line fault)
agrees_or_not_here (within draft) line = agrees_or_not draft line
agrees_or_not_here standing line = inl tt

-- a line is one that may follow, or is faulty for some reason
abbrev GoesOrIsFaulty : ScenarioStanding → List ℕ → Type 0
GoesOrIsFaulty standing line = ((to : ScenarioStanding) × LeadsBy standing line to) ⊎ ((fault : FaultReason) × IsFaultyAt standing (fields_of line) fault)

-- ... where it has its place
placed : LineLaws → (standing : ScenarioStanding) (line : List ℕ) → MayBegin standing (fields_of line) → HasRoomFor standing (fields_of line) → GoesOrIsFaulty standing line
placed laws standing line begins place = elim (laws.lines_say_something_or_are_faulty (fields_of line)) [
  | inr faulty ↦ inr (faulty.0, inr (begins, inr (place, inl faulty.1)))
  | inl said ↦ elim (agrees_or_not_here standing said.0) [
    | inr never ↦ inr (never.0, inr (begins, inr (place, inr (record { line = said.0; spells = said.1; disagrees = never.1 }))))
    | inl agrees ↦
        let fields = fields_of line in
        let word = spelled_begins fields said.0 said.1 in
        let stands = subst (MayStand standing) (laws.lines_begin_with_one_keyword fields begins.keyword (keyword_of said.0) begins.begins word) begins.stands in
        let room = subst (HasRoomForLine standing) (laws.lines_begin_with_one_keyword fields place.keyword (keyword_of said.0) place.begins word) place.room in
        inl (
          standing_after standing said.0,
          record { said = said.0; spells = said.1; follows = record { is = said.1.is; stands = stands; room = room; agrees = agrees }; leads = refl },
        )
  ]
]

goes_or_is_faulty : LineLaws → (standing : ScenarioStanding) (line : List ℕ) → GoesOrIsFaulty standing line
goes_or_is_faulty laws standing line = elim (laws.lines_begin_or_are_faulty (fields_of line)) [
  | inr none ↦ inr (Word, inl ((λ begins. none begins.keyword begins.begins), refl))
  | inl found ↦ elim (may_stand_decided standing found.0) [
    | inr never ↦ inr (
      Word,
      inl (
        (λ begins. never (subst (MayStand standing) (laws.lines_begin_with_one_keyword (fields_of line) begins.keyword found.0 begins.begins found.1) begins.stands)),
        refl,
      ),
    )
    | inl stands ↦
        let begins : MayBegin standing (fields_of line) = record { keyword = found.0; begins = found.1; stands = stands } in
        elim (has_room_decided standing found.0) [
          | inr none ↦ inr (
            Limit,
            inr (
              begins,
              inl (
                (λ place. none (subst (HasRoomForLine standing) (laws.lines_begin_with_one_keyword (fields_of line) place.keyword found.0 place.begins found.1) place.room)),
                refl,
              ),
            ),
          )
          | inl room ↦ placed laws standing line begins (record { keyword = found.0; begins = found.1; room = room })
        ]
  ]
]

neither_version : (line : List ℕ) → line ≢ line_text (lines.Version One) → line ≢ line_text (lines.Version Two) → (version : TextVersion)
    → line ≢ line_text (lines.Version version)
neither_version line not_one not_two One = not_one
neither_version line not_one not_two Two = not_two

-- a line that is that of a version leads on
version_leads : LineLaws → (line : List ℕ) (version : TextVersion) → line ≡ line_text (lines.Version version) → LeadsBy start line (begun version)
version_leads laws line version is =
    let said = lines.Version version in
    record {
      said = said;
      spells = subst (λ (text : List ℕ). SpellsLine (fields_of text) said) (sym is) (spells_text laws said (record { form = tt; coherent = tt }));
      follows = record { is = record { form = tt; coherent = tt }; stands = tt; room = tt; agrees = tt };
      leads = refl;
    }

version_or_not : LineLaws → (line : List ℕ) → LeadsOrIsFaulty scenario_rules start line
version_or_not laws line = elim (text_decided line (line_text (lines.Version One))) [
  | inl one ↦ inl (begun One, version_leads laws line One one)
  | inr not_one ↦ elim (text_decided line (line_text (lines.Version Two))) [
    | inl two ↦ inl (begun Two, version_leads laws line Two two)
    | inr not_two ↦ inr (Version, (refl, neither_version line not_one not_two))
  ]
]

each_line : LineLaws → (from : ScenarioStanding) (line : List ℕ) → LeadsOrIsFaulty scenario_rules from line
each_line laws start line = version_or_not laws line
each_line laws (ended draft) line = inr (Extra, refl)
each_line laws from line = goes_or_is_faulty laws from line

end_or_not : (standing : ScenarioStanding) → ScenarioMayEnd standing ⊎ (¬ ScenarioMayEnd standing)
end_or_not (ended draft) = inl tt
end_or_not standing = inr (λ may. may)

complete : LineLaws → AreComplete scenario_rules
complete laws = record { lines = each_line laws; ends = end_or_not }

-- what bytes are or have
abbrev AreTextOrFaulty : List ℕ → Type 0
AreTextOrFaulty bytes = IsScenarioText bytes ⊎ ((number : ℕ) × (fault : FaultReason) × IsFirstScenarioFault bytes number fault)

told : (bytes : List ℕ) (to : ScenarioStanding) → ScenarioMayEnd to → HasOutcome scenario_rules bytes (Whole to) → AreTextOrFaulty bytes
told bytes (ended draft) may is = let spelled = whole_is_spelled bytes draft is in inl (scenario_of draft, spelled.0, spelled.1)
told bytes to may is = absurd may

outcome_told : (bytes : List ℕ) (outcome : TextOutcome ScenarioStanding FaultReason) → HasOutcome scenario_rules bytes outcome → AreTextOrFaulty bytes
outcome_told bytes (Whole to) is = told bytes to (whole_ends scenario_rules start to 1 (lines_of bytes) is).may is
outcome_told bytes (Faulty number fault) is = inr (number, fault, is)

-- each list of bytes is the text of a scenario, or has a first faulty line
pub text_or_fault : LineLaws → (bytes : List ℕ) → IsScenarioText bytes ⊎ ((number : ℕ) × (fault : FaultReason) × IsFirstScenarioFault bytes number fault)
text_or_fault laws bytes = let found = some_outcome scenario_rules (complete laws) bytes in outcome_told bytes found.0 found.1
