-- What a tag at the bench does, line by line, and the text that tells it. What a tag makes of a command is that of Annex B and
-- Annex C; the lines are profile.
use Rattle.std.specs.Prelude.{◌≡◌, ℕ, ◌+◌, Bool, true, false, List, [], ◌∷◌, ◌++◌, codes, Option, Some, None}
use Rattle.std.specs.List.{AllZip}
use Rattle.std.specs.Fmt.{decimal}
use Rattle.text_fields.specs.Lines.{line_with, text_with}
use Rattle.command_grammar.specs.declared.commands.Command.{Command}
use Rattle.command_grammar.specs.Commands.{SpellsCommand}
use Rattle.wire_text.specs.ReplyText.{reply_line}
use Rattle.report_lines.specs.ReportLine.{TagLine, DoneLine, report_text}
use Rattle.scenario_lines.specs.declared.tag.TagSpec.{TagSpec}
use Rattle.tag_machine.specs.Answers.{Outcome, Sent, silent}
use Rattle.tag_machine.specs.Events.{tag_after_event, tag_of_image}
use Rattle.tag_machine.specs.Step.{step}
use Rattle.tag_machine.specs.TagValue.{TagValue}
use Rattle.bench_lines.specs.Stimuli.{Stimulus, StimulusEffect, Hears, Befalls, Nothing}
use Rattle.bench_lines.specs.Stimuli as stimuli
use Rattle.bench_lines.specs.StateLine.{state_line}

-- What a line does to the tag. Bits are the command that they spell; where they spell none, the tag hears nothing.
abbrev pub HasEffect : Stimulus → StimulusEffect → Type 0
HasEffect (stimuli.SendsCommand command) effect = effect ≡ Hears command
HasEffect (stimuli.Brings event) effect = effect ≡ Befalls event
HasEffect (stimuli.SendsBits bits) (Hears command) = SpellsCommand command bits
HasEffect (stimuli.SendsBits bits) Nothing = (command : Command) → ¬ SpellsCommand command bits
HasEffect (stimuli.SendsBits bits) (Befalls event) = ⊥

-- the tag after it, and what it answers
abbrev pub outcome_of_effect : StimulusEffect → TagValue → Outcome
outcome_of_effect (Hears command) tag = step command tag.state tag.body
outcome_of_effect (Befalls event) tag = record { tag = tag_after_event event tag.state tag.body; answer = None }
outcome_of_effect Nothing tag = silent tag.state tag.body

-- a reply with the extended preamble, or with the TRext of the Query
abbrev pub answer_preamble_word : Bool → List ℕ
answer_preamble_word true = codes "extended"
answer_preamble_word false = codes "plain"

-- what was answered to the line of this number
abbrev pub probe_answer_line : ℕ → Option Sent → List ℕ
probe_answer_line number None = line_with (codes "answer" ∷ decimal number ∷ codes "-" ∷ [])
probe_answer_line number (Some sent) = line_with (codes "answer" ∷ decimal number ∷ answer_preamble_word sent.extended ∷ reply_line sent.reply ∷ [])

-- the lines that tell of one line: an event has no answer
abbrev pub probe_lines_behind : ℕ → StimulusEffect → TagValue → List (List ℕ)
probe_lines_behind number (Hears command) tag =
    probe_answer_line number (outcome_of_effect (Hears command) tag).answer ∷ state_line number (outcome_of_effect (Hears command) tag).tag ∷ []
probe_lines_behind number (Befalls event) tag = state_line number (outcome_of_effect (Befalls event) tag).tag ∷ []
probe_lines_behind number Nothing tag = probe_answer_line number None ∷ state_line number tag ∷ []

-- the tag as a report tells it, and that this was all
abbrev pub last_text : TagValue → List ℕ
last_text tag = report_text (TagLine 0 tag ∷ DoneLine ∷ [])

-- The text behind the line before this number: what each effect makes of the tag, one after another, and then the tag as a report
-- tells it, and that this was all.
abbrev pub probe_text_from : ℕ → TagValue → List StimulusEffect → List ℕ
probe_text_from number tag [] = last_text tag
probe_text_from number tag (effect ∷ effects) =
    text_with (probe_lines_behind number effect tag) ++ probe_text_from (number + 1) (outcome_of_effect effect tag).tag effects

-- the number of the first line of a probe behind that of the tag
abbrev pub first_number : ℕ
first_number = 3

-- a tag as the line of a tag gives it: ready, with new flags and no draw made
abbrev pub probed_tag : TagSpec → TagValue
probed_tag tag = tag_of_image tag.image tag.locks tag.words

-- the text tells what comes of this, done to the tag
pub record TellsEffects (tag : TagValue) (said : List Stimulus) (text : List ℕ) : Type 0 where
  pub effects : List StimulusEffect
  pub each : AllZip HasEffect said effects
  pub told : text ≡ probe_text_from first_number tag effects
