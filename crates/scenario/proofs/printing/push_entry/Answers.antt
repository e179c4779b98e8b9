use Rattle.std.proofs.Common.{◌∙◌, ◌++◌, ap, map}
use Rattle.std.specs.String.{string_bytes}
use Rattle.text_fields.specs.Lines.{text_with}
use Rattle.scenario_lines.specs.declared.line.Happening.TheVariants as happenings
use Rattle.scenario_lines.specs.declared.line.Line.TheVariants as lines
use Rattle.scenario_lines.specs.Spelling.{line_text}
use Rattle.scenario.specs.EntryLines.{choice_lines}
use Rattle.std.proofs.lemmas.Result.{IfOk-equal}
use Rattle.scenario.proofs.PrintedLines.{three_lists}
use Rattle.scenario.proofs.printing.push_entry.Goals as goal

pub returns : goal.returns
returns c = IfOk-equal _ _ _ _ c.push_choice.ensures
    (three_lists _ _ _ (map (λ event. lines.Air c.args.exchange (happenings.Event event.0 event.1)) c.args.entry.now.events)
    (map (λ tag. lines.Air c.args.exchange (happenings.Miss tag)) c.args.entry.now.missed) (choice_lines c.args.exchange c.args.entry.now.choice)
    (c.in_ok-push_events.ensures ∙ ap (λ es. string_bytes c.args.text.now ++ text_with (map line_text (map (λ event. lines.Air c.args.exchange (happenings.Event event.0 event.1)) es))) c.as_slice.ensures.value)
    (c.in_ok-push_missed.ensures ∙ ap (λ ms. string_bytes c.push_events.new.text ++ text_with (map line_text (map (λ tag. lines.Air c.args.exchange (happenings.Miss tag)) ms))) c.as_slice-2.ensures.value))
