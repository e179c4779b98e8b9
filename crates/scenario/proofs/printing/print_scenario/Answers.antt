use Rattle.std.proofs.Common.{[], ◌∙◌, ◌++◌, ap, length, map}
use Rattle.std.specs.List.{flat_map}
use Rattle.std.specs.String.{string_bytes}
use Rattle.text_fields.specs.Lines.{text_with}
use Rattle.scenario_lines.specs.declared.line.Line.TheVariants as lines
use Rattle.scenario_lines.specs.Spelling.{line_text}
use Rattle.scenario.specs.EntryLines.{air_lines}
use Rattle.scenario.specs.Groups.{tags_of}
use Rattle.scenario.specs.ScenarioText.{default_lines, group_line, step_lines}
use Rattle.scenario.proofs.PrintedLines.{gains-line, gains-lines}
use Rattle.scenario.proofs.printing.print_scenario.Goals as goal

pub push_entries-requires : goal.push_entries-requires
push_entries-requires c = rw c.as_slice-2.ensures.value (length (tags_of c.args.scenario.now.groups), c.requires.entries)

pub push_steps-requires : goal.push_steps-requires
push_steps-requires c = rw c.as_slice-3.ensures.value (length (tags_of c.args.scenario.now.groups), c.requires.steps)

pub returns : goal.returns
returns c =
    let said = c.args.scenario.now in
    let version = gains-line {start = []} [] (lines.Version said.version) (record { is = c.new-text.ensures.bytes }) c.in_ok-push_version.ensures in
    let link = gains-line _ (lines.Link said.link) version c.in_ok-push_link.ensures in
    let several = gains-lines _ (default_lines said.version said.several) link c.in_ok-push_several.ensures in
    let groups = gains-lines _ (map group_line said.groups) several
    (c.in_ok-push_groups.ensures ∙ ap (λ gs. string_bytes c.push_several.new.text ++ text_with (map line_text (map group_line gs))) c.as_slice.ensures.value) in
    let airs = gains-lines _ (air_lines said.entries) groups
    (c.in_ok-push_entries.ensures ∙ ap (λ es. string_bytes c.push_groups.new.text ++ text_with (map line_text (air_lines es))) c.as_slice-2.ensures.value) in
    let steps = gains-lines _ (flat_map (step_lines said.version) said.steps) airs
    (c.in_ok-push_steps.ensures ∙ ap (λ ss. string_bytes c.push_entries.new.text ++ text_with (map line_text (flat_map (step_lines said.version) ss))) c.as_slice-3.ensures.value) in
    c.new.ensures ∙ ap (λ v. v.items) c.into_bytes.ensures.value ∙ (gains-line _ lines.End steps c.in_ok-push_end.ensures).is
