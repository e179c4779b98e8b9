-- The names of definitions and lemmas of the crates below that the proofs of this crate cite.
pub use Rattle.access_ops.specs.declared.Op.{Op}
pub use Rattle.access_ops.specs.declared.OpList.{OpList}
pub use Rattle.air_events.specs.declared.Choice.{Choice}
pub use Rattle.air_events.specs.declared.Entry.{Entry}
pub use Rattle.air_events.specs.declared.Event.{Event}
pub use Rattle.air_events.specs.declared.Several.{Several}
pub use Rattle.command_grammar.specs.declared.commands.Command.{Command}
pub use Rattle.pie_line.specs.Link.{LinkValue}
pub use Rattle.top_call.specs.PortalFault.{captures, first_refused, head_length, lines_of_steps, portal_fault}
pub use Rattle.top_call.specs.PortalText.{portal_line_text}
pub use Rattle.q_round.specs.SpecValue.{SpecValue}
pub use Rattle.runs.specs.PortalHistories.{AreTurns, IsOfPortals, other_portal, specs_of}
pub use Rattle.scenario.proofs.Groups.{count_copies}
pub use Rattle.scenario.specs.EntryLines.{air_lines, entry_lines}
pub use Rattle.scenario.specs.Groups.{copies_of, tags_of}
pub use Rattle.scenario.specs.Limits.{IsCount, IsDefault, IsEntry, IsGroup, IsScenario, most_tags_of}
pub use Rattle.scenario.specs.ScenarioText.{group_line, head_lines, scenario_lines, step_lines}
pub use Rattle.scenario.specs.declared.values.Scenario.{Scenario}
pub use Rattle.scenario.specs.declared.values.Step.{Step}
pub use Rattle.scenario.specs.declared.values.TagGroup.{TagGroup}
pub use Rattle.scenario_lines.specs.declared.line.Line.{Line}
pub use Rattle.scenario_lines.specs.declared.version.Version.{Version}
pub use Rattle.scenario_lines.specs.declared.version.Version.TheVariants.{One, Two}
pub use Rattle.std.proofs.Common.{Bool, List, None, Option, Some, [], add-one, ap, append-nil, append_assoc, arith, drop, drop-cons, eq-eqb, false, get_or, inl, inr, length, map, refl, subst, sym}
pub use Rattle.std.proofs.Common.{take, true, ℕ, ◌++◌, ◌+◌, ◌<◌, ◌∙◌, ◌∷◌, ◌≡◌, ◌≢◌, ◌≤◌, ◌⊎◌}
pub use Rattle.std.proofs.lemmas.Bool.{eqb-true}
pub use Rattle.std.proofs.lemmas.List.{drop_all, length-append, take_more}
pub use Rattle.std.proofs.lemmas.List.Elements.{All-head, All-tail}
pub use Rattle.std.specs.List.{flat_map}
pub use Rattle.std.specs.Option.{is_some}
pub use Rattle.std.specs.Prelude.{All, IsTrue, if◌then◌else◌, ◌==◌}
pub use Rattle.std.specs.String.{string_bytes}
