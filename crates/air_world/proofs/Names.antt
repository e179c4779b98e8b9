-- The names of definitions and lemmas of crates below, and of this one, that the proofs of this crate cite.
pub use Rattle.access_ops.specs.OpRunValue.{IsNextOperation, OpRunStandsFor, OpRunValue, last_answer, turns_in, turns_left}
pub use Rattle.access_ops.specs.Operations.{Dialogue, IsAnswerFor, Move, answered, dialogue_after, dialogue_behind, dialogue_of, done, reception_in, sends, told}
pub use Rattle.access_ops.specs.declared.OpList.{OpList}
pub use Rattle.access_ops.specs.laws.OperationLaws.{Expects}
pub use Rattle.air_channel.proofs.GivenAnswers.{some_replied}
pub use Rattle.air_channel.specs.Air.{AirValue, NamesTags, air_after, air_after_event, last_exchange, next_exchange}
pub use Rattle.air_events.specs.Cursor.{AreEntriesLeft}
pub use Rattle.air_events.specs.Entries.{Rises, entry_at, no_entry}
pub use Rattle.air_events.specs.TagNumbers.{most_tags}
pub use Rattle.air_events.specs.declared.Choice.{Choice}
pub use Rattle.air_events.specs.declared.Entry.{Entry}
pub use Rattle.air_events.specs.declared.Event.{Event}
pub use Rattle.air_model.proofs.AwaitedLaws.{awaited_reception, silent_awaited}
pub use Rattle.air_model.proofs.ReceptionLaws.{few_words, silent_reception, stream_reception}
pub use Rattle.air_model.specs.Channel.{Given, HasFewLevels, IsReadBy, broken, given_in, given_of, got_of, heard_levels, levels_of, raw, silence, wave_for, whole, whole_or_silence}
pub use Rattle.air_model.specs.Past.{Item, Record, Start, befell, ended, exchanged, exchanges_in, next_entry, next_record, operated, past_behind_command, rounds_in, tags_behind, tags_behind_from}
pub use Rattle.air_model.specs.declared.got.Got.{Got, Got as Gave}
pub use Rattle.air_world.specs.Counting.{CountsLines, Fits, counted_line, counted_lines, nothing_counted}
pub use Rattle.air_world.specs.Listing.{HearsPairs, first_fault_of, pair_told, pairs_told}
pub use Rattle.air_world.specs.NewAir.{IsGroupOfTags, new_air}
pub use Rattle.air_world.specs.Playing.{Begun, HasRoomForExchanges, IsBetweenSteps, IsEndedBy, IsHeard, IsPlayable, IsSentAndHeard, IsUnderway, NamesItsTags, RunIsAt, RunValue, StandsAt, StandsOrFails}
pub use Rattle.air_world.specs.Playing.{begun_with, counted_on, most_in_round, most_in_slot, most_slots}
pub use Rattle.air_world.specs.Saying.{AnswersCommand, AreOfDifferentTags, AreShort, IsBehind, IsOneOf}
pub use Rattle.air_world.specs.Telling.{EndsOrFails, IsCut, IsCutOff, IsCutShort, PlaysOrFails, IsToldWhole, lines_to_tell}
pub use Rattle.air_world.specs.declared.seen_listener.SeenListener.{SeenListener}
pub use Rattle.air_world.proofs.CountedLines.{counted-append, counts-more, uncounted, uncounted-frame}
pub use Rattle.bit_strings.specs.ItemList.{ItemList}
pub use Rattle.command_grammar.specs.declared.commands.Command.{Command}
pub use Rattle.pie_line.specs.Link.{LinkValue, blf_of}
pub use Rattle.q_round.specs.Rounds.{AreOutcomes, Turn, is_over, next_command, next_of_turn, slots_of, turn_of}
pub use Rattle.q_round.specs.SpecValue.{IsLegalSpec, SpecValue}
pub use Rattle.q_round.specs.declared.round.RoundEnd.{RoundEnd}
pub use Rattle.reply_grammar.specs.Reception.{Reception, no_stream, no_such_reply, reception_from, whole_reply}
pub use Rattle.reply_grammar.specs.Replies.{AnswersExpected, Carries, longest_reply}
pub use Rattle.reply_grammar.specs.declared.expected.Expect.{Expect}
pub use Rattle.reply_wire.specs.Heard.{pair_received, rn16_received}
pub use Rattle.report_lines.specs.Line.{line_of}
pub use Rattle.report_lines.specs.ModeLines.{is_of_exchanges, is_of_trace}
pub use Rattle.report_lines.specs.ReportLine.{AnswerLine, BlfLine, DoneLine, ExchangeLine, GivenLine, ListLine, MissedLine, ReportLine, RoundLine, RxLine, SeenLine, TagLine, TxLine}
pub use Rattle.report_lines.specs.SeenCounts.{SeenCount, distinct, seen_among, seen_counts, seen_line}
pub use Rattle.report_lines.specs.TextReport.{IsAdded, spelling_behind, text_from}
pub use Rattle.report_lines.specs.declared.line.Line.{Line}
pub use Rattle.report_lines.specs.declared.mode.PlayFault.{PlayFault}
pub use Rattle.report_lines.specs.declared.mode.PlayFault.TheVariants.{OutOfMemory, Write}
pub use Rattle.report_lines.specs.declared.mode_spelling.ModeSpelling.{ModeSpelling}
pub use Rattle.runs.proofs.Growth.{Grows, RoundsKeepLimit, added_lines, answer-keeps, few-outcomes, past_lines-more, round-holds, steps-grow, turns-grow}
pub use Rattle.runs.proofs.HeadlineCounts.{few-exchanges, round-exchanges, slot-exchanges, steps-exchanges}
pub use Rattle.runs.proofs.HeadlineLegal.{legal-step, legal-steps}
pub use Rattle.runs.proofs.PlayedRounds.{PlayedRound, SlotOfRun, number_of, past_behind_played}
pub use Rattle.runs.proofs.Tags.{length-tags, tags-befell, tags-ended, tags-exchanged, tags-operated}
pub use Rattle.runs.specs.Headline.{AreLegalSteps, IsLegalStep, most_operating}
pub use Rattle.runs.specs.History.{ack_reception, dialogue_begun, operation_reception, outcome_of, past_behind, past_behind_ack, past_behind_answer, past_behind_dialogue, past_behind_round}
pub use Rattle.runs.specs.History.{past_behind_slot, past_behind_step, past_behind_turn, past_behind_turns, slot_reception}
pub use Rattle.runs.specs.Listing.{Listed, listed_by, listed_from, listing_of, reception_of_ack}
pub use Rattle.runs.specs.NextItem.{expectation_of}
pub use Rattle.runs.specs.Report.{exchange_lines, item_lines, last_lines, list_line, report_text_of, run_lines, tag_lines, wave_lines}
pub use Rattle.runs.specs.RoundsTold.{GoesByTags, pair_listed, pairs_listed_by, pairs_since, played_of, round_ended, rounds_told}
pub use Rattle.runs.specs.Said.{answer_line, exchanged_by, gave_of, said_lines}
pub use Rattle.runs.specs.ScenarioHistory.{history, scenario_tag, start_of}
pub use Rattle.runs.specs.Summary.{all_quiet, is_quiet, pairs_in, slots_past, summary_of}
pub use Rattle.runs.specs.laws.Replies.{AnswersSo, AreReplies, StaysLegal, replies-in-answered}
pub use Rattle.scenario.specs.Groups.{copies, copies_from, copies_of, copy_of, raised, tags_of}
pub use Rattle.scenario.specs.Limits.{IsCount, IsEntry, IsGroup, IsScenario, IsStep, most_tags_of, no_operations}
pub use Rattle.scenario.specs.declared.values.Scenario.{Scenario}
pub use Rattle.scenario.specs.declared.values.Step.{Step}
pub use Rattle.scenario.specs.declared.values.TagGroup.{TagGroup}
pub use Rattle.scenario_lines.specs.declared.version.Version.{Version}
pub use Rattle.scenario_lines.specs.declared.version.Version.TheVariants.{One, Two}
pub use Rattle.std.proofs.Common.{Bool, Err, List, None, Ok, Option, Result, Some, [], ap, append-nil, append_assoc, arith, drop, eq-eqb, false, get_or, inl, inr, length, length-append, map, not}
pub use Rattle.std.proofs.Common.{refl, slice_get, slice_index, subst, suc, sym, take, true, vec_capacity, vec_len, zero, ℕ, ◌%◌, ◌&&◌, ◌*◌, ◌++◌, ◌+◌, ◌-◌, ◌<◌, ◌==◌, ◌||◌, ◌∙◌, ◌∷◌, ◌≡◌, ◌≢◌, ◌≤◌}
pub use Rattle.std.proofs.Common.{◌⊎◌}
pub use Rattle.std.proofs.lemmas.List.{drop_all, drop_more, length-map, map-append, take_all, take_more}
pub use Rattle.std.proofs.lemmas.List.Elements.{All-from_recursion, All-get_or, All-head, All-nil, All-tail, All-weaker}
pub use Rattle.std.proofs.lemmas.Option.{get_or_from_slice_get, none-some, same_Some, slice_get-get_or, slice_get-map, slice_get_within}
pub use Rattle.std.proofs.lemmas.Result.{IfOk-weaker, on_ok_weaker}
pub use Rattle.std.specs.Borrow.{Bor}
pub use Rattle.std.specs.List.{AllByRecursion, AllZip}
pub use Rattle.std.specs.Option.{IsSomeAnd, option_map}
pub use Rattle.std.specs.Prelude.{All, IfSome, if◌then◌else◌}
pub use Rattle.std.specs.Result.{IfErr, IfOk, IsErrAnd, IsErrOf, OnErr, OnOk}
pub use Rattle.tag_machine.specs.Answers.{Outcome, Sent, bits_sent}
pub use Rattle.tag_machine.specs.Hearing.{tag_value_of}
pub use Rattle.tag_machine.specs.TagValue.{BodyValue, IsLegalTag, StateValue, TagValue}
pub use Rattle.tag_machine.specs.TagsInExchange.{AreLegalTags, Replied, outcomes_in, replies_from, replies_in, reply_of, tags_after}
pub use Rattle.tag_machine.specs.declared.any_tag.AnyTag.{AnyTag}
pub use Rattle.tag_machine.specs.laws.AnswersByCommand.{expect_of}
pub use Rattle.tag_population.specs.Answers.{AnswerValue, answer_of, answer_value_of, answers_of}
