-- The names of definitions and lemmas of the crates below that the proofs of this crate cite.
pub use Rattle.access_ops.proofs.DialogueLaws.{AwaitsReplies, SendsAtMost, dialogues-are-few, dialogues-await}
pub use Rattle.access_ops.specs.Operations.{AreMoves, Dialogue, IsAnswerFor, IsMoveFor, Move, answered, denials, dialogue_after, dialogue_behind, dialogue_of, done, first_of, is_for, next_operation}
pub use Rattle.access_ops.specs.Operations.{operations_from_rn16, reception_in, sends, tells, told, words_expected}
pub use Rattle.access_ops.specs.declared.Op.{Op}
pub use Rattle.access_ops.specs.declared.OpList.{OpList}
pub use Rattle.access_ops.specs.declared.op_next.Answer.{Answer}
pub use Rattle.access_ops.specs.declared.op_next.Answer.TheVariants.{Got}
pub use Rattle.access_ops.specs.declared.op_next.OpNext.{OpNext}
pub use Rattle.access_ops.specs.declared.op_next.OpNext.TheVariants.{Result, Send}
pub use Rattle.access_ops.specs.declared.op_next.OpResult.{OpResult}
pub use Rattle.access_ops.specs.laws.OperationLaws.{Expects, IsLegalOp}
pub use Rattle.air_events.specs.Entries.{entry_at, no_entry}
pub use Rattle.air_events.specs.declared.Choice.{Choice}
pub use Rattle.air_events.specs.declared.Entry.{Entry}
pub use Rattle.air_events.specs.declared.Event.{Event}
pub use Rattle.air_events.specs.declared.Several.{Several}
pub use Rattle.air_model.proofs.GivenLaws.{given_is_read, given_of_replies, given_of_sent}
pub use Rattle.air_model.proofs.ReceptionLaws.{expected_answers, from_whole, stream_reception, whole_is_heard}
pub use Rattle.air_model.specs.Channel.{Given, GoesByReplies, IsOfReplies, IsReadBy, broken, default_given, first_broken, given_in, given_of, heard_levels, raw, silence, wave_for, whole}
pub use Rattle.air_model.specs.Channel.{whole_or_silence}
pub use Rattle.air_model.specs.Past.{Item, Record, Start, befell, ended, exchanged, exchanges_in, hearers_of, is_hearer, next_entry, next_record, operated, past_behind_command, rounds_in, tag_behind}
pub use Rattle.air_model.specs.Past.{tags_behind, tags_behind_from}
pub use Rattle.air_model.specs.Reception.{HoldsOfSent, IsGiven, IsGivenFor, IsReplyFor, IsUnmistakable, has_handle, has_preamble, is_expected, reception_of, reception_with}
pub use Rattle.bit_strings.specs.Words.{bits_of_words}
pub use Rattle.bit_strings.specs.declared.code.Code.{Code}
pub use Rattle.bit_strings.specs.laws.NumbersInBits.{value_of-below}
pub use Rattle.command_fields.specs.declared.choices.Sel.{Sel}
pub use Rattle.command_fields.specs.declared.choices.Side.{Side}
pub use Rattle.command_fields.specs.declared.choices.Side.TheVariants.{A, B}
pub use Rattle.command_fields.specs.declared.choices.UpDn.{UpDn}
pub use Rattle.command_fields.specs.declared.choices.UpDn.TheVariants.{Down, Same, Up}
pub use Rattle.command_grammar.specs.Commands.{IsLegalCommand, IsWord}
pub use Rattle.command_grammar.specs.declared.commands.Command.{Command}
pub use Rattle.gen2_crc.specs.Crc.{crc16_of}
pub use Rattle.gen2_crc.specs.laws.CheckNumbers.{length-crc16_of}
pub use Rattle.reply_wire.specs.Codes.{table_of}
pub use Rattle.reply_wire.specs.laws.Codes.{stream_least}
pub use Rattle.pie_line.specs.Link.{LinkValue}
pub use Rattle.q_round.proofs.RoundFacts.{facts}
pub use Rattle.q_round.proofs.RoundLaws.{slots-within}
pub use Rattle.q_round.proofs.SlotLaws.{slots-over, slots-underway}
pub use Rattle.q_round.specs.Rounds.{AreOutcomes, Turn, adjust, frame_of, is_last_turn, is_last_turn as over, is_over, limit, next_command, next_of_turn, q_of, query, quiet, rep, slots_of, turn_of}
pub use Rattle.q_round.specs.SpecValue.{IsLegalSpec, SpecValue}
pub use Rattle.q_round.specs.declared.frame.Outcome.{Outcome, Outcome as SlotOutcome}
pub use Rattle.q_round.specs.declared.frame.Outcome.TheVariants.{Silence, Whole}
pub use Rattle.q_round.specs.declared.round.Next.{Next}
pub use Rattle.q_round.specs.declared.round.RoundEnd.{RoundEnd}
pub use Rattle.q_round.specs.laws.RoundFacts.{IsNextSlot, IsNextTurn, RoundFacts}
pub use Rattle.q_round.specs.laws.RoundLaws.{IsLegalNext, IsMoved, IsSilentFrame}
pub use Rattle.reply_grammar.proofs.Suiting.{suits-from, suits-true}
pub use Rattle.reply_grammar.specs.PcAndEpc.{same_pair}
pub use Rattle.reply_grammar.specs.Reception.{Reception, no_stream, no_such_reply, reception_from, whole_reply}
pub use Rattle.reply_grammar.specs.Replies.{AnswersExpected, AreWords, IsReply, Suits, handle_of, spelling, suits}
pub use Rattle.reply_grammar.specs.declared.expected.Expect.{Expect}
pub use Rattle.reply_grammar.specs.declared.expected.Received.{Received}
pub use Rattle.reply_grammar.specs.declared.expected.Received.TheVariants.{Refused}
pub use Rattle.reply_grammar.specs.declared.expected.Reply.{Reply}
pub use Rattle.reply_grammar.specs.declared.expected.Reply.TheVariants.{Epc, Error, Handle, Header, Rn16, Words}
pub use Rattle.reply_grammar.specs.laws.Passing.{answers_pass}
pub use Rattle.reply_wire.proofs.ReceivedLaws.{received_there}
pub use Rattle.reply_wire.specs.Received.{IsReceived, IsWhole}
pub use Rattle.reply_wire.specs.Receiving.{received_of}
pub use Rattle.report_lines.specs.ModeLines.{is_of_exchanges, is_of_trace, is_plain, keeps}
pub use Rattle.report_lines.specs.ReportLine.{DoneLine, ExchangeLine, GivenLine, ListLine, MissedLine, OpLine, ReportLine, RoundLine, RxLine, SeenLine, TagLine, TxLine}
pub use Rattle.report_lines.specs.SeenCounts.{SeenCount, distinct, seen_counts}
pub use Rattle.report_lines.specs.declared.mode.Mode.{Mode}
pub use Rattle.report_lines.specs.declared.mode.Mode.TheVariants.{Exchanges, Trace, Vcd}
pub use Rattle.runs.specs.CompleteRound.{CompleteInventory, EndsByLimit, HasNumber, IsMatchedTag, IsQuietComplete, ListsNoTagTwice, StepsFlags}
pub use Rattle.runs.specs.CountedTags.{CountedRound, is_spoken_to, tags_spoken_to}
pub use Rattle.runs.specs.EventsAndRecords.{IsConcluded, events_and_records_of}
pub use Rattle.runs.specs.EveryTag.{AllTakePart, HaveOwnEpcs, ListsEveryTag, pairs_listed}
pub use Rattle.runs.specs.Headline.{Acknowledges, AreHeardAsListed, AreLegalSteps, HasNoRawStream, Headline, IsAckOf, IsFromTag, IsGivenWhole, IsLegalRound, IsLegalStep, IsRecordOf, IsSelect}
pub use Rattle.runs.specs.Headline.{IsSentByATag, KeepsLimit, begins_slot, begins_slot_of, is_list_line, is_op_line, is_round_line, is_tag_line, most_exchanges, most_operating, op_lines, rounds_of}
pub use Rattle.runs.specs.Headline.{slot_records, tag_in_exchange, tag_lines_behind}
pub use Rattle.runs.specs.History.{ack_reception, dialogue_begun, history_of, operation_reception, outcome_of, past_behind, past_behind_ack, past_behind_answer, past_behind_dialogue}
pub use Rattle.runs.specs.History.{past_behind_listing, past_behind_round, past_behind_slot, past_behind_step, past_behind_turn, past_behind_turns, slot_reception}
pub use Rattle.runs.specs.Honest.{AreApart, IsApart, IsHonest}
pub use Rattle.runs.specs.ListLines.{IsEntryOf, IsOfRepliesIn, entries_in}
pub use Rattle.runs.specs.Listed.{is_of_round, is_of_slot, listed_as, sender_listed_by, sender_where, tags_listed_in, tags_listed_in_slot, tags_listed_where, times}
pub use Rattle.runs.specs.Listing.{Listed, listed_by, listed_from, listing_of, reception_of_ack}
pub use Rattle.runs.specs.MomentsOfRound.{Ending, begins_later_slot, ending_of, flags_after_query, flags_behind, is_matched_in, is_query, is_query_of, past_after_query, tag_after_query}
pub use Rattle.runs.specs.NextItem.{GrowsByNext, dialogue_behind_exchange, dialogue_behind_record, dialogue_behind_result, dialogue_left, expectation_of, finished_in, item_by_rule, item_in_round}
pub use Rattle.runs.specs.NextItem.{item_of_slots, item_of_step, next_item, outcomes_of_round, reception_of_slot, results_behind_exchange, results_told_in, rn_of, rn_received}
pub use Rattle.runs.specs.PortalHistories.{ArePortalsIndependent, AreTurns, IsOfPortals, alone, is_round_of, lines_told, other_portal, portals_told, specs_of}
pub use Rattle.runs.specs.Recounts.{AreInTurn, HoldsOfEach, IsFresh, IsListedBySound, IsRecount, IsSound, IsThere, MayTakePart, Recount, enough_from_any, enough_from_fresh, history_with}
pub use Rattle.runs.specs.Recounts.{is_inventoried_in, other_side, round_behind, steps_with, tag_where, unsound_from}
pub use Rattle.runs.specs.Report.{exchange_lines, first_lines, item_lines, last_lines, list_line, past_lines, report_of, run_lines, tag_lines}
pub use Rattle.runs.specs.RoundsTold.{GoesByTags, IsBetweenRounds, IsPlain, first_round, pair_listed, pairs_listed_by, pairs_since, played_of, round_ended, rounds_told, senders_since, start_with}
pub use Rattle.runs.specs.Said.{answer_line, exchanged_by}
pub use Rattle.runs.specs.ScenarioHistory.{history, scenario_tag, start_of}
pub use Rattle.runs.specs.TagAtEnd.{IsListedOnce, StandsAtEnd, StandsAtQuiet, is_acknowledged}
pub use Rattle.runs.specs.TagInRound.{HasAnswered, IsAfterSlot, IsBeforeSlot, IsCounter, IsCounterBefore, IsToCome, IsUnlisted, KeepsBody, StandsAfterSlot, StandsBeforeSlot, flags_behind_query}
pub use Rattle.runs.specs.TagInRound.{flags_closed, flags_in_round, is_acknowledged_by, is_matched, slot_answer_of}
pub use Rattle.runs.specs.laws.Replies.{AnswersSo, StaysLegal, events-legal, outcomes-answered, replies-answered}
pub use Rattle.scenario.specs.Groups.{tags_of}
pub use Rattle.scenario.specs.Limits.{IsGroup, IsScenario, IsStep, no_operations}
pub use Rattle.scenario.specs.declared.values.Scenario.{Scenario}
pub use Rattle.scenario.specs.declared.values.Step.{Step}
pub use Rattle.scenario.specs.declared.values.TagGroup.{TagGroup}
pub use Rattle.scenario_lines.proofs.TagLaws.{banks-legal}
pub use Rattle.scenario_lines.specs.TagForm.{IsTag}
pub use Rattle.scenario_lines.specs.declared.tag.TagSpec.{TagSpec}
pub use Rattle.scenario_lines.specs.declared.version.Version.{Version}
pub use Rattle.session_flags.specs.Flags.{flags_after_inversion, is_side, matches, sel_allows, side_after, side_of}
pub use Rattle.session_flags.specs.declared.flags.Effect.TheVariants.{Negate}
pub use Rattle.session_flags.specs.declared.flags.Flags.{Flags}
pub use Rattle.std.proofs.Common.{Bool, Contains, List, None, Option, Some, [], add-one, ap, append-nil, append_assoc, arith, eq-eqb, false, filter, if◌then◌else◌, inl, inr, length, length-append}
pub use Rattle.std.proofs.Common.{map, ne_eqb, not, option_map, refl, slice_get, subst, suc, sym, true, zero, ℕ, ◌%◌, ◌&&◌, ◌*◌, ◌++◌, ◌+◌, ◌-◌, ◌/◌, ◌<◌, ◌==◌, ◌^◌, ◌||◌, ◌∙◌, ◌∷◌, ◌≡◌, ◌≢◌, ◌≤◌}
pub use Rattle.std.proofs.Common.{◌⊎◌}
pub use Rattle.std.proofs.Math.Bool.{or-false, or-true}
pub use Rattle.std.proofs.Math.Nat.{mul-add, mul-le-mul, mul-le-mul_left, mul-one, pow-le-pow_right}
pub use Rattle.std.proofs.lemmas.Bool.{and_parts, cases_lt, eqb-true, false_from_ne_true}
pub use Rattle.std.proofs.lemmas.List.{length-map, map-append}
pub use Rattle.std.proofs.lemmas.List.Elements.{All-cons, All-from_recursion, All-get_or, All-nil, filter-append, recursion_from_All}
pub use Rattle.std.proofs.lemmas.Nat.{mod_below, pow_pos}
pub use Rattle.std.proofs.lemmas.Option.{get_or_from_slice_get, slice_get-map, slice_get_past, slice_get_within}
pub use Rattle.std.specs.Cmp.Lexicographic.{pointwise, same_text}
pub use Rattle.std.specs.List.{AllByRecursion, AllZip}
pub use Rattle.std.specs.Prelude.{All, nat_eq}
pub use Rattle.tag_machine.specs.Answers.{IsSent, Outcome as TagOutcome, Sent, plain_answer, silent}
pub use Rattle.tag_machine.specs.Draws.{back, begin_reply, body_after_draw, body_after_inversion, close, draw_of, enter, slot_of_draw}
pub use Rattle.tag_machine.specs.Inventory.{ack, body_after_close, count_down, end_turn, epc_reply, q_after_adjust, query_adjust, query_rep, slot_below, take_part, unless_half}
pub use Rattle.tag_machine.specs.Step.{step}
pub use Rattle.tag_machine.specs.TagValue.{AcknowledgedState, ArbitrateState, BodyValue, IsLegalTag, KilledState, OpenState, ReadyState, ReplyState, SecuredState, StateValue, TagValue, UnpoweredState}
pub use Rattle.tag_machine.specs.TagValue.{is_present}
pub use Rattle.tag_machine.specs.TagsInExchange.{AreLegalTags, Replied, is_missed, outcome_in, outcome_unless, outcomes_from, outcomes_in, replies_from, replies_in, reply_of, tag_after_events}
pub use Rattle.tag_machine.specs.TagsInExchange.{tag_after_own_event, tags_after, tags_after_event}
pub use Rattle.tag_machine.specs.declared.states.Half.{Half}
pub use Rattle.tag_machine.specs.declared.states.Held.{Held}
pub use Rattle.tag_machine.specs.laws.AnswersByCommand.{IsAnswerTo, IsDelayedAnswer, IsHandleAnswer, IsHeaderOrError, IsKillAnswer, IsReadAnswer, IsReadReply}
pub use Rattle.tag_machine.specs.laws.Extended.{has_half}
pub use Rattle.tag_memory.specs.Image.{banks_of, image_banks}
pub use Rattle.tag_memory.specs.Memory.{AreBanksOfWords, Banks, epc_of, pc_of, stored_crc_of}
pub use Rattle.two_portals.proofs.Independence.{Laws, new-tags-agree, new-tags-same}
pub use Rattle.two_portals.specs.Played.{AreReady, IsLeftByRound, IsPairOf, IsQuietRound, ListsItsTags, Played, is_named, pc_and_epc_of}
pub use Rattle.two_portals.specs.PortalLines.{HaveTheSameSenders, IsNewTag, IsOfPortal, is_of_session, lines_of_portal, portal_lines, portal_lines_of, portal_rounds_of, rounds_played}
pub use Rattle.two_portals.specs.declared.portal_line.PortalLine.{PortalLine}
