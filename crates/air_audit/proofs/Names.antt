-- The names of definitions and lemmas of crates below, and of this one, that the proofs of this crate cite.
pub use Rattle.access_ops.specs.declared.op_next.OpResult.{OpResult}
pub use Rattle.air_audit.specs.AuditedTrace.{IsAudited, TraceMayEnd, trace_rules}
pub use Rattle.air_audit.specs.AuditorStanding.{AreAsGiven, AuditStopsAt, AuditorIsAt, AuditorIsBegun, AuditorStandsAt, AuditorValue, GivesStream, GoesOnOrStops, GoesOnWith, IsEarly, IsHearing, KeepsUp}
pub use Rattle.air_audit.specs.AuditorStanding.{Lists, SendsTo, TellsLine, TellsOther, position_behind}
pub use Rattle.air_audit.specs.FirstRefusal.{BeginTrace, IsAuditVerdict, IsFirstRefusal, IsFirstThatBeginsNone}
pub use Rattle.air_audit.specs.HeardLevels.{IsShortAnswer}
pub use Rattle.air_audit.specs.LineRefusals.{DiffersFirst, FirstFails, IsNoTxLine, IsOther, IsRefusedAs, IsRefusedHere, LinePart, audit_reason_of, rx_parts, tx_parts}
pub use Rattle.air_audit.specs.OwnTraces.{HasNoEventStep, IsToldByLines}
pub use Rattle.air_audit.specs.ReceivedLists.{IsReceivedBefore, ListsWhatIsReceived}
pub use Rattle.air_audit.specs.SentFrame.{IsNoFrame, ReadsCommand, ReadsFrame}
pub use Rattle.air_audit.specs.TraceOrder.{GoesOnAs, IsTheLine, Place, TellsNextTag, TraceGoesOn, TraceStanding, begun, behind_exchange, behind_told, between, link_line, listing, next_slot, next_tag}
pub use Rattle.air_audit.specs.TraceOrder.{place_in, place_of_command, record_of, rx_line, sending, telling, told_line}
pub use Rattle.air_audit.specs.TraceLineWords.{word_of, word_of_line}
pub use Rattle.air_audit.specs.TraceLines.{AreFrameOf, Sends}
pub use Rattle.air_audit.specs.declared.stop.Stop.{Stop}
pub use Rattle.air_audit.specs.declared.trace_line_words.Word.{Word}
pub use Rattle.air_audit.specs.declared.verdict.AuditReason.{AuditReason}
pub use Rattle.air_audit.specs.declared.verdict.Verdict.{Verdict}
pub use Rattle.air_audit.specs.declared.verdict.Verdict.TheVariants.{No, Yes}
pub use Rattle.air_events.specs.Cursor.{AreEntriesLeft}
pub use Rattle.air_events.specs.declared.Entry.{Entry}
pub use Rattle.air_events.specs.declared.Several.{Several}
pub use Rattle.air_model.proofs.ReceptionLaws.{few_words, heard_most, stream_reception, whole_is_heard}
pub use Rattle.air_model.specs.Channel.{Given, IsOfStreamLength, default_given, first_broken, given_of, got_of, heard_levels, lead_of, silence, wave_for, whole_or_silence}
pub use Rattle.air_model.specs.Past.{Item, Record, Start, befell, ended, ended as round_ended, exchanged, exchanges_in, next_entry, next_record, operated, rounds_in, tag_behind, tags_behind}
pub use Rattle.air_model.specs.Past.{tags_behind_from}
pub use Rattle.air_model.specs.Reception.{IsGiven, IsGivenFor, reception_of}
pub use Rattle.checked_lines.specs.TextRules.{Faulty, HasOutcome, HasOutcomeFrom, IsText, Lead, TextOutcome, Whole}
pub use Rattle.checked_lines.specs.laws.OneOutcome.{AreUnambiguous, one_fault, some_outcome, text_not_faulty}
pub use Rattle.checked_lines.specs.laws.ReadingOn.{HasReadTo, NextLine, all_read, fault_read, none_read, one_read, outcome_behind, unended_read}
pub use Rattle.command_grammar.specs.Commands.{IsLegalCommand, Spellings, SpellsCommand, spelling_of}
pub use Rattle.command_grammar.specs.declared.commands.Command.{Command}
pub use Rattle.reply_wire.specs.Codes.{table_of}
pub use Rattle.pie_line.specs.Link.{IsLegalLink, LinkValue, blf_of}
pub use Rattle.pie_line.specs.Pie.{IsFrame, frame_kind_of, longest_interval, wave_of, FrameBeginsWith}
pub use Rattle.pie_line.specs.declared.frame.FrameKind.{FrameKind}
pub use Rattle.q_round.specs.declared.round.RoundEnd.{RoundEnd}
pub use Rattle.reply_grammar.specs.Reception.{Reception, no_stream, no_such_reply, reception_from, whole_reply}
pub use Rattle.reply_grammar.specs.declared.expected.Received.{Received}
pub use Rattle.reply_wire.specs.Received.{IsReceived}
pub use Rattle.report_lines.specs.ModeLines.{keeps, line_text_of}
pub use Rattle.report_lines.specs.ReadLines.{HasTxShape, IsDecimal, IsNoRx, IsNoTx, RxFields, TxFields, first_field, most_rx_levels, most_tx_intervals, text_of}
pub use Rattle.report_lines.specs.ReportLine.{BlfLine, DoneLine, GivenLine, ListLine, MissedLine, OpLine, ReportLine, RoundLine, RxLine, SeenLine, TagLine, TxLine, end_word, flags_word, report_fields}
pub use Rattle.report_lines.specs.ReportLine.{report_line_text, result_fields, state_word, text_by}
pub use Rattle.report_lines.specs.declared.mode.Mode.TheVariants.{Trace}
pub use Rattle.runs.proofs.Answering.{TagLaws, given-in-expected, given-of-answers}
pub use Rattle.runs.proofs.MadeRecords.{made-read}
pub use Rattle.runs.proofs.Tags.{length-tags, tags-exchanged}
pub use Rattle.runs.specs.Headline.{AreLegalSteps, IsLegalStep, IsRecordOf, IsSelect, begins_slot, slot_records}
pub use Rattle.runs.specs.Listing.{Listed, listed_by, listed_from, listing_of, reception_of_ack}
pub use Rattle.runs.specs.NextItem.{GrowsByNext, dialogue_behind_exchange, dialogue_behind_record, dialogue_behind_result, dialogue_left, expectation_of, finished_in, item_by_rule, item_in_round}
pub use Rattle.runs.specs.NextItem.{item_of_slots, item_of_step, outcomes_of_round, reception_of_slot, rn_of, rn_received}
pub use Rattle.runs.specs.Report.{exchange_lines, item_lines, last_lines, list_line, past_lines, report_of, report_text_of, run_lines, seen_lines, tag_lines, wave_lines}
pub use Rattle.runs.specs.ScenarioHistory.{history, start_of}
pub use Rattle.scenario.specs.declared.values.Step.{Step}
pub use Rattle.std.proofs.Common.{All, Bool, Err, List, None, Ok, Option, Result, Some, [], ap, append_assoc, ap₂, arith, codes, cond, drop, eq-eqb, eqb-true, false, filter, get_or, if◌then◌else◌}
pub use Rattle.std.proofs.Common.{inl, inr, length, length-append, lt-ltb, ltb, ltb-true, map, ne_eqb, not, refl, slice_get, subst, suc, sym, take, true, true≢false, zero, ℕ, ◌%◌, ◌&&◌, ◌*◌, ◌++◌}
pub use Rattle.std.proofs.Common.{◌+◌, ◌-◌, ◌/◌, ◌<◌, ◌==◌, ◌^◌, ◌||◌, ◌∙◌, ◌∷◌, ◌≡◌, ◌≢◌, ◌≤◌, ◌⊎◌}
pub use Rattle.std.proofs.lemmas.Bool.{and_parts, cases_eq, cases_lt}
pub use Rattle.std.proofs.lemmas.Bool.Decides.{Decides-eqb, not_from_Decides}
pub use Rattle.std.proofs.lemmas.Fmt.{decimal_digit, decimal_is_IsNumeral, decimal_nonempty, first_decimal}
pub use Rattle.std.proofs.lemmas.List.{append-nil, append_cancel_right, length-map, map-append}
pub use Rattle.std.proofs.lemmas.List.Elements.{All-append, All-cons, All-from_recursion, All-head, All-nil, All-tail, All-weaker, filter-append, filter_passes}
pub use Rattle.std.proofs.lemmas.Result.{IfErr-weaker, IfOk-weaker}
pub use Rattle.std.proofs.lemmas.Slice.Eq.{bytes_eq-Decides, slice_eq-Decides, strip_suffix_is}
pub use Rattle.std.specs.Cmp.{booleans_Decides}
pub use Rattle.std.specs.Fmt.{decimal, digit_glyph, digits_onto}
pub use Rattle.std.specs.List.{AllByRecursion}
pub use Rattle.std.specs.Prelude.{Decides, IfErr, IsErrAnd, IsOk}
pub use Rattle.std.specs.Str.{bytes_eq}
pub use Rattle.std.specs.String.{string_bytes}
pub use Rattle.tag_machine.specs.Answers.{IsSent, Outcome, Sent}
pub use Rattle.tag_machine.specs.TagValue.{TagValue}
pub use Rattle.tag_machine.specs.TagsInExchange.{AreLegalTags, Replied, outcome_in, outcomes_in, replies_from, tags_after}
pub use Rattle.tag_population.proofs.TagsBefallen.{length-befallen, one_exchange}
pub use Rattle.tag_population.specs.Answers.{AnswerValue, AnswersValue, answer_of, answers_of}
pub use Rattle.tag_population.specs.Hearing.{hearing_from, tags_after_events}
pub use Rattle.text_fields.proofs.FieldTextLaws.{IsFieldText-binary, IsFieldText-cons, IsFieldText-hex_byte, IsFieldText-hex_word, IsFieldText-hex_words, IsFieldText-one}
pub use Rattle.text_fields.proofs.LineLaws.{fields_come_back, line_lacks, lines_come_back, pieces_between-cut, some_line, whole_piece}
pub use Rattle.text_fields.proofs.ToldApart.{binary_told, decimal_told}
pub use Rattle.text_fields.specs.Binary.{binary, binary_digit, bits_of_digits, hyphen}
pub use Rattle.text_fields.specs.Lines.{IsFieldText, Lacks, fields_of, line_feed, line_with, lines_of, space, text_with}
