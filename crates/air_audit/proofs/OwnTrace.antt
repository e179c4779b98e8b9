-- The trace of a run without events is audited: its lines follow one another, and lead to the end.
use Rattle.air_audit.proofs.Names.{◌≡◌, ◌+◌, ◌*◌, ◌^◌, ◌<◌, ◌≤◌, ℕ, false, filter, List, [], ◌∷◌, ◌++◌, length, map, slice_get, arith, ap, ap₂, refl, sym, ◌∙◌, subst, append_assoc, IsAudited}
use Rattle.air_audit.proofs.Names.{trace_rules, HasNoEventStep, Place, TraceStanding, begun, between, sending, behind_exchange, place_in, place_of_command, record_of, rx_line, word_of_line, Sends}
use Rattle.air_audit.proofs.Names.{Entry, wave_for, Start, Record, Item, befell, exchanged, operated, round_ended, exchanges_in, next_entry, next_record, tag_behind, tags_behind, tags_behind_from}
use Rattle.air_audit.proofs.Names.{HasOutcomeFrom, Lead, Whole, outcome_behind, IsLegalCommand, Command, LinkValue, IsLegalLink, Reception, whole_reply, keeps, text_of, ReportLine, MissedLine}
use Rattle.air_audit.proofs.Names.{GivenLine, TxLine, OpLine, RoundLine, SeenLine, DoneLine, Trace, AreLegalSteps, IsRecordOf, Listed, listed_by, listed_from, listing_of, reception_of_ack}
use Rattle.air_audit.proofs.Names.{GrowsByNext, exchange_lines, item_lines, last_lines, list_line, past_lines, report_of, report_text_of, run_lines, seen_lines, tag_lines, wave_lines, history}
use Rattle.air_audit.proofs.Names.{start_of, Step, map-append, filter-append, AllByRecursion, TagValue, outcome_in}
use Rattle.command_grammar.specs.declared.commands.Command.TheVariants as commands
use Rattle.reply_grammar.specs.declared.expected.Reply.TheVariants as replies
use Rattle.air_audit.specs.declared.trace_line_words.Word.TheVariants as words
use Rattle.air_audit.specs.TraceOrder.{ended}
use Rattle.report_lines.specs.SeenCounts.{SeenCount}
use Rattle.runs.specs.History.{history_of}
use Rattle.runs.specs.Said.{answer_line, exchanged_by, said_lines}
use Rattle.scenario.specs.Limits.{IsScenario}
use Rattle.scenario.specs.declared.values.Scenario.{Scenario}
use Rattle.air_audit.proofs.Completed.{rest_lines, rest-leads}
use Rattle.air_audit.proofs.OneStanding.{tx-is-tx}
use Rattle.air_audit.proofs.Places.{IsAck, IsInPlace, stands-in-place}
use Rattle.air_audit.proofs.SentLines.{WrittenLaws, frame-sends}
use Rattle.air_audit.proofs.Spelled.{IsOfTrace, lines-of-trace}
use Rattle.air_audit.proofs.Words.{goes-as, op-unjudged, round-unjudged, rx-is-rx, seen-unjudged, told-goes}

-- lines that follow others
leads-on : (start : Start) (from middle to : TraceStanding) (lines more : List (List ℕ)) → Lead (trace_rules start) from lines middle → Lead (trace_rules start) middle more to
    → Lead (trace_rules start) from (lines ++ more) to
leads-on start from middle to [] more first then = subst (λ (standing : TraceStanding). Lead (trace_rules start) standing more to) (sym first) then
leads-on start from middle to (line ∷ lines) more first then = (first.0, first.1, leads-on start first.0 middle to lines more first.2 then)

-- a record of a run: it is made of its command, which is legal and not beyond all numbers, and an ACK stands in its place
record IsOwnRecord (start : Start) (past : List Item) (sent : Record) : Type 0 where
  made : sent ≡ next_record start sent.round sent.slot sent.command past
  legal : IsLegalCommand sent.command
  few : exchanges_in past < 2 ^ 40
  in_place : IsAck sent.command → place_in past ≡ record { round = sent.round; slot = sent.slot }

abbrev IsOwnItem : Start → List Item → Item → Type 0
IsOwnItem start past (befell event number) = ⊥
IsOwnItem start past (exchanged sent) = IsOwnRecord start past sent
IsOwnItem start past (operated round slot index result) = Unit {0}
IsOwnItem start past (round_ended round end slots) = Unit {0}

abbrev AreOwn : Start → List Item → Type 0
AreOwn start [] = Unit {0}
AreOwn start (item ∷ past) = IsOwnItem start past item × AreOwn start past

-- the past that an auditor makes of the commands of a run
abbrev judged : Start → List Item → List Item
judged start [] = []
judged start (befell event number ∷ past) = judged start past
judged start (exchanged sent ∷ past) = exchanged (record_of start (judged start past) sent.command) ∷ judged start past
judged start (operated round slot index result ∷ past) = judged start past
judged start (round_ended round end slots ∷ past) = judged start past

-- nothing that shows differs between the two
record IsSame (past own : List Item) : Type 0 where
  tag : (number : ℕ) (tag : TagValue) → tag_behind number tag past ≡ tag_behind number tag own
  exchanges : exchanges_in past ≡ exchanges_in own
  place : place_in past ≡ place_in own

tags-same-from : (number : ℕ) (starts : List TagValue) (past own : List Item) → IsSame past own → tags_behind_from number starts past ≡ tags_behind_from number starts own
tags-same-from number [] past own same = refl
tags-same-from number (tag ∷ starts) past own same =
    ap₂ (λ (one : TagValue) (others : List TagValue). one ∷ others) (same.tag number tag) (tags-same-from (number + 1) starts past own same)

tags-same : (start : Start) (past own : List Item) → IsSame past own → tags_behind start past ≡ tags_behind start own
tags-same start past own same = tags-same-from 0 start.tags past own same

record-same : (start : Start) (round slot : ℕ) (command : Command) (past own : List Item) → IsSame past own
    → next_record start round slot command past ≡ next_record start round slot command own
record-same start round slot command past own same = rw (tags-same start past own same, same.exchanges) refl

made-same : (start : Start) (past own : List Item) (sent : Record) → IsSame past own → IsOwnRecord start past sent
    → sent ≡ next_record start sent.round sent.slot sent.command own
made-same start past own sent same is = is.made ∙ record-same start sent.round sent.slot sent.command past own same

judged-same : (start : Start) (past : List Item) → AreOwn start past → IsSame past (judged start past)
judged-same start [] are = record { tag = λ number tag. refl; exchanges = refl; place = refl }
judged-same start (befell event number ∷ past) are = absurd are.0
judged-same start (exchanged sent ∷ past) are =
    let same = judged-same start past are.1 in
    let entry : sent.entry ≡ next_entry start (judged start past) = ap (λ (r : Record). r.entry) (made-same start past (judged start past) sent same are.0) in
    record {
      tag = λ number tag. ap₂ (λ (said : Entry) (value : TagValue). (outcome_in number sent.command said value).tag) entry (same.tag number tag);
      exchanges = ap (λ (n : ℕ). n + 1) same.exchanges;
      place = ap (λ (p : Place). place_of_command p sent.command) same.place;
    }
judged-same start (item ∷ past) are = let same = judged-same start past are.1 in record { tag = same.tag; exchanges = same.exchanges; place = same.place }

-- what an exchange lists is the same in both, since only an ACK lists
listed-same : (sent other : Record) (command : Command) → sent.command ≡ command → other.command ≡ command → (IsAck command → sent ≡ other)
    → listed_by sent ≡ listed_by other
listed-same sent other (commands.Ack rn) is is' same = ap listed_by (same tt)
listed-same sent other command is is' same =
    ap (λ (c : Command). listed_from sent (reception_of_ack sent c)) is ∙ sym (ap (λ (c : Command). listed_from other (reception_of_ack other c)) is')

-- the list lines of an exchange, one or none
lists-lead : (start : Start) (past : List Item) (sent : Record) (reception : Reception)
    → Lead (trace_rules start) (behind_exchange past (listed_from sent reception)) (map text_of (map list_line (listed_from sent reception))) (between past)
lists-lead start past sent (whole_reply (replies.Epc pc epc)) = (between past, record { text = refl; leads = refl }, refl)
lists-lead start past sent reception = refl

-- the record that an auditor makes of an ACK is that of the run
judged-ack : (start : Start) (own : List Item) (sent : Record) (command : Command) → IsAck command → place_in own ≡ record { round = sent.round; slot = sent.slot }
    → next_record start sent.round sent.slot command own ≡ record_of start own command
judged-ack start own sent (commands.Ack rn) ack place = ap (λ (p : Place). next_record start p.round p.slot (commands.Ack rn) own) (sym place)
judged-ack start own sent command ack place = absurd ack

exchange-leads : WrittenLaws → (start : Start) (past own : List Item) (sent : Record) → IsLegalLink start.link → IsSame past own → IsOwnRecord start past sent
    → Lead (trace_rules start) (between own) (map text_of (wave_lines start.link sent ++ map list_line (listed_by sent))) (between (exchanged (record_of start own sent.command) ∷ own))
exchange-leads laws start past own sent lawful same is =
    let judge : Record = record_of start own sent.command in
    let made = made-same start past own sent same is in
    let number : sent.exchange ≡ exchanges_in own + 1 = ap (λ (r : Record). r.exchange) made in
    let few : exchanges_in own < 2 ^ 40 = subst (λ (n : ℕ). n < 2 ^ 40) same.exchanges is.few in
    let sends : Sends (exchanges_in own + 1) (text_of (TxLine sent.exchange (wave_for start.link sent.command))) sent.command =
    subst (λ (n : ℕ). Sends (exchanges_in own + 1) (text_of (TxLine n (wave_for start.link sent.command))) sent.command) (sym number)
    (frame-sends laws start.link sent.command (exchanges_in own + 1) lawful is.legal (omega arith)) in
    let listed : listed_by sent ≡ listed_by judge =
    listed-same sent judge sent.command refl refl (λ ack. made ∙ judged-ack start own sent sent.command ack (sym same.place ∙ is.in_place ack)) in (
      sending own judge,
      goes-as start (between own) _ (sending own judge) words.Tx (tx-is-tx _ sends.tx) (record { command = sent.command; sends = sends; leads = refl }),
      (
        behind_exchange (exchanged judge ∷ own) (listed_by judge),
        goes-as start (sending own judge) _ (behind_exchange (exchanged judge ∷ own) (listed_by judge)) words.Rx (rx-is-rx start sent)
            (record { text = ap (λ (r : Record). text_of (rx_line start r)) made; leads = refl }),
        subst (λ (listed : List Listed). Lead (trace_rules start) (behind_exchange (exchanged judge ∷ own) (listed_by judge)) (map text_of (map list_line listed)) (between (exchanged judge ∷ own)))
            (sym listed) (lists-lead start (exchanged judge ∷ own) judge (reception_of_ack judge judge.command)),
      ),
    )

-- lines that aren't judged
unjudged-lead : (start : Start) (past : List Item) (lines : List ReportLine) → AllByRecursion (λ line. word_of_line (text_of line) ≡ words.Unjudged) lines
    → Lead (trace_rules start) (between past) (map text_of lines) (between past)
unjudged-lead start past [] are = refl
unjudged-lead start past (line ∷ lines) are =
    (between past, goes-as start (between past) (text_of line) (between past) words.Unjudged are.0 refl, unjudged-lead start past lines are.1)

-- what a trace has of lines
abbrev kept_lines : List ReportLine → List ReportLine
kept_lines lines = filter (keeps Trace) lines

-- lines that are made of items, of which a trace has none
none-kept : {A : Type 0} (made : A → ReportLine) → ((item : A) → keeps Trace (made item) ≡ false) → (items : List A) → kept_lines (map made items) ≡ []
none-kept made none [] = refl
none-kept made none (item ∷ items) = rw (none item) (none-kept made none items)

-- of the lines of an exchange it has the waves
waves-kept : (link : LinkValue) (sent : Record) → kept_lines (exchange_lines link sent) ≡ wave_lines link sent
waves-kept link sent =
    let missed = map (MissedLine sent.exchange) sent.entry.missed in
    let answers = map (answer_line sent.exchange) sent.replies in
    let over : List ReportLine = GivenLine (exchanged_by link sent) ∷ [] in
    let said : kept_lines (said_lines link sent) ≡ [] =
    filter-append (keeps Trace) missed (answers ++ over)
    ∙ ap₂ (λ (one other : List ReportLine). one ++ other) (none-kept (MissedLine sent.exchange) (λ tag. refl) sent.entry.missed)
    (filter-append (keeps Trace) answers over ∙ ap (λ (lines : List ReportLine). lines ++ []) (none-kept (answer_line sent.exchange) (λ replied. refl) sent.replies)) in
    filter-append (keeps Trace) (said_lines link sent) (wave_lines link sent) ∙ ap (λ (lines : List ReportLine). lines ++ wave_lines link sent) said

-- of lines that it has all of
all-kept : (lines : List ReportLine) → AllByRecursion IsOfTrace lines → kept_lines lines ≡ lines
all-kept [] are = refl
all-kept (line ∷ lines) are = rw are.0 (ap (λ (rest : List ReportLine). line ∷ rest) (all-kept lines are.1))

lists-of-trace : (listed : List Listed) → AllByRecursion IsOfTrace (map list_line listed)
lists-of-trace [] = tt
lists-of-trace (one ∷ listed) = (refl, lists-of-trace listed)

exchange-kept : (link : LinkValue) (sent : Record) → kept_lines (item_lines link (exchanged sent)) ≡ wave_lines link sent ++ map list_line (listed_by sent)
exchange-kept link sent =
    filter-append (keeps Trace) (exchange_lines link sent) (map list_line (listed_by sent))
    ∙ ap₂ (λ (one other : List ReportLine). one ++ other) (waves-kept link sent) (all-kept (map list_line (listed_by sent)) (lists-of-trace (listed_by sent)))

-- the lines of what happened once follow those of the past
more-lead : (start : Start) (past : List Item) (item : Item) (own : List Item) (to : TraceStanding)
    → Lead (trace_rules start) begun (map text_of (kept_lines (past_lines start.link past))) (between own)
    → Lead (trace_rules start) (between own) (map text_of (kept_lines (item_lines start.link item))) to
    → Lead (trace_rules start) begun (map text_of (kept_lines (past_lines start.link (item ∷ past)))) to
more-lead start past item own to first then =
    let one = kept_lines (past_lines start.link past) in
    let other = kept_lines (item_lines start.link item) in
    let lines : map text_of one ++ map text_of other ≡ map text_of (kept_lines (past_lines start.link (item ∷ past))) =
    sym (map-append text_of one other) ∙ ap (map text_of) (sym (filter-append (keeps Trace) (past_lines start.link past) (item_lines start.link item))) in
    subst (λ (all : List (List ℕ)). Lead (trace_rules start) begun all to) lines (leads-on start begun (between own) to (map text_of one) (map text_of other) first then)

-- the lines of a past
past-leads : WrittenLaws → (start : Start) (past : List Item) → IsLegalLink start.link → AreOwn start past
    → Lead (trace_rules start) begun (map text_of (kept_lines (past_lines start.link past))) (between (judged start past))
past-leads laws start [] lawful are = (between [], record { text = refl; leads = refl }, refl)
past-leads laws start (befell event number ∷ past) lawful are = absurd are.0
past-leads laws start (exchanged sent ∷ past) lawful are =
    more-lead start past (exchanged sent) (judged start past) (between (judged start (exchanged sent ∷ past))) (past-leads laws start past lawful are.1)
    (subst (λ (lines : List ReportLine). Lead (trace_rules start) (between (judged start past)) (map text_of lines) (between (judged start (exchanged sent ∷ past))))
    (sym (exchange-kept start.link sent)) (exchange-leads laws start past (judged start past) sent lawful (judged-same start past are.1) are.0))
past-leads laws start (operated round slot index result ∷ past) lawful are =
    more-lead start past (operated round slot index result) (judged start past) (between (judged start past)) (past-leads laws start past lawful are.1)
    (unjudged-lead start (judged start past) (OpLine round slot index result ∷ []) (op-unjudged round slot index result, tt))
past-leads laws start (round_ended round end slots ∷ past) lawful are =
    more-lead start past (round_ended round end slots) (judged start past) (between (judged start past)) (past-leads laws start past lawful are.1)
    (unjudged-lead start (judged start past) (RoundLine round end slots ∷ []) (round-unjudged round end slots, tt))

seen-all : (seen : List SeenCount) → AllByRecursion (λ line. word_of_line (text_of line) ≡ words.Unjudged) (map (λ (each : SeenCount). SeenLine each.count each.pc each.epc) seen)
seen-all [] = tt
seen-all (each ∷ seen) = (seen-unjudged each.count each.pc each.epc, seen-all seen)

-- a trace has all of what follows the steps
all-joined : (one other : List ReportLine) → AllByRecursion IsOfTrace one → AllByRecursion IsOfTrace other → AllByRecursion IsOfTrace (one ++ other)
all-joined [] other here there = there
all-joined (line ∷ one) other here there = (here.0, all-joined one other here.1 there)

seen-of-trace : (seen : List SeenCount) → AllByRecursion IsOfTrace (map (λ (each : SeenCount). SeenLine each.count each.pc each.epc) seen)
seen-of-trace [] = tt
seen-of-trace (each ∷ seen) = (refl, seen-of-trace seen)

tags-of-trace : (number : ℕ) (tags : List TagValue) → AllByRecursion IsOfTrace (tag_lines number tags)
tags-of-trace number [] = tt
tags-of-trace number (tag ∷ tags) = (refl, tags-of-trace (number + 1) tags)

last-kept : (start : Start) (past : List Item) → kept_lines (last_lines start past) ≡ last_lines start past
last-kept start past =
    let seen = seen_lines (listing_of past) in
    let tags = tag_lines 0 (tags_behind start past) in
    all-kept (last_lines start past)
    (all-joined (seen ++ tags) (DoneLine ∷ []) (all-joined seen tags (seen-of-trace _) (tags-of-trace 0 (tags_behind start past))) (refl, tt))

-- the lines of a trace of a run
run-leads : WrittenLaws → (start : Start) (steps : List Step) → IsLegalLink start.link → AreOwn start (history_of start steps)
    → Lead (trace_rules start) begun (map text_of (report_of Trace start steps)) (ended (judged start (history_of start steps)))
run-leads laws start steps lawful are =
    let past : List Item = history_of start steps in
    let own : List Item = judged start past in
    let first = kept_lines (past_lines start.link past) in
    let seen = seen_lines (listing_of past) in
    let tags = tag_lines 0 (tags_behind start past) in
    let lines : map text_of first ++ (map text_of seen ++ rest_lines 0 (tags_behind start past)) ≡ map text_of (report_of Trace start steps) =
    ap (λ (more : List (List ℕ)). map text_of first ++ more) (sym (map-append text_of seen (tags ++ DoneLine ∷ [])))
    ∙ sym (map-append text_of first (seen ++ (tags ++ DoneLine ∷ [])))
    ∙ ap (λ (more : List ReportLine). map text_of (first ++ more)) (sym (append_assoc seen tags (DoneLine ∷ [])) ∙ sym (last-kept start past))
    ∙ ap (map text_of) (sym (filter-append (keeps Trace) (past_lines start.link past) (last_lines start past))) in
    subst (λ (all : List (List ℕ)). Lead (trace_rules start) begun all (ended own)) lines
    (leads-on start begun (between own) (ended own) (map text_of first) (map text_of seen ++ rest_lines 0 (tags_behind start past))
    (past-leads laws start past lawful are)
    (leads-on start (between own) (between own) (ended own) (map text_of seen) (rest_lines 0 (tags_behind start past))
    (unjudged-lead start own seen (seen-all _))
    (rest-leads start own 0 (tags_behind start past) (between own)
    (λ place. let same : place ≡ 0 + place = omega arith in
    ap₂ (λ (values : List TagValue) (n : ℕ). slice_get values n) (tags-same start past own (judged-same start past are)) same)
    (λ line to tells. told-goes start own 0 (between own) line to tells tells))))

-- the run of a scenario without events, and what laws say of it
pub record OwnRun (scenario : Scenario) : Type 0 where
  pub limits : IsScenario scenario
  pub told : HasNoEventStep scenario.steps
  pub legal : AreLegalSteps scenario.steps
  pub grows : GrowsByNext (start_of scenario) scenario.steps (history scenario)
  pub made : (sent : Record) (earlier : List Item) → IsRecordOf (history scenario) sent earlier
      → sent ≡ next_record (start_of scenario) sent.round sent.slot sent.command earlier
  pub commands_legal : (sent : Record) (earlier : List Item) → IsRecordOf (history scenario) sent earlier → IsLegalCommand sent.command
  pub few : exchanges_in (history scenario) ≤ 9170000 * length scenario.steps

fewer-exchanges : (later past : List Item) → exchanges_in past ≤ exchanges_in (later ++ past)
fewer-exchanges [] past = omega arith
fewer-exchanges (exchanged sent ∷ later) past = omega (arith, fewer-exchanges later past)
fewer-exchanges (item ∷ later) past = fewer-exchanges later past

own-item : (scenario : Scenario) → OwnRun scenario → (later : List Item) (item : Item) (past : List Item) → history scenario ≡ later ++ item ∷ past
    → IsInPlace past item → IsOwnItem (start_of scenario) past item
own-item scenario run later (befell event number) past split place = place
own-item scenario run later (exchanged sent) past split place =
    let recorded : IsRecordOf (history scenario) sent past = record { later = later; is = split } in
    let within : exchanges_in (exchanged sent ∷ past) ≤ exchanges_in (history scenario) =
    subst (λ (all : List Item). exchanges_in (exchanged sent ∷ past) ≤ exchanges_in all) (sym split) (fewer-exchanges later (exchanged sent ∷ past)) in
    let few = run.few in
    let steps = run.limits.few_steps in
    record {
      made = run.made sent past recorded;
      legal = run.commands_legal sent past recorded;
      few = omega arith;
      in_place = place;
    }
own-item scenario run later item past split place = tt

own-behind : (scenario : Scenario) → OwnRun scenario → (later past : List Item) → history scenario ≡ later ++ past
    → GrowsByNext (start_of scenario) scenario.steps past → AreOwn (start_of scenario) past
own-behind scenario run later [] split grows = tt
own-behind scenario run later (item ∷ past) split grows = (
  own-item scenario run later item past split (stands-in-place (start_of scenario) scenario.steps item past run.legal run.told grows),
  own-behind scenario run (later ++ item ∷ []) past (split ∙ sym (append_assoc later (item ∷ []) past)) grows.1,
)

pub own-audited : WrittenLaws → (scenario : Scenario) → OwnRun scenario → IsAudited (start_of scenario) (report_text_of Trace scenario)
own-audited written scenario run =
    let start : Start = start_of scenario in
    let are = own-behind scenario run [] (history scenario) refl run.grows in (
      judged start (history scenario),
      subst (λ (lines : List (List ℕ)). HasOutcomeFrom (trace_rules start) begun 1 lines (Whole (ended (judged start (history scenario)))))
          (sym (lines-of-trace scenario.link (run_lines start scenario.steps)))
          (outcome_behind (trace_rules start) begun (ended (judged start (history scenario))) 1 _ (map text_of (report_of Trace start scenario.steps)) ([] ∷ [])
          (Whole (ended (judged start (history scenario)))) (λ none. cc) refl (run-leads written start scenario.steps run.limits.link are) (refl, tt, refl)),
    )
