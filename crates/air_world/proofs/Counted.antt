-- What is counted of all that a run tells, of the history of its scenario.
use Rattle.std.proofs.lemmas.List.Sums.{count_by-le-length, length-filter}
use Rattle.air_world.proofs.Names.{◌≡◌, ℕ, suc, ◌+◌, ◌*◌, ◌≤◌, Bool, not, List, ◌∷◌, ◌++◌, length, length-append, map, refl, sym, ◌∙◌, ap, subst, arith, [], OpList, Start, Record, Item, exchanged}
use Rattle.air_world.proofs.Names.{past_behind_command, exchanges_in, rounds_in, tags_behind, CountsLines, Fits, counted_line, counted_lines, nothing_counted, most_slots, lines_to_tell}
use Rattle.air_world.proofs.Names.{counted-append, Command, LinkValue, RoundEnd, line_of, ReportLine, MissedLine, GivenLine, DoneLine, SeenCount, seen_line, distinct, seen_among, seen_counts, Line}
use Rattle.air_world.proofs.Names.{RoundsKeepLimit, answer-keeps, few-outcomes, round-holds, steps-exchanges, few-exchanges, legal-steps, length-tags, AreLegalSteps, IsLegalStep, past_behind}
use Rattle.air_world.proofs.Names.{past_behind_slot, past_behind_step, slot_reception, Listed, listed_by, listing_of, exchange_lines, item_lines, last_lines, list_line, run_lines, tag_lines}
use Rattle.air_world.proofs.Names.{wave_lines, answer_line, exchanged_by, said_lines, history, start_of, scenario_tag, all_quiet, pairs_in, slots_past, summary_of, tags_of, IsScenario, Scenario, Step}
use Rattle.air_world.proofs.Names.{length-map, Bor, TagValue, AnyTag}
use Rattle.scenario.specs.declared.values.Step.TheVariants as steps
use Rattle.air_world.proofs.Beginning.{scenario-few}
use Rattle.air_world.proofs.Listings.{few-listed}
use Rattle.reply_grammar.specs.PcAndEpc.{same_pair}
use Rattle.report_lines.specs.declared.line.Line.TheVariants as lines
use Rattle.runs.specs.declared.summary.Summary.{Summary}

-- the lines of what was listed
counted-listed : (counted : Summary) (listed : List Listed) → counted_lines counted (map list_line listed) ≡ record counted { listed = counted.listed + length listed }
counted-listed counted [] = let none : counted.listed ≡ counted.listed + 0 = omega arith in ap (λ n. record counted { listed = n }) none
counted-listed counted (one ∷ others) =
    let sum : counted.listed + 1 + length others ≡ counted.listed + suc (length others) = omega arith in
    counted-listed (record counted { listed = counted.listed + 1 }) others ∙ ap (λ n. record counted { listed = n }) sum

-- the lines of the counts
counted-seen : (counted : Summary) (pairs : List SeenCount) → counted_lines counted (map seen_line pairs) ≡ record counted { distinct = counted.distinct + length pairs }
counted-seen counted [] = let none : counted.distinct ≡ counted.distinct + 0 = omega arith in ap (λ n. record counted { distinct = n }) none
counted-seen counted (one ∷ others) =
    let sum : counted.distinct + 1 + length others ≡ counted.distinct + suc (length others) = omega arith in
    counted-seen (record counted { distinct = counted.distinct + 1 }) others ∙ ap (λ n. record counted { distinct = n }) sum

-- the lines of the tags
counted-tags : (counted : Summary) (number : ℕ) (tags : List TagValue) → counted_lines counted (tag_lines number tags) ≡ record counted { tags = counted.tags + length tags }
counted-tags counted number [] = let none : counted.tags ≡ counted.tags + 0 = omega arith in ap (λ n. record counted { tags = n }) none
counted-tags counted number (tag ∷ tags) =
    let sum : counted.tags + 1 + length tags ≡ counted.tags + suc (length tags) = omega arith in
    counted-tags (record counted { tags = counted.tags + 1 }) (number + 1) tags ∙ ap (λ n. record counted { tags = n }) sum

-- lines that are made of items, none of which is counted
counted-made : {A : Type 0} (make : A → ReportLine) → ((counted : Summary) (item : A) → counted_line counted (make item) ≡ counted)
    → (counted : Summary) (items : List A) (more : List ReportLine) → counted_lines counted (map make items ++ more) ≡ counted_lines counted more
counted-made make same counted [] more = refl
counted-made make same counted (item ∷ items) more =
    ap (λ (c : Summary). counted_lines c (map make items ++ more)) (same counted item) ∙ counted-made make same counted items more

-- of who said what, and of the waves, nothing is counted
counted-exchange : (counted : Summary) (link : LinkValue) (sent : Record) → counted_lines counted (exchange_lines link sent) ≡ counted
counted-exchange counted link sent =
    counted-append counted (said_lines link sent) (wave_lines link sent)
    ∙ counted-made (MissedLine sent.exchange) (λ c tag. refl) counted sent.entry.missed (map (answer_line sent.exchange) sent.replies ++ GivenLine (exchanged_by link sent) ∷ [])
    ∙ counted-made (answer_line sent.exchange) (λ c replied. refl) counted sent.replies (GivenLine (exchanged_by link sent) ∷ [])

-- what a past counts of listings and rounds
abbrev counted_past : List Item → Summary
counted_past past = record { tags = 0; listed = length (listing_of past); distinct = 0; slots = slots_past past; quiet = all_quiet past }

-- ... is counted of its lines
counted-past : (start : Start) (past : List Item) → counted_lines nothing_counted (lines_to_tell start past) ≡ counted_past past
counted-past start [] = refl
counted-past start (exchanged sent ∷ past) =
    let more : length (listing_of past) + length (listed_by sent) ≡ length (listing_of past ++ listed_by sent) = sym (length-append (listing_of past) (listed_by sent)) in
    counted-append nothing_counted (lines_to_tell start past) (item_lines start.link (exchanged sent))
    ∙ ap (λ (c : Summary). counted_lines c (item_lines start.link (exchanged sent))) (counted-past start past)
    ∙ counted-append (counted_past past) (exchange_lines start.link sent) (map list_line (listed_by sent))
    ∙ ap (λ (c : Summary). counted_lines c (map list_line (listed_by sent))) (counted-exchange (counted_past past) start.link sent)
    ∙ counted-listed (counted_past past) (listed_by sent)
    ∙ ap (λ n. record (counted_past past) { listed = n }) more
counted-past start (item ∷ past) =
    counted-append nothing_counted (lines_to_tell start past) (item_lines start.link item) ∙ ap (λ (c : Summary). counted_lines c (item_lines start.link item)) (counted-past start past)

-- the different pairs that were listed
distinct-listed : (past : List Item) → length (seen_counts (pairs_in past)) ≡ length (distinct (pairs_in past))
distinct-listed past = length-map (distinct (pairs_in past)) (seen_among (pairs_in past))

-- what is counted of all that is told
counted-whole : (scenario : Scenario) → counted_lines nothing_counted (run_lines (start_of scenario) scenario.steps) ≡ summary_of scenario
counted-whole scenario =
    let start : Start = start_of scenario in
    let past : List Item = history scenario in
    let seen : List ReportLine = map seen_line (seen_counts (pairs_in past)) in
    let tags : List ReportLine = tag_lines 0 (tags_behind start past) in
    let pairs : 0 + length (seen_counts (pairs_in past)) ≡ length (distinct (pairs_in past)) = omega (arith, distinct-listed past) in
    let count : 0 + length (tags_behind start past) ≡ length start.tags = omega (arith, length-tags start past) in
    counted-append nothing_counted (lines_to_tell start past) (last_lines start past)
    ∙ ap (λ (c : Summary). counted_lines c (last_lines start past)) (counted-past start past)
    ∙ counted-append (counted_past past) (seen ++ tags) (DoneLine ∷ [])
    ∙ counted-append (counted_past past) seen tags
    ∙ ap (λ (c : Summary). counted_lines c tags) (counted-seen (counted_past past) (seen_counts (pairs_in past)) ∙ ap (λ n. record (counted_past past) { distinct = n }) pairs)
    ∙ counted-tags (record (counted_past past) { distinct = length (distinct (pairs_in past)) }) 0 (tags_behind start past)
    ∙ ap (λ n. record (counted_past past) { distinct = length (distinct (pairs_in past)); tags = n }) count

-- no slot of a round is counted before its end
slots-slot : (start : Start) (operations : OpList) (round slot : ℕ) (command : Command) (past : List Item)
    → slots_past (past_behind_slot start operations round slot command past) ≡ slots_past past
slots-slot start operations round slot command past =
    answer-keeps (λ now. slots_past now ≡ slots_past past) (record { start = start; round = round; slot = slot }) operations (slot_reception start round slot command past)
    (past_behind_command start round slot command past) (record { command = λ sent expect extended now expects same. same; result = λ index result now same. same })
    (λ rn same. same) refl

-- how many slots a step adds at most
step-slots : RoundsKeepLimit → (start : Start) (step : Step) (past : List Item) → IsLegalStep step → slots_past (past_behind_step start step past) ≤ slots_past past + most_slots
step-slots keeps start (steps.Round spec operations) past is =
    round-holds (λ outcomes now. slots_past now ≡ slots_past past) (λ now. slots_past now ≤ slots_past past + most_slots)
    (record { start = start; operations = operations; spec = spec; before = past }) keeps is.legal
    (record {
      slot = λ outcomes now command next same. slots-slot start operations (rounds_in past + 1) (length outcomes + 1) command now ∙ same;
      end = λ outcomes now end next same. omega (arith, same, few-outcomes keeps spec outcomes is.legal next.are, is.legal.limit.1);
    })
    refl
step-slots keeps start step past is = omega arith

-- ... and steps
steps-slots : RoundsKeepLimit → (start : Start) (steps : List Step) (past : List Item) → AreLegalSteps steps → slots_past (past_behind start steps past) ≤ slots_past past + most_slots * length steps
steps-slots keeps start [] past are = omega arith
steps-slots keeps start (step ∷ steps) past are =
    let behind : List Item = past_behind_step start step past in
    omega (arith, step-slots keeps start step past are.0, steps-slots keeps start steps behind are.1)

-- there are no more different pairs than pairs
few-distinct : (pairs : List (ℕ × List ℕ)) → length (distinct pairs) ≤ length pairs
few-distinct [] = omega arith
few-distinct (pair ∷ pairs) =
    let keep : ℕ × List ℕ → Bool = λ other. not (same_pair pair other) in
    omega (arith, length-filter keep (distinct pairs), count_by-le-length keep (distinct pairs), few-distinct pairs)

-- the numbers of a summary fit
summary-fits : RoundsKeepLimit → (scenario : Scenario) → IsScenario scenario → Fits (summary_of scenario)
summary-fits keeps scenario is =
    let start : Start = start_of scenario in
    let past : List Item = history scenario in
    let legal = legal-steps scenario is in
    let tags : length start.tags ≡ length (tags_of scenario.groups) = length-map (tags_of scenario.groups) scenario_tag in
    let pairs : length (pairs_in past) ≡ length (listing_of past) = length-map (listing_of past) (λ listed. (listed.pc, listed.epc)) in
    let listed : length (listing_of past) ≤ exchanges_in past = few-listed past in
    let most = steps-exchanges keeps start scenario.steps [] legal in
    let few = few-exchanges scenario.steps legal in
    let slots : slots_past past ≤ slots_past [] + most_slots * length scenario.steps = steps-slots keeps start scenario.steps [] legal in
    record {
      tags = omega (arith, tags, scenario-few scenario is);
      listed = omega (arith, pairs, listed, most, few, is.few_steps);
      distinct = omega (arith, few-distinct (pairs_in past), pairs, listed, most, few, is.few_steps);
      slots = omega (arith, slots, is.few_steps);
    }

-- who counted all that is told has the summary
pub summary-counted : RoundsKeepLimit → (scenario : Scenario) (later : Summary) → IsScenario scenario → CountsLines (run_lines (start_of scenario) scenario.steps) nothing_counted later
    → later ≡ summary_of scenario
summary-counted keeps scenario later is counts =
    let whole = counted-whole scenario in counts.counted (subst Fits (sym whole) (summary-fits keeps scenario is)) ∙ whole

-- a line that isn't counted
pub other-line : (counted : Summary) (line : Line) → ((round slot pc : ℕ) (epc : Bor (List ℕ)) → line ≡ lines.List round slot pc epc → ⊥)
    → ((round : ℕ) (end : RoundEnd) (slots : ℕ) → line ≡ lines.Round round end slots → ⊥) → ((count pc : ℕ) (epc : Bor (List ℕ)) → line ≡ lines.Seen count pc epc → ⊥)
    → ((number : ℕ) (tag : Bor AnyTag) → line ≡ lines.Tag number tag → ⊥) → counted ≡ counted_line counted (line_of line)
other-line counted (lines.List r s pc epc) list round seen tag = absurd (list r s pc epc refl)
other-line counted (lines.Round r end slots) list round seen tag = absurd (round r end slots refl)
other-line counted (lines.Seen count pc epc) list round seen tag = absurd (seen count pc epc refl)
other-line counted (lines.Tag number t) list round seen tag = absurd (tag number t refl)
other-line counted line list round seen tag = refl
