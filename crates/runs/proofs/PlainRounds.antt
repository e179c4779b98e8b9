-- A round of a plain run depends on what is past through its tags alone.
use Rattle.runs.proofs.Names.{◌≡◌, ℕ, zero, suc, ◌+◌, ◌≤◌, true, false, List, [], ◌∷◌, ◌++◌, length, map, refl, ap, sym, ◌∙◌, subst, arith, AllZip, map-append, Dialogue, OpList, no_entry, Entry}
use Rattle.runs.proofs.Names.{Given, default_given, Start, Record, Item, ended, next_record, past_behind_command, rounds_in, tags_behind, tags_behind_from, reception_of, UpDn, Command, LinkValue}
use Rattle.runs.proofs.Names.{SpecValue, IsLegalSpec, Turn, query, adjust, rep, quiet, limit, over, AreOutcomes, next_of_turn, is_over, turn_of, Outcome, RoundEnd, Reception, no_stream, whole_reply}
use Rattle.runs.proofs.Names.{no_such_reply, TagOutcome, outcome_in, outcomes_from, replies_from, replies_in, tags_after, step, StateValue, BodyValue, TagValue, Played, outcome_of, past_behind_ack}
use Rattle.runs.proofs.Names.{past_behind_answer, past_behind_dialogue, past_behind_round, past_behind_slot, past_behind_turn, past_behind_turns, ack_reception, slot_reception, sender_listed_by}
use Rattle.runs.proofs.Names.{sender_where, tags_listed_where, listed_by, listed_from, listing_of, reception_of_ack, no_operations, GoesByTags, IsBetweenRounds, IsPlain, first_round, pair_listed}
use Rattle.runs.proofs.Names.{pairs_listed_by, pairs_since, played_of, round_ended, rounds_told, senders_since, start_with, pairs_listed}
use Rattle.air_events.specs.declared.Several.TheVariants as severals
use Rattle.command_grammar.specs.declared.commands.Command.TheVariants as commands
use Rattle.q_round.specs.declared.round.Next.TheVariants as nexts
use Rattle.q_round.specs.declared.round.RoundEnd.TheVariants as round_ends
use Rattle.reply_grammar.specs.declared.expected.Expect.TheVariants as expects
use Rattle.reply_grammar.specs.declared.expected.Reply.TheVariants as replies
use Rattle.runs.proofs.Growth.{RoundsKeepLimit, few-outcomes}
use Rattle.runs.proofs.Tags.{tags-ended, tags-exchanged}
use Rattle.runs.proofs.Keeping.{Keeps, ack-keeps, keeps-on, query-keeps, query_adjust-keeps, query_rep-keeps}
use Rattle.runs.proofs.Turns.{nothing-begun}

-- What two rounds without operations send alike, so that tags can't tell it apart: one command, or a Query each, in which the form of
-- the replies differs.
data Sent : Type 0 where
  acks : (rn : ℕ) → Sent
  reps : (session : ℕ) → Sent
  adjusts : (session : ℕ) (updn : UpDn) → Sent
  queries : (spec : SpecValue) (link link2 : LinkValue) → Sent

abbrev query_of : SpecValue → LinkValue → Command
query_of spec link = commands.Query link.dr link.code link.trext spec.sel spec.session spec.target spec.q

-- the command of the one round ..
abbrev command_of : Sent → Command
command_of (acks rn) = commands.Ack rn
command_of (reps session) = commands.QueryRep session
command_of (adjusts session updn) = commands.QueryAdjust session updn
command_of (queries spec link link2) = query_of spec link

-- ... and of the other
abbrev command2_of : Sent → Command
command2_of (acks rn) = commands.Ack rn
command2_of (reps session) = commands.QueryRep session
command2_of (adjusts session updn) = commands.QueryAdjust session updn
command2_of (queries spec link link2) = query_of spec link2

queries-one : (spec : SpecValue) (link link2 : LinkValue) (number : ℕ) (entry : Entry) (tags : List TagValue)
    → outcomes_from number (query_of spec link) entry tags ≡ outcomes_from number (query_of spec link2) entry tags
queries-one spec link link2 number entry [] = refl
queries-one spec link link2 number entry (tag ∷ tags) =
    ap (λ (outcomes : List TagOutcome). outcome_in number (query_of spec link) entry tag ∷ outcomes) (queries-one spec link link2 (number + 1) entry tags)

outcomes-one : (sent : Sent) (entry : Entry) (tags : List TagValue) → outcomes_from 0 (command_of sent) entry tags ≡ outcomes_from 0 (command2_of sent) entry tags
outcomes-one (queries spec link link2) entry tags = queries-one spec link link2 0 entry tags
outcomes-one sent entry tags = refl

-- what such a command keeps of each tag
step-keeps : (sent : Sent) (state : StateValue) (body : BodyValue) → Keeps (record { state = state; body = body }) (step (command_of sent) state body).tag
step-keeps (acks rn) state body = ack-keeps rn state body
step-keeps (reps session) state body = query_rep-keeps session state body
step-keeps (adjusts session updn) state body = query_adjust-keeps session updn state body
step-keeps (queries spec link link2) state body = query-keeps spec.sel spec.session spec.target spec.q state body

all-keep : (sent : Sent) (number : ℕ) (first tags : List TagValue) → AllZip Keeps first tags → AllZip Keeps first (tags_after (outcomes_from number (command_of sent) no_entry tags))
all-keep sent number [] [] kept = tt
all-keep sent number [] (tag ∷ tags) kept = absurd kept
all-keep sent number (first ∷ firsts) [] kept = absurd kept
all-keep sent number (first ∷ firsts) (tag ∷ tags) kept = (keeps-on first tag _ kept.0 (step-keeps sent tag.state tag.body), all-keep sent (number + 1) firsts tags kept.1)

-- what a plain channel gives of a command
abbrev given_plainly : Command → List TagValue → Given
given_plainly command tags = default_given severals.Break (replies_in command no_entry tags)

given-plain : (start : Start) (round slot : ℕ) (command : Command) (past : List Item) → IsPlain start
    → (next_record start round slot command past).given ≡ given_plainly command (tags_behind start past)
given-plain start round slot command past plain = rw (plain.entries, plain.several) refl

tags-plain : (start : Start) (round slot : ℕ) (command : Command) (past : List Item) → IsPlain start
    → tags_behind start (past_behind_command start round slot command past) ≡ tags_after (outcomes_from 0 command no_entry (tags_behind start past))
tags-plain start round slot command past plain = tags-exchanged start (next_record start round slot command past) past ∙ (rw plain.entries refl)

-- what a record lists goes by its command and by what the channel gave
pairs-from : (sent sent2 : Record) (reception : Reception)
    → map pair_listed (listed_from sent reception) ≡ map pair_listed (listed_from sent2 reception)
pairs-from sent sent2 no_stream = refl
pairs-from sent sent2 no_such_reply = refl
pairs-from sent sent2 (whole_reply (replies.Epc pc epc)) = refl
pairs-from sent sent2 (whole_reply reply) = refl

senders-from : (sent sent2 : Record) (reception : Reception) (given : Given) → sender_where (listed_from sent reception) given ≡ sender_where (listed_from sent2 reception) given
senders-from sent sent2 no_stream given = refl
senders-from sent sent2 no_such_reply given = refl
senders-from sent sent2 (whole_reply (replies.Epc pc epc)) given = refl
senders-from sent sent2 (whole_reply reply) given = refl

-- what is received of an ACK goes by what was given
heard-one : (record1 record2 : Record) (sent : Sent) → record1.given ≡ record2.given → reception_of_ack record1 (command_of sent) ≡ reception_of_ack record2 (command2_of sent)
heard-one record1 record2 (acks rn) given = ap (reception_of expects.Epc) given
heard-one record1 record2 sent given = refl

-- two pasts, each behind a start of its own: the tags stand alike, and alike was listed since the last round ended; what the rounds
-- before told stands still; of the first tags each one keeps what it keeps; and in the second past no round ended
record AreAlike (start start2 : Start) (first : List TagValue) (told told2 : List Played) (past past2 : List Item) : Type 0 where
  tags : tags_behind start past ≡ tags_behind start2 past2
  pairs : pairs_since past ≡ pairs_since past2
  senders : senders_since past ≡ senders_since past2
  before : rounds_told start past ≡ told
  before2 : rounds_told start2 past2 ≡ told2
  kept : AllZip Keeps first (tags_behind start past)
  all_pairs : pairs_listed past2 ≡ pairs_since past2
  all_senders : tags_listed_where (λ sent. true) past2 ≡ senders_since past2

-- two plain starts, rounds that are played behind them, and what was told before
record Both : Type 0 where
  start : Start
  start2 : Start
  plain : IsPlain start
  plain2 : IsPlain start2
  round : ℕ
  round2 : ℕ
  operations : OpList
  operations2 : OpList
  none : operations.ops ≡ []
  none2 : operations2.ops ≡ []
  first : List TagValue
  told : List Played
  told2 : List Played
  spec : SpecValue
  legal : IsLegalSpec spec

abbrev AreBoth : Both → List Item → List Item → Type 0
AreBoth b past past2 = AreAlike b.start b.start2 b.first b.told b.told2 past past2

given-alike : (b : Both) (slot slot2 : ℕ) (sent : Sent) (past past2 : List Item) → AreBoth b past past2
    → (next_record b.start b.round slot (command_of sent) past).given ≡ (next_record b.start2 b.round2 slot2 (command2_of sent) past2).given
given-alike b slot slot2 sent past past2 alike =
    given-plain b.start b.round slot (command_of sent) past b.plain
    ∙ ap (given_plainly (command_of sent)) alike.tags
    ∙ ap (λ (outcomes : List TagOutcome). default_given severals.Break (replies_from 0 outcomes)) (outcomes-one sent no_entry (tags_behind b.start2 past2))
    ∙ sym (given-plain b.start2 b.round2 slot2 (command2_of sent) past2 b.plain2)

command-alike : (b : Both) (slot slot2 : ℕ) (sent : Sent) (past past2 : List Item) → AreBoth b past past2
    → AreBoth b (past_behind_command b.start b.round slot (command_of sent) past) (past_behind_command b.start2 b.round2 slot2 (command2_of sent) past2)
command-alike b slot slot2 sent past past2 alike =
    let command = command_of sent in
    let command2 = command2_of sent in
    let record1 = next_record b.start b.round slot command past in
    let record2 = next_record b.start2 b.round2 slot2 command2 past2 in
    let given = given-alike b slot slot2 sent past past2 alike in
    let heard = heard-one record1 record2 sent given in
    record {
      tags =
          tags-plain b.start b.round slot command past b.plain
          ∙ ap (λ (tags : List TagValue). tags_after (outcomes_from 0 command no_entry tags)) alike.tags
          ∙ ap tags_after (outcomes-one sent no_entry (tags_behind b.start2 past2))
          ∙ sym (tags-plain b.start2 b.round2 slot2 command2 past2 b.plain2);
      pairs =
          ap (λ (pairs : List (ℕ × List ℕ)). pairs ++ pairs_listed_by record1) alike.pairs
          ∙ ap (λ (pairs : List (ℕ × List ℕ)). pairs_since past2 ++ pairs)
          (pairs-from record1 record2 (reception_of_ack record1 command)
          ∙ ap (λ (reception : Reception). map pair_listed (listed_from record2 reception)) heard);
      senders =
          ap (λ (senders : List ℕ). senders ++ sender_listed_by record1) alike.senders
          ∙ ap (λ (senders : List ℕ). senders_since past2 ++ senders)
          (senders-from record1 record2 (reception_of_ack record1 command) record1.given
          ∙ ap (λ (reception : Reception). sender_where (listed_from record2 reception) record1.given) heard
          ∙ ap (λ (each : Given). sender_where (listed_by record2) each) given);
      before = alike.before;
      before2 = alike.before2;
      kept = subst (AllZip Keeps b.first) (sym (tags-plain b.start b.round slot command past b.plain)) (all-keep sent 0 b.first (tags_behind b.start past) alike.kept);
      all_pairs =
          map-append pair_listed (listing_of past2) (listed_by record2) ∙ ap (λ (pairs : List (ℕ × List ℕ)). pairs ++ pairs_listed_by record2) alike.all_pairs;
      all_senders = ap (λ (senders : List ℕ). senders ++ sender_listed_by record2) alike.all_senders;
    }

-- behind an ACK nothing is done
ack-alike : (b : Both) (slot slot2 rn : ℕ) (past past2 : List Item) → AreBoth b past past2
    → AreBoth b (past_behind_ack b.start b.operations b.round slot rn past) (past_behind_ack b.start2 b.operations2 b.round2 slot2 rn past2)
ack-alike b slot slot2 rn past past2 alike =
    let behind = past_behind_command b.start b.round slot (commands.Ack rn) past in
    let behind2 = past_behind_command b.start2 b.round2 slot2 (commands.Ack rn) past2 in
    let done1 = nothing-begun b.operations rn (ack_reception b.start b.round slot rn past) b.none in
    let done2 = nothing-begun b.operations2 rn (ack_reception b.start2 b.round2 slot2 rn past2) b.none2 in
    subst (λ (dialogue : Dialogue). AreBoth b (past_behind_dialogue b.start b.round slot 1 dialogue behind)
    (past_behind_ack b.start2 b.operations2 b.round2 slot2 rn past2)) (sym done1)
    (subst (λ (dialogue : Dialogue). AreBoth b behind (past_behind_dialogue b.start2 b.round2 slot2 1 dialogue behind2)) (sym done2)
    (command-alike b slot slot2 (acks rn) past past2 alike))

answer-alike : (b : Both) (slot slot2 : ℕ) (reception : Reception) (past past2 : List Item) → AreBoth b past past2
    → AreBoth b (past_behind_answer b.start b.operations b.round slot reception past) (past_behind_answer b.start2 b.operations2 b.round2 slot2 reception past2)
answer-alike b slot slot2 (whole_reply (replies.Rn16 rn)) past past2 alike = ack-alike b slot slot2 rn past past2 alike
answer-alike b slot slot2 reception past past2 alike = alike

received-alike : (b : Both) (slot slot2 : ℕ) (sent : Sent) (past past2 : List Item) → AreBoth b past past2
    → slot_reception b.start b.round slot (command_of sent) past ≡ slot_reception b.start2 b.round2 slot2 (command2_of sent) past2
received-alike b slot slot2 sent past past2 alike = ap (reception_of expects.Rn16) (given-alike b slot slot2 sent past past2 alike)

slot-alike : (b : Both) (slot slot2 : ℕ) (sent : Sent) (past past2 : List Item) → AreBoth b past past2
    → AreBoth b (past_behind_slot b.start b.operations b.round slot (command_of sent) past) (past_behind_slot b.start2 b.operations2 b.round2 slot2 (command2_of sent) past2)
slot-alike b slot slot2 sent past past2 alike =
    let behind = past_behind_command b.start b.round slot (command_of sent) past in
    let behind2 = past_behind_command b.start2 b.round2 slot2 (command2_of sent) past2 in
    subst (λ (reception : Reception). AreBoth b (past_behind_slot b.start b.operations b.round slot (command_of sent) past)
    (past_behind_answer b.start2 b.operations2 b.round2 slot2 reception behind2)) (received-alike b slot slot2 sent past past2 alike)
    (answer-alike b slot slot2 (slot_reception b.start b.round slot (command_of sent) past) behind behind2 (command-alike b slot slot2 sent past past2 alike))

-- both rounds ended, and are told alike: as the end of the second says
record AreTold (b : Both) (now now2 : List Item) : Type 0 where
  pub end : RoundEnd
  pub slots : ℕ
  pub past : List Item
  pub is : now2 ≡ ended b.round2 end slots ∷ past
  pub told : rounds_told b.start now ≡ b.told ++ round_ended b.start2 end past ∷ []
  pub told2 : rounds_told b.start2 now2 ≡ b.told2 ++ round_ended b.start2 end past ∷ []
  pub tags : tags_behind b.start now ≡ tags_behind b.start2 past
  pub between : IsBetweenRounds now
  pub kept : AllZip Keeps b.first (tags_behind b.start2 past)
  pub all_pairs : pairs_listed past ≡ pairs_since past
  pub all_senders : tags_listed_where (λ sent. true) past ≡ senders_since past

end-alike : (b : Both) (end : RoundEnd) (slots : ℕ) (past past2 : List Item) → AreBoth b past past2 → AreTold b (ended b.round end slots ∷ past) (ended b.round2 end slots ∷ past2)
end-alike b end slots past past2 alike = record {
  end = end;
  slots = slots;
  past = past2;
  is = refl;
  told = (λ i. alike.before i ++ record { senders = alike.senders i; pairs = alike.pairs i; end = end; tags = alike.tags i } ∷ []);
  told2 = ap (λ (told : List Played). told ++ round_ended b.start2 end past2 ∷ []) alike.before2;
  tags = tags-ended b.start b.round end slots past ∙ alike.tags;
  between = record { pairs = refl; senders = refl };
  kept = subst (AllZip Keeps b.first) alike.tags alike.kept;
  all_pairs = alike.all_pairs;
  all_senders = alike.all_senders;
}

-- the turns that are left
abbrev Goes : Both → ℕ → List Outcome → List Item → List Item → Type 0
Goes b left outcomes past past2 =
    AreTold b (past_behind_turns left b.start b.operations b.round b.spec outcomes past) (past_behind_turns left b.start2 b.operations2 b.round2 b.spec outcomes past2)

send-alike : (b : Both) (left : ℕ) (outcomes : List Outcome) (sent : Sent) (past past2 : List Item) → AreBoth b past past2
    → ((outcome : Outcome) (behind behind2 : List Item) → AreBoth b behind behind2 → Goes b left (outcome ∷ outcomes) behind behind2)
    → AreTold b (past_behind_turn (past_behind_turns left b.start b.operations b.round b.spec) b.start b.operations b.round outcomes past (nexts.Send (command_of sent)))
    (past_behind_turn (past_behind_turns left b.start2 b.operations2 b.round2 b.spec) b.start2 b.operations2 b.round2 outcomes past2 (nexts.Send (command2_of sent)))
send-alike b left outcomes sent past past2 alike later =
    let slot : ℕ = length outcomes + 1 in
    let received = slot_reception b.start b.round slot (command_of sent) past in
    let behind = past_behind_slot b.start b.operations b.round slot (command_of sent) past in
    let behind2 = past_behind_slot b.start2 b.operations2 b.round2 slot (command2_of sent) past2 in
    subst (λ (reception : Reception). AreTold b (past_behind_turns left b.start b.operations b.round b.spec (outcome_of received ∷ outcomes) behind)
    (past_behind_turns left b.start2 b.operations2 b.round2 b.spec (outcome_of reception ∷ outcomes) behind2)) (received-alike b slot slot sent past past2 alike)
    (later (outcome_of received) behind behind2 (slot-alike b slot slot sent past past2 alike))

turn-alike : (b : Both) (left : ℕ) (outcomes : List Outcome) (past past2 : List Item) (turn : Turn) → turn_of b.spec outcomes ≡ turn → AreBoth b past past2
    → ((outcome : Outcome) (behind behind2 : List Item) → is_over b.spec outcomes ≡ false → AreBoth b behind behind2 → Goes b left (outcome ∷ outcomes) behind behind2)
    → AreTold b (past_behind_turn (past_behind_turns left b.start b.operations b.round b.spec) b.start b.operations b.round outcomes past (next_of_turn b.spec b.start.link turn))
    (past_behind_turn (past_behind_turns left b.start2 b.operations2 b.round2 b.spec) b.start2 b.operations2 b.round2 outcomes past2 (next_of_turn b.spec b.start2.link turn))
turn-alike b left outcomes past past2 query is alike later =
    send-alike b left outcomes (queries b.spec b.start.link b.start2.link) past past2 alike (λ outcome behind behind2 more. later outcome behind behind2 (ap over is) more)
turn-alike b left outcomes past past2 (adjust updn) is alike later =
    send-alike b left outcomes (adjusts b.spec.session updn) past past2 alike (λ outcome behind behind2 more. later outcome behind behind2 (ap over is) more)
turn-alike b left outcomes past past2 rep is alike later =
    send-alike b left outcomes (reps b.spec.session) past past2 alike (λ outcome behind behind2 more. later outcome behind behind2 (ap over is) more)
turn-alike b left outcomes past past2 quiet is alike later = end-alike b round_ends.Quiet (length outcomes) past past2 alike
turn-alike b left outcomes past past2 limit is alike later = end-alike b round_ends.Limit (length outcomes) past past2 alike

turns-alike : RoundsKeepLimit → (b : Both) (left : ℕ) (outcomes : List Outcome) (past past2 : List Item) → left + length outcomes ≡ b.spec.limit + 1
    → AreOutcomes b.spec outcomes → AreBoth b past past2 → Goes b left outcomes past past2
turns-alike keeps b zero outcomes past past2 count are alike =
    absurd (let few : length outcomes ≤ b.spec.limit = few-outcomes keeps b.spec outcomes b.legal are in omega arith)
turns-alike keeps b (suc left) outcomes past past2 count are alike =
    turn-alike b left outcomes past past2 (turn_of b.spec outcomes) refl alike
    (λ outcome behind behind2 underway more. turns-alike keeps b left (outcome ∷ outcomes) behind behind2 (omega arith) (underway, are) more)

pub tags-from-none : (number : ℕ) (tags : List TagValue) → tags_behind_from number tags [] ≡ tags
tags-from-none number [] = refl
tags-from-none number (tag ∷ tags) = ap (λ (l : List TagValue). tag ∷ l) (tags-from-none (number + 1) tags)

-- a round behind a past, beside the round of a history that begins with its tags
abbrev both-of : (start : Start) (operations : OpList) (spec : SpecValue) (past : List Item) → IsPlain start → operations.ops ≡ [] → IsLegalSpec spec → Both
both-of start operations spec past plain none legal =
    let tags = tags_behind start past in
    record {
      start = start;
      start2 = start_with tags;
      plain = plain;
      plain2 = record { entries = refl; several = refl };
      round = rounds_in past + 1;
      round2 = 1;
      operations = operations;
      operations2 = no_operations;
      none = none;
      none2 = refl;
      first = tags;
      told = rounds_told start past;
      told2 = [];
      spec = spec;
      legal = legal;
    }

all-kept : (tags : List TagValue) → AllZip Keeps tags tags
all-kept [] = tt
all-kept (tag ∷ tags) = (record { memory = refl; locks = refl; present = λ is. is }, all-kept tags)

told-beside : RoundsKeepLimit → (start : Start) (operations : OpList) (spec : SpecValue) (past : List Item) (plain : IsPlain start) (none : operations.ops ≡ []) (legal : IsLegalSpec spec)
    → IsBetweenRounds past
    → AreTold (both-of start operations spec past plain none legal) (past_behind_round start operations spec past)
    (past_behind_round (start_with (tags_behind start past)) no_operations spec [])
told-beside keeps start operations spec past plain none legal between =
    let tags = tags_behind start past in
    turns-alike keeps (both-of start operations spec past plain none legal) (suc spec.limit) [] past [] (omega arith) tt
    (record {
      tags = sym (tags-from-none 0 tags);
      pairs = between.pairs;
      senders = between.senders;
      before = refl;
      before2 = refl;
      kept = all-kept tags;
      all_pairs = refl;
      all_senders = refl;
    })

pub goes-by-tags : RoundsKeepLimit → (start : Start) (operations : OpList) (spec : SpecValue) (past : List Item) → IsPlain start → operations.ops ≡ [] → IsLegalSpec spec → IsBetweenRounds past
    → GoesByTags start operations spec past
goes-by-tags keeps start operations spec past plain none legal between =
    let tags = tags_behind start past in
    let ends = told-beside keeps start operations spec past plain none legal between in
    let same : round_ended (start_with tags) ends.end ends.past ≡ played_of tags spec = sym (ap (first_round tags) ends.told2) in
    record {
      told = ends.told ∙ ap (λ (round : Played). rounds_told start past ++ round ∷ []) same;
      tags = ends.tags ∙ ap (λ (round : Played). round.tags) same;
      between = ends.between;
    }

-- what a round makes of tags, as the history of that round says
pub record IsOneRound (tags : List TagValue) (spec : SpecValue) : Type 0 where
  pub end : RoundEnd
  pub slots : ℕ
  pub past : List Item
  pub is : past_behind_round (start_with tags) no_operations spec [] ≡ ended 1 end slots ∷ past
  pub played : played_of tags spec
      ≡ record { senders = tags_listed_where (λ sent. true) past; pairs = pairs_listed past; end = end; tags = tags_behind (start_with tags) past }
  pub kept : AllZip Keeps tags (tags_behind (start_with tags) past)

pub one-round-played : RoundsKeepLimit → (tags : List TagValue) (spec : SpecValue) → IsLegalSpec spec → IsOneRound tags spec
one-round-played keeps tags spec legal =
    let first = tags-from-none 0 tags in
    let ends = told-beside keeps (start_with tags) no_operations spec [] (record { entries = refl; several = refl }) refl legal (record { pairs = refl; senders = refl }) in
    subst (λ (same : List TagValue). IsOneRound same spec) first
    (record {
      end = ends.end;
      slots = ends.slots;
      past = ends.past;
      is = ends.is;
      played =
          ap (first_round (tags_behind (start_with tags) [])) ends.told2
          ∙ (λ i. record { senders = sym ends.all_senders i; pairs = sym ends.all_pairs i; end = ends.end; tags = tags_behind (start_with (tags_behind (start_with tags) [])) ends.past });
      kept = ends.kept;
    })
