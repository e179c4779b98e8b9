-- A round of which nothing is said, from its Query to its end.
use Rattle.runs.proofs.Names.{◌≡◌, ℕ, ◌+◌, ◌==◌, Bool, true, false, List, [], ◌∷◌, length, if◌then◌else◌, refl, ap, sym, ◌∙◌, subst, append-nil, eq-eqb, and_parts, eqb-true, replies_in, Start, Record}
use Rattle.runs.proofs.Names.{Item, exchanged, ended, tag_behind, tags_behind, next_entry, next_record, whole_reply, no_entry, Entry, begins_slot, Command, is_spoken_to, AreApart, sender_listed_by}
use Rattle.runs.proofs.Names.{is_of_round, is_of_slot, tags_listed_where, times, past_after_query, is_matched, slot_answer_of, StandsAfterSlot, LinkValue, IsNextTurn, RoundFacts, IsSilentFrame}
use Rattle.runs.proofs.Names.{AreOutcomes, next_command, q_of, frame_of, SpecValue, IsLegalSpec, Outcome, Next, RoundEnd, TagValue}
use Rattle.air_events.specs.declared.Several.TheVariants as severals
use Rattle.q_round.specs.declared.round.Next.TheVariants as nexts
use Rattle.q_round.specs.declared.round.RoundEnd.TheVariants as round_ends
use Rattle.reply_grammar.specs.declared.expected.Reply.TheVariants as replies
use Rattle.runs.proofs.Heard.{slot-heard, heard-one, one-answerer}
use Rattle.runs.proofs.OtherRounds.{AreOfOthers, IsTestOf, listed-others, records-others}
use Rattle.runs.proofs.Records.{AllRecords}
use Rattle.runs.proofs.Population.{tag-steps, replies_behind}
use Rattle.runs.proofs.TagsInRound.{query_command, past_at_query, StepsFlagsOf, ListsOwnEpc, lists-nobody, StandsSent, StandsNext, slot-no-sender, stands-unacknowledged, stands-acknowledged}
use Rattle.runs.proofs.TagsInRound.{stands-sent}
use Rattle.runs.proofs.TagQuery.{query-stands, query-answer, query-spoken}
use Rattle.runs.proofs.Times.{lists-none}
use Rattle.runs.proofs.Turns.{round-holds}
use Rattle.runs.proofs.Growth.{RoundsKeepLimit, next_at_end}
use Rattle.runs.proofs.PlayedRounds.{PlayedRound, number_of, past_behind_played, DoesNext}

-- nothing is said of a record, and where the channel captures one of several replies no two tags answered a slot command alike
pub record IsFair (start : Start) (sent : Record) : Type 0 where
  pub unsaid : sent.entry ≡ no_entry
  pub apart : start.several ≡ severals.Capture → begins_slot sent.command ≡ true → AreApart sent.replies

-- ... where it is one of the round
abbrev pub IsFairIn : Start → ℕ → Record → List Item → Type 0
IsFairIn start round sent earlier = sent.round ≡ round → IsFair start sent

none-listed : (round : ℕ) (test : Record → Bool) (past : List Item) → IsTestOf round test → AreOfOthers round past → tags_listed_where test past ≡ []
none-listed round test past of others =
    ap (λ (items : List Item). tags_listed_where test items) (sym (append-nil past)) ∙ listed-others round test past [] of others

pub round-test : (round : ℕ) → IsTestOf round (is_of_round round)
round-test round sent passes = eqb-true sent.round round passes

pub slot-test : (round slot : ℕ) → IsTestOf round (is_of_slot round slot)
slot-test round slot sent passes = eqb-true sent.round round (and_parts (sent.round == round) (sent.slot == slot) passes).0

-- Just after its Query each tag stands in the first slot of the round.
query-sent : (round : PlayedRound) → RoundFacts round.spec round.start.link → AreOfOthers (number_of round) round.before → next_entry round.start round.before ≡ no_entry
    → StandsSent round [] (next_record round.start (number_of round) 1 (query_command round.spec round.start.link) round.before) round.before
query-sent round facts others unsaid =
    let start = round.start in
    let spec = round.spec in
    let before = round.before in
    let of : ℕ = number_of round in
    let link = start.link in
    let command = query_command spec link in
    let query = past_at_query round in
    let sent = next_record start of 1 command before in
    let none : sender_listed_by sent ≡ [] = slot-no-sender sent refl in
    let after = λ (number : ℕ) (tag : TagValue). tag-steps start of 1 command before number tag unsaid in
    record {
      listed = λ number. false;
      unsaid = unsaid;
      begins = refl;
      tells = record {
        query_is = ap (λ (is : Bool). if is then query else past_after_query of before) (eq-eqb of of refl);
        spoken = λ number tag numbered.
            let now = tag_behind number tag before in
            subst (λ (t : TagValue). is_matched t.state ≡ is_spoken_to spec t) (sym (after number tag))
            (query-spoken link.dr link.code link.trext spec.sel spec.session spec.target spec.q now);
        flags = (
          λ same number tag numbered. record { slot = λ later. absurd (cc); other = λ not_slot not_query. absurd (cc) },
          subst (AllRecords (StepsFlagsOf start of spec.session)) (append-nil before)
              (records-others (StepsFlagsOf start of spec.session) of before [] (λ other earlier differs same. absurd (differs same)) others tt),
        );
        epcs = (
          lists-nobody start of query sent before none,
          subst (AllRecords (ListsOwnEpc start of query)) (append-nil before)
              (records-others (ListsOwnEpc start of query) of before [] (λ other earlier differs same. absurd (differs same)) others tt),
        );
      };
      counts = record {
        count = λ number. ap (λ (tags : List ℕ). times number tags)
            (lists-none (is_of_round of) sent before none ∙ none-listed of (is_of_round of) before (round-test of) others);
        later = λ slot above. lists-none (is_of_slot of slot) sent before none ∙ none-listed of (is_of_slot of slot) before (slot-test of slot) others;
        strangers = λ number stranger. refl;
      };
      tags = λ number tag numbered.
          let now = tag_behind number tag before in
          subst (λ (q : ℕ). StandsAfterSlot spec.session q (frame_of spec []) (tag_behind number tag query) false (tag_behind number tag query)) (sym facts.first_q)
          (subst (λ (frame : List Outcome). StandsAfterSlot spec.session spec.q frame (tag_behind number tag query) false (tag_behind number tag query)) (sym facts.first_frame)
          (subst (λ (t : TagValue). StandsAfterSlot spec.session spec.q [] t false t) (sym (after number tag))
          (query-stands link.dr link.code link.trext spec.sel spec.session spec.target spec.q now)));
      answers = λ number tag numbered.
          let now = tag_behind number tag before in
          query-answer link.dr link.code link.trext spec.sel spec.session spec.target spec.q now
          ∙ ap (λ (t : TagValue). slot_answer_of t.state) (sym (after number tag));
    }

-- just before what comes next: the Query, or what comes behind the first of the outcomes
abbrev pub IsNext : PlayedRound → List Outcome → List Item → Type 0
IsNext round [] now = now ≡ round.before
IsNext round (outcome ∷ outcomes) now = AllRecords (IsFairIn round.start (number_of round)) now → StandsNext round outcome outcomes now

-- just after a slot command
abbrev pub IsSent : PlayedRound → List Outcome → Record → List Item → Type 0
IsSent round outcomes sent now = AllRecords (IsFairIn round.start (number_of round)) (exchanged sent ∷ now) → StandsSent round outcomes sent now

-- how a round came to its end: the outcome of the last slot, those of the earlier ones, the latest first, and what was past then
pub record LastSlot : Type 0 where
  pub end : RoundEnd
  pub outcome : Outcome
  pub earlier : List Outcome
  pub now : List Item

-- how many slots the round had
abbrev pub slots_to : LastSlot → ℕ
slots_to last = length (last.outcome ∷ last.earlier)

-- where the round ends quiet, its last frame was silent
abbrev pub IsSilentWhereQuiet : SpecValue → LastSlot → Type 0
IsSilentWhereQuiet spec last = last.end ≡ round_ends.Quiet → IsSilentFrame (q_of spec last.earlier) (last.outcome ∷ frame_of spec last.earlier)

-- behind the end
pub record IsOver (round : PlayedRound) (behind : List Item) : Type 0 where
  pub last : LastSlot
  pub is : behind ≡ ended (number_of round) last.end (slots_to last) ∷ last.now
  pub stands : AllRecords (IsFairIn round.start (number_of round)) last.now → StandsNext round last.outcome last.earlier last.now
  pub quiet : IsSilentWhereQuiet round.spec last

first-sent : (round : PlayedRound) (now : List Item) (command : Command) → RoundFacts round.spec round.start.link → AreOfOthers (number_of round) round.before
    → query_command round.spec round.start.link ≡ command → round.before ≡ now → next_entry round.start now ≡ no_entry
    → StandsSent round [] (next_record round.start (number_of round) 1 command now) now
first-sent round now command facts others same_command same unsaid =
    let start = round.start in
    let of : ℕ = number_of round in
    subst (λ (c : Command). StandsSent round [] (next_record start of 1 c now) now) same_command
    (subst (λ (p : List Item). StandsSent round [] (next_record start of 1 (query_command round.spec start.link) p) p) same
    (query-sent round facts others (subst (λ (p : List Item). next_entry start p ≡ no_entry) (sym same) unsaid)))

slot-sent : (round : PlayedRound) → RoundFacts round.spec round.start.link → AreOfOthers (number_of round) round.before
    → (outcomes : List Outcome) (now : List Item) (command : Command) → DoesNext round outcomes (nexts.Send command) → IsNext round outcomes now
    → IsSent round outcomes (next_record round.start (number_of round) (length outcomes + 1) command now) now
slot-sent round facts others [] now command does same unsaid =
    let sends : nexts.Send (query_command round.spec round.start.link) ≡ nexts.Send command = sym facts.begins ∙ does.is in
    let same_command : query_command round.spec round.start.link ≡ command = cc in
    first-sent round now command facts others same_command (sym same) (unsaid.0 refl).unsaid
slot-sent round facts others (outcome ∷ earlier) now command does holds unsaid =
    stands-sent round facts outcome earlier now command does (unsaid.0 refl).unsaid (holds unsaid.1)

no-end-yet : (spec : SpecValue) (link : LinkValue) (end : RoundEnd) → RoundFacts spec link → next_command spec link [] ≡ next_at_end end → ⊥
no-end-yet spec link round_ends.Quiet facts is = let both : nexts.Send (query_command spec link) ≡ nexts.Quiet = sym facts.begins ∙ is in cc
no-end-yet spec link round_ends.Limit facts is = let both : nexts.Send (query_command spec link) ≡ nexts.Limit = sym facts.begins ∙ is in cc

silent-end : (spec : SpecValue) (link : LinkValue) (outcome : Outcome) (earlier : List Outcome) (end : RoundEnd) → RoundFacts spec link → AreOutcomes spec (outcome ∷ earlier)
    → next_command spec link (outcome ∷ earlier) ≡ next_at_end end → end ≡ round_ends.Quiet → IsSilentFrame (q_of spec earlier) (outcome ∷ frame_of spec earlier)
silent-end spec link outcome earlier round_ends.Quiet facts are is quiet =
    subst (λ (next : Next). IsNextTurn next spec.session (q_of spec earlier) (outcome ∷ frame_of spec earlier) (q_of spec (outcome ∷ earlier)) (frame_of spec (outcome ∷ earlier))) is
    (facts.turn outcome earlier are)
silent-end spec link outcome earlier round_ends.Limit facts are is quiet = absurd (cc)

round-over : (round : PlayedRound) → RoundFacts round.spec round.start.link
    → (outcomes : List Outcome) (now : List Item) (end : RoundEnd) → DoesNext round outcomes (next_at_end end)
    → IsNext round outcomes now → IsOver round (ended (number_of round) end (length outcomes) ∷ now)
round-over round facts [] now end does same = absurd (no-end-yet round.spec round.start.link end facts does.is)
round-over round facts (outcome ∷ earlier) now end does holds = record {
  last = record { end = end; outcome = outcome; earlier = earlier; now = now };
  is = refl;
  stands = holds;
  quiet = silent-end round.spec round.start.link outcome earlier end facts does.are does.is;
}

-- what the replies to a slot command are, where nothing is said of it
replies-behind : (start : Start) (round slot : ℕ) (command : Command) (past : List Item) → next_entry start past ≡ no_entry
    → (next_record start round slot command past).replies ≡ replies_behind 0 command start.tags past
replies-behind start round slot command past unsaid = ap (λ (entry : Entry). replies_in command entry (tags_behind start past)) unsaid

pub round-stands : (round : PlayedRound) → RoundsKeepLimit → IsLegalSpec round.spec → RoundFacts round.spec round.start.link → round.operations.ops ≡ []
    → AreOfOthers (number_of round) round.before → IsOver round (past_behind_played round)
round-stands round keeps legal facts none others =
    let start = round.start in
    let of : ℕ = number_of round in
    round-holds (IsNext round) (IsSent round) (IsOver round) round keeps legal
    (record {
      slot = slot-sent round facts others;
      no_answer = λ outcomes now command reception heard none holds fair. stands-unacknowledged round outcomes now command reception heard (holds fair);
      ack = λ outcomes now command rn heard holds fair.
          let stands = holds fair.1 in
          let all = replies_behind 0 command start.tags now in
          stands-acknowledged round outcomes now command rn
          (one-answerer start command now rn (heard-one start.several all rn
          (λ captures. subst AreApart (replies-behind start of (length outcomes + 1) command now stands.unsaid) ((fair.1.0 refl).apart captures stands.begins))
          (slot-heard start of (length outcomes + 1) command now (whole_reply (replies.Rn16 rn)) stands.unsaid heard)))
          (fair.0 refl).unsaid stands;
      operation = λ some. absurd (some none);
      result = λ some. absurd (some none);
      end = round-over round facts;
    })
    refl
