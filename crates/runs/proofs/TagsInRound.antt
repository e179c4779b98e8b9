-- Where the tags of a start stand in a round of which nothing is said: just after each slot command, and just before the next.
use Rattle.runs.proofs.Names.{◌≡◌, ◌≢◌, ℕ, ◌+◌, ◌-◌, ◌<◌, ◌==◌, ◌||◌, Bool, true, false, List, [], ◌∷◌, ◌++◌, length, Option, Some, None, slice_get, if◌then◌else◌, refl, ap, sym, ◌∙◌, subst, arith}
use Rattle.runs.proofs.Names.{add-one, eq-eqb, ne_eqb, eqb-true, and_parts, not, Start, Record, Item, exchanged, tag_behind, next_entry, next_record, past_behind_command, Reception, no_entry}
use Rattle.runs.proofs.Names.{begins_slot, outcome_of, slot_reception, listed_from, listed_by, reception_of_ack, Command, HasNumber, is_spoken_to, sender_where, sender_listed_by, listed_as}
use Rattle.runs.proofs.Names.{is_of_round, is_of_slot, tags_listed_in, tags_listed_in_slot, times, is_query, begins_later_slot, is_query_of, past_after_query, flags_behind, is_matched, flags_in_round}
use Rattle.runs.proofs.Names.{slot_answer_of, is_acknowledged_by, LinkValue, IsNextSlot, IsNextTurn, RoundFacts, q_of, frame_of, SpecValue, Outcome, Silence, Whole, Next, TagValue}
use Rattle.command_grammar.specs.declared.commands.Command.TheVariants as commands
use Rattle.q_round.specs.declared.round.Next.TheVariants as nexts
use Rattle.runs.proofs.Heard.{slot-heard, silent-none, no-replies-none, IsOnlyAnswerer, same-tag, acknowledges-one, epc_sent, ack-lists, ack-lists-as}
use Rattle.runs.proofs.HeadlineLines.{and-false}
use Rattle.runs.proofs.Records.{AllRecords}
use Rattle.runs.proofs.Population.{answer_behind, tag_stepped, tag-steps, reply_by, replies_behind, one-replies}
use Rattle.runs.proofs.TagBetween.{unacknowledged-stands, ack-stands, ack-answer, ack-body}
use Rattle.runs.proofs.TagEnds.{listed-once}
use Rattle.runs.proofs.Members.{Frame, Member, StandsAfter, StandsBefore}
use Rattle.runs.proofs.TagSteps.{Turn, slot-stands, slot-answer, slot-flags}
use Rattle.runs.proofs.Times.{bit, times-append, times-one, bit-either, bit-test, lists-none, lists-elsewhere, lists-one}
use Rattle.runs.proofs.PlayedRounds.{SlotOfRun, PlayedRound, number_of, slot_in, DoesNext}

-- the Query of a round
abbrev pub query_command : SpecValue → LinkValue → Command
query_command spec link = commands.Query link.dr link.code link.trext spec.sel spec.session spec.target spec.q

-- what is past just after it
abbrev pub past_at_query : PlayedRound → List Item
past_at_query round = past_behind_command round.start (number_of round) 1 (query_command round.spec round.start.link) round.before

-- the frame of a round behind these outcomes, the latest first
abbrev pub frame_behind : PlayedRound → List Outcome → Frame
frame_behind round outcomes = record { session = round.spec.session; q = q_of round.spec outcomes; slots = frame_of round.spec outcomes }

-- what a record of the round does to the flags of a tag
pub record StepsOwnFlags (round session : ℕ) (sent : Record) (earlier : List Item) (number : ℕ) (tag : TagValue) : Type 0 where
  pub slot : begins_later_slot sent.command ≡ true → flags_behind number tag (exchanged sent ∷ earlier)
      ≡ flags_in_round session (times number (tags_listed_in_slot round (sent.slot - 1) earlier) == 1) (flags_behind number tag earlier)
  pub other : begins_later_slot sent.command ≡ false → is_query sent.command ≡ false
      → flags_behind number tag (exchanged sent ∷ earlier) ≡ flags_behind number tag earlier

-- ... where it is one of the round
abbrev pub StepsFlagsOf : Start → (round session : ℕ) → Record → List Item → Type 0
StepsFlagsOf start round session sent earlier =
    sent.round ≡ round → (number : ℕ) (tag : TagValue) → HasNumber start number tag → StepsOwnFlags round session sent earlier number tag

-- a record of the round lists its sender with the PC and the EPC in its memory
abbrev pub ListsOwnEpc : Start → ℕ → List Item → Record → List Item → Type 0
ListsOwnEpc start round query sent earlier =
    sent.round ≡ round → (number : ℕ) (tag : TagValue) → HasNumber start number tag → sender_listed_by sent ≡ number ∷ []
    → listed_by sent ≡ listed_as sent (tag_behind number tag query).body.memory ∷ []

-- a record that lists nobody
pub lists-nobody : (start : Start) (round : ℕ) (query : List Item) (sent : Record) (earlier : List Item) → sender_listed_by sent ≡ [] → ListsOwnEpc start round query sent earlier
lists-nobody start round query sent earlier none same number tag numbered one =
    let both : [] ≡ number ∷ [] = sym none ∙ one in absurd (cc)

-- What a past tells of the round so far: its Query, behind which the tags that take part are those that it speaks to, and that its
-- records did to the flags what they may.
pub record Tells (round : PlayedRound) (past : List Item) : Type 0 where
  pub query_is : past_after_query (number_of round) past ≡ past_at_query round
  pub spoken : (number : ℕ) (tag : TagValue) → HasNumber round.start number tag
      → is_matched (tag_behind number tag (past_at_query round)).state ≡ is_spoken_to round.spec (tag_behind number tag (past_at_query round))
  pub flags : AllRecords (StepsFlagsOf round.start (number_of round) round.spec.session) past
  pub epcs : AllRecords (ListsOwnEpc round.start (number_of round) (past_at_query round)) past

-- how many times each number is listed in the round, just after the slot command behind so many slots
pub record CountsAfter (round : PlayedRound) (slots : ℕ) (listed : ℕ → Bool) (past : List Item) : Type 0 where
  pub count : (number : ℕ) → times number (tags_listed_in (number_of round) past) ≡ bit (listed number)
  pub later : (slot : ℕ) → slots < slot → tags_listed_in_slot (number_of round) slot past ≡ []
  pub strangers : (number : ℕ) → slice_get round.start.tags number ≡ None → listed number ≡ false

-- ... and just before the next one, in slots before this one and in this one
pub record CountsBefore (round : PlayedRound) (slot : ℕ) (listed listed_now : ℕ → Bool) (past : List Item) : Type 0 where
  pub count : (number : ℕ) → times number (tags_listed_in (number_of round) past) ≡ bit (listed number) + bit (listed_now number)
  pub count_now : (number : ℕ) → times number (tags_listed_in_slot (number_of round) slot past) ≡ bit (listed_now number)
  pub later : (later : ℕ) → slot < later → tags_listed_in_slot (number_of round) later past ≡ []
  pub strangers : (number : ℕ) → slice_get round.start.tags number ≡ None → (listed number ≡ false) × (listed_now number ≡ false)

-- Just after a slot command: where each tag stands, and what it answered the command.
pub record StandsSent (round : PlayedRound) (outcomes : List Outcome) (sent : Record) (past : List Item) : Type 0 where
  pub listed : ℕ → Bool
  pub unsaid : sent.entry ≡ no_entry
  pub begins : begins_slot sent.command ≡ true
  pub tells : Tells round (exchanged sent ∷ past)
  pub counts : CountsAfter round (length outcomes) listed (exchanged sent ∷ past)
  pub tags : (number : ℕ) (tag : TagValue) → HasNumber round.start number tag
      → StandsAfter (frame_behind round outcomes) (tag_behind number tag (past_at_query round)) (listed number) (tag_behind number tag (exchanged sent ∷ past))
  pub answers : (number : ℕ) (tag : TagValue) → HasNumber round.start number tag
      → answer_behind sent.command past number tag ≡ slot_answer_of (tag_behind number tag (exchanged sent ∷ past)).state

-- Just before the next slot command or the end: where each tag stands. The slot that ends had the first outcome.
pub record StandsNext (round : PlayedRound) (outcome : Outcome) (before : List Outcome) (past : List Item) : Type 0 where
  pub listed : ℕ → Bool
  pub listed_now : ℕ → Bool
  pub tells : Tells round past
  pub counts : CountsBefore round (length before + 1) listed listed_now past
  pub tags : (number : ℕ) (tag : TagValue) → HasNumber round.start number tag
      → StandsBefore (frame_behind round before) outcome
      (record { first = tag_behind number tag (past_at_query round); listed = listed number; listed_now = listed_now number }) (tag_behind number tag past)

slot-lists-none : (sent : Record) (command : Command) → begins_slot command ≡ true → listed_from sent (reception_of_ack sent command) ≡ []
slot-lists-none sent (commands.Ack rn) begins = absurd (cc)
slot-lists-none sent command begins = refl

-- a slot command lists nobody
pub slot-no-sender : (sent : Record) → begins_slot sent.command ≡ true → sender_listed_by sent ≡ []
slot-no-sender sent begins = ap (λ listed. sender_where listed sent.given) (slot-lists-none sent sent.command begins)

-- where silence is heard for a slot command no tag replied
silent-slot : (at : SlotOfRun) (command : Command) (past : List Item) → next_entry at.start past ≡ no_entry
    → outcome_of (slot_reception at.start at.round at.slot command past) ≡ Silence → replies_behind 0 command at.start.tags past ≡ []
silent-slot at command past unsaid silent =
    silent-none at.start.several (replies_behind 0 command at.start.tags past)
    (ap outcome_of (slot-heard at.start at.round at.slot command past (slot_reception at.start at.round at.slot command past) unsaid refl) ∙ silent)

-- Where no ACK is sent, each tag stands as it stood after the slot command.
pub stands-unacknowledged : (round : PlayedRound) (outcomes : List Outcome) (past : List Item) (command : Command) (reception : Reception)
    → slot_reception round.start (number_of round) (length outcomes + 1) command past ≡ reception
    → StandsSent round outcomes (next_record round.start (number_of round) (length outcomes + 1) command past) past
    → StandsNext round (outcome_of reception) outcomes (past_behind_command round.start (number_of round) (length outcomes + 1) command past)
stands-unacknowledged round outcomes past command reception heard stands =
    let start = round.start in
    let slot : ℕ = length outcomes + 1 in
    let now = past_behind_command start (number_of round) slot command past in
    record {
      listed = stands.listed;
      listed_now = λ number. false;
      tells = stands.tells;
      counts = record {
        count = λ number. stands.counts.count number ∙ omega arith;
        count_now = λ number. ap (λ (tags : List ℕ). times number tags) (stands.counts.later slot (omega arith));
        later = λ later above. stands.counts.later later (omega arith);
        strangers = λ number none. (stands.counts.strangers number none, refl);
      };
      tags = λ number tag numbered.
          unacknowledged-stands (frame_behind round outcomes) (outcome_of reception) (tag_behind number tag (past_at_query round)) (stands.listed number) (tag_behind number tag now)
          (λ silent.
          sym (stands.answers number tag numbered)
          ∙ no-replies-none start command past number tag (silent-slot (slot_in round slot) command past stands.unsaid (ap outcome_of heard ∙ silent)) numbered)
          (stands.tags number tag numbered);
    }

same-slot : (round slot : ℕ) (sent : Record) → sent.round ≡ round → sent.slot ≡ slot → is_of_slot round slot sent ≡ true
same-slot round slot sent same_round same_slot =
    let first : (sent.round == round) ≡ true = eq-eqb sent.round round same_round in
    let second : (sent.slot == slot) ≡ true = eq-eqb sent.slot slot same_slot in
    rw first second

other-slot : (round slot : ℕ) (sent : Record) → sent.slot ≢ slot → is_of_slot round slot sent ≡ false
other-slot round slot sent other = and-false (sent.round == round) (sent.slot == slot) (ne_eqb sent.slot slot other)

-- what an ACK does to the flags of a tag: nothing
ack-flags : (at : SlotOfRun) (session rn : ℕ) (now : List Item) (number : ℕ) (tag : TagValue) → next_entry at.start now ≡ no_entry
    → (tag_stepped (commands.Ack rn) now number tag).body ≡ (tag_behind number tag now).body
    → StepsOwnFlags at.round session (next_record at.start at.round at.slot (commands.Ack rn) now) now number tag
ack-flags at session rn now number tag unsaid kept = record {
  slot = λ begins. absurd (cc);
  other = λ not_slot not_query.
      ap (λ (t : TagValue). t.body.flags) (tag-steps at.start at.round at.slot (commands.Ack rn) now number tag unsaid) ∙ ap (λ body. body.flags) kept;
}

-- the one that is acknowledged is no stranger
one-known : (start : Start) (number one : ℕ) (tag : TagValue) (same : Bool) → HasNumber start one tag → slice_get start.tags number ≡ None → (one == number) ≡ same → same ≡ false
one-known start number one tag false numbered none is = refl
one-known start number one tag true numbered none is =
    let alike : one ≡ number = eqb-true one number is in
    let found : slice_get start.tags number ≡ Some tag = subst (λ n. slice_get start.tags n ≡ Some tag) alike numbered in
    absurd (cc)

-- Where an ACK is sent, the one tag that answered with its RN16 is listed.
pub stands-acknowledged : (round : PlayedRound) (outcomes : List Outcome) (past : List Item) (command : Command) (rn : ℕ)
    → let slot = length outcomes + 1 in
    let now = past_behind_command round.start (number_of round) slot command past in
    IsOnlyAnswerer round.start command past rn → next_entry round.start now ≡ no_entry
    → StandsSent round outcomes (next_record round.start (number_of round) slot command past) past
    → StandsNext round Whole outcomes (past_behind_command round.start (number_of round) slot (commands.Ack rn) now)
stands-acknowledged round outcomes past command rn one unsaid stands =
    let start = round.start in
    let of : ℕ = number_of round in
    let query = past_at_query round in
    let on : Frame = frame_behind round outcomes in
    let slot : ℕ = length outcomes + 1 in
    let now = past_behind_command start of slot command past in
    let sent = next_record start of slot (commands.Ack rn) now in
    let acknowledged : (number : ℕ) (tag : TagValue) → HasNumber start number tag → is_acknowledged_by rn (tag_behind number tag now).state ≡ (one.number == number) =
    acknowledges-one (record { start = start; command = command; past = past; behind = now }) rn one stands.answers in
    let answer : (number : ℕ) (tag : TagValue) → HasNumber start number tag
    → answer_behind (commands.Ack rn) now number tag ≡ (if one.number == number then Some (epc_sent (tag_behind number tag now).body) else None) =
    λ number tag numbered.
    ack-answer on (tag_behind number tag query) (stands.listed number) rn (tag_behind number tag now) (stands.tags number tag numbered)
    ∙ ap (λ (test : Bool). if test then Some (epc_sent (tag_behind number tag now).body) else None) (acknowledged number tag numbered) in
    let body = (tag_behind one.number one.tag now).body in
    let here : 0 + one.number ≡ one.number = omega arith in
    let alone : replies_behind 0 (commands.Ack rn) start.tags now ≡ reply_by one.number (epc_sent body) ∷ [] =
    one-replies (commands.Ack rn) now 0 start.tags one.number
    (record {
      tag = one.tag;
      sent = epc_sent body;
      numbered = one.numbered;
      answered = subst (λ n. answer_behind (commands.Ack rn) now n one.tag ≡ Some (epc_sent body)) (sym here)
          (answer one.number one.tag one.numbered ∙ ap (λ (test : Bool). if test then Some (epc_sent body) else None) (eq-eqb one.number one.number refl));
    })
    (λ other tag numbered differs.
    subst (λ n. answer_behind (commands.Ack rn) now n tag ≡ None) (omega arith)
    (answer other tag numbered ∙ ap (λ (test : Bool). if test then Some (epc_sent (tag_behind other tag now).body) else None) (ne_eqb one.number other (λ same. differs (sym same)))))
    ∙ ap (λ n. reply_by n (epc_sent body) ∷ []) here in
    let lists : sender_listed_by sent ≡ one.number ∷ [] = ack-lists start of slot rn now one.number body unsaid alone in
    record {
      listed = stands.listed;
      listed_now = λ number. one.number == number;
      tells = record {
        query_is = stands.tells.query_is;
        spoken = stands.tells.spoken;
        flags = (
          λ same number tag numbered. ack-flags (slot_in round slot) round.spec.session rn now number tag unsaid
              (ack-body on (tag_behind number tag query) (stands.listed number) rn (tag_behind number tag now) (stands.tags number tag numbered)),
          stands.tells.flags,
        );
        epcs = (
          λ same number tag numbered senders.
              let found : one.number ∷ [] ≡ number ∷ [] = sym lists ∙ senders in
              let alike : one.number ≡ number = cc in
              let tags : one.tag ≡ tag = same-tag start one.number number one.tag tag one.numbered numbered alike in
              ack-lists-as start of slot rn now one.number body unsaid alone
              ∙ ap (λ memory. listed_as sent memory ∷ []) (stands.tags one.number one.tag one.numbered).body.memory
              ∙ ap (λ n. listed_as sent (tag_behind n one.tag query).body.memory ∷ []) alike
              ∙ ap (λ (t : TagValue). listed_as sent (tag_behind number t query).body.memory ∷ []) tags,
          stands.tells.epcs,
        );
      };
      counts = record {
        count = λ number.
            ap (λ (tags : List ℕ). times number tags) (lists-one (is_of_round of) sent now one.number (eq-eqb of of refl) lists)
            ∙ times-append number (tags_listed_in of now) (one.number ∷ [])
            ∙ ap (λ n. n + times number (one.number ∷ [])) (stands.counts.count number)
            ∙ ap (λ n. bit (stands.listed number) + n) (times-one number one.number);
        count_now = λ number.
            ap (λ (tags : List ℕ). times number tags)
            (lists-one (is_of_slot of slot) sent now one.number (same-slot of slot sent refl refl) lists
            ∙ ap (λ (tags : List ℕ). tags ++ one.number ∷ []) (stands.counts.later slot (omega arith)))
            ∙ times-one number one.number;
        later = λ later above.
            lists-elsewhere (is_of_slot of later) sent now (other-slot of later sent (λ same. absurd (omega (arith, same, above))))
            ∙ stands.counts.later later (omega arith);
        strangers = λ number none. (stands.counts.strangers number none, one-known start number one.number one.tag (one.number == number) one.numbered none refl);
      };
      tags = λ number tag numbered.
          let first = tag_behind number tag query in
          let member : Bool → Member = λ is. record { first = first; listed = stands.listed number; listed_now = is } in
          subst (λ (t : TagValue). StandsBefore on Whole (member (one.number == number)) t)
          (sym (tag-steps start of slot (commands.Ack rn) now number tag unsaid))
          (subst (λ (is : Bool). StandsBefore on Whole (member is) (tag_stepped (commands.Ack rn) now number tag))
          (acknowledged number tag numbered)
          (ack-stands on Whole first (stands.listed number) rn (tag_behind number tag now) (λ e. cc) (stands.tags number tag numbered)));
    }

-- a slot command behind an outcome is a QueryRep or a QueryAdjust
later-slot : (command : Command) (session q : ℕ) (frame : List Outcome) (next_q : ℕ) (next_frame : List Outcome) → IsNextSlot command session q frame next_q next_frame
    → begins_later_slot command ≡ true
later-slot (commands.QueryRep own) session q frame next_q next_frame next = refl
later-slot (commands.QueryAdjust own updn) session q frame next_q next_frame next = refl
later-slot command session q frame next_q next_frame next = absurd next

later-begins : (command : Command) → begins_later_slot command ≡ true → begins_slot command ≡ true
later-begins command later = (and_parts (begins_slot command) (not (is_query command)) later).0

later-no-query : (command : Command) → begins_later_slot command ≡ true → is_query command ≡ false
later-no-query (commands.Query dr code trext sel session target q) later = absurd (cc)
later-no-query command later = refl

no-query-of : (round : ℕ) (sent : Record) → is_query sent.command ≡ false → is_query_of round sent ≡ false
no-query-of round sent no_query = rw no_query refl

-- what a slot command does to the flags of a tag, which was listed in the slot before or not
slot-steps-flags : (round : PlayedRound) (slot : ℕ) (command : Command) (past : List Item) (number : ℕ) (tag : TagValue)
    → next_entry round.start past ≡ no_entry → begins_later_slot command ≡ true
    → (tag_stepped command past number tag).body.flags
    ≡ flags_in_round round.spec.session (times number (tags_listed_in_slot (number_of round) slot past) == 1) (tag_behind number tag past).body.flags
    → StepsOwnFlags (number_of round) round.spec.session (next_record round.start (number_of round) (slot + 1) command past) past number tag
slot-steps-flags round slot command past number tag unsaid begins flags =
    let before : slot + 1 - 1 ≡ slot = omega arith in
    record {
      slot = λ is.
          ap (λ (t : TagValue). t.body.flags) (tag-steps round.start (number_of round) (slot + 1) command past number tag unsaid) ∙ flags
          ∙ ap (λ n. flags_in_round round.spec.session (times number (tags_listed_in_slot (number_of round) n past) == 1) (flags_behind number tag past)) (sym before);
      other = λ not_slot not_query. absurd (cc);
    }

-- no number is listed in two slots
pub known-once : (round : PlayedRound) (outcome : Outcome) (before : List Outcome) (past : List Item)
    (stands : StandsNext round outcome before past) (number : ℕ) (found : Option TagValue) → slice_get round.start.tags number ≡ found
    → stands.listed number ≡ true → stands.listed_now number ≡ false
known-once round outcome before past stands number None none listed = (stands.counts.strangers number none).1
known-once round outcome before past stands number (Some tag) numbered listed =
    let member : Member =
    record { first = tag_behind number tag (past_at_query round); listed = stands.listed number; listed_now = stands.listed_now number } in
    (listed-once (frame_behind round before) outcome member (tag_behind number tag past) (stands.tags number tag numbered)).once listed

-- A slot command behind an outcome takes each tag to where it stands after it.
pub stands-sent : (round : PlayedRound) → RoundFacts round.spec round.start.link
    → (outcome : Outcome) (before : List Outcome) (past : List Item) (command : Command) → DoesNext round (outcome ∷ before) (nexts.Send command)
    → next_entry round.start past ≡ no_entry → StandsNext round outcome before past
    → StandsSent round (outcome ∷ before) (next_record round.start (number_of round) (length (outcome ∷ before) + 1) command past) past
stands-sent round facts outcome before past command does unsaid stands =
    let start = round.start in
    let spec = round.spec in
    let of : ℕ = number_of round in
    let slot : ℕ = length (outcome ∷ before) in
    let same : length before + 1 ≡ slot = add-one (length before) in
    let sent = next_record start of (slot + 1) command past in
    let next : IsNextSlot command spec.session (q_of spec before) (outcome ∷ frame_of spec before) (q_of spec (outcome ∷ before)) (frame_of spec (outcome ∷ before)) =
    subst (λ (next : Next). IsNextTurn next spec.session (q_of spec before) (outcome ∷ frame_of spec before) (q_of spec (outcome ∷ before)) (frame_of spec (outcome ∷ before))) does.is
    (facts.turn outcome before does.are) in
    let later : begins_later_slot command ≡ true =
    later-slot command spec.session (q_of spec before) (outcome ∷ frame_of spec before) (q_of spec (outcome ∷ before)) (frame_of spec (outcome ∷ before)) next in
    let none : sender_listed_by sent ≡ [] = slot-no-sender sent (later-begins command later) in
    let listed = λ (number : ℕ). stands.listed number || stands.listed_now number in
    let first = λ (number : ℕ) (tag : TagValue). tag_behind number tag (past_at_query round) in
    let on : Frame = frame_behind round before in
    let by : Turn on = record {
      outcome = outcome;
      next_q = q_of spec (outcome ∷ before);
      next_slots = frame_of spec (outcome ∷ before);
      small = facts.range before does.are.1;
      next_small = facts.range (outcome ∷ before) does.are;
    } in
    let member : ℕ → TagValue → Member = λ number tag. record { first = first number tag; listed = stands.listed number; listed_now = stands.listed_now number } in
    let once : (number : ℕ) → stands.listed number ≡ true → stands.listed_now number ≡ false =
    λ number is. known-once round outcome before past stands number (slice_get start.tags number) refl is in
    let listed_then : (number : ℕ) → (times number (tags_listed_in_slot of slot past) == 1) ≡ stands.listed_now number =
    λ number.
    ap (λ n. times number (tags_listed_in_slot of n past) == 1) (sym same)
    ∙ ap (λ n. n == 1) (stands.counts.count_now number)
    ∙ bit-test (stands.listed_now number) in
    record {
      listed = listed;
      unsaid = unsaid;
      begins = later-begins command later;
      tells = record {
        query_is =
            ap (λ (is : Bool). if is then exchanged sent ∷ past else past_after_query of past) (no-query-of of sent (later-no-query command later))
            ∙ stands.tells.query_is;
        spoken = stands.tells.spoken;
        flags = (
          λ same_round number tag numbered.
              slot-steps-flags round slot command past number tag unsaid later
              (slot-flags on by (member number tag) command (tag_behind number tag past) next (stands.tags number tag numbered)
              ∙ ap (λ (is : Bool). flags_in_round spec.session is (flags_behind number tag past)) (sym (listed_then number))),
          stands.tells.flags,
        );
        epcs = (lists-nobody start of (past_at_query round) sent past none, stands.tells.epcs);
      };
      counts = record {
        count = λ number.
            ap (λ (tags : List ℕ). times number tags) (lists-none (is_of_round of) sent past none)
            ∙ stands.counts.count number
            ∙ sym (bit-either (stands.listed number) (stands.listed_now number) (once number));
        later = λ after above. lists-none (is_of_slot of after) sent past none ∙ stands.counts.later after (omega arith);
        strangers = λ number stranger. ap (λ (b : Bool). b || stands.listed_now number) (stands.counts.strangers number stranger).0 ∙ (stands.counts.strangers number stranger).1;
      };
      tags = λ number tag numbered.
          subst (λ (t : TagValue). StandsAfter (frame_behind round (outcome ∷ before)) (first number tag) (listed number) t)
          (sym (tag-steps start of (slot + 1) command past number tag unsaid))
          (slot-stands on by (member number tag) command (tag_behind number tag past) next (stands.tags number tag numbered));
      answers = λ number tag numbered.
          slot-answer on by (member number tag) command (tag_behind number tag past) next (stands.tags number tag numbered)
          ∙ ap (λ (t : TagValue). slot_answer_of t.state) (sym (tag-steps start of (slot + 1) command past number tag unsaid));
    }
