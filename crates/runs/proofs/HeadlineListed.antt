-- What came whole is listed once: the rounds and slots of ACKs rise along a history, so that each list line has its own.
use Rattle.runs.proofs.Names.{◌≡◌, ℕ, suc, ◌+◌, ◌<◌, ◌==◌, ◌&&◌, Bool, true, false, ◌⊎◌, inl, inr, List, [], ◌∷◌, ◌++◌, length, map, filter, if◌then◌else◌, refl, ap, sym, ◌∙◌, subst, append-nil}
use Rattle.runs.proofs.Names.{arith, ne_eqb, eq-eqb, Expects, OpList, Given, whole, Replied, Start, Record, Item, exchanged, past_behind_command, rounds_in, has_handle, is_expected, reception_of}
use Rattle.runs.proofs.Names.{Reception, whole_reply, no_such_reply, IsSelect, IsLegalStep, AreLegalSteps, IsRecordOf, Acknowledges, IsGivenWhole, is_list_line, begins_slot, past_behind_round}
use Rattle.runs.proofs.Names.{past_behind_step, history_of, Listed, reception_of_ack, listed_from, listed_by, list_line, past_lines, run_lines, Command, LinkValue, SpecValue, IsLegalSpec, handle_of}
use Rattle.runs.proofs.Names.{suits, Expect, Reply, ReportLine, ListLine, Step}
use Rattle.command_grammar.specs.declared.commands.Command.TheVariants as commands
use Rattle.reply_grammar.specs.declared.expected.Expect.TheVariants as expects
use Rattle.reply_grammar.specs.declared.expected.Reply.TheVariants as replies
use Rattle.scenario.specs.declared.values.Step.TheVariants as steps
use Rattle.runs.proofs.Growth.{RoundsKeepLimit, steps-hold}
use Rattle.runs.proofs.Records.{AllRecords, records-at, records-behind, records-weaker}
use Rattle.runs.proofs.Turns.{round-holds}
use Rattle.runs.proofs.HeadlineLines.{list-lines-pass, sent-passes, item-passes, run-passes, and-false}
use Rattle.runs.proofs.HeadlineSlots.{next-begins}

-- a record tells of this PC and EPC, in its round and slot: they came whole in reply to its ACK
pub record Tells (sent : Record) (listed : Listed) : Type 0 where
  pub round_is : sent.round ≡ listed.round
  pub slot_is : sent.slot ≡ listed.slot
  pub rn : ℕ
  pub acknowledges : Acknowledges sent rn
  pub heard : reception_of expects.Epc sent.given ≡ whole_reply (replies.Epc listed.pc listed.epc)

-- a list line of a past is that of one of its records
pub record IsTold (history : List Item) (listed : Listed) : Type 0 where
  pub sent : Record
  pub earlier : List Item
  pub recorded : IsRecordOf history sent earlier
  pub tells : Tells sent listed

abbrev pub is_ack : Command → Bool
is_ack (commands.Ack rn) = true
is_ack command = false

slot-no-ack : (command : Command) → begins_slot command ≡ true → is_ack command ≡ false
slot-no-ack (commands.Ack rn) begins = absurd (cc)
slot-no-ack command begins = refl

select-no-ack : (command : Command) → IsSelect command → is_ack command ≡ false
select-no-ack (commands.Ack rn) is = absurd is
select-no-ack command is = refl

-- no command of an operation is an ACK
pub expects-no-ack : (command : Command) (expect : Expect) (extended : Bool) → Expects command expect extended → is_ack command ≡ false
expects-no-ack (commands.Ack rn) expect extended suits = absurd suits
expects-no-ack command expect extended suits = refl

-- one round and slot come before another
abbrev pub IsEarlier : (round slot later_round later_slot : ℕ) → Type 0
IsEarlier round slot later_round later_slot = (round < later_round) ⊎ ((round ≡ later_round) × (slot < later_slot))

earlier-on : (a b c d e f : ℕ) → IsEarlier a b c d → IsEarlier c d e f → IsEarlier a b e f
earlier-on a b c d e f (inl left) (inl right) = inl (omega arith)
earlier-on a b c d e f (inl left) (inr right) = inl (omega (arith, right.0))
earlier-on a b c d e f (inr left) (inl right) = inl (omega (arith, left.0))
earlier-on a b c d e f (inr left) (inr right) = inr (left.0 ∙ right.0, omega (arith, left.1, right.1))

not-itself : (a b c d : ℕ) → a ≡ c → b ≡ d → IsEarlier a b c d → ⊥
not-itself a b c d same_round same_slot (inl less) = absurd (omega (arith, less, same_round))
not-itself a b c d same_round same_slot (inr less) = absurd (omega (arith, less.1, same_slot))

-- the ACKs of a past come before a round and slot
abbrev pub AcksBefore : ℕ → ℕ → List Item → Type 0
AcksBefore round slot past = AllRecords (λ sent earlier. is_ack sent.command ≡ true → IsEarlier sent.round sent.slot round slot) past

-- the rounds and slots of the ACKs of a past rise
abbrev pub AcksRise : List Item → Type 0
AcksRise past = AllRecords (λ sent earlier. is_ack sent.command ≡ true → AcksBefore sent.round sent.slot earlier) past

before-on : (round slot later_round later_slot : ℕ) (past : List Item) → IsEarlier round slot later_round later_slot
    → AcksBefore round slot past → AcksBefore later_round later_slot past
before-on round slot later_round later_slot past less =
    records-weaker (λ sent earlier. is_ack sent.command ≡ true → IsEarlier sent.round sent.slot round slot)
    (λ sent earlier. is_ack sent.command ≡ true → IsEarlier sent.round sent.slot later_round later_slot) past
    (λ sent earlier before ack. earlier-on sent.round sent.slot round slot later_round later_slot (before ack) less)

-- within a round: the ACKs of a past rise, and come before the next slot
record RiseIn (round slot : ℕ) (past : List Item) : Type 0 where
  pub rounds : rounds_in past + 1 ≡ round
  pub before : AcksBefore round slot past
  pub rise : AcksRise past

-- a record with another command changes nothing
rise-other : (round slot : ℕ) (sent : Record) (past : List Item) → is_ack sent.command ≡ false → RiseIn round slot past → RiseIn round slot (exchanged sent ∷ past)
rise-other round slot sent past other holds = record {
  rounds = holds.rounds;
  before = (λ ack. absurd (cc), holds.before);
  rise = (λ ack. absurd (cc), holds.rise);
}

rise-later : (round slot later : ℕ) (past : List Item) → slot < later → RiseIn round slot past → RiseIn round later past
rise-later round slot later past less holds = record {
  rounds = holds.rounds;
  before = before-on round slot round later past (inr (refl, less)) holds.before;
  rise = holds.rise;
}

-- between steps: they come before the next round
abbrev pub AcksRiseBefore : List Item → Type 0
AcksRiseBefore past = AcksRise past × AcksBefore (rounds_in past + 1) 1 past

round-rise : RoundsKeepLimit → (start : Start) (operations : OpList) (spec : SpecValue) (past : List Item) → IsLegalSpec spec → AcksRiseBefore past
    → AcksRiseBefore (past_behind_round start operations spec past)
round-rise keeps start operations spec past legal holds =
    let round : ℕ = rounds_in past + 1 in
    round-holds (λ outcomes now. RiseIn round (length outcomes + 1) now) (λ outcomes sent now. RiseIn round (length outcomes + 1) (exchanged sent ∷ now)) AcksRiseBefore
    (record { start = start; operations = operations; spec = spec; before = past }) keeps legal
    (record {
      slot = λ outcomes now command next inside.
          rise-other round (length outcomes + 1) _ now (slot-no-ack command (next-begins spec start.link outcomes command next.is)) inside;
      no_answer = λ outcomes now command reception heard none inside. rise-later round (length outcomes + 1) (suc (length outcomes) + 1) _ (omega arith) inside;
      ack = λ outcomes now command rn heard inside.
          let more = rise-later round (length outcomes + 1) (suc (length outcomes) + 1) (past_behind_command start round (length outcomes + 1) command now) (omega arith) inside in
          record { rounds = more.rounds; before = (λ ack. inr (refl, omega arith), more.before); rise = (λ ack. inside.before, more.rise) };
      operation = λ some outcomes now command expect extended suits inside.
          rise-other round (suc (length outcomes) + 1) _ now (expects-no-ack command expect extended suits) inside;
      result = λ some outcomes now index result inside. record { rounds = inside.rounds; before = inside.before; rise = inside.rise };
      end = λ outcomes now end next inside.
          let last : rounds_in now + 1 ≡ round = inside.rounds in
          (inside.rise, before-on round (length outcomes + 1) (rounds_in now + 1 + 1) 1 now (inl (omega arith)) inside.before);
    })
    (record { rounds = refl; before = holds.1; rise = holds.0 })

step-rise : RoundsKeepLimit → (start : Start) (step : Step) (past : List Item) → IsLegalStep step → AcksRiseBefore past → AcksRiseBefore (past_behind_step start step past)
step-rise keeps start (steps.Select command) past legal holds =
    let other : is_ack command ≡ false = select-no-ack command legal in
    ((λ ack. absurd (cc), holds.0), (λ ack. absurd (cc), holds.1))
step-rise keeps start steps.Nak past legal holds = ((λ ack. absurd (cc), holds.0), (λ ack. absurd (cc), holds.1))
step-rise keeps start (steps.Event event number) past legal holds = holds
step-rise keeps start (steps.Round spec operations) past legal holds = round-rise keeps start operations spec past legal.legal holds

-- along a history they rise
pub history-rises : RoundsKeepLimit → (start : Start) (steps : List Step) → AreLegalSteps steps → AcksRise (history_of start steps)
history-rises keeps start steps legal =
    (steps-hold AcksRiseBefore IsLegalStep start (step-rise keeps start) steps [] legal (tt, tt)).0

-- an ACK of a past that comes before a round and slot
before-at : (round slot : ℕ) (later : List Item) (sent : Record) (earlier : List Item) → AcksBefore round slot (later ++ exchanged sent ∷ earlier)
    → is_ack sent.command ≡ true → IsEarlier sent.round sent.slot round slot
before-at round slot later sent earlier =
    records-at (λ sent earlier. is_ack sent.command ≡ true → IsEarlier sent.round sent.slot round slot) later sent earlier

-- the list lines of a round and slot among the lines of a past
abbrev pub list_lines : LinkValue → ℕ → ℕ → List Item → List ReportLine
list_lines link round slot past = filter (is_list_line round slot) (past_lines link past)

-- no other command than an ACK lists anything
lists-none : (sent : Record) (command : Command) → is_ack command ≡ false → listed_from sent (reception_of_ack sent command) ≡ []
lists-none sent (commands.Ack rn) other = absurd (cc)
lists-none sent command other = refl

-- ... and none at another place
lists-elsewhere : (round slot : ℕ) (sent : Record) (reception : Reception) → (sent.round == round && sent.slot == slot) ≡ false
    → filter (is_list_line round slot) (map list_line (listed_from sent reception)) ≡ []
lists-elsewhere round slot sent (whole_reply (replies.Epc pc epc)) other = rw other refl
lists-elsewhere round slot sent reception other = refl

other-place : (a b c d : ℕ) → IsEarlier a b c d → (a == c && b == d) ≡ false
other-place a b c d (inl less) = let other : (a == c) ≡ false = ne_eqb a c (λ same. absurd (omega (arith, less, same))) in rw other refl
other-place a b c d (inr less) = and-false (a == c) (b == d) (ne_eqb b d (λ same. absurd (omega (arith, less.1, same))))

later-place : (a b c d : ℕ) → IsEarlier c d a b → (a == c && b == d) ≡ false
later-place a b c d (inl less) = let other : (a == c) ≡ false = ne_eqb a c (λ same. absurd (omega (arith, less, same))) in rw other refl
later-place a b c d (inr less) = and-false (a == c) (b == d) (ne_eqb b d (λ same. absurd (omega (arith, less.1, same))))

-- a record that sends no ACK in this round and slot has no list line there
no-line : (round slot : ℕ) (sent : Record) (ack : Bool) → is_ack sent.command ≡ ack → (ack ≡ true → (sent.round == round && sent.slot == slot) ≡ false)
    → filter (is_list_line round slot) (map list_line (listed_by sent)) ≡ []
no-line round slot sent false is other = ap (λ (listing : List Listed). filter (is_list_line round slot) (map list_line listing)) (lists-none sent sent.command is)
no-line round slot sent true is other = lists-elsewhere round slot sent (reception_of_ack sent sent.command) (other refl)

passes-record : (link : LinkValue) (round slot : ℕ) (sent : Record) (past : List Item) → (is_ack sent.command ≡ true → (sent.round == round && sent.slot == slot) ≡ false)
    → list_lines link round slot (exchanged sent ∷ past) ≡ list_lines link round slot past
passes-record link round slot sent past other =
    sent-passes (is_list_line round slot) (list-lines-pass round slot) link sent past
    ∙ ap (λ (lines : List ReportLine). list_lines link round slot past ++ lines) (no-line round slot sent (is_ack sent.command) refl other)
    ∙ append-nil (list_lines link round slot past)

-- where all ACKs come before a round and slot, nothing is listed there
none-before : (link : LinkValue) (round slot : ℕ) (past : List Item) → AcksBefore round slot past → list_lines link round slot past ≡ []
none-before link round slot [] before = refl
none-before link round slot (exchanged sent ∷ past) before =
    passes-record link round slot sent past (λ ack. other-place sent.round sent.slot round slot (before.0 ack))
    ∙ none-before link round slot past before.1
none-before link round slot (item ∷ past) before = item-passes (is_list_line round slot) link item past refl ∙ none-before link round slot past before

-- what follows an ACK lists nothing in its round and slot
none-after : (link : LinkValue) (later : List Item) (sent : Record) (earlier : List Item) → AcksRise (later ++ exchanged sent ∷ earlier) → is_ack sent.command ≡ true
    → list_lines link sent.round sent.slot (later ++ exchanged sent ∷ earlier) ≡ list_lines link sent.round sent.slot (exchanged sent ∷ earlier)
none-after link [] sent earlier rise ack = refl
none-after link (exchanged other ∷ later) sent earlier rise ack =
    passes-record link sent.round sent.slot other (later ++ exchanged sent ∷ earlier)
    (λ its. later-place other.round other.slot sent.round sent.slot (before-at other.round other.slot later sent earlier (rise.0 its) ack))
    ∙ none-after link later sent earlier rise.1 ack
none-after link (item ∷ later) sent earlier rise ack =
    item-passes (is_list_line sent.round sent.slot) link item (later ++ exchanged sent ∷ earlier) refl ∙ none-after link later sent earlier rise ack

-- an EPC is expected
epc-expected : (reply : Reply) (handle pc : ℕ) (epc : List ℕ) → reply ≡ replies.Epc pc epc
    → (suits reply expects.Epc && has_handle reply handle (handle_of expects.Epc)) ≡ true
epc-expected (replies.Epc in_pc in_epc) handle pc epc is = refl
epc-expected reply handle pc epc is = absurd (cc)

-- what a record lists in whose ACK this PC and EPC were heard
own-listed : (sent : Record) (listed : Listed) → Tells sent listed → map list_line (listed_by sent) ≡ list_line listed ∷ []
own-listed sent listed tells =
    let ack : listed_by sent ≡ listed_from sent (reception_of expects.Epc sent.given) = ap (λ (command : Command). listed_from sent (reception_of_ack sent command)) tells.acknowledges in
    ap (λ (listing : List Listed). map list_line listing) (ack ∙ ap (λ (r : Reception). listed_from sent r) tells.heard)
    ∙ ap (λ (round : ℕ). ListLine round sent.slot listed.pc listed.epc ∷ []) tells.round_is
    ∙ ap (λ (slot : ℕ). ListLine listed.round slot listed.pc listed.epc ∷ []) tells.slot_is

-- an EPC that was given whole is heard whole
pub given-heard : (given : Given) (pc : ℕ) (epc : List ℕ) (replied : Replied) → IsGivenWhole given pc epc replied → reception_of expects.Epc given ≡ whole_reply (replies.Epc pc epc)
given-heard given pc epc replied whole_is =
    let came : reception_of expects.Epc given ≡ reception_of expects.Epc (whole replied) = ap (λ (g : Given). reception_of expects.Epc g) whole_is.unbroken in
    let expected : is_expected expects.Epc replied.sent ≡ true = epc-expected replied.sent.reply replied.sent.handle pc epc whole_is.reply in
    came ∙ ap (λ (b : Bool). if b then whole_reply replied.sent.reply else no_such_reply) expected ∙ ap (λ (r : Reply). whole_reply r) whole_is.reply

own-line : (round slot pc : ℕ) (epc : List ℕ) → filter (is_list_line round slot) (ListLine round slot pc epc ∷ []) ≡ ListLine round slot pc epc ∷ []
own-line round slot pc epc =
    let same_round : (round == round) ≡ true = eq-eqb round round refl in
    let same_slot : (slot == slot) ≡ true = eq-eqb slot slot refl in
    rw (same_round, same_slot) refl

ack-of : (sent : Record) (rn : ℕ) → Acknowledges sent rn → is_ack sent.command ≡ true
ack-of sent rn acknowledges = ap is_ack acknowledges

-- the one line
listed-at : (link : LinkValue) (later : List Item) (sent : Record) (earlier : List Item) (listed : Listed) → Tells sent listed
    → AcksRise (later ++ exchanged sent ∷ earlier) → AcksBefore sent.round sent.slot earlier
    → list_lines link sent.round sent.slot (later ++ exchanged sent ∷ earlier) ≡ filter (is_list_line sent.round sent.slot) (list_line listed ∷ [])
listed-at link later sent earlier listed tells rise before =
    none-after link later sent earlier rise (ack-of sent tells.rn tells.acknowledges)
    ∙ sent-passes (is_list_line sent.round sent.slot) (list-lines-pass sent.round sent.slot) link sent earlier
    ∙ ap (λ (lines : List ReportLine). lines ++ filter (is_list_line sent.round sent.slot) (map list_line (listed_by sent)))
    (none-before link sent.round sent.slot earlier before)
    ∙ ap (λ (lines : List ReportLine). filter (is_list_line sent.round sent.slot) lines) (own-listed sent listed tells)

pub listed-once : RoundsKeepLimit → (start : Start) (steps : List Step) (listed : Listed) → AreLegalSteps steps → IsTold (history_of start steps) listed
    → filter (is_list_line listed.round listed.slot) (run_lines start steps) ≡ list_line listed ∷ []
listed-once keeps start steps listed legal told =
    let history = history_of start steps in
    let sent = told.sent in
    let rise : AcksRise (told.recorded.later ++ exchanged sent ∷ told.earlier) = subst AcksRise told.recorded.is (history-rises keeps start steps legal) in
    let own : AcksRise (exchanged sent ∷ told.earlier) = records-behind (λ sent earlier. is_ack sent.command ≡ true → AcksBefore sent.round sent.slot earlier) told.recorded.later (exchanged sent ∷ told.earlier) rise in
    ap (λ (round : ℕ). filter (is_list_line round listed.slot) (run_lines start steps)) (sym told.tells.round_is)
    ∙ ap (λ (slot : ℕ). filter (is_list_line sent.round slot) (run_lines start steps)) (sym told.tells.slot_is)
    ∙ run-passes (is_list_line sent.round sent.slot) (list-lines-pass sent.round sent.slot) start history
    ∙ ap (λ (past : List Item). list_lines start.link sent.round sent.slot past) told.recorded.is
    ∙ listed-at start.link told.recorded.later sent told.earlier listed told.tells rise (own.0 (ack-of sent told.tells.rn told.tells.acknowledges))
    ∙ ap (λ (round : ℕ). filter (is_list_line round sent.slot) (list_line listed ∷ [])) told.tells.round_is
    ∙ ap (λ (slot : ℕ). filter (is_list_line listed.round slot) (list_line listed ∷ [])) told.tells.slot_is
    ∙ own-line listed.round listed.slot listed.pc listed.epc

-- two records send ACKs in one round and slot
record SameSlot (left right : Record) : Type 0 where
  pub left_ack : is_ack left.command ≡ true
  pub right_ack : is_ack right.command ≡ true
  pub round : left.round ≡ right.round
  pub slot : left.slot ≡ right.slot

-- ... so they are one record
same-record : (left_later : List Item) (left : Record) (left_earlier right_later : List Item) (right : Record) (right_earlier : List Item)
    → left_later ++ exchanged left ∷ left_earlier ≡ right_later ++ exchanged right ∷ right_earlier → AcksRise (left_later ++ exchanged left ∷ left_earlier)
    → SameSlot left right → left ≡ right
same-record [] left left_earlier [] right right_earlier same rise here = cc
same-record [] left left_earlier (item ∷ right_later) right right_earlier same rise here =
    let tails : left_earlier ≡ right_later ++ exchanged right ∷ right_earlier = cc in
    let before : AcksBefore left.round left.slot (right_later ++ exchanged right ∷ right_earlier) = subst (AcksBefore left.round left.slot) tails (rise.0 here.left_ack) in
    absurd (not-itself right.round right.slot left.round left.slot (sym here.round) (sym here.slot) (before-at left.round left.slot right_later right right_earlier before here.right_ack))
same-record (item ∷ left_later) left left_earlier [] right right_earlier same rise here =
    let head : item ≡ exchanged right = cc in
    let tails : left_later ++ exchanged left ∷ left_earlier ≡ right_earlier = cc in
    let rise_right : AcksRise (exchanged right ∷ (left_later ++ exchanged left ∷ left_earlier)) =
    subst (λ (first : Item). AcksRise (first ∷ (left_later ++ exchanged left ∷ left_earlier))) head rise in
    absurd (not-itself left.round left.slot right.round right.slot here.round here.slot
    (before-at right.round right.slot left_later left left_earlier (rise_right.0 here.right_ack) here.left_ack))
same-record (item ∷ left_later) left left_earlier (other ∷ right_later) right right_earlier same rise here =
    let tails : left_later ++ exchanged left ∷ left_earlier ≡ right_later ++ exchanged right ∷ right_earlier = cc in
    same-record left_later left left_earlier right_later right right_earlier tails
    (records-behind (λ sent earlier. is_ack sent.command ≡ true → AcksBefore sent.round sent.slot earlier) (item ∷ []) (left_later ++ exchanged left ∷ left_earlier) rise) here

-- a record of a history sends an ACK in this round and slot
pub record IsAckAt (history : List Item) (round slot : ℕ) : Type 0 where
  pub sent : Record
  pub earlier : List Item
  pub recorded : IsRecordOf history sent earlier
  pub rn : ℕ
  pub acknowledges : Acknowledges sent rn
  pub round_is : sent.round ≡ round
  pub slot_is : sent.slot ≡ slot

pub one-ack : RoundsKeepLimit → (start : Start) (steps : List Step) (listed : Listed) → AreLegalSteps steps
    → (one : IsAckAt (history_of start steps) listed.round listed.slot) (told : IsTold (history_of start steps) listed) → one.sent ≡ told.sent
one-ack keeps start steps listed legal one told =
    same-record one.recorded.later one.sent one.earlier told.recorded.later told.sent told.earlier (sym one.recorded.is ∙ told.recorded.is)
    (subst AcksRise one.recorded.is (history-rises keeps start steps legal))
    (record {
      left_ack = ack-of one.sent one.rn one.acknowledges;
      right_ack = ack-of told.sent told.tells.rn told.tells.acknowledges;
      round = one.round_is ∙ sym told.tells.round_is;
      slot = one.slot_is ∙ sym told.tells.slot_is;
    })
