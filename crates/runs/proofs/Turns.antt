-- What holds after each command that a round may send, and from there at both of its ends, holds of the round.
use Rattle.runs.proofs.Names.{◌≡◌, ℕ, ◌+◌, ◌≢◌, ◌⊎◌, inl, inr, Bool, true, false, List, [], ◌∷◌, length, None, if◌then◌else◌, refl, ap, sym, ◌∙◌, subst, Dialogue, done, operations_from_rn16, denials}
use Rattle.runs.proofs.Names.{is_for, dialogue_of, Expects, Op, OpList, OpResult, Record, Item, operated, ended, next_record, past_behind_command, Reception, no_stream, whole_reply, no_such_reply}
use Rattle.runs.proofs.Names.{outcome_of, past_behind_dialogue, dialogue_begun, ack_reception, slot_reception, past_behind_slot, rn_of, Command, IsLegalSpec, Outcome, Whole, RoundEnd, Expect}
use Rattle.command_grammar.specs.declared.commands.Command.TheVariants as commands
use Rattle.q_round.specs.declared.round.Next.TheVariants as nexts
use Rattle.reply_grammar.specs.declared.expected.Reply.TheVariants as replies
use Rattle.runs.proofs.Growth.{RoundsKeepLimit, KeptByOperations, dialogue-keeps, begun-awaits, next_at_end, outcome-cases, round-holds as behind-round}
use Rattle.runs.proofs.PlayedRounds.{SlotOfRun, PlayedRound, number_of, slot_in, past_behind_played, DoesNext}

-- What holds in a round. `Before` speaks of the outcomes so far, the latest first, and the past, just before a slot command, an
-- operation or the end; `Sent` of the outcomes so far, the record of the slot command, and the past behind which it was sent; `After`
-- of the past behind the end. Commands and results of operations come only where the round has operations.
pub record CommandSteps (Before : List Outcome → List Item → Type 0) (Sent : List Outcome → Record → List Item → Type 0) (After : List Item → Type 0)
    (round : PlayedRound) : Type 0 where
  pub slot : (outcomes : List Outcome) (past : List Item) (command : Command) → DoesNext round outcomes (nexts.Send command) → Before outcomes past
      → Sent outcomes (next_record round.start (number_of round) (length outcomes + 1) command past) past
  pub no_answer : (outcomes : List Outcome) (past : List Item) (command : Command) (reception : Reception)
      → slot_reception round.start (number_of round) (length outcomes + 1) command past ≡ reception → rn_of reception ≡ None
      → Sent outcomes (next_record round.start (number_of round) (length outcomes + 1) command past) past
      → Before (outcome_of reception ∷ outcomes) (past_behind_command round.start (number_of round) (length outcomes + 1) command past)
  pub ack : (outcomes : List Outcome) (past : List Item) (command : Command) (rn : ℕ)
      → slot_reception round.start (number_of round) (length outcomes + 1) command past ≡ whole_reply (replies.Rn16 rn)
      → Sent outcomes (next_record round.start (number_of round) (length outcomes + 1) command past) past
      → Before (Whole ∷ outcomes)
      (past_behind_command round.start (number_of round) (length outcomes + 1) (commands.Ack rn)
      (past_behind_command round.start (number_of round) (length outcomes + 1) command past))
  pub operation : round.operations.ops ≢ [] → (outcomes : List Outcome) (past : List Item) (command : Command) (expect : Expect) (extended : Bool)
      → Expects command expect extended → Before (Whole ∷ outcomes) past
      → Before (Whole ∷ outcomes) (past_behind_command round.start (number_of round) (length outcomes + 1) command past)
  pub result : round.operations.ops ≢ [] → (outcomes : List Outcome) (past : List Item) (index : ℕ) (result : OpResult) → Before (Whole ∷ outcomes) past
      → Before (Whole ∷ outcomes) (operated (number_of round) (length outcomes + 1) index result ∷ past)
  pub end : (outcomes : List Outcome) (past : List Item) (end : RoundEnd) → DoesNext round outcomes (next_at_end end) → Before outcomes past
      → After (ended (number_of round) end (length outcomes) ∷ past)

nothing-either : (test : Bool) → (if test then done else done) ≡ done
nothing-either true = refl
nothing-either false = refl

nothing-done : (operations : OpList) (epc : List ℕ) (rn : ℕ) → operations.ops ≡ [] → dialogue_of operations epc rn ≡ done
nothing-done operations epc rn none =
    ap (λ (ops : List Op). if is_for operations.only epc then operations_from_rn16 ops rn else denials ops) none ∙ nothing-either (is_for operations.only epc)

-- where a round has no operations nothing is done behind an ACK
pub nothing-begun : (operations : OpList) (rn : ℕ) (reception : Reception) → operations.ops ≡ [] → dialogue_begun operations rn reception ≡ done
nothing-begun operations rn no_stream none = refl
nothing-begun operations rn no_such_reply none = refl
nothing-begun operations rn (whole_reply (replies.Epc pc epc)) none = nothing-done operations epc rn none
nothing-begun operations rn (whole_reply reply) none = refl

some-or-none : (ops : List Op) → (ops ≢ []) ⊎ (ops ≡ [])
some-or-none [] = inr refl
some-or-none (op ∷ ops) = inl (λ none. cc)

-- what holds behind an ACK, and each command and each result of an operation keeps, holds behind what is done with the tag
begun-holds : (Holds : List Item → Type 0) (at : SlotOfRun) (operations : OpList) (rn : ℕ) (reception : Reception) (past : List Item)
    → (operations.ops ≢ [] → KeptByOperations Holds at) → Holds past
    → Holds (past_behind_dialogue at.start at.round at.slot 1 (dialogue_begun operations rn reception) past)
begun-holds Holds at operations rn reception past kept holds =
    elim (some-or-none operations.ops) [
      | inl some ↦ dialogue-keeps Holds at (kept some) 1 (dialogue_begun operations rn reception) past (begun-awaits operations rn reception) holds
      | inr none ↦
          subst (λ (dialogue : Dialogue). Holds (past_behind_dialogue at.start at.round at.slot 1 dialogue past))
          (sym (nothing-begun operations rn reception none)) holds
    ]

-- what holds after a slot command leads to what holds behind its slot
slot-holds : (Before : List Outcome → List Item → Type 0) (Sent : List Outcome → Record → List Item → Type 0) (After : List Item → Type 0) (round : PlayedRound)
    → CommandSteps Before Sent After round → (outcomes : List Outcome) (past : List Item) (command : Command)
    → Sent outcomes (next_record round.start (number_of round) (length outcomes + 1) command past) past
    → Before (outcome_of (slot_reception round.start (number_of round) (length outcomes + 1) command past) ∷ outcomes)
    (past_behind_slot round.start round.operations (number_of round) (length outcomes + 1) command past)
slot-holds Before Sent After round each outcomes past command sent =
    let at = slot_in round (length outcomes + 1) in
    let now = past_behind_command at.start at.round at.slot command past in
    outcome-cases (λ outcome behind. Before (outcome ∷ outcomes) behind) at round.operations (slot_reception at.start at.round at.slot command past) now
    (λ none. each.no_answer outcomes past command (slot_reception at.start at.round at.slot command past) refl none sent)
    (λ rn heard.
    begun-holds (λ behind. Before (Whole ∷ outcomes) behind) at round.operations rn (ack_reception at.start at.round at.slot rn now)
    (past_behind_command at.start at.round at.slot (commands.Ack rn) now)
    (λ some. record {
      command = λ command expect extended past. each.operation some outcomes past command expect extended;
      result = λ index result past here. each.result some outcomes past index result here;
    })
    (each.ack outcomes past command rn heard sent))

-- what holds just before the Query of a round, after each command, and from there at both ends, holds behind the round
pub round-holds : (Before : List Outcome → List Item → Type 0) (Sent : List Outcome → Record → List Item → Type 0) (After : List Item → Type 0) (round : PlayedRound)
    → RoundsKeepLimit → IsLegalSpec round.spec → CommandSteps Before Sent After round → Before [] round.before → After (past_behind_played round)
round-holds Before Sent After round keeps legal each holds =
    behind-round Before After round keeps legal
    (record {
      slot = λ outcomes past command next here. slot-holds Before Sent After round each outcomes past command (each.slot outcomes past command next here);
      end = each.end;
    })
    holds
