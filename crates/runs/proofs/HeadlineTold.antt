-- Each list line is that of one record: from the line to the record, and to what came whole in reply to its ACK.
use Rattle.runs.proofs.Names.{◌≡◌, ◌==◌, inl, inr, true, List, [], ◌∷◌, ◌++◌, map, filter, Contains, refl, ap, subst, eq-eqb, Start, Record, Item, exchanged, tags_behind, reception_of, Reception}
use Rattle.runs.proofs.Names.{no_stream, whole_reply, no_such_reply, AreLegalSteps, IsAckOf, is_list_line, history_of, Listed, reception_of_ack, listed_from, listed_by, listing_of, first_lines}
use Rattle.runs.proofs.Names.{exchange_lines, list_line, item_lines, past_lines, last_lines, run_lines, report_of, keeps, Mode, Command, LinkValue, ReportLine, seen_counts, Step}
use Rattle.command_grammar.specs.declared.commands.Command.TheVariants as commands
use Rattle.reply_grammar.specs.declared.expected.Expect.TheVariants as expects
use Rattle.reply_grammar.specs.declared.expected.Reply.TheVariants as replies
use Rattle.runs.proofs.Growth.{RoundsKeepLimit}
use Rattle.runs.proofs.Among.{Among, among-filter, among-of, among-split}
use Rattle.runs.proofs.HeadlineLines.{and-true, list-lines-pass, list-no-trace, no-exchange, no-last}
use Rattle.runs.proofs.HeadlineKept.{among-kept}
use Rattle.runs.proofs.HeadlineListed.{Tells, IsTold, one-ack}

-- a line is what a record lists of what came
record IsLineOf (sent : Record) (reception : Reception) (listed : Listed) : Type 0 where
  pub round_is : sent.round ≡ listed.round
  pub slot_is : sent.slot ≡ listed.slot
  pub heard : reception ≡ whole_reply (replies.Epc listed.pc listed.epc)

line-of : (sent : Record) (reception : Reception) (listed : Listed) → Among (list_line listed) (map list_line (listed_from sent reception))
    → IsLineOf sent reception listed
line-of sent no_stream listed among = absurd among
line-of sent no_such_reply listed among = absurd among
line-of sent (whole_reply (replies.Epc pc epc)) listed (inl is) = record { round_is = cc; slot_is = cc; heard = cc }
line-of sent (whole_reply (replies.Epc pc epc)) listed (inr none) = absurd none
line-of sent (whole_reply reply) listed among = absurd among

told-command : (sent : Record) (command : Command) (listed : Listed) → sent.command ≡ command
    → Among (list_line listed) (map list_line (listed_from sent (reception_of_ack sent command))) → Tells sent listed
told-command sent (commands.Ack rn) listed is among =
    let line = line-of sent (reception_of expects.Epc sent.given) listed among in
    record { round_is = line.round_is; slot_is = line.slot_is; rn = rn; acknowledges = is; heard = line.heard }
told-command sent command listed is among = absurd among

told-later : (item : Item) (history : List Item) (listed : Listed) → IsTold history listed → IsTold (item ∷ history) listed
told-later item history listed told = record {
  sent = told.sent;
  earlier = told.earlier;
  recorded = record { later = item ∷ told.recorded.later; is = ap (λ items. item ∷ items) told.recorded.is };
  tells = told.tells;
}

-- no list line is among lines of which none passes
unlisted : (listed : Listed) (lines : List ReportLine) → filter (is_list_line listed.round listed.slot) lines ≡ [] → Among (list_line listed) lines → ⊥
unlisted listed lines none among =
    let itself : is_list_line listed.round listed.slot (list_line listed) ≡ true =
    and-true (listed.round == listed.round) (listed.slot == listed.slot) (eq-eqb listed.round listed.round refl) (eq-eqb listed.slot listed.slot refl) in
    subst (λ (kept : List ReportLine). Among (list_line listed) kept) none (among-filter (is_list_line listed.round listed.slot) (list_line listed) lines itself among)

told-item : (link : LinkValue) (item : Item) (past : List Item) (listed : Listed)
    → Among (list_line listed) (item_lines link item) → IsTold (item ∷ past) listed
told-item link (exchanged sent) past listed among =
    elim (among-split (list_line listed) (exchange_lines link sent) (map list_line (listed_by sent)) among) [
      | inl found ↦ absurd (unlisted listed (exchange_lines link sent)
          (no-exchange (is_list_line listed.round listed.slot) (list-no-trace listed.round listed.slot) link sent) found)
      | inr found ↦ record {
        sent = sent;
        earlier = past;
        recorded = record { later = []; is = refl };
        tells = told-command sent sent.command listed refl found;
      }
    ]
told-item link item past listed among = absurd (unlisted listed (item_lines link item) refl among)

pub told : (link : LinkValue) (past : List Item) (listed : Listed) → Among (list_line listed) (past_lines link past) → IsTold past listed
told link [] listed among = absurd (unlisted listed (first_lines link) refl among)
told link (item ∷ past) listed among =
    elim (among-split (list_line listed) (past_lines link past) (item_lines link item) among) [
      | inl found ↦ told-later item past listed (told link past listed found)
      | inr found ↦ told-item link item past listed found
    ]

-- behind the steps nothing is listed
pub told-run : (start : Start) (past : List Item) (listed : Listed)
    → Among (list_line listed) (past_lines start.link past ++ last_lines start past) → IsTold past listed
told-run start past listed among =
    elim (among-split (list_line listed) (past_lines start.link past) (last_lines start past) among) [
      | inl found ↦ told start.link past listed found
      | inr found ↦ absurd (unlisted listed (last_lines start past)
          (no-last (is_list_line listed.round listed.slot) (list-lines-pass listed.round listed.slot) (seen_counts (map (λ listed. (listed.pc, listed.epc)) (listing_of past))) 0 (tags_behind start past)) found)
    ]

-- ... also where a mode has kept it
pub told-report : (mode : Mode) (start : Start) (steps : List Step) (listed : Listed)
    → Contains (report_of mode start steps) (list_line listed) → IsTold (history_of start steps) listed
told-report mode start steps listed contains =
    told-run start (history_of start steps) listed
    (among-kept (keeps mode) (list_line listed) (run_lines start steps) (among-of (list_line listed) (report_of mode start steps) contains))

-- ... and that record is the one of this round and slot that sent an ACK
pub told-ack : RoundsKeepLimit → (start : Start) (steps : List Step) (listed : Listed) → AreLegalSteps steps
    → (told : IsTold (history_of start steps) listed) → IsAckOf (history_of start steps) listed.round listed.slot told.sent told.earlier
told-ack keeps start steps listed legal told = record {
  recorded = told.recorded;
  round_is = told.tells.round_is;
  slot_is = told.tells.slot_is;
  rn = told.tells.rn;
  acknowledges = told.tells.acknowledges;
  only = λ other other_earlier other_rn recorded acknowledges same_round same_slot.
      one-ack keeps start steps listed legal
      (record { sent = other; earlier = other_earlier; recorded = recorded; rn = other_rn; acknowledges = acknowledges; round_is = same_round; slot_is = same_slot })
      told;
}
