-- The headline, from what is proved of its parts.
use Rattle.runs.proofs.Names.{◌≡◌, ℕ, ◌+◌, List, [], ◌∷◌, ◌++◌, filter, refl, ◌∙◌, subst, sym, OpList, Start, Record, Item, reception_of, AreLegalSteps, IsRecordOf, Acknowledges, is_list_line}
use Rattle.runs.proofs.Names.{is_round_line, rounds_of, KeepsLimit, Headline, history_of, Listed, list_line, report_of, run_lines, Mode, SpecValue, whole_reply, Step}
use Rattle.reply_grammar.specs.declared.expected.Expect.TheVariants as expects
use Rattle.reply_grammar.specs.declared.expected.Reply.TheVariants as replies
use Rattle.scenario.specs.declared.values.Step.TheVariants as steps
use Rattle.runs.proofs.Growth.{RoundsKeepLimit}
use Rattle.runs.proofs.HeadlineKept.{kept-pass}
use Rattle.runs.proofs.HeadlineLines.{list-no-trace, round-no-trace}
use Rattle.runs.proofs.HeadlineListed.{IsTold, given-heard, listed-once}
use Rattle.runs.proofs.HeadlineSent.{sent-by-a-tag}
use Rattle.runs.proofs.HeadlineSlots.{round-keeps}
use Rattle.runs.proofs.HeadlineTags.{report-tags}
use Rattle.runs.proofs.HeadlineTold.{told-report}

round-of-steps : RoundsKeepLimit → (start : Start) (taken before after : List Step) (spec : SpecValue) (operations : OpList)
    → AreLegalSteps taken → taken ≡ before ++ steps.Round spec operations ∷ after
    → KeepsLimit (history_of start taken) (run_lines start taken) (rounds_of before + 1) spec.limit
round-of-steps keeps start taken before after spec operations legal is =
    subst (λ (of : List Step). KeepsLimit (history_of start of) (run_lines start of) (rounds_of before + 1) spec.limit) (sym is)
    (round-keeps keeps (record { start = start; before = before; after = after; spec = spec; operations = operations }) (subst AreLegalSteps is legal))

-- a mode keeps the lines for the ends of rounds
limit-kept : (mode : Mode) (start : Start) (taken : List Step) (round limit : ℕ) → KeepsLimit (history_of start taken) (run_lines start taken) round limit
    → KeepsLimit (history_of start taken) (report_of mode start taken) round limit
limit-kept mode start taken round limit keeps = record {
  end = keeps.end;
  within = keeps.within;
  line = kept-pass (is_round_line round) (round-no-trace round) mode (run_lines start taken) ∙ keeps.line;
}

-- ... and for what came whole in reply to an ACK
pub listed-kept : RoundsKeepLimit → (mode : Mode) (start : Start) (taken : List Step) (listed : Listed) → AreLegalSteps taken → IsTold (history_of start taken) listed
    → filter (is_list_line listed.round listed.slot) (report_of mode start taken) ≡ list_line listed ∷ []
listed-kept keeps mode start taken listed legal told =
    kept-pass (is_list_line listed.round listed.slot) (list-no-trace listed.round listed.slot) mode (run_lines start taken)
    ∙ listed-once keeps start taken listed legal told

-- a record of an ACK tells of the EPC that came whole in reply to it
pub told-whole : (history : List Item) (sent : Record) (earlier : List Item) (rn pc : ℕ) (epc : List ℕ) → IsRecordOf history sent earlier → Acknowledges sent rn
    → reception_of expects.Epc sent.given ≡ whole_reply (replies.Epc pc epc)
    → IsTold history (record { round = sent.round; slot = sent.slot; pc = pc; epc = epc })
told-whole history sent earlier rn pc epc recorded acknowledges heard = record {
  sent = sent;
  earlier = earlier;
  recorded = recorded;
  tells = record { round_is = refl; slot_is = refl; rn = rn; acknowledges = acknowledges; heard = heard };
}

pub headline-holds : RoundsKeepLimit → (mode : Mode) (start : Start) (taken : List Step) → AreLegalSteps taken
    → Headline start taken (history_of start taken) (report_of mode start taken)
headline-holds keeps mode start taken legal = record {
  sent_by_a_tag = λ none round slot pc epc contains.
      let listed : Listed = record { round = round; slot = slot; pc = pc; epc = epc } in
      sent-by-a-tag keeps start taken listed legal none (told-report mode start taken listed contains);
  listed_once = λ sent earlier rn pc epc replied recorded acknowledges given.
      listed-kept keeps mode start taken (record { round = sent.round; slot = sent.slot; pc = pc; epc = epc }) legal
      (told-whole (history_of start taken) sent earlier rn pc epc recorded acknowledges (given-heard sent.given pc epc replied given));
  tags_as_heard = report-tags mode start taken;
  slot_limit = λ before after spec operations is.
      limit-kept mode start taken (rounds_of before + 1) spec.limit (round-of-steps keeps start taken before after spec operations legal is);
}
