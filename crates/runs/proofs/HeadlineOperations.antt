-- The lines for the results of operations in a report are those of its history.
use Rattle.runs.proofs.Names.{◌≡◌, List, [], ◌∷◌, ◌++◌, filter, refl, ap, ◌∙◌, filter-append, Start, Item, exchanged, operated, is_op_line, op_lines, history_of, past_lines, last_lines, run_lines}
use Rattle.runs.proofs.Names.{report_of, Mode, Step, LinkValue, ReportLine, OpLine}
use Rattle.runs.proofs.HeadlineKept.{kept-pass}
use Rattle.runs.proofs.HeadlineLines.{PassesNoTrace, PassesFew, sent-adds-none, item-passes, run-passes}

op-no-trace : PassesNoTrace is_op_line
op-no-trace (OpLine round slot index result) is = absurd (cc)
op-no-trace line is = refl

op-lines-pass : PassesFew is_op_line
op-lines-pass = record {
  trace = op-no-trace;
  seen = λ count pc epc. refl;
  tag = λ number tag. refl;
  done = refl;
}

past-tells : (link : LinkValue) (past : List Item) → filter is_op_line (past_lines link past) ≡ op_lines past
past-tells link [] = refl
past-tells link (exchanged sent ∷ past) = sent-adds-none is_op_line op-lines-pass (λ listed. refl) link sent past ∙ past-tells link past
past-tells link (operated round slot index result ∷ past) =
    filter-append is_op_line (past_lines link past) (OpLine round slot index result ∷ [])
    ∙ ap (λ (lines : List ReportLine). lines ++ OpLine round slot index result ∷ []) (past-tells link past)
past-tells link (item ∷ past) = item-passes is_op_line link item past refl ∙ past-tells link past

-- behind the steps no result is told
run-tells : (start : Start) (past : List Item)
    → filter is_op_line (past_lines start.link past ++ last_lines start past) ≡ op_lines past
run-tells start past = run-passes is_op_line op-lines-pass start past ∙ past-tells start.link past

pub report-tells : (mode : Mode) (start : Start) (steps : List Step) → filter is_op_line (report_of mode start steps) ≡ op_lines (history_of start steps)
report-tells mode start steps = kept-pass is_op_line op-no-trace mode (run_lines start steps) ∙ run-tells start (history_of start steps)
