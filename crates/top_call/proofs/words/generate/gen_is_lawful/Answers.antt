use Rattle.std.proofs.Common.{sym, ◌∙◌}
use Rattle.top_call.proofs.words.generate.gen_is_lawful.Goals as goal

pub returns : goal.returns
returns c seed tags = record {
  one_text = λ bytes one other left right. left ∙ sym right;
  one_fault_line = λ bytes one other left right. absurd left;
  allowed = λ bytes text writes. tt;
  not_refused = λ bytes text allowed refused. refused;
  unread = λ unread bytes text refused. refused;
  kept = λ bytes text writes. record { is = writes; every = c.quiet_made_runs_list_every_tag.ensures seed tags };
}
