use Rattle.top_call.proofs.NamedLines.{same_named, same_cut_line, whole_not_cut}
use Rattle.top_call.proofs.words.names.names_are_lawful.Goals as goal

pub returns : goal.returns
returns c = record {
  one_text = same_named c.lines_have_names.ensures.one;
  one_fault_line = same_cut_line;
  allowed = λ bytes text writes. (writes.lines, writes.cut);
  not_refused = λ bytes text allowed refused. whole_not_cut bytes refused.number allowed refused.at;
  unread = λ unread bytes text refused. absurd (cc);
  kept = λ bytes text writes. tt;
}
