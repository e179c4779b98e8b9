use Rattle.std.proofs.Common.{sym, ◌∙◌}
use Rattle.top_call.proofs.words.own_texts.own_texts_are_lawful.Goals as goal

pub returns : goal.returns
returns c text = record {
  one_text = λ bytes one other left right. left ∙ sym right;
  one_fault_line = λ bytes one other left right. absurd left;
  allowed = λ bytes text writes. tt;
  not_refused = λ bytes text allowed refused. refused;
  unread = λ unread bytes text refused. refused;
  kept = λ bytes text writes. writes;
}
