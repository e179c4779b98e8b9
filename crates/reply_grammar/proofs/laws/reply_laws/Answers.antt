use Rattle.reply_grammar.specs.laws.Passing.{answers_pass}
use Rattle.reply_grammar.proofs.Replies.{one_reply, one_fault, passes_apart}
use Rattle.reply_grammar.specs.laws.SomeReply.{reply_or_fault}
use Rattle.reply_grammar.proofs.laws.reply_laws.Goals as goal

pub returns : goal.returns
returns c = record {
  some = reply_or_fault;
  apart = λ expect bits reply refusal answers fault. passes_apart refusal expect bits (answers_pass reply expect bits answers) fault;
  one_reply = λ expect bits r s left right. one_reply r s expect bits left right;
  one_refusal = λ expect bits f g left right. one_fault f g expect bits left right;
}
