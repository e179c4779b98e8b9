use Rattle.reply_grammar.proofs.Suiting.{spelling-within}
use Rattle.reply_grammar.proofs.laws.reply_length.Goals as goal

pub returns : goal.returns
returns c = record {
  least = λ reply handle range fits. (spelling-within reply handle range fits).0;
  most = λ reply handle range fits. (spelling-within reply handle range fits).1;
}
