-- A word with `json` behind it reads its input.
use Rattle.std.proofs.Common.{rules}
use Rattle.top_call.proofs.ObjectEnds.{objects_read}
use Rattle.top_call.proofs.program.write_answer.Goals as goal

pub returns-in-Objects : goal.returns-in-Objects
returns-in-Objects g c = record {
  tells = search rules;
  reads_none = λ none. let unread = rw c.in-Objects.is at none in let reads = objects_read c.in-Objects.set in absurd (cc);
  names_memory = search rules;
}
