use Rattle.bench_lines.proofs.SeenTexts.{seen_lawful}
use Rattle.bench_lines.proofs.log_laws.seen_laws.Goals as goal

pub returns : goal.returns
returns c = seen_lawful (record {
  told = c.replies_are_told_apart.ensures;
  not_faulty = c.spelled_replies_are_not_faulty.ensures;
  one_fault = c.replies_have_one_fault.ensures;
})
