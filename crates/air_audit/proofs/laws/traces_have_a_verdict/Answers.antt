use Rattle.air_audit.proofs.SomeVerdict.{some-verdict}
use Rattle.air_audit.proofs.laws.traces_have_a_verdict.Goals as goal

pub returns : goal.returns
returns c = some-verdict (record {
  numbers = c.numbers_or_refused.ensures;
  frames = c.one_answer.ensures.one;
  frame = c.one_answer.ensures.frame;
  command = c.spelling_laws.ensures.one;
  some = c.spelling_laws.ensures.some;
  not_bad = c.spelling_laws.ensures.not_bad;
  not_short = c.spelling_laws.ensures.not_short;
})
