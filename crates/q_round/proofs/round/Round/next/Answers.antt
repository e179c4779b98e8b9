use Rattle.std.proofs.Common.{◌∙◌, sym}
use Rattle.q_round.proofs.RoundAnswers.{stands-limit, stands-adjust, stands-rep}
use Rattle.q_round.proofs.round.Round.next.Goals as goal

pub returns-then-self-limit-clause-answer : goal.returns-then-self-limit-clause-answer
returns-then-self-limit-clause-answer c = rw (← c.self.view_is) (λ spec outcomes s on.
    stands-limit _ spec outcomes c.args.outcome c.counting-frame.result (record {
      frame = c.in-Underway.frame;
      rule = c.rule-rule.result;
      stands = s;
      on = on;
      underway_is = c.in-Underway.is;
      rule_is = c.rule-rule.ensures.value;
      next_is = c.counting-frame.ensures.value;
      not_quiet = sym c.if-is_whole_and_silent.ensures;
    }) (c.if-self-limit.true ∙ c.limit.ensures.value))

pub returns-in-Some-clause-answer : goal.returns-in-Some-clause-answer
returns-in-Some-clause-answer c = rw (← c.self.view_is, c.begin.ensures.value, c.put_query_adjust.ensures, c.session-session.ensures.value) (λ spec outcomes s on.
    stands-adjust _ spec outcomes c.args.outcome c.counting-frame.result (record {
      frame = c.in-Underway.frame;
      rule = c.rule-rule.result;
      stands = s;
      on = on;
      underway_is = c.in-Underway.is;
      rule_is = c.rule-rule.ensures.value;
      next_is = c.counting-frame.ensures.value;
      not_quiet = sym c.if-is_whole_and_silent.ensures;
    }) c.in-Some.updn (λ e. c.if-self-limit.false (e ∙ sym c.limit.ensures.value)) (sym c.in-Some.ensures.value))

pub returns-clause-answer : goal.returns-clause-answer
returns-clause-answer c = rw (← c.self.view_is, c.put_query_rep.ensures, c.session-session.ensures.value) (λ spec outcomes s on.
    stands-rep _ spec outcomes c.args.outcome c.counting-frame.result (record {
      frame = c.in-Underway.frame;
      rule = c.rule-rule.result;
      stands = s;
      on = on;
      underway_is = c.in-Underway.is;
      rule_is = c.rule-rule.ensures.value;
      next_is = c.counting-frame.ensures.value;
      not_quiet = sym c.if-is_whole_and_silent.ensures;
    }) (λ e. c.if-self-limit.false (e ∙ sym c.limit.ensures.value)) (sym c.change.ensures.value ∙ c.in_default.is))
