use Rattle.std.proofs.Common.{◌++◌, List, Bool, sym, ap, subst, ◌∙◌, append-nil, arith}
use Rattle.command_grammar.specs.reading.Framing.{TakesBit}
use Rattle.command_grammar.proofs.reading.Resuming.{no_value, small_value}
use Rattle.command_grammar.proofs.reader.command_in_progress.State.take_edge.Goals as goal

pub take_other-requires-clause-none : goal.take_other-requires-clause-none
take_other-requires-clause-none c =
    (omega (arith, c.if-self-gt0.false), no_value c.args.self.now c.requires.digits.0 (omega (arith, c.if-self-gt0.false)) c.requires.digits.1)

pub returns-clause-goes : goal.returns-clause-goes
returns-clause-goes c = λ before read stands digits.
    let all = sym (append-nil before) ∙ ap (λ (l : List Bool). before ++ l) (sym (digits.nothing (omega (arith, c.if-self-gt0.false)))) in
    subst (λ (l : List Bool). TakesBit c.take_other.result c.take_other.new.self l c.args.bit) all (c.take_other.ensures.goes before stands)

pub take_last-requires-clause-small : goal.take_last-requires-clause-small
take_last-requires-clause-small c = small_value c.args.self.now c.requires.digits.0 c.requires.digits.1
