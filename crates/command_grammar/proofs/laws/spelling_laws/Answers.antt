use Rattle.command_grammar.specs.Commands.{Spellings}
use Rattle.command_grammar.proofs.SpellingLengths.{length-spelling_of}
use Rattle.command_grammar.proofs.SpellingLaws.{one_command, none_behind, one_place, not_begun, not_spelled, some_answer}
use Rattle.std.proofs.Common.{ap, length, List, Bool, arith}
use Rattle.command_grammar.proofs.laws.spelling_laws.Goals as goal

pub returns-clause-one : goal.returns-clause-one
returns-clause-one c = one_command

pub returns-clause-apart : goal.returns-clause-apart
returns-clause-apart c = none_behind

pub returns-clause-short : goal.returns-clause-short
returns-clause-short c = λ command bits spells. omega (arith, ap (λ (l : List Bool). length l) spells.spelled, length-spelling_of command spells.legal)

pub returns-clause-some : goal.returns-clause-some
returns-clause-some c = some_answer

pub returns-clause-not_bad : goal.returns-clause-not_bad
returns-clause-not_bad c = not_spelled

pub returns-clause-not_both : goal.returns-clause-not_both
returns-clause-not_both c = λ bits place count bad short. not_begun Spellings bits place short.begins bad

pub returns-clause-place : goal.returns-clause-place
returns-clause-place c = one_place Spellings
