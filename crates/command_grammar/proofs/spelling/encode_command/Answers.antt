use Rattle.std.proofs.Common.{◌≡◌, List, Bool, length, ap, arith}
use Rattle.command_grammar.specs.Commands.{spelling_of}
use Rattle.command_grammar.proofs.SpellingLengths.{length-spelling_of}
use Rattle.command_grammar.proofs.spelling.encode_command.Goals as goal

pub returns-clause-count : goal.returns-clause-count
returns-clause-count c =
    let written : c.write_command.new.out.items ≡ spelling_of c.args.command.now = ap (λ o. o.items) c.write_command.ensures.spelled in
    omega (arith, ap (λ (l : List Bool). length l) written, length-spelling_of c.args.command.now c.write_command.ensures.legal)
