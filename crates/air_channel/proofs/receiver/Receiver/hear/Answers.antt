use Rattle.std.proofs.Common.{Bool, List, ap, refl, subst}
use Rattle.air_channel.proofs.Names.{BitString}
use Rattle.command_grammar.specs.Commands.{spelling_of}
use Rattle.command_grammar.specs.reading.Framing.{FramerStandsFor}
use Rattle.air_channel.proofs.receiver.Receiver.hear.Goals as goal

pub returns-clause-heard : goal.returns-clause-heard
returns-clause-heard c =
    let spelled = ap (λ (bits : BitString). bits.items) c.encode_command.ensures.spelled in
    let framed = subst (λ (bits : List Bool). FramerStandsFor c.take_frame.new.framer bits) spelled c.take_frame.ensures.framed in
    c.finish_to.ensures.only (spelling_of c.args.command.now) c.args.command.now framed (record { legal = c.encode_command.ensures.legal; spelled = refl })
