use Rattle.bit_strings.specs.declared.code.Code.TheVariants.{Fm0, M2, M4, M8}
use Rattle.reply_wire.proofs.Lengths.{exact, most}
use Rattle.reply_wire.proofs.codes_by_name.encode_bits.Goals as goal

pub returns-in-Fm0-clause-exact : goal.returns-in-Fm0-clause-exact
returns-in-Fm0-clause-exact c = exact c.args.code Fm0 c.args.trext c.args.bits.now.items c.encode.new.out.items c.in-Fm0.is c.encode.ensures.stream

pub returns-in-Fm0-clause-most : goal.returns-in-Fm0-clause-most
returns-in-Fm0-clause-most c = most c.args.code Fm0 c.args.trext c.args.bits.now.items c.encode.new.out.items c.in-Fm0.is c.encode.ensures.stream

pub returns-in-M2-clause-exact : goal.returns-in-M2-clause-exact
returns-in-M2-clause-exact c = exact c.args.code M2 c.args.trext c.args.bits.now.items c.encode-in-M2.new.out.items c.in-M2.is c.encode-in-M2.ensures.stream

pub returns-in-M2-clause-most : goal.returns-in-M2-clause-most
returns-in-M2-clause-most c = most c.args.code M2 c.args.trext c.args.bits.now.items c.encode-in-M2.new.out.items c.in-M2.is c.encode-in-M2.ensures.stream

pub returns-in-M4-clause-exact : goal.returns-in-M4-clause-exact
returns-in-M4-clause-exact c = exact c.args.code M4 c.args.trext c.args.bits.now.items c.encode-in-M4.new.out.items c.in-M4.is c.encode-in-M4.ensures.stream

pub returns-in-M4-clause-most : goal.returns-in-M4-clause-most
returns-in-M4-clause-most c = most c.args.code M4 c.args.trext c.args.bits.now.items c.encode-in-M4.new.out.items c.in-M4.is c.encode-in-M4.ensures.stream

pub returns-in-M8-clause-exact : goal.returns-in-M8-clause-exact
returns-in-M8-clause-exact c = exact c.args.code M8 c.args.trext c.args.bits.now.items c.encode-in-M8.new.out.items c.in-M8.is c.encode-in-M8.ensures.stream

pub returns-in-M8-clause-most : goal.returns-in-M8-clause-most
returns-in-M8-clause-most c = most c.args.code M8 c.args.trext c.args.bits.now.items c.encode-in-M8.new.out.items c.in-M8.is c.encode-in-M8.ensures.stream
