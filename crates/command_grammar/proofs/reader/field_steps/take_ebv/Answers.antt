use Rattle.std.proofs.Common.{◌++◌, ◌∷◌, [], subst, sym}
use Rattle.bit_strings.specs.Ebv.{IsCutEbv}
use Rattle.bit_strings.specs.laws.Ebv.{below-ebv}
use Rattle.command_grammar.proofs.reading.FieldStages.{ebv_run, ebv_whole, ebv_stops}
use Rattle.command_grammar.proofs.reading.EbvFronts.{no_ebv_behind}
use Rattle.command_grammar.proofs.reader.field_steps.take_ebv.Goals as goal

pub returns-in-More-clause-reads : goal.returns-in-More-clause-reads
returns-in-More-clause-reads c = λ rest.
    let more = c.in-More.ensures.answer in
    ebv_run c.args.front (c.args.bit ∷ []) rest c.in-More.more c.args.fields.now more.0 (subst IsCutEbv (sym more.0) more.1)

pub pointer_of-fields-requires : goal.pointer_of-fields-requires
pointer_of-fields-requires c = below-ebv c.in-Value.number (c.args.front ++ c.args.bit ∷ []) c.in-Value.ensures.answer

pub returns-in-Value-clause-reads : goal.returns-in-Value-clause-reads
returns-in-Value-clause-reads c = λ rest.
    ebv_whole c.args.front rest c.args.bit c.in-Value.number c.pointer_of-fields.result c.args.fields.now c.pointer_of-fields.ensures c.in-Value.ensures.answer

pub returns-in-NotShortest-clause-reads : goal.returns-in-NotShortest-clause-reads
returns-in-NotShortest-clause-reads c = λ rest.
    ebv_stops c.args.front rest c.args.bit c.args.fields.now c.take.ensures.begun (no_ebv_behind c.take.result (c.args.front ++ c.args.bit ∷ []) c.in-NotShortest.is c.take.ensures.answer)
