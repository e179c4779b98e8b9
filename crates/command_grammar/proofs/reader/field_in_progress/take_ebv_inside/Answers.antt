use Rattle.std.proofs.Common.{◌∷◌, [], subst, sym}
use Rattle.bit_strings.specs.Ebv.{IsCutEbv}
use Rattle.command_grammar.proofs.reading.FieldStages.{ebv_run}
use Rattle.command_grammar.proofs.reader.field_in_progress.take_ebv_inside.Goals as goal

pub returns-in-More-clause-reads : goal.returns-in-More-clause-reads
returns-in-More-clause-reads c = λ yes fields rest.
    let more = c.in-More.ensures.answer in
    ebv_run c.args.front.now (c.args.bit ∷ []) rest c.in-More.more fields more.0 (subst IsCutEbv (sym more.0) more.1)
