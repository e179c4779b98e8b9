use Rattle.std.proofs.Common.{◌++◌, List, ap, sym, ◌∙◌}
use Rattle.command_grammar.specs.declared.fields.Field.{Field}
use Rattle.command_grammar.specs.reading.CommandFields.{run}
use Rattle.command_grammar.proofs.reading.Resuming.{first_and_behind}
use Rattle.command_grammar.proofs.reader.command_in_progress.State.begin.Goals as goal

pub returns-in-len1-up-clause-reads : goal.returns-in-len1-up-clause-reads
returns-in-len1-up-clause-reads c = λ bits rest counts.
    ap (λ (fields : List Field). run fields c.args.self.now.kind c.args.self.now.fields (bits ++ rest) rest) (sym (first_and_behind c.args.self.now.behind.now _ c.in-len1-up.len_at_least))
    ∙ c.start-position.ensures.reads c.args.self.now.kind _ c.args.self.now.fields bits rest counts
