use Rattle.std.proofs.Common.{◌++◌, List, Bool, ap, sym}
use Rattle.std.specs.Prelude.{Result}
use Rattle.command_grammar.specs.declared.commands.Command.{Command}
use Rattle.command_grammar.specs.declared.kinds.CommandKind.{CommandKind}
use Rattle.command_grammar.specs.declared.fields.Field.{Field}
use Rattle.command_grammar.specs.declared.reader.fields.Fields.{Fields}
use Rattle.command_grammar.specs.reading.Readers.{Stop, Reading, ◌>>=◌}
use Rattle.command_grammar.specs.reading.CommandFields.{run}
use Rattle.command_grammar.proofs.reading.FieldStages.{truncate_start, kill_bits_start, crc5_start, crc16_start, pointer_start, words_start, count_start}
use Rattle.command_grammar.proofs.reader.command_in_progress.Position.start.Goals as goal

-- then the fields behind it
abbrev then : CommandKind → List Field → List Bool → Reading Fields → Result Command Stop
then kind behind whole r = r >>= λ x. run behind kind x.0 whole x.1

pub returns-in-Crc5-clause-reads : goal.returns-in-Crc5-clause-reads
returns-in-Crc5-clause-reads c = λ kind behind fields bits rest counts.
    rw c.in-Crc5.is (ap (then kind behind (bits ++ rest)) (sym (crc5_start c.crc5-value.result fields bits rest (c.crc5-value.ensures bits counts))))

pub returns-in-Pointer-clause-reads : goal.returns-in-Pointer-clause-reads
returns-in-Pointer-clause-reads c = λ kind behind fields bits rest counts.
    rw c.in-Pointer.is (ap (then kind behind (bits ++ rest)) (sym (pointer_start c.new.result fields rest c.new.ensures.none)))

pub returns-in-Truncate-clause-reads : goal.returns-in-Truncate-clause-reads
returns-in-Truncate-clause-reads c = λ kind behind fields bits rest counts.
    rw c.in-Truncate.is (ap (then kind behind (bits ++ rest)) (sym (truncate_start fields rest)))

pub returns-in-Words-clause-reads : goal.returns-in-Words-clause-reads
returns-in-Words-clause-reads c = λ kind behind fields bits rest counts.
    rw c.in-Words.is (ap (then kind behind (bits ++ rest)) (sym (words_start fields rest)))

pub returns-in-WordCount-clause-reads : goal.returns-in-WordCount-clause-reads
returns-in-WordCount-clause-reads c = λ kind behind fields bits rest counts.
    rw c.in-WordCount.is (ap (then kind behind (bits ++ rest)) (sym (count_start fields rest)))

pub returns-in-KillBits-clause-reads : goal.returns-in-KillBits-clause-reads
returns-in-KillBits-clause-reads c = λ kind behind fields bits rest counts.
    rw c.in-KillBits.is (ap (then kind behind (bits ++ rest)) (sym (kill_bits_start fields rest)))

pub returns-in-Crc16-clause-reads : goal.returns-in-Crc16-clause-reads
returns-in-Crc16-clause-reads c = λ kind behind fields bits rest counts.
    rw c.in-Crc16.is (ap (then kind behind (bits ++ rest)) (sym (crc16_start c.crc16-value.result fields bits rest (c.crc16-value.ensures bits counts))))
