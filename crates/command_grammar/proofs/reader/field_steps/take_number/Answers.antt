use Rattle.std.proofs.Common.{◌-◌, ◌∙◌, arith}
use Rattle.command_grammar.proofs.reading.FieldStages.{some_mask, length_words, first_word, next_words}
use Rattle.command_grammar.proofs.reader.field_steps.take_number.Goals as goal

pub returns-then-value-gt0-clause-reads : goal.returns-then-value-gt0-clause-reads
returns-then-value-gt0-clause-reads c = λ rest. rw c.in-MaskLength.is (some_mask c.args.value (c.args.value - 1) (record c.args.fields.now { mask = c.new-fields.result }) rest (omega (arith, c.if-value-gt0.true)) c.new-fields.ensures)

pub returns-in-WordsLength-clause-reads : goal.returns-in-WordsLength-clause-reads
returns-in-WordsLength-clause-reads c = λ rest. rw c.in-WordsLength.is (length_words c.args.value (c.args.value - 1) c.args.fields.now rest (omega (arith, c.if-value-eq0-2.false)))

pub returns-in-FirstWord-clause-reads : goal.returns-in-FirstWord-clause-reads
returns-in-FirstWord-clause-reads c = λ rest. rw c.in-FirstWord.is (first_word c.in-FirstWord.left c.args.value c.first-fields.result c.args.fields.now rest c.first-fields.ensures ∙ c.next_word.ensures.reads (record c.args.fields.now { words = c.first-fields.result }) rest)

pub returns-in-Word-clause-reads : goal.returns-in-Word-clause-reads
returns-in-Word-clause-reads c = λ rest. rw c.in-Word.is (next_words c.in-Word.left c.args.value c.push_reserved.new.self c.args.fields.now rest c.push_reserved.ensures ∙ c.next_word-in-Word.ensures.reads (record c.args.fields.now { words = c.push_reserved.new.self }) rest)
