use Rattle.std.proofs.Common.{rules}
use Rattle.tag_memory.specs.ReadsAndWrites.{may_write_word}
use Rattle.tag_memory.proofs.memory.Memory.change.Goals as goal

pub returns-then-not-all_words-clause-err : goal.returns-then-not-all_words-clause-err
returns-then-not-all_words-clause-err c =
    let known = c.all_words.ensures (may_write_word c.args.locks.now c.args.level c.args.bank) (λ place passed inside post. search rules) in
    search rules

pub returns-clause-ok : goal.returns-clause-ok
returns-clause-ok c =
    let known = c.all_words.ensures (may_write_word c.args.locks.now c.args.level c.args.bank) (λ place passed inside post. search rules) in
    search rules
