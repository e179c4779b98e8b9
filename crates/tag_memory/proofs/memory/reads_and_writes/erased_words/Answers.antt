use Rattle.std.proofs.Common.{◌≡◌, ◌≤◌, ◌∙◌, ap, replicate, arith}
use Rattle.std.proofs.lemmas.List.{take-replicate}
use Rattle.tag_memory.proofs.memory.reads_and_writes.erased_words.Goals as goal

pub returns-clause-words : goal.returns-clause-words
returns-clause-words c =
    let same : c.from.result ≡ c.args.count = cc in
    let small : c.from.result ≤ 255 = omega arith in
    take-replicate c.from.result 255 0 small ∙ ap (λ n. replicate n 0) same
