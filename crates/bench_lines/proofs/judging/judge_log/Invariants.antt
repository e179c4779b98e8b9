use Rattle.bench_lines.proofs.judging.judge_log.Given as goal

-- the counter's ledger is that of the blank
abbrev pub ghosts-judge_text : goal.ghosts-judge_text
ghosts-judge_text a = record { name = a.blank.name; parts = a.blank.parts }
