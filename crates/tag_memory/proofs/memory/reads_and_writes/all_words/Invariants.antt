use Rattle.std.proofs.Common.{◌≡◌, ◌-◌, ◌<◌, ℕ, Bool}
use Rattle.tag_memory.specs.ReadsAndWrites.{all_words}
use Rattle.tag_memory.proofs.memory.reads_and_writes.all_words.Given as goal

abbrev pub invariant-loop-place : goal.invariant-loop-place
invariant-loop-place g l =
    (test : ℕ → Bool) → ((place : ℕ) (passed : Bool) → place < l.end → goal.F-post g l.passes place passed → passed ≡ test place)
    → all_words test l.from (l.end - l.from) ≡ all_words test l.place (l.end - l.place)
