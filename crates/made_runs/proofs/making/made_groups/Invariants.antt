use Rattle.std.proofs.Common.{◌≡◌, ◌≤◌, ◌*◌, map, vec_len, vec_capacity}
use Rattle.made_runs.specs.Made.{generator_after, generator_of, made_group, words_of_tag, numbers_below}
use Rattle.made_runs.proofs.making.made_groups.Given as goal

abbrev pub invariant-loop-number : goal.invariant-loop-number
invariant-loop-number l = record {
  made : l.groups.items ≡ map (made_group l.fn.seed) (numbers_below l.number);
  behind : l.generator ≡ generator_after (words_of_tag * l.number) (generator_of l.fn.seed);
  room : l.fn.count ≤ vec_capacity l.groups;
  count : vec_len l.groups ≡ l.number;
}
