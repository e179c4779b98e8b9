use Rattle.std.proofs.Common.{◌≡◌, ◌≤◌, map, vec_len, vec_capacity}
use Rattle.made_runs.specs.Made.{generator_after, drawn_at, words_of_tag, numbers_below}
use Rattle.made_runs.proofs.making.draw_words.Given as goal

abbrev pub invariant-loop : goal.invariant-loop
invariant-loop l = record {
  drawn : l.words.items ≡ map (drawn_at l.fn.generator) (numbers_below l.counter);
  after : l.generator ≡ generator_after l.counter l.fn.generator;
  room : words_of_tag ≤ vec_capacity l.words;
  count : vec_len l.words ≡ l.counter;
}
