use Rattle.air_world.proofs.Names.{◌≡◌, ◌≤◌, map, take, length, vec_len, vec_capacity, raised}
use Rattle.air_world.proofs.start.raised_words.Given as goal

-- the words so far, and the room that was taken
abbrev pub invariant-loop-word : goal.invariant-loop-word
invariant-loop-word l = record {
  made : l.changed.items ≡ map (raised l.by) (take l.word-index l.draws);
  room : length l.draws ≤ vec_capacity l.changed;
  count : vec_len l.changed ≡ l.word-index;
}
