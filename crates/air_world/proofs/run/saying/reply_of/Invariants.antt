use Rattle.air_world.proofs.Names.{◌≡◌, ◌<◌, ℕ, Some, slice_get, AnswerValue}
use Rattle.air_world.proofs.run.saying.reply_of.Given as goal

-- no answer so far is of the tag
abbrev pub invariant-loop-place : goal.invariant-loop-place
invariant-loop-place l = record {
  room : l.bits.capacity ≡ l.fn.bits.capacity;
  others : (place : ℕ) (answer : AnswerValue) → place < l.place → slice_get l.answers.items place ≡ Some answer → answer.number ≡ l.tag → ⊥;
}
