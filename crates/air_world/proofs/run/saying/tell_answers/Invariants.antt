use Rattle.air_world.proofs.Names.{◌≡◌, List, map, take, AnswersCommand, IsToldWhole, answer_line, AreReplies, Replied, answers_of}
use Rattle.air_world.proofs.run.saying.tell_answers.Given as goal

abbrev pub invariant-loop-place : goal.invariant-loop-place
invariant-loop-place g l = record {
  room : l.bits.capacity ≡ l.fn.bits.capacity;
  told : (replies : List Replied) → l.answers.items ≡ answers_of replies → AreReplies (AnswersCommand l.command) replies
      → IsToldWhole g.R.Listener.hears (map (answer_line l.exchange) (take l.place replies)) l.fn.report l.report;
}
