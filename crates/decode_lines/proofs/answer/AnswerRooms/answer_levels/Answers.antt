use Rattle.std.proofs.lemmas.Result.{on_ok_weaker}
use Rattle.decode_lines.specs.Answer.{StreamAnswer, with_left}
use Rattle.decode_lines.proofs.RightAnswers.{left_right}
use Rattle.decode_lines.proofs.answer.AnswerRooms.answer_levels.Goals as goal

pub returns : goal.returns
returns c =
    let bits = c.decode_levels-outcome.new.out.items in
    let outcome = c.decode_levels-outcome in
    let right = left_right (λ done. bits) _ _ outcome.result outcome.ensures.ok outcome.ensures.refused in
    on_ok_weaker c.push_outcome.result (λ line. record { answer = StreamAnswer (with_left (λ done. bits) outcome.result); right = right; line = line }) c.push_outcome.ensures
