use Rattle.std.proofs.lemmas.Result.{on_ok_weaker}
use Rattle.decode_lines.specs.Answer.{PieAnswer, with_left}
use Rattle.decode_lines.proofs.RightAnswers.{left_right}
use Rattle.decode_lines.proofs.answer.AnswerRooms.answer_frame.Goals as goal

pub returns : goal.returns
returns c =
    let bits = c.decode_frame-outcome.new.out.items in
    let outcome = c.decode_frame-outcome in
    let right = left_right (λ kind. (kind, bits)) _ _ outcome.result (rw c.list.ensures at outcome.ensures.ok) (rw c.list.ensures at outcome.ensures.refused) in
    on_ok_weaker c.push_framed.result (λ line. record { answer = PieAnswer (with_left (λ kind. (kind, bits)) outcome.result); right = right; line = line }) c.push_framed.ensures
