use Rattle.std.proofs.Common.{◌∙◌}
use Rattle.std.proofs.lemmas.Result.{MatchResult-from_both, on_ok_weaker}
use Rattle.decode_lines.specs.Answer.{SgtinAnswer}
use Rattle.decode_lines.proofs.answer.AnswerRooms.answer_sgtin.Goals as goal

pub returns : goal.returns
returns c =
    let same = c.deref.ensures.value ∙ c.in_ok-copy_to.ensures in
    let outcome = c.decode-outcome in
    let right = MatchResult-from_both outcome.result _ _ (rw same at outcome.ensures.ok) (rw same at outcome.ensures.refused) in
    on_ok_weaker c.push_named.result (λ line. record { answer = SgtinAnswer outcome.result; right = right; line = line }) c.push_named.ensures
