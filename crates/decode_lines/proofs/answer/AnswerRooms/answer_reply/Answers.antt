use Rattle.std.proofs.Common.{ap}
use Rattle.std.proofs.lemmas.Result.{MatchResult-from_both, on_ok_weaker}
use Rattle.bit_strings.specs.BitString.{BitString}
use Rattle.decode_lines.specs.Answer.{ReplyAnswer}
use Rattle.decode_lines.proofs.answer.AnswerRooms.answer_reply.Goals as goal

pub returns : goal.returns
returns c =
    let same = ap (λ (b : BitString). b.items) c.copy_to.ensures in
    let outcome = c.decode_reply-outcome in
    let right = MatchResult-from_both outcome.result _ _ (rw same at outcome.ensures.ok) (rw same at outcome.ensures.refused) in
    on_ok_weaker c.push_replied.result (λ line. record { answer = ReplyAnswer outcome.result; right = right; line = line }) c.push_replied.ensures
