use Rattle.std.proofs.Common.{ap}
use Rattle.std.proofs.lemmas.Result.{on_ok_weaker}
use Rattle.bit_strings.specs.BitString.{BitString}
use Rattle.decode_lines.specs.Answer.{HeardAnswer}
use Rattle.decode_lines.proofs.answer.AnswerRooms.answer_heard.Goals as goal

pub returns : goal.returns
returns c =
    let same = ap (λ (b : BitString). b.items) c.copy_to.ensures in
    on_ok_weaker c.push_received.result (λ line. record { answer = HeardAnswer c.receive.new.received; right = (rw same at c.receive.ensures.received); line = line }) c.push_received.ensures
