use Rattle.std.proofs.Common.{ap, ◌∙◌}
use Rattle.std.proofs.lemmas.Result.{on_ok_weaker}
use Rattle.bit_strings.specs.BitString.{BitString}
use Rattle.decode_lines.specs.Answer.{CommandAnswer}
use Rattle.decode_lines.proofs.answer.AnswerRooms.answer_command.Goals as goal

pub returns : goal.returns
returns c =
    let same = c.as_slice.ensures.value ∙ ap (λ (b : BitString). b.items) c.copy_to.ensures in
    on_ok_weaker c.push_commanded.result
    (λ line. record { answer = CommandAnswer c.decode_command_to.new.answer; right = (rw same at c.decode_command_to.ensures.answer); line = line }) c.push_commanded.ensures
