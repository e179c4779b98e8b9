use Rattle.std.proofs.Common.{ap}
use Rattle.bit_strings.specs.BitString.{BitString}
use Rattle.decode_lines.proofs.answer.AnswerRooms.answer.Goals as goal

pub returns-in-Stream : goal.returns-in-Stream
returns-in-Stream c =
    let same = ap (λ (b : BitString). b.items) c.copy_to.ensures in
    rw c.in-Stream.is (rw same at c.answer_levels.ensures)
