use Rattle.std.proofs.Common.{◌∙◌}
use Rattle.std.proofs.lemmas.Result.{on_ok_weaker}
use Rattle.decode_lines.specs.Answer.{SamplesAnswer, with_left}
use Rattle.decode_lines.proofs.RightAnswers.{sliced_right}
use Rattle.decode_lines.proofs.answer.AnswerRooms.answer_samples.Goals as goal

pub returns : goal.returns
returns c =
    let same = c.deref.ensures.value ∙ c.in_ok-read_samples.ensures in
    let levels = c.slice_levels-outcome.new.out.items in
    let outcome = c.slice_levels-outcome in
    let right = sliced_right c.args.threshold c.args.per_level c.args.samples.now levels outcome.result (rw same at outcome.ensures.ok) (rw same at outcome.ensures.refused) in
    on_ok_weaker c.push_slicing.result (λ line. record { answer = SamplesAnswer (with_left (λ done. levels) outcome.result); right = right; line = line }) c.push_slicing.ensures
