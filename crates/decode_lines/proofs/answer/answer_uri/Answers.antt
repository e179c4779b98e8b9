use Rattle.std.proofs.lemmas.Result.{MatchResult-from_both, on_ok_weaker}
use Rattle.decode_lines.specs.Answer.{UriAnswer}
use Rattle.decode_lines.proofs.answer.answer_uri.Goals as goal

pub returns : goal.returns
returns c =
    let outcome = c.words_of_uri-outcome in
    let right = MatchResult-from_both outcome.result _ _ (rw c.as_slice.ensures at outcome.ensures.ok) (rw c.as_slice.ensures at outcome.ensures.refused) in
    on_ok_weaker c.push_worded.result (λ line. record { answer = UriAnswer outcome.result; right = right; line = line }) c.push_worded.ensures
