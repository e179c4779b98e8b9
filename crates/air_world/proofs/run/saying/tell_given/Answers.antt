use Rattle.air_world.proofs.Names.{◌≡◌, List, ◌∷◌, ap, ◌∙◌, length, [], GivenLine, exchanged_by, length-map, AnswerValue, answer_of}
use Rattle.air_world.proofs.Passing.{tells-same}
use Rattle.wave_dump.specs.Exchanged.{Exchanged}
use Rattle.air_world.proofs.run.saying.tell_given.Goals as goal

pub returns-clause-told : goal.returns-clause-told
returns-clause-told g c = λ link sent behind number command.
    let intervals = c.as_slice.ensures.value ∙ c.intervals.ensures.value ∙ behind.frame in
    let replies = c.replies.ensures ∙ ap (λ (answers : List AnswerValue). length answers) behind.answers ∙ length-map sent.replies answer_of in
    let given = c.gave_of-given.ensures.gave link sent behind command in
    let levels = c.stream.ensures.value ∙ behind.stream in
    let exchanged : ◌≡◌ {A = Exchanged} (record {
      number = c.args.exchange;
      command = c.args.command.now;
      intervals = c.as_slice.result.now;
      replies = c.replies.result;
      given = c.gave_of-given.result;
      levels = c.stream.result.now.items;
    }) (exchanged_by link sent) =
    λ i. record { number = number i; command = command i; intervals = intervals i; replies = replies i; given = given i; levels = levels i } in
    tells-same (ap (λ (e : Exchanged). GivenLine e ∷ []) exchanged) (record { on = c.tell.ensures })
