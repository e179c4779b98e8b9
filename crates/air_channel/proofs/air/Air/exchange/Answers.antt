use Rattle.std.proofs.Common.{◌≤◌, ◌<◌, ◌+◌, ◌*◌, List, length, ap, ◌∙◌, sym, subst, arith}
use Rattle.std.specs.Prelude.{Some}
use Rattle.air_channel.proofs.Names.{All, AnswersValue, AirValue, AreSentAnswers, IsSent, Outcome, answers_of, replies_from, replies_in, tags_after}
use Rattle.air_channel.proofs.ExchangeFacts.{Exchanged, as_many_befallen, exchange_bound, outcomes_are}
use Rattle.air_channel.proofs.air.Air.exchange.Goals as goal

pub hear-requires-2-clause-missed : goal.hear-requires-2-clause-missed
hear-requires-2-clause-missed g c =
    let many = as_many_befallen c.self.inside.population c.as_slice.result.now c.befall_all.new.self c.befall_all.ensures.tags in
    subst (λ n. All (λ tag. tag < n) c.args.entry.now.missed) (sym many)
    (subst (λ (a : AirValue). All (λ tag. tag < length a.tags) c.args.entry.now.missed) (sym c.self.view_is) c.requires.named.missed)

pub hear-requires-2-clause-room : goal.hear-requires-2-clause-room
hear-requires-2-clause-room g c =
    omega (arith, c.self.invariant.5, as_many_befallen c.self.inside.population c.as_slice.result.now c.befall_all.new.self c.befall_all.ensures.tags)

pub invariant_of-self : goal.invariant_of-self
invariant_of-self g c =
    let many = as_many_befallen c.self.inside.population c.as_slice.result.now c.befall_all.new.self c.befall_all.ensures.tags in
    let before = c.self.invariant in
    let room : length c.hear-2.new.self ≤ c.hear-2.new.answers.tags = omega (arith, before.5, many, c.hear-2.ensures.count, ap (λ (a : AnswersValue). a.tags) c.hear-2.ensures.answers) in
    let kept = c.give.ensures.room in
    (omega (arith, before.0, kept.2, c.hear.ensures.bits_capacity), omega (arith, before.1, c.hear.ensures.capacity), c.hear.ensures.short, omega (arith, before.3, kept.1), kept.0, room)

pub returns : goal.returns
returns g c =
    let command = c.args.command.now in
    let entry = c.args.entry.now in
    let air = c.self.inside in
    let is : Exchanged air.population command entry =
    record { heard = c.command.result.now; events = c.as_slice.result.now; befallen = c.befall_all.new.self; same = cc; events_are = c.as_slice.ensures.value; befell = c.befall_all.ensures.tags } in
    let outcomes = outcomes_are air.population command entry is in
    let answers : AreSentAnswers c.hear-2.new.answers.items (replies_in command entry air.population) = record {
      same = ap (λ (a : AnswersValue). a.items) c.hear-2.ensures.answers ∙ ap (λ (l : List Outcome). answers_of (replies_from 0 l)) outcomes;
      sent = subst (λ (l : List Outcome). All (λ replied. IsSent (Some replied.sent)) (replies_from 0 l)) outcomes c.hear-2.ensures.sent;
    } in
    let tags = c.hear-2.ensures.tags ∙ ap (λ (l : List Outcome). tags_after l) outcomes in
    let stream = c.give.ensures.stream (replies_in command entry air.population) answers in
    let counts = c.saturating_add-self-inside.ensures in
    let many = as_many_befallen air.population is.events is.befallen is.befell in
    let counted : c.hear-2.new.steps ≤ c.args.steps.now + length entry.events + 2 * length air.population =
    omega (arith, c.befall_all.ensures.counted, c.hear-2.ensures.counted, many, ap length is.events_are) in
    record {
      air = rw (← c.self.view_is)
          (λ i. record { link = air.link; several = air.several; tags = tags i; frame = c.hear.ensures.wave i; stream = stream i; answers = answers.same i; exchanges = counts i });
      got = rw (← c.self.view_is) (c.give.ensures.got (replies_in command entry air.population) answers);
      sent = subst (λ (a : AirValue). All (λ replied. IsSent (Some replied.sent)) (replies_in command entry a.tags)) c.self.view_is answers.sent;
      counted = rw (← c.self.view_is) counted;
      bound = λ rep none. rw (← c.self.view_is) (exchange_bound air.population command entry is _ _ _ c.befall_all.ensures.counted rep none c.hear-2.ensures.bound);
      legal = c.hear-2.ensures.legal;
      command = c.hear.ensures.legal;
    }
