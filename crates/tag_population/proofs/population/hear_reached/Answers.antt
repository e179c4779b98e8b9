use Rattle.std.proofs.Common.{◌≡◌, ◌+◌, ◌++◌, ◌-◌, ◌<◌, ◌∙◌, ap, arith, get_or, length, sym, Some, Bool, if◌then◌else◌}
use Rattle.tag_machine.specs.Answers.{Outcome}
use Rattle.tag_machine.specs.TagsInExchange.{is_missed, outcome_unless, reply_of}
use Rattle.tag_population.proofs.HeardTags.{Sending, HeardBelow, came, heard_none, heard_next, heard_to, heard_all}
use Rattle.tag_population.specs.Answers.{AnswersValue, answers_of}
use Rattle.tag_population.specs.Floor.{IsNextReached, floor_with, no_tag, steps_back}
use Rattle.tag_population.specs.Hearing.{outcome_reached, reach_of, steps_to_hear}
use Rattle.tag_population.specs.Participation.{participation_at}
use Rattle.tag_population.proofs.population.hear_reached.Goals as goal

pub loop-number-init : goal.loop-number-init
loop-number-init g c =
    heard_none (record { command = c.args.command.now; entry = c.args.entry.now; before = c.args.floor.now; old = c.args.answers.now; start = c.args.steps.now }) c.requires.ready c.requires.none

pub loop-number-preserved : goal.loop-number-preserved
loop-number-preserved g c =
    let s : Sending = record { command = c.args.command.now; entry = c.args.entry.now; before = c.args.floor.now; old = c.args.answers.now; start = c.args.steps.now } in
    let now = c.loop-number.floor in
    let number = c.in-Some.number in
    let misses = c.is_missed-misses.result in
    let so_far = c.loop-number.invariant in
    let next : IsNextReached (reach_of s.command) now.parts c.loop-number.from (Some number) = rw (← c.reach_of-reach.ensures) c.in-Some.ensures in
    let within : number < length s.before.tags = rw (← so_far.parts_whole) next.1 in
    let at : HeardBelow s number now c.loop-number.answers c.loop-number.steps =
    heard_to s c.requires.ready (number - c.loop-number.from) c.loop-number.from number now c.loop-number.answers c.loop-number.steps so_far (omega (arith, next.0)) (omega (arith, within)) next.3 in
    let left = at.left number (omega arith) in
    let reached = rw left.1 at next.2 in
    let is : outcome_unless misses s.command (get_or now.tags number no_tag) ≡ came s number =
    rw (c.is_missed-misses.ensures, left.0) (ap (λ (b : Bool). outcome_reached b (is_missed number s.entry) s.command (get_or s.before.tags number no_tag)) (sym reached)) in
    let weight : steps_to_hear (reach_of s.command) (participation_at s.before.parts number) ≡ 1 + steps_back (participation_at now.parts number) =
    rw left.1 (ap (λ (b : Bool). if b then 1 + steps_back (participation_at s.before.parts number) else 0) reached) in
    rw c.index-from.ensures.value
    (heard_next s c.requires.ready number now c.hear.new.self c.loop-number.answers c.hear.new.answers c.loop-number.steps c.hear.new.steps at
    (record {
      within = within;
      floor_is = c.hear.ensures.floor ∙ ap (λ (o : Outcome). floor_with now number o.tag) is;
      items = ap (λ (a : AnswersValue). a.items) c.hear.ensures.answers ∙ ap (λ (o : Outcome). c.loop-number.answers.items ++ answers_of (reply_of number o.answer)) is;
      room = ap (λ (a : AnswersValue). a.tags) c.hear.ensures.answers;
      counts = omega (arith, c.hear.ensures.counted, weight);
    }))

pub returns-clause-heard : goal.returns-clause-heard
returns-clause-heard g c =
    let s : Sending = record { command = c.args.command.now; entry = c.args.entry.now; before = c.args.floor.now; old = c.args.answers.now; start = c.args.steps.now } in
    let so_far = c.loop-number.invariant in
    heard_all s c.requires.ready c.loop-number.floor c.loop-number.answers c.loop-number.steps
    (heard_to s c.requires.ready (length s.before.tags - c.loop-number.from) c.loop-number.from (length s.before.tags) c.loop-number.floor c.loop-number.answers c.loop-number.steps so_far
    (omega (arith, so_far.inside)) (omega arith) (λ number least below. rw (← c.reach_of-reach.ensures) (c.in_default.ensures number least (rw so_far.parts_whole below))))
