-- Lines of a trace that nobody wants make no difference.
use Rattle.air_world.proofs.Names.{◌∷◌, List, length, refl, ap, ◌∙◌, [], heard_levels, wave_for, RxLine, TxLine, length-map, AnswerValue, answer_of}
use Rattle.air_world.proofs.Passing.{tells-same, tells-then}
use Rattle.air_world.proofs.run.saying.tell_waves.Goals as goal

pub returns-then-not-wants_frames : goal.returns-then-not-wants_frames
returns-then-not-wants_frames g c = λ got link sent behind number.
    let same = c.if-not-wants_frames.ensures refl in
    tells-then {lines = TxLine sent.exchange (wave_for link sent.command) ∷ []} (record { on = λ first before. same first before _ refl })
    (record { on = λ first before. same first before (RxLine sent.exchange (length sent.replies) (heard_levels link sent.given)) refl })

pub returns : goal.returns
returns g c = λ got link sent behind number.
    let intervals = c.as_slice.ensures.value ∙ c.intervals.ensures.value ∙ behind.frame in
    let replies = c.replies.ensures ∙ ap (λ (answers : List AnswerValue). length answers) behind.answers ∙ length-map sent.replies answer_of in
    let levels = c.as_slice-2.ensures.value ∙ c.stream.ensures.value ∙ behind.stream in
    tells-then (tells-same (λ i. TxLine (number i) (intervals i) ∷ []) (record { on = c.tell.ensures }))
    (tells-same (λ i. RxLine (number i) (replies i) (levels i) ∷ []) (record { on = c.tell-2.ensures }))
