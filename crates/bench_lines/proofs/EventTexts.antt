-- The events of a probe are told apart.
use Rattle.std.proofs.Common.{◌≡◌, ℕ, List, [], ap, refl, sym, ◌∙◌}
use Rattle.air_events.specs.declared.Event.{Event}
use Rattle.air_events.specs.declared.Event.TheVariants as events
use Rattle.wire_text.specs.CommandText.{flag_word}
use Rattle.wire_text.proofs.CommandFieldTexts.{flag_is}
use Rattle.wire_text.proofs.CommandsToldApart.{flag_told}
use Rattle.scenario_lines.specs.Names.{event_kind, event_word}
use Rattle.scenario_lines.proofs.ToldNames.{event_word_told}
use Rattle.text_fields.specs.NamedFields.{AreFilled, AreSpelling}
use Rattle.text_fields.proofs.FilledFields.{none_filled, one_more}
use Rattle.text_fields.proofs.NamedFieldLaws.{IsVocabulary, same_behind}
use Rattle.bench_lines.specs.ProbeLine.{IsProbeEvent, probe_event_fields, other_event_fields, probe_events}

filled : (event : Event) → AreFilled (probe_event_fields (event_kind event)) (other_event_fields event)
filled events.Timeout = none_filled
filled events.Off = none_filled
filled events.On = none_filled
filled (events.Expire flag) = one_more 0 (flag_word flag) [] (flag_is flag).filled none_filled

pub events_are : IsVocabulary probe_events IsProbeEvent
events_are = record { told = event_word_told; filled = λ event is. filled event }

others_told : (one other : Event) → event_kind one ≡ event_kind other → other_event_fields one ≡ other_event_fields other → one ≡ other
others_told events.Timeout events.Timeout kind same = refl
others_told events.Off events.Off kind same = refl
others_told events.On events.On kind same = refl
others_told (events.Expire flag) (events.Expire flag') kind same = let flags : flag_word flag ≡ flag_word flag' = cc in ap events.Expire (flag_told flag flag' flags)
others_told one other kind same = absurd (cc)

pub event_told : (fields : List (List ℕ)) (one other : Event) → AreSpelling probe_events IsProbeEvent fields one → AreSpelling probe_events IsProbeEvent fields other
    → one ≡ other
event_told fields one other is is' =
    let same = same_behind (event_word (event_kind one)) (event_word (event_kind other)) (other_event_fields one) (other_event_fields other)
    (sym is.spelling ∙ is'.spelling) in
    others_told one other (event_word_told (event_kind one) (event_kind other) same.0) same.1
