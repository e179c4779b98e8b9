-- Events that befall tags, and then a command, are what an exchange is for each of them; and events change no number of tags.
use Rattle.std.proofs.Common.{◌≡◌, ℕ, ◌+◌, List, [], ◌∷◌, length, refl, ap, ◌∙◌}
use Rattle.air_events.specs.declared.Entry.{Entry}
use Rattle.air_events.specs.declared.Event.{Event}
use Rattle.command_grammar.specs.declared.commands.Command.{Command}
use Rattle.tag_machine.specs.Answers.{Outcome}
use Rattle.tag_machine.specs.TagsInExchange.{outcome_in, outcomes_from, outcomes_in, tag_after_events, tag_after_own_event, tags_after_event}
use Rattle.tag_machine.specs.TagValue.{TagValue}
use Rattle.tag_population.proofs.EventsOnTags.{length-tags_after_event}
use Rattle.tag_population.specs.Hearing.{hearing_from, tags_after_events}

pub length-befallen : (number : ℕ) (events : List (Event × ℕ)) (tags : List TagValue) → length (tags_after_events number events tags) ≡ length tags
length-befallen number [] tags = refl
length-befallen number (event ∷ events) tags = length-befallen number events (tags_after_event number event.0 event.1 tags) ∙ length-tags_after_event number event.1 event.0 tags

-- what events make of the first tag and of the others
events_apart : (number : ℕ) (events : List (Event × ℕ)) (tag : TagValue) (tags : List TagValue)
    → tags_after_events number events (tag ∷ tags) ≡ tag_after_events number events tag ∷ tags_after_events (number + 1) events tags
events_apart number [] tag tags = refl
events_apart number (event ∷ events) tag tags =
    events_apart number events (tag_after_own_event number event.0 event.1 tag) (tags_after_event (number + 1) event.0 event.1 tags)

no_tags : (number : ℕ) (events : List (Event × ℕ)) → tags_after_events number events [] ≡ []
no_tags number [] = refl
no_tags number (event ∷ events) = no_tags number events

heard_after_events : (number : ℕ) (command : Command) (entry : Entry) (tags : List TagValue)
    → hearing_from number command entry (tags_after_events number entry.events tags) ≡ outcomes_from number command entry tags
heard_after_events number command entry [] = ap (λ (l : List TagValue). hearing_from number command entry l) (no_tags number entry.events)
heard_after_events number command entry (tag ∷ tags) =
    ap (λ (l : List TagValue). hearing_from number command entry l) (events_apart number entry.events tag tags)
    ∙ ap (λ (l : List Outcome). outcome_in number command entry tag ∷ l) (heard_after_events (number + 1) command entry tags)

-- what comes of a command for the tags that the events of its entry befell
pub one_exchange : (command : Command) (entry : Entry) (tags befallen : List TagValue) (events : List (Event × ℕ)) → events ≡ entry.events → befallen ≡ tags_after_events 0 events tags
    → hearing_from 0 command entry befallen ≡ outcomes_in command entry tags
one_exchange command entry tags befallen events are befell =
    ap (λ (l : List TagValue). hearing_from 0 command entry l) (befell ∙ ap (λ (l : List (Event × ℕ)). tags_after_events 0 l tags) are)
    ∙ heard_after_events 0 command entry tags
