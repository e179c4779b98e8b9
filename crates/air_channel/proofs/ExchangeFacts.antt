-- An exchange, put together from its steps.
use Rattle.std.proofs.Common.{◌≡◌, ℕ, ◌+◌, ◌*◌, ◌≤◌, List, [], length, ap, ◌∙◌, arith}
use Rattle.air_channel.proofs.Names.{TagValue, outcomes_in, IsQueryRep, busy_from}
use Rattle.air_events.specs.declared.Entry.{Entry}
use Rattle.air_events.specs.declared.Event.{Event}
use Rattle.command_grammar.specs.declared.commands.Command.{Command}
use Rattle.tag_population.specs.Hearing.{tags_after_events, hearing_from}
use Rattle.tag_population.proofs.TagsBefallen.{length-befallen, one_exchange}

-- what is known of an exchange: the command that the tags heard is the one that was sent, after each event befell its tag
pub record Exchanged (old : List TagValue) (command : Command) (entry : Entry) : Type 0 where
  pub heard : Command
  pub events : List (Event × ℕ)
  pub befallen : List TagValue
  pub same : heard ≡ command
  pub events_are : events ≡ entry.events
  pub befell : befallen ≡ tags_after_events 0 events old

-- what came of the command that was heard, for the tags after their events
pub outcomes_are : (old : List TagValue) (command : Command) (entry : Entry) (is : Exchanged old command entry) → hearing_from 0 is.heard entry is.befallen ≡ outcomes_in command entry old
outcomes_are old command entry is =
    ap (λ (h : Command). hearing_from 0 h entry is.befallen) is.same
    ∙ one_exchange command entry old is.befallen is.events is.events_are is.befell

-- the bound of a QueryRep, where no event comes before it
pub exchange_bound : (old : List TagValue) (command : Command) (entry : Entry) (is : Exchanged old command entry) (start befallen last : ℕ) → befallen ≤ start + length is.events
    → IsQueryRep command → entry.events ≡ [] → (IsQueryRep is.heard → last ≤ befallen + 2 * busy_from 0 is.heard entry is.befallen) → last ≤ start + 2 * busy_from 0 command entry old
exchange_bound old command entry is start befallen last counts rep none hears =
    let no_events : is.events ≡ [] = is.events_are ∙ none in
    let tags : is.befallen ≡ old = is.befell ∙ ap (λ (l : List (Event × ℕ)). tags_after_events 0 l old) no_events in
    let busy : busy_from 0 is.heard entry is.befallen ≡ busy_from 0 command entry old = λ i. busy_from 0 (is.same i) entry (tags i) in
    omega (arith, hears (rep.0, is.same ∙ rep.1), busy, counts, ap (λ (l : List (Event × ℕ)). length l) no_events)

-- there are as many tags as before
pub as_many_befallen : (old : List TagValue) (events : List (Event × ℕ)) (befallen : List TagValue) → befallen ≡ tags_after_events 0 events old → length befallen ≡ length old
as_many_befallen old events befallen befell = ap (λ (l : List TagValue). length l) befell ∙ length-befallen 0 events old
