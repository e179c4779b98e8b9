-- What holds of whatever legal tags answer to a command holds of each reply to it.
use Rattle.std.proofs.Common.{◌≡◌, ℕ, ◌+◌, ◌==◌, Bool, true, false, List, [], ◌∷◌, ◌++◌, Option, Some, None, refl}
use Rattle.std.specs.Prelude.{if◌then◌else◌}
use Rattle.std.specs.List.{AllByRecursion}
use Rattle.air_events.specs.declared.Entry.{Entry}
use Rattle.air_events.specs.declared.Event.{Event}
use Rattle.command_grammar.specs.declared.commands.Command.{Command}
use Rattle.tag_machine.specs.Answers.{Outcome, Sent}
use Rattle.tag_machine.specs.Events.{tag_after_event}
use Rattle.tag_machine.specs.TagsInExchange.{AreLegalTags, Replied, tag_after_own_event, tag_after_events, is_missed, outcome_unless, outcomes_from, outcomes_in, replies_in, reply_of, replies_from}
use Rattle.tag_machine.specs.Step.{step}
use Rattle.tag_machine.specs.TagValue.{TagValue, StateValue, BodyValue, IsLegalTag}

-- events keep tags legal: a law of tag_machine
abbrev pub StaysLegal : Type 0
StaysLegal = (event : Event) (state : StateValue) (body : BodyValue) → IsLegalTag (record { state = state; body = body }) → IsLegalTag (tag_after_event event state body)

event-legal : (b : Bool) (event : Event) (tag : TagValue) → StaysLegal → IsLegalTag tag → IsLegalTag (if b then tag_after_event event tag.state tag.body else tag)
event-legal true event tag stays legal = stays event tag.state tag.body legal
event-legal false event tag stays legal = legal

pub events-legal : (number : ℕ) (events : List (Event × ℕ)) (tag : TagValue) → StaysLegal → IsLegalTag tag → IsLegalTag (tag_after_events number events tag)
events-legal number [] tag stays legal = legal
events-legal number (event ∷ events) tag stays legal =
    events-legal number events (tag_after_own_event number event.0 event.1 tag) stays (event-legal (event.1 == number) event.0 tag stays legal)

-- what one tag answers, that hears the command or misses it, is so
abbrev pub IsAnswered : (Sent → Type 0) → Outcome → Type 0
IsAnswered P outcome = (sent : Sent) → outcome.answer ≡ Some sent → P sent

-- whatever a legal tag answers to a command is so
abbrev pub AnswersSo : (Sent → Type 0) → Command → Type 0
AnswersSo P command = (tag : TagValue) → IsLegalTag tag → IsAnswered P (step command tag.state tag.body)

-- each reply is so
abbrev pub AreReplies : (Sent → Type 0) → List Replied → Type 0
AreReplies P replies = AllByRecursion (λ replied. P replied.sent) replies

unless-missed : (P : Sent → Type 0) (misses : Bool) (command : Command) (tag : TagValue) → AnswersSo P command → IsLegalTag tag → IsAnswered P (outcome_unless misses command tag)
unless-missed P true command tag answers legal = λ sent is. absurd (cc)
unless-missed P false command tag answers legal = answers tag legal

pub outcomes-answered : (P : Sent → Type 0) (number : ℕ) (command : Command) (entry : Entry) (tags : List TagValue) → AnswersSo P command → StaysLegal → AreLegalTags tags
    → AllByRecursion (IsAnswered P) (outcomes_from number command entry tags)
outcomes-answered P number command entry [] answers stays legal = tt
outcomes-answered P number command entry (tag ∷ tags) answers stays legal = (
  unless-missed P (is_missed number entry) command (tag_after_events number entry.events tag) answers (events-legal number entry.events tag stays legal.0),
  outcomes-answered P (number + 1) command entry tags answers stays legal.1,
)

both-parts : (P : Sent → Type 0) (replies more : List Replied) → AreReplies P replies → AreReplies P more → AreReplies P (replies ++ more)
both-parts P [] more are others = others
both-parts P (replied ∷ replies) more are others = (are.0, both-parts P replies more are.1 others)

reply-answered : (P : Sent → Type 0) (number : ℕ) (answer : Option Sent) → ((sent : Sent) → answer ≡ Some sent → P sent) → AreReplies P (reply_of number answer)
reply-answered P number None is = tt
reply-answered P number (Some sent) is = (is sent refl, tt)

pub replies-answered : (P : Sent → Type 0) (number : ℕ) (outcomes : List Outcome) → AllByRecursion (IsAnswered P) outcomes → AreReplies P (replies_from number outcomes)
replies-answered P number [] are = tt
replies-answered P number (outcome ∷ outcomes) are =
    both-parts P (reply_of number outcome.answer) (replies_from (number + 1) outcomes) (reply-answered P number outcome.answer are.0) (replies-answered P (number + 1) outcomes are.1)

-- each reply to a command is so
pub replies-in-answered : (P : Sent → Type 0) (command : Command) (entry : Entry) (tags : List TagValue) → AnswersSo P command → StaysLegal → AreLegalTags tags
    → AreReplies P (replies_in command entry tags)
replies-in-answered P command entry tags answers stays legal =
    replies-answered P 0 (outcomes_in command entry tags) (outcomes-answered P 0 command entry tags answers stays legal)
