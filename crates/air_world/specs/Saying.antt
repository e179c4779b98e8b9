-- Profile: what is told and heard of an exchange, once it is over.
use Rattle.std.specs.Prelude.{◌≡◌, ℕ, ◌≤◌, List, length, Some, slice_get}
use Rattle.std.specs.List.{AllByRecursion}
use Rattle.std.specs.Option.{IsSomeAnd}
use Rattle.air_channel.specs.Air.{AirValue}
use Rattle.air_model.specs.Channel.{Given, whole, got_of, heard_levels, wave_for}
use Rattle.air_model.specs.Past.{Record}
use Rattle.air_model.specs.declared.got.Got.{Got}
use Rattle.command_grammar.specs.declared.commands.Command.{Command}
use Rattle.pie_line.specs.Link.{LinkValue}
use Rattle.reply_grammar.specs.Replies.{AnswersExpected, longest_reply}
use Rattle.runs.specs.laws.Replies.{AreReplies}
use Rattle.tag_machine.specs.Answers.{Sent, bits_sent}
use Rattle.tag_machine.specs.TagsInExchange.{Replied}
use Rattle.tag_machine.specs.TagValue.{StateValue}
use Rattle.tag_machine.specs.laws.AnswersByCommand.{expect_of}
use Rattle.tag_population.specs.Answers.{AnswerValue, answers_of}

-- what was sent answers the command: its bits are the reply that is expected of a tag in some state
pub record AnswersCommand (command : Command) (sent : Sent) : Type 0 where
  pub state : StateValue
  pub answers : IsSomeAnd (expect_of command state) (λ expect. AnswersExpected sent.reply expect (bits_sent (Some sent)))

-- each answer has no more bits than the longest reply
abbrev pub AreShort : List AnswerValue → Type 0
AreShort answers = AllByRecursion (λ answer. length answer.bits ≤ longest_reply) answers

-- no two replies are of one tag
abbrev pub AreOfDifferentTags : List Replied → Type 0
AreOfDifferentTags replies =
    (place other : ℕ) (replied own : Replied) → slice_get replies place ≡ Some replied → slice_get replies other ≡ Some own → replied.number ≡ own.number → replied ≡ own

-- a reply that the channel gives whole is one of these
abbrev pub IsOneOf : List Replied → Given → Type 0
IsOneOf replies (whole replied) = (place : ℕ) × (slice_get replies place ≡ Some replied)
IsOneOf replies given = Unit {0}

-- what stands on an air behind an exchange of which this is the record, and whom the channel gave
pub record IsBehind (link : LinkValue) (sent : Record) (air : AirValue) (got : Got) : Type 0 where
  pub link_is : air.link ≡ link
  pub frame : air.frame ≡ wave_for link sent.command
  pub answers : air.answers ≡ answers_of sent.replies
  pub stream : air.stream ≡ heard_levels link sent.given
  pub got_is : got ≡ got_of link sent.given
  pub answered : AreReplies (AnswersCommand sent.command) sent.replies
  pub different : AreOfDifferentTags sent.replies
  pub one : IsOneOf sent.replies sent.given
