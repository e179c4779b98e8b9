-- What a contract sees of the tags that stand in one of the states, and of what a tag gives when it heard a command.
use Rattle.std.specs.Prelude.{◌≡◌, Option, Some, None, if◌then◌else◌}
use Rattle.bit_strings.specs.BitString.{BitString}
use Rattle.tag_machine.specs.declared.any_tag.AnyTag.{AnyTag}
use Rattle.tag_machine.specs.declared.any_tag.AnyTag.TheVariants as tags
use Rattle.tag_machine.specs.declared.any_tag.Answered.{Answered}
use Rattle.tag_machine.specs.declared.any_tag.Answered.TheVariants.{Silent, Plain, Extended}
use Rattle.tag_machine.specs.declared.any_tag.Heard.{Heard}
use Rattle.tag_machine.specs.declared.states.StateName.{StateName}
use Rattle.tag_machine.specs.declared.states.StateName.TheVariants as names
use Rattle.tag_machine.specs.TagValue.{TagValue}
use Rattle.tag_machine.specs.Answers.{Sent, Outcome, bits_sent, IsSent}

abbrev pub tag_value_of : AnyTag → TagValue
tag_value_of (tags.Ready tag) = tag
tag_value_of (tags.Arbitrate tag) = tag
tag_value_of (tags.InReply tag) = tag
tag_value_of (tags.Acknowledged tag) = tag
tag_value_of (tags.Opened tag) = tag
tag_value_of (tags.Secured tag) = tag
tag_value_of (tags.Killed tag) = tag
tag_value_of (tags.Unpowered tag) = tag

-- the name of the state that a tag's type says
abbrev pub typed_name_of : AnyTag → StateName
typed_name_of (tags.Ready tag) = names.Ready
typed_name_of (tags.Arbitrate tag) = names.Arbitrate
typed_name_of (tags.InReply tag) = names.InReply
typed_name_of (tags.Acknowledged tag) = names.Acknowledged
typed_name_of (tags.Opened tag) = names.Opened
typed_name_of (tags.Secured tag) = names.Secured
typed_name_of (tags.Killed tag) = names.Killed
typed_name_of (tags.Unpowered tag) = names.Unpowered

-- the mark of an answer
abbrev pub mark_of : Option Sent → Answered
mark_of None = Silent
mark_of (Some sent) = (if sent.extended then Extended else Plain)

-- a tag that heard a command, and a buffer before and after it, are what an outcome says
pub record GivesOutcome (outcome : Outcome) (heard : Heard) (old new : BitString) : Type 0 where
  pub tag : tag_value_of heard.tag ≡ outcome.tag
  pub answered : heard.answered ≡ mark_of outcome.answer
  pub bits : new ≡ record old { items = bits_sent outcome.answer }
  pub in_range : IsSent outcome.answer
