-- What a tag becomes when it hears a command, and what it answers.
use Rattle.std.specs.Prelude.{ℕ, ◌^◌, ◌<◌, Bool, true, false, List, [], Option, Some, None}
use Rattle.reply_grammar.specs.declared.expected.Reply.{Reply}
use Rattle.reply_grammar.specs.Replies.{IsReply, spelling}
use Rattle.tag_machine.specs.TagValue.{StateValue, BodyValue, TagValue}
pub use Rattle.tag_body.specs.MemoryAnswers.{HasFewWords}

-- a reply, the handle that stands in it where its kind has one, and whether it has the extended preamble whatever the
-- Query's TRext says (6.3.2.11.3)
pub record Sent : Type 0 where
  pub reply : Reply
  pub handle : ℕ
  pub extended : Bool

-- what comes of a command: the tag after it, and what it sends, or nothing
pub record Outcome : Type 0 where
  pub tag : TagValue
  pub answer : Option Sent

-- no reply
abbrev pub silent : StateValue → BodyValue → Outcome
silent state body = record { tag = record { state = state; body = body }; answer = None }

-- an answer with the Query's TRext
abbrev pub plain_answer : StateValue → BodyValue → Reply → ℕ → Outcome
plain_answer state body reply handle = record {
  tag = record { state = state; body = body };
  answer = Some (record { reply = reply; handle = handle; extended = false });
}

-- an answer with the extended preamble
abbrev pub extended_answer : StateValue → BodyValue → Reply → ℕ → Outcome
extended_answer state body reply handle = record {
  tag = record { state = state; body = body };
  answer = Some (record { reply = reply; handle = handle; extended = true });
}

-- the bits that are sent
abbrev pub bits_sent : Option Sent → List Bool
bits_sent None = []
bits_sent (Some sent) = spelling sent.reply sent.handle

-- the numbers of what is sent are in their ranges, a PC counts the words of its EPC, and a Read brings 1 to 512 words
abbrev pub IsSent : Option Sent → Type 0
IsSent None = Unit {0}
IsSent (Some sent) = IsReply sent.reply × (sent.handle < 2 ^ 16) × HasFewWords sent.reply
