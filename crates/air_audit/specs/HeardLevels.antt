-- What an auditor hears, and the room of its buffers.
use Rattle.std.specs.Prelude.{ℕ, ◌≤◌, Bool, List, length}
use Rattle.pie_line.specs.Link.{LinkValue}
use Rattle.reply_grammar.specs.Replies.{longest_reply}
use Rattle.tag_population.specs.Answers.{AnswerValue}

-- the room that an audit has for the stream of each reply, in levels
abbrev pub room_for_audited_streams : ℕ
room_for_audited_streams = 132208

-- an answer that has no more bits than the longest reply
abbrev pub IsShortAnswer : AnswerValue → Type 0
IsShortAnswer answer = length answer.bits ≤ longest_reply

-- the link, and the levels that are heard over it
pub record HeardValue : Type 0 where
  pub link : LinkValue
  pub levels : List Bool
