-- What is said of what the channel gives, where tags' answers are at hand.
use Rattle.std.specs.Prelude.{◌≡◌, ◌≤◌, Bool, ◌||◌, List, length, Some}
use Rattle.std.specs.List.{All}
use Rattle.air_channel.specs.BufferSizes.{room_for_frames, room_for_streams}
use Rattle.air_events.specs.Streams.{longest_stream}
use Rattle.bit_strings.specs.BitString.{BitString}
use Rattle.line_code.specs.Stream.{stream_of}
use Rattle.reply_wire.specs.Codes.{table_of}
use Rattle.pie_line.specs.Link.{LinkValue}
use Rattle.tag_machine.specs.Answers.{IsSent}
use Rattle.tag_machine.specs.TagsInExchange.{Replied}
use Rattle.tag_population.specs.Answers.{AnswerValue, answer_of, answers_of, answer_value_of}
use Rattle.tag_population.specs.declared.answers.Answer.{Answer}

-- these are the answers to one command, of which each was sent
pub record AreSentAnswers (answers : List AnswerValue) (replies : List Replied) : Type 0 where
  pub same : answers ≡ answers_of replies
  pub sent : All (λ replied. IsSent (Some replied.sent)) replies

-- these answers were sent, and there is room for the bits and for the stream of each
abbrev pub CanGive : List AnswerValue → (bits stream : BitString) → Type 0
CanGive answers bits stream = ((replies : List Replied) × AreSentAnswers answers replies) × (room_for_frames ≤ bits.capacity) × (room_for_streams ≤ stream.capacity)

-- what is given has no more levels than the longest stream, and the room stays
abbrev pub KeepsRoom : (bits bits_behind stream stream_behind : BitString) → Type 0
KeepsRoom bits bits_behind stream stream_behind =
    (length stream_behind.items ≤ longest_stream) × (stream_behind.capacity ≡ stream.capacity) × (bits_behind.capacity ≡ bits.capacity)

-- an answer is what was sent
pub record IsAnswer (answer : Answer) (replied : Replied) : Type 0 where
  pub same : answer_value_of answer ≡ answer_of replied
  pub sent : IsSent (Some replied.sent)

-- the levels of an answer
abbrev pub answer_levels : LinkValue → Answer → List Bool
answer_levels link answer = stream_of (table_of link.code) (answer.extended || link.trext) answer.bits.now
