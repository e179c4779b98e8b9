-- What tags answered to one command: the bits of the answers, one behind the other, and where each stands among them.
use Rattle.std.specs.Prelude.{ℕ, ◌-◌, ◌*◌, ◌≤◌, Bool, List, length, map, take, drop, Some}
use Rattle.std.specs.List.{All}
use Rattle.tag_machine.specs.Answers.{bits_sent}
use Rattle.tag_machine.specs.TagsInExchange.{Replied}
use Rattle.tag_population.specs.declared.answers.Answer.{Answer}
use Rattle.tag_population.specs.declared.answers.Kept.{Kept}

-- an answer: the number of its tag, whether it has the extended preamble whatever TRext says, and its bits
pub record AnswerValue : Type 0 where
  pub number : ℕ
  pub extended : Bool
  pub bits : List Bool

-- the answers to one command, and for how many tags there is room
pub record AnswersValue : Type 0 where
  pub items : List AnswerValue
  pub tags : ℕ

-- what a tag sent, as an answer
abbrev pub answer_of : Replied → AnswerValue
answer_of replied = record { number = replied.number; extended = replied.sent.extended; bits = bits_sent (Some replied.sent) }

-- what tags sent, as answers
abbrev pub answers_of : List Replied → List AnswerValue
answers_of replies = map answer_of replies

-- what a contract sees of an answer
abbrev pub answer_value_of : Answer → AnswerValue
answer_value_of answer = record { number = answer.number; extended = answer.extended; bits = answer.bits.now }

-- an answer whose bits stand between two places of a list
abbrev pub answer_kept : List Bool → Kept → AnswerValue
answer_kept bits kept = record { number = kept.number; extended = kept.extended; bits = take (kept.end - kept.start) (drop kept.start bits) }

-- all answers that are kept
abbrev pub answers_kept : List Bool → List Kept → List AnswerValue
answers_kept bits kept = map (answer_kept bits) kept

-- the most bits that an answer has
abbrev pub most_answer_bits : ℕ
most_answer_bits = 8240

-- each answer stands among the bits, of which there are no more than the longest answers have
pub record AreKept (bits : List Bool) (kept : List Kept) : Type 0 where
  pub short : length bits ≤ most_answer_bits * length kept
  pub inside : All (λ one. (one.start ≤ one.end) × (one.end ≤ length bits)) kept
