-- What is known of an answer whose bits are not yet read.
use Rattle.std.specs.Prelude.{◌≡◌, Bool, List, Option, IfSome}
use Rattle.std.specs.Option.{IsSomeAnd}
use Rattle.reply_grammar.specs.declared.expected.Expect.{Expect}
use Rattle.reply_grammar.specs.Replies.{AnswersExpected}
use Rattle.tag_machine.specs.declared.any_tag.Answered.{Answered}
use Rattle.tag_machine.specs.Answers.{Sent}
use Rattle.tag_machine.specs.Hearing.{mark_of}

-- The answer is marked so, and its bits answer what is expected.
pub record IsHeardAnswer (answer : Option Sent) (answered : Answered) (expect : Option Expect) (bits : List Bool) : Type 0 where
  pub mark : answered ≡ mark_of answer
  pub bits_are : IfSome answer (λ sent. IsSomeAnd expect (λ it. AnswersExpected sent.reply it bits))
