-- What an interrogator makes of levels (6.3.1.3.2 the codes of the link from tag to interrogator, 6.3.2.11 the
-- replies to each command; the places of refusal are of the profile).
use Rattle.std.specs.Prelude.{◌≡◌, ℕ, ◌⊎◌, Bool, List, length}
use Rattle.bit_strings.specs.Family.{IsBadAt, IsShortAt}
use Rattle.line_code.specs.Table.{Table}
use Rattle.line_code.specs.Stream.{IsStream, Streams}
use Rattle.reply_grammar.specs.Replies.{AnswersExpected}
use Rattle.reply_grammar.specs.Refusals.{RefusesReply}
use Rattle.reply_grammar.specs.declared.expected.Expect.{Expect}
use Rattle.reply_grammar.specs.declared.expected.Reply.{Reply}
use Rattle.reply_grammar.specs.declared.expected.ReplyRefusal.{ReplyRefusal}
use Rattle.reply_grammar.specs.declared.expected.Received.{Received}
use Rattle.reply_grammar.specs.declared.expected.Received.TheVariants.{Whole, Refused}

-- the levels are the stream of some bits, which are the reply, and it is one that is expected
pub record IsWhole (t : Table) (trext : Bool) (expect : Expect) (levels : List Bool) (reply : Reply) : Type 0 where
  pub bits : List Bool
  pub stream : IsStream t trext bits levels
  pub answers : AnswersExpected reply expect bits

-- the levels are the stream of some bits, which are no reply that is expected; the place is behind the last level
pub record IsUnexpected (t : Table) (trext : Bool) (expect : Expect) (levels : List Bool) (place : ℕ) : Type 0 where
  pub bits : List Bool
  pub stream : IsStream t trext bits levels
  pub refusal : ReplyRefusal
  pub faults : RefusesReply refusal expect bits
  pub behind : place ≡ length levels

-- a whole reply, or the place where the levels stop being the front of a stream, or their number, where they are
-- such a front alone or a stream that brings no reply that is expected
abbrev pub IsReceived : Table → Bool → Expect → List Bool → Received → Type 0
IsReceived t trext expect levels (Whole reply) = IsWhole t trext expect levels reply
IsReceived t trext expect levels (Refused place) =
    IsBadAt (Streams t trext) levels place ⊎ IsShortAt (Streams t trext) levels place ⊎ IsUnexpected t trext expect levels place
