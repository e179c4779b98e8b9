-- How the stream of a reply is received, and of bits that are none.
use Rattle.std.proofs.Common.{inl, inr, Bool, List, length, refl}
use Rattle.line_code.specs.Table.{Table}
use Rattle.line_code.specs.Stream.{IsStream}
use Rattle.reply_grammar.specs.Replies.{AnswersExpected}
use Rattle.reply_grammar.specs.laws.SomeReply.{reply_or_fault}
use Rattle.reply_grammar.specs.declared.expected.Expect.{Expect}
use Rattle.reply_grammar.specs.declared.expected.Reply.{Reply}
use Rattle.reply_grammar.specs.declared.expected.Received.TheVariants.{Refused}
use Rattle.reply_wire.specs.Received.{IsWhole, IsUnexpected, IsReceived}

-- bits that answer what is expected are received whole
pub whole_received : (t : Table) (trext : Bool) (expect : Expect) (reply : Reply) (bits levels : List Bool)
    → IsStream t trext bits levels → AnswersExpected reply expect bits → IsWhole t trext expect levels reply
whole_received t trext expect reply bits levels stream answers = record { bits = bits; stream = stream; answers = answers }

-- and others are not
pub unexpected_received : (t : Table) (trext : Bool) (expect : Expect) (bits levels : List Bool)
    → IsStream t trext bits levels → ((reply : Reply) → ¬ AnswersExpected reply expect bits) → IsReceived t trext expect levels (Refused (length levels))
unexpected_received t trext expect bits levels stream none =
    elim (reply_or_fault expect bits) [
      | inl found ↦ absurd (none found.0 found.1)
      | inr found ↦
          let unexpected : IsUnexpected t trext expect levels (length levels) = record { bits = bits; stream = stream; refusal = found.0; faults = found.1; behind = refl } in
          inr (inr unexpected)
    ]
