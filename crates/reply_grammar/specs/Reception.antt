-- Profile: what an interrogator makes of what it hears behind a command. Where in the levels something is refused makes no
-- difference to what it does next.
use Rattle.reply_grammar.specs.declared.expected.Reply.{Reply}
use Rattle.reply_grammar.specs.declared.expected.Received.{Received}
use Rattle.reply_grammar.specs.declared.expected.Received.TheVariants.{Whole, Refused}

-- no stream came, a stream that is a whole reply of the kind that is expected, or a stream that is none
pub data Reception : Type 0 where
  no_stream : Reception
  whole_reply : (reply : Reply) → Reception
  no_such_reply : Reception

-- what is received of a stream, as a reception
abbrev pub reception_from : Received → Reception
reception_from (Whole reply) = whole_reply reply
reception_from (Refused place) = no_such_reply
