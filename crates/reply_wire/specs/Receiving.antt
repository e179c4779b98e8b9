-- What an interrogator receives of levels, as a function of them. Something is always received (laws/SomeReceived.antt): this is
-- what the proof of that gives, and by the laws of ReceivedLaws.antt there is nothing else that levels could be received as.
use Rattle.std.specs.Prelude.{Bool, List}
use Rattle.bit_strings.specs.declared.code.Code.{Code}
use Rattle.reply_grammar.specs.declared.expected.Expect.{Expect}
use Rattle.reply_grammar.specs.declared.expected.Received.{Received}
use Rattle.reply_wire.specs.laws.SomeReceived.{some_received}

unfoldable pub received_of : Code → Bool → Expect → List Bool → Received
received_of code trext expect levels = (some_received code trext expect levels).0
