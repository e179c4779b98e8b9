use Rattle.std.proofs.Common.{refl}
use Rattle.reply_wire.specs.Codes.{table_of}
use Rattle.reply_grammar.specs.declared.expected.Expect.TheVariants.{Rn16 as OneRn16, Epc as OneEpc, Handle as OneHandle, Same}
use Rattle.reply_grammar.specs.declared.expected.Reply.TheVariants.{Rn16, Epc, Handle}
use Rattle.reply_grammar.proofs.Replies.{answers_from}
use Rattle.reply_wire.proofs.RepliesReceived.{whole_received}
use Rattle.reply_wire.proofs.received_laws.kinds_received.Goals as goal

pub returns : goal.returns
returns c = record {
  rn16 = λ code trext rn handle levels stream range fits. whole_received (table_of code) trext OneRn16 (Rn16 rn) _ levels stream (answers_from (Rn16 rn) OneRn16 handle tt tt range fits);
  epc = λ code trext pc epc handle levels stream range fits. whole_received (table_of code) trext OneEpc (Epc pc epc) _ levels stream (answers_from (Epc pc epc) OneEpc handle tt tt range fits);
  new_handle = λ code trext rn handle levels stream range fits. whole_received (table_of code) trext OneHandle (Handle rn) _ levels stream (answers_from (Handle rn) OneHandle handle tt tt range fits);
  same_handle = λ code trext handle levels stream fits. whole_received (table_of code) trext (Same handle) (Handle handle) _ levels stream (answers_from (Handle handle) (Same handle) handle refl refl fits fits);
}
