use Rattle.std.proofs.Common.{refl}
use Rattle.reply_grammar.specs.declared.expected.Expect.TheVariants.{Epc as OneEpc}
use Rattle.reply_grammar.specs.laws.PassingReplies.{epc_passed}
use Rattle.reply_grammar.proofs.decode.read_epc.Goals as goal

pub returns : goal.returns
returns c = epc_passed OneEpc c.args.bits.now.items c.word_at-pc.result c.epc_words-epc.result refl c.requires c.word_at-pc.ensures c.epc_words-epc.ensures
