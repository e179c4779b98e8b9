use Rattle.reply_grammar.proofs.Checks.{check_decides}
use Rattle.reply_grammar.proofs.decode.ends_with_check.Goals as goal

pub returns : goal.returns
returns c = check_decides _ c.args.bits.now.items c.requires c.residue_ok.ensures.message
