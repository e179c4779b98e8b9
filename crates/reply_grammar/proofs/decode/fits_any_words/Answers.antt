use Rattle.std.proofs.Common.{◌/◌, ◌%◌, ◌-◌, arith, eq-eqb}
use Rattle.std.proofs.lemmas.Bool.{eqb-true}
use Rattle.reply_grammar.proofs.decode.fits_any_words.Goals as goal

pub returns : goal.returns
returns c = (
  λ test. ((c.args.length - 33) / 16, omega (arith, eqb-true (c.args.length % 16) 1 test), omega (arith, eqb-true (c.args.length % 16) 1 test), omega (arith, eqb-true (c.args.length % 16) 1 test)),
  λ fits. eq-eqb (c.args.length % 16) 1 (omega (arith, fits.3)),
)
