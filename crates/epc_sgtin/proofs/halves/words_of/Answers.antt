-- The words are the three parts of the number.
use Rattle.std.proofs.Common.{◌/◌, refl, sym}
use Rattle.std.proofs.lemmas.Nat.{and_mask}
use Rattle.epc_sgtin.proofs.BitFields.{three_words}
use Rattle.epc_sgtin.proofs.halves.words_of.Goals as goal

pub returns : goal.returns
returns c = sym (three_words c.args.half _ _ _ refl (sym (and_mask (c.args.half / 65536) 16)) (sym (and_mask c.args.half 16)))
