use Rattle.std.proofs.Common.{◌≡◌, ◌/◌, refl, slice_get, Some, None}
use Rattle.session_flags.proofs.BankBits.{bit_within, bit_past}
use Rattle.session_flags.proofs.mask.bit_of_bank.Goals as goal

pub returns-in_err-word : goal.returns-in_err-word
returns-in_err-word c =
    let none : slice_get c.args.words.now (c.args.at / 16) ≡ None = cc (c.in_err-word.was, c.word_at.ensures) in
    cc (bit_past c.args.words.now c.args.at (c.args.at / 16) refl none)

pub returns : goal.returns
returns c =
    let hit : slice_get c.args.words.now (c.args.at / 16) ≡ Some c.in_ok-word.word = cc (c.in_ok-word.was, c.word_at.ensures) in
    cc (bit_within c.args.words.now c.args.at (c.args.at / 16) c.in_ok-word.word refl hit)
