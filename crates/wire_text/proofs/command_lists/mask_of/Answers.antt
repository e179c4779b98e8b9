use Rattle.std.proofs.Common.{map}
use Rattle.text_fields.specs.Binary.{binary_digit}
use Rattle.text_fields.proofs.BinaryLaws.{no_hyphen}
use Rattle.wire_text.proofs.command_lists.mask_of.Goals as goal

pub returns-in_err-list_digits-clause-only : goal.returns-in_err-list_digits-clause-only
returns-in_err-list_digits-clause-only c = λ bits few spells.
    absurd (c.in_err-list_digits.ensures.only (map binary_digit bits) (no_hyphen bits) spells)

pub returns-clause-only : goal.returns-clause-only
returns-clause-only c = λ bits few spells.
    c.mask_of_digits.ensures.only bits few (c.in_ok-list_digits.ensures.only (map binary_digit bits) (no_hyphen bits) spells)
