-- The byte of a digit behind a zero is the digit's number.
use Rattle.std.proofs.Common.{◌≡◌, ◌∙◌, slice_index, ap}
use Rattle.text_fields.proofs.WordDigits.{digit_read, digit_within}
use Rattle.text_fields.proofs.word_lists.number_of.Goals as goal

pub returns : goal.returns
returns c =
    let same : c.clamp-bounded.result ≡ c.args.digit = c.clamp-bounded.ensures ∙ digit_within c.args.digit c.requires in
    let out = (rw (c.as_slice.ensures, same, digit_read c.args.digit c.requires) at c.decode_to_slice.ensures.value).1 in
    ap (λ bytes. slice_index bytes 0) out
