use Rattle.bit_strings.specs.laws.NumbersInBits.{length-field_of, value_of-below, value_of-field, field_of-value_of}
use Rattle.bit_strings.proofs.laws.field_laws.Goals as goal

pub returns : goal.returns
returns c = record { length = length-field_of; below = value_of-below; value = value_of-field; field = field_of-value_of }
