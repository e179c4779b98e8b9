use Rattle.bit_strings.specs.laws.Ebv.{IsEbv-ebv_of, below-ebv, same-ebv}
use Rattle.bit_strings.proofs.EbvFronts.{ebv_apart}
use Rattle.bit_strings.proofs.laws.ebv_laws.Goals as goal

pub returns : goal.returns
returns c = record { some = IsEbv-ebv_of; below = below-ebv; one = same-ebv; apart = ebv_apart }
