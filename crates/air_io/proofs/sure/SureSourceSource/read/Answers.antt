use Rattle.std.proofs.Common.{◌≡◌, ◌-◌, ◌∙◌, length, take, drop, sym, ap, arith}
use Rattle.std.proofs.lemmas.Grind.{common_steps}
use Rattle.air_io.proofs.Parts.{copied_and_rest}
use Rattle.air_io.proofs.sure.SureSourceSource.read.Goals as goal

pub returns-clause-took : goal.returns-clause-took
returns-clause-took c =
    let from = c.self.inside.read in
    let count = c.min-count.result in
    let part : c.copy_from_slice.new.self ≡ take count (take (length c.self.inside.bytes.items - from) (drop from c.self.inside.bytes.items)) = c.copy_from_slice.ensures.after ∙ ap (λ xs. take count (take (length xs - from) (drop from xs))) c.deref.ensures.value in
    let len : length c.copy_from_slice.new.self ≡ count = grind (arith, common_steps) in
    (omega arith, sym c.self.view_is ∙ copied_and_rest _ _ _ _ _ part len)
