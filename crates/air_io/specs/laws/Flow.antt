-- Reads one after another are one read, and writes one after another are one write.
use Rattle.std.proofs.Common.{ℕ, List, [], ◌++◌, Option, Some, None, refl, sym, ap, ◌∙◌, append_assoc}
use Rattle.std.specs.Option.{option_map}
use Rattle.std.proofs.lemmas.List.{append-nil}
use Rattle.air_io.specs.Flow.{TakesBytes, Adds}

pub Reads-more : (old between new : Option (List ℕ)) (bytes more : List ℕ) → TakesBytes old between bytes → TakesBytes between new more → TakesBytes old new (bytes ++ more)
Reads-more old between None bytes more first second = first ∙ ap (option_map (λ rest. bytes ++ rest)) second
Reads-more old between (Some rest) bytes more first second =
    first ∙ ap (option_map (λ rest. bytes ++ rest)) second ∙ ap Some (sym (append_assoc bytes more rest))

pub Adds-nothing : (written : Option (List ℕ)) → Adds written written []
Adds-nothing None = refl
Adds-nothing (Some bytes) = ap Some (sym (append-nil bytes))

pub Adds-more : (old between new : Option (List ℕ)) (bytes more : List ℕ) → Adds old between bytes → Adds between new more → Adds old new (bytes ++ more)
Adds-more None between new bytes more first second = second ∙ ap (option_map (λ written. written ++ more)) first
Adds-more (Some written) between new bytes more first second =
    second ∙ ap (option_map (λ written. written ++ more)) first ∙ ap Some (append_assoc written bytes more)
