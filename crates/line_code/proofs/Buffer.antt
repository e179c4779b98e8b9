-- What taking the dummy off leaves of the buffer.
use Rattle.std.proofs.Common.{◌≡◌, ◌↔◌, Bool, true, List, [], ◌∷◌, ◌++◌, length, Option, Some, None, IsNone, IfSome, refl, sym, ap, ◌∙◌, arith, append_assoc, length-append}
use Rattle.std.proofs.lemmas.List.{same_from_push}
use Rattle.bit_strings.specs.BitString.{BitString}

pub popped : (result : Option Bool) (old new : BitString) (stood front : List Bool)
    → IfSome result (λ bit. old ≡ record { items = new.items ++ bit ∷ []; capacity = new.capacity }) → (IsNone result ↔ (old.items ≡ []))
    → old.items ≡ stood ++ (front ++ true ∷ []) → new.items ≡ stood ++ front
popped (Some bit) old new stood front some none e =
    let items = ap (λ (s : BitString). s.items) some in
    (same_from_push new.items (stood ++ front) bit true (sym items ∙ e ∙ sym (append_assoc stood front (true ∷ [])))).0
popped None old new stood front some none e =
    let empty = none.0 refl in
    let inner = length-append stood (front ++ true ∷ []) in
    let outer = length-append front (true ∷ []) in
    let sizes = ap length (sym empty ∙ e) in
    absurd (omega arith)
