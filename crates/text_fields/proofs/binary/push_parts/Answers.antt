-- The digits of a part more are in the text.
use Rattle.std.proofs.Common.{◌≡◌, ◌∙◌, ℕ, Bool, List, ◌++◌, ap, append_assoc, drop, map, sym, take}
use Rattle.std.proofs.lemmas.List.{map-append, take-append-drop}
use Rattle.std.specs.String.{string_bytes}
use Rattle.text_fields.specs.Binary.{binary_digit}
use Rattle.text_fields.proofs.binary.push_parts.Goals as goal

-- bits in two parts have the digits of each
in_parts : (text : List ℕ) (bits part behind : List Bool) (count : ℕ) → part ≡ take count bits → behind ≡ drop count bits
    → (text ++ map binary_digit part) ++ map binary_digit behind ≡ text ++ map binary_digit bits
in_parts text bits part behind count front rest =
    let both = ap (map binary_digit) (take-append-drop count bits) in
    rw (front, rest) (append_assoc text (map binary_digit (take count bits)) (map binary_digit (drop count bits))
    ∙ ap (λ (digits : List ℕ). text ++ digits) (sym (map-append binary_digit (take count bits) (drop count bits)) ∙ both))

pub loop-part-preserved : goal.loop-part-preserved
loop-part-preserved c =
    let split = c.in-Some.ensures.cases in
    let parts = in_parts (string_bytes c.loop-part.text) c.loop-part.rest.now c.in-Some.part.now c.in-Some.behind.now 64 split.0 split.1 in
    ap (λ (text : List ℕ). text ++ map binary_digit c.in-Some.behind.now) c.in_ok-push_whole_part.ensures ∙ parts ∙ c.loop-part.invariant
