-- Texts of intervals that are put into room, one behind another.
use Rattle.std.proofs.Common.{◌≡◌, ◌∙◌, ℕ, zero, suc, ◌+◌, ◌^◌, ◌<◌, ◌≤◌, List, [], ◌∷◌, ◌++◌, length, map, take, drop, get_or, ap, append_assoc, sym, arith, lit<}
use Rattle.std.specs.Fmt.{decimal}
use Rattle.std.specs.Str.{IsAscii}
use Rattle.std.proofs.Math.Seq.{take-append-add}
use Rattle.std.proofs.lemmas.Fmt.{IsAscii-decimal}
use Rattle.std.proofs.lemmas.Grind.{flat_map-append}
use Rattle.std.proofs.lemmas.List.{length-take-le, map-append, take-append-drop, take-take}
use Rattle.std.proofs.lemmas.Simd.{take_more_put_chunk}
use lib.Lanes.{put_chunk}
use Rattle.std.proofs.lemmas.Str.{IsAscii-append}
use Rattle.text_fields.specs.Lines.{fields_behind, space}

-- what fills the room behind a store, of which a front counts
pub take_stored : (room text : List ℕ) (filled count : ℕ) → filled + length text ≤ length room → count ≤ length text
    → take (filled + count) (put_chunk filled room text) ≡ take filled room ++ take count text
take_stored room text filled count in_room in_text =
    let stored = take_more_put_chunk filled room text (filled + length text) (omega arith) in_room in
    let front = take-take (filled + count) (filled + length text) (put_chunk filled room text) (omega (arith, in_text)) in
    let both = rw (length-take-le filled room (omega (arith, in_room))) at (take-append-add (take filled room) text count) in
    sym front ∙ ap (take (filled + count)) stored ∙ both

-- no bytes are ASCII
none_ascii : IsAscii []
none_ascii i = lit< tt

pub field_ascii : (number : ℕ) → number < 2 ^ 32 → IsAscii (space ∷ decimal number)
field_ascii number fits zero = lit< tt
field_ascii number fits (suc i) = IsAscii-decimal number (omega arith) i

-- numbers of 32 bits as fields are ASCII
pub fields_ascii : (numbers : List ℕ) → ((i : ℕ) → get_or numbers i 0 < 2 ^ 32) → IsAscii (fields_behind (map decimal numbers))
fields_ascii [] fit = none_ascii
fields_ascii (number ∷ numbers) fit =
    IsAscii-append (space ∷ decimal number) (fields_behind (map decimal numbers)) (field_ascii number (fit 0)) (fields_ascii numbers (λ i. fit (suc i)))

-- where two texts of fields stand one behind the other, all of them do
fields_in_parts : (count : ℕ) (numbers : List ℕ)
    → fields_behind (map decimal (take count numbers)) ++ fields_behind (map decimal (drop count numbers)) ≡ fields_behind (map decimal numbers)
fields_in_parts count numbers =
    sym (flat_map-append (λ (field : List ℕ). space ∷ field) (map decimal (take count numbers)) (map decimal (drop count numbers)))
    ∙ ap fields_behind (sym (map-append decimal (take count numbers) (drop count numbers)) ∙ ap (map decimal) (take-append-drop count numbers))

-- fields more are put into the room, whose front may have gone to the text before, and the whole text stays
pub fields_more : (text filled text' left put : List ℕ) (count : ℕ) (rest some others : List ℕ)
    → text' ++ left ≡ text ++ filled → put ≡ left ++ fields_behind (map decimal some) → some ≡ take count rest → others ≡ drop count rest
    → text' ++ (put ++ fields_behind (map decimal others)) ≡ text ++ (filled ++ fields_behind (map decimal rest))
fields_more text filled text' left put count rest some others moved more are_some are_others =
    let first : List ℕ = fields_behind (map decimal (take count rest)) in
    let second : List ℕ = fields_behind (map decimal (drop count rest)) in
    let all : List ℕ = fields_behind (map decimal rest) in
    rw (more, are_some, are_others)
    (ap (λ (it : List ℕ). text' ++ it) (append_assoc left first second ∙ ap (λ (it : List ℕ). left ++ it) (fields_in_parts count rest))
    ∙ sym (append_assoc text' left all)
    ∙ ap (λ (it : List ℕ). it ++ all) moved
    ∙ append_assoc text filled all)
