-- Parts of a list that a read copies to the front of a buffer.
use Rattle.std.proofs.Common.{◌≡◌, ℕ, ◌+◌, ◌-◌, List, ◌++◌, length, take, drop, sym, ap, ◌∙◌}
use Rattle.std.proofs.lemmas.List.{take-append-drop, take_at, take_rest, drop-drop}

-- what stands behind the first `from` items is the copied part, and then the rest
pub copied_and_rest : (all part behind : List ℕ) (from count : ℕ) → part ≡ take count (take (length all - from) (drop from all)) → length part ≡ count → drop from all ≡ take count (part ++ behind) ++ drop (from + count) all
copied_and_rest all part behind from count is_part is_count =
    let copied : part ≡ take count (drop from all) = is_part ∙ ap (take count) (take_rest all from) in
    let front : take count (part ++ behind) ≡ take count (drop from all) = take_at part behind count is_count ∙ copied in
    let rest : drop count (drop from all) ≡ drop (from + count) all = drop-drop count from all in
    sym (take-append-drop count (drop from all)) ∙ ap (λ xs. xs ++ drop count (drop from all)) (sym front) ∙ ap (λ xs. take count (part ++ behind) ++ xs) rest
