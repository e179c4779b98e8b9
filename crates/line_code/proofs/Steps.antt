-- What the decoder's loops keep from one level to the next.
use Rattle.std.proofs.Common.{◌≡◌, ℕ, ◌+◌, ◌<◌, Bool, false, List, [], ◌∷◌, ◌++◌, length, take, drop, sym, ap, ◌∙◌, get_or}
use Rattle.std.proofs.lemmas.List.{take_more}
use Rattle.std.proofs.Math.Seq.{take-add}

-- one more level of the list
pub one_more : (levels : List Bool) (n : ℕ) → n < length levels → take n levels ++ get_or levels n false ∷ [] ≡ take (n + 1) levels
one_more levels n within = sym (take_more levels n false within)

-- one more block of the list
pub block_more : (levels block : List Bool) (at chips : ℕ) → take chips (drop at levels) ≡ block → take at levels ++ block ≡ take (at + chips) levels
block_more levels block at chips is = ap (λ ls. take at levels ++ ls) (sym is) ∙ sym (take-add at chips levels)
