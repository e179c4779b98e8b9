-- How blocks and fronts of blocks join and part.
use Rattle.std.proofs.Common.{◌≡◌, ℕ, ◌+◌, ◌<◌, ◌↔◌, Bool, true, List, [], ◌∷◌, ◌++◌, length, take, Some, slice_get, refl, sym, ap, ◌∙◌, arith, append_assoc}
use Rattle.std.proofs.lemmas.List.{take_more, same_from_push}
use Rattle.std.proofs.lemmas.Option.{get_or_from_slice_get, slice_get-get_or}
use Rattle.line_code.specs.Table.{Context, Table}
use Rattle.line_code.specs.Stream.{blocks}
use Rattle.line_code.specs.States.{context_after}

-- the blocks of two lists of bits, one behind the other
pub blocks-append : (t : Table) (xs ys : List Bool) (c : Context) → blocks t c (xs ++ ys) ≡ blocks t c xs ++ blocks t (context_after t c xs) ys
blocks-append t [] ys c = refl
blocks-append t (x ∷ xs) ys c =
    ap (λ ls. t.block c x ++ ls) (blocks-append t xs ys (t.next c x)) ∙ sym (append_assoc (t.block c x) (blocks t (t.next c x) xs) (blocks t (context_after t (t.next c x) xs) ys))

pub context_after-append : (t : Table) (xs ys : List Bool) (c : Context) → context_after t c (xs ++ ys) ≡ context_after t (context_after t c xs) ys
context_after-append t [] ys c = refl
context_after-append t (x ∷ xs) ys c = context_after-append t xs ys (t.next c x)

pub context_after-push : (t : Table) (bits : List Bool) (bit : Bool) (c : Context) → context_after t c (bits ++ bit ∷ []) ≡ t.next (context_after t c bits) bit
context_after-push t [] bit c = refl
context_after-push t (x ∷ xs) bit c = context_after-push t xs bit (t.next c x)

-- where one list begins with a part and one more item, and also with a longer list, the part is that list's front
pub front_of : (part block more rest : List Bool) (level : Bool) → length part < length block
    → part ++ level ∷ more ≡ block ++ rest
    → (part ≡ take (length part) block) × (slice_get block (length part) ≡ Some level)
front_of [] [] more rest level l e = absurd (omega arith)
front_of [] (b ∷ block) more rest level l e = let h : b ≡ level = cc in (refl, ap Some h)
front_of (p ∷ part) [] more rest level l e = absurd (omega arith)
front_of (p ∷ part) (b ∷ block) more rest level l e =
    let h : p ≡ b = cc in
    let tails : part ++ level ∷ more ≡ block ++ rest = cc in
    let f = front_of part block more rest level (omega arith) tails in
    (ap (λ ls. p ∷ ls) f.0 ∙ ap (λ x. x ∷ take (length part) block) h, f.1)

-- a front with one more item
pub front_more : (part block : List Bool) (level : Bool) (n : ℕ) → n ≡ length part → n < length block
    → ((part ≡ take n block) × (slice_get block n ≡ Some level)) ↔ (part ++ level ∷ [] ≡ take (n + 1) block)
front_more part block level n is l =
    let more = take_more block n true l in (
      λ (f, g). ap (λ ls. ls ++ level ∷ []) f ∙ ap (λ x. take n block ++ x ∷ []) (sym (get_or_from_slice_get block n level true g)) ∙ sym more,
      λ e. let same = same_from_push part (take n block) level _ (e ∙ more) in (same.0, slice_get-get_or block n true l ∙ ap Some (sym same.1)),
    )
