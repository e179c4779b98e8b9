-- Whether each byte passes a test, found byte by byte.
use Rattle.std.proofs.Common.{◌≡◌, ℕ, ◌+◌, ◌<◌, ◌≤◌, Bool, true, false, ◌&&◌, ◌↔◌, List, [], ◌∷◌, length, take, get_or, refl, ap, ◌∙◌, sym}
use Rattle.std.specs.Prelude.{IsTrue}
use Rattle.std.specs.List.{AllPass, list_all}
use Rattle.std.proofs.lemmas.List.{take_all, take_more}
use Rattle.std.proofs.lemmas.List.Folds.{list_all-append}
use Rattle.std.proofs.lemmas.List.Sums.{AllPass-from_list_all, list_all-from_AllPass}

and_last : (front last : Bool) → (front && last) ≡ (front && (last && true))
and_last false last = refl
and_last true false = refl
and_last true true = refl

-- one byte more
pub list_all-more : (test : ℕ → Bool) (bytes : List ℕ) (i : ℕ) (front last : Bool) → i < length bytes → front ≡ list_all test (take i bytes)
    → last ≡ test (get_or bytes i 0) → (front && last) ≡ list_all test (take (i + 1) bytes)
list_all-more test bytes i front last within so_far at =
    and_last front last
    ∙ rw (so_far, at) (sym (list_all-append test (take i bytes) (get_or bytes i 0 ∷ [])))
    ∙ ap (list_all test) (sym (take_more bytes i 0 within))

-- all of them
pub list_all-whole : (test : ℕ → Bool) (bytes : List ℕ) (i : ℕ) (all : Bool) → length bytes ≤ i → all ≡ list_all test (take i bytes)
    → (IsTrue all ↔ AllPass test bytes)
list_all-whole test bytes i all behind so_far =
    let is : all ≡ list_all test bytes = so_far ∙ ap (list_all test) (take_all i bytes behind) in (
      λ yes. AllPass-from_list_all test bytes (sym is ∙ yes),
      λ pass. is ∙ list_all-from_AllPass test bytes pass,
    )

pub ruleset each_byte = (list_all-more, list_all-whole)
