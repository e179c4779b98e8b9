-- A test of all words from a place on, one word at a time.
use Rattle.std.proofs.Common.{◌≡◌, ℕ, suc, ◌+◌, ◌-◌, ◌<◌, Bool, true, false, ◌&&◌, refl, arith, ◌∙◌, ap}
use Rattle.tag_memory.specs.ReadsAndWrites.{all_words}

all_words-more : (passes : ℕ → Bool) (place end : ℕ) → place < end → all_words passes place (end - place) ≡ passes place && all_words passes (place + 1) (end - (place + 1))
all_words-more passes place end inside =
    let one : end - place ≡ suc (end - (place + 1)) = omega arith in
    rw one refl

pub one_passes : (passes : ℕ → Bool) (whole : Bool) (place end : ℕ) → place < end → whole ≡ all_words passes place (end - place) → passes place ≡ true → whole ≡ all_words passes (place + 1) (end - (place + 1))
one_passes passes whole place end inside so_far passed =
    so_far ∙ all_words-more passes place end inside ∙ ap (λ (b : Bool). b && all_words passes (place + 1) (end - (place + 1))) passed

pub one_fails : (passes : ℕ → Bool) (whole : Bool) (place end : ℕ) → place < end → whole ≡ all_words passes place (end - place) → passes place ≡ false → whole ≡ false
one_fails passes whole place end inside so_far failed =
    so_far ∙ all_words-more passes place end inside ∙ ap (λ (b : Bool). b && all_words passes (place + 1) (end - (place + 1))) failed
