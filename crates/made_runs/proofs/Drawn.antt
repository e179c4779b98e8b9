-- The generator's words, one after another.
use Rattle.std.proofs.Common.{◌≡◌, ℕ, zero, suc, ◌+◌, ◌*◌, ◌%◌, List, [], ◌∷◌, ◌++◌, map, refl, sym, ap, ◌∙◌, arith}
use Rattle.std.proofs.lemmas.List.{map-append}
use Rattle.rand_pcg.specs.Lcg.{Lcg, state_after, next_state}
use Rattle.rand_pcg.specs.Pcg.{multiplier_64, pcg32}
use Rattle.made_runs.specs.Made.{numbers_below, generator_after, drawn_at, draw_words, generator_of, words_of_tag}

-- so many steps, and then more, are the steps of both
more_steps : (m p increment s : ℕ) → state_after 64 multiplier_64 increment (m + p) s ≡ state_after 64 multiplier_64 increment p (state_after 64 multiplier_64 increment m s)
unfolding state_after
more_steps zero p increment s = let sum : zero + p ≡ p = omega arith in ap (λ (n : ℕ). state_after 64 multiplier_64 increment n s) sum
more_steps (suc m) p increment s =
    let sum : suc m + p ≡ suc (m + p) = omega arith in
    ap (λ (n : ℕ). state_after 64 multiplier_64 increment n s) sum ∙ more_steps m p increment (next_state 64 multiplier_64 increment s)

-- the generator after so many words, and then more, is the generator after both
pub more_words : (m p : ℕ) (generator : Lcg) → generator_after (m + p) generator ≡ generator_after p (generator_after m generator)
more_words m p generator = ap (λ (s : ℕ). record generator { state = s }) (more_steps m p generator.increment generator.state)

-- no word leaves the generator as it is
pub no_words : (generator : Lcg) → generator_after 0 generator ≡ generator
unfolding state_after
no_words generator = refl

-- the generator after one word more
pub one_more : (m : ℕ) (generator : Lcg) → (pcg32 (generator_after m generator)).1 ≡ generator_after (m + 1) generator
unfolding state_after
one_more m generator = sym (more_words m 1 generator)

-- the next word after so many
pub word_at : (m : ℕ) (generator : Lcg) → (pcg32 (generator_after m generator)).0 % 65536 ≡ drawn_at generator m
unfolding drawn_at
word_at m generator = refl

-- the numbers below 0 and below one number more
pub numbers_none : {A : Type 0} (f : ℕ → A) → map f (numbers_below 0) ≡ []
unfolding numbers_below
numbers_none f = refl

pub numbers_more : {A : Type 0} (f : ℕ → A) (n : ℕ) → map f (numbers_below (n + 1)) ≡ map f (numbers_below n) ++ f n ∷ []
unfolding numbers_below
numbers_more f n =
    let sum : n + 1 ≡ suc n = omega arith in
    ap (λ (k : ℕ). map f (numbers_below k)) sum ∙ map-append f (numbers_below n) (n ∷ [])

-- the words behind so many others are words of the same generator
pub drawn_behind : (m place : ℕ) (generator : Lcg) → drawn_at (generator_after m generator) place ≡ drawn_at generator (m + place)
unfolding drawn_at
drawn_behind m place generator = ap (λ (g : Lcg). (pcg32 g).0 % 65536) (sym (more_words m place generator))

map_same : (f g : ℕ → ℕ) → ((n : ℕ) → f n ≡ g n) → (list : List ℕ) → map f list ≡ map g list
map_same f g same [] = refl
map_same f g same (n ∷ list) = rw (same n, map_same f g same list) refl

-- the words of a tag are those of the generator behind the tags before it
pub words_of_number : (seed number : ℕ) → map (drawn_at (generator_after (words_of_tag * number) (generator_of seed))) (numbers_below words_of_tag) ≡ draw_words seed number
words_of_number seed number =
    map_same (drawn_at (generator_after (words_of_tag * number) (generator_of seed))) (λ place. drawn_at (generator_of seed) (words_of_tag * number + place))
    (λ place. drawn_behind (words_of_tag * number) place (generator_of seed)) (numbers_below words_of_tag)
