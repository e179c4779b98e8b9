-- A field of which some bits were read is read on as the whole field is.
use Rattle.std.proofs.Common.{◌≡◌, ℕ, zero, suc, ◌+◌, ◌<◌, ◌≤◌, Bool, true, false, cond, ltb, List, [], ◌∷◌, ◌++◌, length, take, drop, Ok, Err, refl, sym, ap, ◌∙◌, append_assoc, append-nil, length-append, inl, inr, arith}
use Rattle.std.proofs.lemmas.Bool.{cases_lt, le-ltb, lt-ltb}
use Rattle.std.proofs.lemmas.List.{take_at, drop_at}
use Rattle.bit_strings.specs.NumbersInBits.{value_of}
use Rattle.command_grammar.specs.declared.refusal.Reason.{Reason}
use Rattle.command_grammar.specs.reading.Readers.{Short, Reading, ◌>>=◌, Choice, pick, none, fork, reading_bits, reading_number, choice_at, words_at, next_at}
use Rattle.command_grammar.specs.reading.FieldStages.{mask_from}

-- ---- choices

abbrev pub is_fork : {A : Type 0} → Choice A → Bool
is_fork (pick a) = false
is_fork none = false
is_fork (fork zeros ones) = true

fork-next : {A : Type 0} (zeros ones : Choice A) (reason : Reason) (bits : List Bool) → choice_at (fork zeros ones) reason bits ≡ next_at (fork zeros ones) reason bits
fork-next zeros ones reason [] = refl
fork-next zeros ones reason (true ∷ bits) = refl
fork-next zeros ones reason (false ∷ bits) = refl

pub fork-at : {A : Type 0} (t : Choice A) (reason : Reason) (bits : List Bool) → is_fork t ≡ true → choice_at t reason bits ≡ next_at t reason bits
fork-at (pick a) reason bits e = absurd cc
fork-at none reason bits e = absurd cc
fork-at (fork zeros ones) reason bits e = fork-next zeros ones reason bits

-- ---- bits

enough : {A : Type 0} (n width : ℕ) (x y : Reading A) → width ≤ n → cond (ltb n width) x y ≡ y
enough n width x y long = rw (le-ltb n width long) refl

too_few : {A : Type 0} (n width : ℕ) (x y : Reading A) → n < width → cond (ltb n width) x y ≡ x
too_few n width x y short = rw (lt-ltb n width short) refl

bits-cons : (width : ℕ) (bit : Bool) (bits : List Bool) → reading_bits (suc width) (bit ∷ bits) ≡ (reading_bits width bits >>= λ x. Ok (bit ∷ x.0, x.1))
bits-cons width bit bits =
    elim (cases_lt (length bits) width) [
      | inl short ↦
          too_few (length (bit ∷ bits)) (suc width) (Err Short) (Ok (take (suc width) (bit ∷ bits), drop (suc width) (bit ∷ bits))) (omega arith)
          ∙ ap (λ (r : Reading (List Bool)). r >>= λ x. Ok (bit ∷ x.0, x.1)) (sym (too_few (length bits) width (Err Short) (Ok (take width bits, drop width bits)) short))
      | inr long ↦
          enough (length (bit ∷ bits)) (suc width) (Err Short) (Ok (take (suc width) (bit ∷ bits), drop (suc width) (bit ∷ bits))) (omega arith)
          ∙ ap (λ (r : Reading (List Bool)). r >>= λ x. Ok (bit ∷ x.0, x.1)) (sym (enough (length bits) width (Err Short) (Ok (take width bits, drop width bits)) long))
    ]

abbrev valued : Reading (List Bool) → Reading ℕ
valued r = r >>= λ x. Ok (value_of x.0, x.1)

no_bits : (bits : List Bool) → reading_bits 0 bits ≡ Ok ([], bits)
no_bits bits = enough (length bits) 0 (Err Short) (Ok (take 0 bits, drop 0 bits)) (omega arith)

bits-none : (width : ℕ) → reading_bits (suc width) [] ≡ Err Short
bits-none width = too_few 0 (suc width) (Err Short) (Ok (take (suc width) [], drop (suc width) [])) (omega arith)

-- ---- numbers

pub number-short : (width : ℕ) (bits : List Bool) → length bits < width → reading_number width bits ≡ Err Short
number-short width bits short = too_few (length bits) width (Err Short) (Ok (value_of (take width bits), drop width bits)) short

-- the bits of a number, and what comes behind them
pub number-whole : (width : ℕ) (bits rest : List Bool) → length bits ≡ width → reading_number width (bits ++ rest) ≡ Ok (value_of bits, rest)
number-whole width bits rest wide =
    enough (length (bits ++ rest)) width (Err Short) (Ok (value_of (take width (bits ++ rest)), drop width (bits ++ rest))) (omega (arith, wide, length-append bits rest))
    ∙ rw (take_at bits rest width wide, drop_at bits rest width wide) refl

-- ---- masks

abbrev masked : List Bool → Reading (List Bool) → Reading (List Bool)
masked mask r = r >>= λ x. Ok (mask ++ x.0, x.1)

masked-cons : (mask : List Bool) (bit : Bool) (r : Reading (List Bool)) → masked (mask ++ bit ∷ []) r ≡ masked mask (r >>= λ x. Ok (bit ∷ x.0, x.1))
masked-cons mask bit (Ok x) = ap (λ (l : List Bool). Ok (l, x.1)) (append_assoc mask (bit ∷ []) x.0)
masked-cons mask bit (Err stop) = refl

mask-on : (behind : ℕ) (mask bits : List Bool) → mask_from behind mask bits ≡ masked mask (reading_bits (suc behind) bits)
mask-on zero mask [] = refl
mask-on zero mask (bit ∷ bits) =
    ap (λ (l : List Bool). Ok (l, bits)) (sym (append-nil (mask ++ bit ∷ []))) ∙ ap (λ (r : Reading (List Bool)). masked (mask ++ bit ∷ []) r) (sym (no_bits bits))
    ∙ masked-cons mask bit (reading_bits 0 bits) ∙ ap (λ (r : Reading (List Bool)). masked mask r) (sym (bits-cons 0 bit bits))
mask-on (suc behind) mask [] = ap (λ (r : Reading (List Bool)). masked mask r) (sym (bits-none (suc behind)))
mask-on (suc behind) mask (bit ∷ bits) =
    mask-on behind (mask ++ bit ∷ []) bits ∙ masked-cons mask bit (reading_bits (suc behind) bits) ∙ ap (λ (r : Reading (List Bool)). masked mask r) (sym (bits-cons (suc behind) bit bits))

-- a mask of which no bit was read
pub mask-start : (width behind : ℕ) (bits : List Bool) → behind + 1 ≡ width → mask_from behind [] bits ≡ reading_bits width bits
mask-start width behind bits whole =
    let wide : suc behind ≡ width = omega arith in
    mask-on behind [] bits ∙ from_none (reading_bits (suc behind) bits) ∙ ap (λ n. reading_bits n bits) wide
  where
    from_none : (r : Reading (List Bool)) → masked [] r ≡ r
    from_none (Ok x) = refl
    from_none (Err stop) = refl

pub mask-short : (behind : ℕ) (mask : List Bool) → mask_from behind mask [] ≡ Err Short
mask-short zero mask = refl
mask-short (suc behind) mask = refl

-- ---- words

pub words-more : (count left : ℕ) (bits : List Bool) → left + 1 ≡ count → words_at count bits ≡ (reading_number 16 bits >>= λ word. (words_at left word.1 >>= λ words. Ok (word.0 ∷ words.0, words.1)))
unfolding words_at
words-more zero left bits same = absurd (omega arith)
words-more (suc count) left bits same =
    let e : count ≡ left = omega arith in
    ap (λ n. words_at (suc n) bits) e

pub words-none : (count : ℕ) (bits : List Bool) → count ≡ 0 → words_at count bits ≡ Ok ([], bits)
unfolding words_at
words-none count bits nothing = ap (λ n. words_at n bits) nothing
