-- Words are read as they are spelled.
use Rattle.std.proofs.Common.{◌≡◌, ℕ, zero, suc, ◌^◌, ◌<◌, Bool, List, [], ◌∷◌, ◌++◌, length, Ok, refl, sym, ap, subst, ◌∙◌, get_or, arith}
use Rattle.std.specs.Prelude.{Option, None}
use Rattle.std.specs.List.{AllByRecursion}
use Rattle.bit_strings.specs.NumbersInBits.{field_of}
use Rattle.bit_strings.specs.Words.{bits_of_words}
use Rattle.command_grammar.specs.Commands.{IsWord}
use Rattle.command_grammar.specs.declared.refusal.Reason.{Reason}
use Rattle.command_grammar.specs.reading.Readers.{◌>>=◌, reading_number, words_at}
use Rattle.command_grammar.proofs.reading.Readers.{FieldKind, Reads, Pair, reads_then, reads_as, reads_map, reads_nothing}
use Rattle.command_grammar.proofs.reading.NumberFields.{IsNumber, reads_field}

-- so many words
abbrev pub AreWords : ℕ → List ℕ → List Bool → Type 0
AreWords count words bits = (length words ≡ count) × AllByRecursion IsWord words × (bits ≡ bits_of_words words)

-- ... behind a first one
abbrev Behind : ℕ → ℕ → List ℕ → List Bool → Type 0
Behind count first all bits = (words : List ℕ) × (all ≡ first ∷ words) × AreWords count words bits

pub some_words : (count : ℕ) → (words : List ℕ) × (bits : List Bool) × AreWords count words bits
some_words zero = ([], [], (refl, tt, refl))
some_words (suc count) = let w = some_words count in (0 ∷ w.0, field_of 0 16 ++ w.1, (omega (arith, w.2.0), (omega arith, w.2.1), ap (λ (l : List Bool). field_of 0 16 ++ l) w.2.2))

none_again : (words : List ℕ) → length words ≡ 0 → words ≡ []
none_again [] e = refl
none_again (w ∷ words) e = absurd (omega arith)

split_words : (count : ℕ) (all : List ℕ) (bits : List Bool) → AreWords (suc count) all bits → Pair (IsNumber 16) (Behind count) all bits
split_words count [] bits h = absurd (omega (arith, h.0))
split_words count (w ∷ words) bits h = record { first = w; front = field_of w 16; back = bits_of_words words; left = (h.1.0, refl); right = (words, refl, (omega (arith, h.0), h.1.1, refl)); whole = h.2 }

join_words : (count : ℕ) (all : List ℕ) (bits : List Bool) → Pair (IsNumber 16) (Behind count) all bits → AreWords (suc count) all bits
join_words count all bits p =
    let words = p.right.0 in
    let joined : AreWords (suc count) (p.first ∷ words) bits = (omega (arith, p.right.2.0), (p.left.0, p.right.2.1), p.whole ∙ ap (λ (l : List Bool). l ++ p.back) p.left.1 ∙ ap (λ (l : List Bool). field_of p.first 16 ++ l) p.right.2.2) in
    subst (λ (l : List ℕ). AreWords (suc count) l bits) (sym p.right.1) joined

pub reads_words : (count : ℕ) (name : Option Reason) → Reads (AreWords count) name (words_at count)
unfolding words_at
reads_words zero name =
    reads_as (λ other bits. (other ≡ []) × (bits ≡ [])) (AreWords 0) name (words_at 0)
    (λ words bits h. (ap (λ (l : List ℕ). length l) h.0, subst (λ (l : List ℕ). AllByRecursion IsWord l) (sym h.0) tt, h.1 ∙ ap bits_of_words (sym h.0)))
    (λ words bits h. let e : words ≡ [] = none_again words h.0 in (e, h.2 ∙ ap bits_of_words e))
    (reads_nothing [] name)
reads_words (suc count) name =
    reads_as (Pair (IsNumber 16) (Behind count)) (AreWords (suc count)) name (words_at (suc count)) (join_words count) (split_words count)
    (reads_then (IsNumber 16) (Behind count) name (reading_number 16) (λ word bits. words_at count bits >>= λ words. Ok (word ∷ words.0, words.1)) (reads_field 16 name)
    (λ word front h. reads_map (record { Spells = AreWords count; name = name; read = words_at count; reads = reads_words count name }) (Behind count word) (λ bits. words_at count bits >>= λ words. Ok (word ∷ words.0, words.1)) (λ (words : List ℕ). word ∷ words) (λ bits. refl)
    (λ words bits h. (words, refl, h)) (λ all bits h. (h.0, h.2, sym h.1)))
    (λ word front h. let w = some_words count in (word ∷ w.0, w.1, (w.0, refl, w.2))))

abbrev pub words_field : ℕ → FieldKind (List ℕ)
words_field count = record { Spells = AreWords count; name = None; read = words_at count; reads = reads_words count None }

-- numbers of 16 bits are words
pub are_words : (numbers : List ℕ) → ((k : ℕ) → get_or numbers k 0 < 2 ^ 16) → AllByRecursion IsWord numbers
are_words [] small = tt
are_words (n ∷ numbers) small = (small 0, are_words numbers (λ k. small (suc k)))
