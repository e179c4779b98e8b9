-- A field of a command by its kind, and then the others: read in order, and read again.
use Rattle.std.proofs.Common.{◌≡◌, ℕ, zero, suc, ◌^◌, ◌<◌, ◌≤◌, Bool, false, List, [], ◌∷◌, ◌++◌, length, refl, sym, subst, arith}
use Rattle.std.specs.Prelude.{Some, None, ◌==◌}
use Rattle.std.specs.List.{AllByRecursion}
use Rattle.std.proofs.lemmas.Bool.Decides.{nat_tests}
use Rattle.bit_strings.specs.NumbersInBits.{field_of}
use Rattle.bit_strings.specs.Ebv.{ebv_of}
use Rattle.bit_strings.specs.Words.{bits_of_words}
use Rattle.command_grammar.specs.declared.commands.Command.{Command}
use Rattle.command_grammar.specs.declared.refusal.Reason.TheVariants as reasons
use Rattle.command_grammar.specs.Commands.{Part, IsWord}
use Rattle.command_grammar.specs.reading.Readers.{Reading, ◌>>=◌, reading_bits, reading_number, count_at, words_at, ebv_at}
use Rattle.command_grammar.proofs.reading.NumberFields.{bits_field, count_field, number_field}
use Rattle.command_grammar.proofs.reading.WordFields.{some_words, words_field}
use Rattle.command_grammar.proofs.reading.EbvFields.{pointer_field}
use Rattle.command_grammar.proofs.reading.FieldsInOrder.{part, ReadsOn, reads_field_then, Goes, goes_then}

positive : (width : ℕ) → 0 < 2 ^ width
positive zero = omega arith
positive (suc width) = omega (arith, positive width)

-- ---- a field and then the others, by its kind

pub number_then : (width : ℕ) (pre : List Part) (k : ℕ × List Bool → List Bool → Reading Command)
    → ((value : ℕ) → value < 2 ^ width → ReadsOn (pre ++ part None (field_of value width) ∷ []) (λ whole rest. k (value, rest) whole)) → ReadsOn pre (λ whole bits. reading_number width bits >>= λ x. k x whole)
number_then width pre k second =
    reads_field_then pre (number_field width None) k
    (λ value bits h. subst (λ (l : List Bool). ReadsOn (pre ++ part None l ∷ []) (λ whole rest. k (value, rest) whole)) (sym h.1) (second value h.0)) (record { value = 0; bits = field_of 0 width; spelled = (positive width, refl) })

pub pointer_then : (pre : List Part) (k : ℕ × List Bool → List Bool → Reading Command)
    → ((value : ℕ) → value < 2 ^ 28 → ReadsOn (pre ++ part (Some reasons.Ebv) (ebv_of value) ∷ []) (λ whole rest. k (value, rest) whole)) → ReadsOn pre (λ whole bits. ebv_at bits >>= λ x. k x whole)
pointer_then pre k second =
    reads_field_then pre pointer_field k
    (λ value bits h. subst (λ (l : List Bool). ReadsOn (pre ++ part (Some reasons.Ebv) l ∷ []) (λ whole rest. k (value, rest) whole)) (sym h.1) (second value h.0)) (record { value = 0; bits = ebv_of 0; spelled = (omega arith, refl) })

pub count_then : (pre : List Part) (k : ℕ × List Bool → List Bool → Reading Command)
    → ((value : ℕ) → value < 2 ^ 8 → (value == 0) ≡ false → ReadsOn (pre ++ part (Some reasons.Count) (field_of value 8) ∷ []) (λ whole rest. k (value, rest) whole)) → ReadsOn pre (λ whole bits. count_at bits >>= λ x. k x whole)
count_then pre k second =
    reads_field_then pre count_field k
    (λ value bits h. subst (λ (l : List Bool). ReadsOn (pre ++ part (Some reasons.Count) l ∷ []) (λ whole rest. k (value, rest) whole)) (sym h.0.1) (second value h.0.0 h.1)) (record { value = 1; bits = field_of 1 8; spelled = ((omega arith, refl), refl) })

pub mask_then : (width : ℕ) (pre : List Part) (k : List Bool × List Bool → List Bool → Reading Command)
    → ((value : List Bool) → length value ≡ width → ReadsOn (pre ++ part None value ∷ []) (λ whole rest. k (value, rest) whole)) → (some : List Bool) → length some ≡ width → ReadsOn pre (λ whole bits. reading_bits width bits >>= λ x. k x whole)
mask_then width pre k second some wide =
    reads_field_then pre (bits_field width None) k
    (λ value bits h. subst (λ (l : List Bool). ReadsOn (pre ++ part None l ∷ []) (λ whole rest. k (value, rest) whole)) (sym h.1) (second value h.0)) (record { value = some; bits = some; spelled = (wide, refl) })

pub words_then : (count : ℕ) (pre : List Part) (k : List ℕ × List Bool → List Bool → Reading Command)
    → ((value : List ℕ) → length value ≡ count → AllByRecursion IsWord value → ReadsOn (pre ++ part None (bits_of_words value) ∷ []) (λ whole rest. k (value, rest) whole)) → ReadsOn pre (λ whole bits. words_at count bits >>= λ x. k x whole)
words_then count pre k second =
    let w = some_words count in
    reads_field_then pre (words_field count) k
    (λ value bits h. subst (λ (l : List Bool). ReadsOn (pre ++ part None l ∷ []) (λ whole rest. k (value, rest) whole)) (sym h.2) (second value h.0 h.1)) (record { value = w.0; bits = w.1; spelled = w.2 })

-- ---- ... read again

pub goes_number : (width : ℕ) (pre more : List Part) (k : ℕ × List Bool → List Bool → Reading Command) (command : Command) (value : ℕ)
    → value < 2 ^ width → Goes (pre ++ part None (field_of value width) ∷ []) more (λ whole rest. k (value, rest) whole) command → Goes pre (part None (field_of value width) ∷ more) (λ whole bits. reading_number width bits >>= λ x. k x whole) command
goes_number width pre more k command value small goes = goes_then pre more (number_field width None) k command (record { value = value; bits = field_of value width; spelled = (small, refl) }) goes

pub goes_pointer : (pre more : List Part) (k : ℕ × List Bool → List Bool → Reading Command) (command : Command) (value : ℕ)
    → value < 2 ^ 28 → Goes (pre ++ part (Some reasons.Ebv) (ebv_of value) ∷ []) more (λ whole rest. k (value, rest) whole) command → Goes pre (part (Some reasons.Ebv) (ebv_of value) ∷ more) (λ whole bits. ebv_at bits >>= λ x. k x whole) command
goes_pointer pre more k command value small goes = goes_then pre more pointer_field k command (record { value = value; bits = ebv_of value; spelled = (small, refl) }) goes

not_none : (n : ℕ) → 1 ≤ n → (n == 0) ≡ false
not_none n e = grind (arith, nat_tests)

pub goes_count : (pre more : List Part) (k : ℕ × List Bool → List Bool → Reading Command) (command : Command) (value : ℕ)
    → 1 ≤ value → value ≤ 255 → Goes (pre ++ part (Some reasons.Count) (field_of value 8) ∷ []) more (λ whole rest. k (value, rest) whole) command → Goes pre (part (Some reasons.Count) (field_of value 8) ∷ more) (λ whole bits. count_at bits >>= λ x. k x whole) command
goes_count pre more k command value some few goes =
    goes_then pre more count_field k command (record { value = value; bits = field_of value 8; spelled = ((omega arith, refl), not_none value some) }) goes
