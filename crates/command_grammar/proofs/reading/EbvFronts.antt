-- A field of which some bits were read, and one more: what a reader makes of them is known where it is known which values begin
-- so. And the same of extensible bit vectors.
use Rattle.std.proofs.Common.{◌≡◌, ◌≢◌, ℕ, ◌+◌, ◌<◌, ◌≤◌, Bool, List, [], ◌∷◌, ◌++◌, length, Ok, Err, refl, sym, ap, subst, ◌∙◌, append_assoc, append-nil, length-append, arith, inl, inr}
use Rattle.std.specs.Prelude.{Option, Some, ◌⊎◌}
use Rattle.std.proofs.lemmas.Bool.{cases_lt}
use Rattle.std.proofs.lemmas.List.{nil_from_length}
use Rattle.bit_strings.specs.Ebv.{IsEbv, IsCutEbv}
use Rattle.bit_strings.specs.laws.Ebv.{IsEbv-ebv_of, same-ebv, below-ebv, no_ebv-nothing, no_ebv-long}
use Rattle.bit_strings.specs.EbvAnswers.{IsEbvStep}
use Rattle.bit_strings.specs.declared.ebv_front.EbvStep.{EbvStep}
use Rattle.bit_strings.specs.declared.ebv_front.EbvStep.TheVariants as steps
use Rattle.command_grammar.specs.declared.refusal.Reason.{Reason}
use Rattle.command_grammar.specs.declared.refusal.Reason.TheVariants as reasons
use Rattle.command_grammar.specs.reading.Readers.{Stop, Short, Bad, Reading, block_at, block_within_at, blocks_at, ebv_at}
use Rattle.command_grammar.specs.reading.FieldStages.{ebv_from}
use Rattle.command_grammar.proofs.reading.Readers.{Reads}
use Rattle.command_grammar.proofs.reading.EbvFields.{IsPointer, reads_ebv}

-- ---- any field

-- a list that begins as another, and is no longer, is a front of it
front_of : (xs ys us vs : List Bool) → xs ++ ys ≡ us ++ vs → length xs ≤ length us → (more : List Bool) × (us ≡ xs ++ more)
front_of [] ys us vs same within = (us, refl)
front_of (x ∷ xs) ys [] vs same within = absurd (omega arith)
front_of (x ∷ xs) ys (u ∷ us) vs same within =
    let head : x ≡ u = cc in
    let tail : xs ++ ys ≡ us ++ vs = cc in
    let f = front_of xs ys us vs tail (omega arith) in
    (f.0, ap (λ (l : List Bool). u ∷ l) f.1 ∙ ap (λ (b : Bool). b ∷ (xs ++ f.0)) (sym head))

module _ {A : Type 0} (R : A → List Bool → Type 0) (name : Reason) (read : List Bool → Reading A) (reads : Reads R (Some name) read) where
  -- the bits, with some more, are those of a value
  record Begins (bits : List Bool) : Type 0 where
    value : A
    more : List Bool
    some : more ≢ []
    spelled : R value (bits ++ more)

  whole : (bits : List Bool) (b : Begins bits) → read (bits ++ b.more) ≡ Ok (b.value, [])
  whole bits b = ap read (sym (append-nil (bits ++ b.more))) ∙ reads.again b.value (bits ++ b.more) [] b.spelled

  one_rest : (x y : A × List Bool) → ◌≡◌ {A = Reading A} (Ok x) (Ok y) → x.1 ≡ y.1
  one_rest x y same = ap (λ (p : A × List Bool). p.1) pair
    where
      pair : x ≡ y
      pair = cc

  clash : {x : A × List Bool} {stop : Stop} → ◌≡◌ {A = Reading A} (Ok x) (Err stop) → ⊥
  clash same = cc

  -- no value's bits are a front of those that begin one
  no_value : (bits front rest : List Bool) (value : A) → Begins bits → R value front → bits ≡ front ++ rest → ⊥
  no_value bits front rest value b here split =
      let same : read (bits ++ b.more) ≡ Ok (value, rest ++ b.more) = ap (λ (l : List Bool). read (l ++ b.more)) split ∙ ap read (append_assoc front rest b.more) ∙ reads.again value front (rest ++ b.more) here in
      let none : rest ++ b.more ≡ [] = one_rest (value, rest ++ b.more) (b.value, []) (sym same ∙ whole bits b) in
      b.some (nil_from_length b.more (omega (arith, ap length none, length-append rest b.more)))

  -- ... nor is a refused bit in them
  no_refusal : (bits front back : List Bool) (bit : Bool) (reason : Reason) → Begins bits → ((other : List Bool) → read (front ++ bit ∷ other) ≡ Err (Bad (length other + 1) reason)) → bits ≡ front ++ bit ∷ back → ⊥
  no_refusal bits front back bit reason b stays split =
      let turned : bits ++ b.more ≡ front ++ bit ∷ (back ++ b.more) = ap (λ (l : List Bool). l ++ b.more) split ∙ append_assoc front (bit ∷ back) b.more in
      clash (sym (whole bits b) ∙ ap read turned ∙ stays (back ++ b.more))

  pub read_short : (bits : List Bool) (value : A) (more : List Bool) → more ≢ [] → R value (bits ++ more) → read bits ≡ Err Short
  read_short bits value more some spelled = by (read bits) refl
    where
      b : Begins bits
      b = record { value = value; more = more; some = some; spelled = spelled }

      by : (r : Reading A) → read bits ≡ r → read bits ≡ Err Short
      by (Ok x) e = let f = reads.found bits x.0 x.1 e in absurd (no_value bits f.0 x.1 x.0 b f.1 f.2)
      by (Err Short) e = e
      by (Err (Bad left reason)) e = let w = (reads.bad bits left reason e).1 in absurd (no_refusal bits w.front w.back w.bit reason b w.stays w.split)

  pub read_refused : (bits rest : List Bool) (bit : Bool) (value : A) (more : List Bool) → more ≢ [] → R value (bits ++ more) → ((other : A) (behind : List Bool) → R other ((bits ++ bit ∷ []) ++ behind) → ⊥) → read (bits ++ bit ∷ rest) ≡ Err (Bad (length rest + 1) name)
  read_refused bits rest bit value more some spelled none = by (read (bits ++ bit ∷ rest)) refl
    where
      b : Begins bits
      b = record { value = value; more = more; some = some; spelled = spelled }

      joined : (bits ++ bit ∷ []) ++ rest ≡ bits ++ bit ∷ rest
      joined = append_assoc bits (bit ∷ []) rest

      -- no value begins with the bit
      passes : (other : A) (front behind back : List Bool) → R other (front ++ behind) → bits ++ bit ∷ rest ≡ front ++ back → length bits < length front → ⊥
      passes other front behind back here split long =
          let f = front_of (bits ++ bit ∷ []) rest front back (joined ∙ split) (omega (arith, length-append bits (bit ∷ []))) in
          none other (f.0 ++ behind) (subst (R other) (ap (λ (l : List Bool). l ++ behind) f.1 ∙ append_assoc (bits ++ bit ∷ []) f.0 behind) here)

      same_name : (reason : Reason) → ◌≡◌ {A = Option Reason} (Some name) (Some reason) → reason ≡ name
      same_name reason e = cc

      by : (r : Reading A) → read (bits ++ bit ∷ rest) ≡ r → read (bits ++ bit ∷ rest) ≡ Err (Bad (length rest + 1) name)
      by (Ok x) e =
          let f = reads.found (bits ++ bit ∷ rest) x.0 x.1 e in
          elim (cases_lt (length bits) (length f.0)) [
            | inl long ↦ absurd (passes x.0 f.0 [] x.1 (subst (R x.0) (sym (append-nil f.0)) f.1) f.2 long)
            | inr within ↦ let g = front_of f.0 x.1 bits (bit ∷ rest) (sym f.2) within in absurd (no_value bits f.0 g.0 x.0 b f.1 g.1)
          ]
      by (Err Short) e =
          let f = reads.short (bits ++ bit ∷ rest) e in
          absurd (none f.0 (rest ++ f.1) (subst (R f.0) (ap (λ (l : List Bool). l ++ f.1) (sym joined) ∙ append_assoc (bits ++ bit ∷ []) rest f.1) f.2))
      by (Err (Bad left reason)) e =
          let f = reads.bad (bits ++ bit ∷ rest) left reason e in
          let w = f.1 in
          elim (cases_lt (length bits) (length w.front)) [
            | inl long ↦ absurd (passes w.value w.front (w.next ∷ w.more) (w.bit ∷ w.back) w.spelled w.split long)
            | inr within ↦ elim (cases_lt (length w.front) (length bits)) [
              | inl shorter ↦
                  let turned : (w.front ++ w.bit ∷ []) ++ w.back ≡ bits ++ bit ∷ rest = append_assoc w.front (w.bit ∷ []) w.back ∙ sym w.split in
                  let g = front_of (w.front ++ w.bit ∷ []) w.back bits (bit ∷ rest) turned (omega (arith, length-append w.front (w.bit ∷ []))) in
                  absurd (no_refusal bits w.front g.0 w.bit reason b w.stays (g.1 ∙ append_assoc w.front (w.bit ∷ []) g.0))
              | inr same ↦
                  let place : left ≡ length rest + 1 = omega (arith, w.left_is, ap length w.split, length-append bits (bit ∷ rest), length-append w.front (w.bit ∷ w.back)) in
                  e ∙ ap (λ n. Err (Bad n reason)) place ∙ ap (λ (r : Reason). Err (Bad (length rest + 1) r)) (same_name reason f.0)
            ]
          ]

-- ---- extensible bit vectors

pointer_is : (number : ℕ) (bits : List Bool) → IsEbv number bits → IsPointer number bits
pointer_is number bits ebv = (below-ebv number bits ebv, same-ebv number bits ebv)

ebv_of-pointer : (number : ℕ) (bits : List Bool) → IsPointer number bits → IsEbv number bits
ebv_of-pointer number bits place = subst (IsEbv number) (sym place.1) (IsEbv-ebv_of number place.0)

cut_short : (bits : List Bool) → IsCutEbv bits → ebv_at bits ≡ Err Short
cut_short bits cut = read_short IsPointer reasons.Ebv ebv_at reads_ebv bits cut.number cut.more cut.some_more (pointer_is cut.number (bits ++ cut.more) cut.whole)

pub ebv_none : (bits : List Bool) → ebv_from [] bits ≡ ebv_at bits
unfolding ebv_at blocks_at block_within_at block_at
ebv_none [] = refl
ebv_none (bit ∷ bits) = refl

-- some more bits, of which none is the last
pub ebv_more : (front run rest : List Bool) → IsCutEbv (front ++ run) → ebv_from front (run ++ rest) ≡ ebv_from (front ++ run) rest
ebv_more front [] rest cut = ap (λ (l : List Bool). ebv_from l rest) (sym (append-nil front))
ebv_more front (bit ∷ run) [] cut = ap (λ (l : List Bool). ebv_at (front ++ bit ∷ l)) (append-nil run) ∙ cut_short (front ++ bit ∷ run) cut
ebv_more front (bit ∷ run) (next ∷ rest) cut = ap ebv_at (sym (append_assoc front (bit ∷ run) (next ∷ rest)))

pub ebv_done : (front rest : List Bool) (bit : Bool) (number : ℕ) → IsEbv number (front ++ bit ∷ []) → ebv_from front (bit ∷ rest) ≡ Ok (number, rest)
ebv_done front rest bit number ebv =
    ap ebv_at (sym (append_assoc front (bit ∷ []) rest)) ∙ reads_ebv.again number (front ++ bit ∷ []) rest (pointer_is number (front ++ bit ∷ []) ebv)

pub ebv_refused : (front rest : List Bool) (bit : Bool) → IsCutEbv front → ((number : ℕ) (more : List Bool) → IsEbv number ((front ++ bit ∷ []) ++ more) → ⊥) → ebv_from front (bit ∷ rest) ≡ Err (Bad (length rest + 1) reasons.Ebv)
ebv_refused front rest bit cut none =
    read_refused IsPointer reasons.Ebv ebv_at reads_ebv front rest bit cut.number cut.more cut.some_more (pointer_is cut.number (front ++ cut.more) cut.whole)
    (λ number more place. none number more (ebv_of-pointer number ((front ++ bit ∷ []) ++ more) place))

-- a step that refuses: no vector begins so
pub no_ebv_behind : (step : EbvStep) (bits : List Bool) → (step ≡ steps.NotShortest) ⊎ (step ≡ steps.TooLong) → IsEbvStep step bits → (number : ℕ) (more : List Bool) → IsEbv number (bits ++ more) → ⊥
no_ebv_behind step bits (inl same) holds number more ebv = no_ebv-nothing number bits more ebv (subst (λ (s : EbvStep). IsEbvStep s bits) same holds)
no_ebv_behind step bits (inr same) holds number more ebv = no_ebv-long number bits more ebv (subst (λ (s : EbvStep). IsEbvStep s bits) same holds)
