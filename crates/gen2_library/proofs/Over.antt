-- What the clauses of the program say over memory, where the input and what was written are lists.
use Rattle.std.proofs.Common.{◌≡◌, ◌⊎◌, ℕ, ◌+◌, ◌≤◌, ◌<◌, Bool, List, ◌++◌, length, Some, true, false, [], refl, sym, ◌∙◌, ap, subst, arith, inl, inr, length-append, if◌then◌else◌}
use Rattle.std.proofs.lemmas.List.{append-nil}
use Rattle.air_io.specs.Flow.{TakesBytes, AtEnd, FaultsRose}
use Rattle.gen2_library.specs.LentRoom.{input_of, IsFrontOfText}
use Rattle.top_call.specs.Job.{Job, Defines}
use Rattle.top_call.specs.StatusMeanings.{input_limit, TakesInput, ReadsTooMuch, SpeaksOfNoInput, WritesWhole, WritesFront}
use Rattle.top_call.specs.declared.status.Status.{Status}
use Rattle.top_call.specs.declared.status.Status.TheVariants.{Done, BadWords, BadInput, ReadFault, WriteFault, TooLong, OutOfMemory}

-- what was read to its end is all of the input
all-read : (told left bytes : List ℕ) → TakesBytes (Some told) (Some left) bytes → AtEnd (Some left) → bytes ≡ told
all-read told left bytes reads end = let is : told ≡ bytes ++ left = cc in sym (is ∙ ap (λ rest. bytes ++ rest) end ∙ append-nil bytes)

-- what a word took of its input is all of it, or nothing where it reads none
taken-is : (reads : Bool) (told left bytes : List ℕ) → TakesInput reads (Some told) (Some left) bytes → bytes ≡ (if reads then told else [])
taken-is true told left bytes taken = all-read told left bytes taken.reads taken.end
taken-is false told left bytes taken = taken.none

-- a text that was written whole is what was written
whole-of : (job : Job) (T : List ℕ → List ℕ → Type 0) (told left written : List ℕ) → WritesWhole job T (Some told) (Some left) (Some []) (Some written)
    → T (input_of job told) written
whole-of job T told left written writes =
    let bytes : writes.bytes ≡ input_of job told = taken-is job.input told left writes.bytes writes.taken in
    let text : writes.adds.text ≡ written = let added = writes.adds.added in cc in
    subst (λ b. T b written) bytes (subst (T writes.bytes) text writes.adds.named)

-- before the call the source tells the input, and nothing is written
pub record AtCall (input told before : List ℕ) : Type 0 where
  pub told_is : told ≡ input
  pub unwritten : before ≡ []

pub whole : (job : Job) (T : List ℕ → List ℕ → Type 0) (input told left before written : List ℕ) → AtCall input told before
    → WritesWhole job T (Some told) (Some left) (Some before) (Some written) → T (input_of job input) written
whole job T input told left before written at writes =
    subst (λ i. T (input_of job i) written) at.told_is
    (whole-of job T told left written (subst (λ b. WritesWhole job T (Some told) (Some left) (Some b) (Some written)) at.unwritten writes))

-- and of one that was cut off it is a front
front-of : (job : Job) (told left written : List ℕ) → WritesFront job (Some told) (Some left) (Some []) (Some written)
    → IsFrontOfText (Defines job (input_of job told)) written
front-of job told left written writes =
    let bytes : writes.bytes ≡ input_of job told = taken-is job.input told left writes.bytes writes.taken in
    let text : writes.adds.front ≡ written = let added = writes.adds.added in cc in
    record {
      rest = writes.adds.rest;
      named = subst (λ b. Defines job b (written ++ writes.adds.rest)) bytes (subst (λ f. Defines job writes.bytes (f ++ writes.adds.rest)) text writes.adds.named);
    }

pub front : (job : Job) (input told left before written : List ℕ) → AtCall input told before
    → WritesFront job (Some told) (Some left) (Some before) (Some written) → IsFrontOfText (Defines job (input_of job input)) written
front job input told left before written at writes =
    subst (λ i. IsFrontOfText (Defines job (input_of job i)) written) at.told_is
    (front-of job told left written (subst (λ b. WritesFront job (Some told) (Some left) (Some b) (Some written)) at.unwritten writes))

-- an input of which too much was read is too long
pub too-long : (input told left : List ℕ) → told ≡ input → ReadsTooMuch (Some told) (Some left) → input_limit < length input
too-long input told left same many =
    let is : told ≡ many.bytes ++ left = let reads = many.reads in cc in
    omega (arith, many.over, ap length same, ap length is, length-append many.bytes left)

-- what is read of an input that is too long is too long as well, where something is read
pub over-limit : (reads : Bool) (input : List ℕ) → reads ≡ true → input_limit < length input → length (if reads then input else []) ≤ input_limit → ⊥
over-limit true input is many few = omega (arith, few, many)
over-limit false input is many few = cc

-- so where it is within the limit, it was not too long, since nothing is too long where nothing is read
pub fits : (reads : Bool) (input : List ℕ) (status : Status) → length (if reads then input else []) ≤ input_limit → (reads ≡ false → SpeaksOfNoInput status)
    → (status ≡ TooLong → input_limit < length input) → status ≡ TooLong → ⊥
fits true input status few silent long is = over-limit true input refl (long is) few
fits false input status few silent long is = subst SpeaksOfNoInput is (silent refl)

-- a count that stands at 0 did not rise
pub none-rose : FaultsRose 0 0 → ⊥
none-rose rose = let last = rose.larger_or_last refl in absurd (omega (arith, last))

-- where four of the statuses don't come, the others do
pub completes : (status : Status) → (status ≡ BadWords → ⊥) → (status ≡ ReadFault → ⊥) → (status ≡ TooLong → ⊥) → (status ≡ BadInput → ⊥)
    → (status ≡ Done) ⊎ (status ≡ WriteFault) ⊎ (status ≡ OutOfMemory)
completes Done words read long bad = inl refl
completes WriteFault words read long bad = inr (inl refl)
completes OutOfMemory words read long bad = inr (inr refl)
completes BadWords words read long bad = absurd (words refl)
completes ReadFault words read long bad = absurd (read refl)
completes TooLong words read long bad = absurd (long refl)
completes BadInput words read long bad = absurd (bad refl)

-- an input that is refused is not done, so that the others come
pub refuses : (status : Status) → (status ≡ BadWords → ⊥) → (status ≡ ReadFault → ⊥) → (status ≡ TooLong → ⊥) → (status ≡ Done → ⊥)
    → (status ≡ BadInput) ⊎ (status ≡ WriteFault) ⊎ (status ≡ OutOfMemory)
refuses BadInput words read long done = inl refl
refuses WriteFault words read long done = inr (inl refl)
refuses OutOfMemory words read long done = inr (inr refl)
refuses BadWords words read long done = absurd (words refl)
refuses ReadFault words read long done = absurd (read refl)
refuses TooLong words read long done = absurd (long refl)
refuses Done words read long done = absurd (done refl)

-- where a text was written whole, it is the one that is defined
pub wrote-whole : (written text : List ℕ) (status : Status) → (status ≡ BadWords → ⊥) → (status ≡ ReadFault → ⊥) → (status ≡ TooLong → ⊥) → (status ≡ Done → written ≡ text)
    → (status ≡ BadInput → written ≡ text) → (written ≡ text) ⊎ (status ≡ WriteFault) ⊎ (status ≡ OutOfMemory)
wrote-whole written text Done words read long done bad = inl (done refl)
wrote-whole written text BadInput words read long done bad = inl (bad refl)
wrote-whole written text WriteFault words read long done bad = inr (inl refl)
wrote-whole written text OutOfMemory words read long done bad = inr (inr refl)
wrote-whole written text BadWords words read long done bad = absurd (words refl)
wrote-whole written text ReadFault words read long done bad = absurd (read refl)
wrote-whole written text TooLong words read long done bad = absurd (long refl)
