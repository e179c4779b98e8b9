-- What is in a room that a text was copied to, and what the status of a call says of the text.
use Rattle.std.proofs.Common.{◌≡◌, ◌≢◌, ◌⊎◌, ℕ, ◌+◌, ◌≤◌, ◌<◌, List, ◌++◌, length, min, take, drop, [], if◌then◌else◌, ◌==◌, refl, sym, ◌∙◌, ap, subst, arith, inl, inr, length-append}
use Rattle.std.proofs.Math.Nat.{min-eq_left, min-eq_right, min-le_left, le_of_lt}
use Rattle.std.proofs.Math.Seq.{take-length, drop-length, take-append_seam, drop-append_seam}
use Rattle.std.proofs.lemmas.Bool.{cases_lt}
use Rattle.std.proofs.lemmas.List.{append-nil, append_assoc, take-append-drop, length-take-le, length-drop}
use Rattle.gen2_library.specs.LentRoom.{IsFrontOfText, Gives, GivesFront, Overflows}
use Rattle.top_call.specs.Job.{Job, Defines}
use Rattle.top_call.specs.StatusNumber.{status_number}
use Rattle.top_call.specs.declared.status.Status.{Status}
use Rattle.top_call.specs.declared.status.Status.TheVariants.{Done, BadWords, BadInput, ReadFault, WriteFault, TooLong, OutOfMemory}

-- A call: the bytes that the program wrote and its status, the room before and after, how many bytes were copied, and the status behind that.
pub record Call : Type 0 where
  pub written : List ℕ
  pub status : Status
  pub old : List ℕ
  pub new : List ℕ
  pub count : ℕ
  pub result : Status

-- The bytes were copied to the front of the room: as many as it has room for. Where there is none for the last of them, the status is that there
-- was no room; where a write failed all the same, there was no memory.
pub record Leaves (a : Call) : Type 0 where
  pub count_is : a.count ≡ min (length a.written) (length a.old)
  pub bytes : a.new ≡ take a.count a.written ++ drop a.count a.old
  pub longer : length a.old < length a.written → a.result ≡ WriteFault
  pub no_memory : length a.written ≤ length a.old → a.status ≡ WriteFault → a.result ≡ OutOfMemory
  pub same : length a.written ≤ length a.old → a.status ≢ WriteFault → a.result ≡ a.status

-- where there is room for all of them, all of them are there
whole-count : (a : Call) → Leaves a → length a.written ≤ length a.old → a.count ≡ length a.written
whole-count a leaves few = leaves.count_is ∙ min-eq_left few

whole-there : (a : Call) → Leaves a → length a.written ≤ length a.old → take a.count a.new ≡ a.written
whole-there a leaves few =
    let n : a.count ≡ length a.written = whole-count a leaves few in
    let made : a.new ≡ a.written ++ drop a.count a.old = leaves.bytes ∙ ap (λ w. w ++ drop a.count a.old) (ap (λ k. take k a.written) n ∙ take-length a.written) in
    ap (λ k. take k a.new) n ∙ ap (λ l. take (length a.written) l) made ∙ take-append_seam a.written (drop a.count a.old)

gives : (T : List ℕ → Type 0) (a : Call) → Leaves a → length a.written ≤ length a.old → T a.written → Gives T a.new a.count
gives T a leaves few named = record {
  text = a.written;
  named = named;
  counted = whole-count a leaves few;
  is = whole-there a leaves few;
}

gives-front : (T : List ℕ → Type 0) (a : Call) → Leaves a → length a.written ≤ length a.old → IsFrontOfText T a.written → GivesFront T a.new a.count
gives-front T a leaves few front = record {
  front = a.written;
  rest = front.rest;
  named = front.named;
  counted = whole-count a leaves few;
  is = whole-there a leaves few;
}

-- where there is none for the last of them, the room is full of their front
overflows : (T : List ℕ → Type 0) (a : Call) → Leaves a → length a.old < length a.written → IsFrontOfText T a.written → Overflows T a.new a.count
overflows T a leaves many front =
    let few : length a.old ≤ length a.written = le_of_lt many in
    let n : a.count ≡ length a.old = leaves.count_is ∙ min-eq_right few in
    let made : a.new ≡ take (length a.old) a.written =
    leaves.bytes ∙ ap (λ k. take k a.written ++ drop k a.old) n ∙ ap (λ r. take (length a.old) a.written ++ r) (drop-length a.old)
    ∙ append-nil (take (length a.old) a.written) in
    let all : a.new ++ (drop (length a.old) a.written ++ front.rest) ≡ a.written ++ front.rest =
    ap (λ w. w ++ (drop (length a.old) a.written ++ front.rest)) made
    ∙ sym (append_assoc (take (length a.old) a.written) (drop (length a.old) a.written) front.rest)
    ∙ ap (λ w. w ++ front.rest) (take-append-drop (length a.old) a.written) in
    record {
      rest = drop (length a.old) a.written ++ front.rest;
      named = subst T (sym all) front.named;
      counted = n ∙ sym (ap length made ∙ length-take-le (length a.old) a.written few);
      longer = omega (arith, many, length-append (drop (length a.old) a.written) front.rest, length-drop (length a.old) a.written);
    }

-- a failed write, or another status
fault-or-other : (status : Status) → (status ≡ WriteFault) ⊎ (status ≢ WriteFault)
fault-or-other WriteFault = inl refl
fault-or-other status = inr (λ is. cc)

-- each status but 5 comes where there is room for all bytes, and 5 where there is not
within : (a : Call) → Leaves a → a.result ≢ WriteFault → length a.written ≤ length a.old
within a leaves other = elim (cases_lt (length a.old) (length a.written)) [
  | inl many ↦ absurd (other (leaves.longer many))
  | inr few ↦ few
]

over : (a : Call) → Leaves a → a.result ≡ WriteFault → length a.old < length a.written
over a leaves is = elim (cases_lt (length a.old) (length a.written)) [
  | inl many ↦ many
  | inr few ↦ elim (fault-or-other a.status) [
    | inl fault ↦ let memory = leaves.no_memory few fault in absurd (cc)
    | inr other ↦ absurd (other (sym (leaves.same few other) ∙ is))
  ]
]

-- another status than these two is the program's
pub kept : (a : Call) → Leaves a → (status : Status) → a.result ≡ status → status ≢ WriteFault → status ≢ OutOfMemory → a.status ≡ status
kept a leaves status is room memory =
    let few : length a.written ≤ length a.old = within a leaves (λ fault. room (sym is ∙ fault)) in
    elim (fault-or-other a.status) [
      | inl fault ↦ absurd (memory (sym is ∙ leaves.no_memory few fault))
      | inr other ↦ sym (leaves.same few other) ∙ is
    ]

-- then all that it wrote is there
pub whole : (T : List ℕ → Type 0) (a : Call) → Leaves a → (status : Status) → a.result ≡ status → status ≢ WriteFault → status ≢ OutOfMemory
    → (a.status ≡ status → T a.written) → Gives T a.new a.count
whole T a leaves status is room memory named =
    gives T a leaves (within a leaves (λ fault. room (sym is ∙ fault))) (named (kept a leaves status is room memory))

-- where there was no room or no memory, the call says so
pub ends-so : (a : Call) → Leaves a → (wanted : Status) → (a.status ≡ wanted) ⊎ (a.status ≡ WriteFault) ⊎ (a.status ≡ OutOfMemory)
    → (a.result ≡ wanted) ⊎ (a.result ≡ WriteFault) ⊎ (a.result ≡ OutOfMemory)
ends-so a leaves wanted ended = elim (cases_lt (length a.old) (length a.written)) [
  | inl many ↦ inr (inl (leaves.longer many))
  | inr few ↦ elim (fault-or-other a.status) [
    | inl fault ↦ inr (inr (leaves.no_memory few fault))
    | inr other ↦ let same : a.result ≡ a.status = leaves.same few other in elim ended [
      | inl is ↦ inl (same ∙ is)
      | inr (inl is) ↦ absurd (other is)
      | inr (inr is) ↦ inr (inr (same ∙ is))
    ]
  ]
]

-- where a text is longer than the room, and it was written whole unless a write failed or memory ran out, there was no room or no memory
pub longer-ends : (a : Call) → Leaves a → (text : List ℕ) → length a.old < length text → (a.written ≡ text) ⊎ (a.status ≡ WriteFault) ⊎ (a.status ≡ OutOfMemory)
    → (a.result ≡ WriteFault) ⊎ (a.result ≡ OutOfMemory)
longer-ends a leaves text many ended = elim (cases_lt (length a.old) (length a.written)) [
  | inl over ↦ inl (leaves.longer over)
  | inr few ↦ elim (fault-or-other a.status) [
    | inl fault ↦ inr (leaves.no_memory few fault)
    | inr other ↦ elim ended [
      | inl is ↦ absurd (omega (arith, few, many, ap length is))
      | inr (inl is) ↦ absurd (other is)
      | inr (inr is) ↦ inr (leaves.same few other ∙ is)
    ]
  ]
]

-- what stands behind the bytes that were copied stays
pub behind : (a : Call) → Leaves a → drop a.count a.new ≡ drop a.count a.old
behind a leaves =
    let few : a.count ≤ length a.written = omega (arith, leaves.count_is, min-le_left (length a.written) (length a.old)) in
    let n : length (take a.count a.written) ≡ a.count = length-take-le a.count a.written few in
    ap (drop a.count) leaves.bytes ∙ ap (λ k. drop k (take a.count a.written ++ drop a.count a.old)) (sym n)
    ∙ drop-append_seam (take a.count a.written) (drop a.count a.old)

-- what was written under each status of the program by a job over these bytes
pub record Says (job : Job) (bytes written : List ℕ) (status : Status) : Type 0 where
  pub done : status ≡ Done → job.writes bytes written
  pub bad_input : status ≡ BadInput → job.refuses bytes written
  pub bad_words : status ≡ BadWords → written ≡ []
  pub too_long : status ≡ TooLong → written ≡ []
  pub write_fault : status ≡ WriteFault → IsFrontOfText (Defines job bytes) written
  pub out_of_memory : status ≡ OutOfMemory → (written ≡ []) ⊎ IsFrontOfText (Defines job bytes) written
  pub no_read_fault : status ≢ ReadFault

-- a whole text is a front of itself
all-front : (T : List ℕ → Type 0) (written : List ℕ) → T written → IsFrontOfText T written
all-front T written named = record { rest = []; named = subst T (sym (append-nil written)) named }

some-bytes : (written : List ℕ) (room : ℕ) → room < length written → written ≡ [] → ⊥
some-bytes written room many none = omega (arith, many, ap length none)

-- so where more bytes came than there is room for, they are a front of the defined text
front-of-text : (job : Job) (bytes written : List ℕ) (room : ℕ) (status : Status) → Says job bytes written status → room < length written
    → IsFrontOfText (Defines job bytes) written
front-of-text job bytes written room Done says many = all-front (Defines job bytes) written (inl (says.done refl))
front-of-text job bytes written room BadInput says many = all-front (Defines job bytes) written (inr (says.bad_input refl))
front-of-text job bytes written room WriteFault says many = says.write_fault refl
front-of-text job bytes written room OutOfMemory says many = elim (says.out_of_memory refl) [
  | inl none ↦ absurd (some-bytes written room many none)
  | inr front ↦ front
]
front-of-text job bytes written room BadWords says many = absurd (some-bytes written room many (says.bad_words refl))
front-of-text job bytes written room TooLong says many = absurd (some-bytes written room many (says.too_long refl))
front-of-text job bytes written room ReadFault says many = absurd (says.no_read_fault refl)

pub no-room : (job : Job) (bytes : List ℕ) (a : Call) → Leaves a → a.result ≡ WriteFault → Says job bytes a.written a.status → Overflows (Defines job bytes) a.new a.count
no-room job bytes a leaves is says =
    let many = over a leaves is in
    overflows (Defines job bytes) a leaves many (front-of-text job bytes a.written (length a.old) a.status says many)

-- nothing is copied where the program wrote nothing
pub no-count : (a : Call) → Leaves a → a.written ≡ [] → a.count ≡ 0
no-count a leaves none = leaves.count_is ∙ ap (λ bytes. min (length bytes) (length a.old)) none ∙ min-eq_left (omega (arith))

pub no-memory : (job : Job) (bytes : List ℕ) (a : Call) → Leaves a → a.result ≡ OutOfMemory → Says job bytes a.written a.status
    → (a.count ≡ 0) ⊎ GivesFront (Defines job bytes) a.new a.count
no-memory job bytes a leaves is says =
    let few : length a.written ≤ length a.old = within a leaves (λ fault. cc) in
    elim (fault-or-other a.status) [
      | inl fault ↦ inr (gives-front (Defines job bytes) a leaves few (says.write_fault fault))
      | inr other ↦ elim (says.out_of_memory (sym (leaves.same few other) ∙ is)) [
        | inl none ↦ inl (no-count a leaves none)
        | inr front ↦ inr (gives-front (Defines job bytes) a leaves few front)
      ]
    ]

-- the status of a number
abbrev status_of : ℕ → Status
status_of n = if n == 0 then Done else if n == 2 then BadWords else if n == 3 then BadInput else if n == 4 then ReadFault else if n == 5 then WriteFault else if n == 6 then TooLong else OutOfMemory

status_of-number : (status : Status) → status_of (status_number status) ≡ status
status_of-number Done = refl
status_of-number status = refl

-- no two statuses have one number
pub status-is : (status other : Status) → status_number status ≡ status_number other → status ≡ other
status-is status other same = sym (status_of-number status) ∙ ap status_of same ∙ status_of-number other

pub number-below : (status : Status) → status_number status ≤ 7
number-below Done = omega (arith)
number-below status = omega (arith)

pub number-not-1 : (status : Status) → status_number status ≢ 1
number-not-1 Done is = omega (arith, is)
number-not-1 status is = omega (arith, is)
