-- A field of a few bits is read as its table says.
use Rattle.std.proofs.Common.{◌≡◌, ℕ, ◌+◌, Bool, true, false, List, [], ◌∷◌, ◌++◌, length, Ok, Err, refl, sym, ap, ◌∙◌, append_assoc, append-nil}
use Rattle.std.specs.Prelude.{Option, Some, None, ◌||◌, ◌&&◌, if◌then◌else◌}
use Rattle.command_grammar.specs.declared.refusal.Reason.{Reason}
use Rattle.gen2_crc.specs.Crc.{differ}
use Rattle.command_grammar.specs.reading.Readers.{Short, Bad, Choice, pick, none, fork, choice_at}
use Rattle.command_grammar.proofs.reading.Readers.{Reads, SpelledField, Stuck}

-- some value is below
abbrev pub is_live : {A : Type 0} → Choice A → Bool
is_live (pick a) = true
is_live none = false
is_live (fork zeros ones) = is_live zeros || is_live ones

-- below each fork some value is
abbrev pub is_proper : {A : Type 0} → Choice A → Bool
is_proper (pick a) = true
is_proper none = true
is_proper (fork zeros ones) = is_live (fork zeros ones) && (is_proper zeros && is_proper ones)

-- all bits lead to a value
abbrev pub is_full : {A : Type 0} → Choice A → Bool
is_full (pick a) = true
is_full none = false
is_full (fork zeros ones) = is_full zeros && is_full ones

-- the bits on the way to each value, behind those before, are its bits
abbrev pub IsTable : {A : Type 0} → (A → List Bool) → List Bool → Choice A → Type 0
IsTable s before (pick a) = s a ≡ before
IsTable s before none = Unit {0}
IsTable s before (fork zeros ones) = IsTable s (before ++ false ∷ []) zeros × IsTable s (before ++ true ∷ []) ones

-- the same bits
abbrev are_same : List Bool → List Bool → Bool
are_same [] [] = true
are_same [] (y ∷ ys) = false
are_same (x ∷ xs) [] = false
are_same (x ∷ xs) (y ∷ ys) = if differ x y then false else are_same xs ys

same_bits : (xs ys : List Bool) → are_same xs ys ≡ true → xs ≡ ys
same_bits [] [] e = refl
same_bits [] (y ∷ ys) e = absurd cc
same_bits (x ∷ xs) [] e = absurd cc
same_bits (true ∷ xs) (true ∷ ys) e = ap (λ (l : List Bool). true ∷ l) (same_bits xs ys e)
same_bits (true ∷ xs) (false ∷ ys) e = absurd cc
same_bits (false ∷ xs) (true ∷ ys) e = absurd cc
same_bits (false ∷ xs) (false ∷ ys) e = ap (λ (l : List Bool). false ∷ l) (same_bits xs ys e)

-- ... as a test
abbrev pub is_table : {A : Type 0} → (A → List Bool) → List Bool → Choice A → Bool
is_table s before (pick a) = are_same (s a) before
is_table s before none = true
is_table s before (fork zeros ones) = is_table s (before ++ false ∷ []) zeros && is_table s (before ++ true ∷ []) ones

and_left : (a b : Bool) → (a && b) ≡ true → a ≡ true
and_left true b e = refl
and_left false b e = absurd cc

and_right : (a b : Bool) → (a && b) ≡ true → b ≡ true
and_right true b e = e
and_right false b e = absurd cc

and_three : (a b c : Bool) → (a && (b && c)) ≡ true → (a ≡ true) × (b ≡ true) × (c ≡ true)
and_three a b c e = (and_left a (b && c) e, and_left b c (and_right a (b && c) e), and_right b c (and_right a (b && c) e))

table_is : {A : Type 0} (s : A → List Bool) (before : List Bool) (t : Choice A) → is_table s before t ≡ true → IsTable s before t
table_is s before (pick a) e = same_bits (s a) before e
table_is s before none e = tt
table_is s before (fork zeros ones) e =
    let left = is_table s (before ++ false ∷ []) zeros in
    let right = is_table s (before ++ true ∷ []) ones in
    (table_is s (before ++ false ∷ []) zeros (and_left left right e), table_is s (before ++ true ∷ []) ones (and_right left right e))

module _ {A : Type 0} (s : A → List Bool) (reason : Reason) where
  one_more : (before front : List Bool) (bit : Bool) (value : A) → s value ≡ (before ++ bit ∷ []) ++ front → s value ≡ before ++ bit ∷ front
  one_more before front bit value e = e ∙ append_assoc before (bit ∷ []) front

  witness : (t : Choice A) (before : List Bool) → IsTable s before t → is_live t ≡ true → (value : A) × (more : List Bool) × (s value ≡ before ++ more)
  witness (pick a) before table live = (a, [], table ∙ sym (append-nil before))
  witness none before table live = absurd cc
  witness (fork zeros ones) before table live =
      elim (is_live zeros) as (λ b. is_live zeros ≡ b → (value : A) × (more : List Bool) × (s value ≡ before ++ more)) [
        | true ↦ λ e. let w = witness zeros (before ++ false ∷ []) table.0 e in (w.0, false ∷ w.1, one_more before w.1 false w.0 w.2)
        | false ↦ λ e. let w = witness ones (before ++ true ∷ []) table.1 (rw e at live) in (w.0, true ∷ w.1, one_more before w.1 true w.0 w.2)
      ] refl

  next_witness : (zeros ones : Choice A) (before : List Bool) → IsTable s before (fork zeros ones) → is_live (fork zeros ones) ≡ true → (value : A) × (next : Bool) × (more : List Bool) × (s value ≡ before ++ next ∷ more)
  next_witness zeros ones before table live =
      elim (is_live zeros) as (λ b. is_live zeros ≡ b → (value : A) × (next : Bool) × (more : List Bool) × (s value ≡ before ++ next ∷ more)) [
        | true ↦ λ e. let w = witness zeros (before ++ false ∷ []) table.0 e in (w.0, false, w.1, one_more before w.1 false w.0 w.2)
        | false ↦ λ e. let w = witness ones (before ++ true ∷ []) table.1 (rw e at live) in (w.0, true, w.1, one_more before w.1 true w.0 w.2)
      ] refl

  choice_found : (t : Choice A) (before bits : List Bool) (value : A) (rest : List Bool) → IsTable s before t → choice_at t reason bits ≡ Ok (value, rest) → (front : List Bool) × (s value ≡ before ++ front) × (bits ≡ front ++ rest)
  choice_found (pick a) before bits value rest table e =
      let pair : ◌≡◌ {A = A × List Bool} (a, bits) (value, rest) = cc in
      ([], ap s (sym (ap (λ (p : A × List Bool). p.0) pair)) ∙ table ∙ sym (append-nil before), ap (λ (p : A × List Bool). p.1) pair)
  choice_found none before bits value rest table e = absurd cc
  choice_found (fork zeros ones) before [] value rest table e = absurd cc
  choice_found (fork zeros ones) before (false ∷ bits) value rest table e =
      let f = choice_found zeros (before ++ false ∷ []) bits value rest table.0 e in
      (false ∷ f.0, one_more before f.0 false value f.1, ap (λ (l : List Bool). false ∷ l) f.2)
  choice_found (fork zeros ones) before (true ∷ bits) value rest table e =
      let f = choice_found ones (before ++ true ∷ []) bits value rest table.1 e in
      (true ∷ f.0, one_more before f.0 true value f.1, ap (λ (l : List Bool). true ∷ l) f.2)

  choice_short : (t : Choice A) (before bits : List Bool) → IsTable s before t → is_proper t ≡ true → choice_at t reason bits ≡ Err Short → (value : A) × (more : List Bool) × (s value ≡ before ++ (bits ++ more))
  choice_short (pick a) before bits table proper e = absurd cc
  choice_short none before bits table proper e = absurd cc
  choice_short (fork zeros ones) before [] table proper e = witness (fork zeros ones) before table (and_left (is_live (fork zeros ones)) (is_proper zeros && is_proper ones) proper)
  choice_short (fork zeros ones) before (false ∷ bits) table proper e =
      let f = choice_short zeros (before ++ false ∷ []) bits table.0 (and_left (is_proper zeros) (is_proper ones) (and_right (is_live (fork zeros ones)) (is_proper zeros && is_proper ones) proper)) e in
      (f.0, f.1, one_more before (bits ++ f.1) false f.0 f.2)
  choice_short (fork zeros ones) before (true ∷ bits) table proper e =
      let f = choice_short ones (before ++ true ∷ []) bits table.1 (and_right (is_proper zeros) (is_proper ones) (and_right (is_live (fork zeros ones)) (is_proper zeros && is_proper ones) proper)) e in
      (f.0, f.1, one_more before (bits ++ f.1) true f.0 f.2)

  -- the refusal, at a choice behind the bits before
  abbrev StuckBehind : List Bool → Choice A → List Bool → ℕ → Reason → Type 0
  StuckBehind before t bits left other = (reason ≡ other) × Stuck (λ value l. s value ≡ before ++ l) (choice_at t reason) bits left other

  -- ... one bit further on
  further : (zeros ones : Choice A) (before bits : List Bool) (bit : Bool) (t : Choice A) (left : ℕ) (other : Reason)
      → ((l : List Bool) → choice_at (fork zeros ones) reason (bit ∷ l) ≡ choice_at t reason l) → StuckBehind (before ++ bit ∷ []) t bits left other → StuckBehind before (fork zeros ones) (bit ∷ bits) left other
  further zeros ones before bits bit t left other step h = let w = h.1 in (
    h.0,
    record {
      front = bit ∷ w.front;
      bit = w.bit;
      back = w.back;
      split = ap (λ (l : List Bool). bit ∷ l) w.split;
      left_is = w.left_is;
      value = w.value;
      next = w.next;
      more = w.more;
      spelled = one_more before (w.front ++ w.next ∷ w.more) bit w.value w.spelled;
      stays = λ l. step (w.front ++ w.bit ∷ l) ∙ w.stays l;
    },
  )

  -- ... at the bit itself
  here : (zeros ones : Choice A) (before bits : List Bool) (bit : Bool) (left : ℕ) (other : Reason) → IsTable s before (fork zeros ones) → is_live (fork zeros ones) ≡ true
      → ((l : List Bool) → choice_at (fork zeros ones) reason (bit ∷ l) ≡ Err (Bad (length l + 1) reason)) → choice_at (fork zeros ones) reason (bit ∷ bits) ≡ Err (Bad left other) → StuckBehind before (fork zeros ones) (bit ∷ bits) left other
  here zeros ones before bits bit left other table live step e =
      let w = next_witness zeros ones before table live in
      let stopped = step bits in
      let same : reason ≡ other = cc in
      let left-is : left ≡ length bits + 1 = cc in
      (same, record { front = []; bit = bit; back = bits; split = refl; left_is = left-is; value = w.0; next = w.1; more = w.2; spelled = w.3; stays = λ l. step l ∙ ap (λ (r : Reason). Err (Bad (length l + 1) r)) same })

  choice_bad : (t : Choice A) (before bits : List Bool) (left : ℕ) (other : Reason) → IsTable s before t → is_live t ≡ true → is_proper t ≡ true → choice_at t reason bits ≡ Err (Bad left other) → StuckBehind before t bits left other
  choice_bad (pick a) before bits left other table live proper e = absurd cc
  choice_bad none before bits left other table live proper e = absurd cc
  choice_bad (fork zeros ones) before [] left other table live proper e = absurd cc
  choice_bad (fork none ones) before (false ∷ bits) left other table live proper e = here none ones before bits false left other table live (λ l. refl) e
  choice_bad (fork (pick a) ones) before (false ∷ bits) left other table live proper e = absurd cc
  choice_bad (fork (fork a b) ones) before (false ∷ bits) left other table live proper e =
      let p : is_proper (fork a b) ≡ true = and_left (is_proper (fork a b)) (is_proper ones) (and_right (is_live (fork (fork a b) ones)) (is_proper (fork a b) && is_proper ones) proper) in
      further (fork a b) ones before bits false (fork a b) left other (λ l. refl) (choice_bad (fork a b) (before ++ false ∷ []) bits left other table.0 (and_left (is_live (fork a b)) (is_proper a && is_proper b) p) p e)
  choice_bad (fork zeros none) before (true ∷ bits) left other table live proper e = here zeros none before bits true left other table live (λ l. refl) e
  choice_bad (fork zeros (pick a)) before (true ∷ bits) left other table live proper e = absurd cc
  choice_bad (fork zeros (fork a b)) before (true ∷ bits) left other table live proper e =
      let p : is_proper (fork a b) ≡ true = and_right (is_proper zeros) (is_proper (fork a b)) (and_right (is_live (fork zeros (fork a b))) (is_proper zeros && is_proper (fork a b)) proper) in
      further zeros (fork a b) before bits true (fork a b) left other (λ l. refl) (choice_bad (fork a b) (before ++ true ∷ []) bits left other table.1 (and_left (is_live (fork a b)) (is_proper a && is_proper b) p) p e)

  full_good : (t : Choice A) (bits : List Bool) (left : ℕ) (other : Reason) → is_full t ≡ true → choice_at t reason bits ≡ Err (Bad left other) → ⊥
  full_good (pick a) bits left other full e = absurd cc
  full_good none bits left other full e = absurd cc
  full_good (fork zeros ones) [] left other full e = absurd cc
  full_good (fork zeros ones) (false ∷ bits) left other full e = full_good zeros bits left other (and_left (is_full zeros) (is_full ones) full) e
  full_good (fork zeros ones) (true ∷ bits) left other full e = full_good ones bits left other (and_right (is_full zeros) (is_full ones) full) e

  again : (t : Choice A) → ((value : A) (rest : List Bool) → choice_at t reason (s value ++ rest) ≡ Ok (value, rest)) → (value : A) (bits rest : List Bool) → bits ≡ s value → choice_at t reason (bits ++ rest) ≡ Ok (value, rest)
  again t whole value bits rest e = rw e (whole value rest)

  -- the reader by the table reads each value from its bits
  abbrev pub ReadsEach : Choice A → Type 0
  ReadsEach t = (value : A) (rest : List Bool) → choice_at t reason (s value ++ rest) ≡ Ok (value, rest)

  -- a refusal has the name, and the reader is stuck there
  abbrev IsNamed : Choice A → Option Reason → Type 0
  IsNamed t name = (bits : List Bool) (left : ℕ) (other : Reason) → choice_at t reason bits ≡ Err (Bad left other) → (name ≡ Some other) × Stuck (λ value l. l ≡ s value) (choice_at t reason) bits left other

  reads_table : (t : Choice A) (name : Option Reason) → IsTable s [] t → is_proper t ≡ true → ReadsEach t → IsNamed t name → Reads (λ value bits. bits ≡ s value) name (choice_at t reason)
  reads_table t name table proper whole bad = record {
    again = again t whole;
    found = λ bits value rest e. let f = choice_found t [] bits value rest table e in (f.0, sym f.1, f.2);
    short = λ bits e. let f = choice_short t [] bits table proper e in (f.0, f.1, sym f.2);
    bad = bad;
  }

  -- some bits may not stand in it
  pub reads_choice : (t : Choice A) → (is_table s [] t && (is_live t && is_proper t)) ≡ true → ReadsEach t → Reads (λ value bits. bits ≡ s value) (Some reason) (choice_at t reason)
  reads_choice t tests whole =
      let is = and_three (is_table s [] t) (is_live t) (is_proper t) tests in
      let table = table_is s [] t is.0 in
      reads_table t (Some reason) table is.2 whole (λ bits left other e.
      let f = choice_bad t [] bits left other table is.1 is.2 e in
      let w = f.1 in
      (ap (λ (r : Reason). Some r) f.0, record { front = w.front; bit = w.bit; back = w.back; split = w.split; left_is = w.left_is; value = w.value; next = w.next; more = w.more; spelled = sym w.spelled; stays = w.stays }))

  -- all may
  pub reads_full : (t : Choice A) → (is_table s [] t && (is_full t && is_proper t)) ≡ true → ReadsEach t → Reads (λ value bits. bits ≡ s value) None (choice_at t reason)
  reads_full t tests whole =
      let is = and_three (is_table s [] t) (is_full t) (is_proper t) tests in
      reads_table t None (table_is s [] t is.0) is.2 whole (λ bits left other e. absurd (full_good t bits left other is.1 e))

  -- a field in which some bits may not stand
  abbrev pub choice_field : (t : Choice A) → (is_table s [] t && (is_live t && is_proper t)) ≡ true → ReadsEach t → SpelledField A
  choice_field t tests whole = record { spell = s; name = Some reason; read = choice_at t reason; reads = reads_choice t tests whole }

  -- a field in which all may
  abbrev pub full_field : (t : Choice A) → (is_table s [] t && (is_full t && is_proper t)) ≡ true → ReadsEach t → SpelledField A
  full_field t tests whole = record { spell = s; name = None; read = choice_at t reason; reads = reads_full t tests whole }
