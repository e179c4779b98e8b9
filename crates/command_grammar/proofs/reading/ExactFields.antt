-- A field that has one list of bits alone.
use Rattle.std.proofs.Common.{◌≡◌, ℕ, ◌+◌, Bool, true, false, List, [], ◌∷◌, ◌++◌, length, Ok, Err, refl, ap, ◌∙◌}
use Rattle.std.specs.Prelude.{Some}
use Rattle.command_grammar.specs.declared.refusal.Reason.{Reason}
use Rattle.command_grammar.specs.reading.Readers.{Short, Bad, exactly_at}
use Rattle.command_grammar.proofs.reading.Readers.{Reads, SpelledField, Stuck}

module _ (reason : Reason) where
  exactly-again : (wanted rest : List Bool) → exactly_at wanted reason (wanted ++ rest) ≡ Ok (tt, rest)
  exactly-again [] rest = refl
  exactly-again (true ∷ wanted) rest = exactly-again wanted rest
  exactly-again (false ∷ wanted) rest = exactly-again wanted rest

  exactly-found : (wanted bits : List Bool) (value : Unit {0}) (rest : List Bool) → exactly_at wanted reason bits ≡ Ok (value, rest) → bits ≡ wanted ++ rest
  exactly-found [] bits value rest e =
      let pair : ◌≡◌ {A = Unit {0} × List Bool} (tt, bits) (value, rest) = cc in
      ap (λ (p : Unit {0} × List Bool). p.1) pair
  exactly-found (w ∷ wanted) [] value rest e = absurd cc
  exactly-found (true ∷ wanted) (true ∷ bits) value rest e = ap (λ (l : List Bool). true ∷ l) (exactly-found wanted bits value rest e)
  exactly-found (true ∷ wanted) (false ∷ bits) value rest e = absurd cc
  exactly-found (false ∷ wanted) (true ∷ bits) value rest e = absurd cc
  exactly-found (false ∷ wanted) (false ∷ bits) value rest e = ap (λ (l : List Bool). false ∷ l) (exactly-found wanted bits value rest e)

  exactly-short : (wanted bits : List Bool) → exactly_at wanted reason bits ≡ Err Short → (more : List Bool) × (bits ++ more ≡ wanted)
  exactly-short [] bits e = absurd cc
  exactly-short (w ∷ wanted) [] e = (w ∷ wanted, refl)
  exactly-short (true ∷ wanted) (true ∷ bits) e = let f = exactly-short wanted bits e in (f.0, ap (λ (l : List Bool). true ∷ l) f.1)
  exactly-short (true ∷ wanted) (false ∷ bits) e = absurd cc
  exactly-short (false ∷ wanted) (true ∷ bits) e = absurd cc
  exactly-short (false ∷ wanted) (false ∷ bits) e = let f = exactly-short wanted bits e in (f.0, ap (λ (l : List Bool). false ∷ l) f.1)

  -- the refusal
  abbrev Wrong : List Bool → List Bool → ℕ → Reason → Type 0
  Wrong wanted bits left other = (reason ≡ other) × Stuck {A = Unit {0}} (λ value l. l ≡ wanted) (exactly_at wanted reason) bits left other

  further : (wanted bits : List Bool) (bit : Bool) (left : ℕ) (other : Reason) → ((l : List Bool) → exactly_at (bit ∷ wanted) reason (bit ∷ l) ≡ exactly_at wanted reason l) → Wrong wanted bits left other → Wrong (bit ∷ wanted) (bit ∷ bits) left other
  further wanted bits bit left other step h = let w = h.1 in (
    h.0,
    record {
      front = bit ∷ w.front;
      bit = w.bit;
      back = w.back;
      split = ap (λ (l : List Bool). bit ∷ l) w.split;
      left_is = w.left_is;
      value = tt;
      next = w.next;
      more = w.more;
      spelled = ap (λ (l : List Bool). bit ∷ l) w.spelled;
      stays = λ l. step (w.front ++ w.bit ∷ l) ∙ w.stays l;
    },
  )

  here : (wanted bits : List Bool) (next bit : Bool) (left : ℕ) (other : Reason) → ((l : List Bool) → exactly_at (next ∷ wanted) reason (bit ∷ l) ≡ Err (Bad (length l + 1) reason)) → exactly_at (next ∷ wanted) reason (bit ∷ bits) ≡ Err (Bad left other)
      → Wrong (next ∷ wanted) (bit ∷ bits) left other
  here wanted bits next bit left other step e =
      let stopped = step bits in
      let same : reason ≡ other = cc in
      let left-is : left ≡ length bits + 1 = cc in
      (same, record { front = []; bit = bit; back = bits; split = refl; left_is = left-is; value = tt; next = next; more = wanted; spelled = refl; stays = λ l. step l ∙ ap (λ (r : Reason). Err (Bad (length l + 1) r)) same })

  exactly-wrong : (wanted bits : List Bool) (left : ℕ) (other : Reason) → exactly_at wanted reason bits ≡ Err (Bad left other) → Wrong wanted bits left other
  exactly-wrong [] bits left other e = absurd cc
  exactly-wrong (w ∷ wanted) [] left other e = absurd cc
  exactly-wrong (true ∷ wanted) (true ∷ bits) left other e = further wanted bits true left other (λ l. refl) (exactly-wrong wanted bits left other e)
  exactly-wrong (true ∷ wanted) (false ∷ bits) left other e = here wanted bits true false left other (λ l. refl) e
  exactly-wrong (false ∷ wanted) (true ∷ bits) left other e = here wanted bits false true left other (λ l. refl) e
  exactly-wrong (false ∷ wanted) (false ∷ bits) left other e = further wanted bits false left other (λ l. refl) (exactly-wrong wanted bits left other e)

  pub reads_exactly : (wanted : List Bool) → Reads {A = Unit {0}} (λ value bits. bits ≡ wanted) (Some reason) (exactly_at wanted reason)
  reads_exactly wanted = record {
    again = λ value bits rest e. rw e (exactly-again wanted rest);
    found = λ bits value rest e. (wanted, refl, exactly-found wanted bits value rest e);
    short = λ bits e. let f = exactly-short wanted bits e in (tt, f.0, f.1);
    bad = λ bits left other e. let f = exactly-wrong wanted bits left other e in (ap (λ (r : Reason). Some r) f.0, f.1);
  }

  abbrev pub exact_field : List Bool → SpelledField (Unit {0})
  exact_field wanted = record { spell = λ value. wanted; name = Some reason; read = exactly_at wanted reason; reads = reads_exactly wanted }
