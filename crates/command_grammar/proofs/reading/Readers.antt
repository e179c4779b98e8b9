-- What it means that a reader reads one field, and that two fields may stand one behind the other.
use Rattle.std.proofs.Common.{◌≡◌, ℕ, ◌+◌, Bool, true, false, List, [], ◌∷◌, ◌++◌, length, Result, Ok, Err, refl, sym, ap, subst, ◌∙◌, append_assoc, append-nil, length-append, arith, cond}
use Rattle.command_grammar.specs.declared.refusal.Reason.{Reason}
use Rattle.command_grammar.specs.reading.Readers.{Stop, Short, Bad, Reading, ◌>>=◌}
use Rattle.std.specs.Prelude.{Option, Some, None}

-- ---- a step after another

pub bind_ok : {A B : Type 0} (r : Result A Stop) (f : A → Result B Stop) (y : B) → (r >>= f) ≡ Ok y → (x : A) × (r ≡ Ok x) × (f x ≡ Ok y)
bind_ok (Ok x) f y e = (x, refl, e)
bind_ok (Err d) f y e = absurd cc

-- where the fault came
pub data Fails {A B : Type 0} (r : Result A Stop) (f : A → Result B Stop) (stop : Stop) : Type 0 where
  at_first : r ≡ Err stop → Fails r f stop
  at_second : (x : A) → r ≡ Ok x → f x ≡ Err stop → Fails r f stop

pub bind_err : {A B : Type 0} (r : Result A Stop) (f : A → Result B Stop) (stop : Stop) → (r >>= f) ≡ Err stop → Fails r f stop
bind_err (Ok x) f stop e = at_second x refl e
bind_err (Err d) f stop e = at_first cc

pub bind_to : {A B : Type 0} (r : Result A Stop) (f : A → Result B Stop) (x : A) → r ≡ Ok x → (r >>= f) ≡ f x
bind_to r f x e = rw e refl

pub bind_fails : {A B : Type 0} (r : Result A Stop) (f : A → Result B Stop) (stop : Stop) → r ≡ Err stop → (r >>= f) ≡ Err stop
bind_fails r f stop e = rw e refl

-- ---- one field

-- a refusal at a bit of the field: the bits before it begin a value's bits, and whatever follows, the refusal is the same
pub record Stuck {A : Type 0} (R : A → List Bool → Type 0) (read : List Bool → Reading A) (bits : List Bool) (left : ℕ) (reason : Reason) : Type 0 where
  pub front : List Bool
  pub bit : Bool
  pub back : List Bool
  pub split : bits ≡ front ++ bit ∷ back
  pub left_is : left ≡ length back + 1
  pub value : A
  pub next : Bool
  pub more : List Bool
  pub spelled : R value (front ++ next ∷ more)
  pub stays : (other : List Bool) → read (front ++ bit ∷ other) ≡ Err (Bad (length other + 1) reason)

-- the reader reads the values that the relation R ties to their bits, and a refusal has the name
pub record Reads {A : Type 0} (R : A → List Bool → Type 0) (name : Option Reason) (read : List Bool → Reading A) : Type 0 where
  pub again : (value : A) (bits rest : List Bool) → R value bits → read (bits ++ rest) ≡ Ok (value, rest)
  pub found : (bits : List Bool) (value : A) (rest : List Bool) → read bits ≡ Ok (value, rest) → (front : List Bool) × R value front × (bits ≡ front ++ rest)
  pub short : (bits : List Bool) → read bits ≡ Err Short → (value : A) × (more : List Bool) × R value (bits ++ more)
  pub bad : (bits : List Bool) (left : ℕ) (reason : Reason) → read bits ≡ Err (Bad left reason) → (name ≡ Some reason) × Stuck R read bits left reason

-- a field of a command: which bits spell which value, the name of its refusals, and its reader
pub record FieldKind (A : Type 0) : Type 1 where
  pub Spells : A → List Bool → Type 0
  pub name : Option Reason
  pub read : List Bool → Reading A
  pub reads : Reads Spells name read

-- one whose value decides the bits
pub record SpelledField (A : Type 0) : Type 0 where
  pub spell : A → List Bool
  pub name : Option Reason
  pub read : List Bool → Reading A
  pub reads : Reads (λ value bits. bits ≡ spell value) name read

abbrev pub kind_of : {A : Type 0} → SpelledField A → FieldKind A
kind_of field = record { Spells = λ value bits. bits ≡ field.spell value; name = field.name; read = field.read; reads = field.reads }

-- a value of a field, as it is spelled
pub record FieldValue {A : Type 0} (field : FieldKind A) : Type 0 where
  pub value : A
  pub bits : List Bool
  pub spelled : field.Spells value bits

-- the second field's relation behind the first's
pub record Pair {A B : Type 0} (R : A → List Bool → Type 0) (S : A → B → List Bool → Type 0) (value : B) (bits : List Bool) : Type 0 where
  pub first : A
  pub front : List Bool
  pub back : List Bool
  pub left : R first front
  pub right : S first value back
  pub whole : bits ≡ front ++ back

-- nothing is read
pub reads_nothing : {A : Type 0} (value : A) (name : Option Reason) → Reads (λ other bits. (other ≡ value) × (bits ≡ [])) name (λ bits. Ok (value, bits))
reads_nothing {A} value name = record {
  again = λ other bits rest h. rw (h.0, h.1) refl;
  found = λ bits other rest e. ([], (sym (ap (λ (r : Reading A). value_in r value) e), refl), ap (λ (r : Reading A). rest_in r) e);
  short = λ bits e. absurd cc;
  bad = λ bits left reason e. absurd cc;
} where
  value_in : Reading A → A → A
  value_in (Ok x) d = x.0
  value_in (Err e) d = d

  rest_in : Reading A → List Bool
  rest_in (Ok x) = x.1
  rest_in (Err e) = []

module _ {A B : Type 0} (R : A → List Bool → Type 0) (S : A → B → List Bool → Type 0) (name : Option Reason) (r : List Bool → Reading A) (s : A → List Bool → Reading B) where
  abbrev both : List Bool → Reading B
  both bits = r bits >>= λ x. s x.0 x.1

  -- one field behind another, whose values and bits the first one's value decides
  pub reads_then : Reads R name r → ((value : A) (bits : List Bool) → R value bits → Reads (S value) name (s value)) → ((value : A) (bits : List Bool) → R value bits → (other : B) × (more : List Bool) × S value other more)
      → Reads (Pair R S) name both
  reads_then first second some = record {
    again = λ value bits rest h.
        let e : r ((h.front ++ h.back) ++ rest) ≡ Ok (h.first, h.back ++ rest) = rw append_assoc (first.again h.first h.front (h.back ++ rest) h.left) in
        rw h.whole (bind_to (r ((h.front ++ h.back) ++ rest)) (λ x. s x.0 x.1) (h.first, h.back ++ rest) e ∙ (second h.first h.front h.left).again value h.back rest h.right);
    found = λ bits value rest e.
        let b = bind_ok (r bits) (λ x. s x.0 x.1) (value, rest) e in
        let f = first.found bits b.0.0 b.0.1 b.1 in
        let g = (second b.0.0 f.0 f.1).found b.0.1 value rest b.2 in
        (f.0 ++ g.0, record { first = b.0.0; front = f.0; back = g.0; left = f.1; right = g.1; whole = refl }, f.2 ∙ ap (λ (l : List Bool). f.0 ++ l) g.2 ∙ sym (append_assoc f.0 g.0 rest));
    short = λ bits e. elim (bind_err (r bits) (λ x. s x.0 x.1) Short e) [
      | at_first h ↦
          let f = first.short bits h in
          let g = some f.0 (bits ++ f.1) f.2 in
          (g.0, f.1 ++ g.1, record { first = f.0; front = bits ++ f.1; back = g.1; left = f.2; right = g.2; whole = sym (append_assoc bits f.1 g.1) })
      | at_second x h k ↦
          let f = first.found bits x.0 x.1 h in
          let g = (second x.0 f.0 f.1).short x.1 k in
          (g.0, g.1, record { first = x.0; front = f.0; back = x.1 ++ g.1; left = f.1; right = g.2; whole = ap (λ (l : List Bool). l ++ g.1) f.2 ∙ append_assoc f.0 x.1 g.1 })
    ];
    bad = λ bits left reason e. elim (bind_err (r bits) (λ x. s x.0 x.1) (Bad left reason) e) [
      | at_first h ↦
          let f = first.bad bits left reason h in
          let w = f.1 in
          let g = some w.value (w.front ++ w.next ∷ w.more) w.spelled in (
            f.0,
            record {
              front = w.front;
              bit = w.bit;
              back = w.back;
              split = w.split;
              left_is = w.left_is;
              value = g.0;
              next = w.next;
              more = w.more ++ g.1;
              spelled = record { first = w.value; front = w.front ++ w.next ∷ w.more; back = g.1; left = w.spelled; right = g.2; whole = sym (append_assoc w.front (w.next ∷ w.more) g.1) };
              stays = λ other. bind_fails (r (w.front ++ w.bit ∷ other)) (λ x. s x.0 x.1) (Bad (length other + 1) reason) (w.stays other);
            },
          )
      | at_second x h k ↦
          let f = first.found bits x.0 x.1 h in
          let g = (second x.0 f.0 f.1).bad x.1 left reason k in
          let w = g.1 in (
            g.0,
            record {
              front = f.0 ++ w.front;
              bit = w.bit;
              back = w.back;
              split = f.2 ∙ ap (λ (l : List Bool). f.0 ++ l) w.split ∙ sym (append_assoc f.0 w.front (w.bit ∷ w.back));
              left_is = w.left_is;
              value = w.value;
              next = w.next;
              more = w.more;
              spelled = record { first = x.0; front = f.0; back = w.front ++ w.next ∷ w.more; left = f.1; right = w.spelled; whole = append_assoc f.0 w.front (w.next ∷ w.more) };
              stays = λ other.
                  let e : r ((f.0 ++ w.front) ++ w.bit ∷ other) ≡ Ok (x.0, w.front ++ w.bit ∷ other) = rw append_assoc (first.again x.0 f.0 (w.front ++ w.bit ∷ other) f.1) in
                  bind_to (r ((f.0 ++ w.front) ++ w.bit ∷ other)) (λ y. s y.0 y.1) (x.0, w.front ++ w.bit ∷ other) e ∙ w.stays other;
            },
          )
    ];
  }

-- the same relation, written another way
pub reads_as : {A : Type 0} (R S : A → List Bool → Type 0) (name : Option Reason) (read : List Bool → Reading A) → ((value : A) (bits : List Bool) → R value bits → S value bits) → ((value : A) (bits : List Bool) → S value bits → R value bits)
    → Reads R name read → Reads S name read
reads_as R S name read to from reads = record {
  again = λ value bits rest h. reads.again value bits rest (from value bits h);
  found = λ bits value rest e. let f = reads.found bits value rest e in (f.0, to value f.0 f.1, f.2);
  short = λ bits e. let f = reads.short bits e in (f.0, f.1, to f.0 (bits ++ f.1) f.2);
  bad = λ bits left reason e.
      let f = reads.bad bits left reason e in
      let w = f.1 in
      (f.0, record { front = w.front; bit = w.bit; back = w.back; split = w.split; left_is = w.left_is; value = w.value; next = w.next; more = w.more; spelled = to w.value (w.front ++ w.next ∷ w.more) w.spelled; stays = w.stays });
}

-- the value under another name
pub reads_map : {A B : Type 0} (field : FieldKind A) (S : B → List Bool → Type 0) (other : List Bool → Reading B) (f : A → B)
    → ((bits : List Bool) → other bits ≡ (field.read bits >>= λ x. Ok (f x.0, x.1)))
    → ((value : A) (bits : List Bool) → field.Spells value bits → S (f value) bits)
    → ((value : B) (bits : List Bool) → S value bits → (first : A) × field.Spells first bits × (f first ≡ value))
    → Reads S field.name other
reads_map {A} {B} field S other f same to from = record {
  again = λ value bits rest h.
      let w = from value bits h in
      same (bits ++ rest) ∙ bind_to (field.read (bits ++ rest)) (λ x. Ok (f x.0, x.1)) (w.0, rest) (field.reads.again w.0 bits rest w.1) ∙ ap (λ (b : B). Ok (b, rest)) w.2;
  found = λ bits value rest e.
      let b = bind_ok (field.read bits) (λ x. Ok (f x.0, x.1)) (value, rest) (sym (same bits) ∙ e) in
      let g = field.reads.found bits b.0.0 b.0.1 b.1 in
      let pair : ◌≡◌ {A = B × List Bool} (f b.0.0, b.0.1) (value, rest) = pair_in (f b.0.0, b.0.1) (value, rest) b.2 in
      (g.0, subst (λ (v : B). S v g.0) (ap (λ (p : B × List Bool). p.0) pair) (to b.0.0 g.0 g.1), g.2 ∙ ap (λ (l : List Bool). g.0 ++ l) (ap (λ (p : B × List Bool). p.1) pair));
  short = λ bits e. elim (bind_err (field.read bits) (λ x. Ok (f x.0, x.1)) Short (sym (same bits) ∙ e)) [
    | at_first h ↦ let g = field.reads.short bits h in (f g.0, g.1, to g.0 (bits ++ g.1) g.2)
    | at_second x h k ↦ absurd (ok_not_err (f x.0, x.1) Short k)
  ];
  bad = λ bits left reason e. elim (bind_err (field.read bits) (λ x. Ok (f x.0, x.1)) (Bad left reason) (sym (same bits) ∙ e)) [
    | at_first h ↦
        let g = field.reads.bad bits left reason h in
        let w = g.1 in (
          g.0,
          record {
            front = w.front;
            bit = w.bit;
            back = w.back;
            split = w.split;
            left_is = w.left_is;
            value = f w.value;
            next = w.next;
            more = w.more;
            spelled = to w.value (w.front ++ w.next ∷ w.more) w.spelled;
            stays = λ l. same (w.front ++ w.bit ∷ l) ∙ bind_fails (field.read (w.front ++ w.bit ∷ l)) (λ x. Ok (f x.0, x.1)) (Bad (length l + 1) reason) (w.stays l);
          },
        )
    | at_second x h k ↦ absurd (ok_not_err (f x.0, x.1) (Bad left reason) k)
  ];
} where
  pair_in : (x y : B × List Bool) → ◌≡◌ {A = Reading B} (Ok x) (Ok y) → x ≡ y
  pair_in x y e = cc

  ok_not_err : (x : B × List Bool) (stop : Stop) → ◌≡◌ {A = Reading B} (Ok x) (Err stop) → ⊥
  ok_not_err x stop e = cc

-- bits that are short of a list with one bit more are short of the list
shorter : (bits front : List Bool) (m : Bool) (ms : List Bool) (bit : Bool) → bits ++ m ∷ ms ≡ front ++ bit ∷ [] → (rest : List Bool) × (front ≡ bits ++ rest)
shorter [] front m ms bit e = (front, refl)
shorter (b ∷ bits) [] m ms bit e =
    let tail : bits ++ m ∷ ms ≡ [] = cc in
    absurd (omega (arith, ap length tail, length-append bits (m ∷ ms)))
shorter (b ∷ bits) (a ∷ front) m ms bit e =
    let head : b ≡ a = cc in
    let tail : bits ++ m ∷ ms ≡ front ++ bit ∷ [] = cc in
    let g = shorter bits front m ms bit tail in
    (g.0, ap (λ (l : List Bool). a ∷ l) g.1 ∙ ap (λ (c : Bool). c ∷ (bits ++ g.0)) (sym head))

-- a value is refused where the test says so
abbrev pub checked : {A : Type 0} → (A → Bool) → Reason → A × List Bool → Reading A
checked refuse reason x = cond (refuse x.0) (Err (Bad (length x.1 + 1) reason)) (Ok x)

-- One value of a field is refused: at the last of its bits, since the bits before begin others too.
pub record RefusesOne {A : Type 0} (field : FieldKind A) (refuse : A → Bool) : Type 0 where
  pub front : List Bool
  pub bit : Bool
  pub only : (other : A) (bits : List Bool) → field.Spells other bits → refuse other ≡ true → bits ≡ front ++ bit ∷ []
  pub value : A
  pub next : Bool
  pub more : List Bool
  pub spelled : field.Spells value (front ++ next ∷ more)
  pub kept : refuse value ≡ false

-- What is refused of a field that is never refused itself.
pub reads_but : {A : Type 0} (field : FieldKind A) (reason : Reason) (refuse : A → Bool) → field.name ≡ None → RefusesOne field refuse
    → Reads (λ other bits. field.Spells other bits × (refuse other ≡ false)) (Some reason) (λ bits. field.read bits >>= checked refuse reason)
reads_but {A} field reason refuse unnamed one = record {
  again = λ other bits rest h. bind_to (field.read (bits ++ rest)) (checked refuse reason) (other, rest) (field.reads.again other bits rest h.0) ∙ rw h.1 refl;
  found = λ bits other rest e.
      let b = bind_ok (field.read bits) (checked refuse reason) (other, rest) e in
      let g = field.reads.found bits b.0.0 b.0.1 b.1 in
      let t = test_ok (refuse b.0.0) b.0 (other, rest) b.2 in
      let first : b.0.0 ≡ other = ap (λ (p : A × List Bool). p.0) t.1 in
      (g.0, (subst (λ (v : A). field.Spells v g.0) first g.1, ap refuse (sym first) ∙ t.0), g.2 ∙ ap (λ (l : List Bool). g.0 ++ l) (ap (λ (p : A × List Bool). p.1) t.1));
  short = λ bits e. elim (bind_err (field.read bits) (checked refuse reason) Short e) [
    | at_first h ↦ let g = field.reads.short bits h in cut bits g.0 g.1 g.2 h (refuse g.0) refl
    | at_second x h k ↦ absurd (test_short (refuse x.0) x k)
  ];
  bad = λ bits left other e. elim (bind_err (field.read bits) (checked refuse reason) (Bad left other) e) [
    | at_first h ↦ absurd (no_name (sym unnamed ∙ (field.reads.bad bits left other h).0))
    | at_second x h k ↦
        let g = field.reads.found bits x.0 x.1 h in
        let t = test_bad (refuse x.0) x left other k in
        let whole : g.0 ≡ one.front ++ one.bit ∷ [] = one.only x.0 g.0 g.1 t.0 in (
          ap (λ (r : Reason). Some r) t.2,
          record {
            front = one.front;
            bit = one.bit;
            back = x.1;
            split = g.2 ∙ ap (λ (l : List Bool). l ++ x.1) whole ∙ append_assoc one.front (one.bit ∷ []) x.1;
            left_is = t.1;
            value = one.value;
            next = one.next;
            more = one.more;
            spelled = (one.spelled, one.kept);
            stays = λ l.
                let e2 : field.read (one.front ++ one.bit ∷ l) ≡ Ok (x.0, l) = ap field.read (sym (append_assoc one.front (one.bit ∷ []) l)) ∙ ap (λ (p : List Bool). field.read (p ++ l)) (sym whole) ∙ field.reads.again x.0 g.0 l g.1 in
                bind_to (field.read (one.front ++ one.bit ∷ l)) (checked refuse reason) (x.0, l) e2 ∙ rw (t.0, ← t.2) refl;
          },
        )
  ];
} where
  test_ok : (b : Bool) (x y : A × List Bool) → cond b (Err (Bad (length x.1 + 1) reason)) (Ok x) ≡ Ok y → (b ≡ false) × (x ≡ y)
  test_ok true x y e = absurd cc
  test_ok false x y e = (refl, cc)

  test_short : (b : Bool) (x : A × List Bool) → cond b (Err (Bad (length x.1 + 1) reason)) (Ok x) ≡ Err Short → ⊥
  test_short true x e = cc
  test_short false x e = cc

  test_bad : (b : Bool) (x : A × List Bool) (left : ℕ) (other : Reason) → cond b (Err (Bad (length x.1 + 1) reason)) (Ok x) ≡ Err (Bad left other) → (b ≡ true) × (left ≡ length x.1 + 1) × (reason ≡ other)
  test_bad true x left other e = (refl, cc, cc)
  test_bad false x left other e = absurd cc

  no_name : {other : Reason} → ◌≡◌ {A = Option Reason} None (Some other) → ⊥
  no_name e = cc

  clash : {x : A × List Bool} → ◌≡◌ {A = Reading A} (Ok x) (Err Short) → ⊥
  clash e = cc

  cut : (bits : List Bool) (other : A) (rest : List Bool) → field.Spells other (bits ++ rest) → field.read bits ≡ Err Short → (b : Bool) → refuse other ≡ b → (found : A) × (tail : List Bool) × (field.Spells found (bits ++ tail) × (refuse found ≡ false))
  cut bits other rest h e false kept_here = (other, rest, (h, kept_here))
  cut bits other [] h e true refused =
      let whole : field.read bits ≡ Ok (other, []) = ap field.read (sym (append-nil bits) ∙ sym (append-nil (bits ++ []))) ∙ field.reads.again other (bits ++ []) [] h in
      absurd (clash (sym whole ∙ e))
  cut bits other (m ∷ ms) h e true refused =
      let g = shorter bits one.front m ms one.bit (one.only other (bits ++ m ∷ ms) h refused) in
      (one.value, g.0 ++ one.next ∷ one.more, (subst (λ (l : List Bool). field.Spells one.value l) (ap (λ (l : List Bool). l ++ one.next ∷ one.more) g.1 ∙ append_assoc bits g.0 (one.next ∷ one.more)) one.spelled, one.kept))
