-- A reader of the fields of a command behind the fields before, and what it has to do with whole commands.
use Rattle.std.proofs.Common.{◌≡◌, ℕ, ◌+◌, ◌-◌, ◌≤◌, Bool, List, [], ◌∷◌, ◌++◌, length, Ok, Err, refl, sym, ap, subst, ◌∙◌, append_assoc, append-nil, length-append, inl, inr, arith}
use Rattle.std.specs.Prelude.{Option, Some}
use Rattle.std.proofs.lemmas.Bool.{cases_lt}
use Rattle.std.proofs.lemmas.List.{take_at}
use Rattle.gen2_crc.specs.Crc.{crc5_of, crc16_of}
use Rattle.command_grammar.specs.declared.commands.Command.{Command}
use Rattle.command_grammar.specs.declared.refusal.Reason.{Reason}
use Rattle.command_grammar.specs.declared.refusal.Reason.TheVariants as reasons
use Rattle.command_grammar.specs.reading.Readers.{Short, Bad, Reading, ◌>>=◌, exactly_at, before, crc5_at, crc16_at}
use Rattle.command_grammar.specs.Commands.{Part, bits_of, parts_of, spelling_of, IsLegalCommand, IsInField}
use Rattle.command_grammar.proofs.reading.Readers.{FieldKind, FieldValue, SpelledField, kind_of, bind_ok, bind_err, bind_to, bind_fails, at_first, at_second}
use Rattle.command_grammar.proofs.reading.ExactFields.{exact_field}

abbrev pub part : Option Reason → List Bool → Part
part name bits = record { name = name; bits = bits }

-- ---- the bits of parts

pub bits_of-append : (ps qs : List Part) → bits_of (ps ++ qs) ≡ bits_of ps ++ bits_of qs
bits_of-append [] qs = refl
bits_of-append (p ∷ ps) qs = ap (λ (l : List Bool). p.bits ++ l) (bits_of-append ps qs) ∙ sym (append_assoc p.bits (bits_of ps) (bits_of qs))

pub bits_of-more : (ps : List Part) (name : Option Reason) (bits rest : List Bool) → bits_of ps ++ (bits ++ rest) ≡ bits_of (ps ++ part name bits ∷ []) ++ rest
bits_of-more ps name bits rest =
    sym (append_assoc (bits_of ps) bits rest) ∙ ap (λ (l : List Bool). l ++ rest) (ap (λ (l : List Bool). bits_of ps ++ l) (sym (append-nil bits)) ∙ sym (bits_of-append ps (part name bits ∷ [])))

-- ---- reading on

-- the refusal at a bit: the bits before begin a command that has the field there, and whatever follows, the refusal is the same
pub record StuckOn (pre : List Part) (read : List Bool → List Bool → Reading Command) (bits : List Bool) (left : ℕ) (reason : Reason) : Type 0 where
  pub front : List Bool
  pub bit : Bool
  pub back : List Bool
  pub split : bits ≡ front ++ bit ∷ back
  pub left_is : left ≡ length back + 1
  pub command : Command
  pub legal : IsLegalCommand command
  pub more : List Bool
  pub begins : spelling_of command ≡ (bits_of pre ++ front) ++ more
  pub stands : IsInField (parts_of command) (length (bits_of pre) + length front) reason
  pub stays : (other : List Bool) → read (bits_of pre ++ (front ++ bit ∷ other)) (front ++ bit ∷ other) ≡ Err (Bad (length other + 1) reason)

-- behind these fields the reader answers as the commands that begin with them ask; where it stops at the last bit, each command that it reads
-- from bits with the same front has the field of the refusal at that place
pub record ReadsOn (pre : List Part) (read : List Bool → List Bool → Reading Command) : Type 0 where
  pub live : (command : Command) × (more : List Part) × IsLegalCommand command × (parts_of command ≡ pre ++ more)
  pub found : (bits : List Bool) (command : Command) (rest : List Bool) → read (bits_of pre ++ bits) bits ≡ Ok (command, rest) → IsLegalCommand command × (bits_of pre ++ bits ≡ spelling_of command ++ rest)
  pub short : (bits : List Bool) → read (bits_of pre ++ bits) bits ≡ Err Short → (command : Command) × (more : List Bool) × IsLegalCommand command × (spelling_of command ≡ (bits_of pre ++ bits) ++ more)
  pub bad : (bits : List Bool) (left : ℕ) (reason : Reason) → read (bits_of pre ++ bits) bits ≡ Err (Bad left reason) → StuckOn pre read bits left reason
  pub fields : (bits : List Bool) (command : Command) (rest : List Bool) → read (bits_of pre ++ bits) bits ≡ Ok (command, rest) → (more : List Part) × (parts_of command ≡ pre ++ more)
  pub named : (front : List Bool) (bit : Bool) (reason : Reason) → read (bits_of pre ++ (front ++ bit ∷ [])) (front ++ bit ∷ []) ≡ Err (Bad 1 reason) → (back : List Bool) (command : Command) (rest : List Bool)
      → read (bits_of pre ++ (front ++ back)) (front ++ back) ≡ Ok (command, rest) → IsInField (parts_of command) (length (bits_of pre) + length front) reason

-- a whole command
pub reads_whole : (pre : List Part) (command : Command) → IsLegalCommand command → parts_of command ≡ pre → ReadsOn pre (λ whole bits. Ok (command, bits))
reads_whole pre command legal same = record {
  live = (command, [], legal, same ∙ sym (append-nil pre));
  found = λ bits other rest e.
      let pair : ◌≡◌ {A = Command × List Bool} (command, bits) (other, rest) = ok_pair (command, bits) (other, rest) e in
      let it : command ≡ other = ap (λ (p : Command × List Bool). p.0) pair in
      let back : bits ≡ rest = ap (λ (p : Command × List Bool). p.1) pair in
      (subst IsLegalCommand it legal, ap (λ (ps : List Part). bits_of ps ++ bits) (sym same) ∙ ap (λ (p : Command × List Bool). spelling_of p.0 ++ p.1) pair);
  short = λ bits e. absurd (not_short (command, bits) e);
  bad = λ bits left reason e. absurd (not_bad (command, bits) left reason e);
  fields = λ bits other rest e. ([], ap (λ (p : Command × List Bool). parts_of p.0) (sym (ok_pair (command, bits) (other, rest) e)) ∙ same ∙ sym (append-nil pre));
  named = λ front bit reason e. absurd (not_bad (command, front ++ bit ∷ []) 1 reason e);
} where
  ok_pair : (x y : Command × List Bool) → ◌≡◌ {A = Reading Command} (Ok x) (Ok y) → x ≡ y
  ok_pair x y e = cc

  not_short : (x : Command × List Bool) → ◌≡◌ {A = Reading Command} (Ok x) (Err Short) → ⊥
  not_short x e = cc

  not_bad : (x : Command × List Bool) (left : ℕ) (reason : Reason) → ◌≡◌ {A = Reading Command} (Ok x) (Err (Bad left reason)) → ⊥
  not_bad x left reason e = cc

-- the same reader, written another way
pub reads_same : (pre : List Part) (read other : List Bool → List Bool → Reading Command) → ((bits : List Bool) → other (bits_of pre ++ bits) bits ≡ read (bits_of pre ++ bits) bits) → ReadsOn pre read → ReadsOn pre other
reads_same pre read other same reads = record {
  live = reads.live;
  found = λ bits command rest e. reads.found bits command rest (sym (same bits) ∙ e);
  short = λ bits e. reads.short bits (sym (same bits) ∙ e);
  bad = λ bits left reason e.
      let w = reads.bad bits left reason (sym (same bits) ∙ e) in
      record { front = w.front; bit = w.bit; back = w.back; split = w.split; left_is = w.left_is; command = w.command; legal = w.legal; more = w.more; begins = w.begins; stands = w.stands; stays = λ l. same (w.front ++ w.bit ∷ l) ∙ w.stays l };
  fields = λ bits command rest e. reads.fields bits command rest (sym (same bits) ∙ e);
  named = λ front bit reason stopped back command rest e. reads.named front bit reason (sym (same (front ++ bit ∷ [])) ∙ stopped) back command rest (sym (same (front ++ back)) ∙ e);
}

-- ---- two fields at the front of the same bits

-- the longer of two fronts goes on behind the other
pub longer_front : (a b c d : List Bool) → a ++ b ≡ c ++ d → length c ≤ length a → (more : List Bool) × (a ≡ c ++ more) × (d ≡ more ++ b)
longer_front a b [] d same less = (a, refl, sym same)
longer_front [] b (y ∷ c) d same less = absurd (omega arith)
longer_front (x ∷ a) b (y ∷ c) d same less =
    let head : x ≡ y = cc in
    let tail : a ++ b ≡ c ++ d = cc in
    let f = longer_front a b c d tail (omega arith) in
    (f.0, cc, f.2)

-- no bits of one value begin those of another
none_longer : {A : Type 0} (field : FieldKind A) (value other : A) (bits more : List Bool) → field.Spells value (bits ++ more) → field.Spells other bits → more ≡ []
none_longer {A} field value other bits more long short =
    let first : field.read (bits ++ more) ≡ Ok (value, []) = ap field.read (sym (append-nil (bits ++ more))) ∙ field.reads.again value (bits ++ more) [] long in
    let pair : ◌≡◌ {A = A × List Bool} (other, more) (value, []) = ok_pair (other, more) (value, []) (sym (field.reads.again other bits more short) ∙ first) in
    ap (λ (p : A × List Bool). p.1) pair
  where
    ok_pair : (x y : A × List Bool) → ◌≡◌ {A = Reading A} (Ok x) (Ok y) → x ≡ y
    ok_pair x y e = cc

-- a field, and then the others
pub reads_field_then : {A : Type 0} (pre : List Part) (field : FieldKind A) (k : A × List Bool → List Bool → Reading Command)
    → ((value : A) (bits : List Bool) → field.Spells value bits → ReadsOn (pre ++ part field.name bits ∷ []) (λ whole rest. k (value, rest) whole)) → FieldValue field
    → ReadsOn pre (λ whole bits. field.read bits >>= λ x. k x whole)
reads_field_then {A} pre field k second some = record {
  live =
      let s = (second some.value some.bits some.spelled).live in
      (s.0, part field.name some.bits ∷ s.1, s.2, s.3 ∙ append_assoc pre (part field.name some.bits ∷ []) s.1);
  found = λ bits command rest e.
      let b = bind_ok (field.read bits) (λ x. k x (bits_of pre ++ bits)) (command, rest) e in
      let f = field.reads.found bits b.0.0 b.0.1 b.1 in
      let whole = whole_is bits f.0 b.0.1 f.2 in
      let g = (second b.0.0 f.0 f.1).found b.0.1 command rest (ap (λ (w : List Bool). k b.0 w) (sym whole) ∙ b.2) in
      (g.0, whole ∙ g.1);
  short = λ bits e. elim (bind_err (field.read bits) (λ x. k x (bits_of pre ++ bits)) Short e) [
    | at_first h ↦
        let f = field.reads.short bits h in
        let s = (second f.0 (bits ++ f.1) f.2).live in
        (s.0, f.1 ++ bits_of s.1, s.2, spelled s.0 (bits ++ f.1) s.1 s.3 ∙ regroup (bits_of pre) bits f.1 (bits_of s.1))
    | at_second x h e2 ↦
        let f = field.reads.found bits x.0 x.1 h in
        let whole = whole_is bits f.0 x.1 f.2 in
        let g = (second x.0 f.0 f.1).short x.1 (ap (λ (w : List Bool). k x w) (sym whole) ∙ e2) in
        (g.0, g.1, g.2, g.3 ∙ ap (λ (w : List Bool). w ++ g.1) (sym whole))
  ];
  bad = λ bits left reason e. elim (bind_err (field.read bits) (λ x. k x (bits_of pre ++ bits)) (Bad left reason) e) [
    | at_first h ↦
        let f = field.reads.bad bits left reason h in
        let w = f.1 in
        let s = (second w.value (w.front ++ w.next ∷ w.more) w.spelled).live in
        record {
          front = w.front;
          bit = w.bit;
          back = w.back;
          split = w.split;
          left_is = w.left_is;
          command = s.0;
          legal = s.2;
          more = (w.next ∷ w.more) ++ bits_of s.1;
          begins = spelled s.0 (w.front ++ w.next ∷ w.more) s.1 s.3 ∙ regroup (bits_of pre) w.front (w.next ∷ w.more) (bits_of s.1);
          stands = record {
            before = pre;
            field = part field.name (w.front ++ w.next ∷ w.more);
            behind = s.1;
            whole = s.3;
            name = f.0;
            from = omega arith;
            upto = omega (arith, length-append w.front (w.next ∷ w.more));
          };
          stays = λ l. bind_fails (field.read (w.front ++ w.bit ∷ l)) (λ x. k x (bits_of pre ++ (w.front ++ w.bit ∷ l))) (Bad (length l + 1) reason) (w.stays l);
        }
    | at_second x h e2 ↦
        let f = field.reads.found bits x.0 x.1 h in
        let whole = whole_is bits f.0 x.1 f.2 in
        let w = (second x.0 f.0 f.1).bad x.1 left reason (ap (λ (t : List Bool). k x t) (sym whole) ∙ e2) in
        record {
          front = f.0 ++ w.front;
          bit = w.bit;
          back = w.back;
          split = f.2 ∙ ap (λ (l : List Bool). f.0 ++ l) w.split ∙ sym (append_assoc f.0 w.front (w.bit ∷ w.back));
          left_is = w.left_is;
          command = w.command;
          legal = w.legal;
          more = w.more;
          begins = w.begins ∙ ap (λ (l : List Bool). l ++ w.more) (sym (bits_of-more pre field.name f.0 w.front));
          stands = subst (λ (n : ℕ). IsInField (parts_of w.command) n reason) (place_is f.0 w.front) w.stands;
          stays = λ l.
              let e3 : field.read ((f.0 ++ w.front) ++ w.bit ∷ l) ≡ Ok (x.0, w.front ++ w.bit ∷ l) = ap field.read (append_assoc f.0 w.front (w.bit ∷ l)) ∙ field.reads.again x.0 f.0 (w.front ++ w.bit ∷ l) f.1 in
              let t : bits_of pre ++ ((f.0 ++ w.front) ++ w.bit ∷ l) ≡ bits_of (pre ++ part field.name f.0 ∷ []) ++ (w.front ++ w.bit ∷ l) =
              ap (λ (m : List Bool). bits_of pre ++ m) (append_assoc f.0 w.front (w.bit ∷ l)) ∙ bits_of-more pre field.name f.0 (w.front ++ w.bit ∷ l) in
              bind_to (field.read ((f.0 ++ w.front) ++ w.bit ∷ l)) (λ y. k y (bits_of pre ++ ((f.0 ++ w.front) ++ w.bit ∷ l))) (x.0, w.front ++ w.bit ∷ l) e3
              ∙ ap (λ (m : List Bool). k (x.0, w.front ++ w.bit ∷ l) m) t ∙ w.stays l;
        }
  ];
  fields = λ bits command rest e.
      let b = bind_ok (field.read bits) (λ x. k x (bits_of pre ++ bits)) (command, rest) e in
      let f = field.reads.found bits b.0.0 b.0.1 b.1 in
      let g = (second b.0.0 f.0 f.1).fields b.0.1 command rest (ap (λ (w : List Bool). k b.0 w) (sym (whole_is bits f.0 b.0.1 f.2)) ∙ b.2) in
      (part field.name f.0 ∷ g.0, g.1 ∙ append_assoc pre (part field.name f.0 ∷ []) g.0);
  named = λ front bit reason stopped back command rest e.
      let b = bind_ok (field.read (front ++ back)) (λ x. k x (bits_of pre ++ (front ++ back))) (command, rest) e in
      let f = field.reads.found (front ++ back) b.0.0 b.0.1 b.1 in
      let goes_on : k b.0 (bits_of (pre ++ part field.name f.0 ∷ []) ++ b.0.1) ≡ Ok (command, rest) = ap (λ (w : List Bool). k b.0 w) (sym (whole_is (front ++ back) f.0 b.0.1 f.2)) ∙ b.2 in
      elim (cases_lt (length front) (length f.0)) [
        | inl inside ↦
            let g = (second b.0.0 f.0 f.1).fields b.0.1 command rest goes_on in
            let longer = longer_front f.0 b.0.1 front back (sym f.2) (omega (arith, inside)) in
            record {
              before = pre;
              field = part field.name f.0;
              behind = g.0;
              whole = g.1;
              name = elim (bind_err (field.read (front ++ bit ∷ [])) (λ x. k x (bits_of pre ++ (front ++ bit ∷ []))) (Bad 1 reason) stopped) [
                | at_first h ↦ (field.reads.bad (front ++ bit ∷ []) 1 reason h).0
                | at_second x h k-stopped ↦
                    let o = field.reads.found (front ++ bit ∷ []) x.0 x.1 h in
                    let w = (second x.0 o.0 o.1).bad x.1 1 reason (ap (λ (t : List Bool). k x t) (sym (whole_is (front ++ bit ∷ []) o.0 x.1 o.2)) ∙ k-stopped) in
                    let less : length o.0 ≤ length front =
                    omega (arith, ap (λ (l : List Bool). length l) o.2, ap (λ (l : List Bool). length l) w.split, length-append o.0 x.1, length-append front (bit ∷ []), length-append w.front (w.bit ∷ w.back)) in
                    let shorter = longer_front front (bit ∷ []) o.0 x.1 o.2 less in
                    let whole : f.0 ≡ o.0 ++ (shorter.0 ++ longer.0) = longer.1 ∙ ap (λ (l : List Bool). l ++ longer.0) shorter.1 ∙ append_assoc o.0 shorter.0 longer.0 in
                    let none : shorter.0 ++ longer.0 ≡ [] = none_longer field b.0.0 x.0 o.0 (shorter.0 ++ longer.0) (subst (λ (l : List Bool). field.Spells b.0.0 l) whole f.1) o.1 in
                    absurd (omega (arith, inside, less, ap (λ (l : List Bool). length l) (whole ∙ ap (λ (l : List Bool). o.0 ++ l) none ∙ append-nil o.0)))
              ];
              from = omega arith;
              upto = omega (arith, inside);
            }
        | inr behind ↦
            let longer = longer_front front back f.0 b.0.1 f.2 behind in
            let split : front ++ bit ∷ [] ≡ f.0 ++ (longer.0 ++ bit ∷ []) = ap (λ (l : List Bool). l ++ bit ∷ []) longer.1 ∙ append_assoc f.0 longer.0 (bit ∷ []) in
            let again : field.read (front ++ bit ∷ []) ≡ Ok (b.0.0, longer.0 ++ bit ∷ []) = ap field.read split ∙ field.reads.again b.0.0 f.0 (longer.0 ++ bit ∷ []) f.1 in
            subst (λ (n : ℕ). IsInField (parts_of command) n reason) (place_is f.0 longer.0 ∙ ap (λ (l : List Bool). length (bits_of pre) + length l) (sym longer.1)) ((second b.0.0 f.0 f.1).named longer.0 bit reason
            (ap (λ (w : List Bool). k (b.0.0, longer.0 ++ bit ∷ []) w) (sym (whole_is (front ++ bit ∷ []) f.0 (longer.0 ++ bit ∷ []) split))
            ∙ sym (bind_to (field.read (front ++ bit ∷ [])) (λ x. k x (bits_of pre ++ (front ++ bit ∷ []))) (b.0.0, longer.0 ++ bit ∷ []) again) ∙ stopped)
            back command rest (subst (λ (t : List Bool). k (b.0.0, t) (bits_of (pre ++ part field.name f.0 ∷ []) ++ t) ≡ Ok (command, rest)) longer.2 goes_on))
      ];
} where
  whole_is : (bits front rest : List Bool) → bits ≡ front ++ rest → bits_of pre ++ bits ≡ bits_of (pre ++ part field.name front ∷ []) ++ rest
  whole_is bits front rest e = ap (λ (l : List Bool). bits_of pre ++ l) e ∙ bits_of-more pre field.name front rest

  -- a place behind the field
  place_is : (front rest : List Bool) → length (bits_of (pre ++ part field.name front ∷ [])) + length rest ≡ length (bits_of pre) + length (front ++ rest)
  place_is front rest =
      omega (arith, ap (λ (l : List Bool). length l) (bits_of-append pre (part field.name front ∷ [])), length-append (bits_of pre) (front ++ []), length-append front [], length-append front rest)

  spelled : (command : Command) (bits : List Bool) (more : List Part) → parts_of command ≡ (pre ++ part field.name bits ∷ []) ++ more → spelling_of command ≡ bits_of pre ++ (bits ++ bits_of more)
  spelled command bits more e = ap bits_of e ∙ bits_of-append (pre ++ part field.name bits ∷ []) more ∙ sym (bits_of-more pre field.name bits (bits_of more))

  regroup : (a b c d : List Bool) → a ++ ((b ++ c) ++ d) ≡ (a ++ b) ++ (c ++ d)
  regroup a b c d = ap (λ (l : List Bool). a ++ l) (append_assoc b c d) ∙ sym (append_assoc a b (c ++ d))

-- ... one whose value decides the bits
pub same_then : {A : Type 0} (pre : List Part) (field : SpelledField A) (k : A × List Bool → List Bool → Reading Command) (some : A)
    → ((value : A) → ReadsOn (pre ++ part field.name (field.spell value) ∷ []) (λ whole rest. k (value, rest) whole)) → ReadsOn pre (λ whole bits. field.read bits >>= λ x. k x whole)
same_then {A} pre field k some second =
    reads_field_then pre (kind_of field) k
    (λ value bits h. subst (λ (l : List Bool). ReadsOn (pre ++ part field.name l ∷ []) (λ whole rest. k (value, rest) whole)) (sym h) (second value))
    (record { value = some; bits = field.spell some; spelled = refl })

-- ---- a command is read again

-- behind the fields `pre` the reader reads the command from the fields `more`
pub record Goes (pre more : List Part) (read : List Bool → List Bool → Reading Command) (command : Command) : Type 0 where
  pub to : (rest : List Bool) → read (bits_of pre ++ (bits_of more ++ rest)) (bits_of more ++ rest) ≡ Ok (command, rest)

pub goes_whole : (pre : List Part) (command : Command) → Goes pre [] (λ whole bits. Ok (command, bits)) command
goes_whole pre command = record { to = λ rest. refl }

pub goes_then : {A : Type 0} (pre more : List Part) (field : FieldKind A) (k : A × List Bool → List Bool → Reading Command) (command : Command) (it : FieldValue field)
    → Goes (pre ++ part field.name it.bits ∷ []) more (λ whole rest. k (it.value, rest) whole) command → Goes pre (part field.name it.bits ∷ more) (λ whole bits. field.read bits >>= λ x. k x whole) command
goes_then pre more field k command it goes = record {
  to = λ rest.
      let bits : List Bool = it.bits in
      let e : field.read ((bits ++ bits_of more) ++ rest) ≡ Ok (it.value, bits_of more ++ rest) = ap field.read (append_assoc bits (bits_of more) rest) ∙ field.reads.again it.value bits (bits_of more ++ rest) it.spelled in
      let t : bits_of pre ++ ((bits ++ bits_of more) ++ rest) ≡ bits_of (pre ++ part field.name bits ∷ []) ++ (bits_of more ++ rest) =
      ap (λ (m : List Bool). bits_of pre ++ m) (append_assoc bits (bits_of more) rest) ∙ bits_of-more pre field.name bits (bits_of more ++ rest) in
      bind_to (field.read ((bits ++ bits_of more) ++ rest)) (λ y. k y (bits_of pre ++ ((bits ++ bits_of more) ++ rest))) (it.value, bits_of more ++ rest) e
      ∙ ap (λ (m : List Bool). k (it.value, bits_of more ++ rest) m) t ∙ goes.to rest;
}

pub goes_same : {A : Type 0} (pre more : List Part) (field : SpelledField A) (k : A × List Bool → List Bool → Reading Command) (command : Command) (value : A)
    → Goes (pre ++ part field.name (field.spell value) ∷ []) more (λ whole rest. k (value, rest) whole) command → Goes pre (part field.name (field.spell value) ∷ more) (λ whole bits. field.read bits >>= λ x. k x whole) command
goes_same pre more field k command value goes = goes_then pre more (kind_of field) k command (record { value = value; bits = field.spell value; spelled = refl }) goes

-- ---- check numbers

before_is : (front back : List Bool) → before (front ++ back) back ≡ front
before_is front back = take_at front back (length (front ++ back) - length back) (omega (arith, length-append front back))

check5 : (front back : List Bool) → crc5_at (front ++ back) back ≡ exactly_at (crc5_of front) reasons.Crc5 back
unfolding crc5_at
check5 front back = ap (λ (l : List Bool). exactly_at (crc5_of l) reasons.Crc5 back) (before_is front back)

check16 : (front back : List Bool) → crc16_at (front ++ back) back ≡ exactly_at (crc16_of front) reasons.Crc16 back
unfolding crc16_at
check16 front back = ap (λ (l : List Bool). exactly_at (crc16_of l) reasons.Crc16 back) (before_is front back)

pub reads_crc5_then : (pre : List Part) (k : Unit {0} × List Bool → List Bool → Reading Command) → ReadsOn (pre ++ part (Some reasons.Crc5) (crc5_of (bits_of pre)) ∷ []) (λ whole rest. k (tt, rest) whole)
    → ReadsOn pre (λ whole bits. crc5_at whole bits >>= λ x. k x whole)
reads_crc5_then pre k second =
    reads_same pre (λ whole bits. exactly_at (crc5_of (bits_of pre)) reasons.Crc5 bits >>= λ x. k x whole) (λ whole bits. crc5_at whole bits >>= λ x. k x whole)
    (λ bits. ap (λ (r : Reading (Unit {0})). r >>= λ x. k x (bits_of pre ++ bits)) (check5 (bits_of pre) bits))
    (same_then pre (exact_field reasons.Crc5 (crc5_of (bits_of pre))) k tt (λ value. second))

pub reads_crc16_then : (pre : List Part) (k : Unit {0} × List Bool → List Bool → Reading Command) → ReadsOn (pre ++ part (Some reasons.Crc16) (crc16_of (bits_of pre)) ∷ []) (λ whole rest. k (tt, rest) whole)
    → ReadsOn pre (λ whole bits. crc16_at whole bits >>= λ x. k x whole)
reads_crc16_then pre k second =
    reads_same pre (λ whole bits. exactly_at (crc16_of (bits_of pre)) reasons.Crc16 bits >>= λ x. k x whole) (λ whole bits. crc16_at whole bits >>= λ x. k x whole)
    (λ bits. ap (λ (r : Reading (Unit {0})). r >>= λ x. k x (bits_of pre ++ bits)) (check16 (bits_of pre) bits))
    (same_then pre (exact_field reasons.Crc16 (crc16_of (bits_of pre))) k tt (λ value. second))

pub goes_crc5 : (pre more : List Part) (k : Unit {0} × List Bool → List Bool → Reading Command) (command : Command) → Goes (pre ++ part (Some reasons.Crc5) (crc5_of (bits_of pre)) ∷ []) more (λ whole rest. k (tt, rest) whole) command
    → Goes pre (part (Some reasons.Crc5) (crc5_of (bits_of pre)) ∷ more) (λ whole bits. crc5_at whole bits >>= λ x. k x whole) command
goes_crc5 pre more k command goes = record {
  to = λ rest.
      let all : List Bool = bits_of (part (Some reasons.Crc5) (crc5_of (bits_of pre)) ∷ more) ++ rest in
      ap (λ (r : Reading (Unit {0})). r >>= λ x. k x (bits_of pre ++ all)) (check5 (bits_of pre) all)
      ∙ (goes_same pre more (exact_field reasons.Crc5 (crc5_of (bits_of pre))) k command tt goes).to rest;
}

pub goes_crc16 : (pre more : List Part) (k : Unit {0} × List Bool → List Bool → Reading Command) (command : Command) → Goes (pre ++ part (Some reasons.Crc16) (crc16_of (bits_of pre)) ∷ []) more (λ whole rest. k (tt, rest) whole) command
    → Goes pre (part (Some reasons.Crc16) (crc16_of (bits_of pre)) ∷ more) (λ whole bits. crc16_at whole bits >>= λ x. k x whole) command
goes_crc16 pre more k command goes = record {
  to = λ rest.
      let all : List Bool = bits_of (part (Some reasons.Crc16) (crc16_of (bits_of pre)) ∷ more) ++ rest in
      ap (λ (r : Reading (Unit {0})). r >>= λ x. k x (bits_of pre ++ all)) (check16 (bits_of pre) all)
      ∙ (goes_same pre more (exact_field reasons.Crc16 (crc16_of (bits_of pre))) k command tt goes).to rest;
}
