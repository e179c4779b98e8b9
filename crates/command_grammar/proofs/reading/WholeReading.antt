-- What reading all of the bits says of the family of spellings.
use Rattle.std.proofs.Common.{◌≡◌, ℕ, suc, ◌+◌, ◌-◌, ◌<◌, ◌≤◌, Bool, true, false, cond, List, [], ◌∷◌, ◌++◌, length, take, Result, Ok, Err, refl, sym, ap, subst, ◌∙◌, append_assoc, append-nil, length-append, inl, inr, arith}
use Rattle.std.specs.Prelude.{◌==◌, ◌⊎◌}
use Rattle.std.proofs.lemmas.List.{take_at, length-take-le}
use Rattle.std.proofs.lemmas.Bool.Decides.{nat_tests}
use Rattle.bit_strings.specs.Family.{IsShortAt}
use Rattle.command_grammar.specs.declared.commands.Command.{Command}
use Rattle.command_grammar.specs.declared.refusal.Reason.{Reason}
use Rattle.command_grammar.specs.declared.refusal.Reason.TheVariants as reasons
use Rattle.command_grammar.specs.reading.Readers.{Stop, Short, Bad, Reading}
use Rattle.command_grammar.specs.reading.CommandFields.{command_at, all_of}
use Rattle.command_grammar.specs.Commands.{parts_of, spelling_of, IsLegalCommand, SpellsCommand, Spellings, IsInField, IsField, IsCommandRefusedAt}
use Rattle.command_grammar.proofs.reading.Readers.{bind_ok, bind_err, bind_to, at_first, at_second}
use Rattle.command_grammar.proofs.reading.FieldsInOrder.{longer_front}
use Rattle.command_grammar.proofs.OneField.{one_name, stands_inside}
use Rattle.command_grammar.proofs.reading.EachCommand.{reads_command, goes_command}

-- a command is read again from its spelling, whatever follows
pub command_again : (command : Command) (rest : List Bool) → IsLegalCommand command → command_at (spelling_of command ++ rest) ≡ Ok (command, rest)
unfolding command_at
command_again command rest legal = (goes_command command legal).to rest

ok_pair : (x y : Command × List Bool) → ◌≡◌ {A = Reading Command} (Ok x) (Ok y) → x ≡ y
ok_pair x y e = cc

-- two commands at the front of the same bits are one, and so is what follows
pub same_command : (c d : Command) (rest more : List Bool) → IsLegalCommand c → IsLegalCommand d → spelling_of c ++ rest ≡ spelling_of d ++ more → (c ≡ d) × (rest ≡ more)
same_command c d rest more legal_c legal_d e =
    let pair = ok_pair (c, rest) (d, more) (sym (command_again c rest legal_c) ∙ ap command_at e ∙ command_again d more legal_d) in
    (ap (λ (p : Command × List Bool). p.0) pair, ap (λ (p : Command × List Bool). p.1) pair)

-- ---- the test for bits behind the command

abbrev whole_only : Command × List Bool → Result Command Stop
whole_only read = cond (length read.1 == 0) (Ok read.0) (Err (Bad (length read.1) reasons.Extra))

abbrev result : Result Command Stop → Result Command Stop
result r = r

whole_ok : (b : Bool) (x : Command × List Bool) (c : Command) → cond b (Ok x.0) (Err (Bad (length x.1) reasons.Extra)) ≡ Ok c → (b ≡ true) × (x.0 ≡ c)
whole_ok true x c e = (refl, cc)
whole_ok false x c e = absurd cc

whole_short : (b : Bool) (x : Command × List Bool) → result (cond b (Ok x.0) (Err (Bad (length x.1) reasons.Extra))) ≡ Err Short → ⊥
whole_short true x e = cc
whole_short false x e = cc

whole_bad : (b : Bool) (x : Command × List Bool) (left : ℕ) (reason : Reason) → result (cond b (Ok x.0) (Err (Bad (length x.1) reasons.Extra))) ≡ Err (Bad left reason) → (b ≡ false) × (left ≡ length x.1) × (reason ≡ reasons.Extra)
whole_bad true x left reason e = absurd cc
whole_bad false x left reason e = (refl, cc, cc)

no_bits : (bits : List Bool) → (length bits == 0) ≡ true → bits ≡ []
no_bits [] e = refl
no_bits (b ∷ bits) e = let h : suc (length bits) ≡ 0 = grind (arith, nat_tests) in absurd (omega arith)

-- ---- whole

pub all_again : (command : Command) (bits : List Bool) → SpellsCommand command bits → all_of bits ≡ Ok command
unfolding all_of
all_again command bits spells =
    let e : command_at bits ≡ Ok (command, []) = ap command_at (spells.spelled ∙ sym (append-nil (spelling_of command))) ∙ command_again command [] spells.legal in
    bind_to (command_at bits) whole_only (command, []) e

pub all_whole : (command : Command) (bits : List Bool) → all_of bits ≡ Ok command → SpellsCommand command bits
unfolding all_of command_at
all_whole command bits e =
    let b = bind_ok (command_at bits) whole_only command e in
    let w = whole_ok (length b.0.1 == 0) b.0 command b.2 in
    let f = reads_command.found bits b.0.0 b.0.1 b.1 in
    record {
      legal = subst IsLegalCommand w.1 f.0;
      spelled = f.1 ∙ ap (λ (l : List Bool). spelling_of b.0.0 ++ l) (no_bits b.0.1 w.0) ∙ append-nil (spelling_of b.0.0) ∙ ap spelling_of w.1;
    }

-- ---- short

ok_not_err : (command : Command) (stop : Stop) → ◌≡◌ {A = Result Command Stop} (Ok command) (Err stop) → ⊥
ok_not_err command stop e = cc

pub all_short : (bits : List Bool) → all_of bits ≡ Err Short → IsShortAt Spellings bits (length bits)
unfolding all_of command_at
all_short bits e = record {
  whole = refl;
  begins = elim (bind_err (command_at bits) whole_only Short e) [
    | at_first h ↦ let f = reads_command.short bits h in (f.1, (f.0, record { legal = f.2; spelled = sym f.3 }))
    | at_second x h k ↦ absurd (whole_short (length x.1 == 0) x k)
  ];
  no_member = λ member. ok_not_err member.0 Short (sym (all_again member.0 bits member.1) ∙ e);
}

-- ---- bad

reading_not_err : (x : Command × List Bool) (stop : Stop) → ◌≡◌ {A = Reading Command} (Ok x) (Err stop) → ⊥
reading_not_err x stop e = cc

-- at the bit behind the front
refused_behind : (bits front : List Bool) (bit : Bool) (back : List Bool) (left : ℕ) → bits ≡ front ++ bit ∷ back → left ≡ length back + 1 → (place : ℕ) × (place ≡ length bits - left) × (place ≡ length front) × (place < length bits) × (take place bits ≡ front) × (take (place + 1) bits ≡ front ++ bit ∷ [])
refused_behind bits front bit back left split left-is =
    let long : length bits ≡ length front + (length back + 1) = omega (arith, ap (λ (l : List Bool). length l) split, length-append front (bit ∷ back)) in (
      length front,
      omega arith,
      refl,
      omega arith,
      ap (take (length front)) split ∙ take_at front (bit ∷ back) (length front) refl,
      ap (take (length front + 1)) (split ∙ sym (append_assoc front (bit ∷ []) back)) ∙ take_at (front ++ bit ∷ []) back (length front + 1) (omega (arith, length-append front (bit ∷ []))),
    )

pub all_bad : (bits : List Bool) (left : ℕ) (reason : Reason) → all_of bits ≡ Err (Bad left reason) → (left ≤ length bits) × IsCommandRefusedAt bits (length bits - left) reason
unfolding all_of command_at
all_bad bits left reason e = elim (bind_err (command_at bits) whole_only (Bad left reason) e) [
  | at_first h ↦
      let w = reads_command.bad bits left reason h in
      let p = refused_behind bits w.front w.bit w.back left w.split w.left_is in (
        omega (arith, w.left_is, ap (λ (l : List Bool). length l) w.split, length-append w.front (w.bit ∷ w.back)),
        subst (λ (place : ℕ). IsCommandRefusedAt bits place reason) p.1 (record {
          bad = record {
            inside = p.3;
            begins = (w.more, (w.command, record { legal = w.legal; spelled = ap (λ (l : List Bool). l ++ w.more) p.4 ∙ sym w.begins }));
            stops = λ member.
                let more = member.0 in
                let command = member.1.0 in
                let spells = member.1.1 in
                let t : spelling_of command ++ [] ≡ w.front ++ w.bit ∷ more =
                append-nil (spelling_of command) ∙ sym spells.spelled ∙ ap (λ (l : List Bool). l ++ more) p.5 ∙ append_assoc w.front (w.bit ∷ []) more in
                reading_not_err (command, []) (Bad (length more + 1) reason) (sym (command_again command [] spells.legal) ∙ ap command_at t ∙ w.stays more);
          };
          name = inr (record {
            command = w.command;
            legal = w.legal;
            more = w.more;
            begins = w.begins ∙ ap (λ (l : List Bool). l ++ w.more) (sym p.4);
            stands = subst (λ (n : ℕ). IsInField (parts_of w.command) n reason) (omega (arith, p.2)) w.stands;
          });
        }),
      )
  | at_second x h k ↦
      let w = whole_bad (length x.1 == 0) x left reason k in
      let f = reads_command.found bits x.0 x.1 h in
      extra bits x.0 x.1 left reason f.0 f.1 w.0 w.1 w.2
] where
  extra : (bits : List Bool) (c : Command) (rest : List Bool) (left : ℕ) (reason : Reason) → IsLegalCommand c → bits ≡ spelling_of c ++ rest → (length rest == 0) ≡ false → left ≡ length rest → reason ≡ reasons.Extra → (left ≤ length bits) × IsCommandRefusedAt bits (length bits - left) reason
  extra bits c [] left reason legal split some left-is name = absurd cc
  extra bits c (b ∷ back) left reason legal split some left-is name =
      let p = refused_behind bits (spelling_of c) b back left split (omega (arith, left-is)) in (
        omega (arith, left-is, ap (λ (l : List Bool). length l) split, length-append (spelling_of c) (b ∷ back)),
        subst (λ (place : ℕ). IsCommandRefusedAt bits place reason) p.1 (record {
          bad = record {
            inside = p.3;
            begins = ([], (c, record { legal = legal; spelled = append-nil (take p.0 bits) ∙ p.4 }));
            stops = λ member.
                let more = member.0 in
                let d = member.1.0 in
                let spells = member.1.1 in
                let t : spelling_of c ++ b ∷ more ≡ spelling_of d ++ [] =
                sym (append_assoc (spelling_of c) (b ∷ []) more) ∙ ap (λ (l : List Bool). l ++ more) (sym p.5) ∙ spells.spelled ∙ sym (append-nil (spelling_of d)) in
                let s = (same_command c d (b ∷ more) [] legal spells.legal t).1 in
                absurd cc;
          };
          name = inl (name, (c, record { legal = legal; spelled = p.4 }));
        }),
      )

-- ---- the reason

-- the reader stops at the last bit with the reason of each command that begins with the bits before
pub all_named : (bits : List Bool) (place : ℕ) (bit : Bool) (reason one : Reason) → place ≤ length bits → all_of (take place bits ++ bit ∷ []) ≡ Err (Bad 1 reason)
    → ((one ≡ reasons.Extra) × Spellings (take place bits)) ⊎ IsField bits place one → one ≡ reason
unfolding all_of command_at
all_named bits place bit reason one inside e name = elim (bind_err (command_at (take place bits ++ bit ∷ [])) whole_only (Bad 1 reason) e) [
  | at_first h ↦ elim name [
    | inl extra ↦
        let command = extra.1.0 in
        let spells = extra.1.1 in
        let again = ap (λ (l : List Bool). command_at (l ++ bit ∷ [])) spells.spelled ∙ command_again command (bit ∷ []) spells.legal in
        absurd (reading_not_err (command, bit ∷ []) (Bad 1 reason) (sym again ∙ h))
    | inr field ↦
        let again : command_at (take place bits ++ field.more) ≡ Ok (field.command, []) = ap command_at (sym field.begins ∙ sym (append-nil (spelling_of field.command))) ∙ command_again field.command [] field.legal in
        let stands = reads_command.named (take place bits) bit reason h field.more field.command [] again in
        one_name (parts_of field.command) place one reason field.stands (subst (λ (n : ℕ). IsInField (parts_of field.command) n reason) (omega (arith, length-take-le place bits inside)) stands)
  ]
  | at_second x h k ↦
      let w = whole_bad (length x.1 == 0) x 1 reason k in
      elim name [
        | inl extra ↦ extra.0 ∙ sym w.2
        | inr field ↦
            let f = reads_command.found (take place bits ++ bit ∷ []) x.0 x.1 h in
            let front : length (take place bits) ≡ place = length-take-le place bits inside in
            let less : length (spelling_of x.0) ≤ length (take place bits) =
            omega (arith, w.1, ap (λ (l : List Bool). length l) f.1, length-append (take place bits) (bit ∷ []), length-append (spelling_of x.0) x.1) in
            let longer = longer_front (take place bits) (bit ∷ []) (spelling_of x.0) x.1 f.1 less in
            let t : spelling_of x.0 ++ (longer.0 ++ field.more) ≡ spelling_of field.command ++ [] =
            sym (append_assoc (spelling_of x.0) longer.0 field.more) ∙ ap (λ (l : List Bool). l ++ field.more) (sym longer.1) ∙ sym field.begins ∙ sym (append-nil (spelling_of field.command)) in
            let none = (same_command x.0 field.command (longer.0 ++ field.more) [] f.0 field.legal t).1 in
            absurd (omega (
              arith,
              front,
              stands_inside (parts_of field.command) place one field.stands,
              ap (λ (l : List Bool). length l) field.begins,
              length-append (take place bits) field.more,
              ap (λ (l : List Bool). length l) none,
              length-append longer.0 field.more,
            ))
      ]
]
