-- One spelling a command, and one answer for each list of bits.
use Rattle.std.proofs.Common.{◌≡◌, ℕ, suc, ◌+◌, ◌-◌, ◌<◌, ◌≤◌, Bool, true, List, [], ◌∷◌, ◌++◌, length, take, drop, get_or, take-suc, Result, Ok, Err, refl, sym, ap, subst, ◌∙◌, append_assoc, append-nil, length-append, inl, inr, arith}
use Rattle.std.specs.Prelude.{◌⊎◌, Option, Some}
use Rattle.std.proofs.lemmas.Bool.{cases_lt}
use Rattle.std.proofs.lemmas.List.{take-append-drop, take-take, take-append-le, take_at, take_all, length-take-le}
use Rattle.command_grammar.specs.declared.refusal.Reason.{Reason}
use Rattle.bit_strings.specs.Family.{Begins, IsBadAt, IsShortAt}
use Rattle.command_grammar.specs.declared.commands.Command.{Command}
use Rattle.command_grammar.specs.declared.refusal.CommandRefusal.{CommandRefusal}
use Rattle.command_grammar.specs.declared.refusal.CommandRefusal.TheVariants as refusals
use Rattle.command_grammar.specs.reading.Readers.{Stop, Short, Bad}
use Rattle.command_grammar.specs.reading.CommandFields.{all_of}
use Rattle.command_grammar.specs.reading.Framing.{Keeps}
use Rattle.command_grammar.specs.declared.reader.command_in_progress.State.{State}
use Rattle.command_grammar.specs.Commands.{spelling_of, SpellsCommand, Spellings, IsCommandRefusedAt, IsFinishAnswer}
use Rattle.command_grammar.proofs.reading.WholeReading.{same_command, all_whole, all_short, all_bad, all_named}

pub one_command : (c d : Command) (bits : List Bool) → SpellsCommand c bits → SpellsCommand d bits → c ≡ d
one_command c d bits left right =
    (same_command c d [] [] left.legal right.legal (ap (λ (l : List Bool). l ++ []) (sym left.spelled ∙ right.spelled))).0

pub none_behind : (c d : Command) (bits more : List Bool) → SpellsCommand c bits → SpellsCommand d (bits ++ more) → more ≡ []
none_behind c d bits more left right =
    (same_command c d more [] left.legal right.legal (ap (λ (l : List Bool). l ++ more) (sym left.spelled) ∙ right.spelled ∙ sym (append-nil (spelling_of d)))).1

-- ---- places of refusal, of any family

begins_front : (X : List Bool → Type 0) (front back : List Bool) → Begins X (front ++ back) → Begins X front
begins_front X front back member = (back ++ member.0, subst X (append_assoc front back member.0) member.1)

begins_take : (X : List Bool → Type 0) (bits : List Bool) (n m : ℕ) → n ≤ m → Begins X (take m bits) → Begins X (take n bits)
begins_take X bits n m less member =
    let front : take n (take m bits) ≡ take n bits = take-take n m bits less in
    subst (λ (l : List Bool). Begins X l) front (begins_front X (take n (take m bits)) (drop n (take m bits)) (subst (λ (l : List Bool). Begins X l) (sym (take-append-drop n (take m bits))) member))

pub one_place : (X : List Bool → Type 0) (bits : List Bool) (p q : ℕ) → IsBadAt X bits p → IsBadAt X bits q → p ≡ q
one_place X bits p q left right =
    elim (cases_lt p q) [
      | inl less ↦ absurd (left.stops (begins_take X bits (p + 1) q (omega arith) right.begins))
      | inr within ↦ elim (cases_lt q p) [
        | inl less ↦ absurd (right.stops (begins_take X bits (q + 1) p (omega arith) left.begins))
        | inr back ↦ omega arith
      ]
    ]

pub not_begun : (X : List Bool → Type 0) (bits : List Bool) (place : ℕ) → Begins X bits → IsBadAt X bits place → ⊥
not_begun X bits place member bad = bad.stops (begins_front X (take (place + 1) bits) (drop (place + 1) bits) (subst (λ (l : List Bool). Begins X l) (sym (take-append-drop (place + 1) bits)) member))

pub begun : (X : List Bool → Type 0) (bits : List Bool) → X bits → Begins X bits
begun X bits member = ([], subst X (sym (append-nil bits)) member)

-- a place of refusal stays where bits are added
pub still_bad : (X : List Bool → Type 0) (bits : List Bool) (bit : Bool) (place : ℕ) → IsBadAt X bits place → IsBadAt X (bits ++ bit ∷ []) place
still_bad X bits bit place bad = record {
  inside = omega (arith, bad.inside, length-append bits (bit ∷ []));
  begins = subst (λ (l : List Bool). Begins X l) (sym (take-append-le place bits (bit ∷ []) (omega (arith, bad.inside)))) bad.begins;
  stops = λ member. bad.stops (subst (λ (l : List Bool). Begins X l) (take-append-le (place + 1) bits (bit ∷ []) (omega (arith, bad.inside))) member);
}

-- ... with its name
pub still_refused : (bits : List Bool) (bit : Bool) (place : ℕ) (reason : Reason) → IsCommandRefusedAt bits place reason → IsCommandRefusedAt (bits ++ bit ∷ []) place reason
still_refused bits bit place reason refused =
    let front : take place (bits ++ bit ∷ []) ≡ take place bits = take-append-le place bits (bit ∷ []) (omega (arith, refused.bad.inside)) in
    record {
      bad = still_bad Spellings bits bit place refused.bad;
      name = elim (refused.name) [
        | inl extra ↦ inl (extra.0, (extra.1.0, record { legal = extra.1.1.legal; spelled = front ∙ extra.1.1.spelled }))
        | inr field ↦ inr (record { command = field.command; legal = field.legal; more = field.more; begins = field.begins ∙ ap (λ (l : List Bool). l ++ field.more) (sym front); stands = field.stands })
      ];
    }

-- refused bits are no spelling
pub not_spelled : (bits : List Bool) (place : ℕ) → Spellings bits → IsBadAt Spellings bits place → ⊥
not_spelled bits place member bad = not_begun Spellings bits place (begun Spellings bits member) bad

abbrev Answer : List Bool → Type 0
Answer bits = Spellings bits ⊎ (IsShortAt Spellings bits (length bits) ⊎ ((place : ℕ) × IsBadAt Spellings bits place))

answer : (bits : List Bool) (read : Result Command Stop) → all_of bits ≡ read → Answer bits
answer bits (Ok command) e = inl (command, all_whole command bits e)
answer bits (Err Short) e = inr (inl (all_short bits e))
answer bits (Err (Bad left reason)) e = inr (inr (length bits - left, (all_bad bits left reason e).1.bad))

pub some_answer : (bits : List Bool) → Answer bits
some_answer bits = answer bits (all_of bits) refl

-- ---- one outcome

-- of the bits up to the place of refusal the reader stops at the last one
stops_last : (bits : List Bool) (place : ℕ) (bit : Bool) → IsBadAt Spellings bits place → take (place + 1) bits ≡ take place bits ++ bit ∷ [] → (reason : Reason) × (all_of (take place bits ++ bit ∷ []) ≡ Err (Bad 1 reason))
stops_last bits place bit bad split = read_is (all_of now) refl
  where
    now : List Bool
    now = take place bits ++ bit ∷ []

    none : Begins Spellings now → ⊥
    none member = bad.stops (subst (λ (l : List Bool). Begins Spellings l) (sym split) member)

    front : length (take place bits) ≡ place
    front = length-take-le place bits (omega (arith, bad.inside))

    last : IsBadAt Spellings now place
    last = record {
      inside = omega (arith, front, length-append (take place bits) (bit ∷ []));
      begins = subst (λ (l : List Bool). Begins Spellings l) (sym (take_at (take place bits) (bit ∷ []) place front)) bad.begins;
      stops = λ member. none (subst (λ (l : List Bool). Begins Spellings l) (take_all (place + 1) now (omega (arith, front, length-append (take place bits) (bit ∷ [])))) member);
    }

    read_is : (read : Result Command Stop) → all_of now ≡ read → (reason : Reason) × (all_of now ≡ Err (Bad 1 reason))
    read_is (Ok command) e = absurd (none (begun Spellings now (command, all_whole command now e)))
    read_is (Err Short) e = absurd (none (all_short now e).begins)
    read_is (Err (Bad left reason)) e =
        let h = all_bad now left reason e in
        let one : left ≡ 1 = omega (arith, h.0, front, length-append (take place bits) (bit ∷ []), one_place Spellings now (length now - left) place h.1.bad last) in
        (reason, e ∙ ap (λ n. Err (Bad n reason)) one)

-- the reason is the one for which the reader stops there
pub one_refusal : (bits : List Bool) (p q : ℕ) (one other : Reason) → IsCommandRefusedAt bits p one → IsCommandRefusedAt bits q other → (p ≡ q) × (one ≡ other)
one_refusal bits p q one other left right =
    let place : q ≡ p = one_place Spellings bits q p right.bad left.bad in
    let same : IsCommandRefusedAt bits p other = subst (λ n. IsCommandRefusedAt bits n other) place right in
    let inside : p < length bits = left.bad.inside in
    let bit : Bool = get_or bits p true in
    let next : suc p ≡ p + 1 = omega arith in
    let s = stops_last bits p bit left.bad (ap (λ n. take n bits) (sym next) ∙ take-suc bits p true inside) in
    (sym place, all_named bits p bit s.0 one (omega (arith, inside)) s.1 left.name ∙ sym (all_named bits p bit s.0 other (omega (arith, inside)) s.1 same.name))

pub one_outcome : (bits : List Bool) (one other : Result Command CommandRefusal) → IsFinishAnswer one bits → IsFinishAnswer other bits → one ≡ other
one_outcome bits (Ok command) (Ok other) left right = ap (λ (c : Command). Ok c) (one_command command other bits left right)
one_outcome bits (Ok command) (Err (refusals.At place reason)) left right = absurd (not_spelled bits place (command, left) right.bad)
one_outcome bits (Ok command) (Err (refusals.Short count)) left right = absurd (right.no_member (command, left))
one_outcome bits (Err (refusals.At place reason)) (Ok command) left right = absurd (not_spelled bits place (command, right) left.bad)
one_outcome bits (Err (refusals.At place reason)) (Err (refusals.At other name)) left right =
    let same = one_refusal bits place other reason name left right in
    rw (same.0, same.1) refl
one_outcome bits (Err (refusals.At place reason)) (Err (refusals.Short count)) left right = absurd (not_begun Spellings bits place right.begins left.bad)
one_outcome bits (Err (refusals.Short count)) (Ok command) left right = absurd (left.no_member (command, right))
one_outcome bits (Err (refusals.Short count)) (Err (refusals.At place reason)) left right = absurd (not_begun Spellings bits place left.begins right.bad)
one_outcome bits (Err (refusals.Short count)) (Err (refusals.Short other)) left right = ap (λ n. Err (refusals.Short n)) (left.whole ∙ sym right.whole)

pub some_outcome : (bits : List Bool) → (outcome : Result Command CommandRefusal) × IsFinishAnswer outcome bits
some_outcome bits = outcome (all_of bits) refl
  where
    outcome : (read : Result Command Stop) → all_of bits ≡ read → (outcome : Result Command CommandRefusal) × IsFinishAnswer outcome bits
    outcome (Ok command) e = (Ok command, all_whole command bits e)
    outcome (Err Short) e = (Err (refusals.Short (length bits)), all_short bits e)
    outcome (Err (Bad left reason)) e = (Err (refusals.At (length bits - left) reason), (all_bad bits left reason e).1)

-- ---- a Framer that was refused

pub stands_refused : (state more : State) (pushed : ℕ) (refused : Option (ℕ × Reason)) (bit : Bool) (place : ℕ) (reason : Reason) → refused ≡ Some (place, reason) → (bits : List Bool) → Keeps state pushed refused bits → Keeps more pushed refused (bits ++ bit ∷ [])
stands_refused state more pushed refused bit place reason is bits stands =
    let h : IsCommandRefusedAt bits place reason = subst (λ (r : Option (ℕ × Reason)). Keeps state pushed r bits) is stands in
    subst (λ (r : Option (ℕ × Reason)). Keeps more pushed r (bits ++ bit ∷ [])) (sym is) (still_refused bits bit place reason h)

pub judges_refused : (state : State) (pushed : ℕ) (refused : Option (ℕ × Reason)) (bit : Bool) (place : ℕ) (reason : Reason) → refused ≡ Some (place, reason) → (bits : List Bool) → Keeps state pushed refused bits → IsCommandRefusedAt (bits ++ bit ∷ []) place reason
judges_refused state pushed refused bit place reason is bits stands =
    still_refused bits bit place reason (subst (λ (r : Option (ℕ × Reason)). Keeps state pushed r bits) is stands)
