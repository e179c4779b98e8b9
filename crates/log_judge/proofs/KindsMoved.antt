-- What a tag that is given words makes of a command, beside what is prepared for it: by the kind of the command.
use Rattle.std.proofs.Common.{◌≡◌, ℕ, ◌-◌, ◌%◌, ◌^◌, ◌<◌, ◌≤◌, ◌==◌, ◌&&◌, Bool, true, false, List, [], ◌∷◌, Option, Some, None, slice_index, if◌then◌else◌, refl, sym, ◌∙◌, ap, subst, arith, inl, inr}
use Rattle.std.proofs.Math.Nat.{mod-eq_of_lt}
use Rattle.std.proofs.lemmas.Nat.{pow_below}
use Rattle.std.proofs.lemmas.Bool.Decides.{eqb_tells}
use Rattle.tag_machine.specs.TagValue.{StateValue, ArbitrateState, BodyValue, TagValue}
use Rattle.tag_machine.specs.Answers.{Outcome, Sent, silent}
use Rattle.tag_machine.specs.Draws.{enter, slot_of_draw}
use Rattle.log_judge.specs.Log.{Seen}
use Rattle.log_judge.specs.Explaining.{seen_of}
use Rattle.log_judge.specs.Verdicts.{Nothing, AnyRn16, NothingOrAnyRn16}
use Rattle.log_judge.specs.laws.Logs.{number_seen}
use Rattle.log_judge.specs.laws.Kinds.{Kind, Settled, Enters, Replies, Gives, reworded}
use Rattle.log_judge.proofs.KindOutcomes.{outcome_from, KeepsSmallQ}
use Rattle.log_judge.specs.laws.Known.{Known, is_enters, slot_word, waits, want_of_answer, want_of_kind}
use Rattle.log_judge.proofs.Guesses.{enters_later, enters_now, full_slot, later_by, now_by, not_zero, slot_below_power, zero_slot}
use Rattle.log_judge.specs.declared.draws.Draws.{Draws}
use Rattle.log_judge.specs.declared.draws.Draws.TheVariants as draws
use Rattle.log_judge.specs.Drawing.{has_drawn, slots_behind, words_given}
use Rattle.log_judge.specs.Wanted.{want_behind, want_in_turn, want_of_number, want_of_slot, want_of_turn}
use Rattle.log_judge.specs.KnownTag.{HasFirstSlot, known_of, known_wordless, wordless}
use Rattle.log_judge.proofs.Fitting.{Fits, IsElsewhere}
use Rattle.log_judge.proofs.Tests.{so_not, some_or_none}

-- the words that are prepared, by what may be drawn
abbrev pub first_guessed : Draws → Option Seen → ℕ
first_guessed (draws.Slot session) seen = slot_word seen
first_guessed it seen = number_seen seen

abbrev pub guess_of : Draws → Option Seen → List ℕ
guess_of drawn seen = first_guessed drawn seen ∷ number_seen seen ∷ []

pub same_words : (drawn : Draws) (seen : Seen) → words_given drawn (Some seen) ≡ guess_of drawn (Some seen)
same_words (draws.Slot session) seen = refl
same_words drawn seen = refl

-- states in which no slot counts
pub not_waiting : (drawn : Draws) (state : StateValue) (most : Option ℕ) → waits state ≡ false → slots_behind drawn state most ≡ None
not_waiting drawn (ArbitrateState session q slot) most other = absurd (so_not other)
not_waiting drawn state most other = refl

-- where no slot is drawn, the largest stays what it was
pub drawn_elsewhere : (drawn : Draws) (own q slot : ℕ) (body : BodyValue) (most : Option ℕ) → Fits drawn (Settled (silent (ArbitrateState own q slot) body))
    → slots_behind drawn (ArbitrateState own q slot) most ≡ most
drawn_elsewhere (draws.Slot session) own q slot body most fits = ap (λ (test : Bool). if test then Some (2 ^ q - 1) else most) fits.1
drawn_elsewhere drawn own q slot body most fits = refl

slots_elsewhere : (session : ℕ) (state : StateValue) → IsElsewhere session state → slots_behind (draws.Slot session) state None ≡ None
slots_elsewhere session (ArbitrateState own q slot) other = ap (λ (test : Bool). if test then Some (2 ^ q - 1) else None) other
slots_elsewhere session state other = refl

unslotted : (drawn : Draws) (state : StateValue) → ((own q slot : ℕ) → slots_behind drawn (ArbitrateState own q slot) None ≡ None) → slots_behind drawn state None ≡ None
unslotted drawn (ArbitrateState own q slot) same = same own q slot
unslotted drawn state same = refl

pub settled_slots : (drawn : Draws) (outcome : Outcome) → Fits drawn (Settled outcome) → slots_behind drawn outcome.tag.state None ≡ None
settled_slots (draws.Slot session) outcome fits = slots_elsewhere session outcome.tag.state fits.1
settled_slots drawn outcome fits = unslotted drawn outcome.tag.state (λ own q slot. refl)

-- Behind a silence, what was given and what is prepared come to one thing that is known.
pub record IsBehind (drawn : Draws) (most : Option ℕ) (any : Bool) (mine its : Outcome) : Type 0 where
  pub known : known_wordless (record { tag = its.tag; any = any && waits its.tag.state }) ≡ known_of mine.tag (slots_behind drawn mine.tag.state most)
  pub first : HasFirstSlot (slots_behind drawn mine.tag.state most) mine.tag.state

-- They come to one answer, and are so behind a silence.
pub record StandsIn (drawn : Draws) (most : Option ℕ) (any : Bool) (mine its : Outcome) : Type 0 where
  pub answers : seen_of mine.answer ≡ seen_of its.answer
  pub behind : seen_of mine.answer ≡ None → IsBehind drawn most any mine its

-- ... where no slot is any behind it
pub stands_known : (drawn : Draws) (most : Option ℕ) (any : Bool) (mine its : Outcome) → seen_of mine.answer ≡ seen_of its.answer → its.tag.state ≡ mine.tag.state
    → wordless its.tag ≡ wordless mine.tag → slots_behind drawn mine.tag.state most ≡ None → (any && waits mine.tag.state) ≡ false → StandsIn drawn most any mine its
stands_known drawn most any mine its answers states tags slots known = record {
  answers = answers;
  behind = λ silent_then. record {
    known = ap (λ (t : TagValue). let it : Known = record { tag = t; any = any && waits its.tag.state } in it) tags
        ∙ ap (λ (x : StateValue). let it : Known = record { tag = wordless mine.tag; any = any && waits x } in it) states
        ∙ ap (λ (x : Bool). let it : Known = record { tag = wordless mine.tag; any = x } in it) known
        ∙ sym (ap (λ (m : Option ℕ). known_of mine.tag m) slots);
    first = subst (λ (m : Option ℕ). HasFirstSlot m mine.tag.state) (sym slots) tt;
  };
}

-- ENTER: a tag that is silent has slot 1, and stands for one with the largest slot
one_slot : (q : ℕ) → 1 ≤ q → 1 % 2 ^ q ≡ 1
one_slot q some =
    let above : 2 ^ 0 < 2 ^ q = pow_below 0 q (omega (arith, some)) in
    mod-eq_of_lt (omega (arith, above))

abbrev mine_entered : ℕ → ℕ → BodyValue → Outcome
mine_entered own q body = enter own q (reworded (1 ∷ 0 ∷ []) 0 body)

abbrev its_entered : ℕ → ℕ → BodyValue → Outcome
its_entered own q body = enter own q (reworded (0xFFFF ∷ 0 ∷ []) 0 body)

module _ (session own : ℕ) (body : BodyValue) (most : Option ℕ) (same : (own == session) ≡ true) where
  at_once : StandsIn (draws.Slot session) most true (mine_entered own 0 body) (its_entered own 0 body)
  at_once = record { answers = refl; behind = λ silent_then. absurd (some_or_none silent_then) }

  later : (q : ℕ) → q ≤ 15 → 1 ≤ q → StandsIn (draws.Slot session) most true (mine_entered own q body) (its_entered own q body)
  later q small some =
      let above : 2 ^ 0 < 2 ^ q = pow_below 0 q (omega (arith, some)) in
      let some_slot : 1 ≤ 2 ^ q - 1 = omega (arith, above) in
      let mine : mine_entered own q body ≡ silent (ArbitrateState own q 1) (reworded (1 ∷ 0 ∷ []) 1 body)
      = later_by (1 ∷ 0 ∷ []) 0 1 1 own q body (one_slot q some) (omega arith) refl in
      let its : its_entered own q body ≡ silent (ArbitrateState own q (2 ^ q - 1)) (reworded (0xFFFF ∷ 0 ∷ []) 1 body)
      = later_by (0xFFFF ∷ 0 ∷ []) 0 1 (2 ^ q - 1) own q body (full_slot q small) some_slot refl in
      let slots : slots_behind (draws.Slot session) (ArbitrateState own q 1) most ≡ Some (2 ^ q - 1) = ap (λ (test : Bool). if test && true then Some (2 ^ q - 1) else most) same in
      let tag : TagValue = record { state = ArbitrateState own q 1; body = reworded (1 ∷ 0 ∷ []) 1 body } in
      let here : StandsIn (draws.Slot session) most true (silent (ArbitrateState own q 1) (reworded (1 ∷ 0 ∷ []) 1 body)) (silent (ArbitrateState own q (2 ^ q - 1)) (reworded (0xFFFF ∷ 0 ∷ []) 1 body))
      = record {
        answers = refl;
        behind = λ silent_then. record {
          known = sym (ap (λ (m : Option ℕ). known_of tag m) slots);
          first = subst (λ (m : Option ℕ). HasFirstSlot m (ArbitrateState own q 1)) (sym slots) (record { session = own; q = q; is = refl; least = some_slot });
        };
      } in
      subst (λ (o : Outcome). StandsIn (draws.Slot session) most true o (its_entered own q body)) (sym mine)
      (subst (λ (o : Outcome). StandsIn (draws.Slot session) most true (silent (ArbitrateState own q 1) (reworded (1 ∷ 0 ∷ []) 1 body)) o) (sym its) here)

  pub entered_silent : (q : ℕ) → q ≤ 15 → StandsIn (draws.Slot session) most true (mine_entered own q body) (its_entered own q body)
  entered_silent q small =
      elim (eqb_tells q 0) [
        | inl w ↦ subst (λ (n : ℕ). StandsIn (draws.Slot session) most true (mine_entered own n body) (its_entered own n body)) (sym w.1) at_once
        | inr w ↦ later q small (omega (arith, w.1))
      ]

-- by the kind, where the slot is known
abbrev pub mine_of : Draws → Kind → Option Seen → Outcome
mine_of drawn kind seen = outcome_from kind (words_given drawn seen) 0

abbrev pub its_of : Draws → Kind → Option Seen → Outcome
its_of drawn kind seen = outcome_from kind (guess_of drawn seen) 0

pub silent_kind : (drawn : Draws) (kind : Kind) → Fits drawn kind → KeepsSmallQ kind → StandsIn drawn None (is_enters kind) (mine_of drawn kind None) (its_of drawn kind None)
silent_kind drawn (Settled outcome) fits small =
    stands_known drawn None false (mine_of drawn (Settled outcome) None) (its_of drawn (Settled outcome) None) refl refl refl (settled_slots drawn outcome fits) refl
silent_kind (draws.Slot session) (Enters own q body) fits small = entered_silent session own body None fits q small
silent_kind (draws.Turn session) (Replies own q body) fits small = record { answers = refl; behind = λ silent_then. absurd (some_or_none silent_then) }
silent_kind draws.Number (Gives state body) fits small = record { answers = refl; behind = λ silent_then. absurd (some_or_none silent_then) }
silent_kind drawn kind fits small = absurd fits

-- Where the tag answered, it waits for no slot that was drawn.
entered_spoken : (own q number : ℕ) (body : BodyValue) → waits (enter own q (reworded (0 ∷ number ∷ []) 0 body)).tag.state ≡ false
entered_spoken own q number body =
    ap (λ (o : Outcome). waits o.tag.state) (now_by (0 ∷ number ∷ []) 0 1 0 0 number own q body refl (zero_slot q) refl refl refl)

pub spoken_kind : (drawn : Draws) (kind : Kind) (seen : Seen) → Fits drawn kind → (is_enters kind && waits (mine_of drawn kind (Some seen)).tag.state) ≡ false
spoken_kind (draws.Slot session) (Enters own q body) seen fits = entered_spoken own q (number_seen (Some seen)) body
spoken_kind drawn (Enters own q body) seen fits = absurd fits
spoken_kind drawn kind seen fits = refl

-- What had to be answered is told by what these words answer.
abbrev pub RepliesAt : Option ℕ → Kind → Type 0
RepliesAt most (Replies own q body) = AnyRn16 ≡ want_in_turn most
RepliesAt most kind = Unit {0}

want_elsewhere : (session : ℕ) (state : StateValue) → IsElsewhere session state → Nothing ≡ want_of_slot session None state
want_elsewhere session (ArbitrateState own q slot) other = sym (ap (λ (test : Bool). if test then NothingOrAnyRn16 else Nothing) other)
want_elsewhere session state other = refl

abbrev WantIs : Draws → Option ℕ → Kind → Outcome → Type 0
WantIs drawn most kind outcome = want_of_kind kind ≡ want_behind drawn (seen_of outcome.answer) outcome.tag.state most

has_slots : (q slot : ℕ) → 1 ≤ slot → slot < 2 ^ q → 1 ≤ q
has_slots q slot some below =
    elim (eqb_tells q 0) [
      | inl w ↦ let one : 2 ^ q ≡ 1 = ap (λ (n : ℕ). 2 ^ n) w.1 in absurd (omega (arith, some, below, one))
      | inr w ↦ omega (arith, w.1)
    ]

drew_slot : (session own slot : ℕ) → (own == session) ≡ true → 1 ≤ slot → has_drawn session own slot ≡ true
drew_slot session own slot same some = rw same (rw (not_zero slot some) refl)

module _ (words : List ℕ) (place : ℕ) (most : Option ℕ) where
  settled_want : (drawn : Draws) (outcome : Outcome) → Fits drawn (Settled outcome) → WantIs drawn most (Settled outcome) (outcome_from (Settled outcome) words place)
  settled_want (draws.Slot session) outcome fits =
      ap (λ (a : Option Sent). want_of_answer (seen_of a)) fits.0 ∙ want_elsewhere session outcome.tag.state fits.1
      ∙ sym (ap (λ (a : Option Sent). want_of_slot session (seen_of a) outcome.tag.state) fits.0)
  settled_want (draws.Turn session) outcome fits =
      ap (λ (a : Option Sent). want_of_answer (seen_of a)) fits ∙ sym (ap (λ (a : Option Sent). want_of_turn (seen_of a) most) fits)
  settled_want draws.Number outcome fits =
      ap (λ (a : Option Sent). want_of_answer (seen_of a)) fits ∙ sym (ap (λ (a : Option Sent). want_of_number (seen_of a)) fits)
  settled_want draws.Nothing outcome fits = refl

  entered_want : (session own q : ℕ) (body : BodyValue) → (own == session) ≡ true → WantIs (draws.Slot session) most (Enters own q body) (outcome_from (Enters own q body) words place)
  entered_want session own q body same =
      elim (eqb_tells (slot_of_draw q (reworded words place body)) 0) [
        | inl w ↦ sym (ap (λ (o : Outcome). want_of_slot session (seen_of o.answer) o.tag.state) (enters_now own q (reworded words place body) w.1))
        | inr w ↦ waiting (omega (arith, w.1))
      ]
    where
      waiting : 1 ≤ slot_of_draw q (reworded words place body) → WantIs (draws.Slot session) most (Enters own q body) (outcome_from (Enters own q body) words place)
      waiting some =
          let slot = slot_of_draw q (reworded words place body) in
          let more = has_slots q slot some (slot_below_power (slice_index words place) q) in
          ap (λ (test : Bool). if test then AnyRn16 else NothingOrAnyRn16) (not_zero q more)
          ∙ sym (ap (λ (test : Bool). if test then NothingOrAnyRn16 else Nothing) (drew_slot session own slot same some))
          ∙ sym (ap (λ (o : Outcome). want_of_slot session (seen_of o.answer) o.tag.state) (enters_later own q (reworded words place body) some))

  pub kind_want : (drawn : Draws) (kind : Kind) → Fits drawn kind → RepliesAt most kind → WantIs drawn most kind (outcome_from kind words place)
  kind_want drawn (Settled outcome) fits at = settled_want drawn outcome fits
  kind_want (draws.Slot session) (Enters own q body) fits at = entered_want session own q body fits
  kind_want (draws.Turn session) (Replies own q body) fits at = at
  kind_want draws.Number (Gives state body) fits at = refl
  kind_want drawn kind fits at = absurd fits

-- ... where the slot is known
pub replies_so : (kind : Kind) → RepliesAt None kind
replies_so (Replies own q body) = refl
replies_so kind = tt
