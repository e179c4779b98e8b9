-- What a tag does at a command, beside what it does with the words that are guessed from its answer: one kind of command.
use Rattle.std.proofs.Common.{◌≡◌, ℕ, ◌+◌, ◌-◌, ◌%◌, ◌^◌, ◌<◌, ◌≤◌, ◌==◌, ◌&&◌, Bool, true, false, List, [], ◌∷◌, ◌++◌, length, slice_index, Option, Some, None, if◌then◌else◌, refl, sym, ◌∙◌, ap, subst, arith, inl, inr}
use Rattle.std.specs.Prelude.{All}
use Rattle.std.proofs.lemmas.List.Elements.{All-cons}
use Rattle.std.proofs.Math.Nat.{mod-eq_of_lt, mod-le}
use Rattle.std.proofs.lemmas.Bool.Decides.{eqb_tells}
use Rattle.reply_grammar.specs.declared.expected.Reply.TheVariants.{Rn16, Handle}
use Rattle.tag_machine.specs.TagValue.{StateValue, ArbitrateState, ReplyState, BodyValue, TagValue}
use Rattle.tag_machine.specs.Answers.{Outcome, silent, plain_answer}
use Rattle.tag_machine.specs.Draws.{place_behind, body_after_draw, slot_of_draw, begin_reply, enter}
use Rattle.log_judge.specs.Log.{Seen}
use Rattle.log_judge.specs.Explaining.{seen_of}
use Rattle.log_judge.specs.laws.Logs.{number_seen}
use Rattle.log_judge.specs.laws.Kinds.{Kind, Settled, Enters, Replies, Gives, reworded}
use Rattle.log_judge.proofs.KindOutcomes.{outcome_from, KeepsSmallQ}
use Rattle.log_judge.specs.laws.Known.{CoversState, IsWithin, is_enters, slot_word, waits}
use Rattle.log_judge.proofs.Guesses.{some_power, full_slot, slot_below_power, enters_now, enters_later, zero_slot, behind_inside, drawn_next, place_next, drawn_at, place_at, begins_by, now_by, later_by}

-- the command draws a slot where the kind says so
abbrev pub Suits : Bool → Kind → Type 0
Suits draws (Settled outcome) = Unit {0}
Suits draws (Enters session q body) = draws ≡ true
Suits draws (Replies session q body) = draws ≡ false
Suits draws (Gives state body) = draws ≡ false

-- one outcome, by words that were guessed, answers what was seen, and stands for another, by other words
pub record StandsFor (any : Bool) (words : List ℕ) (seen : Option Seen) (mine its : Outcome) : Type 0 where
  pub answers : seen_of mine.answer ≡ seen
  pub state : CoversState any mine.tag.state its.tag.state
  pub place : ℕ
  pub inside : place < length words
  pub body : its.tag.body ≡ reworded words place mine.tag.body

pub moved_over : (any : Bool) (words : List ℕ) (seen : Option Seen) {mine mine' its its' : Outcome} → mine ≡ mine' → its ≡ its'
    → StandsFor (any && waits mine'.tag.state) words seen mine' its' → StandsFor (any && waits mine.tag.state) words seen mine its
moved_over any words seen {mine' = mine'} {its = its} of_mine of_its stands =
    subst (λ (o : Outcome). StandsFor (any && waits o.tag.state) words seen o its) (sym of_mine)
    (subst (λ (o : Outcome). StandsFor (any && waits mine'.tag.state) words seen mine' o) (sym of_its) stands)

-- the words that are guessed
abbrev pub guess : Bool → Option Seen → List ℕ
guess draws seen = (if draws then slot_word seen else number_seen seen) ∷ number_seen seen ∷ []

module _ (draws : Bool) (words : List ℕ) (place : ℕ) (inside : place < length words) where
  abbrev Goal : Kind → Option Seen → Type 0
  Goal kind seen =
      StandsFor (is_enters kind && waits (outcome_from kind (guess draws seen) 0).tag.state) words seen (outcome_from kind (guess draws seen) 0) (outcome_from kind words place)

  abbrev next_place : ℕ
  next_place = place_behind (length words) place

  next_inside : next_place < length words
  next_inside = behind_inside (length words) place inside

  entered : (session q : ℕ) (body : BodyValue) (seen : Option Seen) → draws ≡ true → q ≤ 15
      → seen_of (enter session q (reworded words place body)).answer ≡ seen → Goal (Enters session q body) seen
  entered session q body seen slot small given =
      elim (eqb_tells (slot_of_draw q (reworded words place body)) 0) [
        | inl w ↦ at_once w.1
        | inr w ↦ later (omega (arith, w.1))
      ]
    where
      at_once : slot_of_draw q (reworded words place body) ≡ 0 → Goal (Enters session q body) seen
      at_once zero_is =
          let rn = slice_index words next_place in
          let its : enter session q (reworded words place body) ≡ begin_reply session q (reworded words next_place body) = enters_now session q (reworded words place body) zero_is in
          let answer : Seen = record { reply = Rn16 rn; extended = false } in
          let told : Some answer ≡ seen = sym (ap (λ (o : Outcome). seen_of o.answer) its) ∙ given in
          let guessed_are : guess draws (Some answer) ≡ 0 ∷ rn ∷ [] = ap (λ (it : Bool). (if it then 0 else rn) ∷ rn ∷ []) slot in
          let mine : enter session q (reworded (guess draws (Some answer)) 0 body) ≡ begin_reply session q (reworded (0 ∷ rn ∷ []) 1 body)
          = ap (λ (ws : List ℕ). enter session q (reworded ws 0 body)) guessed_are ∙ enters_now session q (reworded (0 ∷ rn ∷ []) 0 body) (zero_slot q) in
          let here : StandsFor false words (Some answer) (begin_reply session q (reworded (0 ∷ rn ∷ []) 1 body)) (begin_reply session q (reworded words next_place body))
          = record { answers = refl; state = refl; place = place_behind (length words) next_place; inside = behind_inside (length words) next_place next_inside; body = refl } in
          subst (λ (it : Option Seen). Goal (Enters session q body) it) told (moved_over true words (Some answer) mine its here)

      later : 1 ≤ slot_of_draw q (reworded words place body) → Goal (Enters session q body) seen
      later some =
          let slot_is : ℕ = slot_of_draw q (reworded words place body) in
          let its : enter session q (reworded words place body) ≡ silent (ArbitrateState session q slot_is) (reworded words next_place body) = enters_later session q (reworded words place body) some in
          let told : None ≡ seen = sym (ap (λ (o : Outcome). seen_of o.answer) its) ∙ given in
          let guessed_are : guess draws None ≡ 0xFFFF ∷ 0 ∷ [] = ap (λ (it : Bool). (if it then 0xFFFF else 0) ∷ 0 ∷ []) slot in
          let below : slot_is < 2 ^ q = slot_below_power (slice_index words place) q in
          let full : 0xFFFF % 2 ^ q ≡ 2 ^ q - 1 = full_slot q small in
          let more : 1 ≤ 0xFFFF % 2 ^ q = omega (arith, full, below, some) in
          let mine : enter session q (reworded (guess draws None) 0 body) ≡ silent (ArbitrateState session q (0xFFFF % 2 ^ q)) (reworded (0xFFFF ∷ 0 ∷ []) 1 body)
          = ap (λ (ws : List ℕ). enter session q (reworded ws 0 body)) guessed_are ∙ enters_later session q (reworded (0xFFFF ∷ 0 ∷ []) 0 body) more in
          let here : StandsFor true words None (silent (ArbitrateState session q (0xFFFF % 2 ^ q)) (reworded (0xFFFF ∷ 0 ∷ []) 1 body)) (silent (ArbitrateState session q slot_is) (reworded words next_place body))
          = record {
            answers = refl;
            state = record { session = session; q = q; most = 0xFFFF % 2 ^ q; slot = slot_is; known_is = refl; is = refl; least = some; within = omega (arith, full, below) };
            place = next_place;
            inside = next_inside;
            body = refl;
          } in
          subst (λ (it : Option Seen). Goal (Enters session q body) it) told (moved_over true words None mine its here)

  pub replied : (session q : ℕ) (body : BodyValue) (seen : Option Seen) → draws ≡ false
      → seen_of (begin_reply session q (reworded words place body)).answer ≡ seen → Goal (Replies session q body) seen
  replied session q body seen slot given =
      let rn = slice_index words place in
      let answer : Seen = record { reply = Rn16 rn; extended = false } in
      let guessed_are : guess draws (Some answer) ≡ rn ∷ rn ∷ [] = ap (λ (it : Bool). (if it then 0 else rn) ∷ rn ∷ []) slot in
      let here : StandsFor false words (Some answer) (begin_reply session q (reworded (rn ∷ rn ∷ []) 0 body)) (begin_reply session q (reworded words place body))
      = record { answers = refl; state = refl; place = next_place; inside = next_inside; body = refl } in
      let with_words : Goal (Replies session q body) (Some answer)
      = subst (λ (ws : List ℕ). StandsFor false words (Some answer) (begin_reply session q (reworded ws 0 body)) (begin_reply session q (reworded words place body))) (sym guessed_are) here in
      subst (λ (it : Option Seen). Goal (Replies session q body) it) given with_words

  gave : (state : ℕ → StateValue) (body : BodyValue) (seen : Option Seen) → draws ≡ false
      → seen_of (outcome_from (Gives state body) words place).answer ≡ seen → Goal (Gives state body) seen
  gave state body seen slot given =
      let number = slice_index words place in
      let answer : Seen = record { reply = Handle number; extended = false } in
      let guessed_are : guess draws (Some answer) ≡ number ∷ number ∷ [] = ap (λ (it : Bool). (if it then 0 else number) ∷ number ∷ []) slot in
      let here : StandsFor false words (Some answer) (outcome_from (Gives state body) (number ∷ number ∷ []) 0) (outcome_from (Gives state body) words place)
      = record { answers = refl; state = refl; place = next_place; inside = next_inside; body = refl } in
      let with_words : Goal (Gives state body) (Some answer)
      = subst (λ (ws : List ℕ). StandsFor false words (Some answer) (outcome_from (Gives state body) ws 0) (outcome_from (Gives state body) words place)) (sym guessed_are) here in
      subst (λ (it : Option Seen). Goal (Gives state body) it) given with_words

  -- where the words answer what was seen, those that were guessed do
  pub stands_for : (kind : Kind) (seen : Option Seen) → Suits draws kind → KeepsSmallQ kind → seen_of (outcome_from kind words place).answer ≡ seen → Goal kind seen
  stands_for (Settled outcome) seen slot small given = record { answers = given; state = refl; place = place; inside = inside; body = refl }
  stands_for (Enters session q body) seen slot small given = entered session q body seen slot small given
  stands_for (Replies session q body) seen slot small given = replied session q body seen slot given
  stands_for (Gives state body) seen slot small given = gave state body seen slot given

-- what a tag holds besides, which no word changes
abbrev pub body_of : Kind → BodyValue
body_of (Settled outcome) = outcome.tag.body
body_of (Enters session q body) = body
body_of (Replies session q body) = body
body_of (Gives state body) = body

pub body_kept : (kind : Kind) (words : List ℕ) (place : ℕ) (words' : List ℕ) (place' : ℕ) → reworded words' place' (outcome_from kind words place).tag.body ≡ reworded words' place' (body_of kind)
body_kept (Enters session q body) words place words' place' = by (slot_of_draw q (reworded words place body) == 0)
  where
    by : (test : Bool) → reworded words' place' (if test then begin_reply session q (body_after_draw (reworded words place body)) else silent (ArbitrateState session q (slot_of_draw q (reworded words place body))) (body_after_draw (reworded words place body))).tag.body
        ≡ reworded words' place' body
    by true = refl
    by false = refl
body_kept kind words place words' place' = refl

-- each word is one of 16 bits
abbrev pub AreSmall : List ℕ → Type 0
AreSmall words = All (λ word. word < 2 ^ 16) words

-- Behind whatever was drawn, these words lead to the state, and what is drawn then goes on as it may; an answer is what was seen.
pub record LeadsTo (kind : Kind) (seen : Option Seen) (drawn : List ℕ) (state : StateValue) (body : BodyValue) (used future : List ℕ) : Type 0 where
  pub answers : seen_of (outcome_from kind (used ++ (drawn ++ future)) (length used)).answer ≡ seen
  pub tag : (outcome_from kind (used ++ (drawn ++ future)) (length used)).tag ≡ record { state = state; body = reworded (used ++ (drawn ++ future)) (length used + length drawn) body }

pub record ComesBy (kind : Kind) (seen : Option Seen) (state : StateValue) (body : BodyValue) : Type 0 where
  pub drawn : List ℕ
  pub small : AreSmall drawn
  pub leads : (used future : List ℕ) → 1 ≤ length future → LeadsTo kind seen drawn state body used future

-- the slot that is meant
pub record IsSlotWithin (session q most : ℕ) (state : StateValue) : Type 0 where
  pub slot : ℕ
  pub is : state ≡ ArbitrateState session q slot
  pub least : 1 ≤ slot
  pub within : slot ≤ most

pub slot_within : (session q most : ℕ) (state : StateValue) → IsWithin (ArbitrateState session q most) state → IsSlotWithin session q most state
slot_within session q most state it =
    let of_session : session ≡ it.session = cc in
    let of_q : q ≡ it.q = cc in
    let of_most : most ≡ it.most = cc in
    record {
      slot = it.slot;
      is = it.is ∙ ap (λ n. ArbitrateState n it.q it.slot) (sym of_session) ∙ ap (λ n. ArbitrateState session n it.slot) (sym of_q);
      least = it.least;
      within = omega (arith, it.within, of_most);
    }

pub none_small : AreSmall []
none_small k d inside = absurd (omega (arith, inside))

one_small : (word : ℕ) → word < 2 ^ 16 → AreSmall (word ∷ [])
one_small word small = All-cons (λ n. n < 2 ^ 16) word [] small none_small

two_small : (word other : ℕ) → word < 2 ^ 16 → other < 2 ^ 16 → AreSmall (word ∷ other ∷ [])
two_small word other small also = All-cons (λ n. n < 2 ^ 16) word (other ∷ []) small (one_small other also)

module _ (draws : Bool) where
  abbrev Mine : Kind → Option Seen → Outcome
  Mine kind seen = outcome_from kind (guess draws seen) 0

  pub settled_comes : (outcome : Outcome) (seen : Option Seen) (state : StateValue) → seen_of outcome.answer ≡ seen → state ≡ outcome.tag.state → ComesBy (Settled outcome) seen state outcome.tag.body
  settled_comes outcome seen state given same = record {
    drawn = [];
    small = none_small;
    leads = λ used future some. record {
      answers = given;
      tag = ap (λ (s : StateValue). let it : TagValue = record { state = s; body = reworded (used ++ future) (length used) outcome.tag.body } in it) (sym same)
          ∙ ap (λ (n : ℕ). let it : TagValue = record { state = state; body = reworded (used ++ future) n outcome.tag.body } in it) (omega arith);
    };
  }

  -- ENTER with slot 0
  pub at_once_comes : (session q rn : ℕ) (body : BodyValue) (seen : Option Seen) (state : StateValue) → rn < 2 ^ 16 → Some (record { reply = Rn16 rn; extended = false }) ≡ seen → state ≡ ReplyState session q rn
      → ComesBy (Enters session q body) seen state body
  at_once_comes session q rn body seen state in_range told same = record {
    drawn = 0 ∷ rn ∷ [];
    small = two_small 0 rn (omega arith) in_range;
    leads = λ used future some.
        let words : List ℕ = used ++ 0 ∷ rn ∷ future in
        let is : enter session q (reworded words (length used) body) ≡ plain_answer (ReplyState session q rn) (reworded words (length used + 2) body) (Rn16 rn) 0
        = now_by words (length used) (length used + 1) (length used + 2) 0 rn session q body
        (drawn_next used 0 (rn ∷ future)) (zero_slot q) (place_next used 0 (rn ∷ future) (omega arith))
        (drawn_at used (0 ∷ rn ∷ future) 1) (place_at used (0 ∷ rn ∷ future) 1 (omega (arith, some))) in
        record {
          answers = ap (λ (o : Outcome). seen_of o.answer) is ∙ told;
          tag = ap (λ (o : Outcome). o.tag) is ∙ ap (λ (s : StateValue). let it : TagValue = record { state = s; body = reworded words (length used + 2) body } in it) (sym same);
        };
  }

  -- ... and with another one
  pub later_comes : (session q slot : ℕ) (body : BodyValue) (seen : Option Seen) (state : StateValue) → slot < 2 ^ 16 → slot < 2 ^ q → 1 ≤ slot → None ≡ seen → state ≡ ArbitrateState session q slot
      → ComesBy (Enters session q body) seen state body
  later_comes session q slot body seen state in_range below least told same = record {
    drawn = slot ∷ [];
    small = one_small slot in_range;
    leads = λ used future some.
        let words : List ℕ = used ++ slot ∷ future in
        let is : enter session q (reworded words (length used) body) ≡ silent (ArbitrateState session q slot) (reworded words (length used + 1) body)
        = later_by words (length used) (length used + 1) slot session q body
        (ap (λ n. n % 2 ^ q) (drawn_next used slot future) ∙ mod-eq_of_lt {n = slot} {m = 2 ^ q} below) least (place_next used slot future some) in
        record {
          answers = ap (λ (o : Outcome). seen_of o.answer) is ∙ told;
          tag = ap (λ (o : Outcome). o.tag) is ∙ ap (λ (s : StateValue). let it : TagValue = record { state = s; body = reworded words (length used + 1) body } in it) (sym same);
        };
  }

  pub reply_comes : (session q rn : ℕ) (body : BodyValue) (seen : Option Seen) (state : StateValue) → rn < 2 ^ 16 → Some (record { reply = Rn16 rn; extended = false }) ≡ seen → state ≡ ReplyState session q rn
      → ComesBy (Replies session q body) seen state body
  reply_comes session q rn body seen state in_range told same = record {
    drawn = rn ∷ [];
    small = one_small rn in_range;
    leads = λ used future some.
        let words : List ℕ = used ++ rn ∷ future in
        let is : begin_reply session q (reworded words (length used) body) ≡ plain_answer (ReplyState session q rn) (reworded words (length used + 1) body) (Rn16 rn) 0
        = begins_by words (length used) (length used + 1) rn session q body (drawn_next used rn future) (place_next used rn future some) in
        record {
          answers = ap (λ (o : Outcome). seen_of o.answer) is ∙ told;
          tag = ap (λ (o : Outcome). o.tag) is ∙ ap (λ (s : StateValue). let it : TagValue = record { state = s; body = reworded words (length used + 1) body } in it) (sym same);
        };
  }

  pub number_comes : (of : ℕ → StateValue) (number : ℕ) (body : BodyValue) (seen : Option Seen) (state : StateValue) → number < 2 ^ 16 → Some (record { reply = Handle number; extended = false }) ≡ seen → state ≡ of number
      → ComesBy (Gives of body) seen state body
  number_comes of number body seen state in_range told same = record {
    drawn = number ∷ [];
    small = one_small number in_range;
    leads = λ used future some.
        let words : List ℕ = used ++ number ∷ future in
        let is : outcome_from (Gives of body) words (length used) ≡ plain_answer (of number) (reworded words (length used + 1) body) (Handle number) 0
        = ap (λ (n : ℕ). plain_answer (of n) (reworded words (place_behind (length words) (length used)) body) (Handle n) 0) (drawn_next used number future)
        ∙ ap (λ (to : ℕ). plain_answer (of number) (reworded words to body) (Handle number) 0) (place_next used number future some) in
        record {
          answers = ap (λ (o : Outcome). seen_of o.answer) is ∙ told;
          tag = ap (λ (o : Outcome). o.tag) is ∙ ap (λ (s : StateValue). let it : TagValue = record { state = s; body = reworded words (length used + 1) body } in it) (sym same);
        };
  }

  -- Whatever the words that were guessed lead to comes of some words.
  entering_comes : (session q : ℕ) (body : BodyValue) (seen : Option Seen) (state : StateValue) → draws ≡ true → q ≤ 15 → number_seen seen < 2 ^ 16
      → seen_of (Mine (Enters session q body) seen).answer ≡ seen
      → CoversState (true && waits (Mine (Enters session q body) seen).tag.state) (Mine (Enters session q body) seen).tag.state state
      → ComesBy (Enters session q body) seen state body
  entering_comes session q body (Some seen) state slot small in_range given covers =
      let guessed_are : guess draws (Some seen) ≡ 0 ∷ number_seen (Some seen) ∷ [] = ap (λ (it : Bool). (if it then 0 else number_seen (Some seen)) ∷ number_seen (Some seen) ∷ []) slot in
      let mine : Mine (Enters session q body) (Some seen) ≡ begin_reply session q (reworded (0 ∷ number_seen (Some seen) ∷ []) 1 body)
      = ap (λ (ws : List ℕ). enter session q (reworded ws 0 body)) guessed_are ∙ enters_now session q (reworded (0 ∷ number_seen (Some seen) ∷ []) 0 body) (zero_slot q) in
      at_once_comes session q (number_seen (Some seen)) body (Some seen) state in_range (sym (ap (λ (o : Outcome). seen_of o.answer) mine) ∙ given)
      (subst (λ (o : Outcome). CoversState (true && waits o.tag.state) o.tag.state state) mine covers)
  entering_comes session q body None state slot small in_range given covers =
      let full : 0xFFFF % 2 ^ q ≡ 2 ^ q - 1 = full_slot q small in
      let guessed_are : guess draws None ≡ 0xFFFF ∷ 0 ∷ [] = ap (λ (it : Bool). (if it then 0xFFFF else 0) ∷ 0 ∷ []) slot in
      let by_words : Mine (Enters session q body) None ≡ enter session q (reworded (0xFFFF ∷ 0 ∷ []) 0 body) = ap (λ (ws : List ℕ). enter session q (reworded ws 0 body)) guessed_are in
      elim (eqb_tells (0xFFFF % 2 ^ q) 0) [
        | inl w ↦ absurd (some_answer (sym (ap (λ (o : Outcome). seen_of o.answer) (by_words ∙ enters_now session q (reworded (0xFFFF ∷ 0 ∷ []) 0 body) w.1)) ∙ given))
        | inr w ↦
            let more : 1 ≤ 0xFFFF % 2 ^ q = omega (arith, w.1) in
            let mine : Mine (Enters session q body) None ≡ silent (ArbitrateState session q (0xFFFF % 2 ^ q)) (reworded (0xFFFF ∷ 0 ∷ []) 1 body)
            = by_words ∙ enters_later session q (reworded (0xFFFF ∷ 0 ∷ []) 0 body) more in
            let within : IsSlotWithin session q (0xFFFF % 2 ^ q) state
            = slot_within session q (0xFFFF % 2 ^ q) state (subst (λ (o : Outcome). CoversState (true && waits o.tag.state) o.tag.state state) mine covers) in
            let power = some_power q in
            let most = mod-le 0xFFFF (2 ^ q) in
            later_comes session q within.slot body None state (omega (arith, within.within, most)) (omega (arith, within.within, full, power)) within.least refl within.is
      ]
    where
      some_answer : {it : Seen} → Some it ≡ None → ⊥
      some_answer wrong = absurd (cc)

  pub comes_by : (kind : Kind) (seen : Option Seen) (state : StateValue) → Suits draws kind → KeepsSmallQ kind → number_seen seen < 2 ^ 16
      → seen_of (Mine kind seen).answer ≡ seen → CoversState (is_enters kind && waits (Mine kind seen).tag.state) (Mine kind seen).tag.state state
      → ComesBy kind seen state (body_of kind)
  comes_by (Settled outcome) seen state slot small in_range given covers = settled_comes outcome seen state given covers
  comes_by (Enters session q body) seen state slot small in_range given covers = entering_comes session q body seen state slot small in_range given covers
  comes_by (Replies session q body) seen state slot small in_range given covers =
      let guessed_are : guess draws seen ≡ number_seen seen ∷ number_seen seen ∷ [] = ap (λ (it : Bool). (if it then slot_word seen else number_seen seen) ∷ number_seen seen ∷ []) slot in
      let first : slice_index (guess draws seen) 0 ≡ number_seen seen = ap (λ (ws : List ℕ). slice_index ws 0) guessed_are in
      reply_comes session q (number_seen seen) body seen state in_range
      (ap (λ (n : ℕ). let it : Option Seen = Some (record { reply = Rn16 n; extended = false }) in it) (sym first) ∙ given) (covers ∙ ap (λ n. ReplyState session q n) first)
  comes_by (Gives of body) seen state slot small in_range given covers =
      let guessed_are : guess draws seen ≡ number_seen seen ∷ number_seen seen ∷ [] = ap (λ (it : Bool). (if it then slot_word seen else number_seen seen) ∷ number_seen seen ∷ []) slot in
      let first : slice_index (guess draws seen) 0 ≡ number_seen seen = ap (λ (ws : List ℕ). slice_index ws 0) guessed_are in
      number_comes of (number_seen seen) body seen state in_range
      (ap (λ (n : ℕ). let it : Option Seen = Some (record { reply = Handle n; extended = false }) in it) (sym first) ∙ given) (covers ∙ ap of first)
