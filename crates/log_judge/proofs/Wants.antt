-- What had to be answered, by what is known.
use Rattle.std.proofs.Common.{◌≡◌, ◌≢◌, ℕ, zero, suc, ◌+◌, ◌-◌, ◌*◌, ◌^◌, ◌<◌, ◌≤◌, ◌==◌, Bool, true, false, List, [], ◌∷◌, ◌++◌, length, slice_index, Option, Some, None, if◌then◌else◌, refl, sym, ◌∙◌, ap, subst, arith, inl, inr, length-append}
use Rattle.std.specs.Prelude.{◌⊎◌}
use Rattle.std.proofs.lemmas.Nat.{pow-add, pow_pos}
use Rattle.std.proofs.lemmas.Bool.Decides.{eqb_tells}
use Rattle.std.proofs.lemmas.List.Elements.{All-append, All-cons}
use Rattle.command_grammar.specs.declared.commands.Command.{Command}
use Rattle.tag_machine.specs.TagValue.{StateValue, ArbitrateState, ReplyState, BodyValue, TagValue}
use Rattle.tag_machine.specs.Answers.{Outcome, silent}
use Rattle.tag_machine.specs.Draws.{place_behind, slot_of_draw, enter}
use Rattle.log_judge.specs.Log.{AreDrawn, LogEntry, LoggedTag, Seen}
use Rattle.log_judge.specs.Explaining.{Manner, seen_answer_to, seen_of}
use Rattle.log_judge.specs.Verdicts.{IsRn16, IsWanted, Means, AnyRn16, NothingOrAnyRn16}
use Rattle.log_judge.specs.laws.Logs.{IsLegalHeard}
use Rattle.log_judge.specs.laws.Kinds.{Kind, Settled, Enters, Replies, Gives, reworded, count_kind, kind_of, ArbitrateMove, Stays, Leaves, Counts, move_of, HasSmallQ}
use Rattle.log_judge.proofs.KindOutcomes.{outcome_from, kind_at}
use Rattle.log_judge.specs.laws.Known.{Known, CoversState, want_at, want_of, want_of_answer, want_of_kind, want_of_move}
use Rattle.log_judge.specs.laws.StandingLaws.{StandsBehind}
use Rattle.log_judge.proofs.Guesses.{slot_below_power, enters_now, enters_later, behind_inside}
use Rattle.log_judge.proofs.KindsOfSteps.{of_kind, of_move}
use Rattle.log_judge.proofs.OneKind.{AreSmall, ComesBy, at_once_comes, later_comes, none_small, number_comes, reply_comes, settled_comes}
use Rattle.log_judge.proofs.OneExchange.{counts_on}

means_itself : (answer : Option Seen) → Means (want_of_answer answer) answer
means_itself None = refl
means_itself (Some seen) = refl

means_only : (answer other : Option Seen) → Means (want_of_answer answer) other → other ≡ answer
means_only None other means = means
means_only (Some seen) other means = means

either_means : (test : Bool) (answer : Option Seen) → IsRn16 answer → Means (if test then AnyRn16 else NothingOrAnyRn16) answer
either_means true answer is = is
either_means false answer is = inr is

module _ (words : List ℕ) (drawn : AreDrawn words) (place : ℕ) (inside : place < length words) where
  small_at : (at : ℕ) → at < length words → slice_index words at < 2 ^ 16
  small_at at within = drawn.small at 0 within

  entered : (session q : ℕ) (body : BodyValue) → Means (if q == 0 then AnyRn16 else NothingOrAnyRn16) (seen_of (enter session q (reworded words place body)).answer)
  entered session q body =
      elim (eqb_tells (slot_of_draw q (reworded words place body)) 0) [
        | inl w ↦ at_once w.1
        | inr w ↦ later (omega (arith, w.1))
      ]
    where
      at_once : slot_of_draw q (reworded words place body) ≡ 0 → Means (if q == 0 then AnyRn16 else NothingOrAnyRn16) (seen_of (enter session q (reworded words place body)).answer)
      at_once zero_is =
          let second = place_behind (length words) place in
          either_means (q == 0) (seen_of (enter session q (reworded words place body)).answer) (record {
            number = slice_index words second;
            range = small_at second (behind_inside (length words) place inside);
            is = ap (λ (o : Outcome). seen_of o.answer) (enters_now session q (reworded words place body) zero_is);
          })

      more_slots : 1 ≤ slot_of_draw q (reworded words place body) → q ≢ 0
      more_slots some none =
          let one : 2 ^ q ≡ 1 = ap (λ n. 2 ^ n) none in
          let below = slot_below_power (slice_index words place) q in
          absurd (omega (arith, some, below, one))

      later : 1 ≤ slot_of_draw q (reworded words place body) → Means (if q == 0 then AnyRn16 else NothingOrAnyRn16) (seen_of (enter session q (reworded words place body)).answer)
      later some =
          let silent_then : seen_of (enter session q (reworded words place body)).answer ≡ None = ap (λ (o : Outcome). seen_of o.answer) (enters_later session q (reworded words place body) some) in
          elim (eqb_tells q 0) [
            | inl w ↦ absurd (more_slots some w.1)
            | inr w ↦ rw w.0 (inl silent_then)
          ]

  only_kind : (kind : Kind) → Means (want_of_kind kind) (seen_of (outcome_from kind words place).answer)
  only_kind (Settled outcome) = means_itself (seen_of outcome.answer)
  only_kind (Enters session q body) = entered session q body
  only_kind (Replies session q body) = record { number = slice_index words place; range = small_at place inside; is = refl }
  only_kind (Gives state body) = record { number = slice_index words place; range = small_at place inside; is = refl }

  only_counts : (other q most slot : ℕ) (body : BodyValue) → 1 ≤ slot → slot ≤ most → Means (if most == 1 then AnyRn16 else NothingOrAnyRn16) (seen_of (outcome_from (count_kind other q slot body) words place).answer)
  only_counts other q most slot body least within =
      elim (eqb_tells slot 1) [
        | inl w ↦ either_means (most == 1) (seen_of (outcome_from (count_kind other q slot body) words place).answer) (record {
          number = slice_index words place;
          range = small_at place inside;
          is = ap (λ (n : ℕ). seen_of (outcome_from (count_kind other q n body) words place).answer) w.1;
        })
        | inr w ↦ waiting (omega (arith, w.1, least))
      ]
    where
      waiting : 2 ≤ slot → Means (if most == 1 then AnyRn16 else NothingOrAnyRn16) (seen_of (outcome_from (count_kind other q slot body) words place).answer)
      waiting more =
          let none : seen_of (outcome_from (count_kind other q slot body) words place).answer ≡ None = ap (λ (k : Kind). seen_of (outcome_from k words place).answer) (counts_on other q slot body more) in
          elim (eqb_tells most 1) [
            | inl w ↦ absurd (omega (arith, w.1, within, more))
            | inr w ↦ rw w.0 (inl none)
          ]

  only_move : (move : ArbitrateMove) (session q most slot : ℕ) (body : BodyValue) → 1 ≤ slot → slot ≤ most → Means (want_of_move move most) (seen_of (outcome_from (kind_at move session q body slot) words place).answer)
  only_move Stays session q most slot body least within = refl
  only_move (Leaves kind) session q most slot body least within = only_kind kind
  only_move (Counts other) session q most slot body least within = only_counts other q most slot body least within

  only_by : (any : Bool) (known state : StateValue) (body : BodyValue) (heard : Option Command) → IsLegalHeard heard → HasSmallQ known → CoversState any known state
      → Means (want_of (record { tag = record { state = known; body = body }; any = any }) heard) (seen_answer_to heard (record { state = state; body = reworded words place body }))
  only_by false known state body heard legal small covers =
      subst (λ (s : StateValue). Means (want_of_kind (kind_of heard known body)) (seen_answer_to heard (record { state = s; body = reworded words place body }))) (sym covers)
      (subst (λ (o : Outcome). Means (want_of_kind (kind_of heard known body)) (seen_of o.answer)) (sym (of_kind words place heard known body legal small).is) (only_kind (kind_of heard known body)))
  only_by true known state body heard legal small covers =
      let small_q = subst HasSmallQ covers.known_is small in
      let its = (of_kind words place heard (ArbitrateState covers.session covers.q covers.slot) body legal small_q).is
      ∙ ap (λ (k : Kind). outcome_from k words place) (of_move heard covers.session covers.q covers.slot body) in
      let here = only_move (move_of heard covers.session covers.q body) covers.session covers.q covers.most covers.slot body covers.least covers.within in
      subst (λ (k : StateValue). Means (want_at heard k body) (seen_answer_to heard (record { state = state; body = reworded words place body }))) (sym covers.known_is)
      (subst (λ (s : StateValue). Means (want_of_move (move_of heard covers.session covers.q body) covers.most) (seen_answer_to heard (record { state = s; body = reworded words place body }))) (sym covers.is)
      (subst (λ (o : Outcome). Means (want_of_move (move_of heard covers.session covers.q body) covers.most) (seen_of o.answer)) (sym its) here))

-- each answer that is meant can come
pub record Answered (kind : Kind) (answer : Option Seen) : Type 0 where
  pub state : StateValue
  pub after : BodyValue
  pub comes : ComesBy kind answer state after

rn16_entered : (session q : ℕ) (body : BodyValue) (answer : Option Seen) → IsRn16 answer → Answered (Enters session q body) answer
rn16_entered session q body answer is = record { state = ReplyState session q is.number; after = body; comes = at_once_comes true session q is.number body answer (ReplyState session q is.number) is.range (sym is.is) refl }

rn16_replied : (session q : ℕ) (body : BodyValue) (answer : Option Seen) → IsRn16 answer → Answered (Replies session q body) answer
rn16_replied session q body answer is = record { state = ReplyState session q is.number; after = body; comes = reply_comes false session q is.number body answer (ReplyState session q is.number) is.range (sym is.is) refl }

none_entered : (session q : ℕ) (body : BodyValue) (answer : Option Seen) → q ≢ 0 → answer ≡ None → Answered (Enters session q body) answer
none_entered session q body answer some none =
    let power : 2 ≤ 2 ^ q = two_or_more q some in
    record { state = ArbitrateState session q 1; after = body; comes = later_comes true session q 1 body answer (ArbitrateState session q 1) (omega arith) (omega (arith, power)) (omega arith) (sym none) refl }
  where
    two_or_more : (q : ℕ) → q ≢ 0 → 2 ≤ 2 ^ q
    two_or_more zero some = absurd (some refl)
    two_or_more (suc n) some =
        let next : suc n ≡ n + 1 = omega arith in
        let double : 2 ^ suc n ≡ 2 ^ n * 2 = ap (λ (k : ℕ). 2 ^ k) next ∙ pow-add 2 n 1 in
        let power : 0 < 2 ^ n = pow_pos n in
        omega (arith, double, power)

each_entered : (session q : ℕ) (body : BodyValue) (answer : Option Seen) → Means (if q == 0 then AnyRn16 else NothingOrAnyRn16) answer → Answered (Enters session q body) answer
each_entered session q body answer means =
    elim (eqb_tells q 0) [
      | inl w ↦ rn16_entered session q body answer (subst (λ (test : Bool). Means (if test then AnyRn16 else NothingOrAnyRn16) answer) w.0 means)
      | inr w ↦ by w.1 (subst (λ (test : Bool). Means (if test then AnyRn16 else NothingOrAnyRn16) answer) w.0 means)
    ]
  where
    by : q ≢ 0 → (answer ≡ None) ⊎ IsRn16 answer → Answered (Enters session q body) answer
    by some (inl none) = none_entered session q body answer some none
    by some (inr is) = rn16_entered session q body answer is

each_kind : (kind : Kind) (answer : Option Seen) → Means (want_of_kind kind) answer → Answered kind answer
each_kind (Settled outcome) answer means = record { state = outcome.tag.state; after = outcome.tag.body; comes = settled_comes false outcome answer outcome.tag.state (sym (means_only (seen_of outcome.answer) answer means)) refl }
each_kind (Enters session q body) answer means = each_entered session q body answer means
each_kind (Replies session q body) answer means = rn16_replied session q body answer means
each_kind (Gives of body) answer means = record { state = of means.number; after = body; comes = number_comes false of means.number body answer (of means.number) means.range (sym means.is) refl }

pub record AnsweredAt (move : ArbitrateMove) (session q most : ℕ) (body : BodyValue) (answer : Option Seen) : Type 0 where
  pub slot : ℕ
  pub least : 1 ≤ slot
  pub within : slot ≤ most
  pub answered : Answered (kind_at move session q body slot) answer

each_counts : (other session q most : ℕ) (body : BodyValue) (answer : Option Seen) → 1 ≤ most → Means (if most == 1 then AnyRn16 else NothingOrAnyRn16) answer → AnsweredAt (Counts other) session q most body answer
each_counts other session q most body answer some means =
    elim (eqb_tells most 1) [
      | inl w ↦ at_1 (subst (λ (test : Bool). Means (if test then AnyRn16 else NothingOrAnyRn16) answer) w.0 means)
      | inr w ↦ by (omega (arith, w.1, some)) (subst (λ (test : Bool). Means (if test then AnyRn16 else NothingOrAnyRn16) answer) w.0 means)
    ]
  where
    at_1 : IsRn16 answer → AnsweredAt (Counts other) session q most body answer
    at_1 is = record { slot = 1; least = omega arith; within = some; answered = rn16_replied other q body answer is }

    by : 2 ≤ most → (answer ≡ None) ⊎ IsRn16 answer → AnsweredAt (Counts other) session q most body answer
    by more (inl none) = record {
      slot = most;
      least = some;
      within = omega arith;
      answered = subst (λ (k : Kind). Answered k answer) (sym (counts_on other q most body more))
          (each_kind (Settled (silent (ArbitrateState other q (most - 1)) body)) answer none);
    }
    by more (inr is) = at_1 is

each_move : (move : ArbitrateMove) (session q most : ℕ) (body : BodyValue) (answer : Option Seen) → 1 ≤ most → Means (want_of_move move most) answer → AnsweredAt move session q most body answer
each_move Stays session q most body answer some means = record { slot = most; least = some; within = omega arith; answered = each_kind (Settled (silent (ArbitrateState session q most) body)) answer means }
each_move (Leaves kind) session q most body answer some means = record { slot = most; least = some; within = omega arith; answered = each_kind kind answer means }
each_move (Counts other) session q most body answer some means = each_counts other session q most body answer some means

-- a tag that is meant, and words by which it answers so
pub record CanBe (known : Known) (heard : Option Command) (answer : Option Seen) : Type 0 where
  pub from : StateValue
  pub meant : CoversState known.any known.tag.state from
  pub drawn : List ℕ
  pub are_small : AreSmall drawn
  pub answers : (used future : List ℕ) → 1 ≤ length future → seen_answer_to heard (record { state = from; body = reworded (used ++ (drawn ++ future)) (length used) known.tag.body }) ≡ answer

each_by : (any : Bool) (known : StateValue) (body : BodyValue) (heard : Option Command) (answer : Option Seen) → IsLegalHeard heard → HasSmallQ known → CoversState any known known
    → Means (want_of (record { tag = record { state = known; body = body }; any = any }) heard) answer → CanBe (record { tag = record { state = known; body = body }; any = any }) heard answer
each_by false known body heard answer legal small itself means =
    let it = each_kind (kind_of heard known body) answer means in
    record {
      from = known;
      meant = refl;
      drawn = it.comes.drawn;
      are_small = it.comes.small;
      answers = λ used future some.
          ap (λ (o : Outcome). seen_of o.answer) (of_kind (used ++ (it.comes.drawn ++ future)) (length used) heard known body legal small).is ∙ (it.comes.leads used future some).answers;
    }
each_by true known body heard answer legal small itself means =
    let least = itself.least in
    let within = itself.within in
    let small_q = subst HasSmallQ itself.known_is small in
    let move = move_of heard itself.session itself.q body in
    let meant : Means (want_of_move move itself.most) answer = subst (λ (k : StateValue). Means (want_at heard k body) answer) itself.known_is means in
    let it = each_move move itself.session itself.q itself.most body answer (omega (arith, least, within)) meant in
    let answered = it.answered in
    record {
      from = ArbitrateState itself.session itself.q it.slot;
      meant = record { session = itself.session; q = itself.q; most = itself.most; slot = it.slot; known_is = itself.known_is; is = refl; least = it.least; within = it.within };
      drawn = answered.comes.drawn;
      are_small = answered.comes.small;
      answers = λ used future some.
          ap (λ (o : Outcome). seen_of o.answer)
          ((of_kind (used ++ (answered.comes.drawn ++ future)) (length used) heard (ArbitrateState itself.session itself.q it.slot) body legal small_q).is
          ∙ ap (λ (k : Kind). outcome_from k (used ++ (answered.comes.drawn ++ future)) (length used)) (of_move heard itself.session itself.q it.slot body))
          ∙ (answered.comes.leads used future some).answers;
    }

-- what is wanted behind a log that is known so
pub wanted : (manner : Manner) (tag : LoggedTag) (log : List LogEntry) (known : Known) (heard : Option Command) → StandsBehind manner tag log known → IsLegalHeard heard → IsWanted manner tag log heard (want_of known heard)
wanted manner tag log known heard stands legal = record {
  only = λ answer can.
      let meant = stands.sound can.words can.led.behind can.led.drawn can.led.leads in
      let same : can.led.behind ≡ record { state = can.led.behind.state; body = reworded can.words meant.place known.tag.body }
      = ap (λ (b : BodyValue). let it : TagValue = record { state = can.led.behind.state; body = b } in it) meant.covers.body in
      let here = only_by can.words can.led.drawn meant.place meant.inside known.any known.tag.state can.led.behind.state known.tag.body heard legal stands.valid.small meant.covers.state in
      subst (λ (a : Option Seen). Means (want_of known heard) a) can.answers
      (subst (λ (t : TagValue). Means (want_of known heard) (seen_answer_to heard t)) (sym same) here);
  each = λ answer means.
      let it = each_by known.any known.tag.state known.tag.body heard answer legal stands.valid.small stands.valid.itself means in
      let future : List ℕ = it.drawn ++ 0 ∷ [] in
      let more : 1 ≤ length future = omega (arith, length-append it.drawn (0 ∷ [])) in
      let before = stands.whole it.from future it.meant more in
      let zero_small : AreSmall (0 ∷ []) = All-cons (λ word. word < 2 ^ 16) 0 [] (omega arith) none_small in
      let future_small : AreSmall future = All-append (λ word. word < 2 ^ 16) it.drawn (0 ∷ []) it.are_small zero_small in
      let words : List ℕ = before.used ++ future in
      record {
        words = words;
        led = record {
          drawn = record { some = omega (arith, length-append before.used future, more); small = All-append (λ word. word < 2 ^ 16) before.used future before.small future_small };
          behind = _;
          leads = before.leads;
        };
        answers = it.answers before.used (0 ∷ []) (omega arith);
      };
}
