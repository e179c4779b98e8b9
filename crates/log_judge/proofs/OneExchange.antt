-- What is known of a tag, beside the tags that are meant, through one exchange.
use Rattle.std.proofs.Common.{◌≡◌, ℕ, ◌+◌, ◌-◌, ◌^◌, ◌<◌, ◌≤◌, ◌==◌, ◌&&◌, Bool, true, false, List, ◌++◌, length, Option, Some, None, if◌then◌else◌, refl, sym, ◌∙◌, ap, subst, arith, inl, inr}
use Rattle.std.proofs.lemmas.Bool.Decides.{eqb_tells}
use Rattle.command_grammar.specs.declared.commands.Command.{Command}
use Rattle.tag_machine.specs.TagValue.{StateValue, ArbitrateState, BodyValue, TagValue}
use Rattle.tag_machine.specs.Answers.{Outcome, silent}
use Rattle.tag_machine.specs.Inventory.{slot_below}
use Rattle.log_judge.specs.Log.{Seen}
use Rattle.log_judge.specs.Explaining.{seen_answer_to, outcome_of_heard, seen_of}
use Rattle.log_judge.specs.laws.Logs.{IsLegalHeard, number_seen}
use Rattle.log_judge.specs.laws.Kinds.{Kind, Settled, Enters, Replies, Gives, reworded, count_kind, kind_of, ArbitrateMove, Stays, Leaves, Counts, move_of, HasSmallQ}
use Rattle.log_judge.proofs.KindOutcomes.{outcome_from, kind_at}
use Rattle.log_judge.specs.laws.Known.{Known, Covers, CoversState, draws_slot, guessed, is_enters, any_behind, placed, prepared, waits}
use Rattle.log_judge.specs.laws.StandingLaws.{IsValid}
use Rattle.log_judge.proofs.Guesses.{not_zero}
use Rattle.log_judge.proofs.KindsOfSteps.{of_kind, of_move}
use Rattle.log_judge.proofs.OneKind.{AreSmall, ComesBy, IsSlotWithin, StandsFor, body_kept, body_of, comes_by, guess, moved_over, replied, settled_comes, slot_within, stands_for}
use Rattle.log_judge.proofs.SuitedKinds.{IsGoodKind, IsGoodMove, good_move, suits}

-- the counter of a tag that waits
pub below_is : (slot : ℕ) → 1 ≤ slot → slot_below slot ≡ slot - 1
below_is slot some = ap (λ (test : Bool). if test then 0x7FFF else slot - 1) (not_zero slot some)

pub counts_on : (session q slot : ℕ) (body : BodyValue) → 2 ≤ slot → count_kind session q slot body ≡ Settled (silent (ArbitrateState session q (slot - 1)) body)
counts_on session q slot body more =
    let is = below_is slot (omega (arith, more)) in
    ap (λ (n : ℕ). if n == 0 then Replies session q body else Settled (silent (ArbitrateState session q n) body)) is
    ∙ ap (λ (test : Bool). if test then Replies session q body else Settled (silent (ArbitrateState session q (slot - 1)) body)) (not_zero (slot - 1) (omega (arith, more)))

abbrev pub slot_seen : Option Seen → ℕ → ℕ
slot_seen None most = most
slot_seen (Some seen) most = 1

module _ (draws : Bool) (session q most : ℕ) (body : BodyValue) where
  abbrev MineAt : ArbitrateMove → Option Seen → Outcome
  MineAt move seen = outcome_from (kind_at move session q body (slot_seen seen most)) (guess draws seen) 0

  -- of a tag whose slot counter is any from 1 on
  module _ (words : List ℕ) (place : ℕ) (inside : place < length words) (slot : ℕ) (least : 1 ≤ slot) (within : slot ≤ most) where
    abbrev GoalAt : ArbitrateMove → Option Seen → Type 0
    GoalAt move seen = StandsFor (true && waits (MineAt move seen).tag.state) words seen (MineAt move seen) (outcome_from (kind_at move session q body slot) words place)

    leaves_so : (kind : Kind) (seen : Option Seen) → IsGoodKind draws kind → seen_of (outcome_from kind words place).answer ≡ seen → GoalAt (Leaves kind) seen
    leaves_so (Settled outcome) seen good given =
        subst (λ (any : Bool). StandsFor any words seen (outcome_from (Settled outcome) (guess draws seen) 0) (outcome_from (Settled outcome) words place)) (sym good.so.0)
        (stands_for draws words place inside (Settled outcome) seen good.suited good.small given)
    leaves_so (Enters other new_q after) seen good given = stands_for draws words place inside (Enters other new_q after) seen good.suited good.small given
    leaves_so (Replies other new_q after) seen good given = absurd good.so
    leaves_so (Gives state after) seen good given = absurd good.so

    stays_so : (seen : Option Seen) → None ≡ seen → GoalAt Stays seen
    stays_so seen given = subst (λ (it : Option Seen). GoalAt Stays it) given (record {
      answers = refl;
      state = record { session = session; q = q; most = most; slot = slot; known_is = refl; is = refl; least = least; within = within };
      place = place;
      inside = inside;
      body = refl;
    })

    answers_at : (other : ℕ) (seen : Option Seen) → draws ≡ false → slot ≡ 1 → seen_of (outcome_from (count_kind other q slot body) words place).answer ≡ seen → GoalAt (Counts other) seen
    answers_at other None slot_drawn one given =
        absurd (wrong (sym (ap (λ (n : ℕ). seen_of (outcome_from (count_kind other q n body) words place).answer) one) ∙ given))
      where
        wrong : {it : Seen} → Some it ≡ None → ⊥
        wrong same = absurd (cc)
    answers_at other (Some seen) slot_drawn one given =
        let its : Kind = count_kind other q slot body in
        let replies : its ≡ Replies other q body = ap (λ (n : ℕ). count_kind other q n body) one in
        let answered = sym (ap (λ (k : Kind). seen_of (outcome_from k words place).answer) replies) ∙ given in
        subst (λ (k : Kind). StandsFor (true && waits (MineAt (Counts other) (Some seen)).tag.state) words (Some seen) (MineAt (Counts other) (Some seen)) (outcome_from k words place)) (sym replies)
        (replied draws words place inside other q body (Some seen) slot_drawn answered)

    counts_so : (other : ℕ) (seen : Option Seen) → 2 ≤ slot → seen_of (outcome_from (count_kind other q slot body) words place).answer ≡ seen → GoalAt (Counts other) seen
    counts_so other seen more given =
        let its = counts_on other q slot body more in
        let told : None ≡ seen = sym (ap (λ (k : Kind). seen_of (outcome_from k words place).answer) its) ∙ given in
        let mine = counts_on other q most body (omega (arith, more, within)) in
        let here : StandsFor true words None (silent (ArbitrateState other q (most - 1)) (reworded (guess draws None) 0 body)) (silent (ArbitrateState other q (slot - 1)) (reworded words place body))
        = record {
          answers = refl;
          state = record { session = other; q = q; most = most - 1; slot = slot - 1; known_is = refl; is = refl; least = omega (arith, more); within = omega (arith, within) };
          place = place;
          inside = inside;
          body = refl;
        } in
        let whole : GoalAt (Counts other) None
        = moved_over true words None (ap (λ (k : Kind). outcome_from k (guess draws None) 0) mine) (ap (λ (k : Kind). outcome_from k words place) its) here in
        subst (λ (it : Option Seen). GoalAt (Counts other) it) told whole

    pub stands_at : (move : ArbitrateMove) (seen : Option Seen) → IsGoodMove draws move → seen_of (outcome_from (kind_at move session q body slot) words place).answer ≡ seen → GoalAt move seen
    stands_at Stays seen good given = stays_so seen given
    stands_at (Leaves kind) seen good given = leaves_so kind seen good given
    stands_at (Counts other) seen good given =
        elim (eqb_tells slot 1) [
          | inl w ↦ answers_at other seen good w.1 given
          | inr w ↦ counts_so other seen (omega (arith, w.1, least)) given
        ]

  -- What the guessed words lead to comes of some words, with some slot.
  pub record ComesAt (move : ArbitrateMove) (seen : Option Seen) (state : StateValue) : Type 0 where
    pub slot : ℕ
    pub least : 1 ≤ slot
    pub within : slot ≤ most
    pub after : BodyValue
    pub comes : ComesBy (kind_at move session q body slot) seen state after
    pub same : (words : List ℕ) (place : ℕ) → reworded words place (MineAt move seen).tag.body ≡ reworded words place after

  module _ (some : 1 ≤ most) (small : q ≤ 15) (state : StateValue) where
    abbrev Meant : ArbitrateMove → Option Seen → Type 0
    Meant move seen' = CoversState (true && waits (MineAt move seen').tag.state) (MineAt move seen').tag.state state

    leaves_comes : (kind : Kind) (seen : Option Seen) → number_seen seen < 2 ^ 16 → IsGoodKind draws kind → seen_of (MineAt (Leaves kind) seen).answer ≡ seen → Meant (Leaves kind) seen → ComesAt (Leaves kind) seen state
    leaves_comes (Settled outcome) seen in_range good given covers = record {
      slot = most;
      least = some;
      within = omega arith;
      after = outcome.tag.body;
      comes = comes_by draws (Settled outcome) seen state good.suited good.small in_range given (subst (λ (any : Bool). CoversState any outcome.tag.state state) good.so.0 covers);
      same = λ words place. refl;
    }
    leaves_comes (Enters other new_q after) seen in_range good given covers = record {
      slot = most;
      least = some;
      within = omega arith;
      after = after;
      comes = comes_by draws (Enters other new_q after) seen state good.suited good.small in_range given covers;
      same = λ words place. body_kept (Enters other new_q after) (guess draws seen) 0 words place;
    }
    leaves_comes (Replies other new_q after) seen in_range good given covers = absurd good.so
    leaves_comes (Gives of after) seen in_range good given covers = absurd good.so

    stays_comes : Meant Stays None → ComesAt Stays None state
    stays_comes covers =
        let it = slot_within session q most state covers in
        record {
          slot = it.slot;
          least = it.least;
          within = it.within;
          after = body;
          comes = settled_comes draws (silent (ArbitrateState session q it.slot) body) None state refl it.is;
          same = λ words place. refl;
        }

    no_answer : {it : Seen} → Some it ≡ None → ⊥
    no_answer same = absurd (cc)

    counts_comes : (other : ℕ) (seen : Option Seen) → number_seen seen < 2 ^ 16 → draws ≡ false → seen_of (MineAt (Counts other) seen).answer ≡ seen → Meant (Counts other) seen → ComesAt (Counts other) seen state
    counts_comes other (Some seen) in_range slot_drawn given covers = record {
      slot = 1;
      least = omega arith;
      within = some;
      after = body;
      comes = comes_by draws (Replies other q body) (Some seen) state slot_drawn small in_range given covers;
      same = λ words place. refl;
    }
    counts_comes other None in_range slot_drawn given covers =
        elim (eqb_tells most 1) [
          | inl w ↦ absurd (no_answer (sym (ap (λ (n : ℕ). seen_of (outcome_from (count_kind other q n body) (guess draws None) 0).answer) w.1) ∙ given))
          | inr w ↦
              let mine = counts_on other q most body (omega (arith, w.1, some)) in
              let it : IsSlotWithin other q (most - 1) state
              = slot_within other q (most - 1) state (subst (λ (k : Kind). CoversState (true && waits (outcome_from k (guess draws None) 0).tag.state) (outcome_from k (guess draws None) 0).tag.state state) mine covers) in
              let within' = it.within in
              let least' = it.least in
              let before : it.slot + 1 - 1 ≡ it.slot = omega arith in
              record {
                slot = it.slot + 1;
                least = omega arith;
                within = omega (arith, within', some, w.1);
                after = body;
                comes = subst (λ (k : Kind). ComesBy k None state body) (sym (counts_on other q (it.slot + 1) body (omega (arith, least'))))
                    (settled_comes draws (silent (ArbitrateState other q (it.slot + 1 - 1)) body) None state refl (it.is ∙ ap (λ (n : ℕ). ArbitrateState other q n) (sym before)));
                same = λ words place. ap (λ (k : Kind). reworded words place (outcome_from k (guess draws None) 0).tag.body) mine;
              }
        ]

    pub comes_at : (move : ArbitrateMove) (seen : Option Seen) → number_seen seen < 2 ^ 16 → IsGoodMove draws move → seen_of (MineAt move seen).answer ≡ seen → Meant move seen → ComesAt move seen state
    comes_at Stays seen in_range good given covers =
        subst (λ (it : Option Seen). Meant Stays it → ComesAt Stays it state) given stays_comes covers
    comes_at (Leaves kind) seen in_range good given covers = leaves_comes kind seen in_range good given covers
    comes_at (Counts other) seen in_range good given covers = counts_comes other seen in_range good given covers

-- what the guessed words lead to
abbrev pub mine_of : Known → Option Command → Option Seen → Outcome
mine_of known heard seen = outcome_of_heard heard (prepared known heard seen)

module _ (heard : Option Command) (legal : IsLegalHeard heard) (seen : Option Seen) where
  abbrev known_as : Bool → StateValue → BodyValue → Known
  known_as any state body = record { tag = record { state = state; body = body }; any = any }

  abbrev Stands : Bool → StateValue → BodyValue → List ℕ → TagValue → Type 0
  Stands any state body words tag =
      StandsFor (any_behind (known_as any state body) heard (mine_of (known_as any state body) heard seen).tag.state) words seen
      (mine_of (known_as any state body) heard seen) (outcome_of_heard heard tag)

  placed_open : (session q most : ℕ) (it : Option Seen) → placed true it (ArbitrateState session q most) ≡ ArbitrateState session q (slot_seen it most)
  placed_open session q most None = refl
  placed_open session q most (Some is) = refl

  -- what the guessed words lead to, where the slot counter is any up to one
  mine_at : (session q most : ℕ) (body : BodyValue) → q ≤ 15
      → mine_of (known_as true (ArbitrateState session q most) body) heard seen ≡ MineAt (draws_slot heard) session q most body (move_of heard session q body) seen
  mine_at session q most body small =
      ap (λ (state : StateValue). outcome_of_heard heard (record { state = state; body = reworded (guessed heard seen) 0 body })) (placed_open session q most seen)
      ∙ (of_kind (guessed heard seen) 0 heard (ArbitrateState session q (slot_seen seen most)) body legal small).is
      ∙ ap (λ (k : Kind). outcome_from k (guessed heard seen) 0) (of_move heard session q (slot_seen seen most) body)

  its_at : (session q slot : ℕ) (body : BodyValue) (words : List ℕ) (place : ℕ) → q ≤ 15
      → outcome_of_heard heard (record { state = ArbitrateState session q slot; body = reworded words place body }) ≡ outcome_from (kind_at (move_of heard session q body) session q body slot) words place
  its_at session q slot body words place small =
      (of_kind words place heard (ArbitrateState session q slot) body legal small).is ∙ ap (λ (k : Kind). outcome_from k words place) (of_move heard session q slot body)

  closed : (state : StateValue) (body : BodyValue) (words : List ℕ) (place : ℕ) → place < length words → HasSmallQ state
      → seen_answer_to heard (record { state = state; body = reworded words place body }) ≡ seen → Stands false state body words (record { state = state; body = reworded words place body })
  closed state body words place inside small given =
      let kind = kind_of heard state body in
      let mine = of_kind (guessed heard seen) 0 heard state body legal small in
      let its = of_kind words place heard state body legal small in
      moved_over (is_enters kind) words seen mine.is its.is
      (stands_for (draws_slot heard) words place inside kind seen (suits heard state body) mine.small (sym (ap (λ (o : Outcome). seen_of o.answer) its.is) ∙ given))

  opened : (session q most slot : ℕ) (body : BodyValue) (words : List ℕ) (place : ℕ) → place < length words → q ≤ 15 → 1 ≤ slot → slot ≤ most
      → seen_answer_to heard (record { state = ArbitrateState session q slot; body = reworded words place body }) ≡ seen
      → Stands true (ArbitrateState session q most) body words (record { state = ArbitrateState session q slot; body = reworded words place body })
  opened session q most slot body words place inside small least within given =
      let move = move_of heard session q body in
      let its = its_at session q slot body words place small in
      moved_over true words seen (mine_at session q most body small) its
      (stands_at (draws_slot heard) session q most body words place inside slot least within move seen (good_move heard session q body legal small) (sym (ap (λ (o : Outcome). seen_of o.answer) its) ∙ given))

  by_state : (any : Bool) (known : StateValue) (body : BodyValue) (words : List ℕ) (place : ℕ) (state : StateValue) → place < length words → HasSmallQ known → CoversState any known state
      → seen_answer_to heard (record { state = state; body = reworded words place body }) ≡ seen → Stands any known body words (record { state = state; body = reworded words place body })
  by_state false known body words place state inside small covers given =
      subst (λ (it : StateValue). seen_answer_to heard (record { state = it; body = reworded words place body }) ≡ seen → Stands false known body words (record { state = it; body = reworded words place body }))
      (sym covers) (λ same. closed known body words place inside small same) given
  by_state true known body words place state inside small covers given =
      let small_q : covers.q ≤ 15 = subst HasSmallQ covers.known_is small in
      let at_slot = subst (λ (it : StateValue). seen_answer_to heard (record { state = it; body = reworded words place body }) ≡ seen) covers.is given in
      let here = opened covers.session covers.q covers.most covers.slot body words place inside small_q covers.least covers.within at_slot in
      let with_known = subst (λ (it : StateValue). Stands true it body words (record { state = ArbitrateState covers.session covers.q covers.slot; body = reworded words place body })) (sym covers.known_is) here in
      subst (λ (it : StateValue). Stands true known body words (record { state = it; body = reworded words place body })) (sym covers.is) with_known

  -- a tag that is meant and answers what was seen
  pub stands : (known : Known) (words : List ℕ) (place : ℕ) (tag : TagValue) → place < length words → IsValid known → Covers words place known tag → seen_answer_to heard tag ≡ seen
      → StandsFor (any_behind known heard (mine_of known heard seen).tag.state) words seen (mine_of known heard seen) (outcome_of_heard heard tag)
  stands known words place tag inside valid covers given =
      let same : tag ≡ record { state = tag.state; body = reworded words place known.tag.body } = ap (λ (b : BodyValue). let it : TagValue = record { state = tag.state; body = b } in it) covers.body in
      subst (λ (it : TagValue). Stands known.any known.tag.state known.tag.body words it) (sym same)
      (by_state known.any known.tag.state known.tag.body words place tag.state inside valid.small covers.state (subst (λ (it : TagValue). seen_answer_to heard it ≡ seen) same given))

  -- Some tag that is meant comes to this state, by some words, whatever was drawn before and is drawn then.
  pub record Arrives (known : Known) (state : StateValue) : Type 0 where
    pub from : StateValue
    pub meant : CoversState known.any known.tag.state from
    pub drawn : List ℕ
    pub are_small : AreSmall drawn
    pub answers : (used future : List ℕ) → 1 ≤ length future → seen_answer_to heard (record { state = from; body = reworded (used ++ (drawn ++ future)) (length used) known.tag.body }) ≡ seen
    pub becomes : (used future : List ℕ) → 1 ≤ length future
        → (outcome_of_heard heard (record { state = from; body = reworded (used ++ (drawn ++ future)) (length used) known.tag.body })).tag
        ≡ record { state = state; body = reworded (used ++ (drawn ++ future)) (length used + length drawn) (mine_of known heard seen).tag.body }

  abbrev MeantBehind : Bool → StateValue → BodyValue → StateValue → Type 0
  MeantBehind any known body state =
      CoversState (any_behind (known_as any known body) heard (mine_of (known_as any known body) heard seen).tag.state) (mine_of (known_as any known body) heard seen).tag.state state

  -- by the kind of what is heard
  arrives_by : (any : Bool) (known from : StateValue) (body : BodyValue) (state : StateValue) (kind : Kind) (after : BodyValue) → CoversState any known from
      → ((words : List ℕ) (place : ℕ) → outcome_of_heard heard (record { state = from; body = reworded words place body }) ≡ outcome_from kind words place)
      → ComesBy kind seen state after
      → ((words : List ℕ) (place : ℕ) → reworded words place (mine_of (known_as any known body) heard seen).tag.body ≡ reworded words place after)
      → Arrives (known_as any known body) state
  arrives_by any known from body state kind after meant is comes same = record {
    from = from;
    meant = meant;
    drawn = comes.drawn;
    are_small = comes.small;
    answers = λ used future some.
        ap (λ (o : Outcome). seen_of o.answer) (is (used ++ (comes.drawn ++ future)) (length used)) ∙ (comes.leads used future some).answers;
    becomes = λ used future some.
        ap (λ (o : Outcome). o.tag) (is (used ++ (comes.drawn ++ future)) (length used)) ∙ (comes.leads used future some).tag
        ∙ ap (λ (b : BodyValue). let it : TagValue = record { state = state; body = b } in it) (sym (same (used ++ (comes.drawn ++ future)) (length used + length comes.drawn)));
  }

  arrives_closed : (known : StateValue) (body : BodyValue) (state : StateValue) → HasSmallQ known → number_seen seen < 2 ^ 16 → seen_of (mine_of (known_as false known body) heard seen).answer ≡ seen
      → MeantBehind false known body state → Arrives (known_as false known body) state
  arrives_closed known body state small in_range given covers =
      let kind = kind_of heard known body in
      let mine = of_kind (guessed heard seen) 0 heard known body legal small in
      arrives_by false known known body state kind (body_of kind) refl (λ words place. (of_kind words place heard known body legal small).is)
      (comes_by (draws_slot heard) kind seen state (suits heard known body) mine.small in_range
      (sym (ap (λ (o : Outcome). seen_of o.answer) mine.is) ∙ given)
      (subst (λ (o : Outcome). CoversState (is_enters kind && waits o.tag.state) o.tag.state state) mine.is covers))
      (λ words place. ap (λ (o : Outcome). reworded words place o.tag.body) mine.is ∙ body_kept kind (guessed heard seen) 0 words place)

  arrives_open : (session q most : ℕ) (body : BodyValue) (state : StateValue) → q ≤ 15 → 1 ≤ most → number_seen seen < 2 ^ 16
      → seen_of (mine_of (known_as true (ArbitrateState session q most) body) heard seen).answer ≡ seen
      → MeantBehind true (ArbitrateState session q most) body state → Arrives (known_as true (ArbitrateState session q most) body) state
  arrives_open session q most body state small some in_range given covers =
      let move = move_of heard session q body in
      let mine = mine_at session q most body small in
      let comes = comes_at (draws_slot heard) session q most body some small state move seen in_range (good_move heard session q body legal small)
      (sym (ap (λ (o : Outcome). seen_of o.answer) mine) ∙ given)
      (subst (λ (o : Outcome). CoversState (true && waits o.tag.state) o.tag.state state) mine covers) in
      arrives_by true (ArbitrateState session q most) (ArbitrateState session q comes.slot) body state (kind_at move session q body comes.slot) comes.after
      (record { session = session; q = q; most = most; slot = comes.slot; known_is = refl; is = refl; least = comes.least; within = comes.within })
      (λ words place. its_at session q comes.slot body words place small) comes.comes
      (λ words place. ap (λ (o : Outcome). reworded words place o.tag.body) mine ∙ comes.same words place)

  arrives_so : (any : Bool) (known : StateValue) (body : BodyValue) (state : StateValue) → HasSmallQ known → CoversState any known known → number_seen seen < 2 ^ 16
      → seen_of (mine_of (known_as any known body) heard seen).answer ≡ seen → MeantBehind any known body state → Arrives (known_as any known body) state
  arrives_so false known body state small itself in_range given covers = arrives_closed known body state small in_range given covers
  arrives_so true known body state small itself in_range given covers =
      let is : known ≡ ArbitrateState itself.session itself.q itself.most = itself.known_is in
      let small_q : itself.q ≤ 15 = subst HasSmallQ is small in
      let least = itself.least in
      let within = itself.within in
      let with_known : seen_of (mine_of (known_as true (ArbitrateState itself.session itself.q itself.most) body) heard seen).answer ≡ seen
      = subst (λ (it : StateValue). seen_of (mine_of (known_as true it body) heard seen).answer ≡ seen) is given in
      let meant : MeantBehind true (ArbitrateState itself.session itself.q itself.most) body state = subst (λ (it : StateValue). MeantBehind true it body state) is covers in
      subst (λ (it : StateValue). Arrives (known_as true it body) state) (sym is)
      (arrives_open itself.session itself.q itself.most body state small_q (omega (arith, least, within)) in_range with_known meant)

  pub arrives : (known : Known) (state : StateValue) → IsValid known → number_seen seen < 2 ^ 16 → seen_of (mine_of known heard seen).answer ≡ seen
      → CoversState (any_behind known heard (mine_of known heard seen).tag.state) (mine_of known heard seen).tag.state state → Arrives known state
  arrives known state valid in_range given covers = arrives_so known.any known.tag.state known.tag.body state valid.small valid.itself in_range given covers
