-- What a tag that stands for what is known makes of a command, beside what is prepared for it.
use Rattle.std.proofs.Common.{◌≡◌, ℕ, ◌+◌, ◌-◌, ◌<◌, ◌≤◌, ◌==◌, ◌&&◌, Bool, true, false, not, is_some, nat_lt, List, [], ◌∷◌, Option, Some, None, if◌then◌else◌, refl, sym, ◌∙◌, ap, subst, arith, inl, inr}
use Rattle.std.proofs.lemmas.Bool.{lt-ltb, ltb-true, not-true}
use Rattle.std.proofs.lemmas.Bool.Decides.{eqb_tells}
use Rattle.command_grammar.specs.declared.commands.Command.{Command}
use Rattle.command_grammar.specs.declared.commands.Command.TheVariants as commands
use Rattle.tag_machine.specs.TagValue.{StateValue, ArbitrateState, BodyValue, TagValue}
use Rattle.tag_machine.specs.Answers.{Outcome, silent}
use Rattle.tag_machine.specs.Draws.{begin_reply}
use Rattle.tag_machine.specs.Inventory.{count_down, q_after_adjust, slot_below}
use Rattle.tag_machine.specs.StateNumbers.{numbers_of}
use Rattle.tag_machine.specs.Step.{step}
use Rattle.tag_machine.specs.declared.state_numbers.StateNumbers.{StateNumbers}
use Rattle.log_judge.specs.Log.{Seen, Exchange}
use Rattle.log_judge.specs.Explaining.{ByTables, outcome_of_heard, seen_of}
use Rattle.log_judge.specs.laws.Logs.{IsLegalHeard}
use Rattle.log_judge.specs.laws.Kinds.{Kind, Settled, Enters, Replies, ArbitrateMove, Stays, Leaves, Counts, reworded, count_kind, kind_of, move_of, HasSmallQ}
use Rattle.log_judge.proofs.KindOutcomes.{outcome_from, kind_at, KeepsSmallQ}
use Rattle.log_judge.specs.laws.Known.{Known, any_behind, draws_slot, guessed, is_enters, prepared, waits, want_of, want_of_move}
use Rattle.log_judge.proofs.KindsOfSteps.{of_kind, of_move}
use Rattle.log_judge.proofs.Guesses.{not_zero}
use Rattle.log_judge.proofs.OneExchange.{below_is}
use Rattle.log_judge.proofs.SuitedKinds.{IsGoodKind, IsGoodMove, LeavesSo, good_move}
use Rattle.log_judge.specs.declared.draws.Draws.{Draws}
use Rattle.log_judge.specs.declared.draws.Draws.TheVariants as draws
use Rattle.log_judge.specs.Drawing.{draws_at, fallen, slots_behind, words_given}
use Rattle.log_judge.specs.Wanted.{want_behind}
use Rattle.log_judge.specs.KnownTag.{Goes, HasFirstSlot, known_of, known_wordless, wordless}
use Rattle.log_judge.proofs.Fitting.{Fits, fits, same_number}
use Rattle.log_judge.proofs.Tests.{one_number, none_or_some, some_or_none, and_left, and_right, nothing_seen}
use Rattle.log_judge.proofs.KindsMoved.{RepliesAt, StandsIn, drawn_elsewhere, guess_of, its_of, kind_want, mine_of, not_waiting, replies_so, same_words, silent_kind, spoken_kind, stands_known, entered_silent}

-- the words that are prepared
guessed_are : (command : Command) (seen : Option Seen) → guessed (Some command) seen ≡ guess_of (draws_at command) seen
guessed_are (commands.QueryRep session) seen = refl
guessed_are command seen = refl

-- a tag that is given words, and hears the command
abbrev pub heard_by : Command → TagValue → Option Seen → Outcome
heard_by command tag seen = step command tag.state (reworded (words_given (draws_at command) seen) 0 tag.body)

-- what is prepared, and hears it
abbrev pub prepared_by : Command → TagValue → Option ℕ → Option Seen → Outcome
prepared_by command tag most seen = outcome_of_heard (Some command) (prepared (known_of tag most) (Some command) seen)

abbrev pub any_by : Command → TagValue → Option ℕ → Option Seen → Bool
any_by command tag most seen = any_behind (known_of tag most) (Some command) (prepared_by command tag most seen).tag.state

abbrev pub next_by : Command → TagValue → Option ℕ → Option Seen → Known
next_by command tag most seen = record { tag = (prepared_by command tag most seen).tag; any = any_by command tag most seen }

-- the slot counter falls from 1 alone
abbrev pub CountsFromOneOf : ℕ → ArbitrateMove → Type 0
CountsFromOneOf m (Counts session) = m ≡ 1
CountsFromOneOf m move = Unit {0}

-- what an exchange without an answer makes of what is known, and one with an answer
pub record Moves (command : Command) (tag : TagValue) (most : Option ℕ) (seen : Option Seen) : Type 0 where
  pub answers : seen_of (heard_by command tag seen).answer ≡ seen_of (prepared_by command tag most seen).answer
  pub silent_known : seen ≡ None → seen_of (heard_by command tag seen).answer ≡ None
      → known_wordless (next_by command tag most seen) ≡ known_of (heard_by command tag seen).tag (slots_behind (draws_at command) (heard_by command tag seen).tag.state most)
  pub first : seen ≡ None → seen_of (heard_by command tag seen).answer ≡ None
      → HasFirstSlot (slots_behind (draws_at command) (heard_by command tag seen).tag.state most) (heard_by command tag seen).tag.state
  pub spoken : (said answer : Seen) → seen ≡ Some said → seen_of (heard_by command tag seen).answer ≡ Some answer → known_wordless (next_by command tag most seen) ≡ known_of (heard_by command tag seen).tag None
  pub want : want_of (known_of tag most) (Some command) ≡ want_behind (draws_at command) (seen_of (heard_by command tag seen).answer) (heard_by command tag seen).tag.state most

module _ (command : Command) (legal : IsLegalHeard (Some command)) where
  abbrev drawn : Draws
  drawn = draws_at command

  -- where the slot is known
  module _ (tag : TagValue) (small : HasSmallQ tag.state) where
    abbrev kind : Kind
    kind = kind_of (Some command) tag.state (reworded [] 0 tag.body)

    mine_is : (seen : Option Seen) → heard_by command tag seen ≡ mine_of drawn kind seen
    mine_is seen = (of_kind (words_given drawn seen) 0 (Some command) tag.state (reworded [] 0 tag.body) legal small).is

    its_is : (seen : Option Seen) → prepared_by command tag None seen ≡ its_of drawn kind seen
    its_is seen =
        (of_kind (guessed (Some command) seen) 0 (Some command) tag.state (reworded [] 0 tag.body) legal small).is
        ∙ ap (λ (ws : List ℕ). outcome_from kind ws 0) (guessed_are command seen)

    small_kind : KeepsSmallQ kind
    small_kind = (of_kind [] 0 (Some command) tag.state (reworded [] 0 tag.body) legal small).small

    stands_silent : StandsIn drawn None (is_enters kind) (heard_by command tag None) (prepared_by command tag None None)
    stands_silent =
        subst (λ (o : Outcome). StandsIn drawn None (is_enters kind) o (prepared_by command tag None None)) (sym (mine_is None))
        (subst (λ (o : Outcome). StandsIn drawn None (is_enters kind) (mine_of drawn kind None) o) (sym (its_is None))
        (silent_kind drawn kind (fits command tag.state (reworded [] 0 tag.body)) small_kind))

    -- what is prepared for an answer is the tag that is given words
    same_spoken : (seen : Seen) → prepared_by command tag None (Some seen) ≡ heard_by command tag (Some seen)
    same_spoken seen =
        ap (λ (ws : List ℕ). step command tag.state (reworded ws 0 tag.body)) (guessed_are command (Some seen) ∙ sym (same_words drawn seen))

    spoken_any : (seen : Seen) → any_by command tag None (Some seen) ≡ false
    spoken_any seen =
        ap (λ (o : Outcome). is_enters kind && waits o.tag.state) (same_spoken seen ∙ mine_is (Some seen))
        ∙ spoken_kind drawn kind seen (fits command tag.state (reworded [] 0 tag.body))

    want_known : (seen : Option Seen) → want_of (known_of tag None) (Some command) ≡ want_behind drawn (seen_of (heard_by command tag seen).answer) (heard_by command tag seen).tag.state None
    want_known seen =
        kind_want (words_given drawn seen) 0 None drawn kind (fits command tag.state (reworded [] 0 tag.body)) (replies_so kind)
        ∙ sym (ap (λ (o : Outcome). want_behind drawn (seen_of o.answer) o.tag.state None) (mine_is seen))

    pub moves_known : (seen : Option Seen) → Moves command tag None seen
    moves_known None = record {
      answers = stands_silent.answers;
      silent_known = λ silent_then answer. (stands_silent.behind answer).known;
      first = λ silent_then answer. (stands_silent.behind answer).first;
      spoken = λ said answer wrong other. absurd (none_or_some wrong);
      want = want_known None;
    }
    moves_known (Some seen) = record {
      answers = sym (ap (λ (o : Outcome). seen_of o.answer) (same_spoken seen));
      silent_known = λ wrong answer. absurd (some_or_none wrong);
      first = λ wrong answer. absurd (some_or_none wrong);
      spoken = λ said answer is other.
          ap (λ (o : Outcome). let it : Known = record { tag = wordless o.tag; any = any_by command tag None (Some seen) } in it) (same_spoken seen)
          ∙ ap (λ (x : Bool). let it : Known = record { tag = wordless (heard_by command tag (Some seen)).tag; any = x } in it) (spoken_any seen);
      want = want_known (Some seen);
    }

  -- where the slot may be any, and the tag has slot 1
  module _ (session q m : ℕ) (body : BodyValue) (in_range : q ≤ 15) (least : 1 ≤ m) where
    abbrev tag_in : TagValue
    tag_in = record { state = ArbitrateState session q 1; body = body }

    abbrev move : ArbitrateMove
    move = move_of (Some command) session q (reworded [] 0 body)

    abbrev kind_in : ArbitrateMove → ℕ → Kind
    kind_in it slot = kind_at it session q (reworded [] 0 body) slot

    mine_in : (seen : Option Seen) → heard_by command tag_in seen ≡ mine_of drawn (kind_in move 1) seen
    mine_in seen =
        (of_kind (words_given drawn seen) 0 (Some command) (ArbitrateState session q 1) (reworded [] 0 body) legal in_range).is
        ∙ ap (λ (k : Kind). outcome_from k (words_given drawn seen) 0) (of_move (Some command) session q 1 (reworded [] 0 body))

    its_in : prepared_by command tag_in (Some m) None ≡ its_of drawn (kind_in move m) None
    its_in =
        (of_kind (guessed (Some command) None) 0 (Some command) (ArbitrateState session q m) (reworded [] 0 body) legal in_range).is
        ∙ ap (λ (k : Kind). outcome_from k (guessed (Some command) None) 0) (of_move (Some command) session q m (reworded [] 0 body))
        ∙ ap (λ (ws : List ℕ). outcome_from (kind_in move m) ws 0) (guessed_are command None)

    fits_in : (slot : ℕ) → Fits drawn (kind_in move slot)
    fits_in slot = subst (λ (k : Kind). Fits drawn k) (of_move (Some command) session q slot (reworded [] 0 body)) (fits command (ArbitrateState session q slot) (reworded [] 0 body))

    good_in : IsGoodMove (draws_slot (Some command)) move
    good_in = good_move (Some command) session q (reworded [] 0 body) legal in_range

    abbrev CountsFromOne : ArbitrateMove → Type 0
    CountsFromOne it = CountsFromOneOf m it

    leaves_silent : (it : Kind) → Fits drawn it → IsGoodKind (draws_slot (Some command)) it → StandsIn drawn (Some m) true (mine_of drawn it None) (its_of drawn it None)
    leaves_silent (Settled outcome) fit good =
        stands_known drawn (Some m) true (mine_of drawn (Settled outcome) None) (its_of drawn (Settled outcome) None) refl refl refl
        (not_waiting drawn outcome.tag.state (Some m) good.so.0) good.so.0
    leaves_silent (Enters own new_q after) fit good = by drawn fit
      where
        by : (it : Draws) → Fits it (Enters own new_q after) → StandsIn it (Some m) true (mine_of it (Enters own new_q after) None) (its_of it (Enters own new_q after) None)
        by (draws.Slot of_session) fit = entered_silent of_session own after (Some m) fit new_q good.small
        by it fit = absurd fit
    leaves_silent it fit good = absurd good.so

    silent_in : (it : ArbitrateMove) → ((slot : ℕ) → Fits drawn (kind_in it slot)) → IsGoodMove (draws_slot (Some command)) it → CountsFromOne it
        → StandsIn drawn (Some m) true (mine_of drawn (kind_in it 1) None) (its_of drawn (kind_in it m) None)
    silent_in Stays fit good from = record {
      answers = refl;
      behind = λ silent_then.
          let slots = drawn_elsewhere drawn session q 1 (reworded [] 0 body) (Some m) (fit 1) in
          record {
            known = sym (ap (λ (x : Option ℕ). known_of tag_in x) slots);
            first = subst (λ (x : Option ℕ). HasFirstSlot x (ArbitrateState session q 1)) (sym slots) (record { session = session; q = q; is = refl; least = least });
          };
    }
    silent_in (Leaves it) fit good from = leaves_silent it (fit 1) good
    silent_in (Counts other) fit good from = by drawn (fit 1)
      where
        by : (it : Draws) → Fits it (Replies other q (reworded [] 0 body)) → StandsIn it (Some m) true (mine_of it (Replies other q (reworded [] 0 body)) None) (its_of it (count_kind other q m (reworded [] 0 body)) None)
        by (draws.Turn of_session) fit =
            subst (λ (n : ℕ). StandsIn (draws.Turn of_session) (Some m) true (mine_of (draws.Turn of_session) (Replies other q (reworded [] 0 body)) None) (its_of (draws.Turn of_session) (count_kind other q n (reworded [] 0 body)) None)) (sym from)
            (record { answers = refl; behind = λ silent_then. absurd (some_or_none silent_then) })
        by it fit = absurd fit

    -- ... and an answer
    same_in : (seen : Seen) → prepared_by command tag_in (Some m) (Some seen) ≡ heard_by command tag_in (Some seen)
    same_in seen =
        ap (λ (ws : List ℕ). step command (ArbitrateState session q 1) (reworded ws 0 body)) (guessed_are command (Some seen) ∙ sym (same_words drawn seen))

    spoken_in : (it : ArbitrateMove) (seen answer : Seen) → Fits drawn (kind_in it 1) → IsGoodMove (draws_slot (Some command)) it → seen_of (mine_of drawn (kind_in it 1) (Some seen)).answer ≡ Some answer
        → waits (mine_of drawn (kind_in it 1) (Some seen)).tag.state ≡ false
    spoken_in Stays seen answer fit good answered = absurd (none_or_some answered)
    spoken_in (Leaves (Settled outcome)) seen answer fit good answered = good.so.0
    spoken_in (Leaves (Enters own new_q after)) seen answer fit good answered = spoken_kind drawn (Enters own new_q after) seen fit
    spoken_in (Leaves it) seen answer fit good answered = absurd good.so
    spoken_in (Counts other) seen answer fit good answered = refl

    want_in : (it : ArbitrateMove) (seen : Option Seen) → Fits drawn (kind_in it 1) → IsGoodMove (draws_slot (Some command)) it
        → want_of_move it m ≡ want_behind drawn (seen_of (mine_of drawn (kind_in it 1) seen).answer) (mine_of drawn (kind_in it 1) seen).tag.state (Some m)
    want_in Stays seen fit good = kind_want (words_given drawn seen) 0 (Some m) drawn (kind_in Stays 1) fit tt
    want_in (Leaves it) seen fit good = kind_want (words_given drawn seen) 0 (Some m) drawn it fit (at it good.so)
      where
        at : (k : Kind) → LeavesSo k → RepliesAt (Some m) k
        at (Replies own new_q after) so = absurd so
        at k so = tt
    want_in (Counts other) seen fit good = by drawn fit
      where
        by : (it : Draws) → Fits it (Replies other q (reworded [] 0 body))
            → want_of_move (Counts other) m ≡ want_behind it (seen_of (mine_of it (Replies other q (reworded [] 0 body)) seen).answer) (mine_of it (Replies other q (reworded [] 0 body)) seen).tag.state (Some m)
        by (draws.Turn of_session) fit = refl
        by it fit = absurd fit

    abbrev any_in : Option Seen → Bool
    any_in seen = any_by command tag_in (Some m) seen

    want_moved : (seen : Option Seen) → want_of (known_of tag_in (Some m)) (Some command) ≡ want_behind drawn (seen_of (heard_by command tag_in seen).answer) (heard_by command tag_in seen).tag.state (Some m)
    want_moved seen =
        want_in move seen (fits_in 1) good_in
        ∙ sym (ap (λ (o : Outcome). want_behind drawn (seen_of o.answer) o.tag.state (Some m)) (mine_in seen))

    stands_in : CountsFromOne move → StandsIn drawn (Some m) true (heard_by command tag_in None) (prepared_by command tag_in (Some m) None)
    stands_in from =
        subst (λ (o : Outcome). StandsIn drawn (Some m) true o (prepared_by command tag_in (Some m) None)) (sym (mine_in None))
        (subst (λ (o : Outcome). StandsIn drawn (Some m) true (mine_of drawn (kind_in move 1) None) o) (sym its_in)
        (silent_in move fits_in good_in from))

    pub moves_in : (seen : Option Seen) → (seen ≡ None → CountsFromOne move) → Moves command tag_in (Some m) seen
    moves_in None from = record {
      answers = (stands_in (from refl)).answers;
      silent_known = λ silent_then answer. ((stands_in (from refl)).behind answer).known;
      first = λ silent_then answer. ((stands_in (from refl)).behind answer).first;
      spoken = λ said answer wrong other. absurd (none_or_some wrong);
      want = want_moved None;
    }
    moves_in (Some seen) from = record {
      answers = sym (ap (λ (o : Outcome). seen_of o.answer) (same_in seen));
      silent_known = λ wrong answer. absurd (some_or_none wrong);
      first = λ wrong answer. absurd (some_or_none wrong);
      spoken = λ said answer is other.
          ap (λ (o : Outcome). let it : Known = record { tag = wordless o.tag; any = waits o.tag.state } in it) (same_in seen)
          ∙ ap (λ (x : Bool). let it : Known = record { tag = wordless (heard_by command tag_in (Some seen)).tag; any = x } in it)
          (ap (λ (o : Outcome). waits o.tag.state) (mine_in (Some seen)) ∙ spoken_in move seen answer (fits_in 1) good_in (sym (ap (λ (o : Outcome). seen_of o.answer) (mine_in (Some seen))) ∙ other));
      want = want_moved (Some seen);
    }

-- The slot counter falls at a QueryRep of the tag's round, where the tag was silent.
module _ (session q less : ℕ) (body : BodyValue) (some : 1 ≤ less) where
  abbrev falling : Known
  falling = known_of (record { state = ArbitrateState session q 1; body = body }) (Some (less + 1))

  abbrev fell : Outcome
  fell = outcome_of_heard (Some (commands.QueryRep session)) (prepared falling (Some (commands.QueryRep session)) None)

  fell_is : fell ≡ silent (ArbitrateState session q less) (reworded (0 ∷ 0 ∷ []) 0 body)
  fell_is =
      let below : slot_below (less + 1) ≡ less = below_is (less + 1) (omega arith) ∙ omega arith in
      ap (λ (test : Bool). if test then count_down session q (less + 1) (reworded (0 ∷ 0 ∷ []) 0 body) else silent (ArbitrateState session q (less + 1)) (reworded (0 ∷ 0 ∷ []) 0 body)) (same_number session)
      ∙ ap (λ (n : ℕ). if n == 0 then begin_reply session q (reworded (0 ∷ 0 ∷ []) 0 body) else silent (ArbitrateState session q n) (reworded (0 ∷ 0 ∷ []) 0 body)) below
      ∙ ap (λ (test : Bool). if test then begin_reply session q (reworded (0 ∷ 0 ∷ []) 0 body) else silent (ArbitrateState session q less) (reworded (0 ∷ 0 ∷ []) 0 body)) (not_zero less some)

  pub falls_on : Goes ByTables falling (Exchange (Some (commands.QueryRep session)) None) (known_of (record { state = ArbitrateState session q 1; body = body }) (Some less))
  falls_on = record {
    next = record { tag = fell.tag; any = any_behind falling (Some (commands.QueryRep session)) fell.tag.state };
    follows = ((ap (λ (o : Outcome). seen_of o.answer) fell_is, refl), refl);
    is = sym (ap (λ (o : Outcome). let it : Known = record { tag = wordless o.tag; any = waits o.tag.state } in it) fell_is);
  }

rep_of : (command : Command) (session : ℕ) → draws_at command ≡ draws.Turn session → command ≡ commands.QueryRep session
rep_of (commands.QueryRep other) session is = cc
rep_of command session is = absurd (cc)

-- the slot counter falls to this
pub record FallsSo (command : Command) (tag : TagValue) (most : Option ℕ) (seen : Option Seen) (less : ℕ) : Type 0 where
  pub goes : Goes ByTables (known_of tag most) (Exchange (Some command) seen) (known_of tag (Some less))
  pub first : HasFirstSlot (Some less) tag.state

falls_from : (session q less : ℕ) (command : Command) (seen : Option Seen) (body : BodyValue) → 1 ≤ less → command ≡ commands.QueryRep session → seen ≡ None
    → FallsSo command (record { state = ArbitrateState session q 1; body = body }) (Some (less + 1)) seen less
falls_from session q less command seen body some is silent_then =
    subst (λ (c : Command). FallsSo c (record { state = ArbitrateState session q 1; body = body }) (Some (less + 1)) seen less) (sym is)
    (subst (λ (s : Option Seen). FallsSo (commands.QueryRep session) (record { state = ArbitrateState session q 1; body = body }) (Some (less + 1)) s less) (sym silent_then)
    (record { goes = falls_on session q less body some; first = record { session = session; q = q; is = refl; least = some } }))

module _ (command : Command) (seen : Option Seen) (session q m : ℕ) (body : BodyValue) where
  abbrev tag_here : TagValue
  tag_here = record { state = ArbitrateState session q 1; body = body }

  abbrev test_in : ℕ → Bool
  test_in other = session == other && not (is_some seen) && nat_lt 1 m

  falls_at : (other less : ℕ) → draws_at command ≡ draws.Turn other → test_in other ≡ true → m - 1 ≡ less → FallsSo command tag_here (Some m) seen less
  falls_at other less is test sum =
      let both = and_left (session == other && not (is_some seen)) (nat_lt 1 m) test in
      let same = one_number session other (and_left (session == other) (not (is_some seen)) both) in
      let silent_then = nothing_seen seen (not-true (is_some seen) (and_right (session == other) (not (is_some seen)) both)) in
      let two : 1 < m = ltb-true 1 m (and_right (session == other && not (is_some seen)) (nat_lt 1 m) test) in
      let whole : less + 1 ≡ m = omega (arith, two, sum) in
      subst (λ (n : ℕ). FallsSo command tag_here (Some n) seen less) whole
      (falls_from session q less command seen body (omega (arith, two, sum)) (rep_of command session (is ∙ ap (λ (n : ℕ). draws.Turn n) (sym same))) silent_then)

  falls_by : (drawn : Draws) (less : ℕ) → draws_at command ≡ drawn → fallen drawn (is_some seen) (numbers_of (ArbitrateState session q 1)) (Some m) ≡ Some less → FallsSo command tag_here (Some m) seen less
  falls_by (draws.Turn other) less is to = by (test_in other) refl to
    where
      by : (test : Bool) → test_in other ≡ test → (if test then Some (m - 1) else None) ≡ Some less → FallsSo command tag_here (Some m) seen less
      by true test to = falls_at other less is test (cc)
      by false test to = absurd (none_or_some to)
  falls_by it less is to = absurd (none_or_some to)

none_fallen : (drawn : Draws) (answered : Bool) (held_numbers : StateNumbers) → fallen drawn answered held_numbers None ≡ None
none_fallen (draws.Slot session) answered held_numbers = refl
none_fallen it answered held_numbers = refl

pub falls : (command : Command) (tag : TagValue) (most : Option ℕ) (seen : Option Seen) (less : ℕ) → HasFirstSlot most tag.state → fallen (draws_at command) (is_some seen) (numbers_of tag.state) most ≡ Some less
    → FallsSo command tag most seen less
falls command tag None seen less first to = absurd (none_or_some (sym (none_fallen (draws_at command) (is_some seen) (numbers_of tag.state)) ∙ to))
falls command tag (Some m) seen less first to =
    subst (λ (s : StateValue). FallsSo command (record { state = s; body = tag.body }) (Some m) seen less) (sym first.is)
    (falls_by command seen first.session first.q m tag.body (draws_at command) less refl
    (sym (ap (λ (s : StateValue). fallen (draws_at command) (is_some seen) (numbers_of s) (Some m)) first.is) ∙ to))

-- ... and where it doesn't fall, the tag has slot 1 for certain
module _ (session q m : ℕ) (body : BodyValue) (least : 1 ≤ m) where
  from_one : (test : Bool) (other : ℕ) → (test ≡ true → m ≡ 1) → CountsFromOneOf m (if test then Counts other else Stays)
  from_one true other one = one refl
  from_one false other one = tt

  either_leaves : (test : Bool) (it : Kind) → CountsFromOneOf m (if test then Leaves it else Stays)
  either_leaves true it = tt
  either_leaves false it = tt

  rep_lasts : (other : ℕ) → (session == other) ≡ true → fallen (draws.Turn other) false (numbers_of (ArbitrateState session q 1)) (Some m) ≡ None → m ≡ 1
  rep_lasts other same lasts =
      elim (eqb_tells m 1) [
        | inl w ↦ w.1
        | inr w ↦
            let two : 1 < m = omega (arith, w.1, least) in
            let falls_now : fallen (draws.Turn other) false (numbers_of (ArbitrateState session q 1)) (Some m) ≡ Some (m - 1)
            = ap (λ (test : Bool). if test && true && nat_lt 1 m then Some (m - 1) else None) same ∙ ap (λ (test : Bool). if test then Some (m - 1) else None) (lt-ltb 1 m two) in
            absurd (none_or_some (sym lasts ∙ falls_now))
      ]

  pub counts_from_one : (command : Command) (seen : Option Seen) → fallen (draws_at command) (is_some seen) (numbers_of (ArbitrateState session q 1)) (Some m) ≡ None → seen ≡ None
      → CountsFromOneOf m (move_of (Some command) session q body)
  counts_from_one (commands.QueryRep other) seen lasts silent_then =
      from_one (session == other) other (λ same.
      rep_lasts other same (sym (ap (λ (s : Option Seen). fallen (draws.Turn other) (is_some s) (numbers_of (ArbitrateState session q 1)) (Some m)) silent_then) ∙ lasts))
  counts_from_one (commands.QueryAdjust other updn) seen lasts silent_then = either_leaves (session == other) (Enters other (q_after_adjust updn q) body)
  counts_from_one command seen lasts silent_then = tt

-- of a tag in any state
pub moves : (command : Command) (tag : TagValue) (most : Option ℕ) (seen : Option Seen) → IsLegalHeard (Some command) → HasSmallQ tag.state → HasFirstSlot most tag.state
    → fallen (draws_at command) (is_some seen) (numbers_of tag.state) most ≡ None → Moves command tag most seen
moves command tag None seen legal small first lasts = moves_known command legal tag small seen
moves command tag (Some m) seen legal small first lasts =
    let here : Moves command (record { state = ArbitrateState first.session first.q 1; body = tag.body }) (Some m) seen
    = moves_in command legal first.session first.q m tag.body (subst HasSmallQ first.is small) first.least seen
    (counts_from_one first.session first.q m (reworded [] 0 tag.body) first.least command seen
    (sym (ap (λ (s : StateValue). fallen (draws_at command) (is_some seen) (numbers_of s) (Some m)) first.is) ∙ lasts)) in
    subst (λ (s : StateValue). Moves command (record { state = s; body = tag.body }) (Some m) seen) (sym first.is) here
