-- What an exchange and an event show of what is known.
use Rattle.std.proofs.Common.{◌≡◌, ◌≢◌, ℕ, ◌≤◌, true, false, List, [], Option, Some, None, refl, sym, ◌∙◌, ap, subst, inl, inr}
use Rattle.air_events.specs.declared.Event.{Event}
use Rattle.air_events.specs.declared.Event.TheVariants as events
use Rattle.command_grammar.specs.declared.commands.Command.{Command}
use Rattle.command_grammar.specs.declared.commands.Command.TheVariants as commands
use Rattle.tag_machine.specs.TagValue.{StateValue, ReadyState, ArbitrateState, BodyValue, TagValue}
use Rattle.tag_machine.specs.Answers.{Outcome}
use Rattle.tag_machine.specs.Events.{tag_after_event}
use Rattle.tag_machine.specs.Step.{step}
use Rattle.log_judge.specs.Log.{LogEntry, Seen, Exchange, Befalls}
use Rattle.log_judge.specs.Explaining.{Excuses, IsOtherError, ByTables, WithLiberties, seen_answer_to, is_optional, seen_of}
use Rattle.log_judge.specs.laws.Kinds.{reworded}
use Rattle.log_judge.specs.laws.Known.{Known, any_behind, prepared, want_of, want_of_answer}
use Rattle.log_judge.specs.declared.draws.Draws.{Draws}
use Rattle.log_judge.specs.declared.draws.Draws.TheVariants as draws
use Rattle.log_judge.specs.Drawing.{draws_at, slots_behind, words_given}
use Rattle.log_judge.specs.Wanted.{want_behind}
use Rattle.log_judge.specs.Optional.{AnswersOptional}
use Rattle.log_judge.specs.KnownTag.{Goes, HasFirstSlot, IsExcusedHere, LacksHere, MayGo, known_of, known_wordless, wordless}
use Rattle.log_judge.proofs.Tests.{no_test, none_or_some}
use Rattle.log_judge.proofs.Moving.{Moves, heard_by, next_by, prepared_by}

-- a tag that was given its words
pub given_body : (ws : List ℕ) (body : BodyValue) → body.words ≡ ws → body.next_draw ≡ 0 → body ≡ reworded ws 0 body
given_body ws body words place =
    ap (λ (l : List ℕ). let it : BodyValue = record body { words = l } in it) words
    ∙ ap (λ (n : ℕ). let it : BodyValue = record body { words = ws; next_draw = n } in it) place

module _ (command : Command) (tag : TagValue) (most : Option ℕ) (seen : Option Seen) (moves : Moves command tag most seen) where
  abbrev heard : Option Command
  heard = Some command

  abbrev known : Known
  known = known_of tag most

  abbrev mine : Outcome
  mine = heard_by command tag seen

  abbrev entry : LogEntry
  entry = Exchange heard seen

  -- what it answers is what was seen
  pub explained_silence : seen ≡ None → seen_of mine.answer ≡ seen → Goes ByTables known entry (known_of mine.tag (slots_behind (draws_at command) mine.tag.state most))
  explained_silence silent_then same = record {
    next = next_by command tag most seen;
    follows = ((sym moves.answers ∙ same, refl), refl);
    is = sym (moves.silent_known silent_then (same ∙ silent_then));
  }

  pub explained_answer : (said : Seen) → seen ≡ Some said → seen_of mine.answer ≡ seen → Goes ByTables known entry (known_of mine.tag None)
  explained_answer said is same = record {
    next = next_by command tag most seen;
    follows = ((sym moves.answers ∙ same, refl), refl);
    is = sym (moves.spoken said said is (same ∙ is));
  }

  -- ... and where it isn't, the tables don't explain it
  pub unexplained : seen_of mine.answer ≢ seen → ¬ MayGo ByTables known entry
  unexplained other it = other (moves.answers ∙ it.1.0.0)

  -- an error with another code
  pub excused_error : seen_of mine.answer ≢ seen → IsOtherError (seen_of mine.answer) seen → IsExcusedHere known heard seen (known_of mine.tag None)
  excused_error other error = record {
    unexplained = unexplained other;
    goes = record {
      next = next_by command tag most seen;
      follows = (inr (inl (record { other = subst (λ (a : Option Seen). IsOtherError a seen) moves.answers error; becomes = refl })), refl);
      is = sym (moves.spoken _ _ error.said error.answered);
    };
  }

  -- what no liberty excuses
  pub unexcused : seen_of mine.answer ≢ seen → ¬ IsOtherError (seen_of mine.answer) seen → ¬ LacksHere command seen (record { state = tag.state; body = reworded (words_given (draws_at command) seen) 0 tag.body }) → ¬ MayGo WithLiberties known entry
  unexcused other no_error lacks_not it = by it.1.0
    where
      by : Excuses entry (prepared known heard seen) it.0.tag → ⊥
      by (inl explains) = other (moves.answers ∙ explains.0)
      by (inr (inl takes)) = no_error (subst (λ (a : Option Seen). IsOtherError a seen) (sym moves.answers) takes.other)
      by (inr (inr lacks)) = lacks_not (record { silent = lacks.silent; answers = record { optional = lacks.optional; answered = λ none. lacks.answered (sym moves.answers ∙ none) } })

  pub want_is : want_behind (draws_at command) (seen_of mine.answer) mine.tag.state most ≡ want_of known heard
  want_is = sym moves.want

-- A command that a tag need not have draws nothing, and a tag in arbitrate doesn't answer it.
pub draws_nothing : (command : Command) → is_optional (Some command) ≡ true → draws_at command ≡ draws.Nothing
draws_nothing commands.Nak optional = cc
draws_nothing command optional = cc

abbrev stays_by : Command → TagValue → Option ℕ → Known
stays_by command tag most = record {
  tag = prepared (known_of tag most) (Some command) None;
  any = any_behind (known_of tag most) (Some command) (prepared (known_of tag most) (Some command) None).state;
}

stays_known : (command : Command) (tag : TagValue) → is_optional (Some command) ≡ true → known_of tag None ≡ known_wordless (stays_by command tag None)
stays_known commands.Nak tag optional = cc
stays_known command tag optional = cc

silent_in_arbitrate : (command : Command) (session q : ℕ) (body : BodyValue) → is_optional (Some command) ≡ true → seen_answer_to (Some command) (record { state = ArbitrateState session q 1; body = body }) ≡ None
silent_in_arbitrate commands.Nak session q body optional = cc
silent_in_arbitrate command session q body optional = cc

stays_lacking : (command : Command) (tag : TagValue) (most : Option ℕ) → AnswersOptional command tag → HasFirstSlot most tag.state → known_of tag most ≡ known_wordless (stays_by command tag most)
stays_lacking command tag None answers first = stays_known command tag answers.optional
stays_lacking command tag (Some m) answers first =
    absurd (answers.answered (ap (λ (s : StateValue). seen_answer_to (Some command) (record { state = s; body = tag.body })) first.is ∙ silent_in_arbitrate command first.session first.q tag.body answers.optional))

-- a command that the tag lacks, of a tag that was given its words
pub excused_lack : (command : Command) (tag : TagValue) (most : Option ℕ) (seen : Option Seen) → Moves command tag most seen → HasFirstSlot most tag.state → seen ≡ None
    → tag.body ≡ reworded (words_given (draws_at command) seen) 0 tag.body → AnswersOptional command tag → IsExcusedHere (known_of tag most) (Some command) seen (known_of tag most)
excused_lack command tag most seen moves first silent_then given answers =
    let mine_is : seen_answer_to (Some command) tag ≡ seen_of (heard_by command tag seen).answer = ap (λ (b : BodyValue). seen_of (step command tag.state b).answer) given in
    let answered : seen_of (prepared_by command tag most seen).answer ≢ None = λ none. answers.answered (mine_is ∙ moves.answers ∙ none) in
    record {
      unexplained = λ it. answered (it.1.0.0 ∙ silent_then);
      goes = record {
        next = record { tag = prepared (known_of tag most) (Some command) seen; any = any_behind (known_of tag most) (Some command) (prepared (known_of tag most) (Some command) seen).state };
        follows = (inr (inr (record { optional = answers.optional; answered = answered; silent = silent_then; stays = refl })), refl);
        is = stays_lacking command tag most answers first
            ∙ ap (λ (s : Option Seen). let it : Known = record {
              tag = wordless (prepared (known_of tag most) (Some command) s);
              any = any_behind (known_of tag most) (Some command) (prepared (known_of tag most) (Some command) s).state;
            } in it) (sym silent_then);
      };
    }

pub want_lacking : (command : Command) (tag : TagValue) (most : Option ℕ) (seen : Option Seen) → Moves command tag most seen → tag.body ≡ reworded (words_given (draws_at command) seen) 0 tag.body
    → AnswersOptional command tag → want_of_answer (seen_answer_to (Some command) tag) ≡ want_of (known_of tag most) (Some command)
want_lacking command tag most seen moves given answers =
    ap (λ (b : BodyValue). want_of_answer (seen_of (step command tag.state b).answer)) given
    ∙ sym (ap (λ (d : Draws). want_behind d (seen_of (heard_by command tag seen).answer) (heard_by command tag seen).tag.state most) (draws_nothing command answers.optional))
    ∙ sym moves.want

-- bits that spell no command
heard_none : (tag : TagValue) (most : Option ℕ) → HasFirstSlot most tag.state → Goes ByTables (known_of tag most) (Exchange None None) (known_of tag most)
heard_none tag None first = record {
  next = record { tag = prepared (known_of tag None) None None; any = false };
  follows = ((refl, refl), refl);
  is = refl;
}
heard_none tag (Some m) first =
    subst (λ (s : StateValue). Goes ByTables (known_of (record { state = s; body = tag.body }) (Some m)) (Exchange None None) (known_of (record { state = s; body = tag.body }) (Some m))) (sym first.is)
    (record {
      next = record { tag = prepared (known_of (record { state = ArbitrateState first.session first.q 1; body = tag.body }) (Some m)) None None; any = true };
      follows = ((refl, refl), refl);
      is = refl;
    })

pub no_command_explained : (tag : TagValue) (most : Option ℕ) (seen : Option Seen) → HasFirstSlot most tag.state → seen ≡ None → Goes ByTables (known_of tag most) (Exchange None seen) (known_of tag most)
no_command_explained tag most seen first silent_then = rw silent_then (heard_none tag most first)

pub no_command_refused : (tag : TagValue) (most : Option ℕ) (seen : Option Seen) → seen ≢ None → ¬ MayGo WithLiberties (known_of tag most) (Exchange None seen)
no_command_refused tag most seen other it = by it.1.0
  where
    by : Excuses (Exchange None seen) (prepared (known_of tag most) None seen) it.0.tag → ⊥
    by (inl explains) = other (sym explains.0)
    by (inr (inl takes)) = none_or_some takes.other.answered
    by (inr (inr lacks)) = no_test refl lacks.optional

pub no_command_want : (tag : TagValue) (most : Option ℕ) → HasFirstSlot most tag.state → want_of_answer None ≡ want_of (known_of tag most) None
no_command_want tag None first = refl
no_command_want tag (Some m) first =
    subst (λ (s : StateValue). want_of_answer None ≡ want_of (known_of (record { state = s; body = tag.body }) (Some m)) None) (sym first.is) refl

-- events
unworded : (event : Event) (state : StateValue) (body : BodyValue) → wordless (tag_after_event event state body) ≡ wordless (tag_after_event event state (reworded [] 0 body))
unworded events.Timeout ReadyState body = refl
unworded events.Off ReadyState body = refl
unworded events.On ReadyState body = refl
unworded (events.Expire flag) ReadyState body = refl
unworded event state body = refl

no_slots : (state : StateValue) → slots_behind draws.Nothing state None ≡ None
no_slots (ArbitrateState session q slot) = refl
no_slots state = refl

pub event_keeps_words : (event : Event) (state : StateValue) (body : BodyValue) → (tag_after_event event state body).body.words ≡ body.words
event_keeps_words events.Timeout ReadyState body = refl
event_keeps_words events.Off ReadyState body = refl
event_keeps_words events.On ReadyState body = refl
event_keeps_words (events.Expire flag) ReadyState body = refl
event_keeps_words event state body = refl

abbrev pub befallen_to : Event → TagValue → Option ℕ → Option ℕ
befallen_to event tag most = slots_behind draws.Nothing (tag_after_event event tag.state tag.body).state most

pub record IsBefallen (event : Event) (tag : TagValue) (most : Option ℕ) : Type 0 where
  pub goes : Goes ByTables (known_of tag most) (Befalls event) (known_of (tag_after_event event tag.state tag.body) (befallen_to event tag most))
  pub first : HasFirstSlot (befallen_to event tag most) (tag_after_event event tag.state tag.body).state

befallen_waiting : (event : Event) (session q m : ℕ) (body : BodyValue) → 1 ≤ m → IsBefallen event (record { state = ArbitrateState session q 1; body = body }) (Some m)
befallen_waiting events.Off session q m body least = record {
  goes = record { next = record { tag = tag_after_event events.Off (ArbitrateState session q m) (reworded [] 0 body); any = false }; follows = (refl, refl); is = refl };
  first = tt;
}
befallen_waiting event session q m body least = record {
  goes = record { next = record { tag = tag_after_event event (ArbitrateState session q m) (reworded [] 0 body); any = true }; follows = (refl, refl); is = refl };
  first = record { session = session; q = q; is = refl; least = least };
}

pub befallen : (event : Event) (tag : TagValue) (most : Option ℕ) → HasFirstSlot most tag.state → IsBefallen event tag most
befallen event tag None first = record {
  goes = record {
    next = record { tag = tag_after_event event tag.state (reworded [] 0 tag.body); any = false };
    follows = (refl, refl);
    is = ap (λ (m : Option ℕ). known_of (tag_after_event event tag.state tag.body) m) (no_slots (tag_after_event event tag.state tag.body).state)
        ∙ ap (λ (t : TagValue). let it : Known = record { tag = t; any = false } in it) (unworded event tag.state tag.body);
  };
  first = subst (λ (m : Option ℕ). HasFirstSlot m (tag_after_event event tag.state tag.body).state) (sym (no_slots (tag_after_event event tag.state tag.body).state)) tt;
}
befallen event tag (Some m) first =
    subst (λ (s : StateValue). IsBefallen event (record { state = s; body = tag.body }) (Some m)) (sym first.is) (befallen_waiting event first.session first.q m tag.body first.least)
