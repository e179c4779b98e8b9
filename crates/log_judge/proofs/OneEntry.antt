-- What is known of a tag, beside the tags that are meant, through one entry of a log.
use Rattle.std.proofs.Common.{◌≡◌, ◌≢◌, ℕ, ◌+◌, ◌^◌, ◌<◌, ◌≤◌, ◌==◌, ◌&&◌, ◌||◌, Bool, true, false, List, [], ◌++◌, length, Option, Some, None, if◌then◌else◌, refl, sym, ◌∙◌, ap, subst, arith, inl, inr}
use Rattle.air_events.specs.declared.Event.{Event}
use Rattle.air_events.specs.declared.Event.TheVariants as events
use Rattle.command_grammar.specs.declared.commands.Command.{Command}
use Rattle.command_grammar.specs.declared.commands.Command.TheVariants as commands
use Rattle.reply_grammar.specs.declared.expected.Reply.TheVariants.{Error}
use Rattle.tag_machine.specs.Answers.{Outcome}
use Rattle.tag_machine.specs.Draws.{slot_of_draw, begin_reply, body_after_draw}
use Rattle.tag_machine.specs.Answers.{silent}
use Rattle.tag_machine.specs.Events.{tag_after_event}
use Rattle.tag_machine.specs.TagValue.{StateValue, ReadyState, ArbitrateState, ReplyState, AcknowledgedState, OpenState, SecuredState, KilledState, UnpoweredState, BodyValue, TagValue}
use Rattle.log_judge.specs.Log.{LogEntry, Seen, Exchange, Befalls}
use Rattle.log_judge.specs.Explaining.{Allows, Explains, LacksCommand, Manner, ByTables, WithLiberties, TakesCode, seen_answer_to, is_optional, outcome_of_heard, seen_of}
use Rattle.log_judge.specs.laws.Logs.{IsLegalEntry, IsLegalHeard}
use Rattle.log_judge.specs.laws.Kinds.{Kind, Settled, Enters, Gives, reworded, kind_of, HasSmallQ}
use Rattle.log_judge.proofs.KindOutcomes.{outcome_from, KeepsSmallQ}
use Rattle.log_judge.specs.laws.Known.{Known, Covers, CoversState, Follows, guessed, is_enters, any_behind, placed, prepared, waits}
use Rattle.log_judge.proofs.KindsOfSteps.{of_kind}
use Rattle.log_judge.proofs.OneKind.{AreSmall, none_small}
use Rattle.log_judge.specs.laws.StandingLaws.{IsValid}
use Rattle.log_judge.proofs.OneExchange.{arrives, mine_of, stands}

abbrev tag_as : StateValue → BodyValue → TagValue
tag_as state body = record { state = state; body = body }

abbrev known_as : TagValue → Bool → Known
known_as tag any = record { tag = tag; any = any }

-- Events draw nothing.
befallen : (event : Event) (state : StateValue) (body : BodyValue) (words : List ℕ) (place : ℕ)
    → tag_after_event event state (reworded words place body) ≡ tag_as (tag_after_event event state body).state (reworded words place (tag_after_event event state body).body)
befallen events.Timeout ReadyState body words place = refl
befallen events.Off ReadyState body words place = refl
befallen events.On ReadyState body words place = refl
befallen (events.Expire flag) ReadyState body words place = refl
befallen event state body words place = refl

-- a tag whose slot counter is any, behind an event
slot_befallen : (event : Event) (session q most slot : ℕ) (body : BodyValue) → 1 ≤ slot → slot ≤ most
    → CoversState (true && waits (tag_after_event event (ArbitrateState session q most) body).state) (tag_after_event event (ArbitrateState session q most) body).state (tag_after_event event (ArbitrateState session q slot) body).state
slot_befallen events.Off session q most slot body least within = refl
slot_befallen (events.Expire flag) session q most slot body least within =
    record { session = session; q = q; most = most; slot = slot; known_is = refl; is = refl; least = least; within = within }
slot_befallen event session q most slot body least within =
    record { session = session; q = q; most = most; slot = slot; known_is = refl; is = refl; least = least; within = within }

state_befallen : (event : Event) (any : Bool) (known state : StateValue) (body : BodyValue) → CoversState any known state
    → CoversState (any && waits (tag_after_event event known body).state) (tag_after_event event known body).state (tag_after_event event state body).state
state_befallen event false known state body covers = ap (λ (s : StateValue). (tag_after_event event s body).state) covers
state_befallen event true known state body covers =
    subst (λ (k : StateValue). CoversState (true && waits (tag_after_event event k body).state) (tag_after_event event k body).state (tag_after_event event state body).state) (sym covers.known_is)
    (subst (λ (s : StateValue). CoversState (true && waits (tag_after_event event (ArbitrateState covers.session covers.q covers.most) body).state) (tag_after_event event (ArbitrateState covers.session covers.q covers.most) body).state (tag_after_event event s body).state) (sym covers.is)
    (slot_befallen event covers.session covers.q covers.most covers.slot body covers.least covers.within))

slot_body : (event : Event) (session q slot other : ℕ) (body : BodyValue) → (tag_after_event event (ArbitrateState session q slot) body).body ≡ (tag_after_event event (ArbitrateState session q other) body).body
slot_body (events.Expire flag) session q slot other body = refl
slot_body event session q slot other body = refl

body_befallen : (event : Event) (any : Bool) (known state : StateValue) (body : BodyValue) → CoversState any known state → (tag_after_event event state body).body ≡ (tag_after_event event known body).body
body_befallen event false known state body covers = ap (λ (s : StateValue). (tag_after_event event s body).body) covers
body_befallen event true known state body covers =
    ap (λ (s : StateValue). (tag_after_event event s body).body) covers.is ∙ slot_body event covers.session covers.q covers.slot covers.most body
    ∙ sym (ap (λ (s : StateValue). (tag_after_event event s body).body) covers.known_is)

small_befallen : (event : Event) (state : StateValue) (body : BodyValue) → HasSmallQ state → HasSmallQ (tag_after_event event state body).state
small_befallen events.Timeout ReadyState body small = small
small_befallen events.Off ReadyState body small = tt
small_befallen events.Off state body small = tt
small_befallen events.On ReadyState body small = small
small_befallen (events.Expire flag) ReadyState body small = small
small_befallen event state body small = small

-- which state before an event leads to one that is meant behind it
pub record CameFrom (event : Event) (any : Bool) (known : StateValue) (body : BodyValue) (state : StateValue) : Type 0 where
  pub from : StateValue
  pub meant : CoversState any known from
  pub becomes : (tag_after_event event from body).state ≡ state

slot_came_from : (event : Event) (session q most : ℕ) (body : BodyValue) (state : StateValue) → 1 ≤ most
    → CoversState (true && waits (tag_after_event event (ArbitrateState session q most) body).state) (tag_after_event event (ArbitrateState session q most) body).state state
    → CameFrom event true (ArbitrateState session q most) body state
slot_came_from events.Off session q most body state some covers = record {
  from = ArbitrateState session q most;
  meant = record { session = session; q = q; most = most; slot = most; known_is = refl; is = refl; least = some; within = omega arith };
  becomes = sym covers;
}
slot_came_from event session q most body state some covers =
    record { from = state; meant = covers; becomes = ap (λ (s : StateValue). (tag_after_event event s body).state) covers.is ∙ sym covers.is }

came_from : (event : Event) (any : Bool) (known : StateValue) (body : BodyValue) (state : StateValue) → CoversState any known known
    → CoversState (any && waits (tag_after_event event known body).state) (tag_after_event event known body).state state → CameFrom event any known body state
came_from event false known body state itself covers = record { from = known; meant = refl; becomes = sym covers }
came_from event true known body state itself covers =
    let least = itself.least in
    let within = itself.within in
    subst (λ (k : StateValue). CoversState (true && waits (tag_after_event event k body).state) (tag_after_event event k body).state state → CameFrom event true k body state) (sym itself.known_is)
    (λ meant. slot_came_from event itself.session itself.q itself.most body state (omega (arith, least, within)) meant) covers

-- A command that a tag need not have is drawn nothing at, and a tag that waits doesn't answer it.
optional_settled : (heard : Option Command) (state : StateValue) (body : BodyValue) → is_optional heard ≡ true → (outcome : Outcome) × (kind_of heard state body ≡ Settled outcome)
optional_settled (Some (commands.Access covered rn)) state body optional = (_, refl)
optional_settled (Some (commands.BlockWrite bank pointer block rn)) state body optional = (_, refl)
optional_settled (Some (commands.BlockErase bank pointer count rn)) state body optional = (_, refl)
optional_settled heard state body optional = absurd (cc)

optional_waits : (heard : Option Command) (session q slot : ℕ) (body : BodyValue) → is_optional heard ≡ true → seen_answer_to heard (tag_as (ArbitrateState session q slot) body) ≡ None
optional_waits (Some (commands.Access covered rn)) session q slot body optional = refl
optional_waits (Some (commands.BlockWrite bank pointer block rn)) session q slot body optional = refl
optional_waits (Some (commands.BlockErase bank pointer count rn)) session q slot body optional = refl
optional_waits heard session q slot body optional = absurd (cc)

optional_same : (heard : Option Command) (state : StateValue) (body : BodyValue) (words words' : List ℕ) (place place' : ℕ) → IsLegalHeard heard → HasSmallQ state → is_optional heard ≡ true
    → seen_answer_to heard (tag_as state (reworded words place body)) ≡ seen_answer_to heard (tag_as state (reworded words' place' body))
optional_same heard state body words words' place place' legal small optional =
    let settled = optional_settled heard state body optional in
    let one = (of_kind words place heard state body legal small).is ∙ ap (λ (k : Kind). outcome_from k words place) settled.1 in
    let other = (of_kind words' place' heard state body legal small).is ∙ ap (λ (k : Kind). outcome_from k words' place') settled.1 in
    ap (λ (o : Outcome). seen_of o.answer) one ∙ sym (ap (λ (o : Outcome). seen_of o.answer) other)

-- Errors tell nothing, so that the words which are guessed are the same.
placed_alike : (any : Bool) (one other : Seen) (state : StateValue) → placed any (Some one) state ≡ placed any (Some other) state
placed_alike false one other state = refl
placed_alike true one other state = refl

abbrev error_seen : ℕ → Bool → Seen
error_seen code extended = record { reply = Error code; extended = extended }

errors_alike : (known : Known) (heard : Option Command) (code other : ℕ) (extended : Bool) → mine_of known heard (Some (error_seen other extended)) ≡ mine_of known heard (Some (error_seen code extended))
errors_alike known heard code other extended =
    ap (λ (s : StateValue). outcome_of_heard heard (tag_as s (reworded (guessed heard (Some (error_seen code extended))) 0 known.tag.body)))
    (placed_alike known.any (error_seen other extended) (error_seen code extended) known.tag.state)

-- What is known behind an entry is one thing alone.
known_is : (one other : Known) → one.tag ≡ other.tag → one.any ≡ other.any → one ≡ other
known_is one other tags opens = ap (λ (t : TagValue). known_as t one.any) tags ∙ ap (λ (o : Bool). known_as other.tag o) opens

open_is : (known : Known) (heard : Option Command) (one other : Known) → one.tag ≡ other.tag → one.any ≡ any_behind known heard one.tag.state → other.any ≡ any_behind known heard other.tag.state → one ≡ other
open_is known heard one other tags of_one of_other =
    known_is one other tags (of_one ∙ ap (λ (t : TagValue). any_behind known heard t.state) tags ∙ sym of_other)

silent_and_said : {A : Type 0} {seen : Option Seen} {it : Seen} → seen ≡ None → seen ≡ Some it → A
silent_and_said none some = absurd (wrong (sym none ∙ some))
  where
    wrong : {it : Seen} → None ≡ Some it → ⊥
    wrong same = absurd (cc)

pub follows_one : (manner : Manner) (known : Known) (entry : LogEntry) (one other : Known) → Follows manner known entry one → Follows manner known entry other → one ≡ other
follows_one ByTables known (Exchange heard seen) one other left right = open_is known heard one other (left.0.1 ∙ sym right.0.1) left.1 right.1
follows_one WithLiberties known (Exchange heard seen) one other left right = open_is known heard one other (same left.0 right.0) left.1 right.1
  where
    same : Allows WithLiberties (Exchange heard seen) (prepared known heard seen) one.tag → Allows WithLiberties (Exchange heard seen) (prepared known heard seen) other.tag → one.tag ≡ other.tag
    same (inl a) (inl b) = a.1 ∙ sym b.1
    same (inl a) (inr (inl b)) = a.1 ∙ sym b.becomes
    same (inl a) (inr (inr b)) = absurd (b.answered (a.0 ∙ b.silent))
    same (inr (inl a)) (inl b) = a.becomes ∙ sym b.1
    same (inr (inl a)) (inr (inl b)) = a.becomes ∙ sym b.becomes
    same (inr (inl a)) (inr (inr b)) = silent_and_said b.silent a.other.said
    same (inr (inr a)) (inl b) = absurd (a.answered (b.0 ∙ a.silent))
    same (inr (inr a)) (inr (inl b)) = silent_and_said a.silent b.other.said
    same (inr (inr a)) (inr (inr b)) = a.stays ∙ sym b.stays
follows_one manner known (Befalls event) one other left right =
    known_is one other (left.0 ∙ sym right.0) (left.1 ∙ ap (λ (t : TagValue). known.any && waits t.state) (left.0 ∙ sym right.0) ∙ sym right.1)

-- Each tag that is meant, and may do what an entry says, leads to one that is meant by what is known behind it.
pub record Goes (manner : Manner) (known : Known) (entry : LogEntry) (words : List ℕ) (behind : TagValue) : Type 0 where
  pub next : Known
  pub follows : Follows manner known entry next
  pub place : ℕ
  pub inside : place < length words
  pub covers : Covers words place next behind

module _ (known : Known) (valid : IsValid known) (words : List ℕ) (place : ℕ) (inside : place < length words) (tag : TagValue) (covers : Covers words place known tag) where
  explained : (heard : Option Command) (seen : Option Seen) (behind : TagValue) → IsLegalHeard heard → Explains (Exchange heard seen) tag behind → Goes ByTables known (Exchange heard seen) words behind
  explained heard seen behind legal explains =
      let stand = stands heard legal seen known words place tag inside valid covers explains.0 in
      record {
        next = known_as (mine_of known heard seen).tag (any_behind known heard (mine_of known heard seen).tag.state);
        follows = ((stand.answers, refl), refl);
        place = stand.place;
        inside = stand.inside;
        covers = rw explains.1 (record { state = stand.state; body = stand.body });
      }

  other_code : (heard : Option Command) (seen : Option Seen) (behind : TagValue) → IsLegalHeard heard → TakesCode heard seen tag behind → Goes WithLiberties known (Exchange heard seen) words behind
  other_code heard seen behind legal takes =
      let error = takes.other in
      let told : Option Seen = Some (record { reply = Error error.code; extended = error.extended }) in
      let stand = stands heard legal told known words place tag inside valid covers error.answered in
      let as_told : mine_of known heard seen ≡ mine_of known heard told = ap (λ (it : Option Seen). mine_of known heard it) error.said ∙ errors_alike known heard error.code error.other error.extended in
      let mine : seen_answer_to heard (prepared known heard seen) ≡ told = ap (λ (o : Outcome). seen_of o.answer) as_told ∙ stand.answers in
      record {
        next = known_as (mine_of known heard seen).tag (any_behind known heard (mine_of known heard seen).tag.state);
        follows = (inr (inl (record { other = record { code = error.code; other = error.other; extended = error.extended; answered = mine; said = error.said; apart = error.apart }; becomes = refl })), refl);
        place = stand.place;
        inside = stand.inside;
        covers = rw takes.becomes (subst (λ (o : Outcome). Covers words stand.place (known_as o.tag (any_behind known heard o.tag.state)) (outcome_of_heard heard tag).tag) (sym as_told)
            (record { state = stand.state; body = stand.body }));
      }

-- a tag that has no such command
module _ (heard : Option Command) (legal : IsLegalHeard heard) (optional : is_optional heard ≡ true) where
  never_open : (any : Bool) (known state : StateValue) (body : BodyValue) → CoversState any known state → seen_answer_to heard (tag_as state body) ≢ None → any ≡ false
  never_open false known state body covers answered = refl
  never_open true known state body covers answered =
      absurd (answered (ap (λ (s : StateValue). seen_answer_to heard (tag_as s body)) covers.is ∙ optional_waits heard covers.session covers.q covers.slot body optional))

  lacks_closed : (known : StateValue) (body : BodyValue) → any_behind (known_as (tag_as known body) false) heard known ≡ false
  lacks_closed known body = ap (λ (k : Kind). (false || is_enters k) && waits known) (optional_settled heard known body optional).1

  lacks : (any : Bool) (known : StateValue) (body : BodyValue) (words : List ℕ) (place : ℕ) (state : StateValue) → place < length words → HasSmallQ known → CoversState any known state
      → seen_answer_to heard (tag_as state (reworded words place body)) ≢ None
      → Goes WithLiberties (known_as (tag_as known body) any) (Exchange heard None) words (tag_as state (reworded words place body))
  lacks true known body words place state inside small covers answered = absurd (open_and_shut (never_open true known state (reworded words place body) covers answered))
    where
      open_and_shut : true ≡ false → ⊥
      open_and_shut same = absurd (cc)
  lacks false known body words place state inside small covers answered =
      let here : HasSmallQ state = subst HasSmallQ (sym covers) small in
      let mine : seen_answer_to heard (tag_as known (reworded (guessed heard None) 0 body)) ≢ None
      = λ none. answered (ap (λ (s : StateValue). seen_answer_to heard (tag_as s (reworded words place body))) covers ∙ optional_same heard known body words (guessed heard None) place 0 legal small optional ∙ none) in
      record {
        next = known_as (tag_as known (reworded (guessed heard None) 0 body)) (any_behind (known_as (tag_as known body) false) heard known);
        follows = (inr (inr (record { optional = optional; answered = mine; silent = refl; stays = refl })), refl);
        place = place;
        inside = inside;
        covers = record { state = subst (λ (o : Bool). CoversState o known state) (sym (lacks_closed known body)) covers; body = refl };
      }

module _ (known : Known) (valid : IsValid known) (words : List ℕ) (place : ℕ) (inside : place < length words) (tag : TagValue) (covers : Covers words place known tag) where
  lacks_command : (heard : Option Command) (seen : Option Seen) (behind : TagValue) → IsLegalHeard heard → LacksCommand heard seen tag behind → Goes WithLiberties known (Exchange heard seen) words behind
  lacks_command heard seen behind legal lack =
      let same : tag ≡ tag_as tag.state (reworded words place known.tag.body) = ap (λ (b : BodyValue). tag_as tag.state b) covers.body in
      let here = lacks heard legal lack.optional known.any known.tag.state known.tag.body words place tag.state inside valid.small covers.state
      (λ none. lack.answered (ap (λ (t : TagValue). seen_answer_to heard t) same ∙ none)) in
      subst (λ (it : Option Seen). Goes WithLiberties known (Exchange heard it) words behind) (sym lack.silent)
      (subst (λ (t : TagValue). Goes WithLiberties known (Exchange heard None) words t) (sym (lack.stays ∙ same)) here)

  liberties : {heard : Option Command} {seen : Option Seen} {behind : TagValue} → Goes ByTables known (Exchange heard seen) words behind → Goes WithLiberties known (Exchange heard seen) words behind
  liberties goes = record { next = goes.next; follows = (inl goes.follows.0, goes.follows.1); place = goes.place; inside = goes.inside; covers = goes.covers }

  excused : (heard : Option Command) (seen : Option Seen) (behind : TagValue) → IsLegalHeard heard → Allows WithLiberties (Exchange heard seen) tag behind → Goes WithLiberties known (Exchange heard seen) words behind
  excused heard seen behind legal (inl explains) = liberties (explained known valid words place inside tag covers heard seen behind legal explains)
  excused heard seen behind legal (inr (inl takes)) = other_code known valid words place inside tag covers heard seen behind legal takes
  excused heard seen behind legal (inr (inr lack)) = lacks_command heard seen behind legal lack

  befalls : (event : Event) (behind : TagValue) → behind ≡ tag_after_event event tag.state tag.body
      → Covers words place (known_as (tag_after_event event known.tag.state known.tag.body) (known.any && waits (tag_after_event event known.tag.state known.tag.body).state)) behind
  befalls event behind is =
      let whole : behind ≡ tag_as (tag_after_event event tag.state known.tag.body).state (reworded words place (tag_after_event event tag.state known.tag.body).body)
      = is ∙ ap (λ (b : BodyValue). tag_after_event event tag.state b) covers.body ∙ befallen event tag.state known.tag.body words place in
      rw whole (record {
        state = state_befallen event known.any known.tag.state tag.state known.tag.body covers.state;
        body = ap (λ (b : BodyValue). reworded words place b) (body_befallen event known.any known.tag.state tag.state known.tag.body covers.state);
      })

  happens : (manner : Manner) (event : Event) (behind : TagValue) → Allows manner (Befalls event) tag behind → behind ≡ tag_after_event event tag.state tag.body
  happens ByTables event behind allows = allows
  happens WithLiberties event behind allows = allows

  -- so each tag that is meant goes on, where it may
  pub goes : (manner : Manner) (entry : LogEntry) (behind : TagValue) → IsLegalEntry entry → Allows manner entry tag behind → Goes manner known entry words behind
  goes ByTables (Exchange heard seen) behind legal allows = explained known valid words place inside tag covers heard seen behind legal.heard_is allows
  goes WithLiberties (Exchange heard seen) behind legal allows = excused heard seen behind legal.heard_is allows
  goes manner (Befalls event) behind legal allows = record {
    next = known_as (tag_after_event event known.tag.state known.tag.body) (known.any && waits (tag_after_event event known.tag.state known.tag.body).state);
    follows = (refl, refl);
    place = place;
    inside = inside;
    covers = befalls event behind (happens manner event behind allows);
  }

-- Q stays in its range
small_entered : (test : Bool) (session q : ℕ) (one other : BodyValue) (slot : ℕ) → q ≤ 15 → HasSmallQ (if test then begin_reply session q one else silent (ArbitrateState session q slot) other).tag.state
small_entered true session q one other slot small = small
small_entered false session q one other slot small = small

small_from : (kind : Kind) (words : List ℕ) (place : ℕ) → KeepsSmallQ kind → HasSmallQ (outcome_from kind words place).tag.state
small_from (Enters session q body) words place small =
    small_entered (slot_of_draw q (reworded words place body) == 0) session q (body_after_draw (reworded words place body)) (body_after_draw (reworded words place body)) (slot_of_draw q (reworded words place body)) small
small_from (Gives state body) words place small = small _
small_from kind words place small = small

small_heard : (heard : Option Command) (state : StateValue) (body : BodyValue) (words : List ℕ) (place : ℕ) → IsLegalHeard heard → HasSmallQ state → HasSmallQ (outcome_of_heard heard (tag_as state (reworded words place body))).tag.state
small_heard heard state body words place legal small =
    let is = of_kind words place heard state body legal small in
    subst (λ (o : Outcome). HasSmallQ o.tag.state) (sym is.is) (small_from (kind_of heard state body) words place is.small)

-- the tag that is put through an entry is one of those that are meant
small_placed : (any : Bool) (seen : Option Seen) (state : StateValue) → HasSmallQ state → HasSmallQ (placed any seen state)
small_placed false seen state small = small
small_placed true None state small = small
small_placed true (Some seen) ReadyState small = small
small_placed true (Some seen) (ArbitrateState session q slot) small = small
small_placed true (Some seen) (ReplyState session q rn) small = small
small_placed true (Some seen) (AcknowledgedState session q rn) small = small
small_placed true (Some seen) (OpenState held) small = small
small_placed true (Some seen) (SecuredState held) small = small
small_placed true (Some seen) KilledState small = small
small_placed true (Some seen) UnpoweredState small = small

slot_placed : (seen : Option Seen) (session q most : ℕ) → 1 ≤ most → CoversState true (ArbitrateState session q most) (placed true seen (ArbitrateState session q most))
slot_placed None session q most some = record { session = session; q = q; most = most; slot = most; known_is = refl; is = refl; least = some; within = omega arith }
slot_placed (Some seen) session q most some = record { session = session; q = q; most = most; slot = 1; known_is = refl; is = refl; least = omega arith; within = some }

covers_placed : (any : Bool) (seen : Option Seen) (state : StateValue) → CoversState any state state → CoversState any state (placed any seen state)
covers_placed false seen state itself = refl
covers_placed true seen state itself =
    let least = itself.least in
    let within = itself.within in
    subst (λ (s : StateValue). CoversState true s (placed true seen s)) (sym itself.known_is) (slot_placed seen itself.session itself.q itself.most (omega (arith, least, within)))

prepared_is_meant : (known : Known) (heard : Option Command) (seen : Option Seen) → IsValid known → Covers (guessed heard seen) 0 known (prepared known heard seen)
prepared_is_meant known heard seen valid = record { state = covers_placed known.any seen known.tag.state valid.itself; body = refl }

small_behind : (manner : Manner) (known : Known) (entry : LogEntry) (next : Known) → IsLegalEntry entry → IsValid known → Follows manner known entry next → HasSmallQ next.tag.state
small_behind ByTables known (Exchange heard seen) next legal valid follows =
    subst (λ (t : TagValue). HasSmallQ t.state) (sym follows.0.1) (small_heard heard (placed known.any seen known.tag.state) known.tag.body (guessed heard seen) 0 legal.heard_is (small_placed known.any seen known.tag.state valid.small))
small_behind WithLiberties known (Exchange heard seen) next legal valid follows = by follows.0
  where
    before : HasSmallQ (placed known.any seen known.tag.state)
    before = small_placed known.any seen known.tag.state valid.small

    heard_small : HasSmallQ (outcome_of_heard heard (prepared known heard seen)).tag.state
    heard_small = small_heard heard (placed known.any seen known.tag.state) known.tag.body (guessed heard seen) 0 legal.heard_is before

    by : Allows WithLiberties (Exchange heard seen) (prepared known heard seen) next.tag → HasSmallQ next.tag.state
    by (inl a) = subst (λ (t : TagValue). HasSmallQ t.state) (sym a.1) heard_small
    by (inr (inl a)) = subst (λ (t : TagValue). HasSmallQ t.state) (sym a.becomes) heard_small
    by (inr (inr a)) = subst (λ (t : TagValue). HasSmallQ t.state) (sym a.stays) before
small_behind manner known (Befalls event) next legal valid follows =
    subst (λ (t : TagValue). HasSmallQ t.state) (sym follows.0) (small_befallen event known.tag.state known.tag.body valid.small)

-- so what is known behind an entry is valid, too
pub valid_behind : (manner : Manner) (known : Known) (entry : LogEntry) (next : Known) → IsLegalEntry entry → IsValid known → Follows manner known entry next → IsValid next
valid_behind manner known (Exchange heard seen) next legal valid follows =
    let meant = prepared_is_meant known heard seen valid in
    let two : 0 < 2 = omega arith in
    let gone = goes known valid (guessed heard seen) 0 two (prepared known heard seen) meant manner (Exchange heard seen) next.tag legal follows.0 in
    let same : gone.next ≡ next = follows_one manner known (Exchange heard seen) gone.next next gone.follows follows in
    record {
      small = small_behind manner known (Exchange heard seen) next legal valid follows;
      itself = subst (λ (k : Known). CoversState k.any k.tag.state next.tag.state) same gone.covers.state;
    }
valid_behind manner known (Befalls event) next legal valid follows = record {
  small = small_behind manner known (Befalls event) next legal valid follows;
  itself = subst (λ (o : Bool). CoversState o next.tag.state next.tag.state) (sym follows.1)
      (subst (λ (t : TagValue). CoversState (known.any && waits t.state) t.state t.state) (sym follows.0)
      (state_befallen event known.any known.tag.state known.tag.state known.tag.body valid.itself));
}

-- Each tag that is meant behind an entry comes of one that is meant before it, by some words.
pub record Comes (manner : Manner) (known : Known) (entry : LogEntry) (next : Known) (state : StateValue) : Type 0 where
  pub from : StateValue
  pub meant : CoversState known.any known.tag.state from
  pub drawn : List ℕ
  pub are_small : AreSmall drawn
  pub leads : (used future : List ℕ) → 1 ≤ length future
      → Allows manner entry (tag_as from (reworded (used ++ (drawn ++ future)) (length used) known.tag.body)) (tag_as state (reworded (used ++ (drawn ++ future)) (length used + length drawn) next.tag.body))

comes_by_tables : (known : Known) (heard : Option Command) (seen : Option Seen) (next : Known) (state : StateValue) → IsValid known → IsLegalEntry (Exchange heard seen)
    → Follows ByTables known (Exchange heard seen) next → CoversState next.any next.tag.state state → Comes ByTables known (Exchange heard seen) next state
comes_by_tables known heard seen next state valid legal follows covers =
    let opened : CoversState (any_behind known heard next.tag.state) next.tag.state state = subst (λ (o : Bool). CoversState o next.tag.state state) follows.1 covers in
    let meant : CoversState (any_behind known heard (mine_of known heard seen).tag.state) (mine_of known heard seen).tag.state state
    = subst (λ (t : TagValue). CoversState (any_behind known heard t.state) t.state state) follows.0.1 opened in
    let it = arrives heard legal.heard_is seen known state valid legal.seen_is follows.0.0 meant in
    record {
      from = it.from;
      meant = it.meant;
      drawn = it.drawn;
      are_small = it.are_small;
      leads = λ used future some. (it.answers used future some, sym (it.becomes used future some ∙ ap (λ (t : TagValue). tag_as state (reworded (used ++ (it.drawn ++ future)) (length used + length it.drawn) t.body)) (sym follows.0.1)));
    }

comes_with_code : (known : Known) (heard : Option Command) (seen : Option Seen) (next : Known) (state : StateValue) → IsValid known → IsLegalEntry (Exchange heard seen)
    → TakesCode heard seen (prepared known heard seen) next.tag → next.any ≡ any_behind known heard next.tag.state → CoversState next.any next.tag.state state → Comes WithLiberties known (Exchange heard seen) next state
comes_with_code known heard seen next state valid legal takes open_so covers =
    let error = takes.other in
    let told : Option Seen = Some (record { reply = Error error.code; extended = error.extended }) in
    let as_told : mine_of known heard seen ≡ mine_of known heard told = ap (λ (it : Option Seen). mine_of known heard it) error.said ∙ errors_alike known heard error.code error.other error.extended in
    let mine : seen_of (mine_of known heard told).answer ≡ told = sym (ap (λ (o : Outcome). seen_of o.answer) as_told) ∙ error.answered in
    let is : next.tag ≡ (mine_of known heard told).tag = takes.becomes ∙ ap (λ (o : Outcome). o.tag) as_told in
    let opened : CoversState (any_behind known heard next.tag.state) next.tag.state state = subst (λ (o : Bool). CoversState o next.tag.state state) open_so covers in
    let meant : CoversState (any_behind known heard (mine_of known heard told).tag.state) (mine_of known heard told).tag.state state
    = subst (λ (t : TagValue). CoversState (any_behind known heard t.state) t.state state) is opened in
    let zero_small : 0 < 2 ^ 16 = omega arith in
    let it = arrives heard legal.heard_is told known state valid zero_small mine meant in
    record {
      from = it.from;
      meant = it.meant;
      drawn = it.drawn;
      are_small = it.are_small;
      leads = λ used future some. inr (inl (record {
        other = record { code = error.code; other = error.other; extended = error.extended; answered = it.answers used future some; said = error.said; apart = error.apart };
        becomes = sym (it.becomes used future some ∙ ap (λ (t : TagValue). tag_as state (reworded (used ++ (it.drawn ++ future)) (length used + length it.drawn) t.body)) (sym is));
      }));
    }

comes_lacking : (any : Bool) (known : StateValue) (body : BodyValue) (heard : Option Command) (next : Known) (state : StateValue) → HasSmallQ known → CoversState any known known → IsLegalHeard heard
    → LacksCommand heard None (prepared (known_as (tag_as known body) any) heard None) next.tag → next.any ≡ any_behind (known_as (tag_as known body) any) heard next.tag.state → CoversState next.any next.tag.state state
    → Comes WithLiberties (known_as (tag_as known body) any) (Exchange heard None) next state
comes_lacking true known body heard next state small itself legal lack open_so covers =
    absurd (lack.answered (ap (λ (s : StateValue). seen_answer_to heard (tag_as s (reworded (guessed heard None) 0 body))) itself.known_is
    ∙ optional_waits heard itself.session itself.q itself.most (reworded (guessed heard None) 0 body) lack.optional))
comes_lacking false known body heard next state small itself legal lack open_so covers =
    let shut : next.any ≡ false = open_so ∙ ap (λ (t : TagValue). any_behind (known_as (tag_as known body) false) heard t.state) lack.stays ∙ lacks_closed heard legal lack.optional known body in
    let same : state ≡ known = subst (λ (o : Bool). CoversState o next.tag.state state) shut covers ∙ ap (λ (t : TagValue). t.state) lack.stays in
    record {
      from = known;
      meant = refl;
      drawn = [];
      are_small = none_small;
      leads = λ used future some.
          let count : length used + 0 ≡ length used = omega arith in
          inr (inr (record {
            optional = lack.optional;
            answered = λ none. lack.answered (optional_same heard known body (guessed heard None) (used ++ future) 0 (length used) legal small lack.optional ∙ none);
            silent = refl;
            stays = ap (λ (s : StateValue). tag_as s (reworded (used ++ future) (length used + 0) next.tag.body)) same
                ∙ ap (λ (n : ℕ). tag_as known (reworded (used ++ future) n next.tag.body)) count
                ∙ ap (λ (t : TagValue). tag_as known (reworded (used ++ future) (length used) t.body)) lack.stays;
          }));
    }

comes_befallen : (known : Known) (event : Event) (next : Known) (state : StateValue) → IsValid known
    → next.tag ≡ tag_after_event event known.tag.state known.tag.body → next.any ≡ (known.any && waits next.tag.state) → CoversState next.any next.tag.state state → Comes ByTables known (Befalls event) next state
comes_befallen known event next state valid is open_so covers =
    let meant : CoversState (known.any && waits (tag_after_event event known.tag.state known.tag.body).state) (tag_after_event event known.tag.state known.tag.body).state state
    = subst (λ (t : TagValue). CoversState (known.any && waits t.state) t.state state) is (subst (λ (o : Bool). CoversState o next.tag.state state) open_so covers) in
    let it = came_from event known.any known.tag.state known.tag.body state valid.itself meant in
    record {
      from = it.from;
      meant = it.meant;
      drawn = [];
      are_small = none_small;
      leads = λ used future some.
          let count : length used + 0 ≡ length used = omega arith in
          let bodies : (tag_after_event event it.from known.tag.body).body ≡ next.tag.body
          = body_befallen event known.any known.tag.state it.from known.tag.body it.meant ∙ sym (ap (λ (t : TagValue). t.body) is) in
          sym (befallen event it.from known.tag.body (used ++ future) (length used)
          ∙ ap (λ (s : StateValue). tag_as s (reworded (used ++ future) (length used) (tag_after_event event it.from known.tag.body).body)) it.becomes
          ∙ ap (λ (b : BodyValue). tag_as state (reworded (used ++ future) (length used) b)) bodies
          ∙ ap (λ (n : ℕ). tag_as state (reworded (used ++ future) n next.tag.body)) (sym count));
    }

with_liberties : {known : Known} {entry : LogEntry} {next : Known} {state : StateValue} → ((tag behind : TagValue) → Allows ByTables entry tag behind → Allows WithLiberties entry tag behind)
    → Comes ByTables known entry next state → Comes WithLiberties known entry next state
with_liberties also comes = record { from = comes.from; meant = comes.meant; drawn = comes.drawn; are_small = comes.are_small; leads = λ used future some. also _ _ (comes.leads used future some) }

pub comes : (manner : Manner) (known : Known) (entry : LogEntry) (next : Known) (state : StateValue) → IsValid known → IsLegalEntry entry
    → Follows manner known entry next → CoversState next.any next.tag.state state → Comes manner known entry next state
comes ByTables known (Exchange heard seen) next state valid legal follows covers = comes_by_tables known heard seen next state valid legal follows covers
comes ByTables known (Befalls event) next state valid legal follows covers = comes_befallen known event next state valid follows.0 follows.1 covers
comes WithLiberties known (Befalls event) next state valid legal follows covers =
    with_liberties (λ tag behind it. it) (comes_befallen known event next state valid follows.0 follows.1 covers)
comes WithLiberties known (Exchange heard seen) next state valid legal follows covers = by follows.0
  where
    by : Allows WithLiberties (Exchange heard seen) (prepared known heard seen) next.tag → Comes WithLiberties known (Exchange heard seen) next state
    by (inl a) = with_liberties (λ tag behind it. inl it) (comes_by_tables known heard seen next state valid legal (a, follows.1) covers)
    by (inr (inl a)) = comes_with_code known heard seen next state valid legal a follows.1 covers
    by (inr (inr a)) = subst (λ (it : Option Seen). LacksCommand heard it (prepared known heard it) next.tag → Comes WithLiberties known (Exchange heard it) next state) (sym a.silent)
        (λ lack. comes_lacking known.any known.tag.state known.tag.body heard next state valid.small valid.itself legal.heard_is lack follows.1 covers) a
