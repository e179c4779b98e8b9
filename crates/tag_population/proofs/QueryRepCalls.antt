-- Which tags are called for a QueryRep, so that what comes of it for those that are called comes of it for all.
use Rattle.std.proofs.Common.{◌≡◌, ◌≢◌, ℕ, zero, suc, ◌+◌, ◌-◌, ◌*◌, ◌<◌, ◌≤◌, ◌==◌, ◌⊎◌, inl, inr, Bool, true, false, ◌||◌, List, [], ◌∷◌, length, map, Option, Some, None, get_or, set, refl, sym, ap, ◌∙◌, arith, if◌then◌else◌}
use Rattle.std.specs.Option.{is_some}
use Rattle.std.proofs.lemmas.Bool.{cases_lt, eq-eqb, or_left, or_right}
use Rattle.std.proofs.lemmas.Bool.Decides.{eqb_tells}
use Rattle.std.proofs.Math.ListN.{get_or-map}
use Rattle.std.proofs.lemmas.List.{get_or-set_same, get_or-set_other, get_or_past, length-map, length-set}
use Rattle.std.proofs.lemmas.Option.{same_Some}
use Rattle.air_events.specs.declared.Entry.{Entry}
use Rattle.command_grammar.specs.declared.commands.Command.{Command}
use Rattle.command_grammar.specs.declared.commands.Command.TheVariants as commands
use Rattle.tag_machine.proofs.QueryRepLaws.{waits, other_rep}
use Rattle.tag_machine.specs.Answers.{silent}
use Rattle.tag_machine.specs.TagsInExchange.{outcome_unless, is_missed, is_busy, busy_from}
use Rattle.tag_machine.specs.Inventory.{slot_below, count_down}
use Rattle.tag_machine.specs.Slots.{is_beyond_arbitrate}
use Rattle.tag_machine.specs.Step.{step}
use Rattle.tag_machine.specs.TagValue.{StateValue, ArbitrateState, ReplyState, AcknowledgedState, OpenState, SecuredState, BodyValue, TagValue}
use Rattle.tag_population.proofs.SeatedTags.{length-tags_of, tag_at, participation_of_tag, steps_back_most}
use Rattle.tag_population.specs.Floor.{tag_seated, seated_tags, participation_in, participations_of, is_reached, no_tag, calling, counted_floor, steps_back, FloorValue}
use Rattle.tag_population.specs.Hearing.{AreCalledFor, hearing_from, outcome_reached, reach_of, reach_steps, reached_from, steps_to_hear}
use Rattle.tag_population.specs.declared.floor.Reach.{Reach}
use Rattle.tag_population.specs.declared.floor.Reach.TheVariants.{CalledOnly}
use Rattle.tag_population.proofs.SlotPlaces.{same_waits}
use Rattle.tag_population.proofs.TagSetBits.{number_index}
use Rattle.tag_population.specs.Participation.{participation_at, is_called, waits_in, counted_down, IsDue}
use Rattle.tag_population.specs.declared.participation.Participation.{Participation}
use Rattle.tag_population.specs.declared.participation.Participation.TheVariants.{Waits, Called}

-- steps

steps_most : (reached : Bool) (part : Option Participation) → (if reached then 1 + steps_back part else 0) ≤ 2
steps_most true part = omega (arith, steps_back_most part)
steps_most false part = omega arith

pub all_steps_most : (reach : Reach) (parts : List (Option Participation)) → reach_steps reach parts ≤ 2 * length parts
all_steps_most reach [] = omega arith
all_steps_most reach (part ∷ parts) = omega (arith, steps_most (is_reached reach part) part, all_steps_most reach parts)

one_called : (part : Option Participation) → steps_to_hear CalledOnly part + steps_back part ≤ 1
one_called None = omega arith
one_called (Some (Waits session slot)) = omega arith
one_called (Some Called) = omega arith

pub called_most : (parts : List (Option Participation)) → reach_steps CalledOnly parts ≤ length parts
called_most [] = omega arith
called_most (part ∷ parts) = omega (arith, one_called part, called_most parts)

called-set : (parts : List (Option Participation)) (number : ℕ) → number < length parts
    → reach_steps CalledOnly (set parts number (Some Called)) + steps_to_hear CalledOnly (participation_at parts number) ≡ reach_steps CalledOnly parts + 1
called-set [] number within = absurd (omega (arith, within))
called-set (part ∷ parts) zero within = omega arith
called-set (part ∷ parts) (suc number) within = omega (arith, called-set parts number (omega (arith, within)))

called_counted : (session : ℕ) (parts : List (Option Participation)) → reach_steps CalledOnly (map (counted_down session) parts) ≡ reach_steps CalledOnly parts
called_counted session [] = refl
called_counted session (None ∷ parts) = omega (arith, called_counted session parts)
called_counted session (Some (Waits own slot) ∷ parts) = omega (arith, called_counted session parts)
called_counted session (Some Called ∷ parts) = omega (arith, called_counted session parts)

-- a tag that takes part is there
pub participation_inside : (parts : List (Option Participation)) (number : ℕ) (participation : Participation) → participation_at parts number ≡ Some participation → number < length parts
participation_inside parts number participation is = grind (arith, get_or_past {X = Option Participation})

-- other commands

-- a tag that a command doesn't reach stays as it is
stays : (command : Command) (state : StateValue) (body : BodyValue) → ((session : ℕ) → command ≢ commands.QueryRep session) → is_reached (reach_of command) (participation_in state) ≡ false
    → step command state body ≡ silent state body
stays (commands.QueryRep session) state body other none = absurd (other session refl)
stays (commands.Query dr line_code trext sel session target q) state body other none = absurd (cc)
stays (commands.Select target action bank pointer mask) state body other none = absurd (cc)
stays (commands.QueryAdjust session updn) (ArbitrateState own q slot) body other none = absurd (cc)
stays command (ReplyState session q rn) body other none = absurd (cc)
stays command (AcknowledgedState session q rn) body other none = absurd (cc)
stays command (OpenState held) body other none = absurd (cc)
stays command (SecuredState held) body other none = absurd (cc)
stays command state body other none = refl

outcome_kept : (reached misses : Bool) (command : Command) (tag : TagValue) → (reached ≡ false → step command tag.state tag.body ≡ silent tag.state tag.body)
    → outcome_reached reached misses command tag ≡ outcome_unless misses command tag
outcome_kept true misses command tag stay = refl
outcome_kept false true command tag stay = refl
outcome_kept false false command tag stay = sym (stay refl)

settled_from : (number : ℕ) (command : Command) (entry : Entry) (tags : List TagValue) → ((session : ℕ) → command ≢ commands.QueryRep session)
    → reached_from number command entry (participations_of tags) tags ≡ hearing_from number command entry tags
settled_from number command entry [] other = refl
settled_from number command entry (tag ∷ tags) other =
    rw (outcome_kept (is_reached (reach_of command) (participation_in tag.state)) (is_missed number entry) command tag (stays command tag.state tag.body other), settled_from (number + 1) command entry tags other) refl

settled_at : (floor : FloorValue) (number : ℕ) → floor.parts ≡ participations_of floor.tags → participation_at floor.parts number ≡ participation_in (get_or floor.tags number no_tag).state
settled_at floor number settled = ap (λ (l : List (Option Participation)). participation_at l number) settled ∙ participation_of_tag floor.tags number

pub settled_whole : (floor : FloorValue) → floor.parts ≡ participations_of floor.tags → length floor.parts ≡ length floor.tags
settled_whole floor settled = ap (λ (l : List (Option Participation)). length l) settled ∙ length-map floor.tags (λ (t : TagValue). participation_in t.state)

-- no tag has to be called
pub none_called_for : (command : Command) (entry : Entry) (floor : FloorValue) → floor.parts ≡ participations_of floor.tags → ((session : ℕ) → command ≢ commands.QueryRep session) → AreCalledFor command entry floor floor
none_called_for command entry floor settled other = record {
  ready = record { whole = settled_whole floor settled; settled = λ number within unreached. settled_at floor number settled };
  count = refl;
  outcomes = ap (λ (l : List (Option Participation)). reached_from 0 command entry l floor.tags) settled ∙ settled_from 0 command entry floor.tags other;
}

-- Tags are called to a QueryRep, one after another.

-- one tag more is called
pub record CallsOne (now : FloorValue) (steps : ℕ) : Type 0 where
  pub number : ℕ
  pub after : FloorValue
  pub stepped : ℕ
  pub within : number < length now.parts
  pub is : after ≡ calling now number
  pub counts : stepped ≤ steps + steps_back (participation_at now.parts number)

-- a QueryRep of a session, before which the tags were so
pub record Rep : Type 0 where
  pub session : ℕ
  pub entry : Entry
  pub before : FloorValue
  pub start : ℕ

-- a tag has to be called: it misses the QueryRep, or its slot comes next
abbrev HasToBeCalled : Rep → ℕ → Type 0
HasToBeCalled r number = (is_missed number r.entry ≡ true) ⊎ (participation_at r.before.parts number ≡ Some (Waits r.session 1))

-- so far such tags were called, and of the first that miss it none waits
pub record Calls (r : Rep) (index : ℕ) (now : FloorValue) (steps : ℕ) : Type 0 where
  pub tags : now.tags ≡ r.before.tags
  pub whole : length now.parts ≡ length r.before.parts
  pub counted : steps + reach_steps CalledOnly r.before.parts ≤ r.start + reach_steps CalledOnly now.parts
  pub each : (number : ℕ) → (participation_at now.parts number ≡ participation_at r.before.parts number) ⊎ ((participation_at now.parts number ≡ Some Called) × HasToBeCalled r number)
  pub missed : (k : ℕ) → k < index → waits_in r.session (participation_at now.parts (get_or r.entry.missed k 0)) ≡ false

pub calls_none : (r : Rep) → Calls r 0 r.before r.start
calls_none r = record { tags = refl; whole = refl; counted = omega arith; each = λ number. inl refl; missed = λ k below. absurd (omega (arith, below)) }

pub calls_next : (r : Rep) (index : ℕ) (now : FloorValue) (steps : ℕ) → Calls r index now steps → (one : CallsOne now steps) → HasToBeCalled r one.number → Calls r index one.after one.stepped
calls_next r index now steps so_far one has =
    let parts : one.after.parts ≡ set now.parts one.number (Some Called) = ap (λ (f : FloorValue). f.parts) one.is in
    let here : participation_at one.after.parts one.number ≡ Some Called = rw parts (get_or-set_same now.parts one.number (Some Called) None one.within) in
    let there : (other : ℕ) → other ≢ one.number → participation_at one.after.parts other ≡ participation_at now.parts other =
    λ other apart. rw parts (get_or-set_other now.parts one.number other (Some Called) None apart) in
    record {
      tags = ap (λ (f : FloorValue). f.tags) one.is ∙ so_far.tags;
      whole = rw (parts, length-set now.parts one.number (Some Called)) so_far.whole;
      counted = rw parts (omega (arith, so_far.counted, one.counts, called-set now.parts one.number one.within, one_called (participation_at now.parts one.number)));
      each = λ number.
          elim (eqb_tells number one.number) [
            | inl same ↦ rw same.1 (inr (here, has))
            | inr apart ↦ rw (there number apart.1) (so_far.each number)
          ];
      missed = λ k below.
          elim (eqb_tells (get_or r.entry.missed k 0) one.number) [
            | inl same ↦ rw (same.1, here) refl
            | inr apart ↦ rw (there (get_or r.entry.missed k 0) apart.1) (so_far.missed k below)
          ];
    }

-- of more that miss it none waits
pub calls_upto : (r : Rep) (index to : ℕ) (now : FloorValue) (steps : ℕ) → Calls r index now steps
    → ((k : ℕ) → k < to → index ≤ k → waits_in r.session (participation_at now.parts (get_or r.entry.missed k 0)) ≡ false) → Calls r to now steps
calls_upto r index to now steps so_far none = record {
  tags = so_far.tags;
  whole = so_far.whole;
  counted = so_far.counted;
  each = so_far.each;
  missed = λ k below.
      elim (cases_lt k index) [
        | inl less ↦ so_far.missed k less
        | inr past ↦ none k below past
      ];
}

pub calls_index : (r : Rep) (index : ℕ) (now : FloorValue) (steps : ℕ) → Calls r index now steps → waits_in r.session (participation_at now.parts (get_or r.entry.missed index 0)) ≡ false → Calls r (index + 1) now steps
calls_index r index now steps so_far none = calls_upto r index (index + 1) now steps so_far (λ k below past. let here : k ≡ index = omega (arith, below, past) in rw here none)

-- the tag of this number was called, which waited
pub calls_missed : (r : Rep) (index : ℕ) (now : FloorValue) (steps : ℕ) → Calls r index now steps → (one : CallsOne now steps) → one.number ≡ get_or r.entry.missed index 0 → is_missed one.number r.entry ≡ true
    → Calls r (index + 1) one.after one.stepped
calls_missed r index now steps so_far one name misses =
    calls_index r index one.after one.stepped (calls_next r index now steps so_far one (inl misses))
    (rw (← name, ap (λ (f : FloorValue). f.parts) one.is, get_or-set_same now.parts one.number (Some Called) None one.within) refl)

-- a tag whose slot comes next was called
pub calls_due : (r : Rep) (index : ℕ) (now : FloorValue) (steps : ℕ) → Calls r index now steps → (one : CallsOne now steps) → participation_at now.parts one.number ≡ Some (Waits r.session 1)
    → Calls r index one.after one.stepped
calls_due r index now steps so_far one due =
    calls_next r index now steps so_far one
    (elim (so_far.each one.number) [
      | inl left ↦ inr (sym left ∙ due)
      | inr done ↦ absurd (let same : Some (Waits r.session 1) ≡ Some Called = sym due ∙ done.0 in cc)
    ])

pub due_smaller : (session due : ℕ) (called more : List (Option Participation)) → participation_at called due ≡ Some (Waits session 1) → more ≡ set called due (Some Called)
    → length more - reach_steps CalledOnly more < length called - reach_steps CalledOnly called
due_smaller session due called more is put =
    let within = participation_inside called due (Waits session 1) is in
    let counts = called-set called due within in
    let none : steps_to_hear CalledOnly (participation_at called due) ≡ 0 = ap (λ (p : Option Participation). steps_to_hear CalledOnly p) is in
    rw put (omega (arith, counts, none, called_most (set called due (Some Called)), length-set called due (Some Called)))

-- The tags that are called hear the QueryRep or miss it, and the others wait on or have no part in it.
IsRep : ℕ → Bool → Option Participation → TagValue → Type 0
IsRep session misses part tag =
    (part ≡ Some Called) ⊎ ((part ≡ participation_in tag.state) × (misses ≡ true → waits_in session part ≡ false) × (part ≢ Some (Waits session 1)))

arbitrate_rep : (session : ℕ) (misses : Bool) (own q slot : ℕ) (body : BodyValue) → (misses ≡ true → (own == session) ≡ false) → Some (Waits own slot) ≢ Some (Waits session 1)
    → silent (ArbitrateState own q (if own == session then slot_below slot else slot)) body ≡ outcome_unless misses (commands.QueryRep session) (record { state = ArbitrateState own q slot; body = body })
arbitrate_rep session true own q slot body missed apart = rw (missed refl) refl
arbitrate_rep session false own q slot body missed apart =
    elim (eqb_tells own session) [
      | inl w ↦
          ap (λ (b : Bool). silent (ArbitrateState own q (if b then slot_below slot else slot)) body) w.0
          ∙ ap (λ n. silent (ArbitrateState n q (slot_below slot)) body) w.1
          ∙ sym (waits session q slot body (λ one. apart (ap (λ n. Some (Waits n slot)) w.1 ∙ ap (λ n. Some (Waits session n)) one)))
          ∙ ap (λ n. step (commands.QueryRep session) (ArbitrateState n q slot) body) (sym w.1)
      | inr w ↦
          ap (λ (b : Bool). silent (ArbitrateState own q (if b then slot_below slot else slot)) body) w.0
          ∙ sym (other_rep session (ArbitrateState own q slot) body (λ is. w.1 (same_Some own session is)))
    ]

rep_state : (session : ℕ) (misses : Bool) (state : StateValue) (body : BodyValue) → (misses ≡ true → waits_in session (participation_in state) ≡ false) → participation_in state ≢ Some (Waits session 1)
    → outcome_reached (is_called (counted_down session (participation_in state))) misses (commands.QueryRep session) (tag_seated (counted_down session (participation_in state)) (record { state = state; body = body }))
    ≡ outcome_unless misses (commands.QueryRep session) (record { state = state; body = body })
rep_state session misses (ArbitrateState own q slot) body missed apart = arbitrate_rep session misses own q slot body missed apart
rep_state session true state body missed apart = refl
rep_state session false state body missed apart = refl

rep_outcome : (session : ℕ) (misses : Bool) (part : Option Participation) (tag : TagValue) → IsRep session misses part tag
    → outcome_reached (is_called (counted_down session part)) misses (commands.QueryRep session) (tag_seated (counted_down session part) tag) ≡ outcome_unless misses (commands.QueryRep session) tag
unfolding IsRep
rep_outcome session misses part tag (inl called) = rw called refl
rep_outcome session misses part tag (inr others) =
    let missed : misses ≡ true → waits_in session (participation_in tag.state) ≡ false = λ is. rw (← others.0) (others.1 is) in
    rw others.0 (rep_state session misses tag.state tag.body missed (λ same. others.2 (others.0 ∙ same)))

counted_settled : (session : ℕ) (state : StateValue) (body : BodyValue)
    → counted_down session (participation_in state) ≡ participation_in (tag_seated (counted_down session (participation_in state)) (record { state = state; body = body })).state
counted_settled session (ArbitrateState own q slot) body = refl
counted_settled session state body = refl

rep_settled : (session : ℕ) (misses : Bool) (part : Option Participation) (tag : TagValue) → IsRep session misses part tag → is_called (counted_down session part) ≡ false
    → counted_down session part ≡ participation_in (tag_seated (counted_down session part) tag).state
unfolding IsRep
rep_settled session misses part tag (inl called) apart = absurd (let not : true ≡ false = ap (λ (p : Option Participation). is_called (counted_down session p)) (sym called) ∙ apart in cc)
rep_settled session misses part tag (inr others) apart = rw others.0 (counted_settled session tag.state tag.body)

reps_from : (session number : ℕ) (entry : Entry) (parts : List (Option Participation)) (tags : List TagValue) → length parts ≡ length tags
    → ((k at : ℕ) → at ≡ number + k → k < length tags → IsRep session (is_missed at entry) (participation_at parts k) (get_or tags k no_tag))
    → reached_from number (commands.QueryRep session) entry (map (counted_down session) parts) (seated_tags (map (counted_down session) parts) tags) ≡ hearing_from number (commands.QueryRep session) entry tags
reps_from session number entry [] [] same each = refl
reps_from session number entry (part ∷ parts) (tag ∷ tags) same each =
    rw (
      rep_outcome session (is_missed number entry) part tag (each 0 number (omega arith) (omega arith)),
      reps_from session (number + 1) entry parts tags (omega (arith, same)) (λ k at is below. each (suc k) at (omega (arith, is)) (omega (arith, below))),
    )
    refl
reps_from session number entry parts tags same each = absurd (omega (arith, same))

-- no more tags are called than it keeps busy
beyond_called : (state : StateValue) → participation_in state ≡ Some Called → is_beyond_arbitrate state ≡ true
beyond_called (ReplyState session q rn) is = refl
beyond_called (AcknowledgedState session q rn) is = refl
beyond_called (OpenState held) is = refl
beyond_called (SecuredState held) is = refl
beyond_called state is = absurd (cc)

answers_next : (session : ℕ) (state : StateValue) (body : BodyValue) → participation_in state ≡ Some (Waits session 1) → is_some (step (commands.QueryRep session) state body).answer ≡ true
answers_next session (ArbitrateState own q slot) body is =
    let same = same_waits own slot session 1 is in
    rw (same.0, same.1) (ap (λ (b : Bool). is_some (if b then count_down session q 1 body else silent (ArbitrateState session q 1) body).answer) (eq-eqb session session refl))
answers_next session state body is = absurd (cc)

one_busy : (part : Option Participation) (busy : Bool) → (part ≡ Some Called → busy ≡ true) → steps_to_hear CalledOnly part ≤ (if busy then 1 else 0)
one_busy None busy is = omega arith
one_busy (Some (Waits session slot)) busy is = omega arith
one_busy (Some Called) true is = omega arith
one_busy (Some Called) false is = absurd (let busy : false ≡ true = is refl in cc)

busy_most : (number : ℕ) (command : Command) (entry : Entry) (parts : List (Option Participation)) (tags : List TagValue) → length parts ≡ length tags
    → ((k at : ℕ) → at ≡ number + k → participation_at parts k ≡ Some Called → is_busy at command entry (get_or tags k no_tag) ≡ true)
    → reach_steps CalledOnly parts ≤ busy_from number command entry tags
busy_most number command entry [] [] same busy = omega arith
busy_most number command entry (part ∷ parts) (tag ∷ tags) same busy =
    omega (
      arith,
      one_busy part (is_busy number command entry tag) (busy 0 number (omega arith)),
      busy_most (number + 1) command entry parts tags (omega (arith, same)) (λ k at is. busy (suc k) at (omega (arith, is))),
    )
busy_most number command entry parts tags same busy = absurd (omega (arith, same))

-- All were called that have to be: of those that miss it none waits, and no slot comes next.
module _ (r : Rep) (called : FloorValue) (steps : ℕ) (settled : r.before.parts ≡ participations_of r.before.tags) (calls : Calls r (length r.entry.missed) called steps) (none : IsDue called.parts r.session None) where
  is_rep : (number : ℕ) → IsRep r.session (is_missed number r.entry) (participation_at called.parts number) (get_or called.tags number no_tag)
  unfolding IsRep
  is_rep number =
      elim (calls.each number) [
        | inr has ↦ inl has.0
        | inl left ↦
            inr (
              rw calls.tags (left ∙ settled_at r.before number settled),
              λ misses.
                  let found = number_index number r.entry.missed misses in
                  rw (← found.2) (calls.missed found.0 found.1),
              none number,
            )
      ]

  is_busy_there : (number : ℕ) → participation_at called.parts number ≡ Some Called → is_busy number (commands.QueryRep r.session) r.entry (get_or r.before.tags number no_tag) ≡ true
  is_busy_there number here =
      let tag : TagValue = get_or r.before.tags number no_tag in
      let start : participation_at r.before.parts number ≡ participation_in tag.state = settled_at r.before number settled in
      let misses : Bool = is_missed number r.entry in
      let beyond : Bool = is_beyond_arbitrate tag.state in
      let answers : Bool = is_some (step (commands.QueryRep r.session) tag.state tag.body).answer in
      elim (calls.each number) [
        | inl left ↦ or_left (misses || beyond) answers (or_right misses beyond (beyond_called tag.state (sym start ∙ sym left ∙ here)))
        | inr has ↦
            elim has.1 [
              | inl missed ↦ or_left (misses || beyond) answers (or_left misses beyond missed)
              | inr due ↦ or_right (misses || beyond) answers (answers_next r.session tag.state tag.body (sym start ∙ due))
            ]
      ]

  rep_whole : length called.parts ≡ length called.tags
  rep_whole = rw calls.tags (calls.whole ∙ settled_whole r.before settled)

  pub rep_called_for : AreCalledFor (commands.QueryRep r.session) r.entry r.before (counted_floor r.session called)
  rep_called_for =
      let whole : length (map (counted_down r.session) called.parts) ≡ length called.tags = length-map called.parts (counted_down r.session) ∙ rep_whole in
      let long : length (counted_floor r.session called).tags ≡ length called.tags = length-tags_of (map (counted_down r.session) called.parts) called.tags whole in
      let part : (number : ℕ) → participation_at (map (counted_down r.session) called.parts) number ≡ counted_down r.session (participation_at called.parts number) =
      λ number. get_or-map (counted_down r.session) called.parts number None in
      record {
        ready = record {
          whole = whole ∙ sym long;
          settled = λ number within unreached.
              rw (tag_at (map (counted_down r.session) called.parts) called.tags number no_tag whole (rw (← long) within), part number)
              (rep_settled r.session (is_missed number r.entry) (participation_at called.parts number) (get_or called.tags number no_tag) (is_rep number) (rw (← part number) unreached));
        };
        count = long ∙ ap (λ (l : List TagValue). length l) calls.tags;
        outcomes =
            reps_from r.session 0 r.entry called.parts called.tags rep_whole (λ k at is below. let here : at ≡ k = omega (arith, is) in rw here (is_rep k))
            ∙ ap (λ (l : List TagValue). hearing_from 0 (commands.QueryRep r.session) r.entry l) calls.tags;
      }

  pub rep_counted : steps + reach_steps CalledOnly (counted_floor r.session called).parts ≤ r.start + 2 * length r.before.tags
  rep_counted =
      omega (arith, calls.counted, called_counted r.session called.parts, called_most called.parts, rep_whole, ap (λ (l : List TagValue). length l) calls.tags)

  pub rep_bound : steps + reach_steps CalledOnly (counted_floor r.session called).parts ≤ r.start + 2 * busy_from 0 (commands.QueryRep r.session) r.entry r.before.tags
  rep_bound =
      let busy = busy_most 0 (commands.QueryRep r.session) r.entry called.parts r.before.tags (calls.whole ∙ settled_whole r.before settled)
      (λ k at is here. let there : at ≡ k = omega (arith, is) in rw there (is_busy_there k here)) in
      omega (arith, calls.counted, called_counted r.session called.parts, busy)
