-- Tags in their seats: what they are seen as, and how a slot counter is written back.
use Rattle.std.proofs.Common.{◌≡◌, ℕ, zero, suc, ◌<◌, ◌≤◌, ◌==◌, ◌+◌, List, [], ◌∷◌, ◌++◌, length, map, replicate, Option, Some, None, get_or, set, refl, sym, ap, ◌∙◌, subst, arith, append_assoc, length-append, if◌then◌else◌}
use Rattle.std.proofs.Math.ListN.{get_or-map}
use Rattle.std.proofs.lemmas.List.{get_or_default, set-get_or, length-set, length-map, length-replicate, map-set, append-nil}
use Rattle.std.proofs.lemmas.Option.{same_Some}
use Rattle.air_events.specs.TagNumbers.{most_tags}
use Rattle.tag_machine.specs.declared.any_tag.AnyTag.{AnyTag}
use Rattle.tag_machine.specs.Hearing.{tag_value_of}
use Rattle.tag_machine.specs.TagsInExchange.{AreLegalTags}
use Rattle.tag_machine.specs.Inventory.{slot_below}
use Rattle.tag_machine.specs.TagValue.{StateValue, ArbitrateState, BodyValue, TagValue, IsLegalState, IsLegalTag}
use Rattle.tag_population.proofs.EventsOnTags.{legal-append, legal-set}
use Rattle.tag_population.specs.Floor.{with_slot, tag_seated, seated_tags, participation_in, participations_of, steps_back, floor_with, calling, counted_floor, no_tag, FloorValue, AreSeated}
use Rattle.tag_population.specs.Participation.{participation_at, waiting_slot, counted_down, AreSlots}
use Rattle.tag_population.specs.declared.participation.Participation.{Participation}
use Rattle.tag_population.specs.declared.participation.Participation.TheVariants.{Waits, Called}

pub length-tags_of : (participations : List (Option Participation)) (seats : List TagValue) → length participations ≡ length seats → length (seated_tags participations seats) ≡ length seats
length-tags_of [] [] same = refl
length-tags_of (participation ∷ participations) (seat ∷ seats) same = ap (λ n. suc n) (length-tags_of participations seats (omega (arith, same)))
length-tags_of participations seats same = absurd (omega (arith, same))

-- the tag of a number
pub tag_at : (participations : List (Option Participation)) (seats : List TagValue) (number : ℕ) (d : TagValue) → length participations ≡ length seats → number < length seats
    → get_or (seated_tags participations seats) number d ≡ tag_seated (participation_at participations number) (get_or seats number d)
tag_at (participation ∷ participations) (seat ∷ seats) zero d same within = refl
tag_at (participation ∷ participations) (seat ∷ seats) (suc number) d same within = tag_at participations seats number d (omega (arith, same)) (omega (arith, within))
tag_at participations seats number d same within = absurd (omega (arith, same, within))

pub tags-set : (participations : List (Option Participation)) (seats : List TagValue) (number : ℕ) (participation : Option Participation) (seat : TagValue) → length participations ≡ length seats
    → seated_tags (set participations number participation) (set seats number seat) ≡ set (seated_tags participations seats) number (tag_seated participation seat)
tags-set [] [] number participation seat same = refl
tags-set (own ∷ participations) (first ∷ seats) zero participation seat same = refl
tags-set (own ∷ participations) (first ∷ seats) (suc number) participation seat same =
    ap (λ (l : List TagValue). tag_seated own first ∷ l) (tags-set participations seats number participation seat (omega (arith, same)))
tags-set participations seats number participation seat same = absurd (omega (arith, same))

-- a tag takes part as its state says where it has the slot counter of its state
seated_in_state : (state : StateValue) (body : BodyValue) → tag_seated (participation_in state) (record { state = state; body = body }) ≡ record { state = state; body = body }
seated_in_state (ArbitrateState session q slot) body = refl
seated_in_state state body = refl

pub seated_as_is : (tag : TagValue) → tag_seated (participation_in tag.state) tag ≡ tag
seated_as_is tag = seated_in_state tag.state tag.body

pub with_slot_twice : (slot old : ℕ) (state : StateValue) → with_slot slot (with_slot old state) ≡ with_slot slot state
with_slot_twice slot old (ArbitrateState session q own) = refl
with_slot_twice slot old state = refl

seated_twice : (participation : Option Participation) (seat : TagValue) → tag_seated participation (tag_seated participation seat) ≡ tag_seated participation seat
seated_twice None seat = refl
seated_twice (Some (Waits session slot)) seat = ap (λ (s : StateValue). record seat { state = s }) (with_slot_twice slot slot seat.state)
seated_twice (Some Called) seat = refl

reseated : (session : ℕ) (participation : Option Participation) (seat : TagValue)
    → tag_seated (counted_down session participation) seat ≡ tag_seated (counted_down session participation) (tag_seated participation seat)
reseated session None seat = refl
reseated session (Some (Waits own slot)) seat =
    ap (λ (s : StateValue). record seat { state = s }) (sym (with_slot_twice (if own == session then slot_below slot else slot) slot seat.state))
reseated session (Some Called) seat = refl

-- legal tags, with slot counters of 15 bits
pub legal_with_slot : (slot : ℕ) (state : StateValue) → slot < 32768 → IsLegalState state → IsLegalState (with_slot slot state)
legal_with_slot slot (ArbitrateState session q old) below legal = (legal.0, legal.1, omega (arith, below))
legal_with_slot slot state below legal = legal

legal_seated : (participation : Option Participation) (seat : TagValue) → ((slot : ℕ) → waiting_slot participation ≡ Some slot → slot < 32768) → IsLegalTag seat → IsLegalTag (tag_seated participation seat)
legal_seated None seat slots legal = legal
legal_seated (Some (Waits session slot)) seat slots legal = record { state = legal_with_slot slot seat.state (slots slot refl) legal.state; body = legal.body }
legal_seated (Some Called) seat slots legal = legal

pub legal_tags : (participations : List (Option Participation)) (seats : List TagValue) → AreSlots participations → AreLegalTags seats → AreLegalTags (seated_tags participations seats)
legal_tags [] seats slots legal = tt
legal_tags (participation ∷ participations) [] slots legal = tt
legal_tags (participation ∷ participations) (seat ∷ seats) slots legal =
    (legal_seated participation seat (λ slot is. slots 0 slot is) legal.0, legal_tags participations seats (λ number slot is. slots (suc number) slot is) legal.1)

pub participation_of_tag : (tags : List TagValue) (number : ℕ) → participation_at (participations_of tags) number ≡ participation_in (get_or tags number no_tag).state
participation_of_tag tags number = get_or-map (λ (tag : TagValue). participation_in tag.state) tags number no_tag

settled_tags : (seats : List TagValue) → seated_tags (participations_of seats) seats ≡ seats
settled_tags [] = refl
settled_tags (seat ∷ seats) =
    ap (λ (t : TagValue). t ∷ seated_tags (participations_of seats) seats) (seated_as_is seat) ∙ ap (λ (l : List TagValue). seat ∷ l) (settled_tags seats)

legal_slots : (state : StateValue) (slot : ℕ) → IsLegalState state → waiting_slot (participation_in state) ≡ Some slot → slot < 32768
legal_slots (ArbitrateState session q own) slot legal is = omega (arith, legal.2, same_Some own slot is)
legal_slots state slot legal is = absurd (cc)

slots_at : (seat : TagValue) (seats : List TagValue) → AreLegalTags (seat ∷ seats) → (number slot : ℕ) → waiting_slot (participation_at (participations_of (seat ∷ seats)) number) ≡ Some slot → slot < 32768
slots_at seat seats legal zero slot is = legal_slots seat.state slot legal.0.state is
slots_at seat [] legal (suc number) slot is = absurd (cc)
slots_at seat (next ∷ seats) legal (suc number) slot is = slots_at next seats legal.1 number slot is

slots_of : (seats : List TagValue) → AreLegalTags seats → AreSlots (participations_of seats)
slots_of [] legal = λ number slot is. absurd (cc)
slots_of (seat ∷ seats) legal = λ number slot is. slots_at seat seats legal number slot is

-- a tag more takes part, in front of those that don't
set_behind : (seats : List TagValue) (next : TagValue) (rest : List (Option Participation))
    → set (participations_of seats ++ None ∷ rest) (length seats) (participation_in next.state) ≡ participations_of (seats ++ next ∷ []) ++ rest
set_behind [] next rest = refl
set_behind (seat ∷ seats) next rest = ap (λ (l : List (Option Participation)). participation_in seat.state ∷ l) (set_behind seats next rest)

-- the first of these tags sit in their seats and take part as their states say, and those that are left don't yet
pub record Seating (tags left : List AnyTag) (seats : List TagValue) (parts : List (Option Participation)) : Type 0 where
  pub values : seats ++ map tag_value_of left ≡ map tag_value_of tags
  pub legal : AreLegalTags seats
  pub taking : parts ≡ participations_of seats ++ replicate (length left) None

-- ... and where one is left there is room for it
pub room_left : (tags left rest : List AnyTag) (seats : List TagValue) (parts : List (Option Participation)) (next : AnyTag) → Seating tags left seats parts → left ≡ next ∷ rest
    → (length seats < length tags) × (length parts ≡ length tags)
room_left tags left rest seats parts next so_far is =
    let all : length seats + length left ≡ length tags =
    omega (arith, ap (λ (l : List TagValue). length l) so_far.values, length-append seats (map tag_value_of left), length-map left tag_value_of, length-map tags tag_value_of) in (
      omega (arith, all, ap (λ (l : List AnyTag). length l) is),
      omega (
        arith,
        all,
        ap (λ (l : List (Option Participation)). length l) so_far.taking,
        length-append (participations_of seats) (replicate (length left) None),
        length-map seats (λ (t : TagValue). participation_in t.state),
        length-replicate {A = Option Participation} (length left) None,
      ),
    )

pub seating_next : (tags left rest : List AnyTag) (seats after : List TagValue) (parts taking : List (Option Participation)) (next : AnyTag) → Seating tags left seats parts → left ≡ next ∷ rest
    → after ≡ seats ++ tag_value_of next ∷ [] → IsLegalTag (tag_value_of next) → taking ≡ set parts (length seats) (participation_in (tag_value_of next).state) → Seating tags rest after taking
seating_next tags left rest seats after parts taking next so_far is after_is legal put = record {
  values =
      ap (λ (l : List TagValue). l ++ map tag_value_of rest) after_is
      ∙ append_assoc seats (tag_value_of next ∷ []) (map tag_value_of rest)
      ∙ ap (λ (l : List AnyTag). seats ++ map tag_value_of l) (sym is)
      ∙ so_far.values;
  legal = rw after_is (legal-append seats (tag_value_of next) so_far.legal legal);
  taking =
      put
      ∙ ap (λ (l : List (Option Participation)). set l (length seats) (participation_in (tag_value_of next).state)) so_far.taking
      ∙ ap (λ (l : List AnyTag). set (participations_of seats ++ replicate (length l) None) (length seats) (participation_in (tag_value_of next).state)) is
      ∙ set_behind seats (tag_value_of next) (replicate (length rest) None)
      ∙ ap (λ (l : List TagValue). participations_of l ++ replicate (length rest) None) (sym after_is);
}

no_tags_left : (left : List AnyTag) → length left ≡ 0 → left ≡ []
no_tags_left [] none = refl
no_tags_left (tag ∷ left) none = absurd (omega (arith, none))

-- all of them sit in their seats
pub all_seated : (tags left : List AnyTag) (seats : List TagValue) (parts : List (Option Participation)) → Seating tags left seats parts → length left ≡ 0 → length tags ≤ most_tags
    → AreSeated parts seats × (seated_tags parts seats ≡ map tag_value_of tags) × (parts ≡ participations_of (seated_tags parts seats))
all_seated tags left seats parts so_far past few =
    let none : left ≡ [] = no_tags_left left past in
    let taking : parts ≡ participations_of seats =
    so_far.taking ∙ ap (λ (l : List AnyTag). participations_of seats ++ replicate (length l) None) none ∙ append-nil (participations_of seats) in
    let sit : seated_tags parts seats ≡ seats = ap (λ (l : List (Option Participation)). seated_tags l seats) taking ∙ settled_tags seats in
    let values : seats ≡ map tag_value_of tags = sym (append-nil seats) ∙ ap (λ (l : List AnyTag). seats ++ map tag_value_of l) (sym none) ∙ so_far.values in (
      record {
        few = omega (arith, few, ap (λ (l : List TagValue). length l) values, length-map tags tag_value_of);
        whole = ap (λ (l : List (Option Participation)). length l) taking ∙ length-map seats (λ (t : TagValue). participation_in t.state);
        legal = so_far.legal;
        slots = subst (λ (l : List (Option Participation)). AreSlots l) (sym taking) (slots_of seats so_far.legal);
      },
      sit ∙ values,
      taking ∙ ap (λ (l : List TagValue). participations_of l) (sym sit),
    )

pub steps_back_most : (participation : Option Participation) → steps_back participation ≤ 1
steps_back_most None = omega arith
steps_back_most (Some (Waits session slot)) = omega arith
steps_back_most (Some Called) = omega arith

-- what seats and participations are seen as
abbrev pub floor_of : List (Option Participation) → List TagValue → FloorValue
floor_of parts items = record { tags = seated_tags parts items; parts = parts }

pub seats_within : (parts : List (Option Participation)) (items : List TagValue) (floor : FloorValue) (number : ℕ) → AreSeated parts items → floor_of parts items ≡ floor → number < length floor.tags → number < length items
seats_within parts items floor number are is within = rw (← length-tags_of parts items are.whole, ap (λ (f : FloorValue). f.tags) is) within

pub parts_within : (parts : List (Option Participation)) (items : List TagValue) (floor : FloorValue) (number : ℕ) → AreSeated parts items → floor_of parts items ≡ floor → number < length floor.tags → number < length parts
parts_within parts items floor number are is within = rw are.whole (seats_within parts items floor number are is within)

pub floor_long : (parts : List (Option Participation)) (items : List TagValue) (floor : FloorValue) → AreSeated parts items → floor_of parts items ≡ floor → (length floor.tags ≡ length parts) × (length parts ≤ most_tags)
floor_long parts items floor are is =
    let long : length floor.tags ≡ length items = rw (← is) (length-tags_of parts items are.whole) in
    (omega (arith, long, are.whole), omega (arith, are.whole, are.few))

-- one of the seats of a floor
pub record Chosen : Type 0 where
  pub parts : List (Option Participation)
  pub items : List TagValue
  pub floor : FloorValue
  pub number : ℕ
  pub are : AreSeated parts items
  pub is : floor_of parts items ≡ floor
  pub within : number < length items

abbrev pub chosen : (parts : List (Option Participation)) (items : List TagValue) (floor : FloorValue) (number : ℕ) → AreSeated parts items → floor_of parts items ≡ floor → number < length floor.tags → Chosen
chosen parts items floor number are is within = record {
  parts = parts;
  items = items;
  floor = floor;
  number = number;
  are = are;
  is = is;
  within = seats_within parts items floor number are is within;
}

-- what is read there, with the slot counter that is told of it, is the tag of the floor
pub seat_read : (b : Chosen) (seat : TagValue) → seat ≡ get_or b.items b.number seat → tag_seated (participation_at b.parts b.number) seat ≡ get_or b.floor.tags b.number no_tag
seat_read b seat read =
    ap (λ (t : TagValue). tag_seated (participation_at b.parts b.number) t) (read ∙ get_or_default b.items b.number seat no_tag b.within)
    ∙ sym (tag_at b.parts b.items b.number no_tag b.are.whole b.within)
    ∙ ap (λ (f : FloorValue). get_or f.tags b.number no_tag) b.is

-- another tag sits there, and takes part so
pub seated_put : (b : Chosen) (participation : Option Participation) (after : List (Option Participation)) (new : TagValue) → after ≡ set b.parts b.number participation → AreSlots after → IsLegalTag new
    → AreSeated after (set b.items b.number new)
seated_put b participation after new put slots legal = record {
  few = omega (arith, length-set b.items b.number new, b.are.few);
  whole = ap (λ (l : List (Option Participation)). length l) put ∙ length-set b.parts b.number participation ∙ b.are.whole ∙ sym (length-set b.items b.number new);
  legal = legal-set b.items b.number new b.are.legal legal;
  slots = slots;
}

floor_put : (b : Chosen) (participation : Option Participation) (after : List (Option Participation)) (new seen : TagValue) → after ≡ set b.parts b.number participation → tag_seated participation new ≡ seen
    → floor_of after (set b.items b.number new) ≡ record { tags = set b.floor.tags b.number seen; parts = set b.floor.parts b.number participation }
floor_put b participation after new seen put as_seen =
    rw put
    (ap (λ (l : List TagValue). let changed : FloorValue = record { tags = l; parts = set b.parts b.number participation } in changed)
    (tags-set b.parts b.items b.number participation new b.are.whole ∙ ap (λ (t : TagValue). set (seated_tags b.parts b.items) b.number t) as_seen)
    ∙ ap (λ (f : FloorValue). let changed : FloorValue = record { tags = set f.tags b.number seen; parts = set f.parts b.number participation } in changed) b.is)

-- ... as its state says
pub floor_becomes : (b : Chosen) (participation : Option Participation) (after : List (Option Participation)) (new : TagValue) → after ≡ set b.parts b.number participation → participation ≡ participation_in new.state
    → floor_of after (set b.items b.number new) ≡ floor_with b.floor b.number new
floor_becomes b participation after new put takes =
    floor_put b (participation_in new.state) after new new (put ∙ ap (λ (p : Option Participation). set b.parts b.number p) takes) (seated_as_is new)

-- ... or is called, with its slot counter written back
pub floor_called : (b : Chosen) (after : List (Option Participation)) (new : TagValue) → after ≡ set b.parts b.number (Some Called) → new ≡ get_or b.floor.tags b.number no_tag
    → floor_of after (set b.items b.number new) ≡ calling b.floor b.number
floor_called b after new put back =
    floor_put b (Some Called) after new new put refl
    ∙ ap (λ (l : List TagValue). let changed : FloorValue = record { tags = l; parts = set b.floor.parts b.number (Some Called) } in changed)
    (ap (λ (t : TagValue). set b.floor.tags b.number t) back ∙ set-get_or b.floor.tags b.number no_tag)

-- ... or takes part as before, with its slot counter written back
pub floor_back : (b : Chosen) (new : TagValue) → new ≡ get_or b.floor.tags b.number no_tag → floor_of b.parts (set b.items b.number new) ≡ b.floor
floor_back b new back =
    let own : Option Participation = participation_at b.parts b.number in
    let kept : tag_seated own (get_or b.items b.number no_tag) ≡ get_or (seated_tags b.parts b.items) b.number no_tag = sym (tag_at b.parts b.items b.number no_tag b.are.whole b.within) in
    let here : new ≡ tag_seated own (get_or b.items b.number no_tag) = back ∙ ap (λ (f : FloorValue). get_or f.tags b.number no_tag) (sym b.is) ∙ sym kept in
    let tags_are : seated_tags b.parts (set b.items b.number new) ≡ seated_tags b.parts b.items =
    ap (λ (l : List (Option Participation)). seated_tags l (set b.items b.number new)) (sym (set-get_or b.parts b.number None))
    ∙ tags-set b.parts b.items b.number own new b.are.whole
    ∙ ap (λ (t : TagValue). set (seated_tags b.parts b.items) b.number t) (ap (λ (t : TagValue). tag_seated own t) here ∙ seated_twice own (get_or b.items b.number no_tag) ∙ kept)
    ∙ set-get_or (seated_tags b.parts b.items) b.number no_tag in
    ap (λ (l : List TagValue). let changed : FloorValue = record { tags = l; parts = b.parts } in changed) tags_are ∙ b.is

-- slot counters were counted down
pub counted_tags : (session : ℕ) (parts : List (Option Participation)) (seats : List TagValue) → seated_tags (map (counted_down session) parts) seats ≡ seated_tags (map (counted_down session) parts) (seated_tags parts seats)
counted_tags session [] seats = refl
counted_tags session (part ∷ parts) [] = refl
counted_tags session (part ∷ parts) (seat ∷ seats) = rw (← reseated session part seat, ← counted_tags session parts seats) refl

pub counted_is : (session : ℕ) (parts after : List (Option Participation)) (items : List TagValue) (floor : FloorValue) → floor_of parts items ≡ floor → after ≡ map (counted_down session) parts
    → floor_of after items ≡ counted_floor session floor
counted_is session parts after items floor is counted =
    ap (λ (l : List (Option Participation)). floor_of l items) counted
    ∙ ap (λ (l : List TagValue). let changed : FloorValue = record { tags = l; parts = map (counted_down session) parts } in changed) (counted_tags session parts items)
    ∙ ap (λ (f : FloorValue). counted_floor session f) is

pub settled_with : (floor after : FloorValue) (number : ℕ) (tag : TagValue) → floor.parts ≡ participations_of floor.tags → after ≡ floor_with floor number tag → after.parts ≡ participations_of after.tags
settled_with floor after number tag settled is =
    rw is
    (ap (λ (l : List (Option Participation)). set l number (participation_in tag.state)) settled ∙ sym (map-set (λ (t : TagValue). participation_in t.state) floor.tags number tag))
