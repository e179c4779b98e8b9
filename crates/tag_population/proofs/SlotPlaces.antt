-- Places and slot counters, and the set of called tags.
use Rattle.std.proofs.Common.{◌≡◌, ◌≢◌, ℕ, zero, suc, ◌+◌, ◌/◌, ◌%◌, ◌<◌, ◌≤◌, ◌==◌, inl, inr, Bool, true, false, ◌↔◌, is_some, List, [], ◌∷◌, length, map, Option, Some, None, get_or, set, replicate, refl, sym, ap, ◌∙◌, subst, arith}
use Rattle.std.proofs.lemmas.Bool.Decides.{eqb_tells, nat_tests}
use Rattle.std.proofs.lemmas.Bool.{cases_lt, ne_eqb}
use Rattle.std.proofs.lemmas.List.{ext_get_or, get_or-replicate, get_or-set_same, get_or-set_other, get_or_past, length-replicate, length-set, set-set}
use Rattle.std.proofs.lemmas.Option.{same_Some}
use Rattle.air_events.specs.TagNumbers.{most_tags}
use Rattle.tag_body.specs.RoundNumbers.{slot_below}
use Rattle.tag_population.specs.declared.participation.Participation.{Participation}
use Rattle.tag_population.specs.declared.participation.Participation.TheVariants.{Waits, Called}
use Rattle.tag_population.specs.TagSets.{bit_in_set, HasNone, IsIn, IsNextIn}
use Rattle.tag_population.specs.Wheel.{wheel_place_of, IsTagOn}
use Rattle.tag_population.specs.Participation.{participation_at, IsLegalParticipation, IsNextCalled, IsDue, counted_down, slot_place, slot_behind, waiting_slot, waits_in, participation_on, participations_from, participations_on, AreBases, AreCalled, AreSlots}

-- the participations of the tags on places
pub length_from : (number : ℕ) (bases called : List ℕ) (places : List (Option ℕ)) → length (participations_from number bases called places) ≡ length places
length_from number bases called [] = refl
length_from number bases called (place ∷ places) = ap (λ n. suc n) (length_from (number + 1) bases called places)

at_from : (number : ℕ) (bases called : List ℕ) (places : List (Option ℕ)) (at : ℕ) → at < length places
    → participation_at (participations_from number bases called places) at ≡ participation_on bases (bit_in_set called (number + at)) (wheel_place_of places at)
at_from number bases called [] at within = absurd (omega (arith, within))
at_from number bases called (place ∷ places) zero within = let same : number + zero ≡ number = omega arith in rw same refl
at_from number bases called (place ∷ places) (suc at) within =
    let same : number + suc at ≡ number + 1 + at = omega arith in rw same (at_from (number + 1) bases called places at (omega (arith, within)))

at_place : (bases called : List ℕ) (places : List (Option ℕ)) (at : ℕ) → at < length places
    → participation_at (participations_on bases called places) at ≡ participation_on bases (bit_in_set called at) (wheel_place_of places at)
at_place bases called places at within =
    at_from 0 bases called places at within ∙ (let same : 0 + at ≡ at = omega arith in ap (λ n. participation_on bases (bit_in_set called n) (wheel_place_of places at)) same)

not_in : (called : List ℕ) (places : List (Option ℕ)) (number : ℕ) → AreCalled called places → length places ≤ number → (bit_in_set called number == 1) ≡ false
not_in called places number are past = ne_eqb (bit_in_set called number) 1 (λ one. omega (arith, past, are.within number one))

-- how a tag takes part, by its place and its bit
pub participation_of_place : (bases called : List ℕ) (places : List (Option ℕ)) (number : ℕ) → AreCalled called places
    → participation_at (participations_on bases called places) number ≡ participation_on bases (bit_in_set called number) (wheel_place_of places number)
participation_of_place bases called places number are =
    elim (cases_lt number (length places)) [
      | inl within ↦ at_place bases called places number within
      | inr past ↦
          rw (get_or_past (participations_on bases called places) number None (rw (length_from 0 bases called places) past), get_or_past places number None past, not_in called places number are past) refl
    ]

-- ... by the place that is read
pub part_is : (bases called : List ℕ) (places : List (Option ℕ)) (parts : List (Option Participation)) (number : ℕ) (stand : Option ℕ) → AreCalled called places → participations_on bases called places ≡ parts
    → stand ≡ wheel_place_of places number → participation_at parts number ≡ participation_on bases (bit_in_set called number) stand
part_is bases called places parts number stand are same is =
    ap (λ (l : List (Option Participation)). participation_at l number) (sym same) ∙ participation_of_place bases called places number are
    ∙ ap (λ (s : Option ℕ). participation_on bases (bit_in_set called number) s) (sym is)

pub place_within : (bases called : List ℕ) (places : List (Option ℕ)) (parts : List (Option Participation)) (number : ℕ) → participations_on bases called places ≡ parts → number < length parts → number < length places
place_within bases called places parts number same within = rw (← length_from 0 bases called places, same) within

-- what is known of a tag by its place, and of one on no place
pub no_slot : (bases : List ℕ) (bit : ℕ) → waiting_slot (participation_on bases bit None) ≡ None
no_slot bases bit = grind (arith, nat_tests)

pub waits_nowhere : (bases : List ℕ) (bit session : ℕ) → waits_in session (participation_on bases bit None) ≡ false
waits_nowhere bases bit session = grind (arith, nat_tests)

pub takes_part_there : (bases : List ℕ) (bit : ℕ) (stand : Option ℕ) → is_some stand ≡ true → is_some (participation_on bases bit stand) ≡ true
takes_part_there bases bit stand some = grind arith

pub takes_part_called : (bases : List ℕ) (bit : ℕ) (stand : Option ℕ) (found : Bool) → is_some stand ≡ false → (found ≡ true) ↔ (bit ≡ 1) → found ≡ is_some (participation_on bases bit stand)
takes_part_called bases bit stand found none there = grind (arith, nat_tests)

same_parts : (parts : List (Option Participation)) (bases called : List ℕ) (places : List (Option ℕ)) → length places ≡ length parts
    → ((number : ℕ) → number < length places → participation_on bases (bit_in_set called number) (wheel_place_of places number) ≡ participation_at parts number) → participations_on bases called places ≡ parts
same_parts parts bases called places count each =
    ext_get_or None (participations_on bases called places) parts (length_from 0 bases called places ∙ count)
    (λ number below.
    let within : number < length places = rw (← length_from 0 bases called places) below in
    at_place bases called places number within ∙ each number within)

-- A tag is put on another place, or on none, and its bit in the set is another.
pub record Putting (bases called : List ℕ) (places : List (Option ℕ)) (parts : List (Option Participation)) : Type 0 where
  pub are : AreCalled called places
  pub same : participations_on bases called places ≡ parts
  pub number : ℕ
  pub within : number < length parts
  pub stand : Option ℕ
  pub after : List ℕ
  pub others : (other : ℕ) → other ≢ number → bit_in_set after other ≡ bit_in_set called other
  pub lone : IsIn after number → stand ≡ None

inside : (bases called : List ℕ) (places : List (Option ℕ)) (parts : List (Option Participation)) → Putting bases called places parts → length places ≡ length parts
inside bases called places parts p = sym (length_from 0 bases called places) ∙ ap (λ (l : List (Option Participation)). length l) p.same

pub put_called : (bases called : List ℕ) (places : List (Option ℕ)) (parts : List (Option Participation)) (p : Putting bases called places parts) → AreCalled p.after (set places p.number p.stand)
put_called bases called places parts p =
    let room : p.number < length places = rw (inside bases called places parts p) p.within in
    record {
      few = rw (length-set places p.number p.stand) p.are.few;
      within = λ number one.
          rw (length-set places p.number p.stand)
          elim (eqb_tells number p.number) [
            | inl same ↦ rw same.1 room
            | inr apart ↦ p.are.within number (sym (p.others number apart.1) ∙ one)
          ];
      nowhere = λ number one.
          elim (eqb_tells number p.number) [
            | inl same ↦ rw same.1 (get_or-set_same places p.number p.stand None room ∙ p.lone (subst (λ n. IsIn p.after n) same.1 one))
            | inr apart ↦ get_or-set_other places p.number number p.stand None apart.1 ∙ p.are.nowhere number (sym (p.others number apart.1) ∙ one)
          ];
    }

pub put_so : (bases called : List ℕ) (places : List (Option ℕ)) (parts : List (Option Participation)) (p : Putting bases called places parts) (part : Option Participation)
    → participation_on bases (bit_in_set p.after p.number) p.stand ≡ part → participations_on bases p.after (set places p.number p.stand) ≡ set parts p.number part
put_so bases called places parts p part is =
    let count = inside bases called places parts p in
    same_parts (set parts p.number part) bases p.after (set places p.number p.stand) (length-set places p.number p.stand ∙ count ∙ sym (length-set parts p.number part))
    (λ number below.
    elim (eqb_tells number p.number) [
      | inl same ↦ rw (same.1, get_or-set_same places p.number p.stand None (rw count p.within), get_or-set_same parts p.number part None p.within) is
      | inr apart ↦
          rw (get_or-set_other places p.number number p.stand None apart.1, get_or-set_other parts p.number number part None apart.1, p.others number apart.1, ← p.same)
          (sym (participation_of_place bases called places number p.are))
    ])

-- a tag that stands on a place isn't called: it takes no part where it is taken from there
pub taken_part : (bases called : List ℕ) (places : List (Option ℕ)) (number : ℕ) → AreCalled called places → is_some (wheel_place_of places number) ≡ true
    → participation_on bases (bit_in_set called number) None ≡ None
taken_part bases called places number are stood =
    rw (ne_eqb (bit_in_set called number) 1 (λ one. (let none = rw (are.nowhere number one) at stood in cc))) refl

-- one that takes no part stands nowhere, and isn't called
no_part : (bases : List ℕ) (bit : ℕ) (stand : Option ℕ) → participation_on bases bit stand ≡ None → (stand ≡ None) × (bit ≢ 1)
no_part bases bit stand is = grind (arith, nat_tests)

-- numbers of sessions, slots and places
session_of_place : (base session slot : ℕ) → slot_place base session slot / 32768 ≡ session
session_of_place base session slot = omega arith

slot_of_place : (base session slot : ℕ) → base < 32768 → slot < 32768 → slot_behind base (slot_place base session slot) ≡ slot
slot_of_place base session slot below range = omega arith

-- a tag that is put on the place of its slot waits for it
pub waits_there : (bases : List ℕ) (base bit session slot : ℕ) → AreBases bases → base ≡ get_or bases session 0 → slot < 32768
    → participation_on bases bit (Some (slot_place base session slot)) ≡ Some (Waits session slot)
waits_there bases base bit session slot are is range =
    let own = session_of_place base session slot in
    let counter : slot_behind (get_or bases (slot_place base session slot / 32768) 0) (slot_place base session slot) ≡ slot =
    ap (λ n. slot_behind (get_or bases n 0) (slot_place base session slot)) own
    ∙ ap (λ n. slot_behind n (slot_place base session slot)) (sym is)
    ∙ slot_of_place base session slot (rw is (are.each session)) range in
    rw (counter, own) refl

-- A tag that took no part is put on the place of its slot.
pub record Placing (bases called : List ℕ) (places : List (Option ℕ)) (now : List (Option Participation)) : Type 0 where
  pub based : AreBases bases
  pub are : AreCalled called places
  pub released : List (Option Participation)
  pub same : participations_on bases called places ≡ released
  pub number : ℕ
  pub within : number < length now
  pub none : released ≡ set now number None
  pub part : Option Participation
  pub session : ℕ
  pub slot : ℕ
  pub place : ℕ
  pub is : part ≡ Some (Waits session slot)
  pub legal : IsLegalParticipation part
  pub there : place ≡ slot_place (get_or bases session 0) session slot

pub placing_within : (bases called : List ℕ) (places : List (Option ℕ)) (now : List (Option Participation)) (p : Placing bases called places now) → p.number < length places
placing_within bases called places now p = place_within bases called places p.released p.number p.same (rw (p.none, length-set now p.number None) p.within)

placing_none : (bases called : List ℕ) (places : List (Option ℕ)) (now : List (Option Participation)) (p : Placing bases called places now)
    → participation_on bases (bit_in_set called p.number) (wheel_place_of places p.number) ≡ None
placing_none bases called places now p =
    sym (part_is bases called places p.released p.number (wheel_place_of places p.number) p.are p.same refl)
    ∙ ap (λ (l : List (Option Participation)). participation_at l p.number) p.none ∙ get_or-set_same now p.number None None p.within

pub placing_nowhere : (bases called : List ℕ) (places : List (Option ℕ)) (now : List (Option Participation)) (p : Placing bases called places now) → wheel_place_of places p.number ≡ None
placing_nowhere bases called places now p = (no_part bases (bit_in_set called p.number) (wheel_place_of places p.number) (placing_none bases called places now p)).0

abbrev put_there : (bases called : List ℕ) (places : List (Option ℕ)) (now : List (Option Participation)) (p : Placing bases called places now) → Putting bases called places p.released
put_there bases called places now p = record {
  are = p.are;
  same = p.same;
  number = p.number;
  within = rw (p.none, length-set now p.number None) p.within;
  stand = Some p.place;
  after = called;
  others = λ other apart. refl;
  lone = λ one. absurd ((no_part bases (bit_in_set called p.number) (wheel_place_of places p.number) (placing_none bases called places now p)).1 one);
}

pub placing_called : (bases called : List ℕ) (places : List (Option ℕ)) (now : List (Option Participation)) (p : Placing bases called places now) → AreCalled called (set places p.number (Some p.place))
placing_called bases called places now p = put_called bases called places p.released (put_there bases called places now p)

legal_slot : (part : Option Participation) (session slot : ℕ) → part ≡ Some (Waits session slot) → IsLegalParticipation part → slot < 32768
legal_slot part session slot is legal = (subst (λ (p : Option Participation). IsLegalParticipation p) is legal).1

pub placing_so : (bases called : List ℕ) (places : List (Option ℕ)) (now : List (Option Participation)) (p : Placing bases called places now)
    → participations_on bases called (set places p.number (Some p.place)) ≡ set now p.number p.part
placing_so bases called places now p =
    let waits : participation_on bases (bit_in_set called p.number) (Some p.place) ≡ p.part =
    ap (λ (n : ℕ). participation_on bases (bit_in_set called p.number) (Some n)) p.there
    ∙ waits_there bases (get_or bases p.session 0) (bit_in_set called p.number) p.session p.slot p.based refl (legal_slot p.part p.session p.slot p.is p.legal) ∙ sym p.is in
    put_so bases called places p.released (put_there bases called places now p) p.part waits
    ∙ ap (λ (l : List (Option Participation)). set l p.number p.part) p.none ∙ set-set now p.number None p.part

-- the counter falls by 1 where the base rises by 1
counter_falls : (base place : ℕ) → base < 32768 → slot_behind ((base + 1) % 32768) place ≡ slot_below (slot_behind base place)
counter_falls base place below =
    elim (eqb_tells (slot_behind base place) 0) [
      | inl w ↦ rw w.0 (omega (arith, w.1))
      | inr w ↦ rw w.0 (omega (arith, w.1))
    ]

none_counted : (bases : List ℕ) (session bit : ℕ) → participation_on bases bit None ≡ counted_down session (participation_on bases bit None)
none_counted bases session bit = grind (arith, nat_tests)

counted_on : (bases : List ℕ) (session bit : ℕ) (stand : Option ℕ) → AreBases bases → session < length bases
    → participation_on (set bases session ((get_or bases session 0 + 1) % 32768)) bit stand ≡ counted_down session (participation_on bases bit stand)
counted_on bases session bit None are within = none_counted bases session bit
counted_on bases session bit (Some place) are within =
    let raised : ℕ = (get_or bases session 0 + 1) % 32768 in
    elim (eqb_tells (place / 32768) session) [
      | inl own ↦
          let base : get_or (set bases session raised) (place / 32768) 0 ≡ raised = ap (λ n. get_or (set bases session raised) n 0) own.1 ∙ get_or-set_same bases session raised 0 within in
          let base_was : get_or bases (place / 32768) 0 ≡ get_or bases session 0 = ap (λ n. get_or bases n 0) own.1 in
          rw (base, base_was, own.0, counter_falls (get_or bases session 0) place (are.each session)) refl
      | inr other ↦
          let base : get_or (set bases session raised) (place / 32768) 0 ≡ get_or bases (place / 32768) 0 = get_or-set_other bases session (place / 32768) raised 0 other.1 in
          rw (base, other.0) refl
    ]

counted_from : (number : ℕ) (bases called : List ℕ) (session : ℕ) (places : List (Option ℕ)) → AreBases bases → session < length bases
    → participations_from number (set bases session ((get_or bases session 0 + 1) % 32768)) called places ≡ map (counted_down session) (participations_from number bases called places)
counted_from number bases called session [] are within = refl
counted_from number bases called session (place ∷ places) are within =
    rw (counted_on bases session (bit_in_set called number) place are within, counted_from (number + 1) bases called session places are within) refl

pub counted_all : (bases called : List ℕ) (places : List (Option ℕ)) (session at raised : ℕ) → AreBases bases → at ≡ session → session ≤ 3
    → raised ≡ (get_or bases at 0 + 1) % 32768 → participations_on (set bases at raised) called places ≡ map (counted_down session) (participations_on bases called places)
counted_all bases called places session at raised are here few is =
    rw (is, here) (counted_from 0 bases called session places are (omega (arith, are.count, few)))

-- a tag waits with a counter exactly where it stands on the place of it
pub same_waits : (own slot session counter : ℕ) → Some (Waits own slot) ≡ Some (Waits session counter) → (own ≡ session) × (slot ≡ counter)
same_waits own slot session counter same = (cc, cc)

none_waits : (bases : List ℕ) (bit session slot : ℕ) → participation_on bases bit None ≢ Some (Waits session slot)
none_waits bases bit session slot is = grind (arith, nat_tests)

place_of_slot : (bases : List ℕ) (bit session slot : ℕ) (stand : Option ℕ) → AreBases bases → participation_on bases bit stand ≡ Some (Waits session slot)
    → stand ≡ Some (slot_place (get_or bases session 0) session slot)
place_of_slot bases bit session slot None are is = absurd (none_waits bases bit session slot is)
place_of_slot bases bit session slot (Some place) are is =
    let same = same_waits (place / 32768) (slot_behind (get_or bases (place / 32768) 0) place) session slot is in
    let counter : slot_behind (get_or bases session 0) place ≡ slot = sym (ap (λ n. slot_behind (get_or bases n 0) place) same.0) ∙ same.1 in
    ap (λ n. Some n) (omega (arith, same.0, counter, are.each session))

pub due_there : (bases called : List ℕ) (places : List (Option ℕ)) (session place : ℕ) (found : Option ℕ) → AreBases bases → AreCalled called places
    → place ≡ slot_place (get_or bases session 0) session 1 → IsTagOn places place found → IsDue (participations_on bases called places) session found
due_there bases called places session place None are set there none = λ number waits.
    none number (place_of_slot bases (bit_in_set called number) session 1 (wheel_place_of places number) are (sym (participation_of_place bases called places number set) ∙ waits) ∙ ap (λ n. Some n) (sym there))
due_there bases called places session place (Some due) are set there next =
    participation_of_place bases called places due set ∙ ap (λ p. participation_on bases (bit_in_set called due) p) (next ∙ ap (λ n. Some n) there)
    ∙ waits_there bases (get_or bases session 0) (bit_in_set called due) session 1 are refl (omega arith)

-- the called tags
called_on : (bases : List ℕ) (bit : ℕ) (stand : Option ℕ) → participation_on bases bit stand ≡ Some Called → bit ≡ 1
called_on bases bit stand is = grind (arith, nat_tests)

-- a tag that isn't in the set isn't called
not_called : (bases called : List ℕ) (places : List (Option ℕ)) (number : ℕ) → AreCalled called places → bit_in_set called number ≡ 0 → participation_at (participations_on bases called places) number ≢ Some Called
not_called bases called places number are out = λ is.
    let one : bit_in_set called number ≡ 1 = called_on bases (bit_in_set called number) (wheel_place_of places number) (sym (participation_of_place bases called places number are) ∙ is) in
    omega (arith, out, one)

pub next_called : (bases called : List ℕ) (places : List (Option ℕ)) (from : ℕ) (found : Option ℕ) → AreCalled called places → IsNextIn called from found
    → IsNextCalled (participations_on bases called places) from found
next_called bases called places from None are none = λ number least is.
    let one : bit_in_set called number ≡ 1 = called_on bases (bit_in_set called number) (wheel_place_of places number) (sym (participation_of_place bases called places number are) ∙ is) in
    let out : bit_in_set called number ≡ 0 = none number least (omega (arith, are.few, are.within number one)) in
    omega (arith, out, one)
next_called bases called places from (Some next) are is = (
  is.0,
  participation_of_place bases called places next are ∙ rw (is.2, are.nowhere next is.2) refl,
  λ number least most. not_called bases called places number are (is.3 number least most),
)

-- where no tag stands on a place, and none is called, none takes part
pub none_called : (count : ℕ) (called : List ℕ) → count ≤ most_tags → HasNone called → AreCalled called (replicate count None)
none_called count called few none = record {
  few = rw (length-replicate {A = Option ℕ} count None) few;
  within = λ number one. absurd (omega (arith, none number, one));
  nowhere = λ number one. absurd (omega (arith, none number, one));
}

pub none_takes_part : (count : ℕ) (bases called : List ℕ) → HasNone called → participations_on bases called (replicate count None) ≡ replicate count None
none_takes_part count bases called none =
    same_parts (replicate count None) bases called (replicate count None) (length-replicate {A = Option ℕ} count None ∙ sym (length-replicate {A = Option Participation} count None))
    (λ number below.
    let within : number < count = rw (← length-replicate {A = Option ℕ} count None) below in
    rw (get_or-replicate {A = Option ℕ} count number None None within, get_or-replicate {A = Option Participation} count number None None within, none number) refl)

-- each slot counter has 15 bits
slot_on : (bases : List ℕ) (bit : ℕ) (stand : Option ℕ) (slot : ℕ) → waiting_slot (participation_on bases bit stand) ≡ Some slot → slot < 32768
slot_on bases bit None slot is = absurd (let none : None ≡ Some slot = sym (no_slot bases bit) ∙ is in cc)
slot_on bases bit (Some place) slot is =
    let same : slot_behind (get_or bases (place / 32768) 0) place ≡ slot = same_Some (slot_behind (get_or bases (place / 32768) 0) place) slot is in
    omega (arith, same)

pub are_slots : (bases called : List ℕ) (places : List (Option ℕ)) (now : List (Option Participation)) → participations_on bases called places ≡ now → AreSlots now
are_slots bases called places now same = λ number slot is.
    let part : waiting_slot (participation_at (participations_on bases called places) number) ≡ Some slot = ap (λ (l : List (Option Participation)). waiting_slot (participation_at l number)) same ∙ is in
    elim (cases_lt number (length places)) [
      | inl within ↦
          slot_on bases (bit_in_set called number) (wheel_place_of places number) slot
          (sym (ap (λ (p : Option Participation). waiting_slot p) (at_place bases called places number within)) ∙ part)
      | inr past ↦
          let none : None ≡ Some slot =
          sym (ap (λ (p : Option Participation). waiting_slot p) (get_or_past (participations_on bases called places) number None (rw (length_from 0 bases called places) past))) ∙ part in
          absurd (cc)
    ]
