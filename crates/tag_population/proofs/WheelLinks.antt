-- The links of tags that stand on places, where one is put on a place or taken from it.
use Rattle.std.proofs.Common.{◌≡◌, ◌≢◌, ℕ, zero, suc, ◌+◌, ◌-◌, ◌<◌, ◌≤◌, ◌==◌, ◌⊎◌, inl, inr, List, ◌∷◌, length, map, Option, Some, None, get_or, set, replicate, refl, sym, ap, ◌∙◌, arith, if◌then◌else◌}
use Rattle.std.proofs.lemmas.Bool.{cases_lt, eq-eqb, ne_eqb}
use Rattle.std.proofs.lemmas.Bool.Decides.{nat_tests}
use Rattle.std.proofs.lemmas.List.{get_or-set_same, get_or-set_other, get_or_past, get_or-map, get_or-replicate, length-map, map-set, length-replicate, length-set, set-get_or}
use Rattle.std.proofs.lemmas.Option.{same_Some}
use Rattle.std.proofs.lemmas.Grind.{get_or_default_zero}
use Rattle.air_events.specs.TagNumbers.{most_tags}
use Rattle.tag_population.specs.Wheel.{most_places, place_kept, place_of_link, wheel_place_of, AreLinked, IsTagOn, IsLinked}

-- functions of numbers, of which one has another value at a number
record Differs {X : Type 0} (at : ℕ) (value : X) (before after : ℕ → X) : Type 0 where
  here : after at ≡ value
  there : (other : ℕ) → other ≢ at → after other ≡ before other

-- what is known of a tag, of the places of its links, and of the place that it stands on or not
record Beside (number : ℕ) (stand after : Option ℕ) (P P' H H' : ℕ → Option ℕ) : Type 0 where
  stands : P number ≡ stand
  link : H (most_places + number) ≡ stand
  place : Differs number after P P'
  links : Differs (most_places + number) after H H'

set_differs : {X : Type 0} (list : List X) (at : ℕ) (value d : X) → at < length list → Differs at value (λ n. get_or list n d) (λ n. get_or (set list at value) n d)
set_differs list at value d within = record { here = get_or-set_same list at value d within; there = λ other apart. get_or-set_other list at other value d apart }

link_stays : (places : List (Option ℕ)) (number link : ℕ) (stand : Option ℕ) → link ≢ most_places + number → place_of_link (set places number stand) link ≡ place_of_link places link
link_stays places number link stand apart = grind (arith, nat_tests, get_or-set_other {A = Option ℕ})

link_behind : (places : List (Option ℕ)) (number : ℕ) → place_of_link places (most_places + number) ≡ wheel_place_of places number
link_behind places number = grind (arith, nat_tests)

link_first : (places : List (Option ℕ)) (place : ℕ) → place < most_places → place_of_link places place ≡ Some place
link_first places place below = grind (arith, nat_tests)

beside : (places : List (Option ℕ)) (number : ℕ) (stand after : Option ℕ) → number < length places → wheel_place_of places number ≡ stand
    → Beside number stand after (λ n. wheel_place_of places n) (λ n. wheel_place_of (set places number after) n) (λ n. place_of_link places n) (λ n. place_of_link (set places number after) n)
beside places number stand after within stands = record {
  stands = stands;
  link = link_behind places number ∙ stands;
  place = set_differs places number after None within;
  links = record { here = link_behind (set places number after) number ∙ get_or-set_same places number after None within; there = λ link apart. link_stays places number link after apart };
}

-- A tag is taken from its place: the link that leads to it leads to the next one.
module _ (count number place next back : ℕ) (P P' H H' : ℕ → Option ℕ) (L L' B B' : ℕ → ℕ) (linked : AreLinked count P H L B) (tag : Beside number (Some place) None P P' H H')
    (next_is : L (most_places + number) ≡ next) (back_is : B number ≡ back) (link : Differs back next L L') (backs : Differs next back B B') where
  taken_inside : (other on : ℕ) → P' other ≡ Some on → (other < count) × (on < most_places)
  taken_inside other on stands = grind arith

  taken_each : (other : ℕ) → L' other ≤ most_tags
  taken_each other = grind arith

  taken_onward : (other on : ℕ) → H' other ≡ Some on → L' other < count → (P' (L' other) ≡ Some on) × (B' (L' other) ≡ other)
  taken_onward other on of there = grind arith

  taken_back : (other on : ℕ) → P' other ≡ Some on → (H' (B' other) ≡ Some on) × (L' (B' other) ≡ other)
  taken_back other on stands = grind arith

  taken_earlier : (other last on : ℕ) → P' other ≡ Some on → B' other ≡ most_places + last → linked.came other < linked.came last
  taken_earlier other last on stands is = grind arith

  taken : AreLinked count P' H' L' B'
  taken = record { inside = taken_inside; each = taken_each; onward = taken_onward; back = taken_back; came = linked.came; now = linked.now; past = linked.past; earlier = taken_earlier }

-- A tag that stands nowhere is put on a place: the link to the first tag there leads to it, and its own where that led. It came last.
module _ (count number place first : ℕ) (P P' H H' : ℕ → Option ℕ) (L L1 L' B B1 B' came' : ℕ → ℕ) (linked : AreLinked count P H L B) (tag : Beside number None (Some place) P P' H H')
    (within : number < count) (few : count ≤ most_tags) (below : place < most_places) (place_is : H place ≡ Some place) (first_is : L place ≡ first)
    (own : Differs (most_places + number) first L L1) (link : Differs place number L1 L') (backs : Differs first (most_places + number) B B1) (own_back : Differs number place B1 B')
    (comes : Differs number linked.now linked.came came') where
  put_inside : (other on : ℕ) → P' other ≡ Some on → (other < count) × (on < most_places)
  put_inside other on stands = grind arith

  put_each : (other : ℕ) → L' other ≤ most_tags
  put_each other = grind arith

  put_onward : (other on : ℕ) → H' other ≡ Some on → L' other < count → (P' (L' other) ≡ Some on) × (B' (L' other) ≡ other)
  put_onward other on of there = grind arith

  put_back : (other on : ℕ) → P' other ≡ Some on → (H' (B' other) ≡ Some on) × (L' (B' other) ≡ other)
  put_back other on stands = grind arith

  put_past : (other : ℕ) → came' other < linked.now + 1
  put_past other = grind arith

  put_earlier : (other last on : ℕ) → P' other ≡ Some on → B' other ≡ most_places + last → came' other < came' last
  put_earlier other last on stands is = grind arith

  put : AreLinked count P' H' L' B'
  put = record { inside = put_inside; each = put_each; onward = put_onward; back = put_back; came = came'; now = linked.now + 1; past = put_past; earlier = put_earlier }

link_room : (places : List (Option ℕ)) (link place : ℕ) → place_of_link places link ≡ Some place → link < most_places + length places
link_room places link place is = grind (arith, get_or_past {X = Option ℕ}, nat_tests)

-- a link of a place is the link to its first tag, or stands behind one of its tags
link_from : (places : List (Option ℕ)) (link place : ℕ) → place_of_link places link ≡ Some place
    → (link ≡ place) ⊎ ((number : ℕ) × (link ≡ most_places + number) × (wheel_place_of places number ≡ Some place))
link_from places link place is =
    elim (cases_lt link most_places) [
      | inl less ↦ inl (same_Some link place (sym (link_first places link less) ∙ is))
      | inr more ↦
          let own : most_places + (link - most_places) ≡ link = omega (arith, more) in
          inr (link - most_places, sym own, sym (link_behind places (link - most_places)) ∙ ap (λ n. place_of_link places n) own ∙ is)
    ]

-- where the link of a place leads to no tag, no tag stands there, since each stands behind one that came later
none_before : (places : List (Option ℕ)) (links backs : List ℕ) (linked : IsLinked places links backs) (place fuel number : ℕ) → length places ≤ get_or links place 0
    → linked.are.now ≤ linked.are.came number + fuel → wheel_place_of places number ≢ Some place
none_before places links backs linked place zero number past late = λ is. omega (arith, late, linked.are.past number)
none_before places links backs linked place (suc fuel) number past late = λ is.
    let back = linked.are.back number place is in
    elim (link_from places (get_or backs number 0) place back.0) [
      | inl first ↦
          let leads : get_or links place 0 ≡ number = ap (λ n. get_or links n 0) (sym first) ∙ back.1 in
          omega (arith, leads, past, (linked.are.inside number place is).0)
      | inr other ↦
          let later : linked.are.came number < linked.are.came other.0 = linked.are.earlier number other.0 place is other.1 in
          none_before places links backs linked place fuel other.0 past (omega (arith, later, late)) other.2
    ]

first_is : (places : List (Option ℕ)) (links backs : List ℕ) (place first : ℕ) → IsLinked places links backs → place < most_places → first ≡ get_or links place first → get_or links place 0 ≡ first
first_is places links backs place first linked below is = sym (is ∙ get_or_default_zero links place first (omega (arith, linked.size, below)))

pub tag_on : (places : List (Option ℕ)) (links backs : List ℕ) (place first : ℕ) → IsLinked places links backs → place < most_places → first ≡ get_or links place first
    → first < length places → IsTagOn places place (Some first)
tag_on places links backs place first linked below is within =
    let onward = rw (first_is places links backs place first linked below is) at (linked.are.onward place place (link_first places place below)) in (onward within).0

pub no_tag_on : (places : List (Option ℕ)) (links backs : List ℕ) (place first : ℕ) → IsLinked places links backs → place < most_places → first ≡ get_or links place first
    → length places ≤ first → IsTagOn places place None
no_tag_on places links backs place first linked below is past = λ number.
    none_before places links backs linked place linked.are.now number (rw (first_is places links backs place first linked below is) past) (omega arith)

-- no tag stands on a place, and links lead to none
stands_nowhere : (count number place : ℕ) → wheel_place_of (replicate count None) number ≢ Some place
stands_nowhere zero number place is = cc
stands_nowhere (suc count) zero place is = cc
stands_nowhere (suc count) (suc number) place is = stands_nowhere count number place is

leads_nowhere : (size link : ℕ) → get_or (replicate size most_tags) link 0 ≤ most_tags
leads_nowhere zero link = omega arith
leads_nowhere (suc size) zero = omega arith
leads_nowhere (suc size) (suc link) = leads_nowhere size link

pub new_linked : (count size : ℕ) (places : List (Option ℕ)) (links backs : List ℕ) → count ≤ most_tags → places ≡ replicate count None → size ≡ most_places + most_tags → links ≡ replicate size most_tags
    → length backs ≡ most_tags + 1 → IsLinked places links backs
new_linked count size places links backs few none known lead room =
    let long : length (replicate {A = Option ℕ} count None) ≡ count = length-replicate {A = Option ℕ} count None in
    rw (none, lead) (record {
      few = rw long few;
      size = length-replicate {A = ℕ} size most_tags ∙ known;
      backs_size = room;
      are = record {
        inside = λ number place stands. absurd (stands_nowhere count number place stands);
        each = λ link. leads_nowhere size link;
        onward = λ link place of within.
            elim (link_from (replicate count None) link place of) [
              | inl first ↦ absurd (omega (arith, get_or-replicate {A = ℕ} size link most_tags 0, link_room (replicate count None) link place of, long, known, within, few))
              | inr behind ↦ absurd (stands_nowhere count behind.0 place behind.2)
            ];
        back = λ number place stands. absurd (stands_nowhere count number place stands);
        came = λ number. 0;
        now = 1;
        past = λ number. omega arith;
        earlier = λ number other place stands is. absurd (stands_nowhere count number place stands);
      };
    })

-- what the calls of a wheel go by

-- no place is kept for any tag
pub nowhere_kept : (count : ℕ) → map place_kept (replicate count most_places) ≡ replicate count None
nowhere_kept zero = refl
nowhere_kept (suc count) = ap (λ (l : List (Option ℕ)). None ∷ l) (nowhere_kept count)

-- a place that is kept as a number
pub kept_some : (place : ℕ) → place ≢ most_places → place_kept place ≡ Some place
kept_some place apart = rw (ne_eqb place most_places apart) refl

pub kept_within : (kept : List ℕ) (now : List (Option ℕ)) (number at : ℕ) → map place_kept kept ≡ now → at ≡ number → number < length now → at < length kept
kept_within kept now number at same here within = rw (← length-map kept place_kept, same, here) within

-- ... and is read
pub kept_at : (kept : List ℕ) (at place : ℕ) → at < length kept → place ≡ get_or kept at place → wheel_place_of (map place_kept kept) at ≡ place_kept place
kept_at kept at place within is = get_or-map place_kept kept at place None within ∙ ap (λ n. place_kept n) (sym is)

-- ... and is replaced
pub kept_set : (kept : List ℕ) (now : List (Option ℕ)) (number at place : ℕ) (stand : Option ℕ) → map place_kept kept ≡ now → at ≡ number → place_kept place ≡ stand
    → map place_kept (set kept at place) ≡ set now number stand
kept_set kept now number at place stand same here is = map-set place_kept kept at place ∙ rw (same, here, is) refl

-- what is read where a tag that stands on a place is taken from it
pub record TakenRead : Type 0 where
  pub kept : List ℕ
  pub links : List ℕ
  pub backs : List ℕ
  pub linked : IsLinked (map place_kept kept) links backs
  pub number : ℕ
  pub place : ℕ
  pub next : ℕ
  pub back : ℕ
  pub within : number < length kept
  pub place_is : place ≡ get_or kept number place
  pub apart : place ≢ most_places
  pub next_is : next ≡ get_or links (most_places + number) next
  pub back_is : back ≡ get_or backs number back

stood : (r : TakenRead) → wheel_place_of (map place_kept r.kept) r.number ≡ Some r.place
stood r = kept_at r.kept r.number r.place r.within r.place_is ∙ kept_some r.place r.apart

led_back : (r : TakenRead) → get_or r.backs r.number 0 ≡ r.back
led_back r = sym (r.back_is ∙ get_or_default_zero r.backs r.number r.back (omega (arith, r.linked.backs_size, r.linked.few, length-map r.kept place_kept, r.within)))

pub take_back_inside : (r : TakenRead) → r.back < length r.links
take_back_inside r =
    omega (arith, link_room (map place_kept r.kept) (get_or r.backs r.number 0) r.place (r.linked.are.back r.number r.place (stood r)).0, led_back r, r.linked.size, r.linked.few)

pub take_linked : (r : TakenRead) → IsLinked (map place_kept (set r.kept r.number most_places)) (set r.links r.back r.next) (set r.backs r.next r.back)
take_linked r =
    let places : List (Option ℕ) = map place_kept r.kept in
    let long : length (set places r.number None) ≡ length places = length-set places r.number None in
    let within : r.number < length places = rw (length-map r.kept place_kept) r.within in
    let next_is : get_or r.links (most_places + r.number) 0 ≡ r.next =
    sym (r.next_is ∙ get_or_default_zero r.links (most_places + r.number) r.next (omega (arith, r.linked.size, r.linked.few, within))) in
    let fits : r.next < length r.backs = omega (arith, r.linked.are.each (most_places + r.number), next_is, r.linked.backs_size) in
    rw (kept_set r.kept places r.number r.number most_places None refl refl refl) (record {
      few = rw long r.linked.few;
      size = length-set r.links r.back r.next ∙ r.linked.size;
      backs_size = length-set r.backs r.next r.back ∙ r.linked.backs_size;
      are =
          rw long
          (taken (length places) r.number r.place r.next r.back _ _ _ _ _ _ _ _ r.linked.are (beside places r.number (Some r.place) None within (stood r)) next_is (led_back r)
          (set_differs r.links r.back r.next 0 (take_back_inside r)) (set_differs r.backs r.next r.back 0 fits));
    })

-- ... or it stands nowhere
pub take_nowhere : (places : List (Option ℕ)) (number : ℕ) → wheel_place_of places number ≡ None → places ≡ set places number None
take_nowhere places number nowhere = sym (ap (λ (s : Option ℕ). set places number s) (sym nowhere) ∙ set-get_or places number None)

-- a tag that stands nowhere is put on a place, whose first tag is read
pub put_on : (kept links backs : List ℕ) (number place first : ℕ) → IsLinked (map place_kept kept) links backs → number < length kept → wheel_place_of (map place_kept kept) number ≡ None
    → place < most_places → first ≡ get_or links place first
    → IsLinked (map place_kept (set kept number place)) (set (set links (most_places + number) first) place number) (set (set backs first (most_places + number)) number place)
put_on kept links backs number place first linked here nowhere below read =
    let places : List (Option ℕ) = map place_kept kept in
    let long : length (set places number (Some place)) ≡ length places = length-set places number (Some place) in
    let within : number < length places = rw (length-map kept place_kept) here in
    let is = first_is places links backs place first linked below read in
    let small : first ≤ most_tags = omega (arith, linked.are.each place, is) in
    let links1 : List ℕ = set links (most_places + number) first in
    let backs1 : List ℕ = set backs first (most_places + number) in
    let sized : length links1 ≡ most_places + most_tags = length-set links (most_places + number) first ∙ linked.size in
    let backs_sized : length backs1 ≡ most_tags + 1 = length-set backs first (most_places + number) ∙ linked.backs_size in
    rw (kept_set kept places number number place (Some place) refl refl (kept_some place (λ same. omega (arith, same, below)))) (record {
      few = rw long linked.few;
      size = length-set links1 place number ∙ sized;
      backs_size = length-set backs1 number place ∙ backs_sized;
      are =
          rw long
          (put (length places) number place first _ _ _ _ _ _ _ _ _ _ (λ tag. if tag == number then linked.are.now else linked.are.came tag) linked.are
          (beside places number None (Some place) within nowhere) within linked.few below (link_first places place below) is
          (set_differs links (most_places + number) first 0 (omega (arith, linked.size, linked.few, within))) (set_differs links1 place number 0 (omega (arith, sized, below)))
          (set_differs backs first (most_places + number) 0 (omega (arith, linked.backs_size, small))) (set_differs backs1 number place 0 (omega (arith, backs_sized, linked.few, within)))
          (record { here = rw (eq-eqb number number refl) refl; there = λ other apart. rw (ne_eqb other number apart) refl }));
    })
