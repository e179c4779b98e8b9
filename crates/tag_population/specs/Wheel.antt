-- Tags that stand on places: for each tag, by its number, the place where it stands, or none. The tags of one place are
-- linked in both directions, the one that came last first.
use Rattle.std.proofs.Common.{◌≡◌, ◌≢◌, ℕ, ◌+◌, ◌-◌, ◌<◌, ◌≤◌, ◌==◌, nat_lt, List, length, Option, Some, None, get_or, if◌then◌else◌}
use Rattle.air_events.specs.TagNumbers.{most_tags}

-- how many places tags can stand on: one for each of the 32,768 values of a slot counter in each of the four sessions
abbrev pub most_places : ℕ
most_places = 131072

-- the place that is kept as a number; the number behind the last place is kept for none
abbrev pub place_kept : ℕ → Option ℕ
place_kept number = if number == most_places then None else Some number

-- the place where a tag stands; none where there is no such tag
abbrev pub wheel_place_of : List (Option ℕ) → ℕ → Option ℕ
wheel_place_of places number = get_or places number None

-- a tag on a place, or none where no tag stands there
abbrev pub IsTagOn : List (Option ℕ) → ℕ → Option ℕ → Type 0
IsTagOn places place None = (number : ℕ) → wheel_place_of places number ≢ Some place
IsTagOn places place (Some number) = wheel_place_of places number ≡ Some place

-- the place of a link, if it has one: the link to the first tag of a place stands at the number of the place, and the link behind
-- a tag after those of all places
abbrev pub place_of_link : List (Option ℕ) → ℕ → Option ℕ
place_of_link places link = if nat_lt link most_places then Some link else wheel_place_of places (link - most_places)

-- so many tags on these places, which have links of these places, where each leads, and for each tag which link leads back from
-- it. A link leads to a tag of its place, or to none, and a tag that is linked behind another came before it.
pub record AreLinked (count : ℕ) (place_of link_of : ℕ → Option ℕ) (leads leads_back : ℕ → ℕ) : Type 0 where
  pub inside : (number place : ℕ) → place_of number ≡ Some place → (number < count) × (place < most_places)
  pub each : (link : ℕ) → leads link ≤ most_tags
  pub onward : (link place : ℕ) → link_of link ≡ Some place → leads link < count → (place_of (leads link) ≡ Some place) × (leads_back (leads link) ≡ link)
  pub back : (number place : ℕ) → place_of number ≡ Some place → (link_of (leads_back number) ≡ Some place) × (leads (leads_back number) ≡ number)
  -- when each tag came to its place, and a time after all of these: so links go round in no circle
  pub came : ℕ → ℕ
  pub now : ℕ
  pub past : (number : ℕ) → came number < now
  pub earlier : (number other place : ℕ) → place_of number ≡ Some place → leads_back number ≡ most_places + other → came number < came other

-- the links of the tags that stand on these places, as they are kept
pub record IsLinked (places : List (Option ℕ)) (links backs : List ℕ) : Type 0 where
  pub few : length places ≤ most_tags
  pub size : length links ≡ most_places + most_tags
  pub backs_size : length backs ≡ most_tags + 1
  pub are : AreLinked (length places) (λ number. wheel_place_of places number) (λ link. place_of_link places link) (λ link. get_or links link 0) (λ number. get_or backs number 0)
