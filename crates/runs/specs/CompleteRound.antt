-- Profile: what an honest round of a history says of the tags that it lists, by their numbers.
use Rattle.std.specs.Prelude.{◌≡◌, ℕ, ◌-◌, ◌≤◌, ◌==◌, Bool, true, false, List, ◌∷◌, Some, slice_get, if◌then◌else◌}
use Rattle.air_model.specs.Past.{Start, Record, Item, exchanged, tag_behind}
use Rattle.runs.specs.Headline.{IsRecordOf}
use Rattle.runs.specs.Listed.{tags_listed_in, tags_listed_in_slot, times}
use Rattle.runs.specs.MomentsOfRound.{begins_later_slot, is_query, ending_of, is_matched_in, flags_behind, flags_after_query}
use Rattle.runs.specs.TagAtEnd.{is_acknowledged}
use Rattle.runs.specs.TagInRound.{is_matched, flags_in_round}
use Rattle.q_round.specs.declared.round.RoundEnd.TheVariants as ends
use Rattle.tag_machine.specs.TagValue.{TagValue, StateValue, ReadyState, is_present}

-- the tag with a number at the start
abbrev pub HasNumber : Start → ℕ → TagValue → Type 0
HasNumber start number tag = slice_get start.tags number ≡ Some tag

-- a tag of the start that the Query of a round matched
pub record IsMatchedTag (start : Start) (history : List Item) (round number : ℕ) : Type 0 where
  pub tag : TagValue
  pub numbered : HasNumber start number tag
  pub matched : is_matched_in round history number tag ≡ true

-- No tag is listed twice in the round, and every tag that is listed is matched.
pub record ListsNoTagTwice (start : Start) (history : List Item) (round : ℕ) : Type 0 where
  pub once : (number : ℕ) → times number (tags_listed_in round history) ≤ 1
  pub matched : (number : ℕ) → 1 ≤ times number (tags_listed_in round history) → IsMatchedTag start history round number

-- At each slot command of the round after its Query, the flag of the session is inverted for exactly the tag that was listed in the
-- slot before, if one was, and no other flag of any tag changes. No flag of any tag changes at another command after the Query.
pub record StepsFlags (start : Start) (history : List Item) (round session : ℕ) : Type 0 where
  pub slot : (sent : Record) (earlier : List Item) (number : ℕ) (tag : TagValue) → IsRecordOf history sent earlier → sent.round ≡ round
      → begins_later_slot sent.command ≡ true → HasNumber start number tag
      → flags_behind number tag (exchanged sent ∷ earlier)
      ≡ flags_in_round session (times number (tags_listed_in_slot round (sent.slot - 1) earlier) == 1) (flags_behind number tag earlier)
  pub other : (sent : Record) (earlier : List Item) (number : ℕ) (tag : TagValue) → IsRecordOf history sent earlier → sent.round ≡ round
      → begins_later_slot sent.command ≡ false → is_query sent.command ≡ false → HasNumber start number tag
      → flags_behind number tag (exchanged sent ∷ earlier) ≡ flags_behind number tag earlier

-- A round that ended quiet lists exactly the matched tags, each once. Compared with just after the Query, each of them has the flag
-- of the session inverted, and all other flags of all tags are unchanged. All present tags are then in ready.
pub record IsQuietComplete (start : Start) (history : List Item) (round session : ℕ) (past : List Item) : Type 0 where
  pub listed : (number : ℕ) (tag : TagValue) → HasNumber start number tag
      → times number (tags_listed_in round history) ≡ (if is_matched_in round history number tag then 1 else 0)
  pub flags : (number : ℕ) (tag : TagValue) → HasNumber start number tag
      → flags_behind number tag past
      ≡ flags_in_round session (is_matched_in round history number tag) (flags_after_query round history number tag)
  pub ready : (number : ℕ) (tag : TagValue) → HasNumber start number tag
      → is_present (tag_behind number tag past).state ≡ true → (tag_behind number tag past).state ≡ ReadyState

-- the state of a tag behind a past, and that the flags are these with that of a session inverted, or as they were
pub record StandsWith (IsState : StateValue → Type 0) (inverted : Bool) (round session : ℕ) (history past : List Item) (number : ℕ) (tag : TagValue) : Type 0 where
  pub state : IsState (tag_behind number tag past).state
  pub flags : flags_behind number tag past ≡ flags_in_round session inverted (flags_after_query round history number tag)

-- Where a round ended by its limit, each matched tag that isn't listed is in arbitrate or reply with its flags unchanged. A tag listed
-- in the last slot is in acknowledged with its flags unchanged. Every other listed tag is in ready with the flag of the session
-- inverted and its other flags unchanged. A tag that wasn't matched is ready, if it is present, with its flags unchanged.
pub record EndsByLimit (start : Start) (history : List Item) (round session slots : ℕ) (past : List Item) : Type 0 where
  pub not_listed : (number : ℕ) (tag : TagValue) → HasNumber start number tag → is_matched_in round history number tag ≡ true
      → times number (tags_listed_in round history) ≡ 0
      → StandsWith (λ state. is_matched state ≡ true) false round session history past number tag
  pub listed_last : (number : ℕ) (tag : TagValue) → HasNumber start number tag
      → times number (tags_listed_in_slot round slots history) ≡ 1
      → StandsWith (λ state. is_acknowledged state ≡ true) false round session history past number tag
  pub listed_before : (number : ℕ) (tag : TagValue) → HasNumber start number tag
      → times number (tags_listed_in round history) ≡ 1 → times number (tags_listed_in_slot round slots history) ≡ 0
      → StandsWith (λ state. state ≡ ReadyState) true round session history past number tag
  pub not_matched : (number : ℕ) (tag : TagValue) → HasNumber start number tag → is_matched_in round history number tag ≡ false
      → StandsWith (λ state. is_present state ≡ true → state ≡ ReadyState) false round session history past number tag

-- Complete inventory: what holds of a round of this session that is honest.
pub record CompleteInventory (start : Start) (history : List Item) (round session : ℕ) : Type 0 where
  pub no_tag_twice : ListsNoTagTwice start history round
  pub flag_steps : StepsFlags start history round session
  pub quiet_is_complete : (slots : ℕ) (past : List Item)
      → ending_of round history ≡ Some (record { end = ends.Quiet; slots = slots; past = past }) → IsQuietComplete start history round session past
  pub limit_end : (slots : ℕ) (past : List Item)
      → ending_of round history ≡ Some (record { end = ends.Limit; slots = slots; past = past }) → EndsByLimit start history round session slots past
