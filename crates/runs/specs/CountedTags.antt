-- Profile: what an honest round lists and leaves of each tag, as a user sees it: which tags are listed, and what each flag of each is afterwards.
use Rattle.std.specs.Prelude.{◌≡◌, ℕ, ◌+◌, ◌≤◌, ◌==◌, ◌&&◌, not, Bool, true, List, [], ◌∷◌, length, Some, if◌then◌else◌}
use Rattle.air_model.specs.Past.{Start, Record, Item, tag_behind}
use Rattle.runs.specs.Headline.{IsRecordOf}
use Rattle.runs.specs.Listing.{listed_by}
use Rattle.runs.specs.CompleteRound.{HasNumber, IsMatchedTag}
use Rattle.runs.specs.Listed.{sender_listed_by, tags_listed_in, tags_listed_in_slot, times, listed_as}
use Rattle.runs.specs.MomentsOfRound.{Ending, ending_of, is_matched_in, tag_after_query, flags_behind, flags_after_query}
use Rattle.runs.specs.TagInRound.{flags_in_round}
use Rattle.q_round.specs.SpecValue.{SpecValue}
use Rattle.q_round.specs.declared.round.RoundEnd.TheVariants as ends
use Rattle.session_flags.specs.Flags.{matches}
use Rattle.tag_machine.specs.TagValue.{TagValue, is_present}

-- a tag that the Query of a round speaks to: it is present, and its flags fit Sel, the session and Target
abbrev pub is_spoken_to : SpecValue → TagValue → Bool
is_spoken_to spec tag = is_present tag.state && matches spec.sel spec.session spec.target tag.body.flags

-- how many such tags there are, of tags that are numbered from a number on
abbrev pub tags_spoken_to : SpecValue → ℕ → List Item → ℕ → List TagValue → ℕ
tags_spoken_to spec round history number [] = 0
tags_spoken_to spec round history number (tag ∷ tags) =
    (if is_spoken_to spec (tag_after_query round history number tag) then 1 else 0) + tags_spoken_to spec round history (number + 1) tags

-- the tag was listed in the round, and not in its last slot, so that it heard a slot command since
abbrev pub is_inverted : ℕ → ℕ → List Item → ℕ → Bool
is_inverted round slots history number =
    times number (tags_listed_in round history) == 1 && not (times number (tags_listed_in_slot round slots history) == 1)

-- A round that ended. Tags are meant as they stand just after its Query, and their numbers are those of the start.
pub record IsCountedRound (start : Start) (history : List Item) (round : ℕ) (spec : SpecValue) (ending : Ending) : Type 0 where
  -- the Query matched exactly the tags that it speaks to
  pub matched : (number : ℕ) (tag : TagValue) → HasNumber start number tag
      → is_matched_in round history number tag ≡ is_spoken_to spec (tag_after_query round history number tag)
  -- each tag that is listed is one of those, and is listed once
  pub each_once : (number : ℕ) → times number (tags_listed_in round history) ≤ 1
  pub spoken_to : (number : ℕ) (tag : TagValue) → HasNumber start number tag → 1 ≤ times number (tags_listed_in round history)
      → is_spoken_to spec (tag_after_query round history number tag) ≡ true
  pub numbered : (number : ℕ) → 1 ≤ times number (tags_listed_in round history) → IsMatchedTag start history round number
  -- each tag that is listed is listed with the PC and the EPC in its memory
  pub own_epc : (sent : Record) (earlier : List Item) (number : ℕ) (tag : TagValue) → IsRecordOf history sent earlier → sent.round ≡ round
      → HasNumber start number tag → sender_listed_by sent ≡ number ∷ []
      → listed_by sent ≡ listed_as sent (tag_after_query round history number tag).body.memory ∷ []
  -- where the round ended quiet, each of those is listed
  pub complete : (number : ℕ) (tag : TagValue) → HasNumber start number tag → ending.end ≡ ends.Quiet
      → is_spoken_to spec (tag_after_query round history number tag) ≡ true → times number (tags_listed_in round history) ≡ 1
  pub as_many : ending.end ≡ ends.Quiet → length (tags_listed_in round history) ≡ tags_spoken_to spec round history 0 start.tags
  -- at the end the flag of the session is inverted for the tags that were listed before the last slot, and no other flag of any tag
  pub flags : (number : ℕ) (tag : TagValue) → HasNumber start number tag
      → flags_behind number tag ending.past
      ≡ flags_in_round spec.session (is_inverted round ending.slots history number) (flags_after_query round history number tag)
  -- no memory and no lock of a tag has changed
  pub memory : (number : ℕ) (tag : TagValue) → HasNumber start number tag
      → (tag_behind number tag ending.past).body.memory ≡ (tag_after_query round history number tag).body.memory
  pub locks : (number : ℕ) (tag : TagValue) → HasNumber start number tag
      → (tag_behind number tag ending.past).body.locks ≡ (tag_after_query round history number tag).body.locks

-- what holds of a round of these parameters that is honest
abbrev pub CountedRound : Start → List Item → ℕ → SpecValue → Type 0
CountedRound start history round spec = (ending : Ending) × (ending_of round history ≡ Some ending) × IsCountedRound start history round spec ending
