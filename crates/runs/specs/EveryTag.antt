-- Profile: a run of one honest round, in which each tag takes part and no two have one EPC.
use Rattle.std.specs.Prelude.{◌≡◌, ℕ, true, List, length, map}
use Rattle.air_model.specs.Past.{Start, Item}
use Rattle.runs.specs.Listing.{listing_of}
use Rattle.runs.specs.CompleteRound.{HasNumber}
use Rattle.q_round.specs.SpecValue.{SpecValue}
use Rattle.report_lines.specs.SeenCounts.{distinct}
use Rattle.session_flags.specs.Flags.{matches}
use Rattle.tag_machine.specs.TagValue.{TagValue, ReadyState}
use Rattle.tag_memory.specs.Memory.{epc_of}

-- each tag is ready, and its flags are those that the Query speaks to
pub record AllTakePart (start : Start) (spec : SpecValue) : Type 0 where
  pub ready : (number : ℕ) (tag : TagValue) → HasNumber start number tag → tag.state ≡ ReadyState
  pub matching : (number : ℕ) (tag : TagValue) → HasNumber start number tag → matches spec.sel spec.session spec.target tag.body.flags ≡ true

-- no two tags have one EPC
abbrev pub HaveOwnEpcs : Start → Type 0
HaveOwnEpcs start = (number other : ℕ) (tag other_tag : TagValue) → HasNumber start number tag → HasNumber start other other_tag
    → epc_of tag.body.memory ≡ epc_of other_tag.body.memory → number ≡ other

-- the pairs of PC and EPC that a history lists, in order
abbrev pub pairs_listed : List Item → List (ℕ × List ℕ)
pairs_listed history = map (λ listed. (listed.pc, listed.epc)) (listing_of history)

-- each tag is listed: there are as many list lines as tags, and as many pairs of PC and EPC
pub record ListsEveryTag (start : Start) (history : List Item) : Type 0 where
  pub listed : length (listing_of history) ≡ length start.tags
  pub distinct_pairs : length (distinct (pairs_listed history)) ≡ length start.tags
