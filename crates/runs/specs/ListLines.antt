-- Profile: whose each list line of a round is.
use Rattle.std.specs.Prelude.{◌≡◌, ℕ, ◌==◌, List, [], ◌∷◌, filter}
use Rattle.air_model.specs.Channel.{IsOfReplies}
use Rattle.air_model.specs.Past.{Record, Item}
use Rattle.runs.specs.Headline.{IsRecordOf, Acknowledges}
use Rattle.runs.specs.Listing.{Listed, listed_by, listing_of}
use Rattle.runs.specs.Listed.{sender_listed_by}

-- what a history lists in a round, in order: a list line of the report each
abbrev pub entries_in : ℕ → List Item → List Listed
entries_in round history = filter (λ listed. listed.round == round) (listing_of history)

-- in a round no ACK is answered by a raw stream: what comes back comes of the replies
abbrev pub IsOfRepliesIn : ℕ → List Item → Type 0
IsOfRepliesIn round history = (sent : Record) (earlier : List Item) (rn : ℕ) → IsRecordOf history sent earlier → sent.round ≡ round
    → Acknowledges sent rn → IsOfReplies sent.given

-- the entry is what a record of the round lists, and the number is that of the tag that sent it
pub record IsEntryOf (history : List Item) (round : ℕ) (listed : Listed) (number : ℕ) : Type 0 where
  pub sent : Record
  pub earlier : List Item
  pub recorded : IsRecordOf history sent earlier
  pub round_is : sent.round ≡ round
  pub entry : listed_by sent ≡ listed ∷ []
  pub sender : sender_listed_by sent ≡ number ∷ []
