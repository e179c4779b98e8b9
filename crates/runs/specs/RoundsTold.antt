-- Profile: what the rounds of a history made of tags, where the history is of rounds alone and nothing is said of its exchanges.
use Rattle.std.specs.Prelude.{◌≡◌, ℕ, false, List, [], ◌∷◌, ◌++◌, map}
use Rattle.access_ops.specs.declared.OpList.{OpList}
use Rattle.air_events.specs.declared.Several.TheVariants as severals
use Rattle.air_model.specs.Past.{Start, Record, Item, befell, exchanged, operated, ended, tags_behind}
use Rattle.bit_strings.specs.declared.code.Code.TheVariants.{Fm0}
use Rattle.pie_line.specs.Link.{LinkValue}
use Rattle.q_round.specs.SpecValue.{SpecValue}
use Rattle.q_round.specs.declared.round.RoundEnd.{RoundEnd}
use Rattle.q_round.specs.declared.round.RoundEnd.TheVariants as ends
use Rattle.scenario.specs.Limits.{no_operations}
use Rattle.runs.specs.History.{past_behind_round}
use Rattle.runs.specs.Listed.{sender_listed_by}
use Rattle.runs.specs.Listing.{Listed, listed_by}
use Rattle.tag_machine.specs.TagValue.{TagValue}
use Rattle.two_portals.specs.Played.{Played}

-- the PC and the EPC that were listed
abbrev pub pair_listed : Listed → ℕ × List ℕ
pair_listed listed = (listed.pc, listed.epc)

-- the pairs of PC and EPC that a record lists
abbrev pub pairs_listed_by : Record → List (ℕ × List ℕ)
pairs_listed_by sent = map pair_listed (listed_by sent)

-- the pairs of PC and EPC that were listed since the last round ended, in the order in which they came
abbrev pub pairs_since : List Item → List (ℕ × List ℕ)
pairs_since [] = []
pairs_since (befell event number ∷ past) = pairs_since past
pairs_since (exchanged sent ∷ past) = pairs_since past ++ pairs_listed_by sent
pairs_since (operated round slot index result ∷ past) = pairs_since past
pairs_since (ended round end slots ∷ past) = []

-- the tags that sent them, by their numbers
abbrev pub senders_since : List Item → List ℕ
senders_since [] = []
senders_since (befell event number ∷ past) = senders_since past
senders_since (exchanged sent ∷ past) = senders_since past ++ sender_listed_by sent
senders_since (operated round slot index result ∷ past) = senders_since past
senders_since (ended round end slots ∷ past) = []

-- a round that ends so behind this past
abbrev pub round_ended : Start → RoundEnd → List Item → Played
round_ended start end past = record { senders = senders_since past; pairs = pairs_since past; end = end; tags = tags_behind start past }

-- the rounds of a history, in order: what each listed, how it ended, and what it left of the tags
abbrev pub rounds_told : Start → List Item → List Played
rounds_told start [] = []
rounds_told start (befell event number ∷ past) = rounds_told start past
rounds_told start (exchanged sent ∷ past) = rounds_told start past
rounds_told start (operated round slot index result ∷ past) = rounds_told start past
rounds_told start (ended round end slots ∷ past) = rounds_told start past ++ round_ended start end past ∷ []

-- no round is under way
pub record IsBetweenRounds (past : List Item) : Type 0 where
  pub pairs : pairs_since past ≡ []
  pub senders : senders_since past ≡ []

-- nothing is said of any exchange, and where several tags reply the channel breaks the first reply
pub record IsPlain (start : Start) : Type 0 where
  pub entries : start.entries ≡ []
  pub several : start.several ≡ severals.Break

-- a link: which one has no part in what a round makes of tags
abbrev pub some_link : LinkValue
some_link = record { tari = 12500; rtcal = 31250; trcal = 50000; pw = 6250; dr = false; code = Fm0; trext = false }

-- a plain start with these tags
abbrev pub start_with : List TagValue → Start
start_with tags = record { link = some_link; tags = tags; entries = []; several = severals.Break }

-- the first of these rounds; where there is none, nothing was done
abbrev pub first_round : List TagValue → List Played → Played
first_round tags [] = record { senders = []; pairs = []; end = ends.Limit; tags = tags }
first_round tags (round ∷ rounds) = round

-- what a round makes of tags: the one round of a history that begins with them
abbrev pub played_of : List TagValue → SpecValue → Played
played_of tags spec = first_round tags (rounds_told (start_with tags) (past_behind_round (start_with tags) no_operations spec []))

-- A round behind this past makes of the tags what it makes of them at the beginning of a history: it depends on what is past through
-- its tags alone, and on no link.
pub record GoesByTags (start : Start) (operations : OpList) (spec : SpecValue) (past : List Item) : Type 0 where
  pub told : rounds_told start (past_behind_round start operations spec past) ≡ rounds_told start past ++ played_of (tags_behind start past) spec ∷ []
  pub tags : tags_behind start (past_behind_round start operations spec past) ≡ (played_of (tags_behind start past) spec).tags
  pub between : IsBetweenRounds (past_behind_round start operations spec past)
