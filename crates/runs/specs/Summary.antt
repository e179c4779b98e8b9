-- Profile: what a run counts, over its history.
use Rattle.std.specs.Prelude.{ℕ, ◌+◌, Bool, true, false, ◌&&◌, List, [], ◌∷◌, length, map}
use Rattle.air_model.specs.Past.{Start, Item, befell, exchanged, operated, ended}
use Rattle.runs.specs.Listing.{listing_of}
use Rattle.runs.specs.ScenarioHistory.{start_of, history}
use Rattle.runs.specs.declared.summary.Summary.{Summary}
use Rattle.q_round.specs.declared.round.RoundEnd.{RoundEnd}
use Rattle.q_round.specs.declared.round.RoundEnd.TheVariants as ends
use Rattle.report_lines.specs.SeenCounts.{distinct}
use Rattle.scenario.specs.declared.values.Scenario.{Scenario}

-- how many slot commands the rounds had that ended
abbrev pub slots_past : List Item → ℕ
slots_past [] = 0
slots_past (befell event number ∷ past) = slots_past past
slots_past (exchanged sent ∷ past) = slots_past past
slots_past (operated round slot index result ∷ past) = slots_past past
slots_past (ended round end slots ∷ past) = slots_past past + slots

-- a round ended after a whole frame of silent slots, and not by its limit
abbrev pub is_quiet : RoundEnd → Bool
is_quiet ends.Quiet = true
is_quiet ends.Limit = false

-- each round that ended did so
abbrev pub all_quiet : List Item → Bool
all_quiet [] = true
all_quiet (befell event number ∷ past) = all_quiet past
all_quiet (exchanged sent ∷ past) = all_quiet past
all_quiet (operated round slot index result ∷ past) = all_quiet past
all_quiet (ended round end slots ∷ past) = all_quiet past && is_quiet end

-- the pairs of PC and EPC that a past lists, in the order in which they came
abbrev pub pairs_in : List Item → List (ℕ × List ℕ)
pairs_in past = map (λ listed. (listed.pc, listed.epc)) (listing_of past)

-- what a past counts: the tags, how often an EPC was listed, how many different pairs of PC and EPC there are among these, the slot
-- commands of all rounds, and whether each round ended quiet
abbrev pub summary_of_past : Start → List Item → Summary
summary_of_past start past = record {
  tags = length start.tags;
  listed = length (listing_of past);
  distinct = length (distinct (pairs_in past));
  slots = slots_past past;
  quiet = all_quiet past;
}

-- what a run of a scenario counts, over its history
abbrev pub summary_of : Scenario → Summary
summary_of scenario = summary_of_past (start_of scenario) (history scenario)
