-- What the honest rounds of the run of a scenario prove (6.3.2.8 Inventorying Tag populations).
use Rattle.std.specs.Prelude.{◌≡◌, ℕ, ◌+◌, ◌≤◌, List, length, ◌∷◌, ◌++◌}
use Rattle.std.specs.List.{AllZip}
use Rattle.access_ops.specs.declared.OpList.{OpList}
use Rattle.air_events.specs.declared.Several.TheVariants as severals
use Rattle.q_round.specs.SpecValue.{SpecValue}
use Rattle.scenario.specs.declared.values.Scenario.{Scenario}
use Rattle.scenario.specs.declared.values.Step.{Step}
use Rattle.scenario.specs.declared.values.Step.TheVariants as steps
use Rattle.runs.specs.CompleteRound.{CompleteInventory, HasNumber}
use Rattle.runs.specs.CountedTags.{CountedRound}
use Rattle.runs.specs.Headline.{rounds_of}
use Rattle.runs.specs.Honest.{IsHonest, IsApart}
use Rattle.runs.specs.ListLines.{IsOfRepliesIn, IsEntryOf, entries_in}
use Rattle.runs.specs.Listed.{tags_listed_in}
use Rattle.runs.specs.Recounts.{IsFresh, IsListedBySound, IsRecount, IsThere, Recount, enough_from_any, enough_from_fresh, steps_with}
use Rattle.runs.specs.ScenarioHistory.{history, start_of}
use Rattle.tag_machine.specs.TagValue.{TagValue}

-- Which tags each honest round lists, and what it leaves of every tag. Rounds are numbered from 1 over the steps.
pub record RoundsAreComplete (scenario : Scenario) : Type 0 where
  pub complete : (before after : List Step) (spec : SpecValue) (operations : OpList) → scenario.steps ≡ before ++ steps.Round spec operations ∷ after
      → IsHonest (history scenario) (rounds_of before + 1) operations
      → ((start_of scenario).several ≡ severals.Capture → IsApart (history scenario) (rounds_of before + 1))
      → CompleteInventory (start_of scenario) (history scenario) (rounds_of before + 1) spec.session
  pub counted : (before after : List Step) (spec : SpecValue) (operations : OpList) → scenario.steps ≡ before ++ steps.Round spec operations ∷ after
      → IsHonest (history scenario) (rounds_of before + 1) operations
      → ((start_of scenario).several ≡ severals.Capture → IsApart (history scenario) (rounds_of before + 1))
      → CountedRound (start_of scenario) (history scenario) (rounds_of before + 1) spec
  -- the list lines of a round in which no ACK is answered by a raw stream are those of the tags that are listed in it
  pub lines : (round : ℕ) → IsOfRepliesIn round (history scenario)
      → AllZip (IsEntryOf (history scenario) round) (entries_in round (history scenario)) (tags_listed_in round (history scenario))
  -- as many rounds side by side as make up for the unsound ones among them list each tag that is there, in a sound one
  pub recounts : (recount : Recount) (unsound number : ℕ) (tag : TagValue) → recount.start ≡ start_of scenario → scenario.steps ≡ steps_with recount
      → IsRecount recount unsound → enough_from_any unsound ≤ length recount.rounds
      → HasNumber recount.start number tag → IsThere recount number tag → IsListedBySound recount number tag
  pub fresh_recounts : (recount : Recount) (unsound number : ℕ) (tag : TagValue) → recount.start ≡ start_of scenario → scenario.steps ≡ steps_with recount
      → IsRecount recount unsound → enough_from_fresh unsound ≤ length recount.rounds
      → HasNumber recount.start number tag → IsThere recount number tag → IsFresh recount number tag → IsListedBySound recount number tag
