-- Profile: what the lines of the steps of a scenario have said so far.
use Rattle.std.specs.Prelude.{◌≡◌, ◌≢◌, ℕ, ◌≤◌, List, [], ◌∷◌, ◌++◌, length, Option, Some, None}
use Rattle.access_ops.specs.declared.Op.{Op}
use Rattle.access_ops.specs.declared.OpList.{OpList}
use Rattle.q_round.specs.SpecValue.{SpecValue}
use Rattle.scenario.specs.declared.values.Step.{Step}
use Rattle.scenario.specs.declared.values.Step.TheVariants as steps
use Rattle.scenario.specs.Limits.{most_ops, most_steps, no_operations}

-- The last step stands apart where it is a round, since more may be said of its operations.
pub record StepLinesValue : Type 0 where
  -- the steps, without the last one where that is a round
  pub closed : List Step
  -- the parameters of the last step, where that is a round, and what is said of its operations
  pub round : Option SpecValue
  pub operations : OpList

abbrev pub no_step_lines : StepLinesValue
no_step_lines = record { closed = []; round = None; operations = no_operations }

-- steps with a last one behind them, where that is a round
abbrev pub with_last : List Step → Option SpecValue → OpList → List Step
with_last before None operations = before
with_last before (Some spec) operations = before ++ steps.Round spec operations ∷ []

-- all steps of the scenario so far, with the last one where that is a round
abbrev pub steps_of : StepLinesValue → List Step
steps_of said = with_last said.closed said.round said.operations

-- the steps, and the operations of the last round, are no more than the limits of a scenario allow
pub record AreFewStepLines (said : StepLinesValue) : Type 0 where
  pub steps : length (steps_of said) ≤ most_steps
  pub ops : length said.operations.ops ≤ most_ops

-- nothing is said yet of the operations of the last step, which is a round
pub record IsBareRound (said : StepLinesValue) : Type 0 where
  pub round : said.round ≢ None
  pub only : said.operations.only ≡ None
  pub ops : said.operations.ops ≡ []

-- one step more, which is no round
abbrev pub with_step : StepLinesValue → Step → StepLinesValue
with_step said step = record { closed = steps_of said ++ step ∷ []; round = None; operations = no_operations }

-- one round more, of whose operations nothing is said yet
abbrev pub with_round : StepLinesValue → SpecValue → StepLinesValue
with_round said spec = record { closed = steps_of said; round = Some spec; operations = no_operations }

-- the operations of the last round are for this EPC alone
abbrev pub with_only : StepLinesValue → List ℕ → StepLinesValue
with_only said epc = record said { operations = record { only = Some epc; ops = said.operations.ops } }

-- the last round has one operation more
abbrev pub with_op : StepLinesValue → Op → StepLinesValue
with_op said op = record said { operations = record { only = said.operations.only; ops = said.operations.ops ++ op ∷ [] } }
