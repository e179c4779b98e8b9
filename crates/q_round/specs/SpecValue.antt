-- The parameters of a round: the fields of its Query (6.3.2.11.2.1), the rule for Q (Annex D, with ranges of this profile) and the limit of
-- slot commands.
use Rattle.std.specs.Prelude.{ℕ, ◌≤◌}
use Rattle.command_fields.specs.declared.choices.Sel.{Sel}
use Rattle.command_fields.specs.declared.choices.Side.{Side}
use Rattle.q_round.specs.declared.rule.Rule.{Rule}
use Rattle.q_round.specs.declared.rule.Rule.TheVariants.{Fixed, Float, Frame}

-- what a contract sees of a round's parameters
pub record SpecValue : Type 0 where
  pub sel : Sel
  pub session : ℕ
  pub target : Side
  pub q : ℕ
  pub rule : Rule
  pub limit : ℕ

-- Annex D: by how much a slot moves Qfp, 0.1 to 0.5, here in thousandths (profile)
abbrev pub IsQfpStep : ℕ → Type 0
IsQfpStep c = (100 ≤ c) × (c ≤ 500)

-- what a rule has of numbers is within its range
abbrev pub IsLegalRule : Rule → Type 0
IsLegalRule Fixed = Unit {0}
IsLegalRule (Float c) = IsQfpStep c
IsLegalRule Frame = Unit {0}

-- profile: how many slot commands a round may give
abbrev pub IsLimit : ℕ → Type 0
IsLimit limit = (1 ≤ limit) × (limit ≤ 70000)

-- each number is within its range
pub record IsLegalSpec (spec : SpecValue) : Type 0 where
  pub session : spec.session ≤ 3
  pub q : spec.q ≤ 15
  pub rule : IsLegalRule spec.rule
  pub limit : IsLimit spec.limit
