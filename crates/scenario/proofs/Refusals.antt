-- The first reason for which a line may not stand here, by what is known of it.
use Rattle.std.proofs.Common.{inl, inr, ℕ, List}
use Rattle.scenario_lines.specs.declared.keywords.Keyword.{Keyword}
use Rattle.scenario_lines.specs.declared.line.Line.{Line}
use Rattle.scenario_lines.specs.LineFaults.{BeginsWithKeyword, IsFaultyLine}
use Rattle.scenario_lines.specs.SpelledLines.{SpellsLine}
use Rattle.checked_lines.specs.declared.fault.FaultReason.{FaultReason}
use Rattle.scenario.specs.Faults.{DisagreesAt, IsFaultyAt}
use Rattle.scenario.specs.Standing.{HasRoomForLine, MayStand, ScenarioStanding}

-- a line that has its place
module _ (standing : ScenarioStanding) (fields : List (List ℕ)) (keyword : Keyword) (begins : BeginsWithKeyword fields keyword) (stands : MayStand standing keyword)
    (room : HasRoomForLine standing keyword) where
  pub says_nothing : (reason : FaultReason) → IsFaultyLine fields reason → IsFaultyAt standing fields reason
  says_nothing reason faulty = inr (
    record { keyword = keyword; begins = begins; stands = stands },
    inr (record { keyword = keyword; begins = begins; room = room }, inl faulty),
  )

  pub says_otherwise : (line : Line) (fault : FaultReason) → SpellsLine fields line → DisagreesAt standing line fault
      → IsFaultyAt standing fields fault
  says_otherwise line fault spells disagrees = inr (
    record { keyword = keyword; begins = begins; stands = stands },
    inr (record { keyword = keyword; begins = begins; room = room }, inr (record { line = line; spells = spells; disagrees = disagrees })),
  )
