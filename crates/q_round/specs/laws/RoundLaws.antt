-- What holds of every round, in terms of the commands that it gives (profile).
use Rattle.std.specs.Prelude.{◌≡◌, ℕ, ◌+◌, ◌^◌, List, length}
use Rattle.std.specs.List.{AllByRecursion}
use Rattle.command_fields.specs.declared.choices.UpDn.{UpDn}
use Rattle.command_fields.specs.declared.choices.UpDn.TheVariants.{Up, Same, Down}
use Rattle.command_grammar.specs.declared.commands.Command.{Command}
use Rattle.command_grammar.specs.declared.commands.Command.TheVariants.{Query, QueryAdjust, QueryRep}
use Rattle.command_grammar.specs.Commands.{IsLegalCommand}
use Rattle.q_round.specs.declared.frame.Outcome.{Outcome}
use Rattle.q_round.specs.declared.frame.Outcome.TheVariants.{Silence}
use Rattle.q_round.specs.declared.round.Next.{Next}
use Rattle.q_round.specs.declared.round.Next.TheVariants.{Send, Quiet, Limit}

-- 6.3.2.11.2.2 QueryAdjust: from one Q to the next
abbrev pub IsMoved : UpDn → ℕ → ℕ → Type 0
IsMoved Up before after = after ≡ before + 1
IsMoved Same before after = after ≡ before
IsMoved Down before after = after + 1 ≡ before

-- a QueryAdjust moves Q, and nothing else does
abbrev pub MovesQ : Next → ℕ → ℕ → Type 0
MovesQ (Send (QueryAdjust session updn)) before after = IsMoved updn before after
MovesQ (Send command) before after = after ≡ before
MovesQ Quiet before after = after ≡ before
MovesQ Limit before after = after ≡ before

-- 6.3.2.11.2.1 Query: a frame has 2 ^ Q slots
pub record IsSilentFrame (q : ℕ) (frame : List Outcome) : Type 0 where
  pub whole : length frame ≡ 2 ^ q
  pub silent : AllByRecursion (λ outcome. outcome ≡ Silence) frame

-- the numbers of the command that comes next are within their fields
abbrev pub IsLegalNext : Next → Type 0
IsLegalNext (Send command) = IsLegalCommand command
IsLegalNext Quiet = Unit {0}
IsLegalNext Limit = Unit {0}

-- 6.3.2.11.2 Inventory commands: a Query, QueryAdjust or QueryRep of this session, each of which begins a slot
abbrev pub IsSlotCommand : ℕ → Command → Type 0
IsSlotCommand session (Query dr code trext sel named target q) = named ≡ session
IsSlotCommand session (QueryAdjust named updn) = named ≡ session
IsSlotCommand session (QueryRep named) = named ≡ session
IsSlotCommand session command = ⊥

-- the round goes on, by a slot command of this session
abbrev pub SendsSlotCommand : ℕ → Next → Type 0
SendsSlotCommand session (Send command) = IsSlotCommand session command
SendsSlotCommand session Quiet = ⊥
SendsSlotCommand session Limit = ⊥

-- one of the two ends of a round
abbrev pub IsEnd : Next → Type 0
IsEnd (Send command) = ⊥
IsEnd Quiet = Unit {0}
IsEnd Limit = Unit {0}
