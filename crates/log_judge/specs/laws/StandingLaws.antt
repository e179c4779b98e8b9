-- When what is known stands for a log.
use Rattle.std.specs.Prelude.{ℕ, ◌<◌, ◌≤◌, ◌^◌, List, ◌++◌, length, All}
use Rattle.tag_machine.specs.TagValue.{StateValue, TagValue}
use Rattle.log_judge.specs.Log.{AreDrawn, LogEntry, LoggedTag, tag_with}
use Rattle.log_judge.specs.Explaining.{Leads, Manner}
use Rattle.log_judge.specs.laws.Kinds.{HasSmallQ, reworded}
use Rattle.log_judge.specs.laws.Known.{Known, Covers, CoversState}

-- what is known has its numbers in their ranges
pub record IsValid (known : Known) : Type 0 where
  pub small : HasSmallQ known.tag.state
  -- the largest slot is one of those that may be
  pub itself : CoversState known.any known.tag.state known.tag.state

-- words lead through the log to a tag that is meant
pub record LeadToMeant (words : List ℕ) (known : Known) (behind : TagValue) : Type 0 where
  pub place : ℕ
  pub inside : place < length words
  pub covers : Covers words place known behind

-- some words lead through the log to this state, and what is drawn then is this
pub record ComesTo (manner : Manner) (tag : LoggedTag) (log : List LogEntry) (known : Known) (state : StateValue) (future : List ℕ) : Type 0 where
  pub used : List ℕ
  pub small : All (λ word. word < 2 ^ 16) used
  pub leads : Leads manner log (tag_with tag (used ++ future)) (record { state = state; body = reworded (used ++ future) (length used) known.tag.body })

-- What is known behind a log is this: the tags that words lead to are those that are meant, and what is drawn then may be anything.
pub record StandsBehind (manner : Manner) (tag : LoggedTag) (log : List LogEntry) (known : Known) : Type 0 where
  pub valid : IsValid known
  pub sound : (words : List ℕ) (behind : TagValue) → AreDrawn words → Leads manner log (tag_with tag words) behind → LeadToMeant words known behind
  pub whole : (state : StateValue) (future : List ℕ) → CoversState known.any known.tag.state state → 1 ≤ length future → ComesTo manner tag log known state future
