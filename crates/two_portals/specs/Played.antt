-- Profile: what one round makes of the tags that an interrogator reads, where nothing befalls them beside it.
use Rattle.std.specs.Prelude.{◌≡◌, ℕ, ◌≤◌, ◌==◌, Bool, true, false, List, length, map, Some, slice_get, filter, All, if◌then◌else◌}
use Rattle.std.specs.List.{AllZip}
use Rattle.q_round.specs.SpecValue.{SpecValue}
use Rattle.q_round.specs.declared.round.RoundEnd.{RoundEnd}
use Rattle.session_flags.specs.declared.flags.Flags.{Flags}
use Rattle.session_flags.specs.Flags.{flags_after_inversion, matches}
use Rattle.tag_machine.specs.TagValue.{TagValue, ReadyState}
use Rattle.tag_memory.specs.Memory.{pc_of, epc_of}

-- the tags that were listed, by their numbers, and the pairs of PC and EPC that were listed, both in the order in which they came, how
-- the round ended, and the tags behind it, in the order of their numbers
pub record Played : Type 0 where
  pub senders : List ℕ
  pub pairs : List (ℕ × List ℕ)
  pub end : RoundEnd
  pub tags : List TagValue

-- the PC and the EPC in the memory of a tag
abbrev pub pc_and_epc_of : TagValue → ℕ × List ℕ
pc_and_epc_of tag = (pc_of tag.body.memory, epc_of tag.body.memory)

-- a pair is that of the tag of a number
abbrev pub IsPairOf : List TagValue → ℕ × List ℕ → ℕ → Type 0
IsPairOf tags pair number = slice_get (map pc_and_epc_of tags) number ≡ Some pair

-- how often a number stands in a list
abbrev pub times : ℕ → List ℕ → ℕ
times number numbers = length (filter (λ other. other == number) numbers)

-- A round over these tags, whichever way it ends: what it lists is what the senders sent, each of them is listed once, and there are as
-- many tags behind it.
pub record ListsItsTags (tags : List TagValue) (round : Played) : Type 0 where
  pub each : AllZip (IsPairOf tags) round.pairs round.senders
  pub once : (number : ℕ) → times number round.senders ≤ 1
  pub as_many : length round.tags ≡ length tags

-- all tags are ready (6.3.2.4.1 Ready state)
abbrev pub AreReady : List TagValue → Type 0
AreReady tags = All (λ tag. tag.state ≡ ReadyState) tags

-- 6.3.2.11.2.1 Query: the tags that Sel, Session and Target name
abbrev pub is_named : SpecValue → TagValue → Bool
is_named spec tag = matches spec.sel spec.session spec.target tag.body.flags

-- 6.3.2.2 Sessions and inventoried flags: the flags of a tag that had these just after the Query. That of the round's session
-- is inverted by the slot command behind the slot in which the tag was listed.
abbrev pub flags_in_round : ℕ → Bool → Flags → Flags
flags_in_round session false flags = flags
flags_in_round session true flags = flags_after_inversion flags session

-- what a round that ended quiet leaves of a tag that was ready: it is ready again; the flag of the session is inverted where the
-- Query named the tag; all its other flags, its memory and its locks are as before
pub record IsLeftByRound (spec : SpecValue) (before left : TagValue) : Type 0 where
  pub state : left.state ≡ ReadyState
  pub flags : left.body.flags ≡ flags_in_round spec.session (is_named spec before) before.body.flags
  pub memory : left.body.memory ≡ before.body.memory
  pub locks : left.body.locks ≡ before.body.locks

-- a round that ended quiet, over tags that were ready: the senders are exactly the tags that the Query named
pub record IsQuietRound (tags : List TagValue) (spec : SpecValue) (round : Played) : Type 0 where
  pub named : (number : ℕ) (tag : TagValue) → slice_get tags number ≡ Some tag → times number round.senders ≡ (if is_named spec tag then 1 else 0)
  pub left : AllZip (IsLeftByRound spec) tags round.tags
