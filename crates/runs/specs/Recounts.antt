-- 6.3.2.8 Inventorying Tag populations: how often a population is to be read. Rounds of one session and one Sel that stand side by
-- side, with targets in turn, count the same tags again. What a spoiled round hides, another one of them lists.
use Rattle.std.specs.Prelude.{◌≡◌, ℕ, zero, suc, ◌+◌, ◌*◌, ◌≤◌, ◌==◌, Bool, true, false, List, [], ◌∷◌, ◌++◌, length, Some, if◌then◌else◌}
use Rattle.access_ops.specs.declared.OpList.{OpList}
use Rattle.air_events.specs.declared.Several.TheVariants as severals
use Rattle.air_model.specs.Past.{Start, Record, Item, tag_behind}
use Rattle.command_fields.specs.declared.choices.Side.{Side}
use Rattle.command_fields.specs.declared.choices.Side.TheVariants.{A, B}
use Rattle.command_fields.specs.declared.choices.Sel.{Sel}
use Rattle.q_round.specs.declared.round.RoundEnd.TheVariants as ends
use Rattle.scenario.specs.declared.values.Step.{Step}
use Rattle.scenario.specs.declared.values.Step.TheVariants as steps
use Rattle.session_flags.specs.Flags.{sel_allows, side_of}
use Rattle.tag_machine.specs.TagValue.{StateValue, ReadyState, ArbitrateState, ReplyState, AcknowledgedState, OpenState, SecuredState, KilledState, UnpoweredState, TagValue, is_present}
use Rattle.runs.specs.Headline.{IsRecordOf, rounds_of}
use Rattle.runs.specs.History.{history_of}
use Rattle.runs.specs.Honest.{IsHonest, IsApart}
use Rattle.runs.specs.Listed.{listed_as, sender_listed_by}
use Rattle.runs.specs.Listing.{listed_by}
use Rattle.runs.specs.MomentsOfRound.{ending_of, tag_after_query}

-- the other value of an inventoried flag
abbrev pub other_side : Side → Side
other_side A = B
other_side B = A

-- rounds of this Sel and session, and nothing else, whose targets take turns from this one on
abbrev pub AreInTurn : Sel → ℕ → Side → List Step → Type 0
AreInTurn sel session target [] = Unit {0}
AreInTurn sel session target (steps.Round spec operations ∷ rounds) =
    (spec.sel ≡ sel) × (spec.session ≡ session) × (spec.target ≡ target) × AreInTurn sel session (other_side target) rounds
AreInTurn sel session target (step ∷ rounds) = ⊥

-- the number of the round that comes behind these steps
abbrev pub round_behind : List Step → ℕ
round_behind before = rounds_of before + 1

-- this holds of each of these rounds, by the steps before it and its operations
abbrev pub HoldsOfEach : (List Step → OpList → Type 0) → List Step → List Step → Type 0
HoldsOfEach Holds before [] = Unit {0}
HoldsOfEach Holds before (steps.Round spec operations ∷ rounds) =
    Holds before operations × HoldsOfEach Holds (before ++ steps.Round spec operations ∷ []) rounds
HoldsOfEach Holds before (step ∷ rounds) = HoldsOfEach Holds (before ++ step ∷ []) rounds

-- A round is sound where it is honest and ended quiet, and where no two tags answered alike in it, if the channel gives one of several
-- replies whole. Every other round is unsound, whatever befell it.
pub record IsSound (start : Start) (history : List Item) (round : ℕ) (operations : OpList) : Type 0 where
  pub honest : IsHonest history round operations
  pub apart : start.several ≡ severals.Capture → IsApart history round
  pub slots : ℕ
  pub past : List Item
  pub quiet : ending_of round history ≡ Some (record { end = ends.Quiet; slots = slots; past = past })

-- how many of so many rounds, from this number on, aren't among those that are said to be sound
abbrev pub unsound_from : (ℕ → Bool) → ℕ → ℕ → ℕ
unsound_from sound round zero = 0
unsound_from sound round (suc rounds) = (if sound round then 0 else 1) + unsound_from sound (round + 1) rounds

-- Rounds that stand side by side among the steps of a run, and which of them are said to be sound, by their numbers.
pub record Recount : Type 0 where
  pub start : Start
  pub before : List Step
  pub rounds : List Step
  pub after : List Step
  pub sel : Sel
  pub session : ℕ
  pub target : Side
  pub sound : ℕ → Bool

-- the steps of a run of which a recount speaks: those before its rounds, the rounds, and those behind
abbrev pub steps_with : Recount → List Step
steps_with recount = recount.before ++ (recount.rounds ++ recount.after)

-- the history of the run
abbrev pub history_with : Recount → List Item
history_with recount = history_of recount.start (steps_with recount)

-- the tag of a number where the step behind these steps begins
abbrev pub tag_where : Start → List Step → ℕ → TagValue → TagValue
tag_where start before number tag = tag_behind number tag (history_of start before)

-- the tag is present there, and Sel allows it
pub record MayTakePart (start : Start) (sel : Sel) (number : ℕ) (tag : TagValue) (before : List Step) : Type 0 where
  pub present : is_present (tag_where start before number tag).state ≡ true
  pub allowed : sel_allows sel (tag_where start before number tag).body.flags.sl ≡ true

-- What is known of a recount: its rounds are of one session and one Sel, with targets in turn, those that are said to be sound are, and
-- the others are no more than this.
pub record IsRecount (recount : Recount) (unsound : ℕ) : Type 0 where
  pub turns : AreInTurn recount.sel recount.session recount.target recount.rounds
  pub are_sound : HoldsOfEach (λ before operations. recount.sound (round_behind before) ≡ true
      → IsSound recount.start (history_with recount) (round_behind before) operations) recount.before recount.rounds
  pub few : unsound_from recount.sound (round_behind recount.before) (length recount.rounds) ≤ unsound

-- the tag is there where each of the sound rounds begins
abbrev pub IsThere : Recount → ℕ → TagValue → Type 0
IsThere recount number tag = HoldsOfEach (λ before operations. recount.sound (round_behind before) ≡ true
    → MayTakePart recount.start recount.sel number tag before) recount.before recount.rounds

-- 6.3.2.11.2.1 Query: the tag is acknowledged, open or secured in a session, so that a Query of it inverts its flag
abbrev pub is_inventoried_in : ℕ → StateValue → Bool
is_inventoried_in session ReadyState = false
is_inventoried_in session (ArbitrateState own q slot) = false
is_inventoried_in session (ReplyState own q rn) = false
is_inventoried_in session (AcknowledgedState own q rn) = own == session
is_inventoried_in session (OpenState held) = held.session == session
is_inventoried_in session (SecuredState held) = held.session == session
is_inventoried_in session KilledState = false
is_inventoried_in session UnpoweredState = false

-- where the recount begins, the tag has flag A in its session, and no Query inverts it first
pub record IsFresh (recount : Recount) (number : ℕ) (tag : TagValue) : Type 0 where
  pub first : recount.target ≡ A
  pub side : side_of (tag_where recount.start recount.before number tag).body.flags recount.session ≡ A
  pub not_inventoried : is_inventoried_in recount.session (tag_where recount.start recount.before number tag).state ≡ false

-- One of the rounds that are said to be sound lists the tag: a record of that round lists the PC and the EPC in its memory, and it is the
-- tag that sent them.
pub record IsListedBySound (recount : Recount) (number : ℕ) (tag : TagValue) : Type 0 where
  pub round : ℕ
  pub from : round_behind recount.before ≤ round
  pub to : round + 1 ≤ round_behind recount.before + length recount.rounds
  pub sound : recount.sound round ≡ true
  pub sent : Record
  pub earlier : List Item
  pub recorded : IsRecordOf (history_with recount) sent earlier
  pub round_is : sent.round ≡ round
  pub sender : sender_listed_by sent ≡ number ∷ []
  pub entry : listed_by sent ≡ listed_as sent (tag_after_query round (history_with recount) number tag).body.memory ∷ []

-- As many rounds are enough where so many may be unsound: two for each of them, and one more where the tag is fresh.
abbrev pub enough_from_fresh : ℕ → ℕ
enough_from_fresh unsound = 2 * unsound + 1

-- As many rounds are enough where so many may be unsound: two for each of them, and two more, whatever the flag and the state of the tag were.
abbrev pub enough_from_any : ℕ → ℕ
enough_from_any unsound = 2 * unsound + 2
