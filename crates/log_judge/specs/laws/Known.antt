-- What is known of a tag behind a log: all but its slot counter, which may be any from 1 on up to one; what it draws besides is heard when
-- it is drawn. The definitions of the verdicts know nothing of this; it is a way to find them.
use Rattle.std.specs.Prelude.{◌≡◌, ℕ, ◌≤◌, ◌==◌, ◌&&◌, ◌||◌, Bool, true, false, List, [], ◌∷◌, Option, Some, None, if◌then◌else◌}
use Rattle.command_grammar.specs.declared.commands.Command.{Command}
use Rattle.command_grammar.specs.declared.commands.Command.TheVariants as commands
use Rattle.tag_machine.specs.Events.{tag_after_event}
use Rattle.tag_machine.specs.TagValue.{StateValue, ArbitrateState, BodyValue, TagValue}
use Rattle.log_judge.specs.Log.{LogEntry, Seen, Exchange, Befalls}
use Rattle.log_judge.specs.Explaining.{Allows, Manner, seen_of}
use Rattle.log_judge.specs.Verdicts.{Want, Nothing, Exactly, AnyRn16, AnyHandle, NothingOrAnyRn16}
use Rattle.log_judge.specs.laws.Logs.{number_seen}
use Rattle.log_judge.specs.laws.Kinds.{Kind, Settled, Enters, Replies, Gives, ArbitrateMove, Stays, Leaves, Counts, kind_of, move_of, reworded}

-- the tag; where its slot may be any, it is one from 1 to the slot counter of the tag
pub record Known : Type 0 where
  pub tag : TagValue
  pub any : Bool

-- a command at which a tag may draw a slot
abbrev pub draws_slot : Option Command → Bool
draws_slot (Some (commands.Query dr line_code trext sel session target q)) = true
draws_slot (Some (commands.QueryAdjust session updn)) = true
draws_slot heard = false

-- A tag that answers drew slot 0. Of one that doesn't, the largest slot is kept.
abbrev pub slot_word : Option Seen → ℕ
slot_word None = 0xFFFF
slot_word (Some seen) = 0

-- the words that let a tag answer what was seen, where any do
abbrev pub guessed : Option Command → Option Seen → List ℕ
guessed heard seen = (if draws_slot heard then slot_word seen else number_seen seen) ∷ number_seen seen ∷ []

-- a tag in arbitrate with another slot
abbrev pub at_slot : ℕ → StateValue → StateValue
at_slot slot (ArbitrateState session q old) = ArbitrateState session q slot
at_slot slot state = state

-- a tag that answers had slot 1, where that isn't known
abbrev pub placed : Bool → Option Seen → StateValue → StateValue
placed false seen state = state
placed true None state = state
placed true (Some seen) state = at_slot 1 state

-- the tag that is put through an entry
abbrev pub prepared : Known → Option Command → Option Seen → TagValue
prepared known heard seen = record {
  state = placed known.any seen known.tag.state;
  body = reworded (guessed heard seen) 0 known.tag.body;
}

-- the tag is in arbitrate
abbrev pub waits : StateValue → Bool
waits (ArbitrateState session q slot) = true
waits state = false

-- a slot is drawn
abbrev pub is_enters : Kind → Bool
is_enters (Enters session q body) = true
is_enters kind = false

-- The slot is any behind ENTER, and then as long as the tag waits.
abbrev pub any_behind : Known → Option Command → StateValue → Bool
any_behind known heard state = (known.any || is_enters (kind_of heard known.tag.state known.tag.body)) && waits state

-- what is known behind an entry, where the tag may do what it says
abbrev pub Follows : Manner → Known → LogEntry → Known → Type 0
Follows manner known (Exchange heard seen) next =
    Allows manner (Exchange heard seen) (prepared known heard seen) next.tag × (next.any ≡ any_behind known heard next.tag.state)
Follows manner known (Befalls event) next =
    (next.tag ≡ tag_after_event event known.tag.state known.tag.body) × (next.any ≡ (known.any && waits next.tag.state))

-- what has to be answered
abbrev pub want_of_answer : Option Seen → Want
want_of_answer None = Nothing
want_of_answer (Some seen) = Exactly seen

-- what has to be answered to a command of this kind
abbrev pub want_of_kind : Kind → Want
want_of_kind (Settled outcome) = want_of_answer (seen_of outcome.answer)
want_of_kind (Enters session q body) = (if q == 0 then AnyRn16 else NothingOrAnyRn16)
want_of_kind (Replies session q body) = AnyRn16
want_of_kind (Gives state body) = AnyHandle

-- what has to be answered in arbitrate, where the slot may be any up to this
abbrev pub want_of_move : ArbitrateMove → ℕ → Want
want_of_move Stays most = Nothing
want_of_move (Leaves kind) most = want_of_kind kind
want_of_move (Counts session) most = (if most == 1 then AnyRn16 else NothingOrAnyRn16)

-- what a tag whose slot may be any has to answer to what it heard
abbrev pub want_at : Option Command → StateValue → BodyValue → Want
want_at heard (ArbitrateState session q slot) body = want_of_move (move_of heard session q body) slot
want_at heard state body = Nothing

-- what has to be answered to what was heard
abbrev pub want_of : Known → Option Command → Want
want_of known heard = (if known.any then want_at heard known.tag.state known.tag.body else want_of_kind (kind_of heard known.tag.state known.tag.body))

-- the tags that are meant: with these words, from this place on
pub record IsWithin (known state : StateValue) : Type 0 where
  pub session : ℕ
  pub q : ℕ
  pub most : ℕ
  pub slot : ℕ
  pub known_is : known ≡ ArbitrateState session q most
  pub is : state ≡ ArbitrateState session q slot
  pub least : 1 ≤ slot
  pub within : slot ≤ most

-- a state that is meant, where the slot may be any or not
abbrev pub CoversState : Bool → StateValue → StateValue → Type 0
CoversState false known state = state ≡ known
CoversState true known state = IsWithin known state

-- a tag that is meant
pub record Covers (words : List ℕ) (place : ℕ) (known : Known) (tag : TagValue) : Type 0 where
  pub state : CoversState known.any known.tag.state tag.state
  pub body : tag.body ≡ reworded words place known.tag.body
