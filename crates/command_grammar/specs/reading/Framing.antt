-- Profile: what a contract sees of a Framer, and what reading gives from each of its states for the bits that are still to
-- come. It keeps no bits but those of a mask and of words; what is pushed behind the first place of refusal changes nothing.
use Rattle.std.specs.Prelude.{◌≡◌, ℕ, ◌+◌, ◌≤◌, Bool, List, [], ◌∷◌, ◌++◌, length, Option, Some, None, Result, Err}
use Rattle.bit_strings.specs.NumbersInBits.{value_of}
use Rattle.command_grammar.specs.Commands.{command_fields_of, command_of, IsCommandRefusedAt}
use Rattle.command_grammar.specs.reading.Readers.{Stop, ◌>>=◌, child, none, next_at, Bad}
use Rattle.command_grammar.specs.reading.Codes.{bits_of_front, behind_code}
use Rattle.command_grammar.specs.reading.CommandFields.{all_of, only_whole, run}
use Rattle.command_grammar.specs.reading.FieldStages.{stage_from}
use Rattle.command_grammar.specs.reading.FieldRanges.{AreFieldsInRange, IsEdge, number_bits}
use Rattle.command_grammar.specs.reading.KnownBits.{known_bits, next_bit, known_from}
use Rattle.command_grammar.specs.reading.CheckNumbers.{IsRegisterOf, check_kept, AreServed}
use Rattle.command_grammar.specs.declared.commands.Command.{Command}
use Rattle.command_grammar.specs.declared.reader.check.Check.{Check}
use Rattle.command_grammar.specs.declared.kinds.CommandKind.{CommandKind}
use Rattle.command_grammar.specs.declared.fields.Field.{Field}
use Rattle.command_grammar.specs.declared.reader.fields.Fields.{Fields}
use Rattle.command_grammar.specs.declared.reader.command_in_progress.Position.{Position}
use Rattle.command_grammar.specs.declared.reader.command_in_progress.Position.TheVariants as positions
use Rattle.command_grammar.specs.declared.reader.command_in_progress.State.{State}
use Rattle.command_grammar.specs.declared.refusal.Pushed.{Pushed}
use Rattle.command_grammar.specs.declared.refusal.Pushed.TheVariants as pushed
use Rattle.command_grammar.specs.declared.refusal.Reason.{Reason}
use Rattle.command_grammar.specs.declared.refusal.Reason.TheVariants as reasons

-- what reading gives from a position on; `whole` has all bits from the code on
abbrev pub resume : CommandKind → Position → List Field → Fields → List Bool → List Bool → Result Command Stop
resume kind (positions.Code front) behind v whole bits = next_at (behind_code front) reasons.Code bits >>= λ x. run (command_fields_of x.0) x.0 v whole x.1
resume kind (positions.Within stage) behind v whole bits = stage_from stage v bits >>= λ x. run behind kind x.0 whole x.1
resume kind (positions.Known reason number) behind v whole bits = known_from reason number v bits >>= λ x. run behind kind x.0 whole x.1
resume kind positions.Whole behind v whole bits = only_whole (command_of kind v) bits

-- in the code its bits are known, and behind it the command's check number goes along, with bits that are known before they come
abbrev pub CheckGoesAlong : Position → Check → List Bool → Type 0
CheckGoesAlong (positions.Code front) check bits = bits ≡ bits_of_front front
CheckGoesAlong (positions.Within stage) check bits = IsRegisterOf check bits
CheckGoesAlong (positions.Known reason number) check bits = IsRegisterOf check (bits ++ known_bits number)
CheckGoesAlong positions.Whole check bits = Unit {0}

-- the check number that goes along is the one that the fields ask for
abbrev pub IsServed : Position → Check → List Field → Type 0
IsServed (positions.Code front) check behind = Unit {0}
IsServed (positions.Within stage) check behind = AreServed (check_kept check) behind
IsServed (positions.Known reason number) check behind = AreServed (check_kept check) behind
IsServed positions.Whole check behind = Unit {0}

-- the state stands for these bits: whatever comes behind them, reading goes on from the state
pub record StateStandsFor (s : State) (bits : List Bool) : Type 0 where
  pub counted : CheckGoesAlong s.position s.check bits
  pub served : IsServed s.position s.check s.behind.now
  pub reads : (rest : List Bool) → all_of (bits ++ rest) ≡ resume s.kind s.position s.behind.now s.fields (bits ++ rest) rest

-- how many bits the number has that is read next
abbrev pub bits_of_number : Position → ℕ
bits_of_number (positions.Within stage) = number_bits stage
bits_of_number other = 0

-- of a number these bits were read, and some are still to come; or no number is being read
pub record HasDigits (s : State) (read : List Bool) : Type 0 where
  pub wide : length read + s.left ≡ bits_of_number s.position
  pub value : s.value ≡ value_of read
  pub nothing : s.left ≡ 0 → read ≡ []

-- the bits, so many, were read: up to a number, and then of it, where one is being read
pub record HasRead (s : State) (pushed : ℕ) (bits : List Bool) : Type 0 where
  pub before : List Bool
  pub read : List Bool
  pub split : bits ≡ before ++ read
  pub digits : HasDigits s read
  pub stands : StateStandsFor s before
  pub count : pushed ≡ length bits

-- what was read of the field is in its range
abbrev pub IsSoundPosition : Position → Fields → Type 0
IsSoundPosition (positions.Code front) v = Unit {0}
IsSoundPosition (positions.Within stage) v = AreFieldsInRange stage v
IsSoundPosition (positions.Known reason number) v = number.behind ≤ 15
IsSoundPosition positions.Whole v = Unit {0}

-- the bit ends a run of a field or of bits that are known, or is another than the one that is known, or is none of a run, or no code goes on with it, or it stands behind a command
abbrev pub IsAtEdge : Position → Bool → Type 0
IsAtEdge (positions.Code front) bit = child (behind_code front) bit ≡ none
IsAtEdge (positions.Within stage) bit = IsEdge stage bit
IsAtEdge (positions.Known reason number) bit = bit ≡ next_bit number → number.behind ≡ 0
IsAtEdge positions.Whole bit = Unit {0}

-- what comes of one bit more: a state that stands for the bits, or a refusal at the bit, whatever follows
abbrev pub TakesBit : Option Reason → State → List Bool → Bool → Type 0
TakesBit None s bits bit = StateStandsFor s (bits ++ bit ∷ [])
TakesBit (Some reason) s bits bit = (rest : List Bool) → all_of (bits ++ bit ∷ rest) ≡ Err (Bad (length rest + 1) reason)

-- what was read, how many bits that is, and the refusal, with its place and reason, where there was one
pub record FramerValue : Type 0 where
  pub state : State
  pub pushed : ℕ
  pub refused : Option (ℕ × Reason)

-- these bits were read, or they are refused so
abbrev pub Keeps : State → ℕ → Option (ℕ × Reason) → List Bool → Type 0
Keeps state count None bits = HasRead state count bits
Keeps state count (Some refusal) bits = IsCommandRefusedAt bits refusal.0 refusal.1

-- the value stands for this list of bits
abbrev pub FramerStandsFor : FramerValue → List Bool → Type 0
FramerStandsFor value bits = Keeps value.state value.pushed value.refused bits

-- the refusal of a command that the answer of a Framer tells
abbrev pub refusal_in : Pushed → Option (ℕ × Reason)
refusal_in pushed.More = None
refusal_in pushed.Whole = None
refusal_in (pushed.Bad place reason) = Some (place, reason)

-- bits that are not refused are some bits that were read; behind a refusal nothing is read
abbrev pub IsOpen : State → ℕ → Option (ℕ × Reason) → Type 0
IsOpen state count None = IsSoundPosition state.position state.fields × (bits : List Bool) × HasRead state count bits
IsOpen state count (Some refusal) = (state.position ≡ positions.Whole) × HasDigits state []
