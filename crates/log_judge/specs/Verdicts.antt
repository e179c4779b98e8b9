-- What is judged of a log: whether it can be that of a tag that follows the tables, whatever it drew. Profile.
use Rattle.std.specs.Prelude.{◌≡◌, ℕ, ◌<◌, ◌^◌, false, List, [], ◌∷◌, ◌++◌, Option, Some, None, ◌⊎◌}
use Rattle.command_grammar.specs.declared.commands.Command.{Command}
use Rattle.reply_grammar.specs.declared.expected.Reply.TheVariants.{Rn16, Handle}
use Rattle.log_judge.specs.Log.{LogEntry, LoggedTag, Seen, Exchange, last_line}
use Rattle.log_judge.specs.Explaining.{IsAllowed, IsExcused, IsExplained, IsLedBy, Manner, ByTables, WithLiberties, seen_answer_to}

-- what a tag had to answer
pub data Want : Type 0 where
  -- the tag had to send nothing
  Nothing : Want
  -- the tag had to send exactly this
  Exactly : (seen : Seen) → Want
  -- an RN16 that it draws
  AnyRn16 : Want
  -- a handle that it draws, or a cover
  AnyHandle : Want
  -- nothing, or an RN16 that it draws
  NothingOrAnyRn16 : Want

-- the answers that are meant
pub record IsRn16 (answer : Option Seen) : Type 0 where
  pub number : ℕ
  pub range : number < 2 ^ 16
  pub is : answer ≡ Some (record { reply = Rn16 number; extended = false })

-- the answer is a handle or a cover
pub record IsHandle (answer : Option Seen) : Type 0 where
  pub number : ℕ
  pub range : number < 2 ^ 16
  pub is : answer ≡ Some (record { reply = Handle number; extended = false })

-- the answer is one that is meant
abbrev pub Means : Want → Option Seen → Type 0
Means Nothing answer = answer ≡ None
Means (Exactly seen) answer = answer ≡ Some seen
Means AnyRn16 answer = IsRn16 answer
Means AnyHandle answer = IsHandle answer
Means NothingOrAnyRn16 answer = (answer ≡ None) ⊎ IsRn16 answer

-- some words lead the tag through the log, and it then answers this
pub record CanAnswer (manner : Manner) (tag : LoggedTag) (log : List LogEntry) (heard : Option Command) (answer : Option Seen) : Type 0 where
  pub words : List ℕ
  pub led : IsLedBy words manner tag log
  pub answers : seen_answer_to heard led.behind ≡ answer

-- the answers that are meant are those that can come
pub record IsWanted (manner : Manner) (tag : LoggedTag) (log : List LogEntry) (heard : Option Command) (want : Want) : Type 0 where
  pub only : (answer : Option Seen) → CanAnswer manner tag log heard answer → Means want answer
  pub each : (answer : Option Seen) → Means want answer → CanAnswer manner tag log heard answer

-- The answer line of this number is the first up to which, with it, no words do what the log says; and what had to be answered, by the
-- words that do what the log says before it.
pub record FailsFirst (manner : Manner) (tag : LoggedTag) (log : List LogEntry) (number : ℕ) (want : Want) : Type 0 where
  pub before : List LogEntry
  pub heard : Option Command
  pub seen : Option Seen
  pub behind : List LogEntry
  pub cut : log ≡ before ++ Exchange heard seen ∷ behind
  pub allowed : IsAllowed manner tag before
  pub fails : ¬ IsAllowed manner tag (before ++ Exchange heard seen ∷ [])
  pub place : number ≡ last_line (before ++ Exchange heard seen ∷ [])
  pub wanted : IsWanted manner tag before heard want

-- what is said of a log
pub data Verdict : Type 0 where
  -- the log can be that of a tag that follows the tables
  Yes : Verdict
  -- the log can be that of a tag that takes liberties, which the standard leaves and this project doesn't take, the first at the line of this number
  Profile : (number : ℕ) (want : Want) → Verdict
  -- no tag can have this log, not even one that takes liberties: the answer line of this number is the first that can't come
  No : (number : ℕ) (want : Want) → Verdict

-- No words explain the log, some excuse it, and this is the first answer that the tables alone do not give.
pub record IsProfile (tag : LoggedTag) (log : List LogEntry) (number : ℕ) (want : Want) : Type 0 where
  pub unexplained : ¬ IsExplained tag log
  pub excused : IsExcused tag log
  pub first : FailsFirst ByTables tag log number want

-- No words excuse the log, and this is the first answer that no liberty gives.
pub record IsNo (tag : LoggedTag) (log : List LogEntry) (number : ℕ) (want : Want) : Type 0 where
  pub unexcused : ¬ IsExcused tag log
  pub first : FailsFirst WithLiberties tag log number want

-- this is the verdict on the log
abbrev pub IsVerdict : LoggedTag → List LogEntry → Verdict → Type 0
IsVerdict tag log Yes = IsExplained tag log
IsVerdict tag log (Profile number want) = IsProfile tag log number want
IsVerdict tag log (No number want) = IsNo tag log number want
