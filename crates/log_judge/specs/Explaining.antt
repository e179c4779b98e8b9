-- When words explain a log, or excuse it: put through the log, a tag that draws these words answers what the log says. What a tag makes
-- of a command is that of Annex B and Annex C. That two liberties are granted to it, and no others, is profile.
use Rattle.std.specs.Prelude.{◌≡◌, ◌≢◌, ℕ, Bool, true, false, List, [], ◌∷◌, Option, Some, None, ◌⊎◌}
use Rattle.command_grammar.specs.declared.commands.Command.{Command}
use Rattle.command_grammar.specs.declared.commands.Command.TheVariants as commands
use Rattle.reply_grammar.specs.declared.expected.Reply.TheVariants.{Error}
use Rattle.tag_machine.specs.Answers.{Outcome, Sent, silent}
use Rattle.tag_machine.specs.Events.{tag_after_event}
use Rattle.tag_machine.specs.Step.{step}
use Rattle.tag_machine.specs.TagValue.{TagValue}
use Rattle.log_judge.specs.Log.{AreDrawn, LogEntry, LoggedTag, Seen, Exchange, Befalls, tag_with}

-- an answer as it is seen
abbrev pub seen_of : Option Sent → Option Seen
seen_of None = None
seen_of (Some sent) = Some (record { reply = sent.reply; extended = sent.extended })

-- what comes of what was heard: bits that spell no command leave the tag as it is, and unanswered
abbrev pub outcome_of_heard : Option Command → TagValue → Outcome
outcome_of_heard None tag = silent tag.state tag.body
outcome_of_heard (Some command) tag = step command tag.state tag.body

-- what is seen of a tag's answer to what it heard; none where it sends nothing
abbrev pub seen_answer_to : Option Command → TagValue → Option Seen
seen_answer_to heard tag = seen_of (outcome_of_heard heard tag).answer

-- The tag answers what the entry says, and becomes this.
abbrev pub Explains : LogEntry → TagValue → TagValue → Type 0
Explains (Exchange heard seen) tag behind = (seen_answer_to heard tag ≡ seen) × (behind ≡ (outcome_of_heard heard tag).tag)
Explains (Befalls event) tag behind = behind ≡ tag_after_event event tag.state tag.body

-- Annex I: a tag may send an error code of its own. The tag answers an error; the entry says one with another code, whichever (profile),
-- and the same preamble.
pub record IsOtherError (answer seen : Option Seen) : Type 0 where
  pub code : ℕ
  pub other : ℕ
  pub extended : Bool
  pub answered : answer ≡ Some (record { reply = Error code; extended = extended })
  pub said : seen ≡ Some (record { reply = Error other; extended = extended })
  pub apart : other ≢ code

-- The tag sends an error with a code of its own, and becomes what it becomes by the tables.
pub record TakesCode (heard : Option Command) (seen : Option Seen) (tag behind : TagValue) : Type 0 where
  pub other : IsOtherError (seen_answer_to heard tag) seen
  pub becomes : behind ≡ (outcome_of_heard heard tag).tag

-- 6.3.2.11.3 Access commands: those that a tag need not have
abbrev pub is_optional : Option Command → Bool
is_optional (Some (commands.Access covered rn)) = true
is_optional (Some (commands.BlockWrite bank pointer words rn)) = true
is_optional (Some (commands.BlockErase bank pointer count rn)) = true
is_optional heard = false

-- The tables answer such a command, and the entry says that the tag sent nothing: the tag has no such command, and is as before.
pub record LacksCommand (heard : Option Command) (seen : Option Seen) (tag behind : TagValue) : Type 0 where
  pub optional : is_optional heard ≡ true
  pub answered : seen_answer_to heard tag ≢ None
  pub silent : seen ≡ None
  pub stays : behind ≡ tag

-- The tag answers what the entry says, or does so with one of the two liberties, and becomes this.
abbrev pub Excuses : LogEntry → TagValue → TagValue → Type 0
Excuses (Exchange heard seen) tag behind =
    Explains (Exchange heard seen) tag behind ⊎ (TakesCode heard seen tag behind ⊎ LacksCommand heard seen tag behind)
Excuses (Befalls event) tag behind = Explains (Befalls event) tag behind

-- by the tables alone, or with the liberties too
pub data Manner : Type 0 where
  ByTables : Manner
  WithLiberties : Manner

-- the tag may do what the entry says, in this manner, and becomes this
abbrev pub Allows : Manner → LogEntry → TagValue → TagValue → Type 0
Allows ByTables entry tag behind = Explains entry tag behind
Allows WithLiberties entry tag behind = Excuses entry tag behind

-- the tag does what the entries of a log say, one after another, and becomes this
abbrev pub Leads : Manner → List LogEntry → TagValue → TagValue → Type 0
Leads manner [] tag behind = behind ≡ tag
Leads manner (entry ∷ log) tag behind = (next : TagValue) × Allows manner entry tag next × Leads manner log next behind

-- a tag that draws these words does what the log says
pub record IsLedBy (words : List ℕ) (manner : Manner) (tag : LoggedTag) (log : List LogEntry) : Type 0 where
  pub drawn : AreDrawn words
  pub behind : TagValue
  pub leads : Leads manner log (tag_with tag words) behind

-- some words explain the log
pub record IsExplained (tag : LoggedTag) (log : List LogEntry) : Type 0 where
  pub words : List ℕ
  pub explain : IsLedBy words ByTables tag log

-- some words excuse it
pub record IsExcused (tag : LoggedTag) (log : List LogEntry) : Type 0 where
  pub words : List ℕ
  pub excuse : IsLedBy words WithLiberties tag log

-- some words do what the log says, in this manner
abbrev pub IsAllowed : Manner → LoggedTag → List LogEntry → Type 0
IsAllowed ByTables tag log = IsExplained tag log
IsAllowed WithLiberties tag log = IsExcused tag log
