-- What a text says is a log whose numbers are in their ranges.
use Rattle.std.proofs.Common.{◌<◌, ◌^◌, ◌+◌, ℕ, List, [], ◌∷◌, ◌++◌, arith, sym, subst, inl, inr}
use Rattle.std.specs.Prelude.{Option, Some, None}
use Rattle.checked_lines.specs.TextRules.{HasOutcomeFrom, Whole}
use Rattle.log_judge.specs.Log.{LogEntry, LoggedTag, Seen}
use Rattle.log_judge.specs.Log as entries
use Rattle.log_judge.specs.laws.Logs.{IsLegalEntry, IsLegalHeard, IsLegalLog, number_seen, number_of_reply}
use Rattle.bench_lines.specs.ProbeAnswers.{HasEffect}
use Rattle.bench_lines.specs.ProbeLine.{IsProbeLine}
use Rattle.bench_lines.specs.Stimuli.{ProbeLine, Stimulus, StimulusEffect, Does}
use Rattle.bench_lines.specs.Stimuli as said
use Rattle.reply_grammar.specs.declared.expected.Reply.{Reply}
use Rattle.reply_grammar.specs.declared.expected.Reply.TheVariants.{Rn16, Handle}
use Rattle.wire_text.specs.ReplyText.{IsReplyForm}
use Rattle.text_fields.specs.Lines.{lines_of}
use Rattle.bench_lines.specs.SeenLine.{IsSeen}
use Rattle.bench_lines.specs.LogText.{LogGoesTo, IsLogText, LogLeadsTo, LogStanding, asked, begun, behind_effect, ended, log_rules, start, within}

-- an entry more
legal_pushed : (log : List LogEntry) (entry : LogEntry) → IsLegalLog log → IsLegalEntry entry → IsLegalLog (log ++ entry ∷ [])
legal_pushed [] entry are is = (is, tt)
legal_pushed (first ∷ log) entry are is = (are.0, legal_pushed log entry are.1 is)

-- what a tag hears
abbrev pub IsLegalEffect : StimulusEffect → Type 0
IsLegalEffect (said.Hears command) = IsLegalHeard (Some command)
IsLegalEffect said.Nothing = Unit {0}
IsLegalEffect (said.Befalls event) = Unit {0}

pub effect_legal : (stimulus : Stimulus) (effect : StimulusEffect) → IsProbeLine (Does stimulus) → HasEffect stimulus effect → IsLegalEffect effect
effect_legal (said.SendsCommand command) effect is has = subst IsLegalEffect (sym has) is
effect_legal (said.Brings event) effect is has = subst IsLegalEffect (sym has) tt
effect_legal (said.SendsBits bits) (said.Hears command) is has = has.legal
effect_legal (said.SendsBits bits) said.Nothing is has = tt
effect_legal (said.SendsBits bits) (said.Befalls event) is has = tt

-- what it is seen to answer
reply_small : (reply : Reply) → IsReplyForm reply → number_of_reply reply < 2 ^ 16
reply_small (Rn16 number) is = is
reply_small (Handle number) is = is
reply_small reply is = omega arith

seen_small : (seen : Option Seen) → IsSeen seen → number_seen seen < 2 ^ 16
seen_small None is = omega arith
seen_small (Some seen) is = reply_small seen.reply is

-- where a text stands
abbrev IsLegalStanding : LogStanding → Type 0
IsLegalStanding start = Unit {0}
IsLegalStanding begun = Unit {0}
IsLegalStanding (within tag log) = IsLegalLog log
IsLegalStanding (asked tag log heard) = IsLegalLog log × IsLegalHeard heard
IsLegalStanding (ended tag log) = IsLegalLog log

behind_legal : (tag : LoggedTag) (log : List LogEntry) (effect : StimulusEffect) → IsLegalLog log → IsLegalEffect effect → IsLegalStanding (behind_effect tag log effect)
behind_legal tag log (said.Hears command) are is = (are, is)
behind_legal tag log said.Nothing are is = (are, tt)
behind_legal tag log (said.Befalls event) are is = legal_pushed log (entries.Befalls event) are tt

lead_legal : (tag : LoggedTag) (log : List LogEntry) (says : ProbeLine) (to : LogStanding) → IsLegalLog log → IsProbeLine says → LogLeadsTo tag log says to → IsLegalStanding to
lead_legal tag log said.End to are is leads = subst IsLegalStanding (sym leads) are
lead_legal tag log (said.Does stimulus) to are is leads =
    subst IsLegalStanding (sym leads.leads) (behind_legal tag log leads.effect are (effect_legal stimulus leads.effect is leads.has))

goes_legal : (from to : LogStanding) (line : List ℕ) → IsLegalStanding from → LogGoesTo from line to → IsLegalStanding to
goes_legal start to line are goes = subst IsLegalStanding (sym goes.1) tt
goes_legal begun to line are goes = subst IsLegalStanding (sym goes.leads) tt
goes_legal (within tag log) to line are goes = lead_legal tag log goes.says to are goes.spells.is goes.leads
goes_legal (asked tag log heard) to line are goes =
    subst IsLegalStanding (sym goes.leads)
    (legal_pushed log (entries.Exchange heard goes.seen) are.0 (record { heard_is = are.1; seen_is = seen_small goes.seen goes.spells.is }))
goes_legal (ended tag log) to line are goes = absurd goes

from_legal : (from : LogStanding) (number : ℕ) (lines : List (List ℕ)) (tag : LoggedTag) (log : List LogEntry) → IsLegalStanding from
    → HasOutcomeFrom log_rules from number lines (Whole (ended tag log)) → IsLegalLog log
from_legal from number [] tag log are is = absurd is
from_legal from number (line ∷ []) tag log are is = subst IsLegalStanding (sym is.2) are
from_legal from number (line ∷ next ∷ lines) tag log are (inl stops) = absurd stops
from_legal from number (line ∷ next ∷ lines) tag log are (inr more) =
    from_legal more.0 (number + 1) (next ∷ lines) tag log (goes_legal from more.0 line are more.1) more.2

pub log_legal : (bytes : List ℕ) (tag : LoggedTag) (log : List LogEntry) → IsLogText bytes tag log → IsLegalLog log
log_legal bytes tag log is = from_legal start 1 (lines_of bytes) tag log tt is
