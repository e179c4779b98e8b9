-- What a contract sees of an answer, of what had to be answered, and of a verdict.
use Rattle.std.specs.Prelude.{ℕ, true, false, Option, Some, None}
use Rattle.reply_grammar.specs.declared.expected.Reply.{Reply}
use Rattle.reply_grammar.specs.declared.expected.Reply.TheVariants as replies
use Rattle.tag_machine.specs.declared.any_tag.Answered.{Answered}
use Rattle.tag_machine.specs.declared.any_tag.Answered.TheVariants.{Silent, Plain, Extended}
use Rattle.log_judge.specs.Log.{Seen}
use Rattle.log_judge.specs.Verdicts as verdicts
use Rattle.log_judge.specs.laws.Known.{want_of_answer}
use Rattle.log_judge.specs.declared.answer.Answer.{Answer}
use Rattle.log_judge.specs.declared.verdict.Want.{Want}
use Rattle.log_judge.specs.declared.verdict.Want.TheVariants as wants
use Rattle.log_judge.specs.declared.verdict.Verdict.{Verdict}
use Rattle.log_judge.specs.declared.verdict.Verdict.TheVariants as judged

-- what is seen where the tag sent this reply, by the mark of its preamble, or nothing
abbrev pub seen_marked : Answered → Reply → Option Seen
seen_marked Silent reply = None
seen_marked Plain reply = Some (record { reply = reply; extended = false })
seen_marked Extended reply = Some (record { reply = reply; extended = true })

-- what is seen of an answer: the reply and its preamble, or none where the tag sends nothing
abbrev pub seen_in : Answer → Option Seen
seen_in answer = seen_marked answer.answered answer.reply

-- the error code of a reply that is an error; none of each other reply
abbrev pub code_of_reply : Reply → Option ℕ
code_of_reply (replies.Rn16 number) = None
code_of_reply (replies.Epc pc epc) = None
code_of_reply (replies.Handle number) = None
code_of_reply (replies.Words words) = None
code_of_reply replies.Header = None
code_of_reply (replies.Error code) = Some code

-- the error code that was seen, or none
abbrev pub code_in : Option Seen → Option ℕ
code_in None = None
code_in (Some seen) = code_of_reply seen.reply

-- what had to be answered, and what is judged
abbrev pub want_in : Want → verdicts.Want
want_in (wants.Exactly answer) = want_of_answer (seen_in answer)
want_in wants.AnyRn16 = verdicts.AnyRn16
want_in wants.AnyHandle = verdicts.AnyHandle
want_in wants.NothingOrAnyRn16 = verdicts.NothingOrAnyRn16

-- what is judged, as the definition of verdicts says it
abbrev pub verdict_in : Verdict → verdicts.Verdict
verdict_in judged.Yes = verdicts.Yes
verdict_in (judged.Profile number want) = verdicts.Profile number (want_in want)
verdict_in (judged.No number want) = verdicts.No number (want_in want)
