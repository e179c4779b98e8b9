-- A decoder's answer is the only one.
use Rattle.std.proofs.Common.{◌≡◌, Bool, List, ap}
use Rattle.std.specs.Prelude.{Result, Ok, Err, IfOk, IfErr}
use Rattle.reply_grammar.specs.declared.expected.Expect.{Expect}
use Rattle.reply_grammar.specs.declared.expected.Reply.{Reply}
use Rattle.reply_grammar.specs.declared.expected.ReplyRefusal.{ReplyRefusal}
use Rattle.reply_grammar.specs.Replies.{AnswersExpected}
use Rattle.reply_grammar.specs.Refusals.{RefusesReply}
use Rattle.reply_grammar.specs.laws.Passing.{answers_pass}
use Rattle.reply_grammar.proofs.Replies.{one_reply, one_fault, passes_apart}

pub decided : (result : Result Reply ReplyRefusal) (e : Expect) (bits : List Bool) → IfOk result (λ reply. AnswersExpected reply e bits) → IfErr result (λ refusal. RefusesReply refusal e bits) → (reply : Reply) → AnswersExpected reply e bits → result ≡ Ok reply
decided (Ok found) e bits ok refused reply answers = ap (λ (r : Reply). Ok r) (one_reply found reply e bits ok answers)
decided (Err fault) e bits ok refused reply answers = absurd (passes_apart fault e bits (answers_pass reply e bits answers) refused)

pub decided_first : (result : Result Reply ReplyRefusal) (e : Expect) (bits : List Bool) → IfOk result (λ reply. AnswersExpected reply e bits) → IfErr result (λ refusal. RefusesReply refusal e bits) → (refusal : ReplyRefusal) → RefusesReply refusal e bits → result ≡ Err refusal
decided_first (Ok found) e bits ok refused refusal fault = absurd (passes_apart refusal e bits (answers_pass found e bits ok) fault)
decided_first (Err found) e bits ok refused refusal fault = ap (λ (f : ReplyRefusal). Err f) (one_fault found refusal e bits refused fault)
