-- How long what tags answer is.
use Rattle.std.specs.List.{All}
use Rattle.air_audit.proofs.Names.{List, [], ◌∷◌, Some, IsShortAnswer, few_words, All-cons, All-head, All-nil, All-tail, IsSent, Replied, answer_of, answers_of}
use Rattle.reply_grammar.proofs.Suiting.{spelling-within}

abbrev IsSentReply : Replied → Type 0
IsSentReply replied = IsSent (Some replied.sent)

-- what tags send is no longer than the longest reply
pub short-answers : (replies : List Replied) → All (λ (replied : Replied). IsSent (Some replied.sent)) replies → All IsShortAnswer (answers_of replies)
short-answers [] sent = All-nil IsShortAnswer
short-answers (replied ∷ others) sent =
    let range : IsSent (Some replied.sent) = All-head IsSentReply replied others sent in
    All-cons IsShortAnswer (answer_of replied) (answers_of others)
    (spelling-within replied.sent.reply replied.sent.handle range.0 (few_words replied.sent.reply range.2)).1
    (short-answers others (All-tail IsSentReply replied others sent))
