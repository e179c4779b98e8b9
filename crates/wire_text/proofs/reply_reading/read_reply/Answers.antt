-- What the fields spell is read.
use Rattle.std.proofs.Common.{◌≡◌, ◌∷◌, rules}
use Rattle.text_fields.proofs.NamedFieldLaws.{spelled_behind}
use Rattle.wire_text.specs.ReplyText.{IsReplyForm, replies, reply_name}
use Rattle.wire_text.proofs.ReplyTexts.{reply_told}
use Rattle.wire_text.proofs.reply_reading.read_reply.Goals as goal

pub returns-in-Some-read_behind-clause-only : goal.returns-in-Some-read_behind-clause-only
returns-in-Some-read_behind-clause-only c = λ reply is.
    let first : c.args.fields ≡ reply_name c.in-Some-reply_named.kind ∷ c.next.new.self = search rules in
    reply_told c.args.fields c.in-Some-read_behind.reply reply
    (rw first (spelled_behind replies IsReplyForm c.in-Some-reply_named.kind c.next.new.self c.in-Some-read_behind.reply
    c.in-Some-read_behind.ensures.value)) is
