use Rattle.reply_grammar.proofs.Replies.{answers_from}
use Rattle.reply_grammar.proofs.Suiting.{spelling-within}
use Rattle.reply_grammar.proofs.encode.encode_reply.Goals as goal

pub returns-clause-answers : goal.returns-clause-answers
returns-clause-answers c = λ expect suits carries.
    rw c.write_reply.ensures.bits (answers_from c.args.reply.now expect c.args.handle suits carries c.write_reply.ensures.in_range c.ranges.handle.fits)

pub returns-clause-least : goal.returns-clause-least
returns-clause-least c = rw c.write_reply.ensures.bits (spelling-within c.args.reply.now c.args.handle c.write_reply.ensures.in_range c.write_reply.ensures.few_words).0

pub returns-clause-most : goal.returns-clause-most
returns-clause-most c = rw c.write_reply.ensures.bits (spelling-within c.args.reply.now c.args.handle c.write_reply.ensures.in_range c.write_reply.ensures.few_words).1
