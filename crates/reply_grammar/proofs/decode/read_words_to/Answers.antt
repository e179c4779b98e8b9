use Rattle.std.proofs.Common.{refl}
use Rattle.reply_grammar.proofs.decode.read_words_to.Goals as goal

pub returns-in-Words : goal.returns-in-Words
returns-in-Words c = (c.put_words.new.words, refl, c.put_words.ensures)

pub returns : goal.returns
returns c = (c.put_words-in-Words-reply.new.words, refl, c.put_words-in-Words-reply.ensures)
