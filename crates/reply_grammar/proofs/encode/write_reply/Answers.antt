use Rattle.std.proofs.Common.{◌≡◌, ℕ, List, ap, sym, ◌∙◌, arith, length}
use Rattle.bit_strings.specs.BitString.{BitString}
use Rattle.reply_grammar.specs.declared.expected.Reply.{Reply}
use Rattle.reply_grammar.specs.declared.expected.Reply.TheVariants.{Rn16, Epc, Handle, Words, Header, Error}
use Rattle.reply_grammar.specs.Replies.{spelling}
use Rattle.reply_grammar.proofs.encode.write_reply.Goals as goal

-- the spelling of the reply that was found
spelled_as : (capacity handle : ℕ) (reply found : Reply) → reply ≡ found → ◌≡◌ {A = BitString} (record { items = spelling found handle; capacity = capacity }) (record { items = spelling reply handle; capacity = capacity })
spelled_as capacity handle reply found is = ap (λ (r : Reply). record { items = spelling r handle; capacity = capacity }) (sym is)

pub encode_words-requires-clause-few : goal.encode_words-requires-clause-few
encode_words-requires-clause-few c = omega (arith, ap length c.as_slice.ensures.value, c.as_slice.ensures.most)

pub returns-in-Rn16-clause-bits : goal.returns-in-Rn16-clause-bits
unfolding spelling
returns-in-Rn16-clause-bits c =
    c.encode_rn16.ensures ∙ spelled_as c.args.out.now.capacity c.args.handle c.args.reply.now (Rn16 c.in-Rn16.rn) c.in-Rn16.is

pub returns-in-Epc-clause-bits : goal.returns-in-Epc-clause-bits
unfolding spelling
returns-in-Epc-clause-bits c =
    c.encode_epc.ensures.bits ∙ spelled_as c.args.out.now.capacity c.args.handle c.args.reply.now (Epc c.in-Epc.pc c.in-Epc.epc) c.in-Epc.is

pub returns-in-Handle-clause-bits : goal.returns-in-Handle-clause-bits
unfolding spelling
returns-in-Handle-clause-bits c =
    c.encode_handle.ensures ∙ spelled_as c.args.out.now.capacity c.args.handle c.args.reply.now (Handle c.in-Handle.number) c.in-Handle.is

pub returns-in-Words-clause-bits : goal.returns-in-Words-clause-bits
returns-in-Words-clause-bits c =
    c.encode_words.ensures.bits
    ∙ ap (λ (words : List ℕ). record { items = spelling (Words words) c.args.handle; capacity = c.args.out.now.capacity }) c.as_slice.ensures.value
    ∙ spelled_as c.args.out.now.capacity c.args.handle c.args.reply.now (Words c.in-Words.words) c.in-Words.is

pub returns-in-Header-clause-bits : goal.returns-in-Header-clause-bits
returns-in-Header-clause-bits c =
    c.encode_header.ensures ∙ spelled_as c.args.out.now.capacity c.args.handle c.args.reply.now Header c.in-Header.is

pub returns-in-Error-clause-bits : goal.returns-in-Error-clause-bits
returns-in-Error-clause-bits c =
    c.encode_error.ensures ∙ spelled_as c.args.out.now.capacity c.args.handle c.args.reply.now (Error c.in-Error.code) c.in-Error.is
