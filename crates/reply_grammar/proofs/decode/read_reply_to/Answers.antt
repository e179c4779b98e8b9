use Rattle.std.proofs.Common.{sym, ◌∙◌}
use Rattle.std.proofs.lemmas.Bool.{eqb-true, eqb-false}
use Rattle.reply_grammar.specs.laws.PassingReplies.{rn16_passed, handle_passed, same_passed, words_passed, any_words_passed, header_passed, words_error, any_words_error, header_error}
use Rattle.reply_grammar.proofs.decode.read_reply_to.Goals as goal

pub returns-in-Rn16 : goal.returns-in-Rn16
returns-in-Rn16 c = rw c.put_rn16.ensures (rn16_passed c.args.expect.now c.args.bits.now.items c.word_at.result c.in-Rn16.is c.requires c.word_at.ensures)

pub returns-in-Epc : goal.returns-in-Epc
returns-in-Epc c = rw c.in-Epc.is c.read_epc_to.ensures

pub returns-in-Handle : goal.returns-in-Handle
returns-in-Handle c = rw c.put_handle.ensures (handle_passed c.args.expect.now c.args.bits.now.items c.word_at-in-Handle.result c.in-Handle.is c.requires c.word_at-in-Handle.ensures)

pub returns-in-Same : goal.returns-in-Same
returns-in-Same c = rw c.put_handle-in-Same.ensures (same_passed c.args.expect.now c.args.bits.now.items c.word_at-in-Same.result _ c.in-Same.is c.requires c.word_at-in-Same.ensures)

pub returns-then-is_error : goal.returns-then-is_error
returns-then-is_error c =
    words_error c.args.expect.now c.args.bits.now.items _ _ c.error_code.result c.in-Words.is c.requires (eqb-true _ 41 (sym c.is_error.ensures ∙ c.if-is_error.true)) c.error_code.ensures

pub returns-then-is_error-2 : goal.returns-then-is_error-2
returns-then-is_error-2 c =
    any_words_error c.args.expect.now c.args.bits.now.items _ c.error_code-then-is_error-2.result c.in-AnyWords.is c.requires (eqb-true _ 41 (sym c.is_error-in-AnyWords.ensures ∙ c.if-is_error-2.true)) c.error_code-then-is_error-2.ensures

pub returns-then-is_error-3 : goal.returns-then-is_error-3
returns-then-is_error-3 c =
    header_error c.args.expect.now c.args.bits.now.items _ c.error_code-then-is_error-3.result c.in-Header.is c.requires (eqb-true _ 41 (sym c.is_error-in-Header.ensures ∙ c.if-is_error-3.true)) c.error_code-then-is_error-3.ensures

pub returns-else-is_error : goal.returns-else-is_error
returns-else-is_error c =
    let read = c.read_words_to.ensures in
    rw (read.1) (words_passed c.args.expect.now c.args.bits.now.items _ _ read.0 c.in-Words.is c.requires (eqb-false _ 41 (sym c.is_error.ensures ∙ c.if-is_error.false)) read.2)

pub returns-else-is_error-2 : goal.returns-else-is_error-2
returns-else-is_error-2 c =
    let read = c.read_words_to-in-AnyWords.ensures in
    rw (read.1) (any_words_passed c.args.expect.now c.args.bits.now.items _ read.0 c.in-AnyWords.is c.requires (eqb-false _ 41 (sym c.is_error-in-AnyWords.ensures ∙ c.if-is_error-2.false)) read.2)

pub returns-else-is_error-3 : goal.returns-else-is_error-3
returns-else-is_error-3 c =
    rw c.put_header.ensures (header_passed c.args.expect.now c.args.bits.now.items _ c.in-Header.is c.requires (eqb-false _ 41 (sym c.is_error-in-Header.ensures ∙ c.if-is_error-3.false)))
