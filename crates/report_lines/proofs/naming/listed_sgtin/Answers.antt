-- A line that has a name is read.
use Rattle.std.proofs.Common.{◌≡◌, arith, sym, subst}
use Rattle.text_fields.specs.Hexadecimal.{hex_words}
use Rattle.epc_sgtin.specs.Epc.{IsSgtin}
use Rattle.report_lines.proofs.OneName.{none_named, six_of}
use Rattle.report_lines.proofs.naming.listed_sgtin.Goals as goal

pub returns-in_err-words-clause-none : goal.returns-in_err-words-clause-none
returns-in_err-words-clause-none c = rw c.from_residual-in_err-words.ensures (λ has.
    let is = has.1 in
    let fields = is.fields in
    let first = c.in_ok-kind.ensures.steps in
    let others = c.in_ok-pc.ensures.value in
    let same : c.in_ok-pc.epc.now ≡ hex_words is.words = cc in
    let six = six_of c.sgtin_laws.ensures.apart has.0 is.words is.epc in
    c.in_err-words.ensures.only is.words (record { some = omega arith; room = omega (arith, six); small = is.epc.sixteens }) same)

pub returns-clause-none : goal.returns-clause-none
returns-clause-none c = rw c.ok.ensures.value (none_named c.sgtin_laws.ensures.apart c.args.line.now c.as_slice-2.result.now c.decode.result c.decode.ensures.refused (λ has.
    let is = has.1 in
    let fields = is.fields in
    let first = c.in_ok-kind.ensures.steps in
    let others = c.in_ok-pc.ensures.value in
    let same : c.in_ok-pc.epc.now ≡ hex_words is.words = cc in
    let six = six_of c.sgtin_laws.ensures.apart has.0 is.words is.epc in
    let words : c.in_ok-words.words ≡ is.words = c.in_ok-words.ensures.only is.words (record { some = omega arith; room = omega (arith, six); small = is.epc.sixteens }) same in
    let read = c.as_slice-2.ensures.value in
    let slice : c.as_slice-2.result.now ≡ is.words = cc in
    (has.0, subst (IsSgtin has.0) (sym slice) is.epc)))
