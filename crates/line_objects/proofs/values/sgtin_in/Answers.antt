use Rattle.std.proofs.Common.{◌^◌, ◌<◌, ◌∙◌, ℕ, List, ap, sym, subst}
use Rattle.std.specs.Prelude.{All}
use Rattle.text_fields.specs.Hexadecimal.{hex_words}
use Rattle.line_objects.proofs.EpcFields.{no_words, refused_words}
use Rattle.line_objects.proofs.values.sgtin_in.Goals as goal

pub returns-in_err-words-clause-none : goal.returns-in_err-words-clause-none
returns-in_err-words-clause-none c =
    rw c.from_residual.ensures (no_words c.sgtin_laws.ensures.apart c.args.field.now (λ words small few spelled. c.in_err-words.ensures.only words small few spelled))

pub returns-clause-none : goal.returns-clause-none
returns-clause-none c =
    let read = c.in_ok-words.ensures.value in
    rw c.ok.ensures.value
    (refused_words c.sgtin_laws.ensures.apart c.args.field.now c.write_to.new.out c.decode.result (read.0 ∙ ap hex_words (sym c.write_to.ensures))
    (subst (λ (words : List ℕ). All (λ word. word < 2 ^ 16) words) (sym c.write_to.ensures) read.2) c.decode.ensures.refused)
