use Rattle.std.proofs.Common.{◌++◌, ◌∙◌, List, ℕ, ap, sym}
use Rattle.std.proofs.lemmas.Result.{IfOk-equal}
use Rattle.text_fields.specs.Hexadecimal.{hex_words}
use Rattle.report_lines.proofs.Digits.{some_digits}
use Rattle.report_lines.proofs.member_texts.set_words.Goals as goal

pub returns : goal.returns
returns c =
    let words = c.args.words.now in
    IfOk-equal _ _ _ _ c.push_words.ensures
    (ap (λ (bytes : List ℕ). bytes ++ hex_words words) c.clear.ensures.bytes ∙ some_digits words (sym c.is_empty.ensures ∙ c.if-is_empty.false))
