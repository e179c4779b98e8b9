-- As std reads numbers.
use Rattle.std.proofs.Common.{◌≡◌, ◌∙◌, ap, sym, subst, arith}
use Rattle.std.specs.Prelude.{Ok}
use Rattle.std.specs.Fmt.{decimal}
use Rattle.std.specs.Str.{IsUtf8}
use Rattle.std.proofs.lemmas.Fmt.{IsAscii-decimal, parse-decimal}
use Rattle.std.proofs.lemmas.Str.{IsUtf8-from_ascii}
use Rattle.line_objects.proofs.values.spelled_number.Goals as goal

pub returns-in_default-clause-only : goal.returns-in_default-clause-only
returns-in_default-clause-only c number small spells =
    absurd (c.in_default.ensures.cases.0 (subst IsUtf8 (sym spells) (IsUtf8-from_ascii (decimal number) (IsAscii-decimal number small))))

pub returns-in_default-parse-clause-only : goal.returns-in_default-parse-clause-only
returns-in_default-parse-clause-only c number small spells =
    let digits = c.in-Ok.ensures.cases.0 ∙ spells in
    let parses : c.parse.result ≡ Ok number = parse-decimal 64 number _ c.parse.result small (omega arith) digits c.parse.ensures.value.0 in
    let none = c.in_default-parse.is in
    absurd cc

pub returns-then-are_same-clause-only : goal.returns-then-are_same-clause-only
returns-then-are_same-clause-only c number small spells =
    let digits = c.in-Ok.ensures.cases.0 ∙ spells in
    let parses : c.parse.result ≡ Ok number = parse-decimal 64 number _ c.parse.result small (omega arith) digits c.parse.ensures.value.0 in
    let found = c.in-Ok-parse.is in
    cc

pub returns-else-are_same-clause-only : goal.returns-else-are_same-clause-only
returns-else-are_same-clause-only c number small spells =
    let digits = c.in-Ok.ensures.cases.0 ∙ spells in
    let parses : c.parse.result ≡ Ok number = parse-decimal 64 number _ c.parse.result small (omega arith) digits c.parse.ensures.value.0 in
    let found = c.in-Ok-parse.is in
    let same : c.in-Ok-parse.number ≡ number = cc in
    let spelled = c.are_same.ensures.1 (c.as_bytes.ensures.value ∙ c.format.ensures.text ∙ ap decimal same ∙ sym spells) in
    let not = c.if-are_same.false in
    absurd cc
