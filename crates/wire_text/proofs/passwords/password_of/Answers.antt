-- The two halves of a field spell the two words of a password.
use Rattle.std.proofs.Common.{◌≡◌, ◌^◌, ◌<◌, take, drop, arith, rules}
use Rattle.text_fields.specs.Hexadecimal.{hex_word}
use Rattle.wire_text.proofs.PasswordWords.{spelled_password}
use Rattle.wire_text.proofs.passwords.password_of.Goals as goal

pub returns-clause-value : goal.returns-clause-value
returns-clause-value c =
    let first : take 4 c.args.field.now ≡ hex_word c.from-upper.result = search rules in
    let second : drop 4 c.args.field.now ≡ hex_word c.from-lower.result = search rules in
    let small : c.from-lower.result < 2 ^ 16 = search rules in
    let high : c.from-upper.result < 2 ^ 16 = search rules in
    (spelled_password c.args.field.now c.from-upper.result c.from-lower.result small first second, omega arith)
