-- The two words of a password.
use Rattle.std.proofs.Common.{◌≡◌, ◌<◌, ◌^◌, ◌+◌, ◌*◌, ◌/◌, ◌%◌, ℕ, List, ◌++◌, take, drop, ap, arith, sym, ◌∙◌}
use Rattle.std.proofs.lemmas.List.{take-append-drop}
use Rattle.text_fields.specs.Hexadecimal.{hex_word}
use Rattle.wire_text.specs.PasswordsAndLocks.{password_text}

-- the password of two words is spelled by these
two_words : (upper lower : ℕ) → lower < 2 ^ 16 → password_text (upper * 65536 + lower) ≡ hex_word upper ++ hex_word lower
two_words upper lower small =
    let high : (upper * 65536 + lower) / 2 ^ 16 ≡ upper = omega arith in
    let low : (upper * 65536 + lower) % 2 ^ 16 ≡ lower = omega arith in
    ap (λ (n : ℕ). hex_word n ++ hex_word ((upper * 65536 + lower) % 2 ^ 16)) high ∙ ap (λ (n : ℕ). hex_word upper ++ hex_word n) low

pub spelled_password : (field : List ℕ) (upper lower : ℕ) → lower < 2 ^ 16 → take 4 field ≡ hex_word upper → drop 4 field ≡ hex_word lower
    → field ≡ password_text (upper * 65536 + lower)
spelled_password field upper lower small first second =
    sym (take-append-drop 4 field) ∙ rw (first, second) (sym (two_words upper lower small))
