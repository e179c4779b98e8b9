-- Profile: how passwords and lock bits stand in a text.
use Rattle.std.specs.Prelude.{ℕ, ◌/◌, ◌%◌, ◌^◌, List, [], ◌∷◌, ◌++◌}
use Rattle.text_fields.specs.Binary.{binary_digit}
use Rattle.text_fields.specs.Hexadecimal.{hex_word}
use Rattle.lock_rules.specs.declared.locks.Pair.{Pair}
use Rattle.lock_rules.specs.declared.locks.Locks.{Locks}

-- a password, as its two words
abbrev pub password_text : ℕ → List ℕ
password_text password = hex_word (password / 2 ^ 16) ++ hex_word (password % 2 ^ 16)

-- the two bits of a pair, the write bit first
abbrev pub pair_text : Pair → List ℕ
pair_text pair = binary_digit pair.write_bit ∷ binary_digit pair.permalock ∷ []

-- the ten lock bits, in the order of a Lock's payload (6.3.2.11.3.5)
abbrev pub locks_text : Locks → List ℕ
locks_text locks =
    pair_text locks.kill_word ++ pair_text locks.access_word ++ pair_text locks.epc ++ pair_text locks.tid ++ pair_text locks.user
