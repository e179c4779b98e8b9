use Rattle.std.proofs.Common.{◌≡◌, ◌++◌, length}
use Rattle.std.specs.List.{flat_map}
use Rattle.std.specs.String.{string_bytes}
use Rattle.text_fields.specs.Hexadecimal.{hex_word}
use Rattle.text_fields.proofs.hexadecimal.push_parts.Given as goal

-- the words that are still to be written make the text whole
abbrev pub invariant-loop-rest : goal.invariant-loop-rest
invariant-loop-rest l =
    string_bytes l.text ++ flat_map hex_word l.rest ≡ string_bytes l.initial.text ++ flat_map hex_word l.words

abbrev pub decreases-loop-rest : goal.decreases-loop-rest
decreases-loop-rest l = length l.rest
