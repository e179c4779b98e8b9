use Rattle.std.proofs.Common.{◌≡◌, map, take}
use Rattle.std.specs.Int.{to_be_bytes, w16}
use Rattle.text_fields.proofs.hexadecimal.write_bytes.Given as goal

-- the places so far hold the bytes of their words
abbrev pub invariant-loop-at : goal.invariant-loop-at
invariant-loop-at l = take l.at l.bytes ≡ map (to_be_bytes w16) (take l.at l.words)
