use Rattle.std.proofs.Common.{◌≡◌, ◌==◌, map, take}
use Rattle.bit_strings.proofs.bits.write_matches.Given as goal

-- the places so far tell whether their bytes are the wanted one
abbrev pub invariant-loop-at : goal.invariant-loop-at
invariant-loop-at l =
    take l.at l.bits ≡ map (λ byte. byte == l.one) (take l.at l.bytes)
