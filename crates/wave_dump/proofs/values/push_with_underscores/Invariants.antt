use Rattle.std.proofs.Common.{◌≡◌, ◌++◌, map}
use Rattle.std.specs.List.{join_with_byte}
use Rattle.std.specs.String.{string_bytes}
use Rattle.wave_dump.proofs.FieldsWithByte.{IsFirst}
use Rattle.wave_dump.proofs.values.push_with_underscores.Given as goal

abbrev pub invariant-loop-field : goal.invariant-loop-field
invariant-loop-field l =
    (string_bytes l.text ≡ string_bytes l.initial.text ++ join_with_byte 95 (map (λ field. field.now) l.yielded)) × IsFirst l.first l.yielded
