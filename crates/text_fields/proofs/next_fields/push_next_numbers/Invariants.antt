use Rattle.std.proofs.Common.{◌≡◌, ◌++◌, map, take}
use Rattle.std.specs.Fmt.{decimal}
use Rattle.std.specs.String.{string_bytes}
use Rattle.text_fields.specs.Lines.{fields_behind}
use Rattle.text_fields.proofs.next_fields.push_next_numbers.Given as goal

-- the text has gained the numbers so far
abbrev pub invariant-loop-number : goal.invariant-loop-number
invariant-loop-number l =
    string_bytes l.text ≡ string_bytes l.initial.text ++ fields_behind (map decimal (take l.number-index l.numbers))
