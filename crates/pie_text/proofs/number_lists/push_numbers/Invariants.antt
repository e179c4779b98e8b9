use Rattle.std.proofs.Common.{◌≡◌, [], suc, length}
use Rattle.std.specs.Option.{option_map_or}
use Rattle.text_fields.specs.Lines.{fields_of}
use Rattle.pie_text.proofs.Numerals.{HoldsBefore}
use Rattle.pie_text.proofs.number_lists.push_numbers.Given as goal

-- the list's capacity stays
abbrev pub invariant-loop-rest : goal.invariant-loop-rest
invariant-loop-rest l = record {
  holds : HoldsBefore l.most_items l.most (fields_of l.line) (option_map_or (λ text. fields_of text.now) l.rest []) l.out.items;
  capacity : l.out.capacity ≡ l.initial.out.capacity;
}

abbrev pub decreases-loop-rest : goal.decreases-loop-rest
decreases-loop-rest l = option_map_or (λ text. suc (length text.now)) l.rest 0
