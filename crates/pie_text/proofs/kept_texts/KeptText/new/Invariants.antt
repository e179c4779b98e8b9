use Rattle.std.proofs.Common.{◌≡◌, ◌*◌, ◌≤◌, length, map, take}
use Rattle.std.specs.Fmt.{decimal}
use Rattle.std.specs.Str.{IsAscii}
use Rattle.text_fields.specs.Lines.{fields_behind}
use Rattle.pie_text.proofs.kept_texts.KeptText.new.Given as goal

-- the text is that of the intervals so far, which have eleven bytes each at most
abbrev pub invariant-loop-interval : goal.invariant-loop-interval
invariant-loop-interval g l = record {
  spelled : l.spelled.bytes ≡ fields_behind (map decimal (take l.interval-index l.intervals));
  short : length l.spelled.bytes ≤ 11 * l.interval-index;
  ascii : IsAscii l.spelled.bytes;
}
