use Rattle.std.proofs.Common.{length}
use Rattle.decode_lines.proofs.laws.+decode_lines_have_a_text.Given as goal

abbrev pub decreases-decode_lines_have_a_text : goal.decreases-decode_lines_have_a_text
decreases-decode_lines_have_a_text l = length l.input.now
