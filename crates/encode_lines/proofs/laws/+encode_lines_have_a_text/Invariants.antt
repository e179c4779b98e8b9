use Rattle.std.proofs.Common.{length}
use Rattle.encode_lines.proofs.laws.+encode_lines_have_a_text.Given as goal

abbrev pub decreases-encode_lines_have_a_text : goal.decreases-encode_lines_have_a_text
decreases-encode_lines_have_a_text l = length l.input.now
