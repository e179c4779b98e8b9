use Rattle.std.proofs.Common.{length}
use Rattle.line_objects.proofs.line_members.+keys_in.Given as goal

abbrev pub decreases-keys_in : goal.decreases-keys_in
decreases-keys_in l = length l.rows.now
