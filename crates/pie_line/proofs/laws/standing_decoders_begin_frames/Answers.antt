use Rattle.pie_line.proofs.Leads.{standing-begins}
use Rattle.pie_line.proofs.laws.standing_decoders_begin_frames.Goals as goal

pub returns : goal.returns
returns c = λ edges bits intervals stands. standing-begins edges.standing edges.count bits intervals stands
