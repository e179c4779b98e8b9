use Rattle.pie_line.specs.Pie.{wave_of, frame_kind_of}
use Rattle.pie_line.proofs.Bounds.{frame-bounded}
use Rattle.pie_line.proofs.Writing.{wave-frame}
use Rattle.pie_line.proofs.laws.written_frame.Goals as goal

pub returns-clause-frame : goal.returns-clause-frame
returns-clause-frame c = λ link lead bits legal. wave-frame link legal lead bits

pub returns-clause-each : goal.returns-clause-each
returns-clause-each c = λ link lead bits legal.
    frame-bounded (frame_kind_of link lead) bits (wave_of link lead bits) (wave-frame link legal lead bits)
