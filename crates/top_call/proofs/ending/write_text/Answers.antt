use Rattle.std.proofs.Common.{rules}
use Rattle.top_call.proofs.Ends.{part_written}
use Rattle.top_call.proofs.ending.write_text.Goals as goal

pub returns-in_err-write_all : goal.returns-in_err-write_all
returns-in_err-write_all g c =
    let written = c.in_err-write_all.ensures in
    part_written c.args.wrote _ c.args.text.now _ (search rules) written.failed written.part
