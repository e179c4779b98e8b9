-- The text of numbers is ASCII.
use Rattle.std.proofs.Common.{map, take}
use Rattle.std.specs.Fmt.{decimal}
use Rattle.std.proofs.lemmas.Str.{IsAscii-append}
use Rattle.text_fields.specs.Lines.{fields_behind}
use Rattle.pie_text.proofs.PairTexts.{fields_ascii}
use Rattle.pie_text.proofs.kept_intervals.KeptIntervals.put_pair.Goals as goal

pub returns-clause-ascii : goal.returns-clause-ascii
returns-clause-ascii c = λ ascii.
    let pair = c.args.pair.now in
    rw (c.put.ensures.text, c.keep.ensures)
    (IsAscii-append (take c.args.filled c.args.self.now.room) (fields_behind (map decimal pair)) ascii (fields_ascii pair c.fits-pair))
