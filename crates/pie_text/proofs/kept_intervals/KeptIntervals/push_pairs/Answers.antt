-- The room has the text of one pair more.
use Rattle.std.proofs.Common.{◌∙◌, arith, take}
use Rattle.std.specs.String.{string_bytes}
use Rattle.pie_text.proofs.PairTexts.{fields_more}
use Rattle.pie_text.proofs.kept_intervals.KeptIntervals.push_pairs.Goals as goal

pub loop-pair-preserved : goal.loop-pair-preserved
loop-pair-preserved c =
    let so_far = c.loop-pair.invariant in
    let place = c.in_ok-filled.ensures in
    let put = c.put_pair-filled.ensures in
    let split = c.in-Some.ensures.cases in
    record {
      whole =
          fields_more (string_bytes c.loop-pair.text) (take c.loop-pair.filled c.loop-pair.self.room) (string_bytes c.make_place.new.text)
          (take c.in_ok-filled.filled c.loop-pair.self.room) (take c.put_pair-filled.result c.put_pair-filled.new.self.room) 4
          c.loop-pair.rest.now c.in-Some.pair.now c.in-Some.behind.now place.text put.text split.0 split.1
          ∙ so_far.whole;
      few = omega (arith, put.end, place.place);
      ascii = put.ascii place.ascii;
    }
