-- A line has at most one field more than bytes.
use Rattle.std.proofs.Common.{◌≡◌, ◌+◌, eqb, inl, length, arith, ap, ◌∙◌}
use Rattle.std.specs.List.{count_by}
use Rattle.std.proofs.lemmas.List.Splits.{length-slice_split}
use Rattle.std.proofs.lemmas.List.Sums.{count_by-le-length}
use Rattle.text_fields.specs.Lines.{space}
use Rattle.pie_text.proofs.number_lists.field_count.Goals as goal

pub count-requires-clause-fits : goal.count-requires-clause-fits
count-requires-clause-fits c =
    let count : length c.new.result ≡ count_by (λ each. eqb each space) c.args.line.now + 1 =
    ap length c.new.ensures ∙ length-slice_split (λ each. eqb each space) c.args.line.now in
    inl (omega (arith, count_by-le-length (λ each. eqb each space) c.args.line.now))
