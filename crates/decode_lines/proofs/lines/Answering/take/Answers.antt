-- Each line that ends in the piece is answered, or is the first faulty one.
use Rattle.std.proofs.Common.{◌≡◌, ◌≢◌, [], ◌++◌, arith, length, ap, rules, ◌∙◌, length-append}
use Rattle.std.specs.Prelude.{None, ◌∷◌}
use Rattle.std.specs.String.{string_bytes}
use Rattle.std.proofs.lemmas.List.Elements.{All-nil}
use Rattle.text_fields.specs.Lines.{line_feed}
use Rattle.checked_lines.specs.laws.AnsweredLines.{answers_more, answers_piece, fault_here}
use Rattle.decode_lines.specs.Answer.{decode_rules}
use Rattle.decode_lines.proofs.AnsweredLines.{none_known, line_cut, line_lacks, told_reason, answered_line}
use Rattle.decode_lines.proofs.lines.Answering.take.Goals as goal

pub loop-end-init : goal.loop-end-init
loop-end-init c =
    let begun : c.args.self.now.fault ≡ None = search rules in
    record {
      answered = λ input stands.
          (answers_piece decode_rules input c.args.self.now.part.items c.args.piece.now (string_bytes c.args.self.now.text) c.args.self.now.number stands.0, stands.1);
      begun = begun;
      none = begun;
      number = omega arith;
    }

pub returns-in-Err-clause-stands : goal.returns-in-Err-clause-stands
returns-in-Err-clause-stands c = λ input stands more.
    let part = c.loop-end.self.part.items in
    let end = c.in-Some.end.now in
    let behind = c.in-Some.behind.now in
    let so_far = c.loop-end.invariant.answered input (none_known _ input _ _ _ c.loop-end.invariant.begun stands) in
    rw c.end_line.ensures.number (fault_here decode_rules (input ++ c.args.piece.now) (part ++ c.loop-end.rest.now) more _ (record {
      line = part ++ end;
      behind = behind;
      cut = line_cut part c.loop-end.rest.now end behind c.in-Some.ensures.cut;
      lacks = line_lacks part end so_far.1 c.in-Some.ensures.first;
    }) c.in-Err.reason so_far.0.asks
    (told_reason _ _ c.in-Err.reason c.in-Err.is c.in_ok-reason.ensures.refused))

pub loop-end-preserved : goal.loop-end-preserved
loop-end-preserved c =
    let part = c.loop-end.self.part.items in
    let end = c.in-Some.end.now in
    let behind = c.in-Some.behind.now in
    let none : c.end_line.new.self.part.items ≡ [] = c.in_ok-reason.ensures.none in
    record {
      answered = λ input stands.
          let so_far = c.loop-end.invariant.answered input stands in
          let more = answers_more decode_rules (input ++ c.args.piece.now) (part ++ c.loop-end.rest.now) _ (string_bytes c.end_line.new.self.text) _ (record {
            line = part ++ end;
            behind = behind;
            cut = line_cut part c.loop-end.rest.now end behind c.in-Some.ensures.cut;
            lacks = line_lacks part end so_far.1 c.in-Some.ensures.first;
          }) so_far.0
          (answered_line _ _ c.in_default-2.field-0 c.in_default-2.is c.in_ok-reason.ensures.ok) in
          rw (none, c.end_line.ensures.number) (more, All-nil (λ byte. byte ≢ line_feed));
      begun = c.loop-end.invariant.begun;
      none = c.end_line.ensures.fault ∙ c.loop-end.invariant.none;
      number = omega (arith, c.end_line.ensures.number, c.loop-end.invariant.number, ap length c.in-Some.ensures.cut, length-append end (line_feed ∷ behind));
    }
