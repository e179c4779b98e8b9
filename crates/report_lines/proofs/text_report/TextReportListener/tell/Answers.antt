use Rattle.std.proofs.Common.{◌≡◌, ℕ, Bool, List, [], ◌∷◌, ◌++◌, Option, None, sym, ap, ◌∙◌, subst}
use Rattle.std.specs.Result.{result_err}
use Rattle.report_lines.proofs.Adding.{added-nothing, not-both, not-met, without-fault}
use Rattle.report_lines.specs.Line.{line_of}
use Rattle.report_lines.specs.TextReport.{IsAdded, text_from}
use Rattle.report_lines.proofs.GrowingText.{spelling_behind-more, text_from-more}
use Rattle.report_lines.specs.declared.mode.PlayFault.{PlayFault}
use Rattle.report_lines.proofs.text_report.TextReportListener.tell.Goals as goal

pub returns-then-is_some : goal.returns-then-is_some
returns-then-is_some g c = λ first lines hears.
    let spelling = g.S.Spelling in
    let old = c.args.self.now in
    let line = line_of c.args.line.now in
    let met : ◌≡◌ {A = Bool} _ _ = sym c.is_some.ensures ∙ c.if-is_some.true in (
      hears.0,
      record {
        spelled = λ was is. absurd (not-both old.fault met is);
        text = λ was. subst (λ (text : List ℕ). IsAdded text (g.O.Sink.written first.out.now) (g.O.Sink.written old.out.now) (g.O.Sink.faults first.out.now) (g.O.Sink.faults old.out.now) old.fault)
            (sym (text_from-more spelling.text_of spelling.behind first.spelling.now lines line))
            (added-nothing _ _ _ _ _ _ old.fault met (hears.1.text was));
      },
    )

pub returns : goal.returns
returns g c = λ first lines hears.
    let spelling = g.S.Spelling in
    let old = c.args.self.now in
    let new = c.write.new.self in
    let line = line_of c.args.line.now in
    let none : old.fault ≡ None = not-met old.fault (sym c.is_some.ensures ∙ c.if-is_some.false) in (
      c.write.ensures.out ∙ hears.0,
      record {
        spelled = λ was is.
            without-fault c.write.result (sym c.err-self.ensures.value ∙ is) c.write.ensures.spelling
            ∙ ap (λ s. spelling.behind s line) (hears.1.spelled was none)
            ∙ sym (spelling_behind-more spelling.behind first.spelling.now lines line);
        text = λ was.
            let before : List ℕ = text_from spelling.text_of spelling.behind first.spelling.now lines in
            let added = subst (λ (fault : Option PlayFault). IsAdded before (g.O.Sink.written first.out.now) (g.O.Sink.written old.out.now) (g.O.Sink.faults first.out.now) (g.O.Sink.faults old.out.now) fault)
            none (hears.1.text was) in
            let more = c.write.ensures.text before (g.O.Sink.written first.out.now) (g.O.Sink.faults first.out.now) added in
            let text : before ++ spelling.text_of old.spelling.now line ≡ text_from spelling.text_of spelling.behind first.spelling.now (lines ++ line ∷ []) =
            ap (λ s. before ++ spelling.text_of s line) (hears.1.spelled was none) ∙ sym (text_from-more spelling.text_of spelling.behind first.spelling.now lines line) in
            subst (λ (fault : Option PlayFault). IsAdded (text_from spelling.text_of spelling.behind first.spelling.now (lines ++ line ∷ [])) (g.O.Sink.written first.out.now) (g.O.Sink.written new.out.now) (g.O.Sink.faults first.out.now) (g.O.Sink.faults new.out.now) fault)
            (sym c.err-self.ensures.value)
            (subst (λ (bytes : List ℕ). IsAdded bytes (g.O.Sink.written first.out.now) (g.O.Sink.written new.out.now) (g.O.Sink.faults first.out.now) (g.O.Sink.faults new.out.now) (result_err c.write.result)) text more);
      },
    )
