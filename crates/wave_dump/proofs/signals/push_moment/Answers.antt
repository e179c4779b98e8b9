use Rattle.std.proofs.Common.{List, [], ◌∷◌, ℕ, ◌++◌, ap, ◌∙◌, sym, append_assoc}
use Rattle.std.proofs.lemmas.Result.{IfOk-equal}
use Rattle.std.specs.String.{string_bytes}
use Rattle.text_fields.specs.Lines.{text_with}
use Rattle.wave_dump.specs.Borrowed.{signals_of}
use Rattle.wave_dump.specs.Waves.{change_lines, time_line}
use Rattle.wave_dump.proofs.DumpTexts.{at-change, changes}
use Rattle.wave_dump.proofs.signals.push_moment.Goals as goal

pub returns : goal.returns
returns c =
    let lines : List (List ℕ) = change_lines (signals_of c.args.old.now) (signals_of c.args.new.now) in
    let some = changes c.are_same.result lines c.are_same.ensures c.if-are_same.false in
    IfOk-equal _ _ _ _ c.push_changes.ensures
    (ap (λ (bytes : List ℕ). bytes ++ text_with lines) c.in_ok-push_time.ensures
    ∙ append_assoc (string_bytes c.args.text.now) (text_with (time_line c.args.time ∷ [])) (text_with lines)
    ∙ ap (λ (bytes : List ℕ). string_bytes c.args.text.now ++ bytes) (sym (at-change c.args.time lines some)))
