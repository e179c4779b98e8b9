-- The intervals stand behind the name as fields.
use Rattle.std.proofs.Common.{◌≡◌, ℕ, List, [], ◌∷◌, ◌++◌, map, refl, sym, ◌∙◌, ap, append_assoc}
use Rattle.std.specs.Prelude.{OnOk, Result, Ok, Err, codes, if◌then◌else◌}
use Rattle.std.specs.Result.{is_ok}
use Rattle.std.specs.Fmt.{decimal}
use Rattle.text_fields.specs.Lines.{fields_behind, line_feed, line_with}
use Rattle.text_fields.proofs.LineLaws.{line_with-fields_behind}
use Rattle.encode_lines.specs.EncodeLines.{written_line}
use Rattle.encode_lines.proofs.output.push_wave.Goals as goal

-- what a call leaves where it answered Ok
if_ok_then : {T E : Type 0} (r : Result T E) (new more other wanted : List ℕ) → new ≡ (if is_ok r then more else other) → more ≡ wanted → OnOk r (new ≡ wanted)
if_ok_then (Ok done) new more other wanted left same = left ∙ same
if_ok_then (Err error) new more other wanted left same = tt

-- a first field, others behind it, and a line feed
fields_written : (old front middle back : List ℕ) (field : List ℕ) (fields : List (List ℕ)) → front ≡ old ++ field → middle ≡ front ++ fields_behind fields → back ≡ middle ++ line_feed ∷ []
    → back ≡ old ++ written_line (field ∷ fields)
fields_written old front middle back field fields first others end =
    end ∙ ap (λ (t : List ℕ). t ++ line_feed ∷ []) (others ∙ ap (λ (t : List ℕ). t ++ fields_behind fields) first ∙ append_assoc old field (fields_behind fields)
    ∙ ap (λ (t : List ℕ). old ++ t) (sym (line_with-fields_behind field fields))) ∙ append_assoc old (line_with (field ∷ fields)) (line_feed ∷ [])

pub returns : goal.returns
returns c =
    let numbers = (rw c.as_slice.ensures.value at c.in_ok-push_next.ensures) in
    if_ok_then c.push_str-2.result _ _ _ _ c.push_str-2.ensures.bytes (fields_written _ _ _ _ (codes "pie") (map decimal c.args.intervals.now.items) c.in_ok-push_str.ensures.bytes numbers refl)
