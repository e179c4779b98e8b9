-- The objects of lines, one after another.
use Rattle.std.proofs.Common.{◌≡◌, ◌≢◌, ℕ, List, [], ◌∷◌, ◌++◌, Option, refl, sym, ap, ◌∙◌, append_assoc}
use Rattle.std.proofs.lemmas.List.{append-nil}
use Rattle.text_fields.specs.Lines.{line_feed, lines_of}
use Rattle.text_fields.proofs.LineLaws.{some_piece}
use Rattle.line_objects.specs.Objects.{object_of, objects_of}
use Rattle.line_objects.specs.declared.line_members.LineSet.{LineSet}

abbrev Uris : Type 0
Uris = List ℕ → Option (List ℕ)

first_object : (uris : Uris) (set : LineSet) (line : List ℕ) (lines : List (List ℕ)) → lines ≢ [] → objects_of uris set (line ∷ lines) ≡ object_of uris set line ++ objects_of uris set lines
first_object uris set line [] some = absurd (some refl)
first_object uris set line (next ∷ lines) some = refl

-- one line more
pub one_object_more : (uris : Uris) (set : LineSet) (plain rest line behind old new : List ℕ) → lines_of rest ≡ line ∷ lines_of behind → new ≡ old ++ object_of uris set line
    → old ++ objects_of uris set (lines_of rest) ≡ objects_of uris set (lines_of plain) → new ++ objects_of uris set (lines_of behind) ≡ objects_of uris set (lines_of plain)
one_object_more uris set plain rest line behind old new cut more so_far =
    ap (λ (text : List ℕ). text ++ objects_of uris set (lines_of behind)) more
    ∙ append_assoc old (object_of uris set line) (objects_of uris set (lines_of behind))
    ∙ ap (λ (text : List ℕ). old ++ text) (sym (ap (λ (lines : List (List ℕ)). objects_of uris set lines) cut ∙ first_object uris set line (lines_of behind) (some_piece line_feed behind)))
    ∙ so_far

-- none is left
pub all_objects : (uris : Uris) (set : LineSet) (plain rest text : List ℕ) → lines_of rest ≡ rest ∷ []
    → text ++ objects_of uris set (lines_of rest) ≡ objects_of uris set (lines_of plain) → text ≡ objects_of uris set (lines_of plain)
all_objects uris set plain rest text whole so_far =
    sym (append-nil text) ∙ ap (λ (lines : List (List ℕ)). text ++ objects_of uris set lines) (sym whole) ∙ so_far
