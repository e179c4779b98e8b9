-- Profile: the line that says what is judged of a log.
use Rattle.std.specs.Prelude.{ℕ, List, [], ◌∷◌, ◌++◌, codes, Some, None}
use Rattle.std.specs.Fmt.{decimal}
use Rattle.log_judge.specs.Verdicts.{Verdict, Want, Yes, Profile, No, Nothing, Exactly, AnyRn16, AnyHandle, NothingOrAnyRn16}
use Rattle.text_fields.specs.Lines.{line_feed, line_with}
use Rattle.bench_lines.specs.SeenLine.{seen_fields}

-- an RN16 that the tag draws: a number that it draws is a star
abbrev pub any_rn16_fields : List (List ℕ)
any_rn16_fields = codes "plain" ∷ codes "rn16" ∷ codes "*" ∷ []

-- what the tag had to answer, as an answer line has it behind its first word
abbrev pub want_fields : Want → List (List ℕ)
want_fields Nothing = seen_fields None
want_fields (Exactly seen) = seen_fields (Some seen)
want_fields AnyRn16 = any_rn16_fields
want_fields AnyHandle = codes "plain" ∷ codes "handle" ∷ codes "*" ∷ []
want_fields NothingOrAnyRn16 = codes "-" ∷ codes "or" ∷ any_rn16_fields

-- the line of this word, which says the number of an answer line
abbrev pub failure_line : List ℕ → ℕ → Want → List ℕ
failure_line word number want = line_with (word ∷ decimal number ∷ want_fields want)

-- what is judged, with its line feed
abbrev pub line_of_verdict : Verdict → List ℕ
line_of_verdict Yes = codes "yes" ++ line_feed ∷ []
line_of_verdict (Profile number want) = failure_line (codes "profile") number want ++ line_feed ∷ []
line_of_verdict (No number want) = failure_line (codes "no") number want ++ line_feed ∷ []
