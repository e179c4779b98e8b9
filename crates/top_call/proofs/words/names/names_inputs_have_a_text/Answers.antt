-- The lines with their names where nothing stands behind the last line feed, else the fault line.
use Rattle.std.proofs.Common.{◌≡◌, ℕ, ◌+◌, ◌≤◌, List, [], ◌∷◌, ◌++◌, length, refl, ap, arith, inl, inr}
use Rattle.text_fields.specs.Lines.{lines_of}
use Rattle.text_fields.specs.FaultLine.{fault_line}
use Rattle.checked_lines.specs.FaultWords.{reason_word}
use Rattle.top_call.specs.Job.{Defines}
use Rattle.top_call.specs.words.Names.{IsCutAt, names_job}
use Rattle.checked_lines.specs.declared.fault.FaultReason.TheVariants.{End}
use Rattle.text_fields.proofs.LineLaws.{some_line}
use Rattle.top_call.proofs.NamedLines.{BecomeSome, some_names}
use Rattle.top_call.proofs.words.names.names_inputs_have_a_text.Goals as goal

-- lines that are not none have a last one
last_of : (lines : List (List ℕ)) → 1 ≤ length lines → (before : List (List ℕ)) × (last : List ℕ) × (lines ≡ before ++ last ∷ [])
last_of [] some = absurd (omega (arith, some))
last_of (line ∷ []) some = ([], line, refl)
last_of (line ∷ next ∷ lines) some =
    let found = last_of (next ∷ lines) (omega arith) in
    (line ∷ found.0, found.1, ap (λ tail. line ∷ tail) found.2)

-- the text by what stands behind the last line feed
text_behind : BecomeSome → (bytes : List ℕ) (before : List (List ℕ)) (last : List ℕ) → lines_of bytes ≡ before ++ last ∷ [] → (text : List ℕ) × Defines names_job bytes text
text_behind become bytes before [] cut =
    let named = some_names before become in
    (named.0, inl (record { lines = before; cut = cut; names = named.1 }))
text_behind become bytes before (byte ∷ others) cut =
    let at : IsCutAt bytes (length before + 1) = record { before = before; last = byte ∷ others; cut = cut; filled = λ none. cc; count = refl } in
    (fault_line (length before + 1) (reason_word End), inr (record { number = length before + 1; at = at; line = refl }))

pub returns : goal.returns
returns c bytes =
    let found = last_of (lines_of bytes) (some_line bytes) in
    text_behind c.lines_have_names.ensures.some bytes found.0 found.1 found.2
