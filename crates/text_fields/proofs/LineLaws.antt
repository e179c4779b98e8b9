-- The pieces of a text that is cut at a byte.
use Rattle.std.proofs.Common.{◌≡◌, ◌≢◌, ◌≤◌, ℕ, false, eqb, List, [], ◌∷◌, ◌++◌, length, arith, ap, refl, sym, ◌∙◌, append_assoc}
use Rattle.std.specs.Prelude.{All}
use Rattle.std.proofs.lemmas.Bool.Decides.{nat_tests}
use Rattle.std.proofs.lemmas.List.Elements.{All-append, All-cons, All-head, All-nil, All-tail, All-weaker}
use Rattle.std.proofs.lemmas.List.{append-nil}
use Rattle.std.proofs.lemmas.List.Splits.{length-slice_split, slice_split_at, slice_split_none}
use Rattle.text_fields.specs.Lines.{Lacks, fields_behind, fields_of, line_feed, line_with, lines_of, pieces_between, space, text_with}

fails : (byte each : ℕ) → each ≢ byte → eqb each byte ≡ false
fails byte each differs = grind (arith, nat_tests)

-- the first piece is what stands before the first place of the byte
pub pieces_between-cut : (byte : ℕ) (text front rest : List ℕ) → Lacks byte front → text ≡ front ++ byte ∷ rest
    → pieces_between byte text ≡ front ∷ pieces_between byte rest
pieces_between-cut byte text front rest lacks cut =
    rw cut (slice_split_at (λ each. eqb each byte) front byte rest (All-weaker (λ each. each ≢ byte) (λ each. eqb each byte ≡ false) (fails byte) front lacks) (grind (arith, nat_tests)))

-- where the byte stands nowhere, the text is the one piece
pub whole_piece : (byte : ℕ) (text : List ℕ) → Lacks byte text → pieces_between byte text ≡ text ∷ []
whole_piece byte text lacks =
    slice_split_none (λ each. eqb each byte) text (All-weaker (λ each. each ≢ byte) (λ each. eqb each byte ≡ false) (fails byte) text lacks)

-- a text has at least one piece
pub some_piece : (byte : ℕ) (text : List ℕ) → pieces_between byte text ≢ []
some_piece byte text none =
    let count = ap length none in
    absurd (omega (arith, length-slice_split (λ each. eqb each byte) text))

-- a text has at least one line
pub some_line : (text : List ℕ) → 1 ≤ length (lines_of text)
some_line text = omega (arith, length-slice_split (λ each. eqb each line_feed) text)

-- the fields of a line that is made of fields
pub fields_come_back : (fields : List (List ℕ)) → fields ≢ [] → All (Lacks space) fields → fields_of (line_with fields) ≡ fields
fields_come_back [] some lack = absurd (some refl)
fields_come_back (field ∷ []) some lack = whole_piece space field (All-head (Lacks space) field [] lack)
fields_come_back (field ∷ next ∷ fields) some lack =
    pieces_between-cut space (line_with (field ∷ next ∷ fields)) field (line_with (next ∷ fields)) (All-head (Lacks space) field (next ∷ fields) lack) refl
    ∙ ap (λ (rest : List (List ℕ)). field ∷ rest) (fields_come_back (next ∷ fields) (λ none. cc) (All-tail (Lacks space) field (next ∷ fields) lack))

-- the line of fields that have no line feed has none
pub line_lacks : (fields : List (List ℕ)) → All (Lacks line_feed) fields → Lacks line_feed (line_with fields)
line_lacks [] are = All-nil (λ each. each ≢ line_feed)
line_lacks (field ∷ []) are = All-head (Lacks line_feed) field [] are
line_lacks (field ∷ next ∷ fields) are =
    All-append (λ each. each ≢ line_feed) field (space ∷ line_with (next ∷ fields)) (All-head (Lacks line_feed) field (next ∷ fields) are)
    (All-cons (λ each. each ≢ line_feed) space (line_with (next ∷ fields)) (λ same. omega (arith, same)) (line_lacks (next ∷ fields) (All-tail (Lacks line_feed) field (next ∷ fields) are)))

-- the lines of a text that is made of lines
pub lines_come_back : (lines : List (List ℕ)) → All (Lacks line_feed) lines → lines_of (text_with lines) ≡ lines ++ [] ∷ []
lines_come_back [] lack = refl
lines_come_back (line ∷ lines) lack =
    pieces_between-cut line_feed (text_with (line ∷ lines)) line (text_with lines) (All-head (Lacks line_feed) line lines lack) (append_assoc line (line_feed ∷ []) (text_with lines))
    ∙ ap (λ (rest : List (List ℕ)). line ∷ rest) (lines_come_back lines (All-tail (Lacks line_feed) line lines lack))

-- a line is its first field and the others behind it
pub line_with-fields_behind : (field : List ℕ) (fields : List (List ℕ)) → line_with (field ∷ fields) ≡ field ++ fields_behind fields
line_with-fields_behind field [] = sym (append-nil field)
line_with-fields_behind field (next ∷ fields) = ap (λ rest. field ++ (space ∷ rest)) (line_with-fields_behind next fields)
