-- A line has one name at most, and lines one text with their names.
use Rattle.std.proofs.Common.{◌≡◌, ℕ, List, [], ◌∷◌, length, refl, sym, ◌∙◌, ap, subst, inl, inr}
use Rattle.std.specs.Prelude.{Result, Ok, Err, IfErr, IfNone}
use Rattle.std.specs.Result.{result_ok}
use Rattle.std.specs.List.{AllZip, flat_map}
use Rattle.std.proofs.lemmas.Bool.{cases_eq}
use Rattle.text_fields.specs.Lines.{text_with}
use Rattle.text_fields.specs.Hexadecimal.{hex_words}
use Rattle.text_fields.proofs.ToldApart.{hex_words_told}
use Rattle.epc_sgtin.specs.SgtinValue.{SgtinValue}
use Rattle.epc_sgtin.specs.Epc.{IsSgtin}
use Rattle.epc_sgtin.specs.EpcFaults.{RefusesEpc}
use Rattle.epc_sgtin.specs.declared.encoding.EpcFault.{EpcFault}
use Rattle.epc_sgtin.specs.declared.encoding.EpcFault.TheVariants.{Length}
use Rattle.epc_sgtin.specs.SgtinText.{name_line}
use Rattle.report_lines.specs.Names.{IsNamed, HasName, BecomesLines, AreWithNames}

-- what the laws of SGTINs say: words are those of one,
abbrev pub AreOfOne : Type 0
AreOfOne = (one other : SgtinValue) (words : List ℕ) → IsSgtin one words → IsSgtin other words → one ≡ other

-- and are not refused where they are
abbrev pub AreNotRefused : Type 0
AreNotRefused = (sgtin : SgtinValue) (words : List ℕ) (fault : EpcFault) → IsSgtin sgtin words → RefusesEpc fault words → ⊥

-- so there are six of them
pub six_of : AreNotRefused → (sgtin : SgtinValue) (words : List ℕ) → IsSgtin sgtin words → length words ≡ 6
six_of not_refused sgtin words is = elim (cases_eq (length words) 6) [ inl six ↦ six | inr other ↦ absurd (not_refused sgtin words Length is other) ]

-- a line has one name
one_name : AreOfOne → (line : List ℕ) (one other : SgtinValue) → IsNamed line one → IsNamed line other → one ≡ other
one_name of_one line one other left right =
    let fields : ◌≡◌ {A = List (List ℕ)} _ _ = sym left.fields ∙ right.fields in
    let digits : hex_words left.words ≡ hex_words right.words = cc in
    let words : left.words ≡ right.words = hex_words_told left.words right.words left.epc.sixteens right.epc.sixteens digits in
    of_one one other right.words (subst (IsSgtin one) words left.epc) right.epc

-- a line becomes one list of lines
same_lines : AreOfOne → (line : List ℕ) (one other : List (List ℕ)) → BecomesLines line one → BecomesLines line other → one ≡ other
same_lines of_one line one other (inl left) (inl right) =
    left.2 ∙ ap (λ sgtin. line ∷ name_line sgtin ∷ []) (one_name of_one line left.0 right.0 left.1 right.1) ∙ sym right.2
same_lines of_one line one other (inl left) (inr right) = absurd (right.0 (left.0, left.1))
same_lines of_one line one other (inr left) (inl right) = absurd (left.0 (right.0, right.1))
same_lines of_one line one other (inr left) (inr right) = left.1 ∙ sym right.1

same_pieces : AreOfOne → (lines : List (List ℕ)) (one other : List (List (List ℕ))) → AllZip BecomesLines lines one → AllZip BecomesLines lines other → one ≡ other
same_pieces of_one [] [] [] left right = refl
same_pieces of_one [] [] (p ∷ other) left right = absurd right
same_pieces of_one [] (p ∷ one) other left right = absurd left
same_pieces of_one (l ∷ lines) [] other left right = absurd left
same_pieces of_one (l ∷ lines) (p ∷ one) [] left right = absurd right
same_pieces of_one (l ∷ lines) (p ∷ one) (q ∷ other) left right =
    let first : p ≡ q = same_lines of_one l p q left.0 right.0 in
    let others : one ≡ other = same_pieces of_one lines one other left.1 right.1 in
    cc

pub same_text : AreOfOne → (lines : List (List ℕ)) (one other : List ℕ) → AreWithNames lines one → AreWithNames lines other → one ≡ other
same_text of_one lines one other left right =
    left.text_is ∙ ap (λ pieces. flat_map text_with pieces) (same_pieces of_one lines left.pieces right.pieces left.each right.each) ∙ sym right.text_is

-- a line whose words are refused has no name
pub none_named : AreNotRefused → (line words : List ℕ) (outcome : Result SgtinValue EpcFault) → IfErr outcome (λ fault. RefusesEpc fault words)
    → (HasName line → (sgtin : SgtinValue) × IsSgtin sgtin words) → IfNone (result_ok outcome) (¬ HasName line)
none_named not_refused line words (Ok sgtin) refused has_words = tt
none_named not_refused line words (Err fault) refused has_words = λ has. let is = has_words has in not_refused is.0 words fault is.1 refused
