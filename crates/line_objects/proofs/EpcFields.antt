-- A field is the words of one SGTIN-96, or of none.
use Rattle.std.proofs.Common.{◌≡◌, ◌≤◌, ℕ, ◌^◌, ◌<◌, List, Option, Some, None, length, refl, sym, ◌∙◌, ap, subst, inl, inr, arith}
use Rattle.std.specs.Prelude.{All, IfErr, IfNone, Result, Ok, Err}
use Rattle.std.specs.Result.{result_ok}
use Rattle.text_fields.specs.Hexadecimal.{hex_words}
use Rattle.text_fields.proofs.ToldApart.{hex_words_told}
use Rattle.epc_sgtin.specs.SgtinValue.{SgtinValue}
use Rattle.epc_sgtin.specs.Epc.{IsSgtin}
use Rattle.epc_sgtin.specs.EpcFaults.{RefusesEpc}
use Rattle.epc_sgtin.specs.Uri.{uri_of}
use Rattle.epc_sgtin.specs.declared.encoding.EpcFault.{EpcFault}
use Rattle.report_lines.proofs.OneName.{AreOfOne, AreNotRefused, six_of}
use Rattle.report_lines.proofs.SomeName.{AreOrRefused, epc_answer}
use Rattle.line_objects.specs.Values.{AreUris, IsEpcOf, IsUriIn}

-- each field has a URI or has none
uri_answer : AreNotRefused → AreOrRefused → (field : List ℕ) → (uri : Option (List ℕ)) × IsUriIn field uri
uri_answer not_refused or_refused field = elim (epc_answer not_refused or_refused field) [
  | inl is ↦ (Some (uri_of is.0), (is.0, record { words = is.1; spelled = is.3; epc = is.2 }, refl))
  | inr none ↦ (None, λ sgtin is. none (sgtin, is.words, is.epc, is.spelled))
]

pub some_uris : AreNotRefused → AreOrRefused → (uris : List ℕ → Option (List ℕ)) × AreUris uris
some_uris not_refused or_refused = (λ field. (uri_answer not_refused or_refused field).0, λ field. (uri_answer not_refused or_refused field).1)

-- a field is the words of one SGTIN
one_epc : AreOfOne → (one other : SgtinValue) (field : List ℕ) → IsEpcOf one field → IsEpcOf other field → one ≡ other
one_epc of_one one other field left right =
    let words : left.words ≡ right.words = hex_words_told left.words right.words left.epc.sixteens right.epc.sixteens (sym left.spelled ∙ right.spelled) in
    of_one one other right.words (subst (IsSgtin one) words left.epc) right.epc

-- ... and so it has one URI or none
pub one_uri : AreOfOne → (field : List ℕ) (one other : Option (List ℕ)) → IsUriIn field one → IsUriIn field other → one ≡ other
one_uri of_one field None None left right = refl
one_uri of_one field None (Some uri) left right = absurd (left right.0 right.1)
one_uri of_one field (Some uri) None left right = absurd (right left.0 left.1)
one_uri of_one field (Some uri) (Some other) left right =
    let same : uri ≡ other = left.2 ∙ ap uri_of (one_epc of_one left.0 right.0 field left.1 right.1) ∙ sym right.2 in
    cc

pub one_uris : AreOfOne → (one other : List ℕ → Option (List ℕ)) → AreUris one → AreUris other → one ≡ other
one_uris of_one one other left right = λ i field. one_uri of_one field (one field) (other field) (left field) (right field) i

-- a field that spells no words is those of no SGTIN
pub no_words : AreNotRefused → (field : List ℕ) → ((words : List ℕ) → All (λ word. word < 2 ^ 16) words → length words ≤ 31 → field ≡ hex_words words → ⊥)
    → (sgtin : SgtinValue) → ¬ IsEpcOf sgtin field
no_words not_refused field none sgtin is =
    let six = six_of not_refused sgtin is.words is.epc in
    none is.words is.epc.sixteens (omega (arith, six)) is.spelled

-- words that are refused are those of no SGTIN
pub refused_words : AreNotRefused → (field words : List ℕ) (outcome : Result SgtinValue EpcFault) → field ≡ hex_words words → All (λ word. word < 2 ^ 16) words
    → IfErr outcome (λ fault. RefusesEpc fault words) → IfNone (result_ok outcome) ((sgtin : SgtinValue) → ¬ IsEpcOf sgtin field)
refused_words not_refused field words (Ok sgtin) spelled small refused = tt
refused_words not_refused field words (Err fault) spelled small refused = λ sgtin is.
    let same : is.words ≡ words = hex_words_told is.words words is.epc.sixteens small (sym is.spelled ∙ spelled) in
    not_refused sgtin words fault (subst (IsSgtin sgtin) same is.epc) refused
