-- The answers to the lines before a place of an input that comes in pieces.
use Rattle.std.proofs.Common.{◌≡◌, ◌≢◌, ℕ, List, [], ◌∷◌, ◌++◌, Option, Some, None, Result, Ok, Err, IfErr, OnOk, sym, ◌∙◌, ap, subst, append_assoc}
use Rattle.std.proofs.lemmas.List.{append-nil}
use Rattle.std.proofs.lemmas.List.Elements.{All-append, All-nil}
use Rattle.text_fields.specs.Lines.{Lacks, line_feed}
use Rattle.checked_lines.specs.declared.fault.FaultyLine.{FaultyLine}
use Rattle.checked_lines.specs.laws.AnsweredLines.{answers_none}
use Rattle.decode_lines.specs.Answer.{decode_rules}
use Rattle.decode_lines.specs.Answered.{AnsweredSoFar}
use Rattle.decode_lines.specs.DecodeLines.{IsFirstDecodeFault}

-- before the first piece
pub begins : (part text : List ℕ) → part ≡ [] → text ≡ [] → AnsweredSoFar None [] part text 1
begins part text no_part no_text = rw no_part (answers_none decode_rules [] text no_text, All-nil (λ byte. byte ≢ line_feed))

-- a line whose first part came before
pub line_cut : (part rest end behind : List ℕ) → rest ≡ end ++ line_feed ∷ behind → part ++ rest ≡ (part ++ end) ++ line_feed ∷ behind
line_cut part rest end behind cut = ap (λ bytes. part ++ bytes) cut ∙ sym (append_assoc part end (line_feed ∷ behind))

pub line_lacks : (part end : List ℕ) → Lacks line_feed part → Lacks line_feed end → Lacks line_feed (part ++ end)
line_lacks part end before lacks = All-append (λ byte. byte ≢ line_feed) part end before lacks

-- a fault that is known is that of the input, if nothing more comes
pub fault_known : (fault : Option FaultyLine) (known : FaultyLine) (input part text : List ℕ) (number : ℕ) → fault ≡ Some known → AnsweredSoFar fault input part text number → IsFirstDecodeFault input known
fault_known fault known input part text number is stands =
    let told : AnsweredSoFar (Some known) input part text number = rw is at stands in
    subst (λ bytes. IsFirstDecodeFault bytes known) (append-nil input) (told [])

-- where none is known the lines so far are answered
pub none_known : (fault : Option FaultyLine) (input part text : List ℕ) (number : ℕ) → fault ≡ None → AnsweredSoFar fault input part text number → AnsweredSoFar None input part text number
none_known fault input part text number is stands = rw is at stands

-- what is said of a refusal holds of its reason
pub told_reason : {A E : Type 0} (P : E → Type 0) (answered : Result A E) (reason : E) → answered ≡ Err reason → IfErr answered P → P reason
told_reason P answered reason is says = rw is at says

-- and what is said of an answer holds
pub answered_line : {A E : Type 0} (P : Type 0) (answered : Result A E) (done : A) → answered ≡ Ok done → OnOk answered P → P
answered_line P answered done is says = rw is at says
