-- Fields spell one operation of a kind.
use Rattle.std.proofs.Common.{◌≡◌, ℕ, List, [], ◌∷◌, ap, sym, ◌∙◌}
use Rattle.std.specs.Fmt.{decimal}
use Rattle.access_ops.specs.declared.Op.{Op}
use Rattle.command_fields.specs.declared.choices.Bank.{Bank}
use Rattle.wire_text.specs.CommandText.{bank_word}
use Rattle.scenario_lines.specs.declared.keywords.OpKind.{OpKind}
use Rattle.scenario_lines.specs.Reading.{IsOpText}
use Rattle.scenario_lines.proofs.ToldLines.{op_told}

-- a field behind a bank and a pointer, by another spelling
pub at_place : (bank : Bank) (pointer : ℕ) {last last' : List ℕ} → last ≡ last' → bank_word bank ∷ decimal pointer ∷ last ∷ [] ≡ bank_word bank ∷ decimal pointer ∷ last' ∷ []
at_place bank pointer same = ap (λ (field : List ℕ). bank_word bank ∷ decimal pointer ∷ field ∷ []) same

pub one_op : {kind : OpKind} {fields : List (List ℕ)} (one other : Op) → IsOpText kind fields one → IsOpText kind fields other → one ≡ other
one_op one other text text' = op_told one other text.in_range text'.in_range (text.same_kind ∙ sym text'.same_kind) (sym text.spelling ∙ text'.spelling)
