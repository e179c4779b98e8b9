-- A line asks for something, or is faulty, where the fields behind its first do so or are so.
use Rattle.std.proofs.Common.{◌≡◌, ◌⊎◌, ℕ, List, ◌∷◌, Result, Ok, Err, inl, inr, refl}
use Rattle.std.specs.Prelude.{IfOk, IfErr}
use Rattle.text_fields.specs.Lines.{fields_of}
use Rattle.pie_text.specs.NumberLists.{RefusesNumbers, SpellsNumbers}
use Rattle.pie_text.specs.declared.number_lists.NotNumbers.{NotNumbers}
use Rattle.pie_text.specs.declared.number_lists.NotNumbers.TheVariants as reasons
use Rattle.pie_line.specs.Pie.{longest_interval}
use Rattle.decode_lines.specs.Request.{request_word, most_intervals, AsksToDecodeBehind, AreFaultyToDecode, IsFaultyToDecode}
use Rattle.checked_lines.specs.laws.OneLine.{AsksOrIsFaulty}
use Rattle.decode_lines.specs.Answer.{decode_rules}
use Rattle.decode_lines.specs.declared.request.RequestKind.{RequestKind}
use Rattle.decode_lines.specs.declared.request.RequestKind.TheVariants.{Pie as PieKind}
use Rattle.decode_lines.specs.declared.request.Request.{Request}
use Rattle.decode_lines.specs.declared.request.Request.TheVariants.{Pie}
use Rattle.checked_lines.specs.declared.fault.FaultReason.{FaultReason}
use Rattle.checked_lines.specs.declared.fault.FaultReason.TheVariants.{Shape, Number}

-- what a line does or is
abbrev pub AskedOrFaulty : List ℕ → Type 0
AskedOrFaulty = AsksOrIsFaulty decode_rules

faulty_line : (line : List ℕ) (kind : RequestKind) (others : List (List ℕ)) (reason : FaultReason) → fields_of line ≡ request_word kind ∷ others → AreFaultyToDecode kind others reason
    → IsFaultyToDecode (fields_of line) reason
faulty_line line kind others Shape fields faulty = (kind, others, fields, faulty)
faulty_line line kind others Number fields faulty = (kind, others, fields, faulty)
faulty_line line kind others reason fields faulty = absurd faulty

-- ... by what is read of these fields
pub by_others : (line : List ℕ) (kind : RequestKind) (others : List (List ℕ)) (read : Result Request FaultReason) → fields_of line ≡ request_word kind ∷ others
    → IfOk read (AsksToDecodeBehind kind others) → IfErr read (AreFaultyToDecode kind others) → AskedOrFaulty line
by_others line kind others (Ok request) fields asks faulty = inl (request, record { kind = kind; others = others; fields = fields; asks = asks })
by_others line kind others (Err reason) fields asks faulty = inr (reason, faulty_line line kind others reason fields faulty)

no_other : (others : List (List ℕ)) → RefusesNumbers reasons.Number most_intervals longest_interval others → (request : Request) → ¬ AsksToDecodeBehind PieKind others request
no_other others refused (Pie intervals) asks = refused.1 intervals asks.limits.2 asks.spelling
no_other others refused request asks = let same = asks.same_kind in cc

-- ... and the intervals of a frame are numbers, or are refused
pub by_intervals : (line : List ℕ) (others : List (List ℕ)) → fields_of line ≡ request_word PieKind ∷ others
    → ((numbers : List ℕ) × SpellsNumbers most_intervals longest_interval others numbers) ⊎ ((reason : NotNumbers) × RefusesNumbers reason most_intervals longest_interval others)
    → AskedOrFaulty line
by_intervals line others fields (inl (numbers, spells)) = inl (
  Pie numbers,
  record {
    kind = PieKind;
    others = others;
    fields = fields;
    asks = record { same_kind = refl; spelling = spells.spelling; limits = (spells.some, spells.room, spells.within) };
  },
)
by_intervals line others fields (inr (reasons.Shape, refused)) =
    inr (Shape, (PieKind, others, fields, λ has. refused (record { some = has.0.0; room = has.0.1; filled = has.1 })))
by_intervals line others fields (inr (reasons.Number, refused)) =
    inr (Number, (PieKind, others, fields, (((refused.0.some, refused.0.room), refused.0.filled), no_other others refused)))
