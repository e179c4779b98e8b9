use Rattle.std.proofs.Common.{◌≡◌, ◌≤◌, ◌+◌, ◌++◌, ℕ, List, length, None}
use Rattle.std.specs.String.{string_bytes}
use Rattle.text_fields.specs.Lines.{Lacks, line_feed}
use Rattle.checked_lines.specs.Answered.{AnswersTo}
use Rattle.decode_lines.specs.Answer.{decode_rules}
use Rattle.decode_lines.specs.Answered.{AnsweredSoFar}
use Rattle.decode_lines.proofs.lines.Answering.take.Given as goal

-- the lines before what is left of the piece are answered
abbrev pub invariant-loop-end : goal.invariant-loop-end
invariant-loop-end l = record {
  answered : (input : List ℕ) → AnsweredSoFar None input l.initial.self.part.items (string_bytes l.initial.self.text) l.initial.self.number
      → AnswersTo decode_rules (input ++ l.piece) (l.self.part.items ++ l.rest) (string_bytes l.self.text) l.self.number × Lacks line_feed l.self.part.items;
  begun : l.initial.self.fault ≡ None;
  none : l.self.fault ≡ None;
  number : l.self.number + length l.rest ≤ l.initial.self.number + length l.piece;
}

abbrev pub decreases-loop-end : goal.decreases-loop-end
decreases-loop-end l = length l.rest
