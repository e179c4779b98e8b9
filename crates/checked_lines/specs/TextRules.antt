-- Profile: texts of lines of which each may stand where the lines before it lead. Bytes are one of the texts, or have a first faulty
-- line.
use Rattle.std.specs.Prelude.{◌≡◌, ◌⊎◌, ℕ, ◌+◌, List, [], ◌∷◌}
use Rattle.text_fields.specs.FaultLine.{fault_line}
use Rattle.text_fields.specs.Lines.{lines_of}
use Rattle.checked_lines.specs.FaultWords.{reason_word}
use Rattle.checked_lines.specs.declared.fault.FaultReason.{FaultReason}
use Rattle.checked_lines.specs.declared.fault.Unread.{Unread}
use Rattle.checked_lines.specs.declared.fault.Unread.TheVariants as unread

-- The rules of such texts: a standing is where a text stands behind some of its lines, and a reason is why a line is faulty.
pub record TextRules (Standing Reason : Type 0) : Type 1 where
  -- where such a text stands before its first line
  pub start : Standing
  -- the line, which is given without its line feed, may stand here, and leads there
  pub leads : Standing → List ℕ → Standing → Type 0
  -- the first reason for which a line that has its line feed is faulty here
  pub is_faulty : Standing → List ℕ → Reason → Type 0
  -- a text may end here
  pub may_end : Standing → Type 0
  -- why a line without its line feed is faulty here; and why none may be missing, where a text may not end
  pub unended : Standing → Reason

-- the lines may stand here one after another, and lead there
abbrev pub Lead : {S R : Type 0} → TextRules S R → S → List (List ℕ) → S → Type 0
Lead rules from [] to = from ≡ to
Lead {S} rules from (line ∷ lines) to = (behind : S) × rules.leads from line behind × Lead rules behind lines to

-- what comes of lines
pub data TextOutcome (S R : Type 0) : Type 0 where
  -- they are a text, which stands there at its end
  Whole : (standing : S) → TextOutcome S R
  -- the line of this number is the first faulty one, and this is its first reason
  Faulty : (line : ℕ) → (reason : R) → TextOutcome S R

-- what comes of what stands behind the last line feed, as the line of this number: nothing may stand there
abbrev pub EndsIn : {S R : Type 0} → TextRules S R → S → ℕ → List ℕ → TextOutcome S R → Type 0
EndsIn rules standing number rest (Whole to) = (rest ≡ []) × rules.may_end standing × (to ≡ standing)
EndsIn rules standing number rest (Faulty line reason) = (rest ≡ [] → ¬ rules.may_end standing) × (line ≡ number) × (reason ≡ rules.unended standing)

-- the line of this number, which has its line feed, is the first faulty one
abbrev pub StopsAt : {S R : Type 0} → TextRules S R → S → ℕ → List ℕ → TextOutcome S R → Type 0
StopsAt rules standing number text (Whole to) = ⊥
StopsAt rules standing number text (Faulty line reason) = rules.is_faulty standing text reason × (line ≡ number)

-- What comes of lines that stand here, of which the first has this number: that is faulty, or it leads on to those behind it. The last
-- of them is what stands behind the last line feed.
abbrev pub HasOutcomeFrom : {S R : Type 0} → TextRules S R → S → ℕ → List (List ℕ) → TextOutcome S R → Type 0
HasOutcomeFrom rules from number [] outcome = ⊥
HasOutcomeFrom rules from number (line ∷ []) outcome = EndsIn rules from number line outcome
HasOutcomeFrom {S} rules from number (line ∷ next ∷ lines) outcome =
    StopsAt rules from number line outcome
    ⊎ ((behind : S) × rules.leads from line behind × HasOutcomeFrom rules behind (number + 1) (next ∷ lines) outcome)

-- what comes of bytes, whose lines are counted from 1
abbrev pub HasOutcome : {S R : Type 0} → TextRules S R → List ℕ → TextOutcome S R → Type 0
HasOutcome rules bytes outcome = HasOutcomeFrom rules rules.start 1 (lines_of bytes) outcome

-- the bytes are a text by the rules, which stands there at its end
abbrev pub IsText : {S R : Type 0} → TextRules S R → List ℕ → S → Type 0
IsText rules bytes standing = HasOutcome rules bytes (Whole standing)

-- the first faulty line of the bytes, and its first reason
abbrev pub IsFirstFault : {S R : Type 0} → TextRules S R → List ℕ → ℕ → R → Type 0
IsFirstFault rules bytes line reason = HasOutcome rules bytes (Faulty line reason)

-- the text is the fault line of bytes that are no text by these rules: it names their first faulty line and its first reason
pub record IsFaultText {S : Type 0} (rules : TextRules S FaultReason) (bytes text : List ℕ) : Type 0 where
  pub number : ℕ
  pub reason : FaultReason
  pub first : IsFirstFault rules bytes number reason
  pub line : text ≡ fault_line number (reason_word reason)

-- why nothing is read of the bytes: by these rules this is their first faulty line, or there was no memory
abbrev pub IsUnread : {S : Type 0} → TextRules S FaultReason → List ℕ → Unread → Type 0
IsUnread rules bytes (unread.Line fault) = IsFirstFault rules bytes fault.line fault.reason
IsUnread rules bytes unread.OutOfMemory = Unit {0}
