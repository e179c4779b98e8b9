-- The first two lines of a log.
use Rattle.std.proofs.Common.{◌≡◌, ◌≢◌, ℕ, List, [], ◌∷◌, refl, subst, sym}
use Rattle.checked_lines.specs.laws.ReadingOn.{HasReadTo, fault_read, none_read, one_read, unended_read}
use Rattle.bench_lines.specs.ProbeLine.{SpellsTag}
use Rattle.scenario_lines.specs.declared.tag.TagSpec.{TagSpec}
use Rattle.text_fields.specs.Lines.{fields_of, lines_of}
use Rattle.bench_lines.specs.Judged.{IsNoTagFor, IsRefusedFor}
use Rattle.bench_lines.specs.LogText.{IsFaultyTag, IsFirstLogFault, begun, log_rules, logged_tag, start, log_version_line, with_word, within}
use Rattle.bench_lines.specs.ReadEntries.{HasReadLog}
use Rattle.checked_lines.specs.declared.fault.FaultReason.{FaultReason}
use Rattle.checked_lines.specs.declared.fault.FaultReason.TheVariants.{End, Version}
use Rattle.checked_lines.specs.declared.fault.Unread.{Unread}
use Rattle.checked_lines.specs.declared.fault.Unread.TheVariants.{Line, OutOfMemory}

-- a line is missing
pub first_wanted : (bytes : List ℕ) → lines_of bytes ≡ bytes ∷ [] → IsFirstLogFault bytes 1 End
first_wanted bytes last = unended_read log_rules start 1 (lines_of bytes) start 1 bytes (none_read log_rules start 1 (lines_of bytes)) last (λ none may. may)

pub first_faulty : (bytes line behind : List ℕ) → lines_of bytes ≡ line ∷ lines_of behind → line ≢ log_version_line → IsFirstLogFault bytes 1 Version
first_faulty bytes line behind cut other =
    fault_read log_rules start 1 (lines_of bytes) start 1 (lines_of bytes) (record { line = line; rest = behind; cut = cut }) Version (none_read log_rules start 1 (lines_of bytes)) (refl, other)

pub version_read : (bytes line behind : List ℕ) → lines_of bytes ≡ line ∷ lines_of behind → line ≡ log_version_line → HasReadTo log_rules start 1 (lines_of bytes) begun 2 (lines_of behind)
version_read bytes line behind cut is =
    one_read log_rules start 1 (lines_of bytes) start 1 (lines_of bytes) (record { line = line; rest = behind; cut = cut }) begun (none_read log_rules start 1 (lines_of bytes)) (is, refl)

pub second_wanted : (bytes rest : List ℕ) → HasReadTo log_rules start 1 (lines_of bytes) begun 2 (lines_of rest) → lines_of rest ≡ rest ∷ [] → IsFirstLogFault bytes 2 End
second_wanted bytes rest so_far last = unended_read log_rules start 1 (lines_of bytes) begun 2 rest so_far last (λ none may. may)

pub second_faulty : (bytes rest line behind : List ℕ) (fault : FaultReason) → HasReadTo log_rules start 1 (lines_of bytes) begun 2 (lines_of rest) → lines_of rest ≡ line ∷ lines_of behind
    → IsFaultyTag (fields_of line) fault → IsFirstLogFault bytes 2 fault
second_faulty bytes rest line behind fault so_far cut faulty =
    fault_read log_rules start 1 (lines_of bytes) begun 2 (lines_of rest) (record { line = line; rest = behind; cut = cut }) fault so_far faulty

pub tag_read : (bytes rest line behind : List ℕ) (tag : TagSpec) → HasReadTo log_rules start 1 (lines_of bytes) begun 2 (lines_of rest) → lines_of rest ≡ line ∷ lines_of behind
    → SpellsTag (with_word (fields_of line)) tag → HasReadLog bytes (logged_tag tag) [] (lines_of behind)
tag_read bytes rest line behind tag so_far cut spells =
    one_read log_rules start 1 (lines_of bytes) begun 2 (lines_of rest) (record { line = line; rest = behind; cut = cut }) (within (logged_tag tag) []) so_far
    (record { tag = tag; spells = spells; leads = refl })

-- the line of the tag is faulty, or there was no memory
pub no_tag : (bytes rest line behind : List ℕ) (refusal : Unread) → HasReadTo log_rules start 1 (lines_of bytes) begun 2 (lines_of rest) → lines_of rest ≡ line ∷ lines_of behind
    → IsNoTagFor (fields_of line) refusal → IsRefusedFor bytes refusal
no_tag bytes rest line behind (Line fault) so_far cut told =
    subst (λ (number : ℕ). IsFirstLogFault bytes number fault.reason) (sym told.0) (second_faulty bytes rest line behind fault.reason so_far cut told.1)
no_tag bytes rest line behind OutOfMemory so_far cut told = tt
