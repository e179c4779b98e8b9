-- Profile: what the lines of a run list, and how often.
use Rattle.std.specs.Prelude.{◌≡◌, ◌+◌, ◌≤◌, length, ℕ, Bool, true, false, List, [], ◌∷◌, ◌++◌, Option, Some, None}
use Rattle.bit_strings.specs.ItemList.{ItemList}
use Rattle.report_lines.specs.ReportLine.{ReportLine, ListLine}
use Rattle.report_lines.specs.declared.mode.PlayFault.{PlayFault}
use Rattle.report_lines.specs.declared.mode.PlayFault.TheVariants.{OutOfMemory}

-- the PC and the EPC that a line lists
abbrev pub pair_told : ReportLine → List (ℕ × List ℕ)
pair_told (ListLine round slot pc epc) = (pc, epc) ∷ []
pair_told line = []

-- the PC and the EPC of each of these lines that lists a tag, in the order of the lines
abbrev pub pairs_told : List ReportLine → List (ℕ × List ℕ)
pairs_told [] = []
pairs_told (line ∷ lines) = pair_told line ++ pairs_told lines

-- the pairs of these lines were added, where there was room for them
abbrev pub HearsPairs : List ReportLine → (old new : ItemList (ℕ × List ℕ)) → Type 0
HearsPairs lines old new = length old.items + length (pairs_told lines) ≤ old.capacity → new ≡ record old { items = old.items ++ pairs_told lines }

-- the first fault of who counts for another: that one's own, else that there was no memory for a count
abbrev pub first_fault_of : Option PlayFault → Bool → Option PlayFault
first_fault_of (Some fault) short = Some fault
first_fault_of None true = Some OutOfMemory
first_fault_of None false = None
