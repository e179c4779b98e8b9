-- Profile: bytes that have a scenario and behind it a trace: the scenario ends with the first line `end`.
use Rattle.std.specs.Prelude.{ℕ, ◌+◌, List, [], ◌∷◌, codes, drop, length, take, if◌then◌else◌}
use Rattle.std.specs.Str.{bytes_eq}
use Rattle.text_fields.specs.Lines.{lines_of}

-- how many bytes are up to and with the first of these lines that is `end` and has its line feed, or all where there is none
abbrev pub count_to_end : List (List ℕ) → ℕ
count_to_end [] = 0
count_to_end (line ∷ []) = length line
count_to_end (line ∷ next ∷ lines) = length line + 1 + (if bytes_eq line (codes "end") then 0 else count_to_end (next ∷ lines))

-- the part of the bytes that is the scenario, and the part that is the trace
abbrev pub scenario_part : List ℕ → List ℕ
scenario_part bytes = take (count_to_end (lines_of bytes)) bytes

abbrev pub trace_part : List ℕ → List ℕ
trace_part bytes = drop (count_to_end (lines_of bytes)) bytes
