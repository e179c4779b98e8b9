-- Profile: how often each pair of PC and EPC was listed, in the order in which they came first.
use Rattle.std.specs.Prelude.{ℕ, ◌+◌, Bool, not, List, [], ◌∷◌, map, filter, count_by, if◌then◌else◌}
use Rattle.reply_grammar.specs.PcAndEpc.{same_pair}
use Rattle.report_lines.specs.ReportLine.{ReportLine, SeenLine}

-- a PC with an EPC, and how often they were listed
pub record SeenCount : Type 0 where
  pub pc : ℕ
  pub epc : List ℕ
  pub count : ℕ

-- the pairs without repetition, in the order in which they came first
abbrev pub distinct : List (ℕ × List ℕ) → List (ℕ × List ℕ)
distinct [] = []
distinct (pair ∷ pairs) = pair ∷ filter (λ other. not (same_pair pair other)) (distinct pairs)

-- a pair, and how often it stands among these
abbrev pub seen_among : List (ℕ × List ℕ) → ℕ × List ℕ → SeenCount
seen_among pairs pair = record { pc = pair.0; epc = pair.1; count = count_by (same_pair pair) pairs }

-- the counts of pairs that were listed in this order
abbrev pub seen_counts : List (ℕ × List ℕ) → List SeenCount
seen_counts pairs = map (seen_among pairs) (distinct pairs)

-- the count is that of the pair
abbrev pub counts_pair : ℕ × List ℕ → SeenCount → Bool
counts_pair pair seen = same_pair pair (seen.pc, seen.epc)

-- how often a pair was listed, by the counts
abbrev pub count_of : List SeenCount → ℕ × List ℕ → ℕ
count_of [] pair = 0
count_of (seen ∷ others) pair = if counts_pair pair seen then seen.count else count_of others pair

-- how often pairs of PC and EPC were listed in all: the sum of their counts
abbrev pub total_of : List SeenCount → ℕ
total_of [] = 0
total_of (seen ∷ others) = seen.count + total_of others

-- one more of a pair: its count rises where it has one, else it stands last, with the count 1
abbrev pub seen_more : List SeenCount → ℕ × List ℕ → List SeenCount
seen_more [] pair = record { pc = pair.0; epc = pair.1; count = 1 } ∷ []
seen_more (seen ∷ others) pair = if counts_pair pair seen then record seen { count = seen.count + 1 } ∷ others else seen ∷ seen_more others pair

-- the line of a count
abbrev pub seen_line : SeenCount → ReportLine
seen_line seen = SeenLine seen.count seen.pc seen.epc
