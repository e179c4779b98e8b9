-- A text is cut behind its first line `end`, line by line.
use Rattle.air_audit.proofs.Names.{◌≡◌, ℕ, ◌+◌, ◌-◌, ◌≤◌, Bool, true, false, List, [], ◌∷◌, ◌++◌, length, if◌then◌else◌, codes, ap, arith, length-append, bytes_eq, some_line, line_feed, lines_of}
use Rattle.air_audit.specs.ScenarioAndTrace.{count_to_end}

-- the lines before the rest are of the scenario, and none is `end`
pub record CutSoFar (input rest : List ℕ) : Type 0 where
  pub within : length rest ≤ length input
  pub count : count_to_end (lines_of input) + length rest ≡ length input + count_to_end (lines_of rest)

-- the first line of the rest
pub record FirstLine (rest line behind : List ℕ) : Type 0 where
  pub cut : rest ≡ line ++ line_feed ∷ behind
  pub lines : lines_of rest ≡ line ∷ lines_of behind

count-first : (line : List ℕ) (lines : List (List ℕ)) (is : Bool) → 1 ≤ length lines → bytes_eq line (codes "end") ≡ is
    → count_to_end (line ∷ lines) ≡ length line + 1 + (if is then 0 else count_to_end lines)
count-first line [] is some same = absurd (omega arith)
count-first line (next ∷ lines) is some same = ap (λ (b : Bool). length line + 1 + (if b then 0 else count_to_end (next ∷ lines))) same

module _ (input rest line behind : List ℕ) (so_far : CutSoFar input rest) (first : FirstLine rest line behind) where
  rest-is : length rest ≡ length line + 1 + length behind
  rest-is = omega (arith, ap (λ (l : List ℕ). length l) first.cut, length-append line (line_feed ∷ behind))

  -- behind another line, and behind the line `end`
  pub cut-more : bytes_eq line (codes "end") ≡ false → CutSoFar input behind
  cut-more other =
      let count = count-first line (lines_of behind) false (some_line behind) other in
      record {
        within = omega (arith, so_far.within, rest-is);
        count = omega (arith, so_far.count, rest-is, ap count_to_end first.lines, count);
      }

  pub cut-end : bytes_eq line (codes "end") ≡ true → length input - length behind ≡ count_to_end (lines_of input)
  cut-end is =
      let count = count-first line (lines_of behind) true (some_line behind) is in
      omega (arith, so_far.within, so_far.count, rest-is, ap count_to_end first.lines, count)

-- no line is `end`
pub cut-none : (input rest : List ℕ) → CutSoFar input rest → lines_of rest ≡ rest ∷ [] → length input ≡ count_to_end (lines_of input)
cut-none input rest so_far whole = omega (arith, so_far.count, ap count_to_end whole)
