-- How the counts of pairs change with one pair more.
use Rattle.std.proofs.Common.{◌≡◌, inl, inr, ℕ, ◌+◌, ◌≤◌, true, false, not, List, [], ◌∷◌, ◌++◌, length, map, refl, sym, ap, ◌∙◌, subst, arith}
use Rattle.std.specs.Prelude.{filter, count_by, if◌then◌else◌}
use Rattle.std.proofs.lemmas.Bool.{cases_Bool}
use Rattle.std.proofs.lemmas.List.Sums.{count_by-le-length, sum_by-append}
use Rattle.reply_grammar.specs.PcAndEpc.{same_pair}
use Rattle.reply_grammar.proofs.SamePairs.{same_pair-is, same_pair-refl, same_pair-equal}
use Rattle.report_lines.specs.SeenCounts.{SeenCount, counts_pair, distinct, seen_among, seen_counts, seen_more, count_of}

-- two pairs are one, or differ, in both orders
alike_too : (one other : ℕ × List ℕ) → same_pair one other ≡ true → same_pair other one ≡ true
alike_too one other e = same_pair-equal other one (sym (same_pair-is one other e))

differ : (one other : ℕ × List ℕ) → same_pair one other ≡ false → same_pair other one ≡ false
differ one other e = elim (cases_Bool (same_pair other one)) [ inl alike ↦ absurd (let same = alike_too other one alike in cc) | inr unlike ↦ unlike ]

-- how often a pair stands among pairs and one more
count-more : (pairs : List (ℕ × List ℕ)) (one pair : ℕ × List ℕ) →
    count_by (same_pair one) (pairs ++ pair ∷ []) ≡ count_by (same_pair one) pairs + (if same_pair one pair then 1 else 0)
count-more pairs one pair = sum_by-append (λ (each : ℕ × List ℕ). if same_pair one each then 1 else 0) pairs (pair ∷ []) ∙ omega arith

-- the counts of other pairs than this one
abbrev without : ℕ × List ℕ → List SeenCount → List SeenCount
without pair counts = filter (λ seen. not (counts_pair pair seen)) counts

-- a pair before others does not count for them
seen-behind : (first pair : ℕ × List ℕ) (pairs : List (ℕ × List ℕ)) → same_pair pair first ≡ false → seen_among (first ∷ pairs) pair ≡ seen_among pairs pair
seen-behind first pair pairs unlike =
    let same : count_by (same_pair pair) (first ∷ pairs) ≡ count_by (same_pair pair) pairs = rw unlike refl in
    λ i. record { pc = pair.0; epc = pair.1; count = same i }

others-counted : (first : ℕ × List ℕ) (pairs some : List (ℕ × List ℕ)) →
    map (seen_among (first ∷ pairs)) (filter (λ other. not (same_pair first other)) some) ≡ without first (map (seen_among pairs) some)
others-counted first pairs [] = refl
others-counted first pairs (next ∷ some) =
    let others = others-counted first pairs some in
    elim (cases_Bool (same_pair first next)) [
      | inl alike ↦ rw alike others
      | inr unlike ↦ let one = seen-behind first next pairs (differ first next unlike) in rw unlike (λ i. one i ∷ others i)
    ]

-- the counts of pairs are that of the first one, and those of the others
counts-first : (first : ℕ × List ℕ) (pairs : List (ℕ × List ℕ)) → seen_counts (first ∷ pairs) ≡ seen_among (first ∷ pairs) first ∷ without first (seen_counts pairs)
counts-first first pairs = ap (λ (others : List SeenCount). seen_among (first ∷ pairs) first ∷ others) (others-counted first pairs (distinct pairs))

-- one more of a pair changes the counts of others by nothing,
without-same : (pair : ℕ × List ℕ) (counts : List SeenCount) → without pair (seen_more counts pair) ≡ without pair counts
without-same pair [] = rw (same_pair-refl pair) refl
without-same pair (seen ∷ counts) =
    elim (cases_Bool (counts_pair pair seen)) [
      | inl alike ↦ rw (alike, alike) refl
      | inr unlike ↦ rw (unlike, unlike) (ap (λ (others : List SeenCount). seen ∷ others) (without-same pair counts))
    ]

-- and is one more of it among those of others than another pair
without-other : (first pair : ℕ × List ℕ) (counts : List SeenCount) → same_pair first pair ≡ false → without first (seen_more counts pair) ≡ seen_more (without first counts) pair
without-other first pair [] other = rw other refl
without-other first pair (seen ∷ counts) other =
    let others = without-other first pair counts other in
    elim (cases_Bool (counts_pair first seen)) [
      | inl gone ↦
          let unlike : counts_pair pair seen ≡ false =
          subst (λ (one : ℕ × List ℕ). same_pair pair one ≡ false) (same_pair-is first (seen.pc, seen.epc) gone) (differ first pair other) in
          rw (gone, unlike, gone) others
      | inr kept ↦
          elim (cases_Bool (counts_pair pair seen)) [
            | inl alike ↦ rw (kept, alike, kept) refl
            | inr unlike ↦ rw (kept, unlike, kept) (ap (λ (rest : List SeenCount). seen ∷ rest) others)
          ]
    ]

first-more : (first pair : ℕ × List ℕ) (pairs : List (ℕ × List ℕ)) (counts : List SeenCount) →
    seen_among ((first ∷ pairs) ++ pair ∷ []) first ∷ without first (seen_more counts pair) ≡ seen_more (seen_among (first ∷ pairs) first ∷ without first counts) pair
first-more first pair pairs counts =
    let count = count-more (first ∷ pairs) first pair in
    elim (cases_Bool (same_pair first pair)) [
      | inl alike ↦
          let one = rw alike at count in
          let others : without first (seen_more counts pair) ≡ without first counts =
          subst (λ (other : ℕ × List ℕ). without other (seen_more counts pair) ≡ without other counts) (sym (same_pair-is first pair alike)) (without-same pair counts) in
          rw (alike_too first pair alike) (λ i. record { pc = first.0; epc = first.1; count = one i } ∷ others i)
      | inr unlike ↦
          let one : count_by (same_pair first) ((first ∷ pairs) ++ pair ∷ []) ≡ count_by (same_pair first) (first ∷ pairs) = let more = rw unlike at count in omega arith in
          let others = without-other first pair counts unlike in
          rw (differ first pair unlike) (λ i. record { pc = first.0; epc = first.1; count = one i } ∷ others i)
    ]

-- the counts with one pair more
pub seen_in-more : (pairs : List (ℕ × List ℕ)) (pair : ℕ × List ℕ) → seen_counts (pairs ++ pair ∷ []) ≡ seen_more (seen_counts pairs) pair
seen_in-more [] pair = rw (same_pair-refl pair) refl
seen_in-more (first ∷ pairs) pair =
    counts-first first (pairs ++ pair ∷ [])
    ∙ ap (λ (counts : List SeenCount). seen_among ((first ∷ pairs) ++ pair ∷ []) first ∷ without first counts) (seen_in-more pairs pair)
    ∙ first-more first pair pairs (seen_counts pairs)
    ∙ ap (λ (counts : List SeenCount). seen_more counts pair) (sym (counts-first first pairs))

count-few : (pairs some : List (ℕ × List ℕ)) (pair : ℕ × List ℕ) → count_of (map (seen_among pairs) some) pair ≤ length pairs
count-few pairs [] pair = omega arith
count-few pairs (first ∷ some) pair =
    elim (cases_Bool (same_pair pair first)) [
      | inl alike ↦ rw alike (count_by-le-length (same_pair first) pairs)
      | inr unlike ↦ rw unlike (count-few pairs some pair)
    ]

-- no pair was listed more often than pairs were listed
pub count_of-few : (pairs : List (ℕ × List ℕ)) (pair : ℕ × List ℕ) → count_of (seen_counts pairs) pair ≤ length pairs
count_of-few pairs pair = count-few pairs (distinct pairs) pair
