-- What a map gives and keeps, as counts.
use Rattle.std.proofs.Common.{◌≡◌, ◌<◌, ℕ, ◌+◌, arith, Bool, true, false, List, [], ◌∷◌, ◌++◌, map, refl, sym, ◌∙◌, ap, unwrap_or, Option, Some, None, cond}
use Rattle.std.specs.Prelude.{sum}
use Rattle.std.proofs.lemmas.List.Sums.{sum_by-cons}
use Rattle.std.specs.Map.{lookup}
use Rattle.indexmap.specs.IndexMap.{insert_entry}
use Rattle.reply_grammar.specs.PcAndEpc.{same_pair}
use Rattle.report_lines.specs.declared.seen_counts.Listed.{Listed}
use Rattle.report_lines.specs.Entries.{seen_of_listed, seen_of_entry}
use Rattle.report_lines.specs.SeenCounts.{SeenCount, count_of, seen_counts, seen_more, total_of}
use Rattle.report_lines.proofs.SeenLaws.{seen_in-more}

-- the derived test of keys is that of pairs
abbrev pub same_listed : Listed → Listed → Bool
same_listed one other = same_pair (one.pc, one.epc) (other.pc, other.epc)

looked_up_here : (same : Bool) (n : ℕ) (found : Option ℕ) (count : ℕ) → unwrap_or found 0 ≡ count → unwrap_or (cond same (Some n) found) 0 ≡ cond same n count
looked_up_here true n found count rest = refl
looked_up_here false n found count rest = rest

-- what the map gives is the count
pub looked_up : (entries : List (Listed × ℕ)) (listed : Listed) → unwrap_or (lookup (same_listed listed) entries) 0 ≡ count_of (seen_of_listed entries) (listed.pc, listed.epc)
looked_up [] listed = refl
looked_up (entry ∷ entries) listed =
    looked_up_here (same_listed listed entry.0) entry.1 (lookup (same_listed listed) entries) (count_of (seen_of_listed entries) (listed.pc, listed.epc)) (looked_up entries listed)

inserted_here : (same : Bool) (entry : Listed × ℕ) (entries : List (Listed × ℕ)) (count : ℕ) (insert : ℕ → List (Listed × ℕ)) (other : List SeenCount) →
    seen_of_listed (insert (count + 1)) ≡ other →
    seen_of_listed (cond same ((entry.0, cond same entry.1 count + 1) ∷ entries) (entry ∷ insert (cond same entry.1 count + 1)))
    ≡ cond same (record { pc = entry.0.pc; epc = entry.0.epc; count = entry.1 + 1 } ∷ seen_of_listed entries) (seen_of_entry entry ∷ other)
inserted_here true entry entries count insert other rest = refl
inserted_here false entry entries count insert other rest = ap (λ (l : List SeenCount). seen_of_entry entry ∷ l) rest

-- what the map keeps, where the count goes in with one more
pub inserted : (entries : List (Listed × ℕ)) (listed : Listed) →
    seen_of_listed (insert_entry same_listed entries listed (count_of (seen_of_listed entries) (listed.pc, listed.epc) + 1)) ≡ seen_more (seen_of_listed entries) (listed.pc, listed.epc)
inserted [] listed = refl
inserted (entry ∷ entries) listed =
    inserted_here (same_listed listed entry.0) entry entries (count_of (seen_of_listed entries) (listed.pc, listed.epc)) (λ n. insert_entry same_listed entries listed n)
    (seen_more (seen_of_listed entries) (listed.pc, listed.epc)) (inserted entries listed)

-- what is not the count of a pair that is new was found
pub found_of : (found : Option ℕ) (count : ℕ) → count ≡ unwrap_or found 0 → 0 < count → found ≡ Some count
found_of (Some other) count is some = ap Some (sym is)
found_of None count is some = absurd (omega arith)

kept_here : (same : Bool) (entry : Listed × ℕ) (entries others : List (Listed × ℕ)) (found : Option ℕ) (count : ℕ) → cond same (Some entry.1) found ≡ Some count →
    (found ≡ Some count → others ≡ entries) → cond same ((entry.0, count) ∷ entries) (entry ∷ others) ≡ entry ∷ entries
kept_here true entry entries others found count is rest = let same : count ≡ entry.1 = cc in ap (λ (n : ℕ). (entry.0, n) ∷ entries) same
kept_here false entry entries others found count is rest = ap (λ (l : List (Listed × ℕ)). entry ∷ l) (rest is)

-- a count that goes in as it is changes nothing
pub kept : (entries : List (Listed × ℕ)) (listed : Listed) (count : ℕ) → lookup (same_listed listed) entries ≡ Some count →
    insert_entry same_listed entries listed count ≡ entries
kept [] listed count is = absurd (cc)
kept (entry ∷ entries) listed count is =
    kept_here (same_listed listed entry.0) entry entries (insert_entry same_listed entries listed count) (lookup (same_listed listed) entries) count is (kept entries listed count)

-- the counts of the pairs that were listed, with one more
pub listed_more : (seen : List SeenCount) (pairs : List (ℕ × List ℕ)) (pc : ℕ) (epc copy : List ℕ) → seen ≡ seen_counts pairs → copy ≡ epc →
    seen_more seen (pc, copy) ≡ seen_counts (pairs ++ (pc, epc) ∷ [])
listed_more seen pairs pc epc copy is same = rw (is, same) (sym (seen_in-more pairs (pc, epc)))

-- the values of the map in all
pub totalled : (entries : List (Listed × ℕ)) → sum (map (λ entry. entry.1) entries) ≡ total_of (seen_of_listed entries)
totalled [] = refl
totalled (entry ∷ entries) =
    sum_by-cons (λ (n : ℕ). n) entry.1 (map (λ entry. entry.1) entries) ∙ ap (λ n. entry.1 + n) (totalled entries)
