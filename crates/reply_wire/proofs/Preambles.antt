-- The leads of the four line codes with and without the extension of the pilot, and what follows for their streams.
use Rattle.std.proofs.Common.{◌≡◌, ℕ, zero, suc, ◌≤◌, Bool, true, false, not, List, [], ◌∷◌, ◌++◌, refl, arith}
use Rattle.bit_strings.specs.declared.code.Code.{Code}
use Rattle.bit_strings.specs.declared.code.Code.TheVariants.{Fm0, M2, M4, M8}
use Rattle.fm0_line.specs.Fm0.{fm0}
use Rattle.line_code.specs.TableFacts.{with_level_flipped, HidesLead}
use Rattle.line_code.specs.Stream.{blocks, Streams}
use Rattle.line_code.specs.Table.{Table}
use Rattle.reply_wire.specs.Codes.{table_of}
use Rattle.reply_wire.specs.PilotExtension.{difference, differing_places, PreamblesDiffer, HasOnePreamble, KeepsPreamble}
use Rattle.miller_line.specs.Miller.{miller}
use Rattle.fm0_line.specs.laws.Fm0.{fm0_hides_lead}
use Rattle.miller_line.specs.laws.Miller.{two, four, eight, miller_hides_lead}

pub code_hides_lead : (code : Code) → HidesLead (table_of code)
code_hides_lead Fm0 = fm0_hides_lead
code_hides_lead M2 = miller_hides_lead 2 two
code_hides_lead M4 = miller_hides_lead 4 four
code_hides_lead M8 = miller_hides_lead 8 eight

pub preambles_differ : (code : Code) → PreamblesDiffer (table_of code)
preambles_differ Fm0 = let count : differing_places (fm0.lead false) (fm0.lead true) ≡ 6 = refl in omega arith
preambles_differ M2 = let count : differing_places ((miller 2).lead false) ((miller 2).lead true) ≡ 12 = refl in omega arith
preambles_differ M4 = let count : differing_places ((miller 4).lead false) ((miller 4).lead true) ≡ 24 = refl in omega arith
preambles_differ M8 = let count : differing_places ((miller 8).lead false) ((miller 8).lead true) ≡ 48 = refl in omega arith

difference-same : (level : Bool) → difference level level ≡ 0
difference-same false = refl
difference-same true = refl

difference-swapped : (level other : Bool) → difference level other ≡ difference other level
difference-swapped false false = refl
difference-swapped false true = refl
difference-swapped true false = refl
difference-swapped true true = refl

difference-most : (level other : Bool) → difference level other ≤ 1
difference-most false false = omega arith
difference-most false true = omega arith
difference-most true false = omega arith
difference-most true true = omega arith

differing-same : (levels : List Bool) → differing_places levels levels ≡ 0
differing-same [] = refl
differing-same (level ∷ levels) = omega (arith, difference-same level, differing-same levels)

differing-swapped : (levels others : List Bool) → differing_places levels others ≡ differing_places others levels
differing-swapped [] [] = refl
differing-swapped [] (other ∷ others) = refl
differing-swapped (level ∷ levels) [] = refl
differing-swapped (level ∷ levels) (other ∷ others) = omega (arith, difference-swapped level other, differing-swapped levels others)

-- one inverted level makes one difference at most
differing-flipped : (levels : List Bool) (at : ℕ) → differing_places levels (with_level_flipped levels at) ≤ 1
differing-flipped [] at = omega arith
differing-flipped (level ∷ levels) zero = omega (arith, difference-most level (not level), differing-same levels)
differing-flipped (level ∷ levels) (suc at) = omega (arith, difference-same level, differing-flipped levels at)

-- what follows takes no difference away
differing-fronts : (levels others more rest : List Bool) → differing_places levels others ≤ differing_places (levels ++ more) (others ++ rest)
differing-fronts [] others more rest = omega arith
differing-fronts (level ∷ levels) [] more rest = omega arith
differing-fronts (level ∷ levels) (other ∷ others) more rest = omega (arith, differing-fronts levels others more rest)

leads-differ : (t : Table) → PreamblesDiffer t → (trext : Bool) → 2 ≤ differing_places (t.lead trext) (t.lead (not trext))
leads-differ t differ false = differ
leads-differ t differ true = omega (arith, differing-swapped (t.lead false) (t.lead true))

-- a stream with the one lead and a stream with the other differ in two places at least
streams-differ : (t : Table) → PreamblesDiffer t → (trext : Bool) (levels others : List Bool) → Streams t trext levels → Streams t (not trext) others → 2 ≤ differing_places levels others
streams-differ t differ trext levels others stream other =
    let fronts = differing-fronts (t.lead trext) (t.lead (not trext)) (blocks t t.start (stream.0 ++ true ∷ [])) (blocks t t.start (other.0 ++ true ∷ [])) in
    rw (stream.1, other.1) (omega (arith, fronts, leads-differ t differ trext))

pub code_has_one_preamble : (code : Code) → HasOnePreamble (table_of code)
code_has_one_preamble code trext levels stream other =
    omega (arith, streams-differ (table_of code) (preambles_differ code) trext levels levels stream other, differing-same levels)

pub code_keeps_preamble : (code : Code) → KeepsPreamble (table_of code)
code_keeps_preamble code trext levels at stream other =
    omega (arith, streams-differ (table_of code) (preambles_differ code) trext levels (with_level_flipped levels at) stream other, differing-flipped levels at)
