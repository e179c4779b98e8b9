-- The laws of the four line codes, and the lengths of their streams.
use Rattle.std.proofs.Common.{◌≡◌, ℕ, ◌+◌, ◌*◌, ◌≤◌, Bool, true, false, List, [], ◌∷◌, ◌++◌, length, refl, ◌∙◌, arith, length-append}
use Rattle.bit_strings.specs.declared.code.Code.{Code}
use Rattle.bit_strings.specs.declared.code.Code.TheVariants.{Fm0, M2, M4, M8}
use Rattle.line_code.specs.Table.{Table}
use Rattle.line_code.specs.TableFacts.{IsEven, HasLead, TellsBits, RefusesFlips, longest_lead}
use Rattle.line_code.specs.Stream.{blocks, stream_of}
use Rattle.line_code.specs.laws.Streams.{length-blocks}
use Rattle.fm0_line.specs.Fm0.{fm0}
use Rattle.miller_line.specs.Miller.{miller}
use Rattle.fm0_line.specs.laws.Fm0.{fm0_even, fm0_has_lead, fm0_tells_bits, fm0_refuses_flips}
use Rattle.miller_line.specs.laws.Miller.{two, four, eight, miller_even, miller_has_lead, miller_tells_bits, miller_refuses_flips}
use Rattle.reply_wire.specs.Codes.{table_of, chips_of}

pub code_even : (code : Code) → IsEven (table_of code) (chips_of code)
code_even Fm0 = fm0_even
code_even M2 = miller_even 2 two
code_even M4 = miller_even 4 four
code_even M8 = miller_even 8 eight

pub code_has_lead : (code : Code) → HasLead (table_of code)
code_has_lead Fm0 = fm0_has_lead
code_has_lead M2 = miller_has_lead 2 two
code_has_lead M4 = miller_has_lead 4 four
code_has_lead M8 = miller_has_lead 8 eight

pub code_tells : (code : Code) → TellsBits (table_of code)
code_tells Fm0 = fm0_tells_bits
code_tells M2 = miller_tells_bits 2 two
code_tells M4 = miller_tells_bits 4 four
code_tells M8 = miller_tells_bits 8 eight

pub code_refuses_flips : (code : Code) → RefusesFlips (table_of code)
code_refuses_flips Fm0 = fm0_refuses_flips
code_refuses_flips M2 = miller_refuses_flips 2 two
code_refuses_flips M4 = miller_refuses_flips 4 four
code_refuses_flips M8 = miller_refuses_flips 8 eight

-- the longest lead is that of Miller 8 with the extended pilot
pub lead_short : (code : Code) (trext : Bool) → length ((table_of code).lead trext) ≤ longest_lead
lead_short Fm0 false = let size : length (fm0.lead false) ≡ 12 = refl in omega arith
lead_short Fm0 true = let size : length (fm0.lead true) ≡ 36 = refl in omega arith
lead_short M2 false = let size : length ((miller 2).lead false) ≡ 40 = refl in omega arith
lead_short M2 true = let size : length ((miller 2).lead true) ≡ 88 = refl in omega arith
lead_short M4 false = let size : length ((miller 4).lead false) ≡ 80 = refl in omega arith
lead_short M4 true = let size : length ((miller 4).lead true) ≡ 176 = refl in omega arith
lead_short M8 false = let size : length ((miller 8).lead false) ≡ 160 = refl in omega arith
lead_short M8 true = let size : length ((miller 8).lead true) ≡ 352 = refl in omega arith

-- no code has more than 16 levels in a block
pub blocks_short : (code : Code) (n : ℕ) → chips_of code * (n + 1) ≤ 16 * (n + 1)
blocks_short Fm0 n = omega arith
blocks_short M2 n = omega arith
blocks_short M4 n = omega arith
blocks_short M8 n = omega arith

pub length-stream : (code : Code) (trext : Bool) (bits : List Bool)
    → length (stream_of (table_of code) trext bits) ≡ length ((table_of code).lead trext) + chips_of code * (length bits + 1)
length-stream code trext bits =
    let t : Table = table_of code in
    let whole = length-append (t.lead trext) (blocks t t.start (bits ++ true ∷ [])) in
    let data_blocks = length-blocks t (chips_of code) (code_even code) (bits ++ true ∷ []) t.start in
    let count : length (bits ++ true ∷ []) ≡ length bits + 1 = omega (arith, length-append bits (true ∷ [])) in
    whole ∙ rw (data_blocks, count) refl

-- a stream has a level at least, and at most those of the longest lead and of 16 for each bit and for the dummy
pub stream_least : (code : Code) (trext : Bool) (bits : List Bool) → 1 ≤ length (stream_of (table_of code) trext bits)
stream_least code trext bits = omega (arith, length-stream code trext bits, code_has_lead code trext)

pub stream_most : (code : Code) (trext : Bool) (bits : List Bool) → length (stream_of (table_of code) trext bits) ≤ longest_lead + 16 * (length bits + 1)
stream_most code trext bits = omega (arith, length-stream code trext bits, lead_short code trext, blocks_short code (length bits))
