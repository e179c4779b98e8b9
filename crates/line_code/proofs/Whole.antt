-- From one place of the levels to the whole list, and what a decoder may then answer.
use Rattle.std.proofs.Common.{◌<◌, ◌≡◌, ◌-◌, ℕ, ◌≤◌, Bool, true, List, [], ◌∷◌, ◌++◌, length, take, drop, Result, Ok, Err, IsOk, IsErr, OnOk, IfErr, refl, sym, ap, ◌∙◌, subst, arith, length-append, mul-le-mul_right}
use Rattle.bit_strings.specs.BitString.{BitString}
use Rattle.line_code.specs.Table.{Context, Table}
use Rattle.line_code.specs.Stream.{blocks, IsStream, Streams}
use Rattle.line_code.specs.States.{InsideValue, Reads, HasBlocks}
use Rattle.line_code.specs.TableFacts.{IsEven, CodeTable, RefusesFlips, HidesLead, with_level_flipped}
use Rattle.line_code.specs.Refusal.{RefusesStream}
use Rattle.line_code.specs.laws.Streams.{length-blocks, one_stream, refused_is_none}
use Rattle.line_code.specs.declared.refusal.LineRefusal.{LineRefusal}

-- no more bits than levels
pub bits_within : (t : Table) (chips : ℕ) → IsEven t chips → (trext : Bool) (state : InsideValue) (levels bits : List Bool) → Reads t trext state levels bits → length bits ≤ length levels
bits_within t chips even trext state levels bits r =
    let whole = ap length r.levels_are in
    let outer = length-append (t.lead trext) (blocks t t.start bits ++ r.part) in
    let inner = length-append (blocks t t.start bits) r.part in
    let few : length bits ≤ length (blocks t t.start bits) = omega (arith, length-blocks t chips even bits t.start, mul-le-mul_right (length bits) even.least) in
    omega (arith, whole, outer, inner, few)

pub has_within : (t : Table) (chips : ℕ) → IsEven t chips → (trext : Bool) (context : Context) (levels bits : List Bool) → HasBlocks t trext context levels bits → length bits ≤ length levels
has_within t chips even trext context levels bits h =
    let whole = ap length h.levels_are in
    let outer = length-append (t.lead trext) (blocks t t.start bits) in
    let few : length bits ≤ length (blocks t t.start bits) = omega (arith, length-blocks t chips even bits t.start, mul-le-mul_right (length bits) even.least) in
    omega (arith, whole, outer, few)

-- the decoder before whole blocks: the levels up to the place are the lead and the blocks of the bits that were put, and the room is as it was
abbrev pub HasRead : (t : Table) (trext : Bool) (levels : List Bool) (at : ℕ) (context : Context) (before out : BitString) → Type 0
HasRead t trext levels at context before out = record {
  within : at ≤ length levels;
  has : HasBlocks t trext context (take at levels) out.items;
  same : out.capacity ≡ before.capacity;
}

-- the same, by the levels behind these
abbrev pub HasBehind : (t : Table) (trext : Bool) (levels behind : List Bool) (context : Context) (before out : BitString) → Type 0
HasBehind t trext levels behind context before out = record {
  place : length behind ≤ length levels;
  are : behind ≡ drop (length levels - length behind) levels;
  read : HasRead t trext levels (length levels - length behind) context before out;
}

-- where the levels are a stream, a true answer is its bits
pub decided : (code : CodeTable) (trext : Bool) (result : Result (Unit {0}) LineRefusal) (levels out bits : List Bool)
    → OnOk result (IsStream code.table trext out levels) → IfErr result (RefusesStream (Streams code.table trext) levels)
    → IsStream code.table trext bits levels → IsOk result × (out ≡ bits)
decided code trext (Ok done) levels out bits ok refused s = (refl, one_stream code trext out bits levels ok s)
decided code trext (Err refusal) levels out bits ok refused s = absurd (refused_is_none (Streams code.table trext) levels refusal refused (bits, s))

-- where the levels are no stream, the answer is a refusal
pub refused_else : (t : Table) (trext : Bool) (result : Result (Unit {0}) LineRefusal) (levels out : List Bool)
    → OnOk result (IsStream t trext out levels) → ¬ Streams t trext levels → IsErr result
refused_else t trext (Ok done) levels out ok none = absurd (none (out, ok))
refused_else t trext (Err refusal) levels out ok none = refl

-- a stream with one level inverted is none
pub flip_is_none : (t : Table) (trext : Bool) (levels sent : List Bool) (at : ℕ) → RefusesFlips t
    → Streams t trext sent → at < length sent → levels ≡ with_level_flipped sent at → ¬ Streams t trext levels
flip_is_none t trext levels sent at law stream within e member = law trext sent at within stream (subst (Streams t trext) e member)

-- data blocks alone are none
pub blocks_are_none : (t : Table) (trext : Bool) (levels : List Bool) (c : Context) (bits : List Bool) → HidesLead t → levels ≡ blocks t c bits → ¬ Streams t trext levels
blocks_are_none t trext levels c bits law e (sent, f) = law trext c bits (blocks t t.start (sent ++ true ∷ [])) (sym e ∙ f)
