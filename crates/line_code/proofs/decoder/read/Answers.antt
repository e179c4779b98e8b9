-- The levels in the data: whole blocks, then what is left, level by level.
use Rattle.std.proofs.Common.{◌≡◌, ◌∙◌, ◌+◌, ◌*◌, ◌-◌, ◌++◌, ◌∷◌, ◌↔◌, ℕ, [], ◌≤◌, List, Bool, Option, Some, None, IfSome, IsNone, length, mul-le-mul_right, take, drop, arith, ap, refl, sym, subst}
use Rattle.std.proofs.lemmas.Result.{err_from_is_err_and}
use Rattle.std.proofs.lemmas.List.{length-take-le, length-drop, take_all, append-nil, drop-drop}
use Rattle.line_code.specs.States.{Reads, HasBlocks, LastIs, context_after}
use Rattle.line_code.specs.Stream.{Streams, stream_of, blocks}
use Rattle.line_code.specs.Table.{Context, Table}
use Rattle.line_code.specs.laws.Reading.{has_more, reads_between}
use Rattle.line_code.proofs.Steps.{one_more, block_more}
use Rattle.bit_strings.specs.laws.Family.{bad-in_front}
use Rattle.bit_strings.specs.BitString.{BitString}
use Rattle.line_code.specs.TableFacts.{CodeTable}
use Rattle.line_code.proofs.Writing.{one_block}
use Rattle.line_code.proofs.Whole.{bits_within, has_within, HasRead, HasBehind}
use Rattle.line_code.proofs.decoder.read.Goals as goal

-- the next levels, so many, are the blocks of more bits
record BlocksAt (t : Table) (context : Context) (levels : List Bool) (at : ℕ) : Type 0 where
  count : ℕ
  more : List Bool
  levels_are : take count (drop at levels) ≡ blocks t context more

-- these blocks go on behind the blocks before
goes_on : (t : Table) (trext : Bool) (context : Context) (levels bits : List Bool) (at : ℕ) → HasBlocks t trext context (take at levels) bits
    → (next : BlocksAt t context levels at) → HasBlocks t trext (context_after t context next.more) (take (at + next.count) levels) (bits ++ next.more)
goes_on t trext context levels bits at has next =
    let P : List Bool → Type 0 = λ ls. HasBlocks t trext (context_after t context next.more) ls (bits ++ next.more) in
    subst P (block_more levels (blocks t context next.more) at next.count next.levels_are) (has_more t trext context (take at levels) bits next.more has)

-- all the levels that follow
behind : (levels : List Bool) (at : ℕ) → take (length levels - at) (drop at levels) ≡ drop at levels
behind levels at = take_all (length levels - at) (drop at levels) (omega (arith, length-drop at levels))

-- what is read, and the blocks of more bits behind it
taken : (t : Table) (trext : Bool) (levels : List Bool) (context : Context) (before out new : BitString) (at : ℕ) (next : BlocksAt t context levels at)
    → HasRead t trext levels at context before out → at + next.count ≤ length levels → new.items ≡ out.items ++ next.more → new.capacity ≡ out.capacity
    → HasRead t trext levels (at + next.count) (context_after t context next.more) before new
taken t trext levels context before out new at next read within items capacity = record {
  within = within;
  has = rw items (goes_on t trext context levels out.items at read.has next);
  same = capacity ∙ read.same;
}

-- there is room for as many bits as their blocks have levels
has_room : (code : CodeTable) (trext : Bool) (levels : List Bool) (context : Context) (before out : BitString) (at count bits : ℕ) → HasRead code.table trext levels at context before out
    → at + count * code.chips ≤ length levels → length levels ≤ before.capacity → bits ≡ count → length out.items + bits ≤ out.capacity
has_room code trext levels context before out at count bits read within room is =
    let put = has_within code.table code.chips code.even trext context (take at levels) out.items read.has in
    let size = length-take-le at levels read.within in
    omega (arith, put, size, within, room, is, read.same, mul-le-mul_right count code.even.least)

-- what is read up to a place, and the levels behind it
begins_at : (t : Table) (trext : Bool) (levels behind : List Bool) (context : Context) (before out : BitString) (at : ℕ) → HasRead t trext levels at context before out
    → behind ≡ drop at levels → HasBehind t trext levels behind context before out
begins_at t trext levels behind context before out at read are =
    let size : length behind ≡ length levels - at = ap length are ∙ length-drop at levels in
    let within = read.within in
    let place : at ≡ length levels - length behind = omega (arith, size, within) in
    record {
      place = omega (arith, size);
      are = are ∙ ap (λ (n : ℕ). drop n levels) place;
      read = subst (λ (n : ℕ). HasRead t trext levels n context before out) place read;
    }

-- the same, behind the blocks of more bits
moves_on : (t : Table) (trext : Bool) (levels rest : List Bool) (context : Context) (before out new : BitString) → HasBehind t trext levels rest context before out
    → (next : BlocksAt t context levels (length levels - length rest)) → next.count ≤ length rest → new.items ≡ out.items ++ next.more → new.capacity ≡ out.capacity
    → HasBehind t trext levels (take (length rest - next.count) (drop next.count rest)) (context_after t context next.more) before new
moves_on t trext levels rest context before out new loop next some items capacity =
    let at = length levels - length rest in
    let count = next.count in
    let within : at + count ≤ length levels = omega (arith, loop.place, some) in
    let read = taken t trext levels context before out new at next loop.read within items capacity in
    let further : drop count rest ≡ drop (at + count) levels = ap (drop count) loop.are ∙ drop-drop count at levels ∙ ap (λ (n : ℕ). drop n levels) (omega arith) in
    begins_at t trext levels _ _ before new (at + count) read (behind rest count ∙ further)

pub loop-sixteen-init : goal.loop-sixteen-init
loop-sixteen-init g c =
    let t = g.C.LineCode.table in
    let levels = c.args.levels.now in
    let found = c.in_ok-lead.ensures.found in
    let at = c.in_ok-lead.lead in
    let read : HasRead t c.args.trext levels at (g.C.LineCode.context_of c.after_lead-mark.result) c.args.out.now c.args.out.now = record {
      within = found.0;
      has = rw c.requires.empty (record { levels_are = found.1 ∙ sym (append-nil (t.lead c.args.trext)); context_is = c.after_lead-mark.ensures });
      same = refl;
    } in
    begins_at t c.args.trext levels _ _ c.args.out.now c.args.out.now at read (behind levels at)

pub put_bits-requires : goal.put_bits-requires
put_bits-requires g c =
    let code : CodeTable = record { table = g.C.LineCode.table; chips = g.C.LineCode.CHIPS; even = g.met.C.LineCode.even; tells = g.met.C.LineCode.tells_bits } in
    let levels = c.args.levels.now in
    let loop = c.loop-sixteen.invariant in
    let some = c.in-Some.ensures in
    let at = length levels - length c.loop-sixteen.behind.now in
    let within : at + 16 * code.chips ≤ length levels = let place = loop.place in let next = some.1 in omega arith in
    has_room code c.args.trext levels _ c.args.out.now c.loop-sixteen.out at 16 _ loop.read within c.requires.room some.0

pub loop-sixteen-preserved : goal.loop-sixteen-preserved
loop-sixteen-preserved g c =
    let t = g.C.LineCode.table in
    let levels = c.args.levels.now in
    let rest = c.loop-sixteen.behind.now in
    let loop = c.loop-sixteen.invariant in
    let some = c.in-Some.ensures in
    let next : BlocksAt t (g.C.LineCode.context_of c.loop-sixteen.mark) levels (length levels - length rest) = record {
      count = 16 * g.C.LineCode.CHIPS;
      more = c.in-Some.sixteen.0;
      levels_are = ap (take (16 * g.C.LineCode.CHIPS)) (sym loop.are) ∙ some.2;
    } in
    rw (c.CHIPS.ensures, some.3) (moves_on t c.args.trext levels rest _ c.args.out.now c.loop-sixteen.out _ loop next some.1 c.put_bits.ensures.items c.put_bits.ensures.capacity)

pub loop-bit-init : goal.loop-bit-init
loop-bit-init g c =
    let loop = c.loop-sixteen.invariant in
    record { place = loop.place; are = loop.are; read = record { within = loop.read.within; has = loop.read.has; same = refl } }

pub push_reserved-requires : goal.push_reserved-requires
push_reserved-requires g c =
    let code : CodeTable = record { table = g.C.LineCode.table; chips = g.C.LineCode.CHIPS; even = g.met.C.LineCode.even; tells = g.met.C.LineCode.tells_bits } in
    let levels = c.args.levels.now in
    let loop = c.loop-bit.invariant in
    let some = c.in-Some-next_bit.ensures in
    let at = length levels - length c.loop-bit.behind.now in
    let within : at + 1 * code.chips ≤ length levels = let place = loop.place in let next = some.0 in omega arith in
    let wide : length levels ≤ c.loop-sixteen.out.capacity = omega (arith, c.requires.room, c.loop-sixteen.invariant.read.same) in
    let room = has_room code c.args.trext levels _ c.loop-sixteen.out c.loop-bit.out at 1 1 loop.read within wide refl in
    omega (arith, room)

pub loop-bit-preserved : goal.loop-bit-preserved
loop-bit-preserved g c =
    let t = g.C.LineCode.table in
    let levels = c.args.levels.now in
    let rest = c.loop-bit.behind.now in
    let loop = c.loop-bit.invariant in
    let some = c.in-Some-next_bit.ensures in
    let context = g.C.LineCode.context_of c.loop-bit.mark in
    let bit = c.in-Some-next_bit.bit in
    let next : BlocksAt t context levels (length levels - length rest) = record {
      count = g.C.LineCode.CHIPS;
      more = bit ∷ [];
      levels_are = ap (take g.C.LineCode.CHIPS) (sym loop.are) ∙ one_block t context bit (take g.C.LineCode.CHIPS rest) some.1;
    } in
    let put = c.push_reserved.ensures in
    rw (c.CHIPS-in-Some-next_bit.ensures, c.after-mark.ensures) (moves_on t c.args.trext levels rest context c.loop-sixteen.out c.loop-bit.out _ loop next some.0
    (ap (λ (s : BitString). s.items) put) (ap (λ (s : BitString). s.capacity) put))

pub between_blocks-inside-requires-clause-few : goal.between_blocks-inside-requires-clause-few
between_blocks-inside-requires-clause-few g c =
    let read = c.loop-bit.invariant.read in
    let count = c.len.ensures.count in
    let at = length c.args.levels.now - length c.loop-bit.behind.now in
    let put = has_within g.C.LineCode.table g.C.LineCode.CHIPS g.met.C.LineCode.even c.args.trext _ (take at c.args.levels.now) c.loop-bit.out.items read.has in
    let size = length-take-le at c.args.levels.now read.within in
    omega arith

-- the last of the bits, as the buffer answers it
last_is : (last : Option Bool) (bits : List Bool) → IfSome last (λ bit. (front : List Bool) × (bits ≡ front ++ bit ∷ [])) → (IsNone last ↔ (bits ≡ [])) → LastIs bits last
last_is (Some bit) bits some none = some
last_is None bits some none = none.0 refl

pub loop-place-init : goal.loop-place-init
loop-place-init g c =
    let code : CodeTable = record { table = g.C.LineCode.table; chips = g.C.LineCode.CHIPS; even = g.met.C.LineCode.even; tells = g.met.C.LineCode.tells_bits } in
    let read = c.loop-bit.invariant.read in
    let at = length c.args.levels.now - length c.loop-bit.behind.now in
    let size = length-take-le at c.args.levels.now read.within in
    let last = last_is c.last.result c.loop-bit.out.items c.last.ensures.value c.last.ensures.none in
    record {
      reads = rw c.between_blocks-inside.ensures (reads_between code c.args.trext _ at c.len.result (take at c.args.levels.now) c.loop-bit.out.items c.last.result
          (sym size) c.len.ensures.count read.has last);
      same = refl;
    }

pub push-requires-clause-room : goal.push-requires-clause-room
push-requires-clause-room g c =
    let front = take c.loop-place.place c.args.levels.now in
    let put = bits_within g.C.LineCode.table g.C.LineCode.CHIPS g.met.C.LineCode.even c.args.trext c.loop-place.inside front c.loop-place.out.items c.loop-place.invariant.reads in
    let test = c.loop-place-test.true in
    let same = c.loop-place.invariant.same in
    let before = c.loop-bit.invariant.read.same in
    let first = c.loop-sixteen.invariant.read.same in
    let room = c.requires.room in
    let size = length-take-le c.loop-place.place c.args.levels.now (omega arith) in
    omega arith

pub returns-in-Refused-clause-refused : goal.returns-in-Refused-clause-refused
returns-in-Refused-clause-refused g c =
    let levels = c.args.levels.now in
    let n = c.loop-place.place in
    let bad = (c.in-Refused.ensures.answer c.args.trext (take n levels) c.loop-place.out.items [] c.loop-place.invariant.reads refl).1 in
    bad-in_front (Streams g.C.LineCode.table c.args.trext) levels (n + 1) c.in-Refused.place (rw (← one_more levels n c.loop-place-test.true) bad)

pub loop-place-preserved : goal.loop-place-preserved
loop-place-preserved g c =
    let t = g.C.LineCode.table in
    let levels = c.args.levels.now in
    let n = c.loop-place.place in
    let read = c.in-Inside.ensures.answer c.args.trext (take n levels) c.loop-place.out.items [] c.loop-place.invariant.reads refl in
    let P : List Bool → Type 0 = λ bits. Reads t c.args.trext c.in-Inside.next (take (n + 1) levels) bits in
    record {
      reads = subst P (sym read.2) (rw (← one_more levels n c.loop-place-test.true) read.1);
      same = c.push.ensures.capacity ∙ c.loop-place.invariant.same;
    }

pub returns-in_err-end-clause-refused : goal.returns-in_err-end-clause-refused
returns-in_err-end-clause-refused g c =
    let levels = c.args.levels.now in
    let n = c.loop-place.place in
    let all : take n levels ≡ levels = take_all n levels (omega arith) in
    let answer = c.in_err-end.ensures.answer c.args.trext (take n levels) c.loop-place.out.items [] c.loop-place.invariant.reads refl in
    let p = err_from_is_err_and c.from_residual-in_err-end.result c.from_residual-in_err-end.ensures.1 in
    rw (p.1, p.2, ← all) answer.0

pub returns-clause-ok : goal.returns-clause-ok
returns-clause-ok g c =
    let levels = c.args.levels.now in
    let n = c.loop-place.place in
    let all : take n levels ≡ levels = take_all n levels (omega arith) in
    let end = c.in_ok-end.ensures.answer c.args.trext (take n levels) c.loop-place.out.items [] c.loop-place.invariant.reads refl in
    sym all ∙ end.1.stream ∙ ap (stream_of g.C.LineCode.table c.args.trext) (sym end.2)
