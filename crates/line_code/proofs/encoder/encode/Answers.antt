use Rattle.std.proofs.Common.{◌≡◌, ◌∙◌, ◌≤◌, ◌+◌, ◌-◌, ◌*◌, ℕ, [], ◌∷◌, ◌++◌, List, Bool, true, false, get_or, take, drop, ap, sym, arith, length}
use Rattle.std.proofs.Math.Nat.{mul-add, mul-le-mul_left}
use Rattle.std.proofs.lemmas.List.{drop_more, take_all, take_rest, length-take-le, length-drop}
use Rattle.line_code.specs.Stream.{blocks}
use Rattle.line_code.specs.States.{context_after}
use Rattle.line_code.specs.TableFacts.{CodeTable}
use Rattle.line_code.specs.laws.Reading.{has_more}
use Rattle.line_code.specs.laws.Streams.{length-blocks}
use Rattle.bit_strings.specs.BitString.{BitString}
use Rattle.bit_strings.specs.NumbersInBits.{value_of, field_of}
use Rattle.bit_strings.specs.laws.NumbersInBits.{field_of-value_of, length-field_of}
use Rattle.line_code.proofs.Writing.{capacity_of, one_block, written_size, writes_more}
use Rattle.line_code.proofs.encoder.encode.Goals as goal

-- the next four bits
record NextFour (bits items : List Bool) (n : ℕ) : Type 0 where
  enough : n + 4 ≤ length bits
  size : length items ≡ 4
  items_are : items ≡ take 4 (drop n bits)

next_four : (bits items : List Bool) (n : ℕ) → 4 ≤ length (take (length bits - n) (drop n bits)) → items ≡ take 4 (take (length bits - n) (drop n bits))
    → NextFour bits items n
next_four bits items n enough same =
    let rest = take_rest bits n in
    let items_are = same ∙ ap (take 4) rest in
    let four : 4 ≤ length (drop n bits) = omega (arith, enough, ap length rest) in
    record { enough = omega (arith, four, length-drop n bits); size = ap length items_are ∙ length-take-le 4 (drop n bits) four; items_are = items_are }

-- the next bit
next_one : (bits : List Bool) (n : ℕ) → n + 1 ≤ length bits → take 1 (drop n bits) ≡ get_or bits n false ∷ []
next_one bits n within = ap (take 1) (drop_more bits n false (omega (arith, within)))

-- the blocks of so many more bits have room before the dummy's end
room_for : (chips n count bits : ℕ) → n + count ≤ bits → chips * n + chips * count ≤ chips * (bits + 1)
room_for chips n count bits within = omega (arith, mul-le-mul_left chips within, mul-add chips bits 1, mul-add chips n count)

-- the number that four bits are has these bits
bits_of_number : (number : ℕ) (items : List Bool) → number ≡ value_of items → length items ≡ 4 → field_of number 4 ≡ items
bits_of_number number items is size = ap (λ n. field_of n 4) is ∙ ap (field_of (value_of items)) (sym size) ∙ field_of-value_of items

-- four blocks have room
pub put_bits-requires : goal.put_bits-requires
put_bits-requires g c =
    let code : CodeTable = record { table = g.C.LineCode.table; chips = g.C.LineCode.CHIPS; even = g.met.C.LineCode.even; tells = g.met.C.LineCode.tells_bits } in
    let bits = c.as_slice-bits.result.now in
    let n = c.loop-four.next in
    let is = c.loop-four.invariant in
    let next = next_four bits c.in-Some.four.now n c.in-Some.ensures.cases.enough c.in-Some.ensures.cases.same in
    let size = written_size code c.args.trext bits n _ _ c.loop-four.levels is in
    let four = field_of c.number_of.result 4 in
    let blocks = ap length c.four_blocks-behind.ensures.levels ∙ length-blocks code.table code.chips code.even four (g.C.LineCode.context_of c.loop-four.mark)
    ∙ ap (λ (n : ℕ). code.chips * n) (length-field_of c.number_of.result 4) in
    let same = ap (λ (s : BitString). s.capacity) c.take-levels.ensures.taken ∙ capacity_of c.put_all_reserved.new.self c.clear.new.self _ c.put_all_reserved.ensures
    ∙ capacity_of c.clear.new.self c.args.out.now _ c.clear.ensures in
    let all = ap (λ (bs : List Bool). code.chips * (length bs + 1)) c.as_slice-bits.ensures.value in
    omega (arith, size, blocks, is.same, same, all, room_for code.chips n 4 (length bits) next.enough, c.requires)

pub loop-four-preserved : goal.loop-four-preserved
loop-four-preserved g c =
    let t = g.C.LineCode.table in
    let bits = c.as_slice-bits.result.now in
    let n = c.loop-four.next in
    let out = c.loop-four.levels in
    let context = g.C.LineCode.context_of c.loop-four.mark in
    let chunk = next_four bits c.in-Some.four.now n c.in-Some.ensures.cases.enough c.in-Some.ensures.cases.same in
    let more = bits_of_number c.number_of.result c.in-Some.four.now c.number_of.ensures chunk.size ∙ chunk.items_are in
    let put = c.put_bits.ensures.items ∙ ap (λ (ls : List Bool). out.items ++ ls) (c.four_blocks-behind.ensures.levels ∙ ap (blocks t context) more) in
    let mark = c.four_blocks-behind.ensures.mark ∙ ap (context_after t context) more in
    rw mark (writes_more t c.args.trext bits n 4 context _ out c.put_bits.new.out c.loop-four.invariant chunk.enough put c.put_bits.ensures.capacity)

-- a block has room
pub put_bits-requires-in-loop-next : goal.put_bits-requires-in-loop-next
put_bits-requires-in-loop-next g c =
    let code : CodeTable = record { table = g.C.LineCode.table; chips = g.C.LineCode.CHIPS; even = g.met.C.LineCode.even; tells = g.met.C.LineCode.tells_bits } in
    let bits = c.as_slice-bits.result.now in
    let n = c.loop-next.next in
    let is = c.loop-next.invariant in
    let size = written_size code c.args.trext bits n _ _ c.loop-next.levels is in
    let block = ap length c.block.ensures ∙ code.even.blocks_even (g.C.LineCode.context_of c.loop-next.mark) _ in
    let same = ap (λ (s : BitString). s.capacity) c.take-levels.ensures.taken ∙ capacity_of c.put_all_reserved.new.self c.clear.new.self _ c.put_all_reserved.ensures
    ∙ capacity_of c.clear.new.self c.args.out.now _ c.clear.ensures in
    let all = ap (λ (bs : List Bool). code.chips * (length bs + 1)) c.as_slice-bits.ensures.value in
    omega (arith, size, block, is.same, c.loop-four.invariant.same, same, all, room_for code.chips n 1 (length bits) (omega (arith, c.loop-next-test.true)), c.requires)

pub loop-next-preserved : goal.loop-next-preserved
loop-next-preserved g c =
    let t = g.C.LineCode.table in
    let bits = c.as_slice-bits.result.now in
    let n = c.loop-next.next in
    let out = c.loop-next.levels in
    let context = g.C.LineCode.context_of c.loop-next.mark in
    let bit = get_or bits n false in
    let within : n + 1 ≤ length bits = omega (arith, c.loop-next-test.true) in
    let next = next_one bits n within in
    let block_is = one_block t context bit c.block.result.now c.block.ensures ∙ ap (blocks t context) (sym next) in
    let put = c.put_bits-in-loop-next.ensures.items ∙ ap (λ (ls : List Bool). out.items ++ ls) block_is in
    let mark = c.after-mark.ensures ∙ ap (context_after t context) (sym next) in
    rw mark (writes_more t c.args.trext bits n 1 context _ out c.put_bits-in-loop-next.new.out c.loop-next.invariant within put c.put_bits-in-loop-next.ensures.capacity)

pub put_bits-requires-2 : goal.put_bits-requires-2
put_bits-requires-2 g c =
    let code : CodeTable = record { table = g.C.LineCode.table; chips = g.C.LineCode.CHIPS; even = g.met.C.LineCode.even; tells = g.met.C.LineCode.tells_bits } in
    let bits = c.as_slice-bits.result.now in
    let n = c.loop-next.next in
    let is = c.loop-next.invariant in
    let size = written_size code c.args.trext bits n _ _ c.loop-next.levels is in
    let block = ap length c.block-2.ensures ∙ code.even.blocks_even (g.C.LineCode.context_of c.loop-next.mark) _ in
    let same = ap (λ (s : BitString). s.capacity) c.take-levels.ensures.taken ∙ capacity_of c.put_all_reserved.new.self c.clear.new.self _ c.put_all_reserved.ensures
    ∙ capacity_of c.clear.new.self c.args.out.now _ c.clear.ensures in
    let all = ap (λ (bs : List Bool). code.chips * (length bs + 1)) c.as_slice-bits.ensures.value in
    omega (arith, size, block, is.same, c.loop-four.invariant.same, same, all, mul-add code.chips (length bits) 1, mul-le-mul_left code.chips is.within, c.requires)

pub returns-clause-stream : goal.returns-clause-stream
returns-clause-stream g c =
    let t = g.C.LineCode.table in
    let bits = c.as_slice-bits.result.now in
    let n = c.loop-next.next in
    let is = c.loop-next.invariant in
    let out = c.loop-next.levels in
    let context = g.C.LineCode.context_of c.loop-next.mark in
    let dummy : List Bool = true ∷ [] in
    let end = take_all n bits (omega (arith, c.loop-next-test.false)) in
    let whole = has_more t c.args.trext context out.items (take n bits) dummy is.has in
    let put = c.put_bits-2.ensures.items ∙ ap (λ (ls : List Bool). out.items ++ ls) (one_block t context true c.block-2.result.now c.block-2.ensures) in
    put ∙ whole.levels_are ∙ ap (λ (bs : List Bool). t.lead c.args.trext ++ blocks t t.start (bs ++ dummy)) (end ∙ c.as_slice-bits.ensures.value)
