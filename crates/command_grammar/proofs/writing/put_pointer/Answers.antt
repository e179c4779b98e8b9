use Rattle.std.proofs.Common.{◌≡◌, ◌≤◌, ◌++◌, ◌∙◌, List, Bool, ap, length, length-append, arith}
use Rattle.bit_strings.specs.BitString.{BitString}
use Rattle.bit_strings.specs.Ebv.{ebv_of}
use Rattle.command_grammar.proofs.SpellingLengths.{length-ebv_of}
use Rattle.command_grammar.proofs.writing.put_pointer.Goals as goal

pub returns-clause-items : goal.returns-clause-items
returns-clause-items c =
    let number : c.get.result ≡ c.args.pointer = c.get.ensures.value in
    ap (λ (bits : BitString). bits.items) c.put_ebv_reserved.ensures ∙ ap (λ n. c.put_bits.new.out.items ++ ebv_of n) number
    ∙ ap (λ (l : List Bool). l ++ ebv_of c.args.pointer) c.put_bits.ensures.items

pub returns-clause-count : goal.returns-clause-count
returns-clause-count c =
    let few : length (ebv_of c.get.result) ≤ 32 = length-ebv_of c.get.result (omega arith) in
    omega (arith, few, ap (λ (bits : BitString). length bits.items) c.put_ebv_reserved.ensures, length-append c.put_bits.new.out.items (ebv_of c.get.result), c.put_bits.ensures.count)

pub put_ebv_reserved-requires-clause-room : goal.put_ebv_reserved-requires-clause-room
put_ebv_reserved-requires-clause-room c =
    let few : length (ebv_of c.get.result) ≤ 32 = length-ebv_of c.get.result (omega arith) in
    omega (arith, few, c.put_bits.ensures.count)
