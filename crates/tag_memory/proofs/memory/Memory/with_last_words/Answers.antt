use Rattle.std.proofs.Common.{◌≡◌, ◌-◌, ◌<◌, ◌≤◌, ◌∙◌, ap, List, ℕ, length, slice_index, rules}
use Rattle.command_fields.specs.declared.choices.Bank.TheVariants.{Tid}
use Rattle.tag_memory.proofs.LastWords.{both-written}
use Rattle.tag_memory.specs.Memory.{Banks, bank_of, length_in, pc_of}
use Rattle.tag_memory.proofs.memory.Memory.with_last_words.Goals as goal

pub returns : goal.returns
returns c =
    let image = c.args.image.now in
    let counted : c.length_in_pc-place_in_epc.result ≡ length_in (slice_index image.epc 0) =
    c.length_in_pc-place_in_epc.ensures.value ∙ ap length_in (c.pc.ensures.value ∙ ap pc_of c.in_ok-memory.ensures) in
    let inside : c.length_in_pc-place_in_epc.result < length image.epc = search rules in
    let some : 2 ≤ length image.tid = search rules in
    let last : length c.bank.result.now - 1 ≡ length image.tid - 1 =
    ap (λ (words : List ℕ). length words - 1) (c.bank.ensures.value ∙ ap (λ (b : Banks). bank_of b Tid) c.in_ok-memory.ensures) in
    both-written image c.in_ok-memory.memory c.put.new.self c.put-2.new.self c.power_on.new.self _ _ _ _
    inside some c.in_ok-memory.ensures counted c.put.ensures.value last c.put-2.ensures.value c.power_on.ensures.value
