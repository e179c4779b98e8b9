-- The checks of a reply.
use Rattle.std.proofs.Common.{◌≡◌, ℕ, ◌-◌, ◌≤◌, Bool, List, ◌++◌, length, take, drop, refl, sym, ◌∙◌, ap, arith, length-drop}
use Rattle.std.specs.Prelude.{◌↔◌}
use Rattle.std.proofs.lemmas.List.{take-append-drop}
use Rattle.gen2_crc.specs.Crc.{crc16_of}
use Rattle.gen2_crc.specs.laws.CheckNumbers.{length-crc16_of}
use Rattle.reply_grammar.specs.Refusals.{EndsWithCheck}

-- what the register says of a message is what the last 16 bits say
pub check_decides : (P : Type 0) (bits : List Bool) → 16 ≤ length bits → ((front last : List Bool) → bits ≡ front ++ last → length last ≡ 16 → P ↔ (last ≡ crc16_of front)) → P ↔ EndsWithCheck bits
check_decides P bits long message =
    let at : ℕ = length bits - 16 in (
      λ passes.
          let front : List Bool = take at bits in
          let last : List Bool = drop at bits in
          let ways : P ↔ (last ≡ crc16_of front) = message front last (sym (take-append-drop at bits)) (omega (arith, length-drop at bits)) in
          record { front = front; split = sym (take-append-drop at bits) ∙ ap (λ (b : List Bool). front ++ b) (ways.0 passes) },
      λ ends.
          let ways : P ↔ (crc16_of ends.front ≡ crc16_of ends.front) = message ends.front (crc16_of ends.front) ends.split (length-crc16_of ends.front) in
          ways.1 refl,
    )
