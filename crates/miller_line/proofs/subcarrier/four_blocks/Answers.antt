-- The row is that of the four blocks, and its last level tells the phase behind them.
use Rattle.std.proofs.Common.{◌≡◌, ◌∙◌, ◌<◌, ℕ, ◌*◌, ◌-◌, ◌/◌, ◌%◌, ◌∷◌, [], Bool, true, false, not, length, nat_eq, get_or, inl, inr, ap, sym, refl, arith}
use Rattle.std.proofs.Math.Nat.{div-one}
use Rattle.bit_strings.specs.NumbersInBits.{field_of}
use Rattle.line_code.specs.Table.{Context}
use Rattle.line_code.specs.Stream.{blocks}
use Rattle.line_code.specs.States.{context_after}
use Rattle.miller_line.specs.Miller.{miller, IsOneOfThree}
use Rattle.miller_line.specs.SymbolContext.{context}
use Rattle.miller_line.proofs.FourSymbols.{length-symbols}
use Rattle.miller_line.proofs.subcarrier.four_blocks.Goals as goal

within : (m n : ℕ) → IsOneOfThree m → n ≡ 4 * (2 * m) → 8 * m - 1 < n
within m n (inl two) e = omega (arith, two, e)
within m n (inr (inl four)) e = omega (arith, four, e)
within m n (inr (inr eight)) e = omega (arith, eight, e)

twice : (phase : Bool) → not (not phase) ≡ phase
twice true = refl
twice false = refl

four_times : (phase : Bool) → not (not (not (not phase))) ≡ phase
four_times phase = twice (not (not phase)) ∙ twice phase

-- half a symbol has an even number of levels, so the last of them is its phase
last_level : (m : ℕ) (c : Context) (first second third fourth : Bool) → IsOneOfThree m
    → get_or (blocks (miller m) c (first ∷ second ∷ third ∷ fourth ∷ [])) (8 * m - 1) false ≡ (context_after (miller m) c (first ∷ second ∷ third ∷ fourth ∷ [])).phase
last_level m c first second third fourth (inl two) = rw two (twice _)
last_level m c first second third fourth (inr (inl four)) = rw four (four_times _)
last_level m c first second third fourth (inr (inr eight)) = rw eight (four_times _ ∙ four_times _)

pub bounds-levels-m : goal.bounds-levels-m
bounds-levels-m c = within c.args.m _ c.requires (ap length c.four_symbols-levels.ensures ∙ length-symbols c.args.m _ c.args.number c.requires)

pub returns-clause-levels : goal.returns-clause-levels
returns-clause-levels c = c.four_symbols-levels.ensures ∙ c.start_of_four-start.ensures c.args.m

pub returns-clause-mark : goal.returns-clause-mark
unfolding field_of
returns-clause-mark c =
    let m = c.args.m in
    let number = c.args.number in
    let before = context c.args.before in
    let behind = context_after (miller m) before (field_of number 4) in
    let bit : ℕ → Bool = λ n. nat_eq (n % 2) 1 in
    let levels_are = c.four_symbols-levels.ensures ∙ c.start_of_four-start.ensures m in
    let phase = ap (λ ls. get_or ls (8 * m - 1) false) levels_are ∙ last_level m before (bit (number / 8)) (bit (number / 4)) (bit (number / 2)) (bit (number / 1)) c.requires in
    ap (λ (p : Bool). record { before = bit number; phase = p }) phase ∙ ap (λ (n : ℕ). record { before = bit n; phase = behind.phase }) (sym (div-one number))
