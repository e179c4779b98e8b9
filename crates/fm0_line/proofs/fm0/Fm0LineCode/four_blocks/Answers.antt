-- The last level is the one before the next block.
use Rattle.std.proofs.Common.{◌∙◌, ℕ, ◌%◌, Bool, false, List, nat_eq, get_or, ap, sym}
use Rattle.std.proofs.Math.Nat.{div-one}
use Rattle.line_code.specs.Table.{Context}
use Rattle.line_code.specs.States.{context_after}
use Rattle.bit_strings.specs.NumbersInBits.{field_of}
use Rattle.fm0_line.specs.Fm0.{fm0}
use Rattle.fm0_line.proofs.fm0.Fm0LineCode.four_blocks.Goals as goal

pub returns-clause-levels : goal.returns-clause-levels
unfolding field_of
returns-clause-levels c = c.four_symbols-levels.ensures

pub returns-clause-mark : goal.returns-clause-mark
unfolding field_of
returns-clause-mark c =
    let number = c.args.number in
    let behind : Context = context_after fm0 (record { before = c.args.mark.bit; phase = c.args.mark.last_level }) (field_of number 4) in
    ap (λ (levels : List Bool). record { before = nat_eq (number % 2) 1; phase = get_or levels 7 false }) c.four_symbols-levels.ensures
    ∙ ap (λ (n : ℕ). record { before = nat_eq (n % 2) 1; phase = behind.phase }) (sym (div-one number))
