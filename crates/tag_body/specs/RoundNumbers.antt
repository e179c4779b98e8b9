-- The numbers of a round that change while a tag waits in it.
use Rattle.std.specs.Prelude.{ℕ, ◌+◌, ◌-◌, ◌==◌, if◌then◌else◌}
use Rattle.command_fields.specs.declared.choices.UpDn.{UpDn}
use Rattle.command_fields.specs.declared.choices.UpDn.TheVariants.{Up, Same, Down}

-- 6.3.2.4.8 Slot counter: it falls by 1, from 0 to 7FFFh
abbrev pub slot_below : ℕ → ℕ
slot_below slot = (if slot == 0 then 0x7FFF else slot - 1)

-- 6.3.2.11.2.2 QueryAdjust: Q rises or falls by 1 or stays, and never leaves 0 to 15
abbrev pub q_after_adjust : UpDn → ℕ → ℕ
q_after_adjust Up q = (if q == 15 then 15 else q + 1)
q_after_adjust Same q = q
q_after_adjust Down q = (if q == 0 then 0 else q - 1)
