-- 6.3.2.2 Sessions and inventoried flags, 6.3.2.3 Selected flag: what changes a tag's flags, and which tags a
-- Query speaks to. A session is its number; no session is 4 or above: there nothing changes, and the flag is that of S3.
use Rattle.std.specs.Prelude.{ℕ, Bool, true, false, not, ◌==◌, ◌&&◌, if◌then◌else◌}
use Rattle.command_fields.specs.declared.choices.Side.{Side}
use Rattle.command_fields.specs.declared.choices.Side.TheVariants.{A, B}
use Rattle.command_fields.specs.declared.choices.Sel.{Sel}
use Rattle.command_fields.specs.declared.choices.Sel.TheVariants.{All00, All01, NotSl, Sl as OnlySl}
use Rattle.command_fields.specs.declared.choices.FlagName.{FlagName}
use Rattle.command_fields.specs.declared.choices.FlagName.TheVariants.{S0, S1, S2, S3, Sl}
use Rattle.session_flags.specs.declared.flags.Flags.{Flags}
use Rattle.session_flags.specs.declared.flags.Effect.{Effect}
use Rattle.session_flags.specs.declared.flags.Effect.TheVariants.{Keep, Assert, Deassert, Negate}
use Rattle.session_flags.specs.Actions.{effect_of}

-- the flags of a new tag
abbrev pub new_flags : Flags
new_flags = record { s0 = A; s1 = A; s2 = A; s3 = A; sl = false }

-- the inventoried flag that a tag has for a session
abbrev pub side_of : Flags → ℕ → Side
side_of flags session =
    (if session == 0 then flags.s0 else (if session == 1 then flags.s1 else (if session == 2 then flags.s2 else flags.s3)))

-- what an effect is at an inventoried flag: where SL would be asserted, it becomes A
abbrev pub side_after : Effect → Side → Side
side_after Keep side = side
side_after Assert side = A
side_after Deassert side = B
side_after Negate A = B
side_after Negate B = A

-- what an effect is at the selected flag SL: true where it is asserted
abbrev pub sl_after : Effect → Bool → Bool
sl_after Keep sl = sl
sl_after Assert sl = true
sl_after Deassert sl = false
sl_after Negate sl = not sl

-- one flag changed by an effect, and all others as they were
abbrev pub flags_after_effect : Flags → FlagName → Effect → Flags
flags_after_effect flags S0 effect = record flags { s0 = side_after effect flags.s0 }
flags_after_effect flags S1 effect = record flags { s1 = side_after effect flags.s1 }
flags_after_effect flags S2 effect = record flags { s2 = side_after effect flags.s2 }
flags_after_effect flags S3 effect = record flags { s3 = side_after effect flags.s3 }
flags_after_effect flags Sl effect = record flags { sl = sl_after effect flags.sl }

-- the flags of a tag after a Select of this target and action, which matches the tag or doesn't
abbrev pub flags_after_select : Flags → FlagName → ℕ → Bool → Flags
flags_after_select flags target action matching = flags_after_effect flags target (effect_of action matching)

-- the inventoried flag of a session changed from A to B or from B to A
abbrev pub flags_after_inversion : Flags → ℕ → Flags
flags_after_inversion flags session =
    (if session == 0 then flags_after_effect flags S0 Negate
    else (if session == 1 then flags_after_effect flags S1 Negate
    else (if session == 2 then flags_after_effect flags S2 Negate
    else (if session == 3 then flags_after_effect flags S3 Negate else flags))))

-- 6.3.2.11.2.1 Query: the tags that Sel and Target name
abbrev pub sel_allows : Sel → Bool → Bool
sel_allows All00 sl = true
sel_allows All01 sl = true
sel_allows NotSl sl = not sl
sel_allows OnlySl sl = sl

-- whether two values of an inventoried flag are the same
abbrev pub is_side : Side → Side → Bool
is_side A A = true
is_side A B = false
is_side B A = false
is_side B B = true

-- whether a Query speaks to a tag with these flags: by Sel its SL, and by Target its inventoried flag of the session
abbrev pub matches : Sel → ℕ → Side → Flags → Bool
matches sel session target flags = sel_allows sel flags.sl && is_side target (side_of flags session)

-- the inventoried flag of S0 is kept by power alone (6.3.2.2, the table of persistence)
abbrev pub flags_after_power_loss : Flags → Flags
flags_after_power_loss flags = record flags { s0 = A }

-- the end of a flag's persistence (6.3.2.2, the table of persistence). That of S1 has no effect on a tag that takes
-- part in a round (profile); S2, S3 and SL are kept by power; S0 has no such end.
abbrev pub flags_after_expiry : Flags → FlagName → Bool → Bool → Flags
flags_after_expiry flags S0 powered takes_part = flags
flags_after_expiry flags S1 powered true = flags
flags_after_expiry flags S1 powered false = record flags { s1 = A }
flags_after_expiry flags S2 true takes_part = flags
flags_after_expiry flags S2 false takes_part = record flags { s2 = A }
flags_after_expiry flags S3 true takes_part = flags
flags_after_expiry flags S3 false takes_part = record flags { s3 = A }
flags_after_expiry flags Sl true takes_part = flags
flags_after_expiry flags Sl false takes_part = record flags { sl = false }
