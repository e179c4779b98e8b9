-- 6.3.2.2 Sessions and inventoried flags, 6.3.2.3 Selected flag, 6.3.2.11.1.1 Select: what changes the flags that a tag holds.
-- Nothing here changes its memory, its locks or its draws.
use Rattle.std.specs.Prelude.{ℕ, ◌==◌, Bool, List, if◌then◌else◌}
use Rattle.command_fields.specs.declared.choices.FlagName.{FlagName}
use Rattle.command_fields.specs.declared.choices.MaskBank.{MaskBank}
use Rattle.session_flags.specs.Flags.{flags_after_select, flags_after_inversion, flags_after_expiry}
use Rattle.session_flags.specs.MaskMatch.{mask_match}
use Rattle.tag_memory.specs.Memory.{bank_of, bank_named}
use Rattle.tag_body.specs.BodyValue.{BodyValue}

-- the body with the inventoried flag of a session inverted
abbrev pub body_after_inversion : ℕ → BodyValue → BodyValue
body_after_inversion session body = record body { flags = flags_after_inversion body.flags session }

-- a tag that was inventoried in a session, and hears a Query of a session: where the two are one, its flag is inverted
abbrev pub body_after_close : ℕ → ℕ → BodyValue → BodyValue
body_after_close own session body = (if own == session then body_after_inversion session body else body)

-- the body after a Select: its flag changes by the table of actions, where the mask matches or doesn't
abbrev pub selected_body : FlagName → ℕ → MaskBank → ℕ → List Bool → BodyValue → BodyValue
selected_body target action bank pointer mask body =
    record body { flags = flags_after_select body.flags target action (mask_match (bank_of body.memory (bank_named bank)) pointer mask) }

-- the persistence of a flag ends: it goes by whether the tag has power, and whether it takes part in a round
abbrev pub body_after_expiry : FlagName → Bool → Bool → BodyValue → BodyValue
body_after_expiry flag powered takes_part body = record body { flags = flags_after_expiry body.flags flag powered takes_part }
