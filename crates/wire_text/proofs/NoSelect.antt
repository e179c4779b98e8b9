-- Behind `select`, fields spell no command where they are those of no Select.
use Rattle.std.proofs.Common.{◌≡◌, ◌≢◌, ◌<◌, ◌≤◌, ◌^◌, ℕ, Bool, List, length, ◌∙◌}
use Rattle.std.specs.Prelude.{Option, Some, None, IfNone}
use Rattle.command_fields.specs.declared.choices.MaskBank.{MaskBank}
use Rattle.command_fields.specs.declared.choices.FlagName.{FlagName}
use Rattle.command_grammar.specs.declared.kinds.CommandKind.{CommandKind}
use Rattle.command_grammar.specs.declared.kinds.CommandKind.TheVariants as kinds
use Rattle.command_grammar.specs.declared.commands.Command.{Command}
use Rattle.command_grammar.specs.declared.commands.Command.TheVariants.{Select}
use Rattle.text_fields.specs.NamedFields.{AreFilled}
use Rattle.wire_text.specs.CommandText.{IsCommandBehind, command_field_count, other_command_fields}

no_select : (kind : CommandKind) (fields : List (List ℕ)) → kind ≡ kinds.Select
    → ((target : FlagName) (action : ℕ) (bank : MaskBank) (pointer : ℕ) (mask : List Bool) → action ≤ 7 → pointer < 2 ^ 28 → length mask ≤ 255 → fields ≢ other_command_fields (Select target action bank pointer mask))
    → (command : Command) → ¬ IsCommandBehind kind fields command
no_select kind fields this none (Select target action bank pointer mask) is = none target action bank pointer mask is.in_range.0 is.in_range.1 is.in_range.2 is.spelling
no_select kind fields this none command is = let same = is.same_kind ∙ this in cc

pub no_select_read : {A : Type 0} (result : Option A) (kind : CommandKind) (fields : List (List ℕ)) → kind ≡ kinds.Select
    → IfNone result (AreFilled 5 fields → (target : FlagName) (action : ℕ) (bank : MaskBank) (pointer : ℕ) (mask : List Bool) → action ≤ 7 → pointer < 2 ^ 28 → length mask ≤ 255 → fields ≢ other_command_fields (Select target action bank pointer mask))
    → IfNone result (AreFilled (command_field_count kind) fields → (command : Command) → ¬ IsCommandBehind kind fields command)
no_select_read None kind fields this none = λ filled. no_select kind fields this (none (rw this at filled))
no_select_read (Some value) kind fields this none = tt
