-- Annex I (error codes): the numbers of the codes that a tag backscatters.
use Rattle.std.specs.Prelude.{ℕ}
use Rattle.lock_rules.specs.declared.fields_and_levels.ErrorCode.{ErrorCode}
use Rattle.lock_rules.specs.declared.fields_and_levels.ErrorCode.TheVariants.{Other, Overrun, Locked}

abbrev pub error_number : ErrorCode → ℕ
error_number Other = 0x00
error_number Overrun = 0x03
error_number Locked = 0x04
