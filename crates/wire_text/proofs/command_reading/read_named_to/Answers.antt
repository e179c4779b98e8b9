-- What the fields spell is read.
use Rattle.std.proofs.Common.{◌≡◌, ◌∷◌, refl, rules}
use Rattle.text_fields.specs.NamedFields.{AreFilled}
use Rattle.text_fields.proofs.NamedFieldLaws.{spelled_behind, wrong_shape}
use Rattle.text_fields.specs.declared.fields_fault.FieldsFault.TheVariants.{Shape}
use Rattle.command_grammar.specs.Commands.{IsLegalCommand}
use Rattle.wire_text.specs.CommandText.{command_field_count, command_name, commands}
use Rattle.wire_text.proofs.CommandTexts.{command_is_not_faulty, command_told, commands_are}
use Rattle.wire_text.proofs.command_reading.read_named_to.Goals as goal

pub returns-in-Some-read_behind_to-clause-only : goal.returns-in-Some-read_behind_to-clause-only
returns-in-Some-read_behind_to-clause-only c = λ spelled is.
    let first : c.args.fields ≡ command_name c.in-Some-value_named.kind ∷ c.next.new.self = search rules in (
      refl,
      command_told c.args.fields c.read_behind_to.new.command spelled
          (rw first (spelled_behind commands IsLegalCommand c.in-Some-value_named.kind c.next.new.self c.read_behind_to.new.command
          (rw c.again.ensures at (c.in-Some-read_behind_to.ensures.value refl)))) is,
    )

pub returns-in-None-2-clause-only : goal.returns-in-None-2-clause-only
returns-in-None-2-clause-only c = λ spelled is.
    let first : c.args.fields ≡ command_name c.in-Some-value_named.kind ∷ c.next.new.self = search rules in
    let wrong : AreFilled (command_field_count c.in-Some-value_named.kind) c.next.new.self → ⊥ = λ are. search rules in
    absurd (command_is_not_faulty c.args.fields spelled Shape is
    (rw first (wrong_shape commands IsLegalCommand commands_are c.in-Some-value_named.kind c.next.new.self wrong)))
