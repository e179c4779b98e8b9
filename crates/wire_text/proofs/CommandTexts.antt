-- Fields spell one command, or are faulty for one reason.
use Rattle.std.proofs.Common.{◌≡◌, ℕ, List, length, refl, sym, ◌∙◌}
use Rattle.std.specs.Prelude.{All}
use Rattle.std.proofs.lemmas.List.Elements.{All-cons}
use Rattle.text_fields.specs.Lines.{IsFieldText, fields_of}
use Rattle.text_fields.specs.NamedFields.{AreFilled}
use Rattle.text_fields.proofs.NamedFieldLaws.{IsVocabulary, one_fault, same_behind, spelling_is_not_faulty, texts_come_back, texts_filled}
use Rattle.text_fields.specs.declared.fields_fault.FieldsFault.{FieldsFault}
use Rattle.command_grammar.specs.Commands.{IsLegalCommand}
use Rattle.command_grammar.specs.declared.commands.Command.{Command}
use Rattle.command_grammar.specs.declared.commands.Command.TheVariants.{QueryRep}
use Rattle.wire_text.specs.CommandText.{IsCommandText, IsFaultyCommand, command_field_count, command_fields, command_kind, command_line, command_name, commands, other_command_fields}
use Rattle.wire_text.proofs.EachCommand.{command_name_is, other_texts, others_told}
use Rattle.wire_text.proofs.CommandsToldApart.{command_name_told}

pub command_texts : (command : Command) → IsLegalCommand command → All IsFieldText (command_fields command)
command_texts command is =
    All-cons IsFieldText (command_name (command_kind command)) (other_command_fields command) (command_name_is (command_kind command))
    (other_texts command is).are

-- a command has as many fields as its name says
counted : (command : Command) → command_field_count (command_kind command) ≡ length (other_command_fields command)
counted (QueryRep session) = refl
counted command = refl

filled : (command : Command) → IsLegalCommand command → AreFilled (command_field_count (command_kind command)) (other_command_fields command)
filled command is = texts_filled (other_command_fields command) (command_field_count (command_kind command)) (other_texts command is).are (counted command)

pub commands_are : IsVocabulary commands IsLegalCommand
commands_are = record { told = command_name_told; filled = filled }

pub command_told : (fields : List (List ℕ)) (one other : Command) → IsCommandText fields one → IsCommandText fields other → one ≡ other
command_told fields one other is is' =
    let same = same_behind (command_name (command_kind one)) (command_name (command_kind other)) (other_command_fields one) (other_command_fields other)
    (sym is.spelling ∙ is'.spelling) in
    others_told one other is.in_range is'.in_range (command_name_told (command_kind one) (command_kind other) same.0) same.1

pub command_comes_back : (command : Command) → IsLegalCommand command → fields_of (command_line command) ≡ command_fields command
command_comes_back command is = texts_come_back (command_name (command_kind command)) (other_command_fields command) (command_texts command is)

pub command_is_not_faulty : (fields : List (List ℕ)) (command : Command) (fault : FieldsFault) → IsCommandText fields command → IsFaultyCommand fields fault → ⊥
command_is_not_faulty fields command fault = spelling_is_not_faulty commands IsLegalCommand commands_are fields command fault

pub one_command_fault : (fields : List (List ℕ)) (one other : FieldsFault) → IsFaultyCommand fields one → IsFaultyCommand fields other → one ≡ other
one_command_fault fields one other = one_fault commands IsLegalCommand fields one other
