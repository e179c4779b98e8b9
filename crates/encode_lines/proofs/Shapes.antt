-- Fields that spell a command or a reply have its shape.
use Rattle.std.proofs.Common.{ℕ, List, refl}
use Rattle.text_fields.specs.NamedFields.{AreSpelling, HaveShape, NameNothing, Vocabulary}
use Rattle.text_fields.proofs.NamedFieldLaws.{IsVocabulary}
use Rattle.command_grammar.specs.Commands.{IsLegalCommand}
use Rattle.command_grammar.specs.declared.commands.Command.{Command}
use Rattle.wire_text.specs.CommandText.{commands, IsCommandText}
use Rattle.wire_text.proofs.CommandTexts.{commands_are}
use Rattle.reply_grammar.specs.declared.expected.Reply.{Reply}
use Rattle.wire_text.specs.ReplyText.{replies, IsReplyForm, IsReplyText}
use Rattle.wire_text.proofs.ReplyTexts.{replies_are}

-- fields that spell a value have the shape that its kind wants
spelled_shape : {K V : Type 0} (words : Vocabulary K V) (IsInRange : V → Type 0) → IsVocabulary words IsInRange → (fields : List (List ℕ)) (value : V) → AreSpelling words IsInRange fields value
    → HaveShape words fields
spelled_shape words IsInRange are fields value spells = record {
  named = words.kind value;
  behind = words.others value;
  first = spells.spelling;
  filled = are.filled value spells.in_range;
}

pub command_shape : (fields : List (List ℕ)) (command : Command) → IsCommandText fields command → HaveShape commands fields
command_shape = spelled_shape commands IsLegalCommand commands_are

pub reply_shape : (fields : List (List ℕ)) (reply : Reply) → IsReplyText fields reply → HaveShape replies fields
reply_shape = spelled_shape replies IsReplyForm replies_are

-- fields of some shape begin with a name
pub shaped : {K V : Type 0} (words : Vocabulary K V) (fields : List (List ℕ)) → HaveShape words fields → ¬ NameNothing words fields
shaped words fields has none = (rw has.first at none) has.named refl
