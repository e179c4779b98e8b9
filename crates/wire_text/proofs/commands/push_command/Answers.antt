-- The text gains the line of the command that it is.
use Rattle.std.proofs.Common.{◌≡◌, ◌++◌, ◌∷◌, ◌∙◌, [], ap, sym}
use Rattle.std.specs.Prelude.{codes}
use Rattle.std.specs.String.{string_bytes}
use Rattle.std.specs.Fmt.{decimal}
use Rattle.std.proofs.lemmas.Result.{IfOk-equal}
use Rattle.text_fields.specs.Lines.{line_with}
use Rattle.command_grammar.specs.declared.commands.Command.{Command}
use Rattle.wire_text.specs.CommandText.{command_line}
use Rattle.wire_text.proofs.Pieces.{front_and_name}
use Rattle.wire_text.proofs.commands.push_command.Goals as goal

pub returns-in_ok-push_named_number-in-QueryAdjust : goal.returns-in_ok-push_named_number-in-QueryAdjust
returns-in_ok-push_named_number-in-QueryAdjust c =
    let front : string_bytes c.push_named_number-in-QueryAdjust.new.text ≡ string_bytes c.args.text.now ++ line_with (codes "queryadjust" ∷ decimal c.in-QueryAdjust.session ∷ []) =
    c.in_ok-push_named_number-in-QueryAdjust.ensures ∙ ap (λ n. string_bytes c.args.text.now ++ line_with (codes "queryadjust" ∷ decimal n ∷ [])) (c.from-in-QueryAdjust.ensures ∙ c.get-in-QueryAdjust.ensures.value) in
    IfOk-equal _ _ _ _ c.push_next_name-in-QueryAdjust.ensures
    (front_and_name _ _ _ _ _ front c.name.ensures ∙ ap (λ (command : Command). string_bytes c.args.text.now ++ command_line command) (sym c.in-QueryAdjust.is))

pub returns-in-ReqRn : goal.returns-in-ReqRn
returns-in-ReqRn c =
    IfOk-equal _ _ _ _ c.push_named_word-in-ReqRn.ensures (ap (λ (command : Command). string_bytes c.args.text.now ++ command_line command) (sym c.in-ReqRn.is))

pub returns-in-Kill : goal.returns-in-Kill
returns-in-Kill c =
    IfOk-equal _ _ _ _ c.push_two_words.ensures (ap (λ (command : Command). string_bytes c.args.text.now ++ command_line command) (sym c.in-Kill.is))

pub returns-in-Access : goal.returns-in-Access
returns-in-Access c =
    IfOk-equal _ _ _ _ c.push_two_words-in-Access.ensures (ap (λ (command : Command). string_bytes c.args.text.now ++ command_line command) (sym c.in-Access.is))
