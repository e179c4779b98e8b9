use Rattle.std.proofs.Common.{◌≡◌, [], ◌∷◌, ◌++◌, ◌∙◌, List, ℕ, ap, sym}
use Rattle.std.proofs.lemmas.Result.{on_ok_weaker}
use Rattle.line_objects.specs.MemberNames.{key_shape}
use Rattle.line_objects.specs.Members.{pairs_of}
use Rattle.line_objects.specs.Objects.{Pair}
use Rattle.line_objects.specs.Values.{text_value}
use Rattle.line_objects.specs.declared.member_names.Shape.TheVariants.{EpcText}
use Rattle.line_objects.proofs.FieldPairs.{added_both, epc_pairs}
use Rattle.line_objects.proofs.field_members.push_field.Goals as goal

pub returns-in_ok-push_member-in-EpcText : goal.returns-in_ok-push_member-in-EpcText
returns-in_ok-push_member-in-EpcText c uris are =
    let start = pairs_of c.args.members.now.items in
    let shape : key_shape c.args.key ≡ EpcText = sym c.shape.ensures ∙ c.in-EpcText.is in
    let first = c.in_ok-push_member-in-EpcText.ensures ∙ ap (λ (name : List ℕ). start ++ (name, text_value c.args.field.now) ∷ []) c.name-in-EpcText.ensures in
    on_ok_weaker c.push_uri.result
    (λ uri. added_both start _ _ _ _ first uri ∙ ap (λ (pairs : List Pair). start ++ pairs) (sym (epc_pairs uris c.args.key c.args.field.now shape)))
    (c.push_uri.ensures uris are)
