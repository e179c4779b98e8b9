use Rattle.std.proofs.Common.{◌++◌, ◌∙◌, List, ap}
use Rattle.std.proofs.lemmas.Result.{on_ok_weaker}
use Rattle.line_objects.specs.Members.{pairs_of}
use Rattle.line_objects.specs.Objects.{Pair, fields_pairs}
use Rattle.line_objects.specs.declared.member_names.Key.{Key}
use Rattle.line_objects.proofs.FieldPairs.{added_both, one_more}
use Rattle.line_objects.proofs.field_members.+push_fields.Goals as goal

pub returns-in_ok-push_field-in-Some : goal.returns-in_ok-push_field-in-Some
returns-in_ok-push_field-in-Some t c uris are =
    let start = pairs_of c.args.members.now.items in
    let first = pairs_of c.push_field.new.members.items in
    on_ok_weaker c.push_fields.result
    (λ more.
    added_both start first _ _ _ (c.in_ok-push_field-in-Some.ensures uris are) (more ∙ ap (λ (keys : List Key). first ++ fields_pairs uris c.next.new.self keys) c.keys_behind.ensures)
    ∙ ap (λ (pairs : List Pair). start ++ pairs)
    (one_more uris c.args.keys.now _ c.args.fields c.next.new.self c.in-Some.field.now c.in-len1-up.len_at_least c.in-Some.ensures.steps))
    (c.push_fields.ensures uris are)
