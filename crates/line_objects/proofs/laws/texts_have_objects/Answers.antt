use Rattle.std.proofs.Common.{◌∙◌, ℕ, List, Option, ap, refl, sym}
use Rattle.text_fields.specs.Lines.{lines_of}
use Rattle.line_objects.specs.Objects.{objects_of}
use Rattle.line_objects.proofs.EpcFields.{one_uris, some_uris}
use Rattle.line_objects.proofs.laws.texts_have_objects.Goals as goal

pub returns : goal.returns
returns c = record {
  some = λ set plain.
      let found = some_uris c.sgtin_laws.ensures.apart c.sgtin_laws.ensures.some in
      (objects_of found.0 set (lines_of plain), record { uris = found.0; right = found.1; objects = refl });
  one = λ set plain one other left right.
      left.objects
      ∙ ap (λ (uris : List ℕ → Option (List ℕ)). objects_of uris set (lines_of plain)) (one_uris c.sgtin_laws.ensures.one_sgtin left.uris right.uris left.right right.right)
      ∙ sym right.objects;
}
