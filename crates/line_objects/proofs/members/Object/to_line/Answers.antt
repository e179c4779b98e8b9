use Rattle.std.proofs.Common.{ℕ, List, [], ◌∷◌, ◌++◌, ◌∙◌, ap}
use Rattle.text_fields.specs.Lines.{line_feed}
use Rattle.line_objects.proofs.SentMembers.{written}
use Rattle.line_objects.proofs.members.Object.to_line.Goals as goal

pub returns : goal.returns
returns c =
    c.in_ok-push.ensures.items
    ∙ ap (λ (bytes : List ℕ). bytes ++ line_feed ∷ []) (written c.args.self.now.members.items c.in-Ok.line.items c.in-Ok.ensures.events)
