use Rattle.air_world.proofs.Names.{◌∷◌, refl, sym, ◌∙◌, ap, [], ListLine, seen_counts}
use Rattle.air_world.proofs.Listings.{pairs-append, pairs-other}
use Rattle.air_world.proofs.seen_listener.SeenListener.count.Goals as goal

pub returns-in_default : goal.returns-in_default
returns-in_default g c = record {
  rest = refl;
  memory = λ enough. enough;
  seen = λ lines enough was. was ∙ ap seen_counts (sym (pairs-other lines c.args.line.now c.in_default.not-List));
}

pub returns-in-Ok-clause-seen : goal.returns-in-Ok-clause-seen
returns-in-Ok-clause-seen g c = λ lines enough was.
    rw c.in-List.is (c.in-Ok.ensures.listed _ was ∙ ap seen_counts (sym (pairs-append lines (ListLine c.in-List.round c.in-List.slot c.in-List.pc c.in-List.epc.now ∷ []))))
