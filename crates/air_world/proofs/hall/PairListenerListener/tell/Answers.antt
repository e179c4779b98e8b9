use Rattle.air_world.proofs.Names.{ℕ, List, ◌∷◌, ◌++◌, ◌∙◌, ap, arith, [], HearsPairs, ItemList, line_of}
use Rattle.air_world.proofs.Listings.{hears-skipped, hears-then, line-untold}
use Rattle.air_world.proofs.hall.PairListenerListener.tell.Goals as goal

pub returns-in_default : goal.returns-in_default
returns-in_default c = λ first lines hears.
    (hears.0, hears-skipped lines (line_of c.args.line.now) first.heard.now c.args.self.now.heard.now (line-untold c.args.line.now c.in_default.not-List) hears.1)

pub returns : goal.returns
returns c = λ first lines hears.
    let list : ItemList (ℕ × List ℕ) = c.args.self.now.heard.now in
    let kept : HearsPairs (line_of c.args.line.now ∷ []) list c.push.new.self =
    rw c.in-List.is (λ room. c.push.ensures.room (omega (arith, room)) ∙ ap (λ (epc : List ℕ). record list { items = list.items ++ (c.in-List.pc, epc) ∷ [] }) c.copy_of.ensures) in
    (hears.0, hears-then lines (line_of c.args.line.now ∷ []) first.heard.now list _ hears.1 kept)
