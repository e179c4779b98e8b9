use Rattle.air_world.proofs.Names.{◌≡◌, ◌+◌, ◌≤◌, List, ◌++◌, length, refl, sym, ◌∙◌, ap, subst, arith, ℕ, [], OpList, tags_behind, HearsPairs, pairs_told, Begun, IsEndedBy, StandsAt, lines_to_tell}
use Rattle.air_world.proofs.Names.{RoundEnd, ReportLine, past_behind_round, played_of, pairs_in, no_operations}
use Rattle.air_world.proofs.Halls.{IsHallOver, hall-begins, hall-over, start_on}
use Rattle.air_world.proofs.Listings.{pairs-behind}
use Rattle.air_world.specs.declared.hall.PairListener.{PairListener}
use Rattle.air_world.specs.laws.ListingLaws.{hears-no-pair}
use Rattle.air_world.proofs.hall.hear_round.Given.{Over}
use Rattle.air_world.proofs.hall.hear_round.Goals.{After-exchanges}
use Rattle.air_world.proofs.hall.hear_round.Goals as goal

-- what the listener of a hall hears
abbrev KeepsPairs : PairListener → List ReportLine → PairListener → Type 0
KeepsPairs first lines later = (later.heard.ghost_name ≡ first.heard.ghost_name) × HearsPairs lines first.heard.now later.heard.now

-- how the run begins
abbrev begun : (g : Over) (c : After-exchanges g) → PairListener → Begun PairListener
begun g c listener = record { start = start_on c.args.air.now; earlier = c.args.air.now.exchanges; first = listener }

stands : (g : Over) (c : After-exchanges g) (listener : PairListener) → StandsAt KeepsPairs (begun g c listener) [] c.args.air.now c.args.run.now listener
stands g c listener = record {
  at = hall-begins c.args.air.now c.args.run.now (record { run_is = c.requires.run; several = c.requires.several; legal = c.requires.legal; few = omega (arith, c.exchanges.ensures) });
  heard = (refl, hears-no-pair listener.heard.now);
}

-- the round is over
over : (g : Over) (c : After-exchanges g) (end : RoundEnd) → IsEndedBy end (past_behind_round (start_on c.args.air.now) c.args.operations.now c.args.spec.now [])
    → IsHallOver (start_on c.args.air.now) c.args.spec.now end
over g c end is =
    let start = start_on c.args.air.now in
    let legal = c.limit.ensures.legal in
    hall-over start c.args.spec.now end
    (record {
      keeps = c.round_laws.ensures.limit;
      legal = legal;
      goes = c.rounds_go_by_tags.ensures start no_operations c.args.spec.now [] (record { entries = refl; several = refl }) refl legal (record { pairs = refl; senders = refl });
      lists = c.rounds_list_their_tags.ensures.senders _ c.args.spec.now legal;
    })
    (subst (λ (list : OpList). IsEndedBy end (past_behind_round start list c.args.spec.now [])) c.requires.operations is)

pub play_round-requires-clause-between : goal.play_round-requires-clause-between
play_round-requires-clause-between g c = record {
  begun = _;
  past = [];
  stands = stands g (goal.at.play_round-requires-clause-between g c).After-exchanges _;
  room = omega arith;
  rounds = omega arith;
}

pub play_round-requires-clause-few : goal.play_round-requires-clause-few
play_round-requires-clause-few g c = omega (arith, ap (λ (list : OpList). length list.ops) c.requires.operations)

pub unreachable-requires : goal.unreachable-requires
unreachable-requires g c =
    let cut = c.in-Err.ensures.ends _ [] (stands g (goal.at.unreachable-requires g c).After-exchanges _) in
    let met = cut.cause in cc

pub returns : goal.returns
returns g c =
    let start = start_on c.args.air.now in
    let spec = c.args.spec.now in
    let before = (goal.at.returns g c).After-exchanges in
    let at = stands g before _ in
    let behind = over g before c.in-Ok.end (c.in-Ok.ensures.end _ [] at) in
    let ends = c.in-Ok.ensures.ends _ [] at in
    let pairs : pairs_told (lines_to_tell start (past_behind_round start c.args.operations.now spec [])) ≡ (played_of c.args.air.now.tags spec).pairs =
    pairs-behind start (past_behind_round start c.args.operations.now spec [])
    ∙ ap (λ (list : OpList). pairs_in (past_behind_round start list spec [])) c.requires.operations ∙ behind.pairs in
    let room : length c.args.heard.now.items + length (pairs_told (lines_to_tell start (past_behind_round start c.args.operations.now spec []))) ≤ c.args.heard.now.capacity =
    omega (arith, c.requires.room, behind.few, ap (λ (all : List (ℕ × List ℕ)). length all) pairs) in
    record {
      pairs = c.heard-1.given.1 (sym ends.heard.0) ∙ ends.heard.1 room ∙ ap (λ (all : List (ℕ × List ℕ)). record c.args.heard.now { items = c.args.heard.now.items ++ all }) pairs;
      end = behind.end_is;
      tags = ends.at.tags ∙ ap (λ (list : OpList). tags_behind start (past_behind_round start list spec [])) c.requires.operations ∙ behind.tags;
      several = ends.at.several;
    }
