use Rattle.air_world.proofs.Names.{List, arith, sym, subst, All, IsGroupOfTags, TagGroup, All-get_or}
use Rattle.air_world.proofs.Copies.{groups-of-tags, next-group}
use Rattle.air_world.proofs.start.tags_at_start.Goals as goal

pub push_group-requires : goal.push_group-requires
push_group-requires c =
    subst (λ (group : TagGroup). IsGroupOfTags group) (sym c.group-item.is)
    (All-get_or IsGroupOfTags c.as_slice-groups.result.now c.loop-group.group-index c.group-item.result (omega arith)
    (subst (λ (groups : List TagGroup). All IsGroupOfTags groups) (sym c.as_slice-groups.ensures.value) (groups-of-tags c.args.scenario.now c.requires)))

pub loop-group-preserved : goal.loop-group-preserved
loop-group-preserved c =
    next-group c.as_slice-groups.result.now c.loop-group.group-index c.group-item.result _ _ (omega arith) c.group-item.is c.loop-group.invariant c.in_ok-push_group.ensures
