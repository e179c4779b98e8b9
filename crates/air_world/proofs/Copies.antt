-- The copies of a group, one after another, and the groups of a scenario.
use Rattle.air_world.proofs.Names.{◌≡◌, ℕ, zero, suc, ◌+◌, ◌<◌, ◌≤◌, List, ◌∷◌, ◌++◌, length, map, take, get_or, sym, ◌∙◌, ap, append_assoc, arith, [], All, most_tags, IsGroupOfTags, scenario_tag}
use Rattle.air_world.proofs.Names.{copies, copies_from, copies_of, copy_of, tags_of, IsCount, IsGroup, IsScenario, Scenario, TagGroup, Version, One, Two, take_more, length-map, map-append, All-weaker}
use Rattle.air_world.proofs.Names.{tag_value_of, TagValue, AnyTag}
use Rattle.air_world.proofs.Beginning.{scenario-few}
use Rattle.scenario.proofs.Groups.{one_group_more}
use Rattle.scenario_lines.specs.declared.tag.TagSpec.{TagSpec}

-- one copy more
copies_from-more : (number left : ℕ) (tag : TagSpec) → copies_from number (suc left) tag ≡ copies_from number left tag ++ copy_of (number + left) tag ∷ []
copies_from-more number zero tag = let same : number ≡ number + 0 = omega arith in ap (λ n. copy_of n tag ∷ []) same
copies_from-more number (suc left) tag =
    let same : number + 1 + left ≡ number + suc left = omega arith in
    ap (λ (tags : List TagSpec). copy_of number tag ∷ tags) (copies_from-more (number + 1) left tag)
    ∙ ap (λ n. copy_of number tag ∷ (copies_from (number + 1) left tag ++ copy_of n tag ∷ [])) same

pub copies-more : (number : ℕ) (tag : TagSpec) → 1 ≤ number → copies (number + 1) tag ≡ copies number tag ++ copy_of number tag ∷ []
copies-more zero tag some = absurd (omega arith)
copies-more (suc left) tag some =
    let same : 1 + left ≡ suc left = omega arith in
    let next : suc left + 1 ≡ suc (suc left) = omega arith in
    ap (λ n. copies n tag) next
    ∙ ap (λ (tags : List TagSpec). tag ∷ tags) (copies_from-more 1 left tag)
    ∙ ap (λ n. tag ∷ (copies_from 1 left tag ++ copy_of n tag ∷ [])) same

some-count : (version : Version) (count : ℕ) → IsCount version count → 1 ≤ count
some-count One count is = omega (arith, is)
some-count Two count is = is

-- the groups of a scenario of either version
pub groups-of-tags : (scenario : Scenario) → IsScenario scenario → All IsGroupOfTags scenario.groups
groups-of-tags scenario is =
    All-weaker (IsGroup scenario.version) IsGroupOfTags
    (λ group legal. record { some = some-count scenario.version group.count legal.count; tag = legal.tag; differ = legal.differ })
    scenario.groups is.groups

-- one tag more was added
pub one-pushed : (old new : List AnyTag) (tag : AnyTag) (value : TagValue) → new ≡ old ++ tag ∷ [] → tag_value_of tag ≡ value
    → map tag_value_of new ≡ map tag_value_of old ++ value ∷ []
one-pushed old new tag value is same =
    ap (λ (tags : List AnyTag). map tag_value_of tags) is ∙ map-append tag_value_of old (tag ∷ []) ∙ ap (λ (v : TagValue). map tag_value_of old ++ v ∷ []) same

-- ... the next copy, behind those before it
pub next-copy : (number : ℕ) (spec : TagSpec) (first before after : List TagValue) → 1 ≤ number → before ≡ first ++ map scenario_tag (copies number spec)
    → after ≡ before ++ scenario_tag (copy_of number spec) ∷ [] → after ≡ first ++ map scenario_tag (copies (number + 1) spec)
next-copy number spec first before after some made more =
    let joined : map scenario_tag (copies (number + 1) spec) ≡ map scenario_tag (copies number spec) ++ scenario_tag (copy_of number spec) ∷ [] =
    ap (λ (tags : List TagSpec). map scenario_tag tags) (copies-more number spec some) ∙ map-append scenario_tag (copies number spec) (copy_of number spec ∷ []) in
    more ∙ ap (λ (tags : List TagValue). tags ++ scenario_tag (copy_of number spec) ∷ []) made
    ∙ append_assoc first (map scenario_tag (copies number spec)) (scenario_tag (copy_of number spec) ∷ [])
    ∙ ap (λ (tags : List TagValue). first ++ tags) (sym joined)

-- the tags of the next group, behind those before it
pub next-group : (groups : List TagGroup) (index : ℕ) (group : TagGroup) (before after : List TagValue) → index < length groups → group ≡ get_or groups index group
    → before ≡ map scenario_tag (tags_of (take index groups)) → after ≡ before ++ map scenario_tag (copies_of group) → after ≡ map scenario_tag (tags_of (take (index + 1) groups))
next-group groups index group before after inside is made more =
    let taken : take (index + 1) groups ≡ take index groups ++ group ∷ [] =
    take_more groups index group inside ∙ ap (λ (g : TagGroup). take index groups ++ g ∷ []) (sym is) in
    let joined : map scenario_tag (tags_of (take (index + 1) groups)) ≡ map scenario_tag (tags_of (take index groups)) ++ map scenario_tag (copies_of group) =
    ap (λ (g : List TagGroup). map scenario_tag (tags_of g)) taken ∙ ap (λ (tags : List TagSpec). map scenario_tag tags) (one_group_more (take index groups) group)
    ∙ map-append scenario_tag (tags_of (take index groups)) (copies_of group) in
    more ∙ ap (λ (tags : List TagValue). tags ++ map scenario_tag (copies_of group)) made ∙ sym joined

-- the tags that were made are few
pub few-made : (scenario : Scenario) (groups : List TagGroup) (tags : List AnyTag) → IsScenario scenario → groups ≡ scenario.groups
    → map tag_value_of tags ≡ map scenario_tag (tags_of groups) → length tags ≤ most_tags
few-made scenario groups tags is same made =
    let all = tags_of scenario.groups in
    let count : length (map tag_value_of tags) ≡ length (map scenario_tag all) = ap length made ∙ ap (λ (g : List TagGroup). length (map scenario_tag (tags_of g))) same in
    omega (arith, count, length-map tags tag_value_of, length-map all scenario_tag, scenario-few scenario is)
