-- How many tags groups have, and of how many exchanges something is said.
use Rattle.std.proofs.Common.{◌≡◌, ◌+◌, ℕ, zero, suc, List, [], ◌∷◌, ◌++◌, length, ap, refl, sym, ◌∙◌}
use Rattle.air_events.specs.declared.Entry.{Entry}
use Rattle.scenario.specs.AirLinesSoFar.{last_entry}
use Rattle.std.proofs.lemmas.List.{length-append}
use Rattle.scenario.specs.declared.values.TagGroup.{TagGroup}
use Rattle.scenario.specs.Groups.{copies_of, tags_of}
use Rattle.scenario.proofs.Groups.{count_copies, one_group_more}

-- it is as many, whatever is said of the last one
pub entries_count : (closed : List (ℕ × Entry)) (exchange : ℕ) (one other : Entry)
    → length (closed ++ last_entry exchange one) ≡ length (closed ++ last_entry exchange other)
entries_count closed zero one other = refl
entries_count closed (suc before) one other =
    length-append closed ((suc before, one) ∷ []) ∙ sym (length-append closed ((suc before, other) ∷ []))

-- the tags of one group more
pub tags_more : (before after : List TagGroup) (group : TagGroup) → after ≡ before ++ group ∷ []
    → length (tags_of after) ≡ length (tags_of before) + group.count
tags_more before after group is =
    ap (λ (groups : List TagGroup). length (tags_of groups)) is ∙ ap length (one_group_more before group)
    ∙ length-append (tags_of before) (copies_of group) ∙ ap (λ n. length (tags_of before) + n) (count_copies group.count group.spec)
