-- Profile: the tags of a scenario, of which several may be copies of one.
use Rattle.std.specs.Prelude.{ℕ, zero, suc, ◌+◌, ◌-◌, ◌%◌, ◌^◌, List, [], ◌∷◌, ◌++◌, map, length, slice_index}
use Rattle.std.specs.List.{slice_set}
use Rattle.scenario_lines.specs.declared.tag.TagSpec.{TagSpec}
use Rattle.scenario_lines.specs.TagForm.{epc_length}
use Rattle.scenario.specs.declared.values.TagGroup.{TagGroup}

-- a word of 16 bits, raised by a number
abbrev pub raised : ℕ → ℕ → ℕ
raised by word = (word + by) % 2 ^ 16

-- the words, with the one at a place raised by a number
abbrev pub raised_at : ℕ → ℕ → List ℕ → List ℕ
raised_at by place words = slice_set words place (raised by (slice_index words place))

-- The copy of this number: the last word of its EPC, which is at place L of the field EPC behind PC at place 0, the last
-- word of its TID and each of its draw words are raised by the number. All else is as the tag has it.
abbrev pub copy_of : ℕ → TagSpec → TagSpec
copy_of number tag = record {
  image = record tag.image {
    epc = raised_at number (epc_length tag) tag.image.epc;
    tid = raised_at number (length tag.image.tid - 1) tag.image.tid;
  };
  locks = tag.locks;
  words = map (raised number) tag.words;
}

-- so many copies, numbered from a number on
abbrev pub copies_from : (number left : ℕ) → TagSpec → List TagSpec
copies_from number zero tag = []
copies_from number (suc left) tag = copy_of number tag ∷ copies_from (number + 1) left tag

-- so many copies, numbered from 0 on: the first is the tag itself
abbrev pub copies : ℕ → TagSpec → List TagSpec
copies zero tag = []
copies (suc left) tag = tag ∷ copies_from 1 left tag

-- the tags of a group
abbrev pub copies_of : TagGroup → List TagSpec
copies_of group = copies group.count group.spec

-- the tags of groups, in order
abbrev pub tags_of : List TagGroup → List TagSpec
tags_of [] = []
tags_of (group ∷ groups) = copies_of group ++ tags_of groups
