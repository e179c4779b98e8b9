-- Profile: what the line of a tag may say.
use Rattle.std.specs.Prelude.{◌≡◌, ℕ, ◌<◌, ◌^◌, true, List, slice_index}
use Rattle.lock_rules.specs.declared.locks.Locks.{Locks}
use Rattle.tag_memory.specs.Image.{pc_fits}
use Rattle.tag_memory.specs.Memory.{length_in}
use Rattle.text_fields.specs.WordLists.{IsWordList}
use Rattle.scenario_lines.specs.declared.tag.TagSpec.{TagSpec}

-- the tag of these fields
abbrev pub tag_spec_of : (kill access : ℕ) → Locks → (epc tid user words : List ℕ) → TagSpec
tag_spec_of kill access locks epc tid user words = record {
  image = record { kill = kill; access = access; epc = epc; tid = tid; user = user };
  locks = locks;
  words = words;
}

-- L: how many words the EPC has that PC announces (6.3.2.1.2.2). In the field EPC, whose place 0 is PC, they stand from place
-- 1 to place L. Where L is 0 the EPC has no word.
abbrev pub epc_length : TagSpec → ℕ
epc_length tag = length_in (slice_index tag.image.epc 0)

-- each field of a tag is in its range: the passwords have 32 bits, the EPC bank from PC on 1 to 32 words, TID 2 to 16,
-- User at most 512, and there are 1 to 256 draw words
pub record IsTagForm (tag : TagSpec) : Type 0 where
  pub kill : tag.image.kill < 2 ^ 32
  pub access : tag.image.access < 2 ^ 32
  pub epc : IsWordList 1 32 tag.image.epc
  pub tid : IsWordList 2 16 tag.image.tid
  pub user : IsWordList 0 512 tag.image.user
  pub words : IsWordList 1 256 tag.words

-- each field of a tag is in its range, and the EPC that PC announces lies inside the bank (6.3.2.1.2.2)
pub record IsTag (tag : TagSpec) : Type 0 where
  pub form : IsTagForm tag
  pub pc : pc_fits tag.image ≡ true
