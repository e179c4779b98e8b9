-- The seven fields of a tag.
use Rattle.std.proofs.Common.{◌≡◌, ℕ, List, [], get_or, refl}
use Rattle.text_fields.specs.Hexadecimal.{hex_words}
use Rattle.scenario_lines.specs.declared.tag.TagSpec.{TagSpec}
use Rattle.wire_text.specs.PasswordsAndLocks.{locks_text, password_text}
use Rattle.scenario_lines.specs.TagForm.{tag_spec_of}
use Rattle.scenario_lines.specs.Spelling.{tag_spec_fields}
use Rattle.scenario_lines.proofs.Counted.{field_at}

-- the fields of a tag, one by one
pub record AreTagFields (fields : List (List ℕ)) (tag : TagSpec) : Type 0 where
  pub kill_is : get_or fields 0 [] ≡ password_text tag.image.kill
  pub access_is : get_or fields 1 [] ≡ password_text tag.image.access
  pub locks_is : get_or fields 2 [] ≡ locks_text tag.locks
  pub epc_is : get_or fields 3 [] ≡ hex_words tag.image.epc
  pub tid_is : get_or fields 4 [] ≡ hex_words tag.image.tid
  pub user_is : get_or fields 5 [] ≡ hex_words tag.image.user
  pub words_is : get_or fields 6 [] ≡ hex_words tag.words

pub tag_fields_are : (fields : List (List ℕ)) (tag : TagSpec) → fields ≡ tag_spec_fields tag → AreTagFields fields tag
tag_fields_are fields tag spells = record {
  kill_is = field_at 0 fields (tag_spec_fields tag) spells;
  access_is = field_at 1 fields (tag_spec_fields tag) spells;
  locks_is = field_at 2 fields (tag_spec_fields tag) spells;
  epc_is = field_at 3 fields (tag_spec_fields tag) spells;
  tid_is = field_at 4 fields (tag_spec_fields tag) spells;
  user_is = field_at 5 fields (tag_spec_fields tag) spells;
  words_is = field_at 6 fields (tag_spec_fields tag) spells;
}

-- two tags have the same parts
pub record HaveSameParts (one other : TagSpec) : Type 0 where
  pub kill : one.image.kill ≡ other.image.kill
  pub access : one.image.access ≡ other.image.access
  pub locks : one.locks ≡ other.locks
  pub epc : one.image.epc ≡ other.image.epc
  pub tid : one.image.tid ≡ other.image.tid
  pub user : one.image.user ≡ other.image.user
  pub words : one.words ≡ other.words

pub same_tag : (one other : TagSpec) → HaveSameParts one other → one ≡ other
same_tag one other same =
    let whole : tag_spec_of one.image.kill one.image.access one.locks one.image.epc one.image.tid one.image.user one.words ≡ other =
    rw (same.kill, same.access, same.locks, same.epc, same.tid, same.user, same.words) refl in
    whole
