-- The copies of a tag that may stand in a scenario may stand there too, and are as many as their group says.
use Rattle.std.proofs.Common.{◌≡◌, ◌≢◌, ℕ, zero, suc, ◌+◌, ◌-◌, ◌^◌, ◌<◌, ◌≤◌, List, [], ◌∷◌, ◌++◌, map, length, get_or, refl, sym, ap, ◌∙◌, arith, mod-lt, append_assoc}
use Rattle.std.specs.Prelude.{All}
use Rattle.std.proofs.lemmas.List.{append-nil, get_or-set_other, length-map, length-set}
use Rattle.std.proofs.lemmas.List.Elements.{All-append, All-cons, All-head, All-map, All-nil, All-set, All-tail}
use Rattle.tag_memory.specs.Image.{epc_fits}
use Rattle.text_fields.specs.WordLists.{IsWordList}
use Rattle.scenario_lines.specs.declared.tag.TagSpec.{TagSpec}
use Rattle.scenario_lines.specs.declared.version.Version.{Version}
use Rattle.scenario_lines.specs.TagForm.{IsTag, epc_length}
use Rattle.scenario.specs.declared.values.TagGroup.{TagGroup}
use Rattle.scenario.specs.Groups.{copies, copies_from, copies_of, copy_of, raised, raised_at, tags_of}
use Rattle.scenario.specs.Limits.{IsGroup}

-- a raised word has 16 bits
raised_is_word : (by word : ℕ) → raised by word < 2 ^ 16
raised_is_word by word = mod-lt (word + by) (omega arith)

-- words of which one is raised, and words that are raised
raised_at_words : (by place least most : ℕ) (words : List ℕ) → IsWordList least most words → IsWordList least most (raised_at by place words)
raised_at_words by place least most words are = record {
  some = omega (arith, length-set words place (raised by (get_or words place 0)));
  room = omega (arith, length-set words place (raised by (get_or words place 0)));
  small = All-set (λ (word : ℕ). word < 2 ^ 16) words place (raised by (get_or words place 0)) (raised_is_word by (get_or words place 0)) are.small;
}

raised_words : (by least most : ℕ) (words : List ℕ) → IsWordList least most words → IsWordList least most (map (raised by) words)
raised_words by least most words are = record {
  some = omega (arith, length-map words (raised by));
  room = omega (arith, length-map words (raised by));
  small = All-map (λ (word : ℕ). word < 2 ^ 16) (raised by) words (λ place other inside. raised_is_word by (get_or words place other));
}

-- where the raised word isn't PC, the EPC that PC announces lies inside the bank as before
fits_as_before : (by place : ℕ) (epc : List ℕ) → 1 ≤ place
    → epc_fits (get_or (raised_at by place epc) 0 0) (1 + length (raised_at by place epc)) ≡ epc_fits (get_or epc 0 0) (1 + length epc)
fits_as_before by place epc behind =
    let word = raised by (get_or epc place 0) in
    let other : 0 ≢ place = λ same. omega arith in
    rw (get_or-set_other epc place 0 word 0 other, length-set epc place word) refl

-- a copy of a legal tag is legal
pub legal_copy : (number : ℕ) (tag : TagSpec) → 1 ≤ epc_length tag → IsTag tag → IsTag (copy_of number tag)
legal_copy number tag some is = record {
  form = record {
    kill = is.form.kill;
    access = is.form.access;
    epc = raised_at_words number (epc_length tag) 1 32 tag.image.epc is.form.epc;
    tid = raised_at_words number (length tag.image.tid - 1) 2 16 tag.image.tid is.form.tid;
    user = is.form.user;
    words = raised_words number 1 256 tag.words is.form.words;
  };
  pc = fits_as_before number (epc_length tag) tag.image.epc some ∙ is.pc;
}

legal_copies_from : (number left : ℕ) (tag : TagSpec) → 1 ≤ epc_length tag → IsTag tag → All IsTag (copies_from number left tag)
legal_copies_from number zero tag some is = All-nil IsTag
legal_copies_from number (suc left) tag some is =
    All-cons IsTag (copy_of number tag) (copies_from (number + 1) left tag) (legal_copy number tag some is) (legal_copies_from (number + 1) left tag some is)

-- the tags of a group are legal
legal_copies : (count : ℕ) (tag : TagSpec) → (1 < count → 1 ≤ epc_length tag) → IsTag tag → All IsTag (copies count tag)
legal_copies zero tag differ is = All-nil IsTag
legal_copies (suc zero) tag differ is = All-cons IsTag tag [] is (All-nil IsTag)
legal_copies (suc (suc left)) tag differ is =
    All-cons IsTag tag (copies_from 1 (suc left) tag) is (legal_copies_from 1 (suc left) tag (differ (omega arith)) is)

-- ... and those of groups
pub legal_tags : (version : Version) (groups : List TagGroup) → All (IsGroup version) groups → All IsTag (tags_of groups)
legal_tags version [] are = All-nil IsTag
legal_tags version (group ∷ groups) are =
    let is = All-head (IsGroup version) group groups are in
    All-append IsTag (copies_of group) (tags_of groups) (legal_copies group.count group.spec is.differ is.tag)
    (legal_tags version groups (All-tail (IsGroup version) group groups are))

count_copies_from : (number left : ℕ) (tag : TagSpec) → length (copies_from number left tag) ≡ left
count_copies_from number zero tag = refl
count_copies_from number (suc left) tag = ap suc (count_copies_from (number + 1) left tag)

-- a group has so many tags
pub count_copies : (count : ℕ) (tag : TagSpec) → length (copies count tag) ≡ count
count_copies zero tag = refl
count_copies (suc left) tag = ap suc (count_copies_from 1 left tag)

-- the tags of one group more
pub one_group_more : (before : List TagGroup) (group : TagGroup) → tags_of (before ++ group ∷ []) ≡ tags_of before ++ copies_of group
one_group_more [] group = append-nil (copies_of group)
one_group_more (other ∷ before) group =
    ap (λ (tags : List TagSpec). copies_of other ++ tags) (one_group_more before group)
    ∙ sym (append_assoc (copies_of other) (tags_of before) (copies_of group))
