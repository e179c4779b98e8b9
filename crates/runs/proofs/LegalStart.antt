-- The tags of a scenario are legal at its start, and its steps are legal.
use Rattle.runs.proofs.Names.{ℕ, ◌/◌, ◌%◌, ◌^◌, ◌<◌, List, [], ◌∷◌, map, subst, arith, All-cons, All-from_recursion, recursion_from_All, AllByRecursion, All, AreLegalTags, start_of, scenario_tag}
use Rattle.runs.proofs.Names.{value_of-below, bits_of_words, IsWord, IsLegalCommand, Command, crc16_of, length-crc16_of, AreWords, tags_of, IsGroup, IsStep, IsScenario, Scenario, TagGroup, Version}
use Rattle.runs.proofs.Names.{IsTag, banks-legal, TagSpec, IsLegalTag, banks_of, image_banks, Banks, AreBanksOfWords, pc_of, epc_of, stored_crc_of}
use Rattle.command_grammar.specs.declared.commands.Command.TheVariants as commands
use Rattle.scenario.specs.declared.values.Step.TheVariants as steps

-- StoredCRC has 16 bits
crc-below : (banks : Banks) → stored_crc_of banks < 2 ^ 16
crc-below banks =
    let message = bits_of_words (pc_of banks ∷ epc_of banks) in
    subst (λ n. stored_crc_of banks < 2 ^ n) (length-crc16_of message) (value_of-below (crc16_of message))

upper-below : (password : ℕ) → password < 2 ^ 32 → password / 2 ^ 16 < 2 ^ 16
upper-below password small = omega arith

lower-below : (password : ℕ) → password % 2 ^ 16 < 2 ^ 16
lower-below password = omega arith

two-passwords : (kill access : ℕ) → kill < 2 ^ 32 → access < 2 ^ 32 → AreWords (kill / 2 ^ 16 ∷ kill % 2 ^ 16 ∷ access / 2 ^ 16 ∷ access % 2 ^ 16 ∷ [])
two-passwords kill access kill_small access_small =
    All-from_recursion IsWord (kill / 2 ^ 16 ∷ kill % 2 ^ 16 ∷ access / 2 ^ 16 ∷ access % 2 ^ 16 ∷ [])
    (upper-below kill kill_small, (lower-below kill, (upper-below access access_small, (lower-below access, tt))))

banks-words : (tag : TagSpec) → IsTag tag → AreBanksOfWords (banks_of tag.image)
banks-words tag is = record {
  reserved = two-passwords tag.image.kill tag.image.access is.form.kill is.form.access;
  epc = All-cons IsWord (stored_crc_of (image_banks tag.image)) tag.image.epc (crc-below (image_banks tag.image)) is.form.epc.small;
  tid = is.form.tid.small;
  user = is.form.user.small;
}

new-legal : (tag : TagSpec) → IsTag tag → IsLegalTag (scenario_tag tag)
new-legal tag is = record {
  state = tt;
  body = record {
    memory = banks-legal tag is;
    memory_words = banks-words tag is;
    words = record { some = is.form.words.some; few = is.form.words.room; small = is.form.words.small };
    next_draw = omega (arith, is.form.words.some);
  };
}

new-legal-each : (tags : List TagSpec) → AllByRecursion IsTag tags → AreLegalTags (map scenario_tag tags)
new-legal-each [] are = tt
new-legal-each (tag ∷ tags) are = (new-legal tag are.0, new-legal-each tags are.1)

-- copies of tags that a scenario may have are such tags: a law of scenarios
abbrev pub CopiesAreTags : Type 0
CopiesAreTags = (version : Version) (groups : List TagGroup) → All (IsGroup version) groups → All IsTag (tags_of groups)

pub start-legal : CopiesAreTags → (scenario : Scenario) → IsScenario scenario → AreLegalTags (start_of scenario).tags
start-legal copies scenario is =
    let tags = tags_of scenario.groups in
    new-legal-each tags (recursion_from_All IsTag tags (copies scenario.version scenario.groups is.groups))

-- the numbers of a Select step are within their fields
pub selection-legal : (version : Version) (tags : ℕ) (command : Command) → IsStep version tags (steps.Select command) → IsLegalCommand command
selection-legal version tags (commands.Select target action bank pointer mask) is = (is.action, omega (arith, is.pointer), is.mask)
selection-legal version tags command is = absurd is
