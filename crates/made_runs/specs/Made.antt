-- Profile: the scenario of the words `gen SEED TAGS`. The tags' random words come from a generator, PCG32 (XSH RR 64/32, O'Neill).
use Rattle.std.specs.Prelude.{ℕ, zero, suc, ◌+◌, ◌*◌, ◌%◌, ◌^◌, true, false, List, [], ◌∷◌, ◌++◌, map}
use Rattle.air_events.specs.declared.Several.TheVariants as severals
use Rattle.bit_strings.specs.declared.code.Code.TheVariants as codes
use Rattle.command_fields.specs.declared.choices.Sel.TheVariants as sels
use Rattle.command_fields.specs.declared.choices.Side.TheVariants as sides
use Rattle.lock_rules.specs.Lock.{locks_of}
use Rattle.pie_line.specs.Link.{LinkValue}
use Rattle.q_round.specs.SpecValue.{SpecValue}
use Rattle.q_round.specs.declared.rule.Rule.TheVariants as rules
use Rattle.rand_pcg.specs.Lcg.{Lcg, started, increment_of, advance}
use Rattle.rand_pcg.specs.Pcg.{multiplier_64, pcg32}
use Rattle.scenario.specs.Limits.{no_operations}
use Rattle.scenario.specs.declared.values.Scenario.{Scenario}
use Rattle.scenario.specs.declared.values.Step.TheVariants as steps
use Rattle.scenario.specs.declared.values.TagGroup.{TagGroup}
use Rattle.scenario_lines.specs.declared.tag.TagSpec.{TagSpec}
use Rattle.scenario_lines.specs.declared.version.Version.TheVariants as versions

-- how many tags a made scenario has at most
abbrev pub most_made_tags : ℕ
most_made_tags = 256

-- the numbers below a number, in order
unfoldable pub numbers_below : ℕ → List ℕ
numbers_below zero = []
numbers_below (suc count) = numbers_below count ++ count ∷ []

-- the stream of the generator that is drawn from
abbrev pub draw_stream : ℕ
draw_stream = 54

-- the generator of a seed, as it is at its start
unfoldable pub generator_of : ℕ → Lcg
generator_of seed = started 64 multiplier_64 seed (increment_of 64 draw_stream)

-- the generator after so many words
abbrev pub generator_after : ℕ → Lcg → Lcg
generator_after count generator = advance 64 multiplier_64 count generator

-- the low 16 bits of the generator's word at a place, counted from 0
unfoldable pub drawn_at : Lcg → ℕ → ℕ
drawn_at generator place = (pcg32 (generator_after place generator)).0 % 2 ^ 16

-- how many random words a tag of a made scenario has
abbrev pub words_of_tag : ℕ
words_of_tag = 64

-- the random words that a tag draws: the first tag has the generator's first 64 words, the second the next 64, and so on
abbrev pub draw_words : (seed number : ℕ) → List ℕ
draw_words seed number = map (λ place. drawn_at (generator_of seed) (words_of_tag * number + place)) (numbers_below words_of_tag)

-- A tag with no password, no lock and no User bank. Its PC announces six words of EPC, of which the last is the tag's number,
-- as is the last word of its TID.
abbrev pub numbered_tag : (number : ℕ) → (words : List ℕ) → TagSpec
numbered_tag number words = record {
  image = record {
    kill = 0;
    access = 0;
    epc = 0x3000 ∷ 0x3074 ∷ 0x257B ∷ 0xF719 ∷ 0x4E40 ∷ 0x0000 ∷ number ∷ [];
    tid = 0xE200 ∷ number ∷ [];
    user = [];
  };
  locks = locks_of 0;
  words = words;
}

-- the tag of this number
abbrev pub made_tag : (seed number : ℕ) → TagSpec
made_tag seed number = numbered_tag number (draw_words seed number)

-- no tag has copies
abbrev pub made_group : (seed number : ℕ) → TagGroup
made_group seed number = record { count = 1; spec = made_tag seed number }

-- Tari 12.5, RTcal 31.25, TRcal 50 and PW 6.25 microseconds, DR 64/3, Miller with M of 4, and no pilot tone
abbrev pub made_link : LinkValue
made_link = record { tari = 12500; rtcal = 31250; trcal = 50000; pw = 6250; dr = true; code = codes.M4; trext = false }

-- a round over all tags whose inventoried flag of S0 is A, that begins with Q of 6, moves Qfp by 0.3 (Annex D) and has at most 10,000 slots
unfoldable pub made_round : SpecValue
made_round = record { sel = sels.All00; session = 0; target = sides.A; q = 6; rule = rules.Float 300; limit = 10000 }

-- the scenario of a seed with so many tags, of version 1: nothing is said of any exchange, and its one step is the round, without
-- operations
abbrev pub made_scenario : (seed tags : ℕ) → Scenario
made_scenario seed tags = record {
  version = versions.One;
  link = made_link;
  several = severals.Break;
  groups = map (made_group seed) (numbers_below tags);
  entries = [];
  steps = steps.Round made_round no_operations ∷ [];
}
