-- A made scenario keeps the limits of scenarios.
use Rattle.std.proofs.Common.{◌≡◌, ℕ, zero, suc, ◌+◌, ◌*◌, ◌<◌, ◌≤◌, ◌^◌, List, [], ◌∷◌, ◌++◌, map, length, refl, ap, ◌∙◌, arith}
use Rattle.std.specs.List.{AllByRecursion}
use Rattle.std.proofs.lemmas.List.{length-map}
use Rattle.std.proofs.lemmas.List.Elements.{All-from_recursion}
use Rattle.made_runs.specs.Made.{made_scenario, made_link, made_round, made_group, made_tag, draw_words, drawn_at, generator_of, most_made_tags, numbers_below, words_of_tag}
use Rattle.pie_line.specs.Link.{IsLegalLink}
use Rattle.scenario.specs.Limits.{IsScenario, IsGroup, IsEntry, IsStep, IsOpList, no_operations}
use Rattle.scenario.specs.Groups.{tags_of}
use Rattle.access_ops.specs.laws.OperationLaws.{IsLegalOp}
use Rattle.made_runs.proofs.MadeTags.{numbers-count, tags-made}
use Rattle.scenario_lines.specs.LineForm.{IsRound}
use Rattle.scenario_lines.specs.declared.tag.TagSpec.{TagSpec}
use Rattle.scenario_lines.specs.declared.version.Version.TheVariants as versions
use Rattle.text_fields.specs.WordLists.{IsWordList}
use Rattle.scenario_lines.specs.TagForm.{IsTag}

-- what holds of each item holds of the image of each
all-map : {A : Type 0} {B : Type 0} (P : A → Type 0) (Q : B → Type 0) (f : A → B) → ((item : A) → P item → Q (f item)) → (list : List A)
    → AllByRecursion P list → AllByRecursion Q (map f list)
all-map P Q f holds [] all = tt
all-map P Q f holds (item ∷ list) all = (holds item all.0, all-map P Q f holds list all.1)

all-push : {A : Type 0} (P : A → Type 0) (list : List A) (last : A) → AllByRecursion P list → P last → AllByRecursion P (list ++ last ∷ [])
all-push P [] last all holds = (holds, tt)
all-push P (item ∷ list) last all holds = (all.0, all-push P list last all.1 holds)

numbers-small : (bound count : ℕ) → count ≤ bound → AllByRecursion (λ number. number < bound) (numbers_below count)
unfolding numbers_below
numbers-small bound zero few = tt
numbers-small bound (suc count) few = all-push (λ number. number < bound) (numbers_below count) count (numbers-small bound count (omega (arith, few))) (omega (arith, few))

drawn-small : (seed place : ℕ) → drawn_at (generator_of seed) place < 2 ^ 16
unfolding drawn_at
drawn-small seed place = omega arith

-- the random words of a tag are 64 words of 16 bits
words-legal : (seed number : ℕ) → IsWordList 1 256 (draw_words seed number)
words-legal seed number =
    let word : ℕ → ℕ = λ place. drawn_at (generator_of seed) (words_of_tag * number + place) in
    let count : length (draw_words seed number) ≡ 64 = length-map (numbers_below words_of_tag) word ∙ numbers-count words_of_tag in
    record {
      some = omega (arith, count);
      room = omega (arith, count);
      small = All-from_recursion (λ w. w < 2 ^ 16) (draw_words seed number)
          (all-map (λ place. place < 64) (λ w. w < 2 ^ 16) word (λ place small. drawn-small seed (words_of_tag * number + place)) (numbers_below words_of_tag) (numbers-small 64 64 (omega arith)));
    }

tag-legal : (seed number : ℕ) → number < most_made_tags → IsTag (made_tag seed number)
tag-legal seed number small = record {
  form = record {
    kill = omega arith;
    access = omega arith;
    epc = record {
      some = omega arith;
      room = omega arith;
      small = All-from_recursion (λ w. w < 2 ^ 16) (made_tag seed number).image.epc (omega arith, (omega arith, (omega arith, (omega arith, (omega arith, (omega arith, (omega (arith, small), tt)))))));
    };
    tid = record {
      some = omega arith;
      room = omega arith;
      small = All-from_recursion (λ w. w < 2 ^ 16) (made_tag seed number).image.tid (omega arith, (omega (arith, small), tt));
    };
    user = record { some = omega arith; room = omega arith; small = All-from_recursion (λ w. w < 2 ^ 16) [] tt };
    words = words-legal seed number;
  };
  pc = refl;
}

link-legal : IsLegalLink made_link
link-legal = record {
  tari_range = (omega arith, omega arith);
  rtcal_range = (omega arith, omega arith);
  trcal_range = (omega arith, omega arith);
  pw_range = (omega arith, omega arith, omega arith);
}

round-legal : IsRound versions.One made_round
unfolding made_round
round-legal = record {
  legal = record { session = omega arith; q = omega arith; rule = (omega arith, omega arith); limit = (omega arith, omega arith) };
  named = λ same. absurd (cc);
  spelled = tt;
}

no-operations-legal : IsOpList no_operations
no-operations-legal = record { only = tt; ops = All-from_recursion IsLegalOp [] tt; few = omega arith }

group-legal : (seed number : ℕ) → number < most_made_tags → IsGroup versions.One (made_group seed number)
group-legal seed number small = record { count = refl; tag = tag-legal seed number small; differ = λ several. absurd (omega (arith, several)) }

pub made-legal : (seed tags : ℕ) → tags ≤ most_made_tags → IsScenario (made_scenario seed tags)
made-legal seed tags few =
    let all : List TagSpec = tags_of (made_scenario seed tags).groups in
    let count : length all ≡ tags =
    ap (λ (specs : List TagSpec). length specs) (tags-made seed (numbers_below tags)) ∙ length-map (numbers_below tags) (made_tag seed) ∙ numbers-count tags in
    record {
      link = link-legal;
      several = refl;
      groups = All-from_recursion (IsGroup versions.One) (made_scenario seed tags).groups
          (all-map (λ number. number < most_made_tags) (IsGroup versions.One) (made_group seed) (group-legal seed) (numbers_below tags) (numbers-small most_made_tags tags few));
      entries = All-from_recursion (IsEntry (length all)) [] tt;
      rising = tt;
      steps = All-from_recursion (IsStep versions.One (length all)) (made_scenario seed tags).steps ((round-legal, no-operations-legal), tt);
      few_tags = omega (arith, count, few);
      few_air_lines = omega arith;
      few_steps = omega arith;
    }
