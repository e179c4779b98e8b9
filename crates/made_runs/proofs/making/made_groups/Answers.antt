use Rattle.std.proofs.Common.{rules, ◌≡◌, ◌∷◌, ◌++◌, ◌∙◌, ◌+◌, ◌*◌, [], ℕ, List, map, ap, sym, arith}
use Rattle.made_runs.specs.Made.{generator_after, generator_of, drawn_at, draw_words, numbered_tag, made_group, made_tag, words_of_tag, numbers_below}
use Rattle.made_runs.proofs.Drawn.{no_words, more_words, words_of_number, numbers_none, numbers_more}
use Rattle.rand_pcg.specs.Lcg.{Lcg}
use Rattle.scenario.specs.declared.values.TagGroup.{TagGroup}
use Rattle.scenario_lines.specs.declared.tag.TagSpec.{TagSpec}
use Rattle.made_runs.proofs.making.made_groups.Goals as goal

pub loop-number-init : goal.loop-number-init
unfolding generator_of
loop-number-init c = record {
  made = c.in_ok-groups.ensures.items ∙ sym (numbers_none (made_group c.args.seed));
  behind = c.new-generator.ensures ∙ sym (no_words (generator_of c.args.seed));
  room = search rules;
  count = search rules;
}

pub loop-number-preserved : goal.loop-number-preserved
loop-number-preserved c =
    let inv = c.loop-number.invariant in
    let seed = c.args.seed in
    let number = c.loop-number.number in
    let words : c.in_ok-words.words ≡ draw_words seed number =
    c.in_ok-words.ensures.words ∙ ap (λ (g : Lcg). map (drawn_at g) (numbers_below words_of_tag)) inv.behind ∙ words_of_number seed number in
    let tag : c.in_ok-spec.spec ≡ made_tag seed number = c.in_ok-spec.ensures ∙ ap (numbered_tag number) words in
    let sum : words_of_tag * number + words_of_tag ≡ words_of_tag * (number + 1) = omega arith in
    record {
      made = c.push_reserved.ensures.items ∙ ap (λ (groups : List TagGroup). groups ++ record { count = 1; spec = c.in_ok-spec.spec } ∷ []) inv.made
          ∙ ap (λ (t : TagSpec). map (made_group seed) (numbers_below number) ++ record { count = 1; spec = t } ∷ []) tag
          ∙ sym (numbers_more (made_group seed) number);
      behind = c.in_ok-words.ensures.after ∙ ap (generator_after words_of_tag) inv.behind
          ∙ sym (more_words (words_of_tag * number) words_of_tag (generator_of seed))
          ∙ ap (λ (n : ℕ). generator_after n (generator_of seed)) sum;
      room = search rules;
      count = search rules;
    }
