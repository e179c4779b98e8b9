use Rattle.std.proofs.Common.{rules, ◌≡◌, ◌∷◌, ◌++◌, ◌∙◌, ◌%◌, [], ℕ, List, map, ap, sym}
use Rattle.made_runs.specs.Made.{generator_after, drawn_at, numbers_below}
use Rattle.made_runs.proofs.Drawn.{no_words, one_more, word_at, numbers_none, numbers_more}
use Rattle.rand_pcg.specs.Lcg.{Lcg}
use Rattle.rand_pcg.specs.Pcg.{pcg32}
use Rattle.made_runs.proofs.making.draw_words.Goals as goal

pub loop-init : goal.loop-init
loop-init c = record {
  drawn = search (rules, numbers_none);
  after = sym (no_words c.args.generator.now);
  room = search rules;
  count = search rules;
}

pub loop-preserved : goal.loop-preserved
loop-preserved c =
    let inv = c.loop.invariant in
    let generator = c.args.generator.now in
    let stepped : (c.next_word.result, c.next_word.new.self) ≡ pcg32 (generator_after c.loop.counter generator) = c.next_word.ensures ∙ ap pcg32 inv.after in
    let word : c.next_word.result % 65536 ≡ drawn_at generator c.loop.counter = ap (λ (pair : ℕ × Lcg). pair.0 % 65536) stepped ∙ word_at c.loop.counter generator in
    record {
      drawn = c.push_reserved.ensures.items ∙ ap (λ (words : List ℕ). words ++ c.next_word.result % 65536 ∷ []) inv.drawn
          ∙ ap (λ (w : ℕ). map (drawn_at generator) (numbers_below c.loop.counter) ++ w ∷ []) word
          ∙ sym (numbers_more (drawn_at generator) c.loop.counter);
      after = ap (λ (pair : ℕ × Lcg). pair.1) stepped ∙ one_more c.loop.counter generator;
      room = search rules;
      count = search rules;
    }
