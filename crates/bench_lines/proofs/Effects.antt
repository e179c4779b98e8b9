-- Whatever is done to a tag has one effect.
use Rattle.std.proofs.Common.{rules, ◌≡◌, ℕ, Bool, List, [], ◌∷◌, length, refl, sym, ◌∙◌, ap, ◌⊎◌, inl, inr}
use Rattle.std.specs.List.{AllZip}
use Rattle.bit_strings.specs.Family.{IsBadAt, IsShortAt}
use Rattle.command_grammar.specs.Commands.{Spellings, SpellsCommand}
use Rattle.command_grammar.specs.declared.commands.Command.{Command}
use Rattle.tag_machine.specs.TagValue.{TagValue}
use Rattle.bench_lines.specs.Stimuli.{Stimulus, StimulusEffect, Hears, Befalls, Nothing}
use Rattle.bench_lines.specs.Stimuli as stimuli
use Rattle.bench_lines.specs.ProbeAnswers.{HasEffect, TellsEffects, first_number, probe_text_from}

-- what the laws of spellings say
pub record Known : Type 0 where
  pub one : (c d : Command) (bits : List Bool) → SpellsCommand c bits → SpellsCommand d bits → c ≡ d
  pub some : (bits : List Bool) → Spellings bits ⊎ (IsShortAt Spellings bits (length bits) ⊎ ((place : ℕ) × IsBadAt Spellings bits place))
  pub not_bad : (bits : List Bool) (place : ℕ) → Spellings bits → IsBadAt Spellings bits place → ⊥
  pub not_short : (bits : List Bool) (count : ℕ) → Spellings bits → IsShortAt Spellings bits count → ⊥

bits_effect : Known → (bits : List Bool) → Spellings bits ⊎ (IsShortAt Spellings bits (length bits) ⊎ ((place : ℕ) × IsBadAt Spellings bits place))
    → (effect : StimulusEffect) × HasEffect (stimuli.SendsBits bits) effect
bits_effect known bits (inl spelled) = (Hears spelled.0, spelled.1)
bits_effect known bits (inr (inl short)) = (Nothing, λ command spells. known.not_short bits (length bits) (command, spells) short)
bits_effect known bits (inr (inr bad)) = (Nothing, λ command spells. known.not_bad bits bad.0 (command, spells) bad.1)

some_effect : Known → (stimulus : Stimulus) → (effect : StimulusEffect) × HasEffect stimulus effect
some_effect known (stimuli.SendsCommand command) = (Hears command, refl)
some_effect known (stimuli.SendsBits bits) = bits_effect known bits (known.some bits)
some_effect known (stimuli.Brings event) = (Befalls event, refl)

pub some_effects : Known → (said : List Stimulus) → (effects : List StimulusEffect) × AllZip HasEffect said effects
some_effects known [] = ([], tt)
some_effects known (stimulus ∷ said) =
    let first = some_effect known stimulus in
    let rest = some_effects known said in
    (first.0 ∷ rest.0, (first.1, rest.1))

one_effect : Known → (stimulus : Stimulus) (one other : StimulusEffect) → HasEffect stimulus one → HasEffect stimulus other → one ≡ other
one_effect known (stimuli.SendsCommand command) one other has has' = has ∙ sym has'
one_effect known (stimuli.Brings event) one other has has' = has ∙ sym has'
one_effect known (stimuli.SendsBits bits) (Hears c) (Hears d) has has' = ap Hears (known.one c d bits has has')
one_effect known (stimuli.SendsBits bits) Nothing Nothing has has' = refl
one_effect known (stimuli.SendsBits bits) one other has has' = absurd (search rules)

pub one_effects : Known → (said : List Stimulus) (one other : List StimulusEffect) → AllZip HasEffect said one → AllZip HasEffect said other → one ≡ other
one_effects known [] [] [] has has' = refl
one_effects known [] (e ∷ es) other has has' = absurd has
one_effects known [] [] (f ∷ fs) has has' = absurd has'
one_effects known (stimulus ∷ said) [] other has has' = absurd has
one_effects known (stimulus ∷ said) (e ∷ es) [] has has' = absurd has'
one_effects known (stimulus ∷ said) (e ∷ es) (f ∷ fs) has has' =
    let first = one_effect known stimulus e f has.0 has'.0 in
    let rest = one_effects known said es fs has.1 has'.1 in
    cc

pub one_text : ((said : List Stimulus) (one other : List StimulusEffect) → AllZip HasEffect said one → AllZip HasEffect said other → one ≡ other)
    → (tag : TagValue) (said : List Stimulus) (one other : List ℕ) → TellsEffects tag said one → TellsEffects tag said other → one ≡ other
one_text once tag said one other tells tells' =
    tells.told ∙ ap (λ (effects : List StimulusEffect). probe_text_from first_number tag effects) (once said tells.effects tells'.effects tells.each tells'.each) ∙ sym tells'.told
