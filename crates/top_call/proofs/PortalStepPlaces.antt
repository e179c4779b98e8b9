-- The lines of the steps, from a place on.
use Rattle.top_call.proofs.PortalNames.{◌≡◌, ℕ, ◌+◌, ◌<◌, List, [], ◌∷◌, ◌++◌, length, get_or, take, drop, refl, sym, ap, ◌∙◌, add-one, drop-cons, take_more, SpecValue, specs_of, Step, Version, first_refused, lines_of_steps}
use Rattle.scenario.specs.declared.values.Step.TheVariants as steps

-- the step at a place
pub record IsStepAt (all : List Step) (place : ℕ) (step : Step) : Type 0 where
  pub inside : place < length all
  pub is : step ≡ get_or all place step

next-step : (all : List Step) (place : ℕ) (step : Step) → IsStepAt all place step → drop place all ≡ step ∷ drop (place + 1) all
next-step all place step at = drop-cons all place step at.inside ∙ (λ i. sym at.is i ∷ drop (sym (add-one place) i) all)

-- what is found from a place on, where the step there is known
pub from-place : (version : Version) (number next : ℕ) (all : List Step) (place : ℕ) (step : Step) → IsStepAt all place step
    → first_refused number next (lines_of_steps version (drop place all)) ≡ first_refused number next (lines_of_steps version (step ∷ drop (place + 1) all))
from-place version number next all place step at = ap (λ (left : List Step). first_refused number next (lines_of_steps version left)) (next-step all place step at)

specs-append : (one other : List Step) → specs_of (one ++ other) ≡ specs_of one ++ specs_of other
specs-append [] other = refl
specs-append (steps.Round spec operations ∷ one) other = ap (λ (specs : List SpecValue). spec ∷ specs) (specs-append one other)
specs-append (step ∷ one) other = specs-append one other

-- the rounds up to a place, and one step more
pub specs-more : (all : List Step) (place : ℕ) (step : Step) → IsStepAt all place step → specs_of (take (place + 1) all) ≡ specs_of (take place all) ++ specs_of (step ∷ [])
specs-more all place step at =
    ap specs_of (take_more all place step at.inside ∙ ap (λ (last : Step). take place all ++ last ∷ []) (sym at.is)) ∙ specs-append (take place all) (step ∷ [])
