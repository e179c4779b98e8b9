-- A run of a made scenario lists each tag: each is ready with the flags of a new tag, and each has an EPC of its own, so that a run that ended
-- quiet lists each of them.
use Rattle.std.proofs.Common.{◌≡◌, ◌==◌, ℕ, zero, suc, Bool, true, false, List, [], ◌∷◌, ◌++◌, length, map, get_or, Some, slice_get, if◌then◌else◌, ◌⊎◌, inl, inr, refl, ap, sym, ◌∙◌, subst, arith}
use Rattle.std.proofs.lemmas.Bool.{and_parts}
use Rattle.std.proofs.lemmas.List.{length-map}
use Rattle.air_model.specs.Past.{Item, befell, exchanged, operated, ended}
use Rattle.runs.specs.ScenarioHistory.{history, start_of, scenario_tag}
use Rattle.runs.specs.Summary.{is_quiet, all_quiet}
use Rattle.runs.specs.CompleteRound.{HasNumber}
use Rattle.runs.specs.EveryTag.{AllTakePart, HaveOwnEpcs}
use Rattle.runs.specs.MomentsOfRound.{Ending, ending_of}
use Rattle.made_runs.specs.Made.{made_scenario, made_round, made_tag, numbers_below}
use Rattle.made_runs.proofs.MadeTags.{numbers-count, tags-made}
use Rattle.q_round.specs.SpecValue.{IsLegalSpec}
use Rattle.q_round.specs.declared.round.RoundEnd.{RoundEnd}
use Rattle.q_round.specs.declared.round.RoundEnd.TheVariants as ends
use Rattle.tag_machine.specs.TagValue.{TagValue}
use Rattle.tag_memory.specs.Memory.{epc_of}

-- what stands at a place of a list with one item more
at-longer : (list : List ℕ) (last place found : ℕ) → slice_get (list ++ last ∷ []) place ≡ Some found → (slice_get list place ≡ Some found) ⊎ ((place ≡ length list) × (found ≡ last))
at-longer [] last zero found at = inr (refl, cc)
at-longer [] last (suc place) found at = absurd (cc)
at-longer (first ∷ list) last zero found at = inl at
at-longer (first ∷ list) last (suc place) found at = elim (at-longer list last place found at) [ inl here ↦ inl here | inr end ↦ inr (ap suc end.0, end.1) ]

-- the number at a place of the numbers below another is the place
number-at : (count place number : ℕ) → slice_get (numbers_below count) place ≡ Some number → number ≡ place
unfolding numbers_below
number-at zero place number at = absurd (cc)
number-at (suc count) place number at = elim (at-longer (numbers_below count) count place number at)
    [ inl front ↦ number-at count place number front | inr end ↦ end.1 ∙ sym (end.0 ∙ numbers-count count) ]

-- what stands at a place of a list of values stands for an item at that place
mapped-at : {A : Type 0} {B : Type 0} (f : A → B) (list : List A) (place : ℕ) (value : B) → slice_get (map f list) place ≡ Some value
    → (item : A) × (slice_get list place ≡ Some item) × (value ≡ f item)
mapped-at f [] place value at = absurd (cc)
mapped-at f (item ∷ list) zero value at = (item, refl, cc)
mapped-at f (item ∷ list) (suc place) value at = mapped-at f list place value at

-- the tag of each number
made-at : (seed tags number : ℕ) (tag : TagValue) → HasNumber (start_of (made_scenario seed tags)) number tag → tag ≡ scenario_tag (made_tag seed number)
made-at seed tags number tag at =
    let alone = subst (λ specs. slice_get (map scenario_tag specs) number ≡ Some tag) (tags-made seed (numbers_below tags)) at in
    let (spec, spec_at, is) = mapped-at scenario_tag (map (made_tag seed) (numbers_below tags)) number tag alone in
    let (place, place_at, made_is) = mapped-at (made_tag seed) (numbers_below tags) number spec spec_at in
    is ∙ ap scenario_tag (made_is ∙ ap (made_tag seed) (number-at tags number place place_at))

pub made-tags-count : (seed tags : ℕ) → length (start_of (made_scenario seed tags)).tags ≡ tags
made-tags-count seed tags =
    ap (λ specs. length (map scenario_tag specs)) (tags-made seed (numbers_below tags))
    ∙ length-map (map (made_tag seed) (numbers_below tags)) scenario_tag ∙ length-map (numbers_below tags) (made_tag seed) ∙ numbers-count tags

pub made-take-part : (seed tags : ℕ) → AllTakePart (start_of (made_scenario seed tags)) made_round
unfolding made_round
made-take-part seed tags = record {
  ready = λ number tag at. ap (λ (t : TagValue). t.state) (made-at seed tags number tag at);
  matching = λ number tag at. rw (made-at seed tags number tag at) refl;
}

-- the last word of the EPC of a tag
last_word : TagValue → ℕ
last_word tag = get_or (epc_of tag.body.memory) 5 0

last-word : (seed number : ℕ) → last_word (scenario_tag (made_tag seed number)) ≡ number
unfolding last_word
last-word seed number = refl

pub made-own-epcs : (seed tags : ℕ) → HaveOwnEpcs (start_of (made_scenario seed tags))
unfolding last_word
made-own-epcs seed tags number other tag other_tag at other_at same =
    let one : last_word tag ≡ number = ap last_word (made-at seed tags number tag at) ∙ last-word seed number in
    let two : last_word other_tag ≡ other = ap last_word (made-at seed tags other other_tag other_at) ∙ last-word seed other in
    sym one ∙ ap (λ (epc : List ℕ). get_or epc 5 0) same ∙ two

pub made-round-legal : IsLegalSpec made_round
unfolding made_round
made-round-legal = record { session = omega arith; q = omega arith; rule = (omega arith, omega arith); limit = (omega arith, omega arith) }

some-end : (one other : Ending) → Some one ≡ Some other → one ≡ other
some-end one other same = cc

quiet-is : (end : RoundEnd) → is_quiet end ≡ true → end ≡ ends.Quiet
quiet-is ends.Quiet is = refl
quiet-is ends.Limit is = absurd (cc)

-- where each round ended quiet, so did a round of a number
quiet-here : (here : Bool) (end : RoundEnd) (slots : ℕ) (past : List Item) (round : ℕ) (ending : Ending) → is_quiet end ≡ true
    → (ending_of round past ≡ Some ending → ending.end ≡ ends.Quiet)
    → (if here then Some (record { end = end; slots = slots; past = past }) else ending_of round past) ≡ Some ending → ending.end ≡ ends.Quiet
quiet-here true end slots past round ending is earlier at =
    ap (λ (e : Ending). e.end) (sym (some-end (record { end = end; slots = slots; past = past }) ending at)) ∙ quiet-is end is
quiet-here false end slots past round ending is earlier at = earlier at

pub quiet-end : (round : ℕ) (past : List Item) (ending : Ending) → all_quiet past ≡ true → ending_of round past ≡ Some ending → ending.end ≡ ends.Quiet
quiet-end round [] ending quiet at = absurd (cc)
quiet-end round (befell event number ∷ past) ending quiet at = quiet-end round past ending quiet at
quiet-end round (exchanged sent ∷ past) ending quiet at = quiet-end round past ending quiet at
quiet-end round (operated number slot index result ∷ past) ending quiet at = quiet-end round past ending quiet at
quiet-end round (ended number end slots ∷ past) ending quiet at =
    let parts = and_parts (all_quiet past) (is_quiet end) quiet in
    quiet-here (number == round) end slots past round ending parts.1 (quiet-end round past ending parts.0) at

-- an ending that is quiet, part by part
quiet-parts : (ending : Ending) → ending.end ≡ ends.Quiet → ending ≡ record { end = ends.Quiet; slots = ending.slots; past = ending.past }
quiet-parts ending is = ap (λ (end : RoundEnd). record ending { end = end }) is

pub quiet-made : (seed tags : ℕ) (ending : Ending) → all_quiet (history (made_scenario seed tags)) ≡ true → ending_of 1 (history (made_scenario seed tags)) ≡ Some ending
    → ending_of 1 (history (made_scenario seed tags)) ≡ Some (record { end = ends.Quiet; slots = ending.slots; past = ending.past })
quiet-made seed tags ending quiet at = at ∙ ap Some (quiet-parts ending (quiet-end 1 (history (made_scenario seed tags)) ending quiet at))
