-- A round among the steps of a run: what comes before it and behind it is of other rounds.
use Rattle.runs.proofs.Names.{◌≡◌, ℕ, ◌+◌, ◌<◌, inl, inr, List, [], ◌∷◌, ◌++◌, refl, ap, sym, ◌∙◌, subst, append-nil, arith, OpList, Start, Item, rounds_in, SpecValue, AreLegalSteps, IsLegalRound}
use Rattle.runs.proofs.Names.{rounds_of, past_behind, past_behind_step, history_of, Step}
use Rattle.scenario.specs.declared.values.Step.TheVariants as steps
use Rattle.runs.proofs.Growth.{RoundsKeepLimit}
use Rattle.runs.proofs.OtherRounds.{Adds, AreOfOthers, of-others, step-adds, steps-add}
use Rattle.runs.proofs.PlayedRounds.{PlayedRound, number_of, past_behind_played}

-- a round among the steps of a run
pub record RoundAmong : Type 0 where
  pub start : Start
  pub before : List Step
  pub after : List Step
  pub spec : SpecValue
  pub operations : OpList

-- these steps
abbrev pub steps_around : RoundAmong → List Step
steps_around among = among.before ++ steps.Round among.spec among.operations ∷ among.after

-- the round as it is played
abbrev pub played : RoundAmong → PlayedRound
played among = record { start = among.start; operations = among.operations; spec = among.spec; before = past_behind among.start among.before [] }

-- steps follow one another
pub past_behind-append : (start : Start) (before after : List Step) (past : List Item)
    → past_behind start (before ++ after) past ≡ past_behind start after (past_behind start before past)
past_behind-append start [] after past = refl
past_behind-append start (step ∷ before) after past = past_behind-append start before after (past_behind_step start step past)

pub legal-split : (before after : List Step) → AreLegalSteps (before ++ after) → AreLegalSteps before × AreLegalSteps after
legal-split [] after legal = (tt, legal)
legal-split (step ∷ before) after legal = let rest = legal-split before after legal.1 in ((legal.0, rest.0), rest.1)

-- what is past behind so many rounds is of no later one
pub none-of-later : (past : List Item) (rounds round : ℕ) → Adds [] past rounds → rounds < round → AreOfOthers round past
none-of-later past rounds round added above =
    subst (AreOfOthers round) (sym (append-nil added.own) ∙ sym added.is)
    (of-others 0 (0 + rounds) round added.own (omega arith) (inr (omega arith)) added.of)

-- the round has its number, and what is past before it, and what is added behind it, is of other rounds
pub record StandsAmong (among : RoundAmong) : Type 0 where
  pub number_is : number_of (played among) ≡ rounds_of among.before + 1
  pub legal : IsLegalRound among.spec among.operations
  pub later : List Item
  pub is : history_of among.start (steps_around among) ≡ later ++ past_behind_played (played among)
  pub before_others : AreOfOthers (number_of (played among)) (played among).before
  pub later_others : AreOfOthers (number_of (played among)) later

pub stands-among : RoundsKeepLimit → (among : RoundAmong) → AreLegalSteps (steps_around among) → StandsAmong among
stands-among keeps among legal =
    let start = among.start in
    let own_step = steps.Round among.spec among.operations in
    let (legal_before, legal_after) = legal-split among.before (own_step ∷ among.after) legal in
    let past = past_behind start among.before [] in
    let behind = past_behind_played (played among) in
    let first : Adds [] past (rounds_of among.before) = steps-add keeps start among.before [] legal_before in
    let own : Adds past behind 1 = step-adds keeps start own_step past legal_after.0 in
    let rest : Adds behind (past_behind start among.after behind) (rounds_of among.after) = steps-add keeps start among.after behind legal_after.1 in
    record {
      number_is = ap (λ n. n + 1) (first.rounds_are ∙ omega arith);
      legal = legal_after.0;
      later = rest.own;
      is = past_behind-append start among.before (own_step ∷ among.after) [] ∙ rest.is;
      before_others = none-of-later past (rounds_of among.before) (rounds_in past + 1) first (omega (arith, first.rounds_are));
      later_others = of-others (rounds_in behind) (rounds_in behind + rounds_of among.after) (rounds_in past + 1) rest.own
          (omega arith) (inl (omega (arith, own.rounds_are))) rest.of;
    }
