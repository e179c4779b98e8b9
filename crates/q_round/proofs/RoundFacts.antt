-- Each rule has what an inventory goes by.
use Rattle.std.proofs.Common.{◌≡◌, ◌+◌, List, ◌∷◌, length, refl, ap, add-one, arith}
use Rattle.command_fields.specs.declared.choices.UpDn.TheVariants.{Up, Same, Down}
use Rattle.pie_line.specs.Link.{LinkValue}
use Rattle.q_round.specs.declared.frame.Outcome.{Outcome}
use Rattle.q_round.specs.laws.RoundFacts.{IsNextTurn, RoundFacts}
use Rattle.q_round.specs.Rounds.{Turn, query, adjust, rep, quiet, limit, turn_of, q_of, frame_of, AreOutcomes, next_of_turn, next_command}
use Rattle.q_round.specs.SpecValue.{SpecValue, IsLegalSpec}
use Rattle.q_round.proofs.RoundLaws.{next_at, counted-at, turn-known, q-in-range, quiet-frame}
use Rattle.q_round.proofs.TurnFacts.{IsTurn, rep-sound}

-- by cases on the turn
turn-fits : (spec : SpecValue) (link : LinkValue) (outcome : Outcome) (before : List Outcome) (turn : Turn) → turn_of spec (outcome ∷ before) ≡ turn →
    IsLegalSpec spec → AreOutcomes spec (outcome ∷ before) → IsTurn turn spec.limit (length before + 1) (next_at spec outcome before) →
    IsNextTurn (next_command spec link (outcome ∷ before)) spec.session (q_of spec before) (outcome ∷ frame_of spec before) (q_of spec (outcome ∷ before)) (frame_of spec (outcome ∷ before))
turn-fits spec link outcome before query t legal are known = absurd known
turn-fits spec link outcome before (adjust Up) t legal are known = rw t (record { session_is = refl; q_moves = refl; frame_is = refl })
turn-fits spec link outcome before (adjust Down) t legal are known =
    let above = known.1 in
    rw t (record { session_is = refl; q_moves = omega arith; frame_is = refl })
turn-fits spec link outcome before (adjust Same) t legal are known = rw t (record { session_is = refl; q_moves = refl; frame_is = refl })
turn-fits spec link outcome before rep t legal are known = rw t (record {
  session_is = refl;
  q_is = refl;
  frame_is = refl;
  room = rw (← add-one (length (frame_of spec before))) (rep-sound (next_at spec outcome before) (counted-at spec outcome before legal are) known.1).slots;
})
turn-fits spec link outcome before quiet t legal are known = rw t (quiet-frame spec link outcome before legal are (ap (λ turn. next_of_turn spec link turn) t))
turn-fits spec link outcome before limit t legal are known = rw t tt

pub facts : (spec : SpecValue) (link : LinkValue) → IsLegalSpec spec → RoundFacts spec link
facts spec link legal = record {
  begins = refl;
  first_q = refl;
  first_frame = refl;
  range = λ outcomes are. q-in-range spec outcomes legal are;
  turn = λ outcome before are. turn-fits spec link outcome before (turn_of spec (outcome ∷ before)) refl legal are
      (turn-known spec outcome before legal are);
}
