-- The laws of rounds, by what is known at each turn.
use Rattle.std.proofs.Common.{◌≡◌, ℕ, ◌+◌, ◌^◌, ◌<◌, ◌≤◌, Bool, true, false, List, [], ◌∷◌, ◌++◌, length, refl, ap, sym, ◌∙◌, subst, add-one, arith}
use Rattle.std.specs.List.{AllByRecursion}
use Rattle.command_grammar.specs.declared.commands.Command.TheVariants.{QueryRep}
use Rattle.pie_line.specs.Link.{LinkValue}
use Rattle.q_round.specs.declared.frame.Frame.{Frame}
use Rattle.q_round.specs.declared.frame.Outcome.{Outcome}
use Rattle.q_round.specs.declared.frame.Outcome.TheVariants.{Silence, Whole, Refused}
use Rattle.q_round.specs.declared.round.Next.TheVariants.{Send, Quiet}
use Rattle.q_round.specs.SpecValue.{SpecValue, IsLegalSpec}
use Rattle.q_round.specs.Rounds.{qfp_of, is_silent, all_silent, refused_in, Turn, query, adjust, rep, quiet, limit, q_after, frame_after, is_last_turn, turn_of, q_of, frame_of, is_over, AreOutcomes, slots_of, next_of_turn, next_command}
use Rattle.q_round.specs.RoundValue.{IsSoundFrame, IsCounted, frame_after_outcome, IsFrameOf}
use Rattle.q_round.specs.laws.RoundLaws.{IsSilentFrame}
use Rattle.q_round.proofs.SlotLaws.{slots-underway}
use Rattle.q_round.proofs.TurnFacts.{IsTurn, turn-tells, counted-frame, begun-sound, rep-sound, some-slots, both}
use Rattle.q_round.proofs.RoundAnswers.{turn-is}

-- the frame behind these outcomes
abbrev pub frame_at : SpecValue → List Outcome → Frame
frame_at spec outcomes = record {
  q = q_of spec outcomes;
  qfp = qfp_of spec outcomes;
  slots = length (frame_of spec outcomes);
  refused = refused_in (frame_of spec outcomes);
  silent = all_silent (frame_of spec outcomes);
}

-- the frame with one more outcome
abbrev pub next_at : SpecValue → Outcome → List Outcome → Frame
next_at spec outcome before = frame_after_outcome spec.rule outcome (frame_at spec before)

frame-at : (spec : SpecValue) (outcomes : List Outcome) → is_over spec outcomes ≡ false → IsFrameOf (frame_at spec outcomes) spec outcomes
frame-at spec outcomes on = record { goes_on = on; q = refl; qfp = refl; slots = refl; refused = refl; silent = refl }

-- what is known at the turn behind one more outcome
pub turn-at : (spec : SpecValue) (outcome : Outcome) (before : List Outcome) → is_over spec before ≡ false → IsCounted (next_at spec outcome before) →
    IsTurn (turn_of spec (outcome ∷ before)) spec.limit (length before + 1) (next_at spec outcome before)
turn-at spec outcome before on s =
    let next = next_at spec outcome before in
    subst (λ turn. IsTurn turn spec.limit (length before + 1) next) (sym (turn-is spec before outcome (frame_at spec before) (frame-at spec before on)))
    (turn-tells spec (length before + 1) next s)

-- ... by cases on the turn
frame-sound : (spec : SpecValue) (outcome : Outcome) (before : List Outcome) (turn : Turn) → turn_of spec (outcome ∷ before) ≡ turn → is_last_turn turn ≡ false →
    is_over spec before ≡ false → IsCounted (next_at spec outcome before) → IsTurn turn spec.limit (length before + 1) (next_at spec outcome before) →
    IsSoundFrame (frame_at spec (outcome ∷ before))
frame-sound spec outcome before query t goes on s known = absurd known
frame-sound spec outcome before quiet t goes on s known = absurd (cc)
frame-sound spec outcome before limit t goes on s known = absurd (cc)
frame-sound spec outcome before (adjust updn) t goes on s known = rw t (begun-sound updn (next_at spec outcome before) s known.1)
frame-sound spec outcome before rep t goes on s known = rw t (rw (← add-one (length (frame_of spec before))) (rep-sound (next_at spec outcome before) s known.1))

pub sound : (spec : SpecValue) (outcomes : List Outcome) → IsLegalSpec spec → AreOutcomes spec outcomes → is_over spec outcomes ≡ false → IsSoundFrame (frame_at spec outcomes)
sound spec [] legal are on = record { q = legal.q; qfp = omega (arith, legal.q); slots = some-slots spec.q; refused = omega arith }
sound spec (outcome ∷ before) legal are on =
    let s = counted-frame spec.rule outcome (frame_at spec before) (sound spec before legal are.1 are.0) in
    frame-sound spec outcome before (turn_of spec (outcome ∷ before)) refl on are.0 s (turn-at spec outcome before are.0 s)

pub counted-at : (spec : SpecValue) (outcome : Outcome) (before : List Outcome) → IsLegalSpec spec → AreOutcomes spec (outcome ∷ before) → IsCounted (next_at spec outcome before)
counted-at spec outcome before legal are = counted-frame spec.rule outcome (frame_at spec before) (sound spec before legal are.1 are.0)

pub turn-known : (spec : SpecValue) (outcome : Outcome) (before : List Outcome) → IsLegalSpec spec → AreOutcomes spec (outcome ∷ before) →
    IsTurn (turn_of spec (outcome ∷ before)) spec.limit (length before + 1) (next_at spec outcome before)
turn-known spec outcome before legal are = turn-at spec outcome before are.0 (counted-at spec outcome before legal are)

-- no round gives more slot commands than its limit
within : (spec : SpecValue) (outcome : Outcome) (before : List Outcome) (turn : Turn) → turn_of spec (outcome ∷ before) ≡ turn → slots_of spec before ≤ spec.limit →
    slots_of spec before ≡ length before + 1 → IsTurn turn spec.limit (length before + 1) (next_at spec outcome before) → slots_of spec (outcome ∷ before) ≤ spec.limit
within spec outcome before query t most count known = absurd known
within spec outcome before quiet t most count known = rw t (omega arith)
within spec outcome before limit t most count known = rw t (omega arith)
within spec outcome before (adjust updn) t most count known = let other = known.0 in rw t (omega arith)
within spec outcome before rep t most count known = let other = known.0 in rw t (omega arith)

pub slots-within : (spec : SpecValue) (outcomes : List Outcome) → IsLegalSpec spec → AreOutcomes spec outcomes → slots_of spec outcomes ≤ spec.limit
slots-within spec [] legal are = legal.limit.0
slots-within spec (outcome ∷ before) legal are =
    within spec outcome before (turn_of spec (outcome ∷ before)) refl (slots-within spec before legal are.1) (slots-underway spec before are.1 are.0) (turn-known spec outcome before legal are)

-- Q is in its range, also where the round is over
kept : (turn : Turn) (q : ℕ) → is_last_turn turn ≡ true → q_after turn q ≡ q
kept query q over = absurd (cc)
kept (adjust updn) q over = absurd (cc)
kept rep q over = absurd (cc)
kept quiet q over = refl
kept limit q over = refl

in-range : (spec : SpecValue) (outcomes : List Outcome) (over : Bool) → is_over spec outcomes ≡ over → IsLegalSpec spec → AreOutcomes spec outcomes → q_of spec outcomes ≤ 15
in-range spec outcomes false on legal are = (sound spec outcomes legal are on).q
in-range spec [] true over legal are = legal.q
in-range spec (outcome ∷ before) true over legal are =
    rw (kept (turn_of spec (outcome ∷ before)) (q_of spec before) over) (sound spec before legal are.1 are.0).q

pub q-in-range : (spec : SpecValue) (outcomes : List Outcome) → IsLegalSpec spec → AreOutcomes spec outcomes → q_of spec outcomes ≤ 15
q-in-range spec outcomes = in-range spec outcomes (is_over spec outcomes) refl

-- the outcomes of a silent frame
silent-is : (outcome : Outcome) → is_silent outcome ≡ true → outcome ≡ Silence
silent-is Silence h = refl
silent-is Whole h = absurd (cc)
silent-is Refused h = absurd (cc)

all-silent : (frame : List Outcome) → all_silent frame ≡ true → AllByRecursion (λ outcome. outcome ≡ Silence) frame
all-silent [] h = tt
all-silent (outcome ∷ before) h =
    let b = both (is_silent outcome) (all_silent before) h in
    (silent-is outcome b.0, all-silent before b.1)

quiet-turn : (spec : SpecValue) (link : LinkValue) (turn : Turn) → next_of_turn spec link turn ≡ Quiet → turn ≡ quiet
quiet-turn spec link query h = absurd (cc)
quiet-turn spec link (adjust updn) h = absurd (cc)
quiet-turn spec link rep h = absurd (cc)
quiet-turn spec link quiet h = refl
quiet-turn spec link limit h = absurd (cc)

pub quiet-frame : (spec : SpecValue) (link : LinkValue) (outcome : Outcome) (before : List Outcome) → IsLegalSpec spec → AreOutcomes spec (outcome ∷ before) →
    next_command spec link (outcome ∷ before) ≡ Quiet → IsSilentFrame (q_of spec before) (outcome ∷ frame_of spec before)
quiet-frame spec link outcome before legal are h =
    let t = quiet-turn spec link (turn_of spec (outcome ∷ before)) h in
    let known = subst (λ turn. IsTurn turn spec.limit (length before + 1) (next_at spec outcome before)) t (turn-known spec outcome before legal are) in
    record {
      whole = rw (← add-one (length (frame_of spec before))) known.0;
      silent = all-silent (outcome ∷ frame_of spec before) known.1;
    }

-- a QueryRep goes on
rep-turn : (spec : SpecValue) (link : LinkValue) (session : ℕ) (turn : Turn) → next_of_turn spec link turn ≡ Send (QueryRep session) → turn ≡ rep
rep-turn spec link session query h = absurd (cc)
rep-turn spec link session (adjust updn) h = absurd (cc)
rep-turn spec link session rep h = refl
rep-turn spec link session quiet h = absurd (cc)
rep-turn spec link session limit h = absurd (cc)

pub rep-frame : (spec : SpecValue) (link : LinkValue) (session : ℕ) (outcomes : List Outcome) → IsLegalSpec spec → AreOutcomes spec outcomes →
    next_command spec link outcomes ≡ Send (QueryRep session) → length (frame_of spec outcomes) < 2 ^ q_of spec outcomes
rep-frame spec link session outcomes legal are h =
    let t : turn_of spec outcomes ≡ rep = rep-turn spec link session (turn_of spec outcomes) h in
    let on : is_over spec outcomes ≡ false = ap is_last_turn t in
    (sound spec outcomes legal are on).slots

-- the frame is the last of the outcomes
front : (turn : Turn) (frame earlier : List Outcome) → (rest : List Outcome) × (frame ++ earlier ≡ frame_after turn frame ++ rest)
front query frame earlier = (earlier, refl)
front (adjust updn) frame earlier = (frame ++ earlier, refl)
front rep frame earlier = (earlier, refl)
front quiet frame earlier = (earlier, refl)
front limit frame earlier = (earlier, refl)

pub frame-front : (spec : SpecValue) (outcomes : List Outcome) → (earlier : List Outcome) × (outcomes ≡ frame_of spec outcomes ++ earlier)
frame-front spec [] = ([], refl)
frame-front spec (outcome ∷ before) =
    let (earlier, split) = frame-front spec before in
    let (rest, is) = front (turn_of spec (outcome ∷ before)) (outcome ∷ frame_of spec before) earlier in
    (rest, ap (λ os. outcome ∷ os) split ∙ is)
