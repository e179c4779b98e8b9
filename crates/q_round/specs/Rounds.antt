-- What an interrogator does after each slot of a round, by the outcomes of its slots so far (6.3.2.8 Inventorying Tag
-- populations). There are three rules for Q: the informative one of Annex D, in thousandths with numbers of this profile, and two of this
-- profile. A list of outcomes stands latest first.
use Rattle.std.specs.Prelude.{◌≡◌, ℕ, ◌+◌, ◌-◌, ◌*◌, ◌/◌, ◌^◌, ◌==◌, nat_lt, min, Bool, true, false, ◌&&◌, List, [], ◌∷◌, length, if◌then◌else◌}
use Rattle.command_fields.specs.declared.choices.UpDn.{UpDn}
use Rattle.command_fields.specs.declared.choices.UpDn.TheVariants.{Up, Same, Down}
use Rattle.command_grammar.specs.declared.commands.Command.TheVariants.{Query, QueryAdjust, QueryRep}
use Rattle.pie_line.specs.Link.{LinkValue}
use Rattle.q_round.specs.declared.round.Next.{Next}
use Rattle.q_round.specs.declared.round.Next.TheVariants.{Send, Quiet, Limit}
use Rattle.q_round.specs.declared.frame.Outcome.{Outcome}
use Rattle.q_round.specs.declared.frame.Outcome.TheVariants.{Silence, Whole, Refused}
use Rattle.q_round.specs.declared.rule.Rule.{Rule}
use Rattle.q_round.specs.declared.rule.Rule.TheVariants.{Fixed, Float, Frame}
use Rattle.q_round.specs.SpecValue.{SpecValue}

-- Annex D: a slot without a reply lowers Qfp, one with a collision raises it, and one with a single reply leaves it.
-- What is no RN16 counts as a collision, and Qfp is kept from 0 to 15 (profile).
abbrev pub qfp_after : Rule → Outcome → ℕ → ℕ
qfp_after (Float c) Silence qfp = qfp - c
qfp_after (Float c) Whole qfp = qfp
qfp_after (Float c) Refused qfp = min (qfp + c) 15000
qfp_after Fixed outcome qfp = qfp
qfp_after Frame outcome qfp = qfp

-- Qfp in thousandths: at first Q, and then moved by each outcome, where the rule has one
abbrev pub qfp_of : SpecValue → List Outcome → ℕ
qfp_of spec [] = 1000 * spec.q
qfp_of spec (outcome ∷ before) = qfp_after spec.rule outcome (qfp_of spec before)

-- Annex D: what Q is to be, Qfp rounded to a whole number
abbrev pub q_nearest : ℕ → ℕ
q_nearest qfp = (qfp + 500) / 1000

-- nothing was heard in the slot
abbrev pub is_silent : Outcome → Bool
is_silent Silence = true
is_silent Whole = false
is_silent Refused = false

-- nothing was heard in any of these slots
abbrev pub all_silent : List Outcome → Bool
all_silent [] = true
all_silent (outcome ∷ before) = is_silent outcome && all_silent before

-- 1 where the slot counts as a collision: something was heard that isn't a whole RN16
abbrev pub one_if_refused : Outcome → ℕ
one_if_refused Silence = 0
one_if_refused Whole = 0
one_if_refused Refused = 1

-- how many slots of a frame count as collisions
abbrev pub refused_in : List Outcome → ℕ
refused_in [] = 0
refused_in (outcome ∷ before) = refused_in before + one_if_refused outcome

-- Whether the rule raises Q behind a slot, by the Q of the frame, Qfp, the number of slots that the frame has, and how many of them
-- count as collisions. 6.3.2.11.2.1: a whole frame has 2 ^ Q slots.
abbrev pub goes_up : Rule → (q qfp slots refused : ℕ) → Bool
goes_up Fixed q qfp slots refused = false
goes_up (Float c) q qfp slots refused = nat_lt q (q_nearest qfp)
goes_up Frame q qfp slots refused = slots == 2 ^ q && nat_lt (2 ^ q) (2 * refused) && nat_lt q 15

-- whether it lowers Q
abbrev pub goes_down : Rule → (q qfp slots refused : ℕ) → Bool
goes_down Fixed q qfp slots refused = false
goes_down (Float c) q qfp slots refused = nat_lt (q_nearest qfp) q
goes_down Frame q qfp slots refused = slots == 2 ^ q && nat_lt (4 * refused) (2 ^ q) && nat_lt 0 q

-- what comes next in a round: the Query, a QueryAdjust, a QueryRep, or one of the two ends
pub data Turn : Type 0 where
  query : Turn
  adjust : UpDn → Turn
  rep : Turn
  quiet : Turn
  limit : Turn

-- The table: the first line that applies after so many slots of the round, with the Q of the frame, the Qfp after its slots, and
-- the frame, which ends with the last slot.
abbrev pub turn_after : SpecValue → (sent q qfp : ℕ) → List Outcome → Turn
turn_after spec sent q qfp frame =
    if length frame == 2 ^ q && all_silent frame then quiet else
    if sent == spec.limit then limit else
    if goes_up spec.rule q qfp (length frame) (refused_in frame) then adjust Up else
    if goes_down spec.rule q qfp (length frame) (refused_in frame) then adjust Down else
    if length frame == 2 ^ q then adjust Same else rep

-- 6.3.2.11.2.2 QueryAdjust: it moves Q by one, or leaves it
abbrev pub q_moved_by : UpDn → ℕ → ℕ
q_moved_by Up q = q + 1
q_moved_by Same q = q
q_moved_by Down q = q - 1

-- the Q of what comes next, by what that is and by the Q of the frame
abbrev pub q_after : Turn → ℕ → ℕ
q_after (adjust updn) q = q_moved_by updn q
q_after query q = q
q_after rep q = q
q_after quiet q = q
q_after limit q = q

-- a QueryAdjust begins a frame
abbrev pub frame_after : Turn → List Outcome → List Outcome
frame_after (adjust updn) frame = []
frame_after query frame = frame
frame_after rep frame = frame
frame_after quiet frame = frame
frame_after limit frame = frame

-- where a round stands: what comes next, the Q of what comes next, and the outcomes since the last Query or QueryAdjust
pub record Course : Type 0 where
  pub turn : Turn
  pub q : ℕ
  pub frame : List Outcome

-- where a round stands whose next turn is this one, by the Q and the outcomes of the frame that the last slot is in
abbrev pub course_with : Turn → ℕ → List Outcome → Course
course_with turn q frame = record { turn = turn; q = q_after turn q; frame = frame_after turn frame }

-- where a round stands behind these outcomes, the latest first
abbrev pub course_of : SpecValue → List Outcome → Course
course_of spec [] = course_with query spec.q []
course_of spec (outcome ∷ before) =
    let course = course_of spec before in
    let frame = outcome ∷ course.frame in
    course_with (turn_after spec (length before + 1) course.q (qfp_of spec (outcome ∷ before)) frame) course.q frame

-- what comes next behind these outcomes
abbrev pub turn_of : SpecValue → List Outcome → Turn
turn_of spec outcomes = (course_of spec outcomes).turn

-- the Q of what comes next behind these outcomes
abbrev pub q_of : SpecValue → List Outcome → ℕ
q_of spec outcomes = (course_of spec outcomes).q

-- the outcomes since the last Query or QueryAdjust, the latest first
abbrev pub frame_of : SpecValue → List Outcome → List Outcome
frame_of spec outcomes = (course_of spec outcomes).frame

-- a turn as the command that is sent, with the fields of the round and of the link, or as the end of the round
abbrev pub next_of_turn : SpecValue → LinkValue → Turn → Next
next_of_turn spec link query = Send (Query link.dr link.code link.trext spec.sel spec.session spec.target spec.q)
next_of_turn spec link (adjust updn) = Send (QueryAdjust spec.session updn)
next_of_turn spec link rep = Send (QueryRep spec.session)
next_of_turn spec link quiet = Quiet
next_of_turn spec link limit = Limit

-- the next slot command of a round, or its end
abbrev pub next_command : SpecValue → LinkValue → List Outcome → Next
next_command spec link outcomes = next_of_turn spec link (turn_of spec outcomes)

-- the round ends with this turn
abbrev pub is_last_turn : Turn → Bool
is_last_turn query = false
is_last_turn (adjust updn) = false
is_last_turn rep = false
is_last_turn quiet = true
is_last_turn limit = true

-- no slot follows these outcomes
abbrev pub is_over : SpecValue → List Outcome → Bool
is_over spec outcomes = is_last_turn (turn_of spec outcomes)

-- no outcome stands behind the end of the round
abbrev pub AreOutcomes : SpecValue → List Outcome → Type 0
AreOutcomes spec [] = Unit {0}
AreOutcomes spec (outcome ∷ before) = (is_over spec before ≡ false) × AreOutcomes spec before

-- how many slot commands the round has given after these outcomes: its Query, and one after each outcome that didn't
-- end the round
abbrev pub slots_of : SpecValue → List Outcome → ℕ
slots_of spec [] = 1
slots_of spec (outcome ∷ before) = slots_of spec before + (if is_over spec (outcome ∷ before) then 0 else 1)

-- what comes next is one of the two ends
abbrev pub is_end : Next → Bool
is_end (Send command) = false
is_end Quiet = true
is_end Limit = true
