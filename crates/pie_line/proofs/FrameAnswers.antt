-- Each list of intervals has an answer.
use Rattle.std.proofs.Common.{ℕ, ◌⊎◌, Bool, List, [], ◌∷◌, ◌++◌, length, refl, sym, subst, inl, inr, append_assoc}
use Rattle.std.proofs.lemmas.List.{append-nil}
use Rattle.std.specs.Option.{option_to_list}
use Rattle.bit_strings.specs.Family.{IsBadAt, IsShortAt}
use Rattle.pie_line.specs.declared.frame.FrameKind.{FrameKind}
use Rattle.pie_line.specs.declared.frame.FrameKind.TheVariants.{Preamble, FrameSync}
use Rattle.pie_line.specs.declared.frame_state.FrameState.{FrameState}
use Rattle.pie_line.specs.declared.frame_state.FrameState.TheVariants.{Delimiter, TariHigh, TariLow, RtCalHigh, RtCalLow, FirstHigh, FirstLow, High, Low}
use Rattle.pie_line.specs.Pie.{HasSums, IsFrame, Frames}
use Rattle.pie_line.specs.FrameState.{IsSoundState, Completes, rtcal_of}
use Rattle.pie_line.specs.Edges.{LeadsToState}
use Rattle.pie_line.specs.FrameAnswer.{HasOneAnswer}
use Rattle.pie_line.proofs.Frames.{refusal-one}
use Rattle.pie_line.proofs.Completions.{no_symbols, sync}
use Rattle.pie_line.proofs.Decisions.{moves-or_stops}
use Rattle.bit_strings.specs.laws.Family.{bad-more, bad-last, bad-one, member-not_bad, short-not_bad}
use Rattle.pie_line.proofs.Leads.{leads-moves, leads-begins, leads-stops, leads-ends}

-- no header ends before its second pair
starts : (kind : FrameKind) (bits : List Bool) → HasSums kind bits [] → ⊥
starts (FrameSync t r) bits f = f
starts (Preamble t r c) bits f = f

starts-tari : (kind : FrameKind) (bits : List Bool) (a : ℕ) → HasSums kind bits (a ∷ []) → ⊥
starts-tari (FrameSync t r) bits a f = f
starts-tari (Preamble t r c) bits a f = f

-- at a place a frame ends, or each frame goes on
ends-or_goes_on : (place : FrameState) → IsSoundState place →
    ((kind : FrameKind) × Completes place kind [] []) ⊎ ((kind : FrameKind) (bits : List Bool) → ¬ Completes place kind bits [])
ends-or_goes_on Delimiter s = inr (λ kind bits c. c)
ends-or_goes_on TariHigh s = inr (λ kind bits c. starts kind bits c.1)
ends-or_goes_on (TariLow high) s = inr (λ kind bits c. c.0)
ends-or_goes_on (RtCalHigh t) s = inr (λ kind bits c. starts-tari kind bits t c.1)
ends-or_goes_on (RtCalLow t high) s = inr (λ kind bits c. c.0)
ends-or_goes_on (FirstHigh t r) s = inl (FrameSync t r, (tt, sync t r s.0 s.1))
ends-or_goes_on (FirstLow t r high) s = inr (λ kind bits c. c.0)
ends-or_goes_on (High kind) s = inl (kind, (refl, tt, no_symbols (rtcal_of kind)))
ends-or_goes_on (Low header high) s = inr (λ kind bits c. c.1)

-- one of the three
abbrev Answer : List ℕ → Type 0
Answer xs = Frames xs ⊎ (((place : ℕ) × IsBadAt Frames xs place) ⊎ ((count : ℕ) × IsShortAt Frames xs count))

ended : (place : FrameState) (bits : List Bool) (xs : List ℕ) → LeadsToState place bits xs → Answer xs
ended place bits xs l = elim (ends-or_goes_on place l.sound) [
  | inl e ↦ inl (e.0, bits, leads-ends place bits xs e.0 l e.1)
  | inr n ↦ inr (inr (
    length xs,
    record {
      whole = refl;
      begins = leads-begins place bits xs l;
      no_member = λ f. let a = l.only f.0 f.1 [] (subst (IsFrame f.0 f.1) (sym (append-nil xs)) f.2) in n f.0 a.0 a.2;
    },
  ))
]

goes_on : (place : FrameState) (bits : List Bool) (xs rest : List ℕ) → LeadsToState place bits xs → Answer (xs ++ rest)
goes_on place bits xs [] l = subst Answer (sym (append-nil xs)) (ended place bits xs l)
goes_on place bits xs (x ∷ rest) l = elim (moves-or_stops place x l.sound) [
  | inl m ↦ subst Answer (append_assoc xs (x ∷ []) rest)
      (goes_on m.0 (bits ++ option_to_list m.1) (xs ++ x ∷ []) rest (leads-moves place m.0 m.1 bits xs x l m.2))
  | inr s ↦ subst Answer (append_assoc xs (x ∷ []) rest) (inr (inl (
    length xs,
    bad-more Frames (xs ++ x ∷ []) rest (length xs) (bad-last Frames xs x (leads-begins place bits xs l) (leads-stops place bits xs x l s)),
  )))
]

pub answer : (xs : List ℕ) → Answer xs
answer xs = goes_on Delimiter [] [] xs record {
  sound = tt;
  only = λ kind all rest f. (all, refl, f);
  back = λ kind more rest c. c;
}

pub one-answer : (xs : List ℕ) → HasOneAnswer xs
one-answer xs = record {
  some = answer xs;
  frame_not_bad = λ place f. member-not_bad Frames xs place f;
  frame_not_short = λ count f short. short.no_member f;
  short_not_bad = λ count place short. short-not_bad Frames xs count place short;
  one_place = bad-one Frames xs;
  one_refusal = refusal-one xs;
}
