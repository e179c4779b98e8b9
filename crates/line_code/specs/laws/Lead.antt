-- What one more level does to what the decoder has taken of the lead.
use Rattle.std.proofs.Common.{◌≡◌, ◌≢◌, ℕ, ◌+◌, Bool, true, List, [], ◌∷◌, ◌++◌, length, take, drop, Some, slice_get, sym, ap, ◌∙◌, arith, append_assoc, length-append}
use Rattle.std.proofs.lemmas.List.{length-take-le, take_all, take_at, take_more, take-append-drop}
use Rattle.std.proofs.lemmas.Option.{get_or_from_slice_get, same_Some}
use Rattle.bit_strings.specs.Family.{Begins, IsBadAt, IsShortAt}
use Rattle.line_code.specs.Table.{Table}
use Rattle.line_code.specs.Stream.{blocks, Streams}
use Rattle.line_code.specs.States.{SeekingValue, Seeks}
use Rattle.line_code.specs.laws.Splits.{front_of}

-- the levels with one more of the lead
pub seeks_more : (t : Table) (trext : Bool) (state : SeekingValue) (levels : List Bool) (level : Bool) → Seeks t trext state levels
    → slice_get (t.lead trext) state.taken ≡ Some level → levels ++ level ∷ [] ≡ take (state.taken + 1) (t.lead trext)
seeks_more t trext state levels level s at =
    ap (λ ls. ls ++ level ∷ []) s.levels_are ∙ ap (λ x. take state.taken (t.lead trext) ++ x ∷ []) (sym (get_or_from_slice_get (t.lead trext) state.taken level true at))
    ∙ sym (take_more (t.lead trext) state.taken true s.inside)

pub seeks_size : (t : Table) (trext : Bool) (state : SeekingValue) (levels : List Bool) → Seeks t trext state levels → state.taken ≡ length levels
seeks_size t trext state levels s =
    let inside = s.inside in
    sym (ap length s.levels_are ∙ length-take-le state.taken (t.lead trext) (omega arith))

-- the levels begin the stream of no bits
pub seeks_begins : (t : Table) (trext : Bool) (state : SeekingValue) (levels : List Bool) → Seeks t trext state levels → Begins (Streams t trext) levels
seeks_begins t trext state levels s =
    let lead = t.lead trext in
    let dummy = blocks t t.start (true ∷ []) in (
      drop state.taken lead ++ dummy,
      ([], sym (append_assoc levels (drop state.taken lead) dummy) ∙ ap (λ ls. ls ++ dummy) (ap (λ ls. ls ++ drop state.taken lead) s.levels_are ∙ take-append-drop state.taken lead)),
    )

-- the refusal of another level than the lead's
pub seeks_bad : (t : Table) (trext : Bool) (state : SeekingValue) (levels : List Bool) (level : Bool) → Seeks t trext state levels
    → slice_get (t.lead trext) state.taken ≢ Some level → (place : ℕ) → place ≡ length levels → IsBadAt (Streams t trext) (levels ++ level ∷ []) place
seeks_bad t trext state levels level s other place is =
    let size = length-append levels (level ∷ []) in
    record {
      inside = omega arith;
      begins = rw (take_at levels (level ∷ []) place (sym is)) (seeks_begins t trext state levels s);
      stops = rw (take_all (place + 1) (levels ++ level ∷ []) (omega arith)) (λ (more, (bits, e)).
          let count = seeks_size t trext state levels s in
          let inside = s.inside in
          let front = front_of levels (t.lead trext) more (blocks t t.start (bits ++ true ∷ [])) level (omega arith) (sym (append_assoc levels (level ∷ []) more) ∙ e) in
          other (ap (slice_get (t.lead trext)) count ∙ front.1));
    }

-- where the levels end inside the lead, they are refused as too short for a stream
pub seeks_short : (t : Table) (trext : Bool) (state : SeekingValue) (levels : List Bool) → Seeks t trext state levels → IsShortAt (Streams t trext) levels state.taken
seeks_short t trext state levels s =
    record {
      whole = seeks_size t trext state levels s;
      begins = seeks_begins t trext state levels s;
      no_member = λ (bits, e).
          let count = seeks_size t trext state levels s in
          let inside = s.inside in
          let size = ap length e ∙ length-append (t.lead trext) (blocks t t.start (bits ++ true ∷ [])) in
          omega arith;
    }

-- the last level of the lead
pub lead_all : (t : Table) (trext : Bool) (state : SeekingValue) (levels : List Bool) (level : Bool) → Seeks t trext state levels
    → slice_get (t.lead trext) state.taken ≡ Some level → state.taken + 1 ≡ length (t.lead trext) → levels ++ level ∷ [] ≡ t.lead trext
lead_all t trext state levels level s at last = seeks_more t trext state levels level s at ∙ take_all (state.taken + 1) (t.lead trext) (omega arith)

-- the level that the lead has next, by the TRext of the state
pub lead_level : (t : Table) (trext : Bool) (state : SeekingValue) (levels : List Bool) (read level : Bool) → Seeks t trext state levels
    → slice_get (t.lead state.trext) state.taken ≡ Some read → read ≡ level → slice_get (t.lead trext) state.taken ≡ Some level
lead_level t trext state levels read level s at same = sym (ap (λ x. slice_get (t.lead x) state.taken) s.trext_is) ∙ at ∙ ap Some same

pub lead_other : (t : Table) (trext : Bool) (state : SeekingValue) (levels : List Bool) (read level : Bool) → Seeks t trext state levels
    → slice_get (t.lead state.trext) state.taken ≡ Some read → read ≢ level → slice_get (t.lead trext) state.taken ≢ Some level
lead_other t trext state levels read level s at other e =
    other (same_Some read level (sym at ∙ ap (λ x. slice_get (t.lead x) state.taken) s.trext_is ∙ e))

-- the lead by the TRext of the state
pub lead_size : (t : Table) (trext : Bool) (state : SeekingValue) (levels : List Bool) → Seeks t trext state levels → length (t.lead state.trext) ≡ length (t.lead trext)
lead_size t trext state levels s = ap (λ x. length (t.lead x)) s.trext_is
