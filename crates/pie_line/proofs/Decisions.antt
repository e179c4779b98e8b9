-- At each place an interval either moves a decoder on or stops every frame.
use Rattle.std.proofs.Common.{ℕ, ◌+◌, ◌*◌, ◌≤◌, ◌⊎◌, Bool, Option, Some, None, List, [], ◌∷◌, refl, inl, inr, arith}
use Rattle.std.proofs.lemmas.Bool.{cases_lt}
use Rattle.std.proofs.lemmas.List.Elements.{All-head}
use Rattle.pie_line.specs.declared.frame.FrameKind.{FrameKind}
use Rattle.pie_line.specs.declared.frame.FrameKind.TheVariants.{Preamble, FrameSync}
use Rattle.pie_line.specs.declared.frame_state.FrameState.{FrameState}
use Rattle.pie_line.specs.declared.frame_state.FrameState.TheVariants.{Delimiter, TariHigh, TariLow, RtCalHigh, RtCalLow, FirstHigh, FirstLow, High, Low}
use Rattle.pie_line.specs.Link.{IsTari, IsRtCal, IsTrCal}
use Rattle.pie_line.specs.Pie.{IsDelimiter, pair_sums, bit_of_symbol, HasSums, AreSymbols}
use Rattle.pie_line.specs.FrameState.{IsSoundState, IsHigh, rtcal_of, Completes, Moves, Stops}
use Rattle.pie_line.proofs.Symbols.{symbol-moves, first-moves, preamble-moves}

-- a fact holds or it doesn't
abbrev Decided : Type 0 → Type 0
Decided A = A ⊎ (¬ A)

le-decided : (m n : ℕ) → Decided (m ≤ n)
le-decided m n = elim (cases_lt n m) [ inl lt ↦ inr (λ le. omega arith) | inr le ↦ inl le ]

both-decided : {A B : Type 0} → Decided A → Decided B → Decided (A × B)
both-decided (inl a) (inl b) = inl (a, b)
both-decided (inl a) (inr n) = inr (λ p. n p.1)
both-decided (inr n) _ = inr (λ p. n p.0)

either-decided : {A B : Type 0} → Decided A → Decided B → Decided (A ⊎ B)
either-decided (inl a) _ = inl (inl a)
either-decided (inr n) (inl b) = inl (inr b)
either-decided (inr n) (inr m) = inr (λ e. elim e [ inl a ↦ n a | inr b ↦ m b ])

high-decided : (high most : ℕ) → Decided (IsHigh high most)
high-decided high most = elim (both-decided (le-decided 1 high) (le-decided (high + 1) most)) [
  | inl p ↦ inl record { lasts = p.0; room = omega (arith, p) }
  | inr n ↦ inr (λ h. n (h.lasts, omega (arith, h.room)))
]

-- what the sums of a frame keep, pair by pair
tari-kept : (kind : FrameKind) (bits : List Bool) (t : ℕ) (sums : List ℕ) → HasSums kind bits (t ∷ sums) → IsTari t
tari-kept (FrameSync a b) bits t [] f = absurd f
tari-kept (FrameSync a b) bits t (r ∷ sums) f = f.tari_range
tari-kept (Preamble a b d) bits t [] f = absurd f
tari-kept (Preamble a b d) bits t (r ∷ []) f = absurd f
tari-kept (Preamble a b d) bits t (r ∷ c ∷ sums) f = f.tari_range

rtcal-kept : (kind : FrameKind) (bits : List Bool) (t r : ℕ) (sums : List ℕ) → HasSums kind bits (t ∷ r ∷ sums) → IsRtCal t r
rtcal-kept (FrameSync a b) bits t r sums f = f.rtcal_range
rtcal-kept (Preamble a b d) bits t r [] f = absurd f
rtcal-kept (Preamble a b d) bits t r (c ∷ sums) f = f.rtcal_range

first-kept : (kind : FrameKind) (bits : List Bool) (t r c : ℕ) (sums : List ℕ) → HasSums kind bits (t ∷ r ∷ c ∷ sums) → (c ≤ r) ⊎ IsTrCal r c
first-kept (FrameSync a b) bits t r c sums f = inl f.no_trcal
first-kept (Preamble a b d) bits t r c sums f = inr f.trcal_range

symbol-kept : (r : ℕ) (bits : List Bool) (sum : ℕ) (sums : List ℕ) → AreSymbols r bits (sum ∷ sums) → sum ≤ 4 * r
symbol-kept r bits sum sums s = All-head (λ x. x ≤ 4 * r) sum sums s.within

-- a high that is read leaves its place at its low, and nothing else changes
waits : (place next : FrameState) (x : ℕ) → IsSoundState next → ((kind : FrameKind) (bits : List Bool) (rest : List ℕ) → Completes place kind bits (x ∷ rest) → Completes next kind bits rest) →
    ((kind : FrameKind) (bits : List Bool) (rest : List ℕ) → Completes next kind bits rest → Completes place kind bits (x ∷ rest)) → Moves place x next None
waits place next x s only back = record { sound = s; only = λ kind bits rest c. (bits, refl, only kind bits rest c); back = back }

-- what each place asks of the next interval
abbrev Asks : FrameState → ℕ → Type 0
Asks Delimiter x = IsDelimiter x
Asks TariHigh x = IsHigh x 25000
Asks (TariLow high) x = (1 ≤ x) × IsTari (high + x)
Asks (RtCalHigh t) x = IsHigh x (3 * t)
Asks (RtCalLow t high) x = (1 ≤ x) × IsRtCal t (high + x)
Asks (FirstHigh t r) x = IsHigh x (3 * r)
Asks (FirstLow t r high) x = (1 ≤ x) × ((high + x ≤ r) ⊎ IsTrCal r (high + x))
Asks (High kind) x = IsHigh x (4 * rtcal_of kind)
Asks (Low kind high) x = (1 ≤ x) × (high + x ≤ 4 * rtcal_of kind)

asks-decided : (place : FrameState) (x : ℕ) → Decided (Asks place x)
asks-decided Delimiter x = both-decided (le-decided 11875 x) (le-decided x 13125)
asks-decided TariHigh x = high-decided x 25000
asks-decided (TariLow high) x = both-decided (le-decided 1 x) (both-decided (le-decided 6250 (high + x)) (le-decided (high + x) 25000))
asks-decided (RtCalHigh t) x = high-decided x (3 * t)
asks-decided (RtCalLow t high) x = both-decided (le-decided 1 x) (both-decided (le-decided (5 * t) (2 * (high + x))) (le-decided (high + x) (3 * t)))
asks-decided (FirstHigh t r) x = high-decided x (3 * r)
asks-decided (FirstLow t r high) x = both-decided (le-decided 1 x)
    (either-decided (le-decided (high + x) r) (both-decided (le-decided (11 * r) (10 * (high + x))) (le-decided (high + x) (3 * r))))
asks-decided (High kind) x = high-decided x (4 * rtcal_of kind)
asks-decided (Low kind high) x = both-decided (le-decided 1 x) (le-decided (high + x) (4 * rtcal_of kind))

-- an interval that is asked for moves the decoder on
moves-asked : (place : FrameState) (x : ℕ) → IsSoundState place → Asks place x → (next : FrameState) × (bit : Option Bool) × Moves place x next bit
moves-asked Delimiter x s a = (TariHigh, None, waits Delimiter TariHigh x tt (λ kind bits rest c. (c.1, c.2)) (λ kind bits rest c. (a, c.0, c.1)))
moves-asked TariHigh x s a = (TariLow x, None, waits TariHigh (TariLow x) x a (λ kind bits rest c. c) (λ kind bits rest c. c))
moves-asked (TariLow high) x s a =
    (RtCalHigh (high + x), None, waits (TariLow high) (RtCalHigh (high + x)) x a.1 (λ kind bits rest c. (c.0.2, c.1)) (λ kind bits rest c. ((s.lasts, a.0, c.0), c.1)))
moves-asked (RtCalHigh t) x s a = (RtCalLow t x, None, waits (RtCalHigh t) (RtCalLow t x) x (s, a) (λ kind bits rest c. c) (λ kind bits rest c. c))
moves-asked (RtCalLow t high) x s a =
    (FirstHigh t (high + x), None, waits (RtCalLow t high) (FirstHigh t (high + x)) x (s.0, a.1) (λ kind bits rest c. (c.0.2, c.1)) (λ kind bits rest c. ((s.1.lasts, a.0, c.0), c.1)))
moves-asked (FirstHigh t r) x s a = (FirstLow t r x, None, waits (FirstHigh t r) (FirstLow t r x) x (s.0, s.1, a) (λ kind bits rest c. c) (λ kind bits rest c. c))
moves-asked (FirstLow t r high) x s (lasts, inl le) =
    (High (FrameSync t r), Some (bit_of_symbol r (high + x)), first-moves t r high x s.0 s.1 s.2.lasts lasts le)
moves-asked (FirstLow t r high) x s (lasts, inr range) =
    (High (Preamble t r (high + x)), None, preamble-moves t r high x s.0 s.1 s.2.lasts lasts range)
moves-asked (High kind) x s a = (Low kind x, None, waits (High kind) (Low kind x) x (s, a) (λ k bits rest c. c) (λ k bits rest c. c))
moves-asked (Low kind high) x s a = (High kind, Some (bit_of_symbol (rtcal_of kind) (high + x)), symbol-moves kind high x s.0 s.1.lasts a.0 a.1)

-- every frame that goes on has an interval there that is asked for
asked : (place : FrameState) (x : ℕ) (kind : FrameKind) (bits : List Bool) (rest : List ℕ) → Completes place kind bits (x ∷ rest) → Asks place x
asked Delimiter x kind bits rest c = c.0
asked TariHigh x kind bits [] c = absurd c.0
asked TariHigh x kind bits (y ∷ rest) c =
    let t = tari-kept kind bits (x + y) (pair_sums rest) c.1 in
    record { lasts = c.0.0; room = omega (arith, c.0.1, t) }
asked (TariLow high) x kind bits rest c = (c.0.1, tari-kept kind bits (high + x) (pair_sums rest) c.1)
asked (RtCalHigh t) x kind bits [] c = absurd c.0
asked (RtCalHigh t) x kind bits (y ∷ rest) c =
    let r = rtcal-kept kind bits t (x + y) (pair_sums rest) c.1 in
    record { lasts = c.0.0; room = omega (arith, c.0.1, r) }
asked (RtCalLow t high) x kind bits rest c = (c.0.1, rtcal-kept kind bits t (high + x) (pair_sums rest) c.1)
asked (FirstHigh t r) x kind bits [] c = absurd c.0
asked (FirstHigh t r) x kind bits (y ∷ rest) c =
    record {
      lasts = c.0.0;
      room = elim (first-kept kind bits t r (x + y) (pair_sums rest) c.1) [
        | inl le ↦ omega (arith, c.0.0, c.0.1, le)
        | inr range ↦ omega (arith, c.0.1, range)
      ];
    }
asked (FirstLow t r high) x kind bits rest c = (c.0.1, first-kept kind bits t r (high + x) (pair_sums rest) c.1)
asked (High header) x kind bits [] c = absurd c.1
asked (High header) x kind bits (y ∷ rest) c =
    let s = symbol-kept (rtcal_of header) bits (x + y) (pair_sums rest) c.2 in
    record { lasts = c.1.0; room = omega (arith, c.1.1, s) }
asked (Low header high) x kind bits rest c = (c.1.1, symbol-kept (rtcal_of header) bits (high + x) (pair_sums rest) c.2)

pub moves-or_stops : (place : FrameState) (x : ℕ) → IsSoundState place → ((next : FrameState) × (bit : Option Bool) × Moves place x next bit) ⊎ Stops place x
moves-or_stops place x s = elim (asks-decided place x) [
  | inl a ↦ inl (moves-asked place x s a)
  | inr n ↦ inr record { never = λ kind bits rest c. n (asked place x kind bits rest c) }
]
