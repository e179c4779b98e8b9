-- The text of a dump, piece by piece.
use Rattle.std.proofs.Common.{◌≡◌, ◌≢◌, ℕ, Bool, true, false, List, [], ◌∷◌, ◌++◌, refl, sym, ap, ◌∙◌, append_assoc}
use Rattle.std.specs.Prelude.{◌↔◌, not, IsTrue}
use Rattle.std.proofs.lemmas.List.{append-nil}
use Rattle.std.proofs.lemmas.Grind.{flat_map-append}
use Rattle.text_fields.specs.Lines.{line_feed, text_with}
use Rattle.pie_line.specs.Link.{LinkValue}
use Rattle.wave_dump.specs.Exchanged.{Exchanged}
use Rattle.wave_dump.specs.Waves.{DumpValue, Signals, answer_begin, answer_moments, change_lines, exchange_text, frame_end, frame_moments, later, moments_text, sent_signals, text_at, time_line}

-- the text of lines, and of lines behind them
pub text_with-append : (lines more : List (List ℕ)) → text_with (lines ++ more) ≡ text_with lines ++ text_with more
text_with-append lines more = flat_map-append (λ (line : List ℕ). line ++ line_feed ∷ []) lines more

-- six lists of lines, written one after another
pub six_lists : (start t1 t2 t3 t4 t5 : List ℕ) (a b c d e f : List (List ℕ)) → t1 ≡ start ++ text_with a → t2 ≡ t1 ++ text_with b → t3 ≡ t2 ++ text_with c
    → t4 ≡ t3 ++ text_with d → t5 ≡ t4 ++ text_with e → t5 ++ text_with f ≡ start ++ text_with (a ++ b ++ c ++ d ++ e ++ f)
six_lists start t1 t2 t3 t4 t5 a b c d e f e1 e2 e3 e4 e5 = rw (e5, e4, e3, e2, e1) (simp (text_with-append, append_assoc))

-- where something changes the text is the time and the changes
pub at-change : (time : ℕ) (lines : List (List ℕ)) → lines ≢ [] → text_at time lines ≡ text_with (time_line time ∷ []) ++ text_with lines
at-change time [] some = absurd (some refl)
at-change time (line ∷ lines) some = text_with-append (time_line time ∷ []) (line ∷ lines)

-- a test of whether something changes
pub changes : (same : Bool) (lines : List (List ℕ)) → IsTrue same ↔ (lines ≡ []) → same ≡ false → lines ≢ []
changes true lines is other = absurd (cc)
changes false lines is other = λ none. let no : false ≡ true = is.1 none in absurd (cc)

-- moments behind a frame
pub moments_text-frame : (old sent : Signals) (time : ℕ) (high : Bool) (intervals : List ℕ) (more : List (ℕ × Signals))
    → moments_text old (frame_moments sent time high intervals ++ more) ≡ moments_text old (frame_moments sent time high intervals) ++ moments_text sent more
moments_text-frame old sent time high [] more =
    ap (λ (text : List ℕ). text ++ moments_text sent more) (sym (append-nil (text_at time (change_lines old sent))))
moments_text-frame old sent time high (interval ∷ intervals) more =
    let now : Signals = record sent { reader = high } in
    ap (λ (text : List ℕ). text_at time (change_lines old now) ++ text) (moments_text-frame now sent (later time interval) (not high) intervals more)
    ∙ sym (append_assoc (text_at time (change_lines old now)) (moments_text now (frame_moments sent (later time interval) (not high) intervals)) (moments_text sent more))

-- an exchange is a frame and what comes behind it
pub exchange-drawn : (link : LinkValue) (dump : DumpValue) (exchanged : Exchanged) (start middle last : List ℕ)
    → middle ≡ start ++ moments_text dump.signals (frame_moments (sent_signals exchanged) dump.begin false exchanged.intervals)
    → last ≡ middle ++ moments_text (sent_signals exchanged) (answer_moments link exchanged (answer_begin link (frame_end dump.begin exchanged.intervals)) exchanged.levels)
    → last ≡ start ++ exchange_text link dump exchanged
exchange-drawn link dump exchanged start middle last frame answer =
    let sent : Signals = sent_signals exchanged in
    let moments : List (ℕ × Signals) = answer_moments link exchanged (answer_begin link (frame_end dump.begin exchanged.intervals)) exchanged.levels in
    answer ∙ ap (λ (text : List ℕ). text ++ moments_text sent moments) frame
    ∙ append_assoc start (moments_text dump.signals (frame_moments sent dump.begin false exchanged.intervals)) (moments_text sent moments)
    ∙ ap (λ (text : List ℕ). start ++ text) (sym (moments_text-frame dump.signals sent dump.begin false exchanged.intervals moments))
