-- Profile: how frames in pulse-interval encoding, and refusals of intervals that are none, are written. Durations are in
-- nanoseconds, and places and counts in intervals.
use Rattle.std.specs.Prelude.{ℕ, Bool, List, [], ◌∷◌, codes}
use Rattle.std.specs.Fmt.{decimal}
use Rattle.text_fields.specs.Binary.{binary}
use Rattle.text_fields.specs.Lines.{line_with}
use Rattle.pie_line.specs.declared.frame.FrameKind.{FrameKind}
use Rattle.pie_line.specs.declared.frame.FrameKind.TheVariants.{Preamble, FrameSync}
use Rattle.pie_line.specs.declared.frame.PieRefusal.{PieRefusal}
use Rattle.pie_line.specs.declared.frame.PieRefusal.TheVariants.{Delimiter, Tari, RtCal, TrCal, Symbol, Unfinished}

-- a frame: its header with the durations that this sets, and its bits
abbrev pub frame_line : FrameKind → List Bool → List ℕ
frame_line (FrameSync tari rtcal) bits =
    line_with (codes "sync" ∷ decimal tari ∷ decimal rtcal ∷ binary bits ∷ [])
frame_line (Preamble tari rtcal trcal) bits =
    line_with (codes "preamble" ∷ decimal tari ∷ decimal rtcal ∷ decimal trcal ∷ binary bits ∷ [])

-- why intervals are no frame
abbrev pub pie_refusal_line : PieRefusal → List ℕ
pie_refusal_line Delimiter = line_with (codes "refused" ∷ codes "delimiter" ∷ [])
pie_refusal_line Tari = line_with (codes "refused" ∷ codes "tari" ∷ [])
pie_refusal_line RtCal = line_with (codes "refused" ∷ codes "rtcal" ∷ [])
pie_refusal_line TrCal = line_with (codes "refused" ∷ codes "trcal" ∷ [])
pie_refusal_line (Symbol place) = line_with (codes "refused" ∷ codes "symbol" ∷ decimal place ∷ [])
pie_refusal_line (Unfinished count) = line_with (codes "unfinished" ∷ decimal count ∷ [])
