-- What holds of all that a run has to tell, where a mode leaves out lines that not each report has.
use Rattle.runs.proofs.Names.{◌≡◌, inl, inr, Bool, true, false, not, ◌&&◌, List, [], ◌∷◌, filter, refl, is_of_exchanges, is_of_trace, is_plain, keeps, ReportLine, Mode, Trace, Exchanges, Vcd}
use Rattle.runs.proofs.Among.{Among}
use Rattle.runs.proofs.HeadlineLines.{PassesNoTrace, and-false}

-- what is kept was told
among-one : (keep : ReportLine → Bool) (item first : ReportLine) (others : List ReportLine) (b : Bool) → keep first ≡ b
    → (Among item (filter keep others) → Among item others) → Among item (filter keep (first ∷ others)) → Among item (first ∷ others)
among-one keep item first others true is later among = elim (rw is at among) [ inl here ↦ inl here | inr there ↦ inr (later there) ]
among-one keep item first others false is later among = inr (later (rw is at among))

pub among-kept : (keep : ReportLine → Bool) (item : ReportLine) (lines : List ReportLine) → Among item (filter keep lines) → Among item lines
among-kept keep item [] among = among
among-kept keep item (first ∷ others) among = among-one keep item first others (keep first) refl (among-kept keep item others) among

first-fails : (one other : Bool) → one ≡ false → (one && other) ≡ false
first-fails true other is = absurd (cc)
first-fails false other is = refl

-- what a mode leaves out, not each report has
left-out : (mode : Mode) (line : ReportLine) → keeps mode line ≡ false → is_plain line ≡ false
left-out Trace line is = and-false (not (is_of_trace line)) (not (is_of_exchanges line)) is
left-out Exchanges line is = first-fails (not (is_of_trace line)) (not (is_of_exchanges line)) is
left-out Vcd line is = absurd (cc)
left-out mode line is = is

filter-one : (test keep : ReportLine → Bool) (line : ReportLine) (lines : List ReportLine) (b : Bool) → keep line ≡ b → (b ≡ false → test line ≡ false)
    → filter test (filter keep lines) ≡ filter test lines → filter test (filter keep (line ∷ lines)) ≡ filter test (line ∷ lines)
filter-one test keep line lines true is fails same = rw (is, same) refl
filter-one test keep line lines false is fails same = rw (is, fails refl) same

-- the same lines pass among those that a mode keeps
pub kept-pass : (test : ReportLine → Bool) → PassesNoTrace test → (mode : Mode) (lines : List ReportLine) → filter test (filter (keeps mode) lines) ≡ filter test lines
kept-pass test none mode [] = refl
kept-pass test none mode (line ∷ lines) =
    filter-one test (keeps mode) line lines (keeps mode line) refl (λ out. none line (left-out mode line out)) (kept-pass test none mode lines)
