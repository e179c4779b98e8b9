-- What is written of a run that is told to a text.
use Rattle.std.proofs.lemmas.List.{append-nil}
use Rattle.air_world.proofs.Names.{◌≡◌, ◌≤◌, inl, inr, ℕ, List, ◌++◌, Option, Some, None, Result, Ok, Err, sym, ◌∙◌, ap, subst, append_assoc, OnErr, OnOk, IsErrOf, OutOfMemory, exchanges_in}
use Rattle.air_world.proofs.Names.{tags_behind, history, AirValue, PlaysOrFails, ReportLine, IsAdded, spelling_behind, text_from, PlayFault, Write, ModeSpelling, report_text_of, run_lines, start_of}
use Rattle.air_world.proofs.Names.{Scenario}
use Rattle.air_io.specs.Flow.{Adds, FaultsRose}
use Rattle.report_lines.specs.ModeSpelling.{line_of_mode, mode_behind, new_spelling}
use Rattle.report_lines.proofs.SpelledLaws.{told-in-mode}
use Rattle.report_lines.specs.laws.TextReportLaws.{text_from-append}
use Rattle.report_lines.specs.declared.mode.Mode.{Mode}

-- without a fault the whole text is added
all-added : (text : List ℕ) (first written : Option (List ℕ)) (before after : ℕ) (fault : Option PlayFault) → fault ≡ None → IsAdded text first written before after fault → Adds first written text
all-added text first written before after fault none added =
    let whole : text ≡ added.front = added.split ∙ ap (λ (rest : List ℕ). added.front ++ rest) (added.whole none) ∙ append-nil added.front in
    subst (λ (bytes : List ℕ). Adds first written bytes) (sym whole) added.added

-- what a spelling makes of lines
abbrev pub told_text : ModeSpelling → List ReportLine → List ℕ
told_text spelling lines = text_from line_of_mode mode_behind spelling lines

-- where a spelling stands behind lines
abbrev behind_lines : ModeSpelling → List ReportLine → ModeSpelling
behind_lines spelling lines = spelling_behind mode_behind spelling lines

-- nothing was told yet of a scenario
abbrev pub spelling_for : Mode → Scenario → ModeSpelling
spelling_for mode scenario = new_spelling mode scenario.link

-- the report is what is told of the run
report-told : (mode : Mode) (scenario : Scenario) → told_text (spelling_for mode scenario) (run_lines (start_of scenario) scenario.steps) ≡ report_text_of mode scenario
report-told mode scenario = told-in-mode mode scenario.link (run_lines (start_of scenario) scenario.steps)

-- the text of all that is told begins with that of a front
front-text : (mode : Mode) (scenario : Scenario) (front rest : List ReportLine) → run_lines (start_of scenario) scenario.steps ≡ front ++ rest
    → report_text_of mode scenario ≡ told_text (spelling_for mode scenario) front ++ told_text (behind_lines (spelling_for mode scenario) front) rest
front-text mode scenario front rest split =
    sym (report-told mode scenario) ∙ ap (λ (lines : List ReportLine). told_text (spelling_for mode scenario) lines) split
    ∙ text_from-append line_of_mode mode_behind (spelling_for mode scenario) front rest

-- what a sink had written and how many faults it had met, before and after
pub record SinkChange : Type 0 where
  pub first : Option (List ℕ)
  pub written : Option (List ℕ)
  pub before : ℕ
  pub after : ℕ

-- a front of a text was added to it, and all of it where there was no fault
abbrev pub IsAddedTo : SinkChange → List ℕ → Option PlayFault → Type 0
IsAddedTo sink text fault = IsAdded text sink.first sink.written sink.before sink.after fault

-- how a run ended, as far as it was written
pub record IsWritten (r : Result (Unit {0}) PlayFault) (mode : Mode) (scenario : Scenario) (sink : SinkChange) (air : AirValue) : Type 0 where
  pub report : OnOk r (Adds sink.first sink.written (report_text_of mode scenario))
  pub tags : OnOk r (air.tags ≡ tags_behind (start_of scenario) (history scenario))
  pub exchanges : OnOk r (air.exchanges ≡ exchanges_in (history scenario))
  pub write : IsErrOf r Write → FaultsRose sink.before sink.after
  pub memory : IsErrOf r OutOfMemory → sink.after ≡ sink.before
  pub steady : OnOk r (sink.after ≡ sink.before)
  pub part : OnErr r ((front : List ℕ) × (rest : List ℕ) × (report_text_of mode scenario ≡ front ++ rest) × Adds sink.first sink.written front)
  pub count : sink.before ≤ sink.after

-- how a run ended is what it told, in the spelling of a mode
pub run-written : {A : Type 0} (hears : A → List ReportLine → A → Type 0) (failed : A → Option PlayFault) (old new : A)
    (r : Result (Unit {0}) PlayFault) (mode : Mode) (scenario : Scenario) (sink : SinkChange) (air : AirValue) → PlaysOrFails hears failed r scenario old new air
    → ((lines : List ReportLine) → hears old lines new → IsAddedTo sink (told_text (spelling_for mode scenario) lines) (failed new))
    → IsWritten r mode scenario sink air
run-written hears failed old new (Ok done) mode scenario sink air played adds =
    let added = adds (run_lines (start_of scenario) scenario.steps) played.told in
    record {
      report = subst (λ (text : List ℕ). Adds sink.first sink.written text) (report-told mode scenario)
          (all-added _ sink.first sink.written sink.before sink.after (failed new) played.faultless added);
      tags = played.tags;
      exchanges = played.exchanges;
      write = λ is. absurd (cc);
      memory = λ is. absurd (cc);
      steady = added.steady (λ write. let none : ◌≡◌ {A = Option PlayFault} None (Some Write) = sym played.faultless ∙ write in cc);
      part = tt;
      count = added.count;
    }
run-written hears failed old new (Err fault) mode scenario sink air cut adds =
    let added = adds cut.front cut.heard in
    let later : List ℕ = told_text (behind_lines (spelling_for mode scenario) cut.front) cut.rest in
    record {
      report = tt;
      tags = tt;
      exchanges = tt;
      write = λ is. elim cut.cause [
        | inl met ↦ added.rose (let same : fault ≡ Write = cc in met ∙ ap Some same)
        | inr short ↦ absurd (let same : fault ≡ Write = cc in let other = short.0 in cc)
      ];
      memory = λ is. added.steady (λ write. elim cut.cause [
        | inl met ↦ let same : ◌≡◌ {A = Option PlayFault} (Some fault) (Some Write) = sym met ∙ write in cc
        | inr short ↦ let none : ◌≡◌ {A = Option PlayFault} None (Some Write) = sym short.1 ∙ write in cc
      ]);
      steady = tt;
      part = (
        added.front,
        added.rest ++ later,
        front-text mode scenario cut.front cut.rest cut.split ∙ ap (λ (text : List ℕ). text ++ later) added.split ∙ append_assoc added.front added.rest later,
        added.added,
      );
      count = added.count;
    }
