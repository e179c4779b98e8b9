-- What the end of playing a probe says of what was written.
use Rattle.std.specs.Prelude.{◌≡◌, ℕ, List, ◌++◌, Option, Result, Ok, Err}
use Rattle.air_io.specs.Flow.{Adds, FaultsRose}
use Rattle.report_lines.specs.declared.mode.PlayFault.{PlayFault}
use Rattle.report_lines.specs.declared.mode.PlayFault.TheVariants.{Write, OutOfMemory}
use Rattle.tag_machine.specs.TagValue.{TagValue}
use Rattle.bench_lines.specs.Stimuli.{Stimulus, StimulusEffect}
use Rattle.text_fields.specs.Lines.{text_with}
use Rattle.bench_lines.specs.ProbeAnswers.{HasEffect, TellsEffects, probe_lines_behind, outcome_of_effect}

-- the text that tells what comes of this, done to the tag, was written whole
pub record WritesText (tag : TagValue) (said : List Stimulus) (written written' : Option (List ℕ)) : Type 0 where
  pub text : List ℕ
  pub tells : TellsEffects tag said text
  pub added : Adds written written' text

-- a front of it was written
pub record WritesPart (tag : TagValue) (said : List Stimulus) (written written' : Option (List ℕ)) : Type 0 where
  pub front : List ℕ
  pub rest : List ℕ
  pub tells : TellsEffects tag said (front ++ rest)
  pub added : Adds written written' front

-- a front of a text was written
pub record AddsFrontOf (text : List ℕ) (written written' : Option (List ℕ)) : Type 0 where
  pub front : List ℕ
  pub rest : List ℕ
  pub cut : text ≡ front ++ rest
  pub added : Adds written written' front

-- playing a probe stops within this text, of which a front was written: a write failed, or there was no memory and no write failed
abbrev pub StopsIn : List ℕ → (written written' : Option (List ℕ)) → (faults faults' : ℕ) → PlayFault → Type 0
StopsIn text written written' faults faults' Write = FaultsRose faults faults' × AddsFrontOf text written written'
StopsIn text written written' faults faults' OutOfMemory = (faults' ≡ faults) × AddsFrontOf text written written'

-- what comes of what is done next stands behind what waits to be written, and the tag is this behind it
pub record TellsNext (number : ℕ) (tag : TagValue) (stimulus : Stimulus) (tag' : TagValue) (waiting waiting' : List ℕ) : Type 0 where
  pub effect : StimulusEffect
  pub has : HasEffect stimulus effect
  pub becomes : tag' ≡ (outcome_of_effect effect tag).tag
  pub told : waiting' ≡ waiting ++ text_with (probe_lines_behind number effect tag)

-- a front of what waits was written, and the rest waits on
pub record WritesFrontOf (waiting waiting' : List ℕ) (written written' : Option (List ℕ)) : Type 0 where
  pub front : List ℕ
  pub cut : waiting ≡ front ++ waiting'
  pub added : Adds written written' front

-- what an end says of what was written and is written, and of the count of the sink's faults before and after
abbrev pub HasPlayed : TagValue → List Stimulus → (written written' : Option (List ℕ)) → (faults faults' : ℕ) → Result (Unit {0}) PlayFault → Type 0
HasPlayed tag said written written' faults faults' (Ok done) = (faults' ≡ faults) × WritesText tag said written written'
HasPlayed tag said written written' faults faults' (Err Write) = FaultsRose faults faults' × WritesPart tag said written written'
HasPlayed tag said written written' faults faults' (Err OutOfMemory) = (faults' ≡ faults) × WritesPart tag said written written'
