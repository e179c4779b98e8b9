-- The texts of `probe`, by the laws of probes: what holds of them and of fault lines, and how playing one ends.
use Rattle.std.proofs.Common.{◌≡◌, ℕ, List, Option, Result, Ok, Err, sym, subst, inl, inr}
use Rattle.scenario_lines.specs.declared.tag.TagSpec.{TagSpec}
use Rattle.report_lines.specs.declared.mode.PlayFault.{PlayFault}
use Rattle.report_lines.specs.declared.mode.PlayFault.TheVariants as plays
use Rattle.tag_machine.specs.TagValue.{TagValue}
use Rattle.checked_lines.specs.declared.fault.FaultReason.{FaultReason}
use Rattle.bench_lines.specs.Stimuli.{Stimulus}
use Rattle.bench_lines.specs.ProbeAnswers.{TellsEffects, probed_tag}
use Rattle.bench_lines.specs.Played.{HasPlayed, WritesPart}
use Rattle.bench_lines.specs.ProbeText.{IsFirstProbeFault, IsProbe, IsProbeText}
use Rattle.top_call.specs.Ending.{end_of_play}
use Rattle.top_call.specs.Job.{Defines}
use Rattle.top_call.specs.StatusMeanings.{AddsFront, EndsSo, SinkChange}
use Rattle.top_call.specs.declared.ending.Wrote.{Wrote}
use Rattle.top_call.specs.declared.ending.Wrote.TheVariants.{Text}
use Rattle.top_call.specs.declared.ending.WriteEnd.{WriteEnd}
use Rattle.top_call.specs.words.Probe.{RefusesProbe, TellsProbe, probe_job}

-- what the laws of probes say: bytes are the text of one probe,
abbrev pub AreToldApart : Type 0
AreToldApart = (bytes : List ℕ) (tag other_tag : TagSpec) (said other_said : List Stimulus) → IsProbe bytes tag said → IsProbe bytes other_tag other_said
    → (tag ≡ other_tag) × (said ≡ other_said)

-- of which one text tells,
abbrev pub HasOneText : Type 0
HasOneText = (tag : TagValue) (said : List Stimulus) (one other : List ℕ) → TellsEffects tag said one → TellsEffects tag said other → one ≡ other

-- and which has no fault
abbrev pub AreNotFaulty : Type 0
AreNotFaulty = (bytes : List ℕ) (tag : TagSpec) (said : List Stimulus) (number : ℕ) (fault : FaultReason) → IsProbe bytes tag said → IsFirstProbeFault bytes number fault → ⊥

pub same_text : AreToldApart → HasOneText → (bytes one other : List ℕ) → TellsProbe bytes one → TellsProbe bytes other → one ≡ other
same_text told once bytes one other left right =
    let same = told bytes left.tag right.tag left.said right.said left.is right.is in
    once (probed_tag right.tag) right.said one other
    (subst (λ (said : List Stimulus). TellsEffects (probed_tag right.tag) said one) same.1 (subst (λ (tag : TagSpec). TellsEffects (probed_tag tag) left.said one) same.0 left.tells))
    right.tells

pub text_not_refused : AreNotFaulty → (bytes text : List ℕ) → IsProbeText bytes → RefusesProbe bytes text → ⊥
text_not_refused not_faulty bytes text allowed refused =
    not_faulty bytes allowed.tag allowed.said refused.number refused.reason allowed.is refused.first

-- what is there of a text is a front of the defined one
front_of_probe : (bytes : List ℕ) (tag : TagSpec) (said : List Stimulus) (written written' : Option (List ℕ)) → IsProbe bytes tag said
    → WritesPart (probed_tag tag) said written written' → AddsFront (Defines probe_job bytes) written written'
front_of_probe bytes tag said written written' is part = record {
  front = part.front;
  rest = part.rest;
  named = inl (record { tag = tag; said = said; is = is; tells = part.tells });
  added = part.added;
}

-- the writing ended where playing was cut off
pub play_failed : (bytes : List ℕ) (tag : TagSpec) (said : List Stimulus) (sink : SinkChange) (fault : PlayFault) (end : Result Wrote WriteEnd)
    → end ≡ Err (end_of_play fault) → IsProbe bytes tag said → HasPlayed (probed_tag tag) said sink.written sink.written' sink.writes sink.writes' (Err fault)
    → EndsSo probe_job bytes sink end
play_failed bytes tag said sink plays.Write end ends is played =
    subst (EndsSo probe_job bytes sink) (sym ends) (played.0, front_of_probe bytes tag said sink.written sink.written' is played.1)
play_failed bytes tag said sink plays.OutOfMemory end ends is played =
    subst (EndsSo probe_job bytes sink) (sym ends) (played.0, inr (front_of_probe bytes tag said sink.written sink.written' is played.1))

-- ... and where it wasn't
pub played_whole : (bytes : List ℕ) (tag : TagSpec) (said : List Stimulus) (sink : SinkChange) (done : Unit {0})
    → IsProbe bytes tag said → HasPlayed (probed_tag tag) said sink.written sink.written' sink.writes sink.writes' (Ok done) → EndsSo probe_job bytes sink (Ok Text)
played_whole bytes tag said sink done is played =
    (played.0, record { text = played.1.text; named = record { tag = tag; said = said; is = is; tells = played.1.tells }; added = played.1.added })
