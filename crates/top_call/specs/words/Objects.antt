-- Profile: what a word with `json` behind it writes: for each line that the word itself writes its object.
use Rattle.std.specs.Prelude.{ℕ, List}
use Rattle.line_objects.specs.Objects.{AreObjectsOf}
use Rattle.line_objects.specs.declared.line_members.LineSet.{LineSet}
use Rattle.line_objects.specs.declared.line_members.LineSet.TheVariants as sets
use Rattle.report_lines.specs.declared.mode.Mode.TheVariants.{Exchanges}
use Rattle.top_call.specs.Job.{Job}
use Rattle.top_call.specs.words.Audit.{audit_job}
use Rattle.top_call.specs.words.Decode.{decode_job}
use Rattle.top_call.specs.words.Judge.{judge_job}
use Rattle.top_call.specs.words.Probe.{probe_job}
use Rattle.top_call.specs.words.Run.{run_job}

-- the word whose lines these are
abbrev pub plain_job : LineSet → Job
plain_job sets.Decode = decode_job
plain_job sets.Probe = probe_job
plain_job sets.Audit = audit_job
plain_job sets.Judge = judge_job
plain_job sets.Exchanges = run_job Exchanges

-- the text is the objects of the lines of a text that T names
pub record ObjectsOfSome (set : LineSet) (T : List ℕ → Type 0) (text : List ℕ) : Type 0 where
  pub plain : List ℕ
  pub named : T plain
  pub objects : AreObjectsOf set plain text

-- What is written is the objects of what the word itself writes; what is refused, and its fault line, are those of the word; and
-- what is promised is what the word promises of the lines that it writes, of which these are the objects.
abbrev pub objects_of_job : LineSet → Job → Job
objects_of_job set job = record {
  input = job.input;
  allows = job.allows;
  writes = λ bytes text. ObjectsOfSome set (job.writes bytes) text;
  refuses = job.refuses;
  promises = λ bytes text. ObjectsOfSome set (λ plain. job.writes bytes plain × job.promises bytes plain) text;
}

-- the lines of a word as objects
abbrev pub objects_job : LineSet → Job
objects_job set = objects_of_job set (plain_job set)
