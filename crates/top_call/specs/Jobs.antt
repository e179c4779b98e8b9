-- Profile: what the words of each form do.
use Rattle.std.specs.Prelude.{◌≡◌, false}
use Rattle.top_call.specs.Job.{Job}
use Rattle.top_call.specs.StatusMeanings.{SinkChange, SourceChange, SpeaksOfNoInput, Tells}
use Rattle.top_call.specs.declared.forms.Form.{Form}
use Rattle.top_call.specs.declared.forms.Form.TheVariants.{Decode, Encode, Run, Upgrade, Portals, Names, Probe, Judge, Audit, Objects, Gen, Help, Version}
use Rattle.top_call.specs.declared.status.Status.{Status}
use Rattle.top_call.specs.declared.status.Status.TheVariants.{OutOfMemory}
use Rattle.top_call.specs.words.Audit.{audit_job}
use Rattle.top_call.specs.words.Decode.{decode_job}
use Rattle.top_call.specs.words.Encode.{encode_job}
use Rattle.top_call.specs.words.Run.{run_job}
use Rattle.top_call.specs.words.Upgrade.{upgrade_job}
use Rattle.top_call.specs.words.Portals.{portals_job}
use Rattle.top_call.specs.words.Names.{names_job}
use Rattle.top_call.specs.words.Probe.{probe_job}
use Rattle.top_call.specs.words.Judge.{judge_job}
use Rattle.top_call.specs.words.Objects.{objects_job}
use Rattle.top_call.specs.words.Generate.{gen_job}
use Rattle.top_call.specs.words.OwnTexts.{text_job}
use Rattle.top_call.specs.HelpAndVersion.{help_text, version_text}

-- what the words of a form do
abbrev pub job_of : Form → Job
job_of Decode = decode_job
job_of Encode = encode_job
job_of (Run mode) = run_job mode
job_of Upgrade = upgrade_job
job_of Portals = portals_job
job_of Names = names_job
job_of Probe = probe_job
job_of Judge = judge_job
job_of Audit = audit_job
job_of (Objects set) = objects_job set
job_of (Gen seed tags) = gen_job seed tags
job_of Help = text_job help_text
job_of Version = text_job version_text

-- How the words of a form are answered, where the last two say that the source and the sink are untouched.
pub record AnswersForm (form : Form) (source : SourceChange) (sink : SinkChange) (unread untouched : Type 0) (status : Status) : Type 0 where
  -- what the status says of the words' job
  pub tells : Tells (job_of form) source sink untouched status
  -- words that have no input read nothing, and no status comes that speaks of one
  pub reads_none : (job_of form).input ≡ false → unread × SpeaksOfNoInput status
  -- `names` takes memory for its input alone
  pub names_memory : form ≡ Names → status ≡ OutOfMemory → untouched
