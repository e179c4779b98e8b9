-- A word with `json` behind it, by the word itself: its law, and how it ends.
use Rattle.std.proofs.Common.{◌≡◌, ◌≢◌, ℕ, Bool, true, false, List, [], ◌++◌, Option, Some, Result, Ok, Err, refl, sym, ap, ◌∙◌, subst, inl, inr}
use Rattle.air_io.specs.Flow.{Adds}
use Rattle.line_objects.specs.Objects.{AreObjectsOf}
use Rattle.line_objects.specs.declared.line_members.LineSet.{LineSet}
use Rattle.line_objects.specs.declared.line_members.LineSet.TheVariants as sets
use Rattle.report_lines.specs.declared.mode.Mode.{Mode}
use Rattle.report_lines.specs.declared.mode.Mode.TheVariants.{Exchanges}
use Rattle.top_call.specs.Job.{Job, Defines, IsLawful}
use Rattle.top_call.specs.StatusMeanings.{EndsSo, NothingFailed, ReadsWithin, SinkChange, SourceChange, TakesInput, Tells, WritesWhole, status_of}
use Rattle.top_call.specs.words.Audit.{audit_job}
use Rattle.top_call.specs.words.Decode.{decode_job}
use Rattle.top_call.specs.words.Judge.{judge_job}
use Rattle.top_call.specs.words.Objects.{objects_job, objects_of_job, plain_job}
use Rattle.top_call.specs.words.Probe.{probe_job}
use Rattle.top_call.specs.words.Run.{run_job}
use Rattle.top_call.specs.declared.ending.Wrote.{Wrote}
use Rattle.top_call.specs.declared.ending.Wrote.TheVariants.{Text, FaultLine}
use Rattle.top_call.specs.declared.ending.WriteEnd.{WriteEnd}
use Rattle.top_call.specs.declared.ending.WriteEnd.TheVariants as ends
use Rattle.top_call.specs.declared.status.Status.{Status}
use Rattle.top_call.specs.declared.status.Status.TheVariants.{Done, BadWords, BadInput, ReadFault, WriteFault, TooLong, OutOfMemory}
use Rattle.top_call.proofs.Ends.{reads_none}

-- What the law of objects says: a text has some,
abbrev pub HaveObjects : Type 0
HaveObjects = (set : LineSet) (plain : List ℕ) → (text : List ℕ) × AreObjectsOf set plain text

-- and these alone
abbrev pub AreOneText : Type 0
AreOneText = (set : LineSet) (plain one other : List ℕ) → AreObjectsOf set plain one → AreObjectsOf set plain other → one ≡ other

objects_lawful : AreOneText → (set : LineSet) (job : Job) → IsLawful job → IsLawful (objects_of_job set job)
objects_lawful one_text set job lawful = record {
  one_text = λ bytes one other left right.
      let same : left.plain ≡ right.plain = lawful.one_text bytes left.plain right.plain left.named right.named in
      one_text set right.plain one other (subst (λ (plain : List ℕ). AreObjectsOf set plain one) same left.objects) right.objects;
  one_fault_line = lawful.one_fault_line;
  allowed = λ bytes text writes. lawful.allowed bytes writes.plain writes.named;
  not_refused = lawful.not_refused;
  unread = lawful.unread;
  kept = λ bytes text writes. record { plain = writes.plain; named = (writes.named, lawful.kept bytes writes.plain writes.named); objects = writes.objects };
}

plain_lawful : IsLawful decode_job → IsLawful probe_job → IsLawful audit_job → IsLawful judge_job → ((mode : Mode) → IsLawful (run_job mode)) → (set : LineSet) → IsLawful (plain_job set)
plain_lawful decode probe audit judge run sets.Decode = decode
plain_lawful decode probe audit judge run sets.Probe = probe
plain_lawful decode probe audit judge run sets.Audit = audit
plain_lawful decode probe audit judge run sets.Judge = judge
plain_lawful decode probe audit judge run sets.Exchanges = run Exchanges

-- the law of each word with `json` behind it
pub all_lawful : AreOneText → IsLawful decode_job → IsLawful probe_job → IsLawful audit_job → IsLawful judge_job → ((mode : Mode) → IsLawful (run_job mode)) → (set : LineSet) → IsLawful (objects_job set)
all_lawful one_text decode probe audit judge run set = objects_lawful one_text set (plain_job set) (plain_lawful decode probe audit judge run set)

defined_of : HaveObjects → (set : LineSet) (job : Job) (bytes plain : List ℕ) → Defines job bytes plain → (text : List ℕ) × Defines (objects_of_job set job) bytes text
defined_of objects set job bytes plain (inl writes) =
    let found = objects set plain in (found.0, inl (record { plain = plain; named = writes; objects = found.1 }))
defined_of objects set job bytes plain (inr refuses) = (plain, inr refuses)

-- an input has a text where the word itself has one for it
pub defined_too : HaveObjects → (set : LineSet) (bytes plain : List ℕ) → Defines (plain_job set) bytes plain → (text : List ℕ) × Defines (objects_job set) bytes text
defined_too objects set bytes plain defines = defined_of objects set (plain_job set) bytes plain defines

-- what was taken of an input was read within the limit
taken_within : (input : Bool) (left left' : Option (List ℕ)) (bytes : List ℕ) → TakesInput input left left' bytes → ReadsWithin left left'
taken_within true left left' bytes taken = record { bytes = bytes; reads = taken.reads; within = taken.limit }
taken_within false left left' bytes taken = subst (λ (now : Option (List ℕ)). ReadsWithin left now) (sym taken.same) (reads_none left)

-- the status of an end of the writing, behind an input that was taken
ends_tell : (job : Job) (source : SourceChange) (sink : SinkChange) (untouched : Type 0) (bytes : List ℕ) (end : Result Wrote WriteEnd) → source.reads' ≡ source.reads
    → TakesInput job.input source.left source.left' bytes → EndsSo job bytes sink end → Tells job source sink untouched (status_of end)
ends_tell job source sink untouched bytes (Ok Text) steady taken so = ((steady, so.0), record { bytes = bytes; taken = taken; adds = so.1 })
ends_tell job source sink untouched bytes (Ok FaultLine) steady taken so = ((steady, so.0), record { bytes = bytes; taken = taken; adds = so.1 })
ends_tell job source sink untouched bytes (Err ends.Fault) steady taken so = (steady, so.0, record { bytes = bytes; taken = taken; adds = so.1 })
ends_tell job source sink untouched bytes (Err ends.OutOfMemory) steady taken so = (
  (steady, so.0),
  elim so.1 [
    | inl same ↦ inl (taken_within job.input source.left source.left' bytes taken, same)
    | inr front ↦ inr (record { bytes = bytes; taken = taken; adds = front })
  ],
)

-- what a sink holds to which a text was added at its start is that text
text_kept : (start held text : List ℕ) → start ≡ [] → Adds (Some start) (Some held) text → held ≡ text
text_kept start held text none added = let all : held ≡ start ++ text = cc in all ∙ ap (λ (front : List ℕ). front ++ text) none

-- a sink that keeps what is written, before a word and behind it
abbrev pub kept_change : (start held : List ℕ) (writes writes' : ℕ) → SinkChange
kept_change start held writes writes' = record { written = Some start; written' = Some held; writes = writes; writes' = writes' }

-- a plain text that was written whole, as that of the word or as its fault line, by what is written for it,
pub whole_tells : (set : LineSet) (job : Job) (T : List ℕ → List ℕ → Type 0) (source : SourceChange) (sink : SinkChange) (untouched : Type 0) (start held : List ℕ) (writes writes' : ℕ)
    (end : Result Wrote WriteEnd) → start ≡ [] → NothingFailed source (kept_change start held writes writes') × WritesWhole job T source.left source.left' (Some start) (Some held)
    → ((bytes : List ℕ) → T bytes held → EndsSo (objects_of_job set job) bytes sink end) → Tells (objects_of_job set job) source sink untouched (status_of end)
whole_tells set job T source sink untouched start held writes writes' end none tells so =
    let whole = tells.1 in
    let same = text_kept start held whole.adds.text none whole.adds.added in
    ends_tell (objects_of_job set job) source sink untouched whole.bytes end tells.0.0 whole.taken (so whole.bytes (subst (T whole.bytes) (sym same) whole.adds.named))

-- a plain text for which there was no memory,
pub unkept_tells : (set : LineSet) (job : Job) (source : SourceChange) (plain sink : SinkChange) (kept untouched : Type 0) → Tells job source plain kept WriteFault
    → sink.written' ≡ sink.written → sink.writes' ≡ sink.writes → Tells (objects_of_job set job) source sink untouched OutOfMemory
unkept_tells set job source plain sink kept untouched tells same steady =
    ((tells.0, steady), inl (taken_within job.input source.left source.left' tells.2.bytes tells.2.taken, same))

-- and every other end of the word itself
pub other_tells : (set : LineSet) (job : Job) (source : SourceChange) (plain sink : SinkChange) (kept untouched : Type 0) (status : Status) → Tells job source plain kept status
    → status ≢ Done → status ≢ BadInput → status ≢ WriteFault → sink.written' ≡ sink.written → sink.writes' ≡ sink.writes → untouched
    → Tells (objects_of_job set job) source sink untouched status
other_tells set job source plain sink kept untouched Done tells not_done not_bad not_write same steady un = absurd (not_done refl)
other_tells set job source plain sink kept untouched BadInput tells not_done not_bad not_write same steady un = absurd (not_bad refl)
other_tells set job source plain sink kept untouched WriteFault tells not_done not_bad not_write same steady un = absurd (not_write refl)
other_tells set job source plain sink kept untouched ReadFault tells not_done not_bad not_write same steady un = (tells.0, tells.1, un)
other_tells set job source plain sink kept untouched TooLong tells not_done not_bad not_write same steady un = (tells.0, tells.1, un)
other_tells set job source plain sink kept untouched BadWords tells not_done not_bad not_write same steady un = absurd tells
other_tells set job source plain sink kept untouched OutOfMemory tells not_done not_bad not_write same steady un = (
  (tells.0.0, steady),
  inl (elim tells.1 [ inl none ↦ none.0 | inr front ↦ taken_within job.input source.left source.left' front.bytes front.taken ], same),
)

-- each of these words reads its input
pub objects_read : (set : LineSet) → (objects_job set).input ≡ true
objects_read sets.Decode = refl
objects_read set = refl
