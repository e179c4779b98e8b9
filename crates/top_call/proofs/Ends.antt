-- How a run ends: what a failed write left, and which status an input that the grammar allows has.
use Rattle.std.proofs.Common.{◌≡◌, ◌≢◌, ◌⊎◌, ℕ, ◌+◌, ◌≤◌, ◌<◌, Bool, List, ◌++◌, length, take, drop, Option, Some, None, Result, Ok, Err, true, false, [], refl, sym, ◌∙◌, ap, subst, arith, inl, inr, length-append}
use Rattle.std.proofs.lemmas.Bool.{cases_Bool}
use Rattle.std.proofs.lemmas.List.{take-append-drop, append-nil}
use Rattle.air_io.specs.Flow.{TakesBytes, Adds, AtEnd, FaultsRose}
use Rattle.checked_lines.specs.FaultWords.{reason_word}
use Rattle.checked_lines.specs.TextRules.{IsFaultText, IsFirstFault, TextRules}
use Rattle.checked_lines.specs.declared.fault.FaultReason.{FaultReason}
use Rattle.report_lines.specs.declared.mode.PlayFault.{PlayFault}
use Rattle.report_lines.specs.declared.mode.PlayFault.TheVariants as plays
use Rattle.text_fields.specs.FaultLine.{fault_line}
use Rattle.top_call.specs.Ending.{end_of_play}
use Rattle.top_call.specs.Job.{Job, Defines, IsLawful}
use Rattle.top_call.specs.StatusMeanings.{input_limit, ReadsWithin, TakesInput, AddsFront, EndsSo, IsTextOf, WritesAs, SinkChange, SourceChange, Tells, WritesWhole, NothingFailed, WritesFront}
use Rattle.top_call.specs.declared.ending.Wrote.{Wrote}
use Rattle.top_call.specs.declared.ending.Wrote.TheVariants.{Text, FaultLine}
use Rattle.top_call.specs.declared.ending.WriteEnd.{WriteEnd}
use Rattle.top_call.specs.declared.ending.WriteEnd.TheVariants as ends
use Rattle.top_call.specs.declared.status.Status.{Status}
use Rattle.top_call.specs.declared.status.Status.TheVariants.{Done, BadWords, BadInput, ReadFault, WriteFault, TooLong, OutOfMemory}

-- so many bytes of a text were added
abbrev pub AddsSome : Option (List ℕ) → Option (List ℕ) → List ℕ → Type 0
AddsSome written written' text = (count : ℕ) × (count ≤ length text) × Adds written written' (take count text)

-- a write failed behind a front of a text
pub part_written : (wrote : Wrote) (sink : SinkChange) (text : List ℕ) (end : Result Wrote WriteEnd)
    → end ≡ Err ends.Fault → FaultsRose sink.writes sink.writes' → AddsSome sink.written sink.written' text → WritesAs end wrote text sink
part_written wrote sink text end is rose added =
    let front : AddsFront (λ whole. whole ≡ text) sink.written sink.written' = record {
      front = take added.0 text;
      rest = drop added.0 text;
      named = take-append-drop added.0 text;
      added = added.2;
    } in
    subst (λ (end : Result Wrote WriteEnd). WritesAs end wrote text sink) (sym is) (rose, front)

-- a text is a defined one, whatever it is written as
defined_as : (job : Job) (wrote : Wrote) (bytes text : List ℕ) → IsTextOf job wrote bytes text → Defines job bytes text
defined_as job Text bytes text named = inl named
defined_as job FaultLine bytes text named = inr named

-- a text was written whole
written_whole : (job : Job) (wrote : Wrote) (bytes : List ℕ) (sink : SinkChange) (text : List ℕ)
    → IsTextOf job wrote bytes text → sink.writes' ≡ sink.writes → Adds sink.written sink.written' text → EndsSo job bytes sink (Ok wrote)
written_whole job Text bytes sink text named steady added = (steady, record { text = text; named = named; added = added })
written_whole job FaultLine bytes sink text named steady added = (steady, record { text = text; named = named; added = added })

-- the writing of a defined text is that of a word
pub ends_so : (job : Job) (bytes : List ℕ) (wrote : Wrote) (sink : SinkChange) (text : List ℕ) (end : Result Wrote WriteEnd)
    → WritesAs end wrote text sink → IsTextOf job wrote bytes text → EndsSo job bytes sink end
ends_so job bytes wrote sink text (Ok done) so named =
    subst (λ (done : Wrote). EndsSo job bytes sink (Ok done)) (sym so.0) (written_whole job wrote bytes sink text named so.1 so.2)
ends_so job bytes wrote sink text (Err ends.Fault) so named =
    (so.0, record { front = so.1.front; rest = so.1.rest; named = subst (Defines job bytes) (sym so.1.named) (defined_as job wrote bytes text named); added = so.1.added })
ends_so job bytes wrote sink text (Err ends.OutOfMemory) so named = absurd so

-- no memory is taken for it
pub no_memory_taken : (wrote : Wrote) (sink : SinkChange) (text : List ℕ) (end : Result Wrote WriteEnd) → WritesAs end wrote text sink → end ≢ Err ends.OutOfMemory
no_memory_taken wrote sink text end so is = subst (λ (end : Result Wrote WriteEnd). WritesAs end wrote text sink) is so

-- the writing of what a word has to write ended behind a front of it: a write failed, or there was no memory
pub ends_early : (job : Job) (bytes : List ℕ) (sink : SinkChange) (why : WriteEnd) (end : Result Wrote WriteEnd) → end ≡ Err why
    → (why ≡ ends.Fault → FaultsRose sink.writes sink.writes') → (why ≡ ends.OutOfMemory → sink.writes' ≡ sink.writes)
    → AddsFront (job.writes bytes) sink.written sink.written' → EndsSo job bytes sink end
ends_early job bytes sink ends.Fault end is rose steady front =
    subst (EndsSo job bytes sink) (sym is) (rose refl, record { front = front.front; rest = front.rest; named = inl front.named; added = front.added })
ends_early job bytes sink ends.OutOfMemory end is rose steady front =
    subst (EndsSo job bytes sink) (sym is) (steady refl, inr (record { front = front.front; rest = front.rest; named = inl front.named; added = front.added }))

-- and so did a run of which the word tells
pub cut_off : (job : Job) (bytes : List ℕ) (sink : SinkChange) (fault : PlayFault) (end : Result Wrote WriteEnd) → end ≡ Err (end_of_play fault)
    → (fault ≡ plays.Write → FaultsRose sink.writes sink.writes') → (fault ≡ plays.OutOfMemory → sink.writes' ≡ sink.writes)
    → AddsFront (job.writes bytes) sink.written sink.written' → EndsSo job bytes sink end
cut_off job bytes sink plays.Write end is rose steady front = ends_early job bytes sink ends.Fault end is (λ same. rose refl) (λ other. absurd (cc)) front
cut_off job bytes sink plays.OutOfMemory end is rose steady front = ends_early job bytes sink ends.OutOfMemory end is (λ other. absurd (cc)) (λ same. steady refl) front

-- bytes of which two lines with two reasons are not both the first faulty one have one fault line
pub same_fault_text : {S : Type 0} (rules : TextRules S FaultReason) → ((bytes : List ℕ) (one other : ℕ) (fault reason : FaultReason)
    → IsFirstFault rules bytes one fault → IsFirstFault rules bytes other reason → (one ≡ other) × (fault ≡ reason))
    → (bytes one other : List ℕ) → IsFaultText rules bytes one → IsFaultText rules bytes other → one ≡ other
same_fault_text rules one_fault bytes one other left right =
    let faults = one_fault bytes left.number right.number left.reason right.reason left.first right.first in
    left.line ∙ ap (λ number. fault_line number (reason_word left.reason)) faults.0 ∙ ap (λ reason. fault_line right.number (reason_word reason)) faults.1 ∙ sym right.line

-- what was read of a source that tells what it has left is a front of that
front_read : (told : List ℕ) (left' : Option (List ℕ)) (bytes : List ℕ) → TakesBytes (Some told) left' bytes → (rest : List ℕ) × (told ≡ bytes ++ rest) × (left' ≡ Some rest)
front_read told None bytes reads = cc
front_read told (Some rest) bytes reads = (rest, cc, refl)

-- what was read to its end is all that was told
all_read : (told : List ℕ) (left' : Option (List ℕ)) (bytes : List ℕ) → TakesBytes (Some told) left' bytes → AtEnd left' → told ≡ bytes
all_read told None bytes reads end = cc
all_read told (Some rest) bytes reads end = let e : told ≡ bytes ++ rest = cc in e ∙ ap (λ r. bytes ++ r) end ∙ append-nil bytes

-- and is no longer than the limit where that is not
not_over : (told : List ℕ) (left' : Option (List ℕ)) (bytes : List ℕ) → TakesBytes (Some told) left' bytes → length bytes ≡ input_limit + 1 → length told ≤ input_limit → ⊥
not_over told left' bytes reads over few =
    let front = front_read told left' bytes reads in
    omega (arith, over, few, ap length front.1, length-append bytes front.0)

-- what a word took of its input is all of it,
taken_all : (input : Bool) → input ≡ true → (told : List ℕ) (left' : Option (List ℕ)) (bytes : List ℕ) → TakesInput input (Some told) left' bytes → told ≡ bytes
taken_all true reads told left' bytes taken = all_read told left' bytes taken.reads taken.end
taken_all false reads told left' bytes taken = absurd (cc)

-- and within the limit
taken_within : (input : Bool) → input ≡ true → (told : List ℕ) (left' : Option (List ℕ)) (bytes : List ℕ) → TakesInput input (Some told) left' bytes → length told ≤ input_limit
taken_within true reads told left' bytes taken = omega (arith, ap length (all_read told left' bytes taken.reads taken.end), taken.limit)
taken_within false reads told left' bytes taken = absurd (cc)

-- so it has no fault line where the grammar allows what was told,
not_bad : (job : Job) → IsLawful job → (told : List ℕ) (left' : Option (List ℕ)) (bytes text : List ℕ) → TakesInput job.input (Some told) left' bytes → job.allows told
    → job.refuses bytes text → ⊥
not_bad job lawful told left' bytes text taken allowed refused =
    elim (cases_Bool job.input) [
      | inl has ↦ lawful.not_refused bytes text (subst job.allows (taken_all job.input has told left' bytes taken) allowed) refused
      | inr none ↦ lawful.unread none bytes text refused
    ]

-- and what was told has none where the grammar allows it
not_told_bad : (job : Job) → IsLawful job → (told : List ℕ) (left' : Option (List ℕ)) (bytes text : List ℕ) → TakesInput job.input (Some told) left' bytes → job.allows bytes
    → job.refuses told text → ⊥
not_told_bad job lawful told left' bytes text taken allowed refused =
    elim (cases_Bool job.input) [
      | inl has ↦ lawful.not_refused told text (subst job.allows (sym (taken_all job.input has told left' bytes taken)) allowed) refused
      | inr none ↦ lawful.unread none told text refused
    ]

-- the devices of a word: what its source told, what it tells then, how many faults it had met and has met then, its sink, and that the
-- sink is untouched
pub record Devices : Type 1 where
  pub told : List ℕ
  pub left' : Option (List ℕ)
  pub reads : ℕ
  pub reads' : ℕ
  pub sink : SinkChange
  pub untouched : Type 0

-- what a status says of them
abbrev pub TellsOf : Job → Devices → Status → Type 0
TellsOf job of status = Tells job (record { left = Some of.told; left' = of.left'; reads = of.reads; reads' = of.reads' }) of.sink of.untouched status

-- no read and no write failed
pub record NoneFailed (of : Devices) : Type 0 where
  pub read : ¬ FaultsRose of.reads of.reads'
  pub write : ¬ FaultsRose of.sink.writes of.sink.writes'

-- an input within the limit that the grammar allows ends so, or memory ran out
pub completes : (job : Job) → IsLawful job → (of : Devices) (status : Status) → TellsOf job of status → length of.told ≤ input_limit → job.allows of.told → NoneFailed of
    → (status ≡ Done) ⊎ (status ≡ OutOfMemory)
completes job lawful of Done tells few allowed none = inl refl
completes job lawful of OutOfMemory tells few allowed none = inr refl
completes job lawful of BadWords tells few allowed none = absurd tells
completes job lawful of ReadFault tells few allowed none = absurd (none.read tells.0)
completes job lawful of WriteFault tells few allowed none = absurd (none.write tells.1)
completes job lawful of TooLong tells few allowed none = absurd (not_over of.told of.left' tells.1.bytes tells.1.reads tells.1.over few)
completes job lawful of BadInput tells few allowed none = absurd (not_bad job lawful of.told of.left' tells.1.bytes tells.1.adds.text tells.1.taken allowed tells.1.adds.named)

-- an input within the limit that has a fault line ends so, or memory ran out
pub refuses : (job : Job) → IsLawful job → (of : Devices) (text : List ℕ) (status : Status) → TellsOf job of status → length of.told ≤ input_limit → job.refuses of.told text
    → NoneFailed of → (status ≡ BadInput) ⊎ (status ≡ OutOfMemory)
refuses job lawful of text BadInput tells few refused none = inl refl
refuses job lawful of text OutOfMemory tells few refused none = inr refl
refuses job lawful of text BadWords tells few refused none = absurd tells
refuses job lawful of text ReadFault tells few refused none = absurd (none.read tells.0)
refuses job lawful of text WriteFault tells few refused none = absurd (none.write tells.1)
refuses job lawful of text TooLong tells few refused none = absurd (not_over of.told of.left' tells.1.bytes tells.1.reads tells.1.over few)
refuses job lawful of text Done tells few refused none =
    absurd (not_told_bad job lawful of.told of.left' tells.1.bytes text tells.1.taken (lawful.allowed tells.1.bytes tells.1.adds.text tells.1.adds.named) refused)

-- an input over the limit ends so, or memory ran out
pub passes_limit : (job : Job) → job.input ≡ true → (of : Devices) (status : Status) → TellsOf job of status → input_limit < length of.told → ¬ FaultsRose of.reads of.reads'
    → (status ≡ TooLong) ⊎ (status ≡ OutOfMemory)
passes_limit job has of TooLong tells many no_read = inl refl
passes_limit job has of OutOfMemory tells many no_read = inr refl
passes_limit job has of BadWords tells many no_read = absurd tells
passes_limit job has of ReadFault tells many no_read = absurd (no_read tells.0)
passes_limit job has of WriteFault tells many no_read = absurd (omega (arith, many, taken_within job.input has of.told of.left' tells.2.bytes tells.2.taken))
passes_limit job has of Done tells many no_read = absurd (omega (arith, many, taken_within job.input has of.told of.left' tells.1.bytes tells.1.taken))
passes_limit job has of BadInput tells many no_read = absurd (omega (arith, many, taken_within job.input has of.told of.left' tells.1.bytes tells.1.taken))

-- each read that failed is told,
pub reads_told : (job : Job) (source : SourceChange) (sink : SinkChange) (untouched : Type 0) (status : Status) → Tells job source sink untouched status → status ≢ ReadFault
    → source.reads' ≡ source.reads
reads_told job source sink untouched Done tells other = tells.0.0
reads_told job source sink untouched BadInput tells other = tells.0.0
reads_told job source sink untouched ReadFault tells other = absurd (other refl)
reads_told job source sink untouched WriteFault tells other = tells.0
reads_told job source sink untouched TooLong tells other = tells.0
reads_told job source sink untouched OutOfMemory tells other = tells.0.0
reads_told job source sink untouched BadWords tells other = absurd tells

-- and each write that failed, where no write fails of a sink that is untouched
pub writes_told : (job : Job) (source : SourceChange) (sink : SinkChange) (untouched : Type 0) (status : Status) → Tells job source sink untouched status
    → (untouched → sink.writes' ≡ sink.writes) → status ≢ WriteFault → sink.writes' ≡ sink.writes
writes_told job source sink untouched Done tells same other = tells.0.1
writes_told job source sink untouched BadInput tells same other = tells.0.1
writes_told job source sink untouched ReadFault tells same other = same tells.2
writes_told job source sink untouched WriteFault tells same other = absurd (other refl)
writes_told job source sink untouched TooLong tells same other = same tells.2
writes_told job source sink untouched OutOfMemory tells same other = tells.0.1
writes_told job source sink untouched BadWords tells same other = absurd tells

-- a count that stands at 0 did not rise
pub none_rose : FaultsRose 0 0 → ⊥
none_rose rose = let last = rose.larger_or_last refl in absurd (omega (arith, last))

-- what is written keeps the promises of its word, and each part of them
pub keeps : (job : Job) (T : List ℕ → List ℕ → Type 0) (part : (bytes text : List ℕ) → job.promises bytes text → T bytes text) → IsLawful job
    → (left left' written written' : Option (List ℕ)) → WritesWhole job job.writes left left' written written' → WritesWhole job T left left' written written'
keeps job T part lawful left left' written written' whole = record {
  bytes = whole.bytes;
  taken = whole.taken;
  adds = record {
    text = whole.adds.text;
    named = part whole.bytes whole.adds.text (lawful.kept whole.bytes whole.adds.text whole.adds.named);
    added = whole.adds.added;
  };
}

-- nothing is a front of what is left
pub reads_none : (left : Option (List ℕ)) → ReadsWithin left left
reads_none None = record { bytes = []; reads = refl; within = omega arith }
reads_none (Some rest) = record { bytes = []; reads = refl; within = omega arith }

-- a text that was added whole is a front of one that is defined
whole_front : (job : Job) (T : List ℕ → List ℕ → Type 0) → ((bytes text : List ℕ) → T bytes text → Defines job bytes text)
    → (left left' written written' : Option (List ℕ)) → WritesWhole job T left left' written written' → WritesFront job left left' written written'
whole_front job T defined left left' written written' whole = record {
  bytes = whole.bytes;
  taken = whole.taken;
  adds = record {
    front = whole.adds.text;
    rest = [];
    named = subst (Defines job whole.bytes) (sym (append-nil whole.adds.text)) (defined whole.bytes whole.adds.text whole.adds.named);
    added = whole.adds.added;
  };
}

-- what a sink tells before and behind, and how many faults it had met and has met
abbrev pub sink_from : (written written' : Option (List ℕ)) (writes writes' : ℕ) → SinkChange
sink_from written written' writes writes' = record { written = written; written' = written'; writes = writes; writes' = writes' }

-- a text was added whole, and then the sink handed on what it held back of it, or failed to
pub flushed : (job : Job) (T : List ℕ → List ℕ → Type 0) (whole : Status) → ((bytes text : List ℕ) → T bytes text → Defines job bytes text)
    → (source : SourceChange) (written written' now : Option (List ℕ)) (writes writes' faults : ℕ) (untouched : Type 0) (status : Status)
    → (NothingFailed source (sink_from written now writes faults) × WritesWhole job T source.left source.left' written now
    → Tells job source (sink_from written now writes faults) untouched whole)
    → NothingFailed source (sink_from written written' writes writes') × WritesWhole job T source.left source.left' written written'
    → now ≡ written' → ((status ≡ whole) × (faults ≡ writes')) ⊎ ((status ≡ WriteFault) × FaultsRose writes' faults)
    → Tells job source (sink_from written now writes faults) untouched status
flushed job T whole defined source written written' now writes writes' faults untouched status telling told same (inl handed) =
    let added = subst (WritesWhole job T source.left source.left' written) (sym same) told.1 in
    subst (Tells job source (sink_from written now writes faults) untouched) (sym handed.0) (telling ((told.0.0, handed.1 ∙ told.0.1), added))
flushed job T whole defined source written written' now writes writes' faults untouched status telling told same (inr failed) =
    let added = subst (WritesWhole job T source.left source.left' written) (sym same) told.1 in
    subst (Tells job source (sink_from written now writes faults) untouched) (sym failed.0)
    (told.0.0, subst (λ (before : ℕ). FaultsRose before faults) told.0.1 failed.1, whole_front job T defined source.left source.left' written now added)
