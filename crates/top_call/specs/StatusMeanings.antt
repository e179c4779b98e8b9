-- Profile: what each status of the program says of the bytes that came in and of those that went out. A source
-- may tell the bytes that it has left, and a sink those that were written; what is not told is left open.
use Rattle.std.specs.Prelude.{◌≡◌, ℕ, ◌+◌, ◌≤◌, Bool, true, false, List, [], ◌++◌, length, Option, Result, Ok, Err, ◌⊎◌}
use Rattle.air_io.specs.Flow.{TakesBytes, Adds, AtEnd, FaultsRose}
use Rattle.air_io.specs.declared.transfer.ReadEnd.{ReadEnd}
use Rattle.air_io.specs.declared.transfer.ReadEnd.TheVariants as read_ends
use Rattle.top_call.specs.Job.{Job, Defines}
use Rattle.top_call.specs.declared.ending.Wrote.{Wrote}
use Rattle.top_call.specs.declared.ending.Wrote.TheVariants.{Text, FaultLine}
use Rattle.top_call.specs.declared.ending.WriteEnd.{WriteEnd}
use Rattle.top_call.specs.declared.ending.WriteEnd.TheVariants as ends
use Rattle.top_call.specs.declared.status.Status.{Status}
use Rattle.top_call.specs.declared.status.Status.TheVariants.{Done, BadWords, BadInput, ReadFault, WriteFault, TooLong, OutOfMemory}

-- how many bytes the program reads of its input at most
abbrev pub input_limit : ℕ
input_limit = 16777216

-- these bytes were read, within the limit, and then the source was at its end
pub record ReadsAll (old new : Option (List ℕ)) (bytes : List ℕ) : Type 0 where
  pub reads : TakesBytes old new bytes
  pub end : AtEnd new
  pub limit : length bytes ≤ input_limit

-- nothing was read of the source
pub record ReadsNothing (old new : Option (List ℕ)) (bytes : List ℕ) : Type 0 where
  pub none : bytes ≡ []
  pub same : new ≡ old

-- the bytes are the input of a word that reads one or not, and were taken from what was left of the source
abbrev pub TakesInput : (input : Bool) → (left left' : Option (List ℕ)) → List ℕ → Type 0
TakesInput true left left' bytes = ReadsAll left left' bytes
TakesInput false left left' bytes = ReadsNothing left left' bytes

-- a text that T names was added whole
pub record AddsWhole (T : List ℕ → Type 0) (written written' : Option (List ℕ)) : Type 0 where
  pub text : List ℕ
  pub named : T text
  pub added : Adds written written' text

-- a front of a text that T names was added
pub record AddsFront (T : List ℕ → Type 0) (written written' : Option (List ℕ)) : Type 0 where
  pub front : List ℕ
  pub rest : List ℕ
  pub named : T (front ++ rest)
  pub added : Adds written written' front

-- the word's input was taken, and a text that T names for it was added whole
pub record WritesWhole (job : Job) (T : List ℕ → List ℕ → Type 0) (left left' written written' : Option (List ℕ)) : Type 0 where
  pub bytes : List ℕ
  pub taken : TakesInput job.input left left' bytes
  pub adds : AddsWhole (T bytes) written written'

-- the word's input was taken, and a front of its defined text was added
pub record WritesFront (job : Job) (left left' written written' : Option (List ℕ)) : Type 0 where
  pub bytes : List ℕ
  pub taken : TakesInput job.input left left' bytes
  pub adds : AddsFront (Defines job bytes) written written'

-- no more than the limit was read
pub record ReadsWithin (old new : Option (List ℕ)) : Type 0 where
  pub bytes : List ℕ
  pub reads : TakesBytes old new bytes
  pub within : length bytes ≤ input_limit

-- more than the limit was read: one byte more
pub record ReadsTooMuch (old new : Option (List ℕ)) : Type 0 where
  pub bytes : List ℕ
  pub reads : TakesBytes old new bytes
  pub over : length bytes ≡ input_limit + 1

-- A source before a word and behind it: what it tells that it had left and has left, and how many faults it had met and has met.
pub record SourceChange : Type 0 where
  pub left : Option (List ℕ)
  pub left' : Option (List ℕ)
  pub reads : ℕ
  pub reads' : ℕ

-- A sink before a word and behind it: what it tells that was written and is written, and how many faults it had met and has met.
pub record SinkChange : Type 0 where
  pub written : Option (List ℕ)
  pub written' : Option (List ℕ)
  pub writes : ℕ
  pub writes' : ℕ

-- the text is written as this for these bytes: as what the word has to write, or as their fault line
abbrev pub IsTextOf : Job → Wrote → List ℕ → List ℕ → Type 0
IsTextOf job Text = job.writes
IsTextOf job FaultLine = job.refuses

-- The end of the writing of a text that is one of these two: it was added whole, or a write failed behind a front of it.
abbrev pub WritesAs : Result Wrote WriteEnd → Wrote → (text : List ℕ) → SinkChange → Type 0
WritesAs (Ok done) wrote text sink = (done ≡ wrote) × (sink.writes' ≡ sink.writes) × Adds sink.written sink.written' text
WritesAs (Err ends.Fault) wrote text sink = FaultsRose sink.writes sink.writes' × AddsFront (λ whole. whole ≡ text) sink.written sink.written'
WritesAs (Err ends.OutOfMemory) wrote text sink = ⊥

-- how a source of any kind changed
abbrev pub source_change : {A : Type 0} → (left : A → Option (List ℕ)) → (faults : A → ℕ) → (old new : A) → SourceChange
source_change left faults old new = record { left = left old; left' = left new; reads = faults old; reads' = faults new }

-- how a sink of any kind changed
abbrev pub sink_change : {A : Type 0} → (written : A → Option (List ℕ)) → (faults : A → ℕ) → (old new : A) → SinkChange
sink_change written faults old new = record { written = written old; written' = written new; writes = faults old; writes' = faults new }

-- What the end of a word's writing for these bytes says of the sink. A write failed exactly where that is told.
abbrev pub EndsSo : Job → (bytes : List ℕ) → SinkChange → Result Wrote WriteEnd → Type 0
EndsSo job bytes sink (Ok Text) = (sink.writes' ≡ sink.writes) × AddsWhole (job.writes bytes) sink.written sink.written'
EndsSo job bytes sink (Ok FaultLine) = (sink.writes' ≡ sink.writes) × AddsWhole (job.refuses bytes) sink.written sink.written'
EndsSo job bytes sink (Err ends.Fault) = FaultsRose sink.writes sink.writes' × AddsFront (Defines job bytes) sink.written sink.written'
EndsSo job bytes sink (Err ends.OutOfMemory) = (sink.writes' ≡ sink.writes) × ((sink.written' ≡ sink.written) ⊎ AddsFront (Defines job bytes) sink.written sink.written')

-- no read and no write failed
abbrev pub NothingFailed : SourceChange → SinkChange → Type 0
NothingFailed source sink = (source.reads' ≡ source.reads) × (sink.writes' ≡ sink.writes)

-- What a status says of a word: of its source, of its sink, and of the fact that the sink is untouched. A read or a write failed
-- exactly where that is told.
abbrev pub Tells : Job → SourceChange → SinkChange → (untouched : Type 0) → Status → Type 0
Tells job source sink untouched Done = NothingFailed source sink × WritesWhole job job.writes source.left source.left' sink.written sink.written'
Tells job source sink untouched BadInput = NothingFailed source sink × WritesWhole job job.refuses source.left source.left' sink.written sink.written'
Tells job source sink untouched ReadFault = FaultsRose source.reads source.reads' × ReadsWithin source.left source.left' × untouched
Tells job source sink untouched WriteFault = (source.reads' ≡ source.reads) × FaultsRose sink.writes sink.writes' × WritesFront job source.left source.left' sink.written sink.written'
Tells job source sink untouched TooLong = (source.reads' ≡ source.reads) × ReadsTooMuch source.left source.left' × untouched
Tells job source sink untouched OutOfMemory =
    NothingFailed source sink
    × ((ReadsWithin source.left source.left' × (sink.written' ≡ sink.written)) ⊎ WritesFront job source.left source.left' sink.written sink.written')
Tells job source sink untouched BadWords = ⊥

-- the status of the program by how the writing of its text ended
abbrev pub status_of : Result Wrote WriteEnd → Status
status_of (Ok Text) = Done
status_of (Ok FaultLine) = BadInput
status_of (Err ends.Fault) = WriteFault
status_of (Err ends.OutOfMemory) = OutOfMemory

-- the status of the program where its source was not read to its end
abbrev pub unread_status : ReadEnd → Status
unread_status read_ends.Fault = ReadFault
unread_status read_ends.TooLong = TooLong
unread_status read_ends.OutOfMemory = OutOfMemory

-- the statuses that speak of an input don't come
abbrev pub SpeaksOfNoInput : Status → Type 0
SpeaksOfNoInput ReadFault = ⊥
SpeaksOfNoInput TooLong = ⊥
SpeaksOfNoInput BadInput = ⊥
SpeaksOfNoInput status = Unit {0}
