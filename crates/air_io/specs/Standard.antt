-- What contracts see of a source over a reader of std, and of a sink over a writer. Profile.
use Rattle.std.specs.Prelude.{ℕ}
use Rattle.air_io.specs.declared.standard.StdSource.{StdSource}
use Rattle.air_io.specs.declared.standard.StdSink.{StdSink}

-- The reader that the source takes its bytes from. Profile.
abbrev pub std_reader_of : {R : Type 0} → StdSource R → R
std_reader_of source = source.reader

-- How many reads failed so far. Profile.
abbrev pub failed_reads : {R : Type 0} → StdSource R → ℕ
failed_reads source = source.faults

-- The writer that the sink gives its bytes to. Profile.
abbrev pub writer_of : {W : Type 0} → StdSink W → W
writer_of sink = sink.writer

-- How many writes failed or took nothing so far. Profile.
abbrev pub failed_writes : {W : Type 0} → StdSink W → ℕ
failed_writes sink = sink.faults
