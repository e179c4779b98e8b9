-- Profile: the number of each status, which is the program's exit status.
use Rattle.std.specs.Prelude.{ℕ}
use Rattle.top_call.specs.declared.status.Status.{Status}
use Rattle.top_call.specs.declared.status.Status.TheVariants.{Done, BadWords, BadInput, ReadFault, WriteFault, TooLong, OutOfMemory}

-- the exit status of the program
abbrev pub status_number : Status → ℕ
status_number Done = 0
status_number BadWords = 2
status_number BadInput = 3
status_number ReadFault = 4
status_number WriteFault = 5
status_number TooLong = 6
status_number OutOfMemory = 7
