-- Profile: why a text was not written whole, by what cut its run off.
use Rattle.report_lines.specs.declared.mode.PlayFault.{PlayFault}
use Rattle.report_lines.specs.declared.mode.PlayFault.TheVariants as plays
use Rattle.top_call.specs.declared.ending.WriteEnd.{WriteEnd}
use Rattle.top_call.specs.declared.ending.WriteEnd.TheVariants.{Fault, OutOfMemory}

-- what cut the run off is why its text was not written whole
abbrev pub end_of_play : PlayFault → WriteEnd
end_of_play plays.Write = Fault
end_of_play plays.OutOfMemory = OutOfMemory
