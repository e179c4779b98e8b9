-- The report of the scenario, or the line of the first fault.
use Rattle.std.proofs.Common.{refl}
use Rattle.runs.specs.Report.{report_text_of}
use Rattle.top_call.specs.words.Run.{Reports}
use Rattle.top_call.proofs.RunEnds.{some_text}
use Rattle.top_call.proofs.words.run.run_inputs_have_a_text.Goals as goal

pub returns : goal.returns
returns c mode bytes =
    some_text (Reports mode bytes) bytes
    (λ spelled. (report_text_of mode spelled.0, record { scenario = spelled.0; legal = spelled.1; spelled = spelled.2; report = refl })) (c.texts_are_scenarios_or_faulty.ensures bytes)
