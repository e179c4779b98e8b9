-- The whole text of a scenario.
use Rattle.std.proofs.Common.{◌≡◌, ◌⊎◌}
use Rattle.std.proofs.lemmas.Result.{IfErr-weaker, IfOk-weaker}
use Rattle.checked_lines.specs.declared.fault.Unread.TheVariants as unread
use Rattle.scenario.specs.ScenarioText.{scenario_text}
use Rattle.scenario.specs.Limits.{IsScenario}
use Rattle.scenario.specs.Faults.{IsRefused}
use Rattle.scenario.specs.ReaderAnswers.{SaysScenario}
use Rattle.scenario.proofs.WholeTexts.{is_the_one, memory_alone, none_is_read, read_is_spelled, told_exactly}
use Rattle.scenario.proofs.reading.read_scenario.Goals as goal

pub returns-clause-ok : goal.returns-clause-ok
returns-clause-ok c =
    IfOk-weaker c.read_lines.result (SaysScenario c.args.text.now) (λ scenario. IsScenario scenario × (c.args.text.now ≡ scenario_text scenario))
    (λ scenario read. read_is_spelled c.args.text.now scenario read) c.read_lines.ensures.ok

pub returns-clause-only : goal.returns-clause-only
returns-clause-only c = λ said is same. (
  IfOk-weaker c.read_lines.result (SaysScenario c.args.text.now) (λ scenario. scenario ≡ said)
      (λ scenario read. is_the_one c.line_laws.ensures c.args.text.now said scenario is same read) c.read_lines.ensures.ok,
  IfErr-weaker c.read_lines.result (IsRefused c.args.text.now) (λ fault. fault ≡ unread.OutOfMemory)
      (λ refusal refused. memory_alone c.line_laws.ensures c.args.text.now said refusal is same refused) c.read_lines.ensures.refused,
)

pub returns-clause-exact : goal.returns-clause-exact
returns-clause-exact c = λ number fault first. (
  IfErr-weaker c.read_lines.result (IsRefused c.args.text.now)
      (λ refusal. (refusal ≡ unread.Line (record { line = number; reason = fault })) ⊎ (refusal ≡ unread.OutOfMemory))
      (λ refusal refused. told_exactly c.line_laws.ensures c.args.text.now refusal number fault refused first) c.read_lines.ensures.refused,
  IfOk-weaker c.read_lines.result (λ scenario. IsScenario scenario × (c.args.text.now ≡ scenario_text scenario)) (λ scenario. ⊥)
      (λ scenario read. none_is_read c.line_laws.ensures c.args.text.now scenario number fault read first) (returns-clause-ok c),
)
