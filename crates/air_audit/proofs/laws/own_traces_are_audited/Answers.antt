use Rattle.air_audit.proofs.Names.{start_of}
use Rattle.air_audit.proofs.OwnTrace.{own-audited}
use Rattle.air_audit.proofs.laws.own_traces_are_audited.Goals as goal

pub returns : goal.returns
returns c = λ scenario is told.
    own-audited
    (record { frame = c.written_frame.ensures.frame; each = c.written_frame.ensures.each; short = c.spelling_laws.ensures.short })
    scenario
    (record {
      limits = is;
      told = told;
      legal = c.scenario_steps_are_legal.ensures scenario is;
      grows = c.histories_grow_by_the_next_item.ensures.grows (start_of scenario) scenario.steps (c.scenario_steps_are_legal.ensures scenario is);
      made = λ sent earlier recorded. c.records_follow_from_the_past.ensures (start_of scenario) scenario.steps sent earlier recorded;
      commands_legal = λ sent earlier recorded. c.histories_send_legal_commands.ensures scenario sent earlier is recorded;
      few = c.exchanges_are_few.ensures.few (start_of scenario) scenario.steps (c.scenario_steps_are_legal.ensures scenario is);
    })
