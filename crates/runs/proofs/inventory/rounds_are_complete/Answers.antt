use Rattle.runs.specs.ScenarioHistory.{history}
use Rattle.runs.proofs.inventory.rounds_are_complete.Goals as goal

pub returns : goal.returns
returns c = λ scenario legal. record {
  complete = λ before after spec operations. c.complete_inventory.ensures.scenario scenario before after spec operations legal;
  counted = λ before after spec operations. c.honest_rounds_count_tags.ensures.scenario scenario before after spec operations legal;
  lines = c.list_lines_are_of_listed_tags.ensures (history scenario);
  recounts = λ recount unsound number tag. c.recounts_list_every_tag.ensures.scenario_any scenario recount unsound number tag legal;
  fresh_recounts = λ recount unsound number tag. c.recounts_list_every_tag.ensures.scenario_fresh scenario recount unsound number tag legal;
}
