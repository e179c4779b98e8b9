use Rattle.runs.proofs.LegalPasts.{past-legal}
use Rattle.runs.proofs.laws.histories_keep_tags_legal.Goals as goal

pub returns : goal.returns
returns c = past-legal (record {
  limit = c.round_laws.ensures.limit;
  range = c.answers_are_replies.ensures.legal;
  heard = c.steps_keep_tags_legal.ensures.heard;
  befallen = c.steps_keep_tags_legal.ensures.befallen;
  rounds = c.round_laws.ensures.legal;
  operations = c.operation_commands.ensures.legal;
  copies = c.copies_are_tags.ensures;
})
