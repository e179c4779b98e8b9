use Rattle.air_audit.proofs.ReceivedLists.{audited-lists}
use Rattle.air_audit.proofs.laws.list_lines_are_received.Goals as goal

pub returns : goal.returns
returns c = audited-lists (record {
  tags = record {
    rows = c.answers_are_replies.ensures.reply;
    range = c.answers_are_replies.ensures.legal;
    stays = c.steps_keep_tags_legal.ensures.befallen;
  };
  heard = c.steps_keep_tags_legal.ensures.heard;
})
