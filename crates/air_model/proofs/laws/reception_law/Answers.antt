use Rattle.air_model.proofs.AwaitedLaws.{awaited_reception, silent_awaited, plain_reception}
use Rattle.air_model.proofs.ReceptionLaws.{whole_heard, broken_heard, stream_reception, silent_reception, whole_is_heard, heard_nothing, heard_least, heard_most}
use Rattle.air_model.proofs.laws.reception_law.Goals as goal

pub returns : goal.returns
returns c = record {
  whole = whole_heard;
  broken = broken_heard;
  stream = stream_reception;
  silent = silent_reception;
  heard = whole_is_heard;
  with = awaited_reception;
  silent_with = silent_awaited;
  by_link = plain_reception;
  nothing = heard_nothing;
  least = heard_least;
  most = heard_most;
}
