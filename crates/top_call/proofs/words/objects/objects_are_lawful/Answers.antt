use Rattle.top_call.proofs.ObjectEnds.{all_lawful, defined_too}
use Rattle.top_call.proofs.words.objects.objects_are_lawful.Goals as goal

pub returns : goal.returns
returns c = record {
  lawful = all_lawful c.texts_have_objects.ensures.one c.decode_is_lawful.ensures c.probe_is_lawful.ensures c.audit_is_lawful.ensures c.judge_is_lawful.ensures c.run_is_lawful.ensures;
  defined = defined_too c.texts_have_objects.ensures.some;
}
