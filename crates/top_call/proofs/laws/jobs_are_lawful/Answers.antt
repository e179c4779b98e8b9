-- The law of each word.
use Rattle.top_call.specs.HelpAndVersion.{help_text, version_text}
use Rattle.top_call.specs.declared.forms.Form.TheVariants.{Decode, Encode, Run, Upgrade, Portals, Names, Probe, Judge, Audit, Objects, Gen, Help, Version}
use Rattle.top_call.proofs.laws.jobs_are_lawful.Goals as goal

pub returns : goal.returns
returns c Decode = c.decode_is_lawful.ensures
returns c Encode = c.encode_is_lawful.ensures
returns c (Run mode) = c.run_is_lawful.ensures mode
returns c Upgrade = c.upgrade_is_lawful.ensures
returns c Portals = c.portals_are_lawful.ensures
returns c Names = c.names_are_lawful.ensures
returns c Probe = c.probe_is_lawful.ensures
returns c Judge = c.judge_is_lawful.ensures
returns c Audit = c.audit_is_lawful.ensures
returns c (Objects set) = c.objects_are_lawful.ensures.lawful set
returns c (Gen seed tags) = c.gen_is_lawful.ensures seed tags
returns c Help = c.own_texts_are_lawful.ensures help_text
returns c Version = c.own_texts_are_lawful.ensures version_text
