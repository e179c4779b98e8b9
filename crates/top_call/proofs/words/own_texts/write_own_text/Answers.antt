use Rattle.std.proofs.Common.{refl}
use Rattle.top_call.specs.words.OwnTexts.{text_job}
use Rattle.top_call.proofs.Ends.{ends_so}
use Rattle.top_call.proofs.words.own_texts.write_own_text.Goals as goal

pub returns : goal.returns
returns g c bytes = ends_so (text_job c.args.text.now) bytes _ _ _ _ c.write_text.ensures refl
