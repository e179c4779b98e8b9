use Rattle.top_call.proofs.PortalEnds.{text_of}
use Rattle.top_call.proofs.words.portals.portals_inputs_have_a_text.Goals as goal

pub returns : goal.returns
returns c bytes = text_of bytes (c.texts_are_scenarios_or_faulty.ensures bytes)
