use Rattle.reply_wire.specs.laws.Codes.{code_even, code_has_lead, code_tells, code_refuses_flips}
use Rattle.reply_wire.proofs.Preambles.{preambles_differ, code_has_one_preamble, code_keeps_preamble, code_hides_lead}
use Rattle.reply_wire.proofs.line_code_laws.code_laws.Goals as goal

pub returns : goal.returns
returns c = record {
  even = code_even;
  has_lead = code_has_lead;
  tells_bits = code_tells;
  refuses_flips = code_refuses_flips;
  hides_lead = code_hides_lead;
  preambles_differ = preambles_differ;
  one_preamble = code_has_one_preamble;
  keeps_preamble = code_keeps_preamble;
}
