use Rattle.top_call.proofs.PortalNames.{◌≡◌, take, flat_map, string_bytes, portal_line_text}
use Rattle.top_call.proofs.portal_text.portals_text.Given as goal

abbrev pub invariant-loop-line : goal.invariant-loop-line
invariant-loop-line l = string_bytes l.text ≡ flat_map portal_line_text (take l.line-index l.lines)
