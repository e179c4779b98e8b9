-- The parts are written one behind the other.
use Rattle.std.proofs.Common.{◌∙◌, subst}
use Rattle.epc_sgtin.specs.Uri.{IsUriOf}
use Rattle.epc_sgtin.proofs.UriReading.{uri_written}
use Rattle.epc_sgtin.proofs.value.Sgtin.write_uri.Goals as goal

pub returns : goal.returns
returns c =
    subst (λ sgtin. IsUriOf sgtin c.push_digits-3.new.bytes.items) c.self.view_is
    (uri_written _ c.digit_count.result c.push_digits-3.new.bytes.items c.self.invariant c.digit_count.ensures.spelled
    (c.push_digits-3.ensures.bytes
    ∙ rw (c.push-4.ensures.items, c.push_digits-2.ensures.bytes, c.push-3.ensures.items, c.push_digits.ensures.bytes, c.push-2.ensures.items, c.push.ensures.items, c.push_bytes.ensures.bytes, c.clear.ensures, c.from.ensures, c.from-2.ensures, c.from-3.ensures)))
