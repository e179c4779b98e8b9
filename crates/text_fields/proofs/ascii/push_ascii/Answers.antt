-- Bytes of ASCII are the bytes of a text.
use Rattle.std.proofs.lemmas.Str.{IsUtf8-from_ascii}
use Rattle.text_fields.proofs.ascii.push_ascii.Goals as goal

pub from_utf8_unchecked-letters-requires : goal.from_utf8_unchecked-letters-requires
from_utf8_unchecked-letters-requires c = IsUtf8-from_ascii c.args.bytes.now c.requires
