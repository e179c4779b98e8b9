use Rattle.std.proofs.Common.{◌≡◌, ℕ, List, [], ◌∷◌, ◌++◌, refl, ap, ◌∙◌}
use Rattle.std.proofs.lemmas.Str.{IsUtf8-append}
use Rattle.std.specs.Prelude.{OnOk, Result, Ok, Err, if◌then◌else◌}
use Rattle.std.specs.Result.{is_ok}
use Rattle.std.specs.String.{string_bytes}
use Rattle.json.proofs.Printed.Utf8.{IsUtf8-are_ascii}
use Rattle.text_fields.specs.Lines.{line_feed}
use Rattle.report_lines.proofs.json_shapes.push_object.Goals as goal

pub from_utf8_unchecked-line-requires : goal.from_utf8_unchecked-line-requires
from_utf8_unchecked-line-requires g c =
    let bytes = c.in-Ok.line.items in
    rw c.in_ok-push.ensures.items (IsUtf8-append bytes (10 ∷ []) (c.requires.utf8 bytes c.in-Ok.ensures.events) (IsUtf8-are_ascii (10 ∷ []) refl))

if_added : {T E Q : Type 0} (r : Result T E) (new all old : List ℕ) → new ≡ (if is_ok r then all else old) → (new ≡ all → Q) → OnOk r Q
if_added (Ok done) new all old is holds = holds is
if_added (Err error) new all old is holds = tt

-- the line is added to the text
pub returns : goal.returns
returns g c =
    let bytes = c.in-Ok.line.items in
    let value = c.from_utf8_unchecked-line.ensures.value in
    let pushed = c.in_ok-push.ensures.items in
    let line : string_bytes c.from_utf8_unchecked-line.result ≡ bytes ++ line_feed ∷ [] = cc in
    if_added c.push_str.result (string_bytes c.push_str.new.self) (string_bytes c.args.text.now ++ c.as_str.result.now) (string_bytes c.args.text.now) c.push_str.ensures.bytes
    (λ added. (bytes, c.in-Ok.ensures.events, added ∙ ap (λ (more : List ℕ). string_bytes c.args.text.now ++ more) (c.as_str.ensures.value ∙ line)))
