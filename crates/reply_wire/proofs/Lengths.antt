-- How many levels a stream has in the code that was found.
use Rattle.std.proofs.Common.{◌≡◌, ◌+◌, ◌*◌, ◌≤◌, Bool, List, length, sym, ◌∙◌, ap, subst}
use Rattle.bit_strings.specs.declared.code.Code.{Code}
use Rattle.line_code.specs.TableFacts.{longest_lead}
use Rattle.line_code.specs.Stream.{IsStream, stream_of}
use Rattle.reply_wire.specs.Codes.{table_of, chips_of}
use Rattle.reply_wire.specs.laws.Codes.{length-stream, stream_most}

same_stream : (code found : Code) (trext : Bool) (bits levels : List Bool) → code ≡ found → IsStream (table_of found) trext bits levels → levels ≡ stream_of (table_of code) trext bits
same_stream code found trext bits levels is stream = stream ∙ ap (λ (c : Code). stream_of (table_of c) trext bits) (sym is)

pub exact : (code found : Code) (trext : Bool) (bits levels : List Bool) → code ≡ found → IsStream (table_of found) trext bits levels
    → length levels ≡ length ((table_of code).lead trext) + chips_of code * (length bits + 1)
exact code found trext bits levels is stream = ap (λ (l : List Bool). length l) (same_stream code found trext bits levels is stream) ∙ length-stream code trext bits

pub most : (code found : Code) (trext : Bool) (bits levels : List Bool) → code ≡ found → IsStream (table_of found) trext bits levels
    → length levels ≤ longest_lead + 16 * (length bits + 1)
most code found trext bits levels is stream =
    let P : List Bool → Type 0 = λ l. length l ≤ longest_lead + 16 * (length bits + 1) in
    subst P (sym (same_stream code found trext bits levels is stream)) (stream_most code trext bits)
