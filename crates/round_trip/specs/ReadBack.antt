-- Profile: what `decode` answers to the lines that `encode` writes.
use Rattle.std.specs.Prelude.{◌≡◌, ◌⊎◌, ℕ, List, [], ◌∷◌, ◌++◌, codes}
use Rattle.std.specs.List.{AllZip, flat_map}
use Rattle.text_fields.specs.Binary.{binary}
use Rattle.text_fields.specs.Lines.{line_feed}
use Rattle.pie_line.specs.Pie.{frame_kind_of}
use Rattle.pie_text.specs.PieText.{frame_line}
use Rattle.wire_text.specs.CommandText.{command_line}
use Rattle.wire_text.specs.ReplyText.{reply_line}
use Rattle.checked_lines.specs.LineRules.{AskFor}
use Rattle.decode_lines.specs.DecodeLines.{Decodes}
use Rattle.encode_lines.specs.EncodeLines.{encode_rules, written_line}
use Rattle.encode_lines.specs.Written.{AreWritten, link_of, refused_fields}
use Rattle.encode_lines.specs.declared.request.Request.{Request}
use Rattle.encode_lines.specs.declared.request.Request.TheVariants.{Stream, Pie, Command, Reply, Heard}

-- what was read, as `decode` answers it: the bits, the frame's durations and bits, the command, or the reply
abbrev pub read_line : Request → List ℕ
read_line (Stream code trext bits) = codes "bits " ++ binary bits
read_line (Pie durations lead bits) = frame_line (frame_kind_of (link_of durations) lead) bits
read_line (Command command) = command_line command
read_line (Reply expect reply) = reply_line reply
read_line (Heard code trext expect reply) = reply_line reply

-- the line with these fields, which is written for the request, is a refusal, or `decode` answers it with what was read
abbrev pub IsReadBack : Request → List (List ℕ) → Type 0
IsReadBack request fields = ((what : List ℕ) × (fields ≡ refused_fields what)) ⊎ Decodes (written_line fields) (read_line request ++ line_feed ∷ [])

-- the text is the encoded lines of the bytes, and `decode` reads back each of them but the refusals
pub record ComesBack (bytes text : List ℕ) : Type 0 where
  pub requests : List Request
  pub asks : AskFor encode_rules bytes requests
  pub written : List (List (List ℕ))
  pub each : AllZip AreWritten requests written
  pub lines : text ≡ flat_map written_line written
  pub back : AllZip IsReadBack requests written
