-- Profile: what `encode` writes for what a line asks for: the fields of the line that `decode` reads, or of a refusal.
use Rattle.std.specs.Prelude.{◌≡◌, ◌⊎◌, ℕ, Bool, false, List, [], ◌∷◌, map, codes}
use Rattle.std.specs.Fmt.{decimal}
use Rattle.bit_strings.specs.declared.code.Code.TheVariants.{Fm0}
use Rattle.text_fields.specs.Binary.{binary, binary_digit}
use Rattle.text_fields.specs.CodeNames.{code_word}
use Rattle.line_code.specs.Stream.{stream_of}
use Rattle.reply_wire.specs.Codes.{table_of}
use Rattle.pie_line.specs.Link.{LinkValue, IsLegalLink}
use Rattle.pie_line.specs.LinkRefusal.{IsFirstBroken}
use Rattle.pie_line.specs.Pie.{wave_of}
use Rattle.pie_line.specs.declared.frame.Lead.{Lead}
use Rattle.pie_line.specs.declared.link.LinkRefusal.{LinkRefusal}
use Rattle.pie_line.specs.declared.link.LinkRefusal.TheVariants.{Tari, RtCal, TrCal, Pw}
use Rattle.command_grammar.specs.Commands.{spelling_of}
use Rattle.reply_grammar.specs.Replies.{CanBeSent, Suits, handle_of, spelling}
use Rattle.reply_grammar.specs.declared.expected.Expect.{Expect}
use Rattle.reply_grammar.specs.declared.expected.Reply.{Reply}
use Rattle.wire_text.specs.ReplyText.{expect_word}
use Rattle.encode_lines.specs.declared.request.Durations.{Durations}
use Rattle.encode_lines.specs.declared.request.Request.{Request}
use Rattle.encode_lines.specs.declared.request.Request.TheVariants.{Stream, Pie, Command, Reply as ReplyLine, Heard}

-- the link with these durations; its divide ratio, code and TRext make no difference to a wave
abbrev pub link_of : Durations → LinkValue
link_of durations =
    record { tari = durations.tari; rtcal = durations.rtcal; trcal = durations.trcal; pw = durations.pw; dr = false; code = Fm0; trext = false }

-- the duration that is refused
abbrev pub refusal_word : LinkRefusal → List ℕ
refusal_word Tari = codes "tari"
refusal_word RtCal = codes "rtcal"
refusal_word TrCal = codes "trcal"
refusal_word Pw = codes "pw"

-- the reply is one that is allowed where this is expected: of its kind, with so many words, with this handle, and an EPC has as
-- many words as the first five bits of its PC say
abbrev pub IsAllowedReply : Expect → Reply → Type 0
IsAllowedReply expect reply = Suits reply expect × CanBeSent reply

-- the bits of a reply, with the handle that is expected in an error, in a header and behind words
abbrev pub reply_bits : Expect → Reply → List Bool
reply_bits expect reply = spelling reply (handle_of expect)

-- the fields of a refusal
abbrev pub refused_fields : List ℕ → List (List ℕ)
refused_fields what = codes "refused" ∷ what ∷ []

-- the fields are those of a frame over this link
pub record IsWave (link : LinkValue) (lead : Lead) (bits : List Bool) (fields : List (List ℕ)) : Type 0 where
  pub legal : IsLegalLink link
  pub wave : fields ≡ codes "pie" ∷ map decimal (wave_of link lead bits)

-- the fields refuse the first duration that is out of its range
pub record RefusesLink (durations : Durations) (fields : List (List ℕ)) : Type 0 where
  pub refusal : LinkRefusal
  pub broken : IsFirstBroken refusal durations.tari durations.rtcal durations.trcal durations.pw
  pub refused : fields ≡ refused_fields (refusal_word refusal)

-- the fields are these where the reply is allowed, and a refusal where it isn't
abbrev pub AreOfReply : Expect → Reply → List (List ℕ) → List (List ℕ) → Type 0
AreOfReply expect reply written fields = (IsAllowedReply expect reply × (fields ≡ written)) ⊎ ((¬ IsAllowedReply expect reply) × (fields ≡ refused_fields (codes "reply")))

-- what is written for each request
abbrev pub AreWritten : Request → List (List ℕ) → Type 0
AreWritten (Stream code trext bits) fields = fields ≡ code_word code ∷ (binary_digit trext ∷ []) ∷ binary (stream_of (table_of code) trext bits) ∷ []
AreWritten (Pie durations lead bits) fields = IsWave (link_of durations) lead bits fields ⊎ RefusesLink durations fields
AreWritten (Command command) fields = fields ≡ codes "command" ∷ binary (spelling_of command) ∷ []
AreWritten (ReplyLine expect reply) fields = AreOfReply expect reply (codes "reply" ∷ expect_word expect ∷ binary (reply_bits expect reply) ∷ []) fields
AreWritten (Heard code trext expect reply) fields =
    AreOfReply expect reply (codes "heard" ∷ code_word code ∷ (binary_digit trext ∷ []) ∷ expect_word expect ∷ binary (stream_of (table_of code) trext (reply_bits expect reply)) ∷ []) fields
