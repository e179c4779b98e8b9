-- Profile: the decode lines. A line is a list of fields; the first says what is asked for.
use Rattle.std.specs.Prelude.{◌≡◌, ◌≢◌, ℕ, ◌^◌, ◌<◌, ◌≤◌, List, [], ◌∷◌, length, map, codes, Ok, refl}
use Rattle.std.specs.List.{All}
use Rattle.std.specs.Fmt.{decimal}
use Rattle.hex.specs.Hex.{decode_of}
use Rattle.text_fields.specs.Lines.{fields_of}
use Rattle.text_fields.specs.Binary.{binary, binary_digit}
use Rattle.text_fields.specs.Hexadecimal.{hex_words}
use Rattle.text_fields.specs.CodeNames.{code_word}
use Rattle.bit_strings.specs.declared.code.Code.TheVariants.{Fm0, M2, M4, M8}
use Rattle.wire_text.specs.NameLists.{EachFound}
use Rattle.wire_text.specs.ReplyText.{expect_word, IsExpect}
use Rattle.decode_lines.specs.declared.request.RequestKind.{RequestKind}
use Rattle.decode_lines.specs.declared.request.RequestKind.TheVariants.{Stream as StreamKind, Samples as SamplesKind, Reply as ReplyKind, Heard as HeardKind, Pie as PieKind, Command as CommandKind, Sgtin as SgtinKind, Uri as UriKind}
use Rattle.decode_lines.specs.declared.request.Request.{Request}
use Rattle.decode_lines.specs.declared.request.Request.TheVariants.{Stream, Samples, Reply, Heard, Pie, Command, Sgtin, Uri}
use Rattle.checked_lines.specs.declared.fault.FaultReason.{FaultReason}
use Rattle.checked_lines.specs.declared.fault.FaultReason.TheVariants.{Word, Shape, Number}
use Rattle.pie_line.specs.Pie.{longest_interval}
use Rattle.sample_slicer.specs.Samples.{most_samples}

-- the most bits of a reply or a command
abbrev pub most_wire_bits : ℕ
most_wire_bits = 8240

-- the most intervals of a frame
abbrev pub most_intervals : ℕ
most_intervals = 20000

-- the most levels of a stream
abbrev pub most_levels : ℕ
most_levels = 132000

-- the first field of a decode line of this kind
abbrev pub request_word : RequestKind → List ℕ
request_word (StreamKind code) = code_word code
request_word SamplesKind = codes "samples"
request_word ReplyKind = codes "reply"
request_word HeardKind = codes "heard"
request_word PieKind = codes "pie"
request_word CommandKind = codes "command"
request_word SgtinKind = codes "sgtin"
request_word UriKind = codes "uri"

-- all kinds of decode lines, each of which has a word of its own
abbrev pub all_request_kinds : List RequestKind
all_request_kinds =
    UriKind ∷ SgtinKind ∷ CommandKind ∷ PieKind ∷ ReplyKind ∷ HeardKind ∷ SamplesKind ∷ StreamKind Fm0 ∷ StreamKind M2 ∷ StreamKind M4 ∷ StreamKind M8 ∷ []

-- each kind of decode lines is the first of all kinds with its word
pub request_kind_found : EachFound request_word all_request_kinds
request_kind_found (StreamKind Fm0) = refl
request_kind_found (StreamKind M2) = refl
request_kind_found (StreamKind M4) = refl
request_kind_found (StreamKind M8) = refl
request_kind_found kind = refl

-- how many fields may stand behind the first
abbrev pub MayHave : RequestKind → ℕ → Type 0
MayHave (StreamKind code) count = count ≡ 2
MayHave SamplesKind count = count ≡ 3
MayHave ReplyKind count = count ≡ 2
MayHave HeardKind count = count ≡ 4
MayHave PieKind count = (1 ≤ count) × (count ≤ most_intervals)
MayHave CommandKind count = count ≡ 1
MayHave SgtinKind count = count ≡ 1
MayHave UriKind count = count ≡ 1

-- the fields of a decode line behind the first: their number is right, and none is empty
abbrev pub HasDecodeShape : RequestKind → List (List ℕ) → Type 0
HasDecodeShape kind others = MayHave kind (length others) × All (λ field. field ≢ []) others

-- the kind of the decode line of a request, which its first field says
abbrev pub decode_request_kind : Request → RequestKind
decode_request_kind (Stream code trext levels) = StreamKind code
decode_request_kind (Samples threshold per_level samples) = SamplesKind
decode_request_kind (Reply expect bits) = ReplyKind
decode_request_kind (Heard code trext expect levels) = HeardKind
decode_request_kind (Pie intervals) = PieKind
decode_request_kind (Command bits) = CommandKind
decode_request_kind (Sgtin words) = SgtinKind
decode_request_kind (Uri text) = UriKind

-- The fields behind the first spell the request. Sample bytes are hexadecimal digits of either case; all else has one
-- spelling.
abbrev pub AreSpelled : Request → List (List ℕ) → Type 0
AreSpelled (Stream code trext levels) others = others ≡ (binary_digit trext ∷ []) ∷ binary levels ∷ []
AreSpelled (Samples threshold per_level samples) others =
    (digits : List ℕ) × (others ≡ decimal threshold ∷ decimal per_level ∷ digits ∷ []) × (decode_of digits ≡ Ok samples)
AreSpelled (Reply expect bits) others = others ≡ expect_word expect ∷ binary bits ∷ []
AreSpelled (Heard code trext expect levels) others = others ≡ code_word code ∷ (binary_digit trext ∷ []) ∷ expect_word expect ∷ binary levels ∷ []
AreSpelled (Pie intervals) others = others ≡ map decimal intervals
AreSpelled (Command bits) others = others ≡ binary bits ∷ []
AreSpelled (Sgtin words) others = others ≡ hex_words words ∷ []
AreSpelled (Uri text) others = others ≡ text ∷ []

-- the limits on the numbers and lists of a line
abbrev pub IsWithinDecodeLimits : Request → Type 0
IsWithinDecodeLimits (Stream code trext levels) = length levels ≤ most_levels
IsWithinDecodeLimits (Samples threshold per_level samples) =
    (threshold ≤ 255) × (1 ≤ per_level) × (per_level ≤ 64) × (1 ≤ length samples) × (length samples ≤ most_samples)
IsWithinDecodeLimits (Reply expect bits) = IsExpect expect × (length bits ≤ most_wire_bits)
IsWithinDecodeLimits (Heard code trext expect levels) = IsExpect expect × (length levels ≤ most_levels)
IsWithinDecodeLimits (Pie intervals) = (1 ≤ length intervals) × (length intervals ≤ most_intervals) × All (λ interval. interval ≤ longest_interval) intervals
IsWithinDecodeLimits (Command bits) = length bits ≤ most_wire_bits
IsWithinDecodeLimits (Sgtin words) = (1 ≤ length words) × (length words ≤ 31) × All (λ word. word < 2 ^ 16) words
IsWithinDecodeLimits (Uri text) = text ≢ []

-- behind a first field of this kind, these other fields of a decode line ask for this request
pub record AsksToDecodeBehind (kind : RequestKind) (others : List (List ℕ)) (request : Request) : Type 0 where
  pub same_kind : kind ≡ decode_request_kind request
  pub spelling : AreSpelled request others
  pub limits : IsWithinDecodeLimits request

-- the decode line asks for this request
pub record AsksToDecode (line : List ℕ) (request : Request) : Type 0 where
  pub kind : RequestKind
  pub others : List (List ℕ)
  pub fields : fields_of line ≡ request_word kind ∷ others
  pub asks : AsksToDecodeBehind kind others request

-- the first reason for which the fields of a decode line behind the first ask for nothing
abbrev pub AreFaultyToDecode : RequestKind → List (List ℕ) → FaultReason → Type 0
-- the number of the decode line's other fields is wrong, or one of them is empty
AreFaultyToDecode kind others Shape = ¬ HasDecodeShape kind others
-- the other fields of the decode line are there, and one of them isn't of its form, range or length: they ask for nothing
AreFaultyToDecode kind others Number = HasDecodeShape kind others × ((request : Request) → ¬ AsksToDecodeBehind kind others request)
AreFaultyToDecode kind others reason = ⊥

-- the first reason for which the fields of a line that has its line feed ask for nothing to decode
abbrev pub IsFaultyToDecode : List (List ℕ) → FaultReason → Type 0
-- the first field is none that a decode line may begin with
IsFaultyToDecode fields Word = (kind : RequestKind) (others : List (List ℕ)) → fields ≢ request_word kind ∷ others
IsFaultyToDecode fields reason =
    (kind : RequestKind) × (others : List (List ℕ)) × (fields ≡ request_word kind ∷ others) × AreFaultyToDecode kind others reason
