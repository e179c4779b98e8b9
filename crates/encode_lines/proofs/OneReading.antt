-- An encode line asks for one thing at most, or is faulty for one reason, and not both.
use Rattle.std.proofs.Common.{rules, ◌≡◌, ℕ, ◌≤◌, List, [], ◌∷◌, drop, refl, sym, ◌∙◌, subst, arith, inl, inr}
use Rattle.std.specs.Fmt.{decimal}
use Rattle.text_fields.specs.Lines.{fields_of}
use Rattle.text_fields.specs.Binary.{binary, binary_digit}
use Rattle.text_fields.specs.CodeNames.{code_word}
use Rattle.text_fields.proofs.FieldTextLaws.{IsFieldText-decimal, IsFieldText-binary}
use Rattle.text_fields.proofs.ToldApart.{decimal_told, binary_told}
use Rattle.text_fields.proofs.FilledFields.{Filled, none_filled, one_more}
use Rattle.wire_text.specs.CommandText.{commands}
use Rattle.wire_text.proofs.CommandTexts.{command_told}
use Rattle.wire_text.proofs.CommandFieldTexts.{bit_is, code_is}
use Rattle.wire_text.proofs.NameLists.{told}
use Rattle.wire_text.proofs.CommandsToldApart.{code_told, digit_told}
use Rattle.wire_text.specs.ReplyText.{expect_word, reply_fields, replies}
use Rattle.wire_text.proofs.ReplyTexts.{reply_told}
use Rattle.wire_text.proofs.ExpectationFieldTexts.{expect_word_is_field_text}
use Rattle.wire_text.proofs.ExpectationsToldApart.{expect_told}
use Rattle.pie_line.specs.declared.frame.Lead.{Lead}
use Rattle.pie_line.specs.declared.frame.Lead.TheVariants.{Preamble, FrameSync}
use Rattle.checked_lines.specs.declared.fault.FaultReason.{FaultReason}
use Rattle.checked_lines.specs.declared.fault.FaultReason.TheVariants.{Word, Shape, Number}
use Rattle.checked_lines.specs.laws.OneLine.{TellLines}
use Rattle.encode_lines.proofs.ReadFields.{six_filled}
use Rattle.encode_lines.proofs.Shapes.{command_shape, reply_shape, shaped}
use Rattle.encode_lines.specs.EncodeLines.{encode_rules}
use Rattle.encode_lines.specs.Request.{all_encode_kinds, kind_found, lead_word, kind_word, encode_request_kind, request_fields, AreDurations, IsWithinEncodeLimits, AsksToEncodeBehind, AsksToEncode, NamesNone, HasEncodeShape, AreFaultyToEncode, HasFaultyFieldsToEncode, IsFaultyToEncode}
use Rattle.encode_lines.specs.declared.request.Durations.{Durations}
use Rattle.encode_lines.specs.declared.request.LineKind.{LineKind}
use Rattle.encode_lines.specs.declared.request.LineKind.TheVariants.{Stream as StreamKind, Pie as PieKind, Command as CommandKind, Reply as ReplyKind, Heard as HeardKind}
use Rattle.encode_lines.specs.declared.request.Request.{Request}
use Rattle.encode_lines.specs.declared.request.Request.TheVariants.{Stream, Pie, Command, Reply, Heard}

-- a first field says one kind
kind_told : (one other : LineKind) → kind_word one ≡ kind_word other → one ≡ other
kind_told = told kind_word all_encode_kinds kind_found

-- two readings of fields are one
one_reading : (kind kind' : LineKind) (others others' : List (List ℕ)) → kind_word kind ∷ others ≡ kind_word kind' ∷ others' → (kind ≡ kind') × (others ≡ others')
one_reading kind kind' others others' same =
    let words : kind_word kind ≡ kind_word kind' = cc in
    let rest : others ≡ others' = cc in
    (kind_told kind kind' words, rest)

lead_told : (one other : Lead) → lead_word one ≡ lead_word other → one ≡ other
lead_told Preamble Preamble same = refl
lead_told FrameSync FrameSync same = refl
lead_told one other same = cc

duration_told : (one other : ℕ) → one ≤ 999999 → other ≤ 999999 → decimal one ≡ decimal other → one ≡ other
duration_told one other few few' = decimal_told one other (omega arith) (omega arith)

durations_told : (one other : Durations) → AreDurations one → AreDurations other → decimal one.tari ≡ decimal other.tari → decimal one.rtcal ≡ decimal other.rtcal
    → decimal one.trcal ≡ decimal other.trcal → decimal one.pw ≡ decimal other.pw → one ≡ other
durations_told one other are are' tari rtcal trcal pw =
    let a = duration_told one.tari other.tari are.0 are'.0 tari in
    let b = duration_told one.rtcal other.rtcal are.1 are'.1 rtcal in
    let c = duration_told one.trcal other.trcal are.2 are'.2 trcal in
    let d = duration_told one.pw other.pw are.3 are'.3 pw in
    let whole : ◌≡◌ {A = Durations} (record { tari = one.tari; rtcal = one.rtcal; trcal = one.trcal; pw = one.pw })
    (record { tari = other.tari; rtcal = other.rtcal; trcal = other.trcal; pw = other.pw }) = cc in
    whole

-- the fields behind the first spell one request of a kind
same_behind : (one other : Request) (others : List (List ℕ)) → encode_request_kind one ≡ encode_request_kind other → others ≡ request_fields one → others ≡ request_fields other
    → IsWithinEncodeLimits one → IsWithinEncodeLimits other → one ≡ other
same_behind (Stream code trext bits) (Stream code' trext' bits') others kinds spelled spelled' within within' =
    let fields : (binary_digit trext ∷ []) ∷ binary bits ∷ [] ≡ (binary_digit trext' ∷ []) ∷ binary bits' ∷ [] = sym spelled ∙ spelled' in
    let e : trext ≡ trext' = digit_told trext trext' (cc) in
    let f : bits ≡ bits' = binary_told bits bits' (cc) in
    cc
same_behind (Pie one lead bits) (Pie other lead' bits') others kinds spelled spelled' within within' =
    let fields : decimal one.tari ∷ decimal one.rtcal ∷ decimal one.trcal ∷ decimal one.pw ∷ lead_word lead ∷ binary bits ∷ []
    ≡ decimal other.tari ∷ decimal other.rtcal ∷ decimal other.trcal ∷ decimal other.pw ∷ lead_word lead' ∷ binary bits' ∷ [] = sym spelled ∙ spelled' in
    let d : one ≡ other = durations_told one other within.0 within'.0 (cc) (cc) (cc) (cc) in
    let e : lead ≡ lead' = lead_told lead lead' (cc) in
    let f : bits ≡ bits' = binary_told bits bits' (cc) in
    cc
same_behind (Command command) (Command command') others kinds spelled spelled' within within' =
    let e : command ≡ command' = command_told others command command' (record { in_range = within; spelling = spelled }) (record { in_range = within'; spelling = spelled' }) in
    cc
same_behind (Reply expect reply) (Reply expect' reply') others kinds spelled spelled' within within' =
    let fields : expect_word expect ∷ reply_fields reply ≡ expect_word expect' ∷ reply_fields reply' = sym spelled ∙ spelled' in
    let e : expect ≡ expect' = expect_told expect expect' within.0 within'.0 (cc) in
    let f : reply ≡ reply' = reply_told (reply_fields reply) reply reply' (record { in_range = within.1; spelling = refl }) (record { in_range = within'.1; spelling = cc }) in
    cc
same_behind (Heard code trext expect reply) (Heard code' trext' expect' reply') others kinds spelled spelled' within within' =
    let fields : code_word code ∷ (binary_digit trext ∷ []) ∷ expect_word expect ∷ reply_fields reply
    ≡ code_word code' ∷ (binary_digit trext' ∷ []) ∷ expect_word expect' ∷ reply_fields reply' = sym spelled ∙ spelled' in
    let e : code ≡ code' = code_told code code' (cc) in
    let f : trext ≡ trext' = digit_told trext trext' (cc) in
    let g : expect ≡ expect' = expect_told expect expect' within.0 within'.0 (cc) in
    let h : reply ≡ reply' = reply_told (reply_fields reply) reply reply' (record { in_range = within.1; spelling = refl }) (record { in_range = within'.1; spelling = cc }) in
    cc
same_behind one other others kinds spelled spelled' within within' = cc

-- a line asks for one thing
same_request : (line : List ℕ) (one other : Request) → AsksToEncode line one → AsksToEncode line other → one ≡ other
same_request line one other left right =
    let read = one_reading left.kind right.kind left.others right.others (sym left.fields ∙ right.fields) in
    same_behind one other left.others (sym left.asks.same_kind ∙ read.0 ∙ right.asks.same_kind)
    left.asks.spelling (read.1 ∙ right.asks.spelling) left.asks.limits right.asks.limits

lead_filled : (lead : Lead) → Filled (lead_word lead)
lead_filled Preamble none = cc
lead_filled FrameSync none = cc

number_filled : (n : ℕ) → n ≤ 999999 → Filled (decimal n)
number_filled n few = (IsFieldText-decimal n (omega arith)).filled

-- the fields of a request have the shape that its kind wants
request_shape : (request : Request) (others : List (List ℕ)) → others ≡ request_fields request → IsWithinEncodeLimits request → HasEncodeShape (encode_request_kind request) others
request_shape (Stream code trext bits) others spelling limits =
    rw spelling (one_more 1 (binary_digit trext ∷ []) (binary bits ∷ []) (bit_is trext).filled (one_more 0 (binary bits) [] (IsFieldText-binary bits).filled none_filled))
request_shape (Pie link lead bits) others spelling limits =
    rw spelling (
    six_filled (decimal link.tari) (decimal link.rtcal) (decimal link.trcal) (decimal link.pw) (lead_word lead) (binary bits) (number_filled link.tari limits.0.0)
    (number_filled link.rtcal limits.0.1) (number_filled link.trcal limits.0.2) (number_filled link.pw limits.0.3) (lead_filled lead) (IsFieldText-binary bits).filled
    )
request_shape (Command command) others spelling limits = command_shape others command (record { in_range = limits; spelling = spelling })
request_shape (Reply expect reply) others spelling limits =
    rw spelling (
      one_more 0 (expect_word expect) [] (expect_word_is_field_text expect limits.0).filled none_filled,
      reply_shape (reply_fields reply) reply (record { in_range = limits.1; spelling = refl }),
    )
request_shape (Heard code trext expect reply) others spelling limits =
    rw spelling (
      one_more 2 (code_word code) ((binary_digit trext ∷ []) ∷ expect_word expect ∷ []) (code_is code).filled
          (one_more 1 (binary_digit trext ∷ []) (expect_word expect ∷ []) (bit_is trext).filled
          (one_more 0 (expect_word expect) [] (expect_word_is_field_text expect limits.0).filled none_filled)),
      reply_shape (reply_fields reply) reply (record { in_range = limits.1; spelling = refl }),
    )

-- fields of the right shape have the name of something where one has to stand
shaped_named : (kind : LineKind) (others : List (List ℕ)) → HasEncodeShape kind others → ¬ NamesNone kind others
shaped_named (StreamKind code) others shape none = none
shaped_named PieKind others shape none = none
shaped_named CommandKind others shape none = shaped commands others shape none
shaped_named ReplyKind others shape none = shaped replies (drop 1 others) shape.1 none
shaped_named HeardKind others shape none = shaped replies (drop 3 others) shape.1 none

-- fields that ask for something are not faulty
asked_not_faulty : (request : Request) (kind : LineKind) (others : List (List ℕ)) (reason : FaultReason) → AsksToEncodeBehind kind others request → AreFaultyToEncode kind others reason → ⊥
asked_not_faulty request kind others Number asks faulty = faulty.1 request asks
asked_not_faulty request kind others Word asks faulty =
    shaped_named kind others (subst (λ k. HasEncodeShape k others) (sym asks.same_kind) (request_shape request others asks.spelling asks.limits)) faulty
asked_not_faulty request kind others Shape asks faulty =
    faulty.1 (subst (λ k. HasEncodeShape k others) (sym asks.same_kind) (request_shape request others asks.spelling asks.limits))
asked_not_faulty request kind others reason asks faulty = faulty

-- ... behind another reading of the first field
behind_not_faulty : (line : List ℕ) (request : Request) (reason : FaultReason) → AsksToEncode line request → HasFaultyFieldsToEncode (fields_of line) reason → ⊥
behind_not_faulty line request reason asks faulty =
    let read = one_reading asks.kind faulty.kind asks.others faulty.others (sym asks.fields ∙ faulty.first) in
    asked_not_faulty request faulty.kind faulty.others reason (subst (λ k. AsksToEncodeBehind k faulty.others request) read.0 (subst (λ o. AsksToEncodeBehind asks.kind o request) read.1 asks.asks)) faulty.faulty

pub not_faulty : (line : List ℕ) (request : Request) (reason : FaultReason) → AsksToEncode line request → IsFaultyToEncode (fields_of line) reason → ⊥
not_faulty line request Word asks (inl none) = none asks.kind asks.others asks.fields
not_faulty line request Word asks (inr faulty) = behind_not_faulty line request Word asks faulty
not_faulty line request reason asks faulty = behind_not_faulty line request reason asks faulty

-- the fields behind the first are faulty for one reason
same_fault : (kind : LineKind) (others : List (List ℕ)) (one other : FaultReason) → AreFaultyToEncode kind others one → AreFaultyToEncode kind others other → one ≡ other
same_fault kind others Word Word left right = refl
same_fault kind others Shape Shape left right = refl
same_fault kind others Number Number left right = refl
same_fault kind others one other left right = absurd (search rules)

same_fault_behind : (fields : List (List ℕ)) (one other : FaultReason) → HasFaultyFieldsToEncode fields one → HasFaultyFieldsToEncode fields other → one ≡ other
same_fault_behind fields one other left right =
    let read = one_reading left.kind right.kind left.others right.others (sym left.first ∙ right.first) in
    same_fault right.kind right.others one other (subst (λ k. AreFaultyToEncode k right.others one) read.0 (subst (λ o. AreFaultyToEncode left.kind o one) read.1 left.faulty)) right.faulty

same_reason : (fields : List (List ℕ)) (one other : FaultReason) → IsFaultyToEncode fields one → IsFaultyToEncode fields other → one ≡ other
same_reason fields Word Word left right = refl
same_reason fields Word other (inl none) right = absurd (none right.kind right.others right.first)
same_reason fields Word other (inr faulty) right = same_fault_behind fields Word other faulty right
same_reason fields one Word left (inl none) = absurd (none left.kind left.others left.first)
same_reason fields one Word left (inr faulty) = same_fault_behind fields one Word left faulty
same_reason fields one other left right = same_fault_behind fields one other left right

pub tell_lines : TellLines encode_rules
tell_lines = record { one_request = same_request; one_reason = same_reason; not_faulty = not_faulty }
