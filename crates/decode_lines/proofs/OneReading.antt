-- A decode line asks for one thing at most, or is faulty for one reason, and not both.
use Rattle.std.proofs.Common.{◌≡◌, ◌≢◌, ℕ, List, [], ◌∷◌, length, map, refl, sym, ◌∙◌, arith, subst, ◌≤◌, Ok, rules}
use Rattle.std.proofs.lemmas.List.Elements.{All-nil, All-cons, All-head, All-tail}
use Rattle.std.proofs.lemmas.List.{length-map}
use Rattle.wire_text.specs.ReplyText.{expect_word}
use Rattle.wire_text.proofs.ExpectationFieldTexts.{expect_word_is_field_text}
use Rattle.std.specs.List.{All}
use Rattle.text_fields.specs.Lines.{fields_of}
use Rattle.text_fields.specs.Binary.{binary, binary_digit}
use Rattle.text_fields.specs.CodeNames.{code_word}
use Rattle.wire_text.proofs.CommandFieldTexts.{bit_is, code_is}
use Rattle.wire_text.proofs.NameLists.{told}
use Rattle.hex.specs.Hex.{decode_of}
use Rattle.hex.proofs.OnLiterals.{hex_on_literals}
use Rattle.std.specs.Fmt.{decimal}
use Rattle.text_fields.proofs.FieldTextLaws.{IsFieldText-decimal, IsFieldText-binary, IsFieldText-hex_words}
use Rattle.text_fields.specs.Hexadecimal.{hex_words}
use Rattle.decode_lines.specs.Request.{all_request_kinds, most_intervals, request_kind_found, request_word, HasDecodeShape, decode_request_kind, AreSpelled, IsWithinDecodeLimits, AsksToDecodeBehind, AsksToDecode, AreFaultyToDecode, IsFaultyToDecode}
use Rattle.decode_lines.specs.declared.request.RequestKind.{RequestKind}
use Rattle.decode_lines.specs.declared.request.Request.{Request}
use Rattle.decode_lines.specs.declared.request.Request.TheVariants.{Stream, Samples, Reply, Heard, Pie, Command, Sgtin, Uri}
use Rattle.checked_lines.specs.declared.fault.FaultReason.{FaultReason}
use Rattle.checked_lines.specs.declared.fault.FaultReason.TheVariants.{Word, Shape, Number}
use Rattle.pie_line.specs.Pie.{longest_interval}
use Rattle.text_fields.proofs.ToldApart.{decimal_told, binary_told, hex_words_told}
use Rattle.wire_text.proofs.CommandsToldApart.{code_told, digit_told}
use Rattle.wire_text.proofs.ExpectationsToldApart.{expect_told}
use Rattle.checked_lines.specs.laws.OneLine.{TellLines}
use Rattle.decode_lines.specs.Answer.{decode_rules}

-- a first field says one kind
kind_told : (a b : RequestKind) → request_word a ≡ request_word b → a ≡ b
kind_told = told request_word all_request_kinds request_kind_found

abbrev Filled : List ℕ → Type 0
Filled field = field ≢ []

two_filled : (a b : List ℕ) → Filled a → Filled b → All Filled (a ∷ b ∷ [])
two_filled a b p q = All-cons Filled a (b ∷ []) p (All-cons Filled b [] q (All-nil Filled))

three_filled : (a b c : List ℕ) → Filled a → Filled b → Filled c → All Filled (a ∷ b ∷ c ∷ [])
three_filled a b c p q r = All-cons Filled a (b ∷ c ∷ []) p (two_filled b c q r)

numbers_filled : (numbers : List ℕ) → All (λ number. number ≤ longest_interval) numbers → All Filled (map decimal numbers)
numbers_filled [] within = All-nil Filled
numbers_filled (n ∷ numbers) within =
    let Small : ℕ → Type 0 = λ number. number ≤ longest_interval in
    All-cons Filled (decimal n) (map decimal numbers) (IsFieldText-decimal n (omega (arith, All-head Small n numbers within))).filled
    (numbers_filled numbers (All-tail Small n numbers within))

-- no digits spell no bytes
no_samples : (digits samples : List ℕ) → digits ≡ [] → decode_of digits ≡ Ok samples → 1 ≤ length samples → ⊥
unfolding hex_on_literals
no_samples digits [] none spelled some = omega arith
no_samples digits (s ∷ samples) none spelled some =
    let e : decode_of [] ≡ Ok (s ∷ samples) = subst (λ d. decode_of d ≡ Ok (s ∷ samples)) none spelled in cc

-- the fields of a request have the shape that its kind wants
request_shape : (request : Request) (others : List (List ℕ)) → AreSpelled request others → IsWithinDecodeLimits request → HasDecodeShape (decode_request_kind request) others
request_shape (Stream code trext levels) others spelling limits =
    rw spelling (refl, two_filled (binary_digit trext ∷ []) (binary levels) (bit_is trext).filled (IsFieldText-binary levels).filled)
request_shape (Samples threshold per_level samples) others spelling limits =
    let digits : Filled spelling.0 = λ e. no_samples spelling.0 samples e spelling.2 limits.3 in
    rw spelling.1 (
      refl,
      three_filled (decimal threshold) (decimal per_level) spelling.0
          (IsFieldText-decimal threshold (omega (arith, limits.0))).filled (IsFieldText-decimal per_level (omega (arith, limits.2))).filled digits,
    )
request_shape (Reply expect bits) others spelling limits =
    rw spelling (refl, two_filled (expect_word expect) (binary bits) (expect_word_is_field_text expect limits.0).filled (IsFieldText-binary bits).filled)
request_shape (Heard code trext expect levels) others spelling limits =
    rw spelling (
      refl,
      All-cons Filled (code_word code) ((binary_digit trext ∷ []) ∷ expect_word expect ∷ binary levels ∷ []) (code_is code).filled
          (three_filled (binary_digit trext ∷ []) (expect_word expect) (binary levels) (bit_is trext).filled (expect_word_is_field_text expect limits.0).filled (IsFieldText-binary levels).filled),
    )
request_shape (Pie intervals) others spelling limits =
    let some : 1 ≤ length (map decimal intervals) = rw length-map limits.0 in
    let room : length (map decimal intervals) ≤ most_intervals = rw length-map limits.1 in
    rw spelling ((some, room), numbers_filled intervals limits.2)
request_shape (Command bits) others spelling limits =
    rw spelling (refl, All-cons Filled (binary bits) [] (IsFieldText-binary bits).filled (All-nil Filled))
request_shape (Sgtin words) others spelling limits =
    rw spelling (refl, All-cons Filled (hex_words words) [] (IsFieldText-hex_words words).filled (All-nil Filled))
request_shape (Uri text) others spelling limits = rw spelling (refl, All-cons Filled text [] limits (All-nil Filled))

-- fields that ask for something are not faulty
asked_not_faulty : (request : Request) (kind : RequestKind) (others : List (List ℕ)) (reason : FaultReason) → AsksToDecodeBehind kind others request → AreFaultyToDecode kind others reason → ⊥
asked_not_faulty request kind others Number asks faulty = faulty.1 request asks
asked_not_faulty request kind others Shape asks faulty =
    faulty (subst (λ k. HasDecodeShape k others) (sym asks.same_kind) (request_shape request others asks.spelling asks.limits))
asked_not_faulty request kind others reason asks faulty = faulty

-- two lists of fields that are equal have equal first fields and equal others
same_fields : (a b : List ℕ) (xs ys : List (List ℕ)) → a ∷ xs ≡ b ∷ ys → (a ≡ b) × (xs ≡ ys)
same_fields a b xs ys e = (cc, cc)

-- a line that asks for something is not faulty behind another reading of its first field
behind_not_faulty : (line : List ℕ) (request : Request) (reason : FaultReason) (kind : RequestKind) (others : List (List ℕ)) → AsksToDecode line request → fields_of line ≡ request_word kind ∷ others → AreFaultyToDecode kind others reason → ⊥
behind_not_faulty line request reason kind others spells fields faulty =
    let parts = same_fields _ _ _ _ (sym spells.fields ∙ fields) in
    let same_kind = kind_told spells.kind kind parts.0 in
    asked_not_faulty request kind others reason
    (subst (λ k. AsksToDecodeBehind k others request) same_kind (subst (λ o. AsksToDecodeBehind spells.kind o request) parts.1 spells.asks)) faulty

-- a line that asks for something is not faulty
spelled_not_faulty : (line : List ℕ) (request : Request) (reason : FaultReason) → AsksToDecode line request → IsFaultyToDecode (fields_of line) reason → ⊥
spelled_not_faulty line request Word spells faulty = faulty spells.kind spells.others spells.fields
spelled_not_faulty line request reason spells faulty = behind_not_faulty line request reason faulty.0 faulty.1 spells faulty.2 faulty.3

-- the range of an interval in a line
abbrev IsInterval : ℕ → Type 0
IsInterval number = number ≤ longest_interval

numbers_told : (one other : List ℕ) → All IsInterval one → All IsInterval other → map decimal one ≡ map decimal other → one ≡ other
numbers_told [] [] small small' same = refl
numbers_told [] (n ∷ ns) small small' same = cc
numbers_told (m ∷ ms) [] small small' same = cc
numbers_told (m ∷ ms) (n ∷ ns) small small' same =
    let heads : decimal m ≡ decimal n = cc in
    let tails : map decimal ms ≡ map decimal ns = cc in
    let fits : m ≤ longest_interval = All-head IsInterval m ms small in
    let fits' : n ≤ longest_interval = All-head IsInterval n ns small' in
    let first : m ≡ n = decimal_told m n (omega arith) (omega arith) heads in
    let rest : ms ≡ ns = numbers_told ms ns (All-tail IsInterval m ms small) (All-tail IsInterval n ns small') tails in
    cc

-- the fields behind the first spell one request of a kind
same_behind : (one other : Request) (others : List (List ℕ)) → decode_request_kind one ≡ decode_request_kind other
    → AreSpelled one others → AreSpelled other others → IsWithinDecodeLimits one → IsWithinDecodeLimits other → one ≡ other
same_behind (Stream code trext levels) (Stream code' trext' levels') others kinds spelled spelled' within within' =
    let fields : (binary_digit trext ∷ []) ∷ binary levels ∷ [] ≡ (binary_digit trext' ∷ []) ∷ binary levels' ∷ [] = sym spelled ∙ spelled' in
    let e : trext ≡ trext' = digit_told trext trext' (cc) in
    let f : levels ≡ levels' = binary_told levels levels' (cc) in
    cc
same_behind (Samples threshold per_level samples) (Samples threshold' per_level' samples') others kinds spelled spelled' within within' =
    let fields : decimal threshold ∷ decimal per_level ∷ spelled.0 ∷ [] ≡ decimal threshold' ∷ decimal per_level' ∷ spelled'.0 ∷ [] = sym spelled.1 ∙ spelled'.1 in
    let e : threshold ≡ threshold' = decimal_told threshold threshold' (omega (arith, within.0)) (omega (arith, within'.0)) (cc) in
    let f : per_level ≡ per_level' = decimal_told per_level per_level' (omega (arith, within.2)) (omega (arith, within'.2)) (cc) in
    let digits : spelled.0 ≡ spelled'.0 = cc in
    let bytes = spelled.2 in
    let bytes' = spelled'.2 in
    let g : samples ≡ samples' = cc in
    cc
same_behind (Reply expect bits) (Reply expect' bits') others kinds spelled spelled' within within' =
    let fields : expect_word expect ∷ binary bits ∷ [] ≡ expect_word expect' ∷ binary bits' ∷ [] = sym spelled ∙ spelled' in
    let e : expect ≡ expect' = expect_told expect expect' within.0 within'.0 (cc) in
    let f : bits ≡ bits' = binary_told bits bits' (cc) in
    cc
same_behind (Heard code trext expect levels) (Heard code' trext' expect' levels') others kinds spelled spelled' within within' =
    let fields : code_word code ∷ (binary_digit trext ∷ []) ∷ expect_word expect ∷ binary levels ∷ []
    ≡ code_word code' ∷ (binary_digit trext' ∷ []) ∷ expect_word expect' ∷ binary levels' ∷ [] = sym spelled ∙ spelled' in
    let e : code ≡ code' = code_told code code' (cc) in
    let f : trext ≡ trext' = digit_told trext trext' (cc) in
    let g : expect ≡ expect' = expect_told expect expect' within.0 within'.0 (cc) in
    let h : levels ≡ levels' = binary_told levels levels' (cc) in
    cc
same_behind (Pie intervals) (Pie intervals') others kinds spelled spelled' within within' =
    let e : intervals ≡ intervals' = numbers_told intervals intervals' within.2 within'.2 (sym spelled ∙ spelled') in
    cc
same_behind (Command bits) (Command bits') others kinds spelled spelled' within within' =
    let fields : binary bits ∷ [] ≡ binary bits' ∷ [] = sym spelled ∙ spelled' in
    let e : bits ≡ bits' = binary_told bits bits' (cc) in
    cc
same_behind (Sgtin words) (Sgtin words') others kinds spelled spelled' within within' =
    let fields : hex_words words ∷ [] ≡ hex_words words' ∷ [] = sym spelled ∙ spelled' in
    let e : words ≡ words' = hex_words_told words words' within.2 within'.2 (cc) in
    cc
same_behind (Uri text) (Uri text') others kinds spelled spelled' within within' =
    let fields : text ∷ [] ≡ text' ∷ [] = sym spelled ∙ spelled' in
    let e : text ≡ text' = cc in
    cc
same_behind one other others kinds spelled spelled' within within' = cc

-- a line asks for one thing
same_request : (line : List ℕ) (one other : Request) → AsksToDecode line one → AsksToDecode line other → one ≡ other
same_request line one other left right =
    let parts = same_fields _ _ _ _ (sym left.fields ∙ right.fields) in
    let kinds : left.kind ≡ right.kind = kind_told left.kind right.kind parts.0 in
    same_behind one other left.others (sym left.asks.same_kind ∙ kinds ∙ right.asks.same_kind)
    left.asks.spelling (subst (AreSpelled other) (sym parts.1) right.asks.spelling) left.asks.limits right.asks.limits

-- where a first field is read in two ways, the fields have the shape of both or of none
one_reading : (fields : List (List ℕ)) (kind kind' : RequestKind) (others others' : List (List ℕ)) → fields ≡ request_word kind ∷ others → fields ≡ request_word kind' ∷ others'
    → HasDecodeShape kind others → HasDecodeShape kind' others'
one_reading fields kind kind' others others' read read' shape =
    let parts = same_fields _ _ _ _ (sym read ∙ read') in
    let kinds : kind ≡ kind' = kind_told kind kind' parts.0 in
    subst (λ k. HasDecodeShape k others') kinds (subst (λ o. HasDecodeShape kind o) parts.1 shape)

-- fields have one first reason
same_reason : (fields : List (List ℕ)) (one other : FaultReason) → IsFaultyToDecode fields one → IsFaultyToDecode fields other → one ≡ other
same_reason fields Word Word left right = refl
same_reason fields Shape Shape left right = refl
same_reason fields Number Number left right = refl
same_reason fields Shape Number left right = absurd (left.3 (one_reading fields right.0 left.0 right.1 left.1 right.2 left.2 right.3.0))
same_reason fields Number Shape left right = absurd (right.3 (one_reading fields left.0 right.0 left.1 right.1 left.2 right.2 left.3.0))
same_reason fields one other left right = absurd (search rules)

pub tell_lines : TellLines decode_rules
tell_lines = record { one_request = same_request; one_reason = same_reason; not_faulty = spelled_not_faulty }
