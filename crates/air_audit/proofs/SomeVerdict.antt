-- Each trace has a verdict: each line goes on from where a trace stands, or is refused there for some reason.
use Rattle.air_audit.proofs.Names.{◌≡◌, ◌≢◌, ◌⊎◌, ◌+◌, ◌<◌, ◌≤◌, ◌^◌, ℕ, Bool, true, false, inl, inr, List, [], ◌∷◌, All, length, map, get_or, codes, arith, refl, sym, ap, ◌∙◌, subst, Decides}
use Rattle.air_audit.proofs.Names.{TraceMayEnd, trace_rules, IsAuditVerdict, DiffersFirst, IsOther, IsRefusedAs, GoesOnAs, IsTheLine, TraceStanding, begun, between, sending, listing, telling}
use Rattle.air_audit.proofs.Names.{behind_exchange, behind_told, link_line, next_tag, record_of, rx_line, told_line, word_of_line, AreFrameOf, FrameBeginsWith, Word, AuditReason, Verdict, Yes, No}
use Rattle.air_audit.proofs.Names.{heard_levels, lead_of, Start, Record, Item, exchanges_in, Faulty, HasOutcome, TextOutcome, Whole, some_outcome, SpellsCommand, Spellings, Command, IsFrame}
use Rattle.air_audit.proofs.Names.{longest_interval, FrameKind, IsDecimal, HasTxShape, RxFields, TxFields, most_tx_intervals, most_rx_levels, text_of, ReportLine, RxLine, list_line, cases_eq}
use Rattle.air_audit.proofs.Names.{cases_lt, Decides-eqb, not_from_Decides, decimal_is_IsNumeral, length-map, All-nil, All-cons, All-head, All-tail, slice_eq-Decides, booleans_Decides, decimal}
use Rattle.air_audit.proofs.Names.{binary_told, binary, bits_of_digits, hyphen, fields_of, lines_of}
use Rattle.air_audit.specs.declared.trace_line_words.Word.TheVariants as words
use Rattle.air_audit.specs.declared.verdict.AuditReason.TheVariants as reasons
use Rattle.air_audit.specs.TraceOrder.{ended}
use Rattle.bit_strings.specs.Family.{IsBadAt, IsShortAt}
use Rattle.text_fields.proofs.BinaryLaws.{bits_of_digits-map}
use Rattle.checked_lines.specs.laws.TextLaws.{whole_ends}
use Rattle.pie_line.specs.FrameAnswer.{HasOneAnswer}
use Rattle.pie_line.specs.declared.frame.FrameKind.TheVariants as kinds
use Rattle.pie_line.specs.declared.frame.Lead.{Lead}
use Rattle.pie_line.specs.declared.frame.Lead.TheVariants as leads
use Rattle.pie_text.specs.NumberLists.{RefusesNumbers, SpellsNumbers}
use Rattle.pie_text.specs.declared.number_lists.NotNumbers.{NotNumbers}
use Rattle.pie_text.specs.declared.number_lists.NotNumbers.TheVariants as faults
use Rattle.air_audit.proofs.ReadLines.{rx-other-count, rx-other-levels, rx-other-number, rx-text, tx-no-frame, tx-other}

-- it holds, or it doesn't
abbrev OrNot : Type 0 → Type 0
OrNot P = P ⊎ (¬ P)

-- the laws of numbers, frames and commands that this goes by
abbrev SomeNumbers : Type 0
SomeNumbers = (most_items most : ℕ) (fields : List (List ℕ)) → most < 2 ^ 32
    → ((numbers : List ℕ) × SpellsNumbers most_items most fields numbers) ⊎ ((reason : NotNumbers) × RefusesNumbers reason most_items most fields)

pub record Laws : Type 0 where
  pub numbers : SomeNumbers
  pub frames : (intervals : List ℕ) → HasOneAnswer intervals
  pub frame : (kind other : FrameKind) (bits others : List Bool) (intervals : List ℕ) → IsFrame kind bits intervals → IsFrame other others intervals
      → (kind ≡ other) × (bits ≡ others)
  pub command : (c d : Command) (bits : List Bool) → SpellsCommand c bits → SpellsCommand d bits → c ≡ d
  pub some : (bits : List Bool) → Spellings bits ⊎ (IsShortAt Spellings bits (length bits) ⊎ ((place : ℕ) × IsBadAt Spellings bits place))
  pub not_bad : (bits : List Bool) (place : ℕ) → Spellings bits → IsBadAt Spellings bits place → ⊥
  pub not_short : (bits : List Bool) (count : ℕ) → Spellings bits → IsShortAt Spellings bits count → ⊥

or-not : {P : Type 0} (test : Bool) → Decides test P → OrNot P
or-not true decides = inl (decides.0 refl)
or-not false decides = inr (not_from_Decides false decides refl)

-- two lists of bytes, or of bits, are one or are not
same-bytes : (xs ys : List ℕ) → OrNot (xs ≡ ys)
same-bytes xs ys = or-not _ (slice_eq-Decides Decides-eqb xs ys _ refl)

same-bits : (xs ys : List Bool) → OrNot (xs ≡ ys)
same-bits xs ys = or-not _ (slice_eq-Decides booleans_Decides xs ys _ refl)

-- a fact holds of each byte, or not of each
each-or : (P : ℕ → Type 0) → ((byte : ℕ) → OrNot (P byte)) → (bytes : List ℕ) → OrNot (All P bytes)
each-or P one [] = inl (All-nil P)
each-or P one (byte ∷ bytes) = elim (one byte) [
  | inr none ↦ inr (λ all. none (All-head P byte bytes all))
  | inl first ↦ elim (each-or P one bytes) [
    | inl others ↦ inl (All-cons P byte bytes first others)
    | inr none ↦ inr (λ all. none (All-tail P byte bytes all))
  ]
]

abbrev IsDigit : ℕ → Type 0
IsDigit digit = (48 ≤ digit) × (digit ≤ 57)

digit-or : (digit : ℕ) → OrNot (IsDigit digit)
digit-or digit = elim (cases_lt digit 48) [
  | inl below ↦ inr (λ is. omega (arith, below, is.0))
  | inr from ↦ elim (cases_lt 57 digit) [
    | inl above ↦ inr (λ is. omega (arith, above, is.1))
    | inr up_to ↦ inl (from, up_to)
  ]
]

-- decimal digits without leading zeros
number-or : (text : List ℕ) → OrNot (IsDecimal text)
number-or text = elim (same-bytes text []) [
  | inl none ↦ inr (λ is. is.some none)
  | inr some ↦ elim (each-or IsDigit digit-or text) [
    | inr other ↦ inr (λ is. other is.digits)
    | inl digits ↦ elim (same-bytes text (codes "0")) [
      | inl zero ↦ inl (record { some = some; digits = digits; no_zeros = inl zero })
      | inr more ↦ elim (cases_eq (get_or text 0 48) 48) [
        | inl leading ↦ inr (λ is. elim is.no_zeros [ inl zero ↦ more zero | inr first ↦ first leading ])
        | inr first ↦ inl (record { some = some; digits = digits; no_zeros = inr first })
      ]
    ]
  ]
]

-- the digits of a number are some
filled-decimals : (numbers : List ℕ) → All (λ number. number ≤ longest_interval) numbers → All (λ field. field ≢ []) (map decimal numbers)
filled-decimals [] short = All-nil (λ field. field ≢ [])
filled-decimals (number ∷ numbers) short =
    let small : number ≤ longest_interval = All-head (λ n. n ≤ longest_interval) number numbers short in
    All-cons (λ field. field ≢ []) (decimal number) (map decimal numbers)
    (λ none. omega (arith, (decimal_is_IsNumeral number (omega (arith, small))).0.0, ap length none))
    (filled-decimals numbers (All-tail (λ n. n ≤ longest_interval) number numbers short))

-- intervals that are spelled are not refused
not-refused : (fields : List (List ℕ)) (intervals : List ℕ) (reason : NotNumbers) → SpellsNumbers most_tx_intervals longest_interval fields intervals
    → RefusesNumbers reason most_tx_intervals longest_interval fields → ⊥
not-refused fields intervals faults.Shape spells refused =
    let count : length fields ≡ length intervals = ap length spells.spelling ∙ length-map intervals decimal in
    refused (record {
      some = omega (arith, count, spells.some);
      room = omega (arith, count, spells.room);
      filled = subst (λ (f : List (List ℕ)). All (λ field. field ≢ []) f) (sym spells.spelling) (filled-decimals intervals spells.within);
    })
not-refused fields intervals faults.Number spells refused = refused.1 intervals spells.within spells.spelling

-- a line of enough fields is a tx line or none
tx-by-fields : Laws → (line : List ℕ) (fields : List (List ℕ)) → fields_of line ≡ fields → 3 ≤ length fields → length fields ≤ most_tx_intervals + 2 → OrNot (TxFields line)
tx-by-fields laws line (first ∷ exchange ∷ next ∷ more) are some few =
    let parts : (tx : TxFields line) → codes "tx" ∷ tx.exchange ∷ map decimal tx.intervals ≡ first ∷ exchange ∷ next ∷ more = λ tx. sym tx.are ∙ are in
    elim (same-bytes first (codes "tx")) [
      | inr other ↦ inr (λ tx. let same = parts tx in let one : first ≡ codes "tx" = cc in other one)
      | inl word ↦ elim (number-or exchange) [
        | inr none ↦ inr (λ tx. let same = parts tx in let one : tx.exchange ≡ exchange = cc in none (subst IsDecimal one tx.number))
        | inl number ↦ elim (laws.numbers most_tx_intervals longest_interval (next ∷ more) (omega arith)) [
          | inl spells ↦ inl (record {
            exchange = exchange;
            intervals = spells.0;
            are = are ∙ ap (λ (f : List ℕ). f ∷ exchange ∷ next ∷ more) word ∙ ap (λ (f : List (List ℕ)). codes "tx" ∷ exchange ∷ f) spells.1.spelling;
            number = number;
            some = spells.1.some;
            few = spells.1.room;
            short = spells.1.within;
          })
          | inr refused ↦ inr (λ tx.
              let same = parts tx in
              let rest : next ∷ more ≡ map decimal tx.intervals = cc in
              not-refused (next ∷ more) tx.intervals refused.0 (record { spelling = rest; some = tx.some; room = tx.few; within = tx.short }) refused.1)
        ]
      ]
    ]
tx-by-fields laws line fields are some few = absurd (omega (arith, some))

shape-or : (line : List ℕ) → OrNot (HasTxShape line)
shape-or line = elim (cases_lt (length (fields_of line)) 3) [
  | inl few ↦ inr (λ shape. omega (arith, few, shape.0))
  | inr some ↦ elim (cases_lt (most_tx_intervals + 2) (length (fields_of line))) [
    | inl many ↦ inr (λ shape. omega (arith, many, shape.1))
    | inr few ↦ inl (some, few)
  ]
]

-- digits spell bits or none
some-bits : (digits : List ℕ) (bits : List Bool) → digits ≢ hyphen ∷ [] → digits ≡ binary bits → digits ≡ binary (bits_of_digits digits)
some-bits digits [] other is = absurd (other is)
some-bits digits (bit ∷ bits) other is = is ∙ ap binary (sym (ap bits_of_digits is ∙ bits_of_digits-map (bit ∷ bits)))

bits-or : (digits : List ℕ) → ((bits : List Bool) × (digits ≡ binary bits)) ⊎ ((bits : List Bool) → digits ≢ binary bits)
bits-or digits = elim (same-bytes digits (hyphen ∷ [])) [
  | inl none ↦ inl ([], none)
  | inr some ↦ elim (same-bytes digits (binary (bits_of_digits digits))) [
    | inl are ↦ inl (bits_of_digits digits, are)
    | inr other ↦ inr (λ bits is. other (some-bits digits bits some is))
  ]
]

-- a line of four fields is an rx line or none
rx-by-fields : (line : List ℕ) (fields : List (List ℕ)) → fields_of line ≡ fields → length fields ≡ 4 → OrNot (RxFields line)
rx-by-fields line (first ∷ exchange ∷ count ∷ digits ∷ []) are four =
    let parts : (rx : RxFields line) → codes "rx" ∷ rx.exchange ∷ rx.count ∷ binary rx.levels ∷ [] ≡ first ∷ exchange ∷ count ∷ digits ∷ [] = λ rx. sym rx.are ∙ are in
    elim (same-bytes first (codes "rx")) [
      | inr other ↦ inr (λ rx. let same = parts rx in let one : first ≡ codes "rx" = cc in other one)
      | inl word ↦ elim (number-or exchange) [
        | inr none ↦ inr (λ rx. let same = parts rx in let one : rx.exchange ≡ exchange = cc in none (subst IsDecimal one rx.number))
        | inl number ↦ elim (number-or count) [
          | inr none ↦ inr (λ rx. let same = parts rx in let one : rx.count ≡ count = cc in none (subst IsDecimal one rx.count_number))
          | inl count_number ↦ elim (bits-or digits) [
            | inr none ↦ inr (λ rx. let same = parts rx in let one : digits ≡ binary rx.levels = cc in none rx.levels one)
            | inl levels ↦ elim (cases_lt most_rx_levels (length levels.0)) [
              | inl many ↦ inr (λ rx.
                  let same = parts rx in
                  let one : binary rx.levels ≡ digits = cc in
                  omega (arith, many, rx.few, ap length (binary_told rx.levels levels.0 (one ∙ levels.1))))
              | inr few ↦ inl (record {
                exchange = exchange;
                count = count;
                levels = levels.0;
                are = are ∙ ap (λ (f : List ℕ). f ∷ exchange ∷ count ∷ digits ∷ []) word ∙ ap (λ (f : List ℕ). codes "rx" ∷ exchange ∷ count ∷ f ∷ []) levels.1;
                number = number;
                count_number = count_number;
                few = few;
              })
            ]
          ]
        ]
      ]
    ]
rx-by-fields line fields are four = absurd (omega (arith, four))

-- intervals are the frame of a command or of none
lead-or : (kind : FrameKind) (lead : Lead) → OrNot (FrameBeginsWith kind lead)
lead-or (kinds.Preamble tari rtcal trcal) leads.Preamble = inl tt
lead-or (kinds.Preamble tari rtcal trcal) leads.FrameSync = inr (λ is. is)
lead-or (kinds.FrameSync tari rtcal) leads.Preamble = inr (λ is. is)
lead-or (kinds.FrameSync tari rtcal) leads.FrameSync = inl tt

abbrev FrameOr : List ℕ → Type 0
FrameOr intervals = ((command : Command) × AreFrameOf command intervals) ⊎ ((command : Command) → ¬ AreFrameOf command intervals)

command-or : Laws → (intervals : List ℕ) (kind : FrameKind) (bits : List Bool) → IsFrame kind bits intervals → FrameOr intervals
command-or laws intervals kind bits frame = elim (laws.some bits) [
  | inr (inl short) ↦ inr (λ command are.
      laws.not_short bits (length bits) (command, subst (SpellsCommand command) (laws.frame are.kind kind are.bits bits intervals are.frame frame).1 are.spells) short)
  | inr (inr bad) ↦ inr (λ command are.
      laws.not_bad bits bad.0 (command, subst (SpellsCommand command) (laws.frame are.kind kind are.bits bits intervals are.frame frame).1 are.spells) bad.1)
  | inl spells ↦ elim (lead-or kind (lead_of spells.0)) [
    | inl lead ↦ inl (spells.0, record { kind = kind; bits = bits; frame = frame; spells = spells.1; lead = lead })
    | inr none ↦ inr (λ command are.
        let same = laws.frame are.kind kind are.bits bits intervals are.frame frame in
        let one : command ≡ spells.0 = laws.command command spells.0 bits (subst (SpellsCommand command) same.1 are.spells) spells.1 in
        none (subst (λ (k : FrameKind). FrameBeginsWith k (lead_of spells.0)) same.0 (subst (λ (c : Command). FrameBeginsWith are.kind (lead_of c)) one are.lead)))
  ]
]

frame-or : Laws → (intervals : List ℕ) → FrameOr intervals
frame-or laws intervals =
    let answer = laws.frames intervals in
    elim answer.some [
      | inl frame ↦ command-or laws intervals frame.0 frame.1 frame.2
      | inr (inl bad) ↦ inr (λ command are. answer.frame_not_bad bad.0 (are.kind, are.bits, are.frame) bad.1)
      | inr (inr short) ↦ inr (λ command are. answer.frame_not_short short.0 (are.kind, are.bits, are.frame) short.1)
    ]

-- the trace goes on with the line, which begins with this word, or the line is refused
abbrev GoesOrIsRefused : Start → TraceStanding → Word → List ℕ → Type 0
GoesOrIsRefused start from word line = ((to : TraceStanding) × GoesOnAs start from word line to) ⊎ ((reason : AuditReason) × IsRefusedAs start from word line reason)

-- a line that begins with tx
sends-or : Laws → (start : Start) (past : List Item) (line : List ℕ) → GoesOrIsRefused start (between past) words.Tx line
sends-or laws start past line =
    let exchange = exchanges_in past + 1 in
    elim (shape-or line) [
      | inr none ↦ inr (reasons.Shape, inl (none, refl))
      | inl shape ↦ elim (tx-by-fields laws line (fields_of line) refl shape.0 shape.1) [
        | inr none ↦ inr (reasons.Number, inr (shape, inl (none, refl)))
        | inl tx ↦ elim (same-bytes tx.exchange (decimal exchange)) [
          | inr other ↦ inr (reasons.Exchange, tx-other exchange line tx other)
          | inl number ↦ elim (frame-or laws tx.intervals) [
            | inr none ↦ inr (reasons.Frame, tx-no-frame exchange line tx number none)
            | inl frame ↦ inl (
              sending past (record_of start past frame.0),
              record { command = frame.0; sends = record { tx = tx; number = number; frame = frame.1 }; leads = refl },
            )
          ]
        ]
      ]
    ]

-- the first reason for which a line is another
differs-or : (exchange count : ℕ) (levels : List Bool) (line : List ℕ) → line ≢ text_of (RxLine exchange count levels) → (reason : AuditReason) × DiffersFirst exchange count levels line reason
differs-or exchange count levels line other = elim (cases_eq (length (fields_of line)) 4) [
  | inr none ↦ (reasons.Shape, inl (none, refl))
  | inl shape ↦ elim (rx-by-fields line (fields_of line) refl shape) [
    | inr none ↦ (reasons.Number, inr (shape, inl (none, refl)))
    | inl rx ↦ elim (same-bytes rx.exchange (decimal exchange)) [
      | inr differs ↦ (reasons.Exchange, rx-other-number exchange count levels line rx differs)
      | inl number ↦ elim (same-bytes rx.count (decimal count)) [
        | inr differs ↦ (reasons.Count, rx-other-count exchange count levels line rx number differs)
        | inl counted ↦ elim (same-bits rx.levels levels) [
          | inr differ ↦ (reasons.Levels, rx-other-levels exchange count levels line rx number counted differ)
          | inl same ↦ absurd (other (rx-text exchange count levels line rx (record { number_is = number; count_is = counted; levels_are = same })))
        ]
      ]
    ]
  ]
]

-- a line that has to be this one
is-or : (expected : ReportLine) (behind : TraceStanding) (why : AuditReason) (line : List ℕ)
    → ((to : TraceStanding) × IsTheLine expected behind line to) ⊎ ((reason : AuditReason) × IsOther expected why line reason)
is-or expected behind why line = elim (same-bytes line (text_of expected)) [
  | inl text ↦ inl (behind, record { text = text; leads = refl })
  | inr other ↦ inr (why, (refl, other))
]

hears-or : (start : Start) (past : List Item) (sent : Record) (line : List ℕ) → GoesOrIsRefused start (sending past sent) words.Rx line
hears-or start past sent line = elim (same-bytes line (text_of (rx_line start sent))) [
  | inl text ↦ inl (behind_exchange _ _, record { text = text; leads = refl })
  | inr other ↦
      let first = differs-or sent.exchange (length sent.replies) (heard_levels start.link sent.given) line other in
      inr (first.0, record { other = other; first = first.1 })
]

goes-or : Laws → (start : Start) (from : TraceStanding) (word : Word) (line : List ℕ) → GoesOrIsRefused start from word line
goes-or laws start begun word line = is-or (link_line start.link) (between []) reasons.Blf line
goes-or laws start (between past) words.Tx line = sends-or laws start past line
goes-or laws start (between past) words.Unjudged line = inl (between past, refl)
goes-or laws start (between past) words.OfTags line = is-or (told_line 0 (next_tag start past 0)) (behind_told past 0 (next_tag start past 0)) reasons.Tag line
goes-or laws start (sending past sent) words.Rx line = hears-or start past sent line
goes-or laws start (listing past listed) word line = is-or (list_line listed) (between past) reasons.List line
goes-or laws start (telling past told) words.OfTags line = is-or (told_line told (next_tag start past told)) (behind_told past told (next_tag start past told)) reasons.Tag line
goes-or laws start (ended past) word line = inr (reasons.Extra, refl)
goes-or laws start from words.List line = inr (reasons.List, refl)
goes-or laws start from word line = inr (reasons.Word, refl)

-- a trace ends behind its last line alone
end-or : (standing : TraceStanding) → OrNot (TraceMayEnd standing)
end-or (ended past) = inl tt
end-or standing = inr (λ may. may)

verdict-of : (start : Start) (bytes : List ℕ) (outcome : TextOutcome TraceStanding AuditReason) → HasOutcome (trace_rules start) bytes outcome
    → (verdict : Verdict) × IsAuditVerdict start bytes verdict
verdict-of start bytes (Faulty number reason) is = (No number reason, is)
verdict-of start bytes (Whole (ended past)) is = (Yes, (past, is))
verdict-of start bytes (Whole standing) is = absurd (whole_ends (trace_rules start) begun standing 1 (lines_of bytes) is).may

pub some-verdict : Laws → (start : Start) (bytes : List ℕ) → (verdict : Verdict) × IsAuditVerdict start bytes verdict
some-verdict laws start bytes =
    let outcome = some_outcome (trace_rules start) (record { lines = λ from line. goes-or laws start from (word_of_line line) line; ends = end-or }) bytes in
    verdict-of start bytes outcome.0 outcome.1
