-- The words that lines begin with: each line of a report begins with its own.
use Rattle.air_audit.proofs.Names.{◌≡◌, ◌&&◌, ◌||◌, ltb, if◌then◌else◌, ℕ, Bool, true, false, List, [], ◌∷◌, Option, Some, None, codes, get_or, ap, refl, sym, subst, ◌∙◌, ltb-true, OpResult, GoesOnAs}
use Rattle.air_audit.proofs.Names.{TellsNextTag, TraceGoesOn, TraceStanding, link_line, next_tag, rx_line, told_line, word_of_line, word_of, Word, Start, Record, Item, LinkValue, RoundEnd, text_of}
use Rattle.air_audit.proofs.Names.{first_field, ReportLine, OpLine, RoundLine, SeenLine, TagLine, DoneLine, report_fields, and_parts, bytes_eq-Decides, bytes_eq, TagValue, IsFieldText-cons}
use Rattle.air_audit.proofs.Names.{IsFieldText-one, pieces_between-cut, whole_piece, IsFieldText, line_with, space}
use Rattle.air_audit.specs.declared.trace_line_words.Word.TheVariants as words

-- all of the bytes stand above the space
abbrev pub all_visible : List ℕ → Bool
all_visible [] = true
all_visible (byte ∷ bytes) = ltb space byte && all_visible bytes

-- such bytes are a field
pub word-text : (byte : ℕ) (bytes : List ℕ) → all_visible (byte ∷ bytes) ≡ true → IsFieldText (byte ∷ bytes)
word-text byte [] visible = IsFieldText-one byte (ltb-true space byte (and_parts (ltb space byte) true visible).0)
word-text byte (next ∷ bytes) visible =
    let parts = and_parts (ltb space byte) (all_visible (next ∷ bytes)) visible in
    IsFieldText-cons byte (next ∷ bytes) (ltb-true space byte parts.0) (word-text next bytes parts.1)

-- a line begins with its first field
begins-with : (word : List ℕ) (fields : List (List ℕ)) → IsFieldText word → first_field (line_with (word ∷ fields)) ≡ word
begins-with word [] text = ap (λ (pieces : List (List ℕ)). get_or pieces 0 []) (whole_piece space word text.no_space)
begins-with word (next ∷ fields) text =
    ap (λ (pieces : List (List ℕ)). get_or pieces 0 [])
    (pieces_between-cut space (line_with (word ∷ next ∷ fields)) word (line_with (next ∷ fields)) text.no_space refl)

line-word : (line : ReportLine) (word : List ℕ) (rest : List (List ℕ)) → report_fields line ≡ word ∷ rest → IsFieldText word → first_field (text_of line) ≡ word
line-word line word rest are text = ap (λ (fields : List (List ℕ)). first_field (line_with fields)) are ∙ begins-with word rest text

-- what lines of a report are by their words
word-is : (line : ReportLine) (word : List ℕ) (rest : List (List ℕ)) → report_fields line ≡ word ∷ rest → IsFieldText word → word_of_line (text_of line) ≡ word_of word
word-is line word rest are text = ap word_of (line-word line word rest are text)

pub rx-is-rx : (start : Start) (sent : Record) → word_of_line (text_of (rx_line start sent)) ≡ words.Rx
rx-is-rx start sent = word-is (rx_line start sent) (codes "rx") _ refl (word-text 114 (codes "x") refl)

pub op-unjudged : (round slot index : ℕ) (result : OpResult) → word_of_line (text_of (OpLine round slot index result)) ≡ words.Unjudged
op-unjudged round slot index result = word-is (OpLine round slot index result) (codes "op") _ refl (word-text 111 (codes "p") refl)

pub round-unjudged : (round : ℕ) (end : RoundEnd) (slots : ℕ) → word_of_line (text_of (RoundLine round end slots)) ≡ words.Unjudged
round-unjudged round end slots = word-is (RoundLine round end slots) (codes "round") _ refl (word-text 114 (codes "ound") refl)

pub seen-unjudged : (count pc : ℕ) (epc : List ℕ) → word_of_line (text_of (SeenLine count pc epc)) ≡ words.Unjudged
seen-unjudged count pc epc = word-is (SeenLine count pc epc) (codes "seen") _ refl (word-text 115 (codes "een") refl)

pub link-is-other : (link : LinkValue) → word_of_line (text_of (link_line link)) ≡ words.Other
link-is-other link = word-is (link_line link) (codes "blf") _ refl (word-text 98 (codes "lf") refl)

told-word : (told : ℕ) (next : Option TagValue) → word_of_line (text_of (told_line told next)) ≡ words.OfTags
told-word told None = word-is DoneLine (codes "done") _ refl (word-text 100 (codes "one") refl)
told-word told (Some tag) = word-is (TagLine told tag) (codes "tag") _ refl (word-text 116 (codes "ag") refl)

-- what a word is by what it reads as
read_as : (tx rx list unjudged of_tags : Bool) → Word
read_as tx rx list unjudged of_tags =
    if tx then words.Tx else if rx then words.Rx else if list then words.List else if unjudged then words.Unjudged else if of_tags then words.OfTags else words.Other

-- the words `tx` and `rx` are read by their own tests alone
read_by : (tx rx list unjudged of_tags : Bool)
    → (read_as tx rx list unjudged of_tags ≡ words.Tx → tx ≡ true) × (read_as tx rx list unjudged of_tags ≡ words.Rx → rx ≡ true)
unfolding read_as
read_by true rx list unjudged of_tags = (λ is. refl, λ is. absurd cc)
read_by false true list unjudged of_tags = (λ is. absurd cc, λ is. refl)
read_by false false true unjudged of_tags = (λ is. absurd cc, λ is. absurd cc)
read_by false false false true of_tags = (λ is. absurd cc, λ is. absurd cc)
read_by false false false false true = (λ is. absurd cc, λ is. absurd cc)
read_by false false false false false = (λ is. absurd cc, λ is. absurd cc)

word-read : (word : List ℕ) → (word_of word ≡ words.Tx → bytes_eq word (codes "tx") ≡ true) × (word_of word ≡ words.Rx → bytes_eq word (codes "rx") ≡ true)
unfolding read_as
word-read word =
    read_by (bytes_eq word (codes "tx")) (bytes_eq word (codes "rx")) (bytes_eq word (codes "list"))
    (bytes_eq word (codes "op") || bytes_eq word (codes "round") || bytes_eq word (codes "seen")) (bytes_eq word (codes "tag") || bytes_eq word (codes "done"))

-- no other word is taken for `tx` or for `rx`
pub tx-only : (word : List ℕ) → word_of word ≡ words.Tx → word ≡ codes "tx"
tx-only word is = (bytes_eq-Decides word (codes "tx")).0 ((word-read word).0 is)

pub rx-only : (word : List ℕ) → word_of word ≡ words.Rx → word ≡ codes "rx"
rx-only word is = (bytes_eq-Decides word (codes "rx")).0 ((word-read word).1 is)

-- a line goes on by the word that it begins with
pub goes-as : (start : Start) (from : TraceStanding) (line : List ℕ) (to : TraceStanding) (word : Word) → word_of_line line ≡ word → GoesOnAs start from word line to → TraceGoesOn start from line to
goes-as start from line to word is goes = subst (λ (w : Word). GoesOnAs start from w line to) (sym is) goes

pub told-goes : (start : Start) (past : List Item) (told : ℕ) (from : TraceStanding) (line : List ℕ) (to : TraceStanding) → TellsNextTag start past told line to
    → GoesOnAs start from words.OfTags line to → TraceGoesOn start from line to
told-goes start past told from line to tells goes = goes-as start from line to words.OfTags (ap word_of_line tells.text ∙ told-word told (next_tag start past told)) goes
