-- What the lines of a past list.
use Rattle.std.proofs.lemmas.List.{append-nil}
use Rattle.air_world.proofs.Names.{◌≡◌, ◌⊎◌, inl, inr, ℕ, ◌+◌, ◌≤◌, Bool, true, false, List, ◌∷◌, ◌++◌, length, map, Option, Some, None, refl, sym, ◌∙◌, ap, subst, arith, append_assoc, length-append}
use Rattle.air_world.proofs.Names.{[], Start, Record, Item, exchanged, exchanges_in, HearsPairs, first_fault_of, pair_told, pairs_told, lines_to_tell, ItemList, LinkValue, Reception, whole_reply}
use Rattle.air_world.proofs.Names.{line_of, is_of_exchanges, is_of_trace, ReportLine, BlfLine, ExchangeLine, MissedLine, AnswerLine, TxLine, RxLine, GivenLine, Line, PlayFault, OutOfMemory, Listed}
use Rattle.air_world.proofs.Names.{reception_of_ack, listed_by, listed_from, listing_of, exchange_lines, item_lines, list_line, wave_lines, pair_listed, answer_line, exchanged_by, said_lines}
use Rattle.air_world.proofs.Names.{pairs_in, map-append, Bor}
use Rattle.reply_grammar.specs.declared.expected.Reply.TheVariants as replies
use Rattle.report_lines.specs.declared.line.Line.TheVariants as told

-- what lines list, and lines behind them
pub pairs-append : (lines more : List ReportLine) → pairs_told (lines ++ more) ≡ pairs_told lines ++ pairs_told more
pairs-append [] more = refl
pairs-append (line ∷ lines) more =
    ap (λ (pairs : List (ℕ × List ℕ)). pair_told line ++ pairs) (pairs-append lines more) ∙ sym (append_assoc (pair_told line) (pairs_told lines) (pairs_told more))

-- a line more that lists nothing
pub pairs-skipped : (lines : List ReportLine) (line : ReportLine) → pair_told line ≡ [] → pairs_told (lines ++ line ∷ []) ≡ pairs_told lines
pairs-skipped lines line none =
    pairs-append lines (line ∷ []) ∙ ap (λ (pairs : List (ℕ × List ℕ)). pairs_told lines ++ (pairs ++ [])) none ∙ append-nil (pairs_told lines)

-- a line that says who said what in an exchange lists nothing
pub said-untold : (line : ReportLine) → is_of_exchanges line ≡ true → pair_told line ≡ []
said-untold (ExchangeLine exchange command) is = refl
said-untold (MissedLine exchange tag) is = refl
said-untold (AnswerLine exchange tag extended reply) is = refl
said-untold (GivenLine given) is = refl
said-untold line is = absurd (cc)

-- nor does one that a trace alone has
pub frame-untold : (line : ReportLine) → is_of_trace line ≡ true → pair_told line ≡ []
frame-untold (BlfLine numerator denominator) is = refl
frame-untold (TxLine exchange intervals) is = refl
frame-untold (RxLine exchange count levels) is = refl
frame-untold line is = absurd (cc)

-- nor does any line but one that lists a tag
pub line-untold : (line : Line) → ((round slot pc : ℕ) (epc : Bor (List ℕ)) → line ≡ told.List round slot pc epc → ⊥) → pair_told (line_of line) ≡ []
line-untold (told.List round slot pc epc) other = absurd (other round slot pc epc refl)
line-untold line other = refl

pub pairs-other : (lines : List ReportLine) (line : Line) → ((round slot pc : ℕ) (epc : Bor (List ℕ)) → line ≡ told.List round slot pc epc → ⊥)
    → pairs_told (lines ++ line_of line ∷ []) ≡ pairs_told lines
pairs-other lines line other = pairs-skipped lines (line_of line) (line-untold line other)

-- lines that are made of items, none of which lists anything
pairs-made : {A : Type 0} (make : A → ReportLine) → ((item : A) → pair_told (make item) ≡ []) → (items : List A) (more : List ReportLine) → pairs_told (map make items ++ more) ≡ pairs_told more
pairs-made make none [] more = refl
pairs-made make none (item ∷ items) more =
    ap (λ (pairs : List (ℕ × List ℕ)). pairs ++ pairs_told (map make items ++ more)) (none item) ∙ pairs-made make none items more

-- of who said what, and of the waves, nothing is listed
pairs-exchange : (link : LinkValue) (sent : Record) → pairs_told (exchange_lines link sent) ≡ []
pairs-exchange link sent =
    pairs-append (said_lines link sent) (wave_lines link sent)
    ∙ append-nil (pairs_told (said_lines link sent))
    ∙ pairs-made (MissedLine sent.exchange) (λ tag. refl) sent.entry.missed (map (answer_line sent.exchange) sent.replies ++ GivenLine (exchanged_by link sent) ∷ [])
    ∙ pairs-made (answer_line sent.exchange) (λ replied. refl) sent.replies (GivenLine (exchanged_by link sent) ∷ [])

pairs-listed : (listed : List Listed) → pairs_told (map list_line listed) ≡ map pair_listed listed
pairs-listed [] = refl
pairs-listed (one ∷ others) = ap (λ (pairs : List (ℕ × List ℕ)). pair_listed one ∷ pairs) (pairs-listed others)

-- the lines of a past list what it lists
pub pairs-behind : (start : Start) (past : List Item) → pairs_told (lines_to_tell start past) ≡ pairs_in past
pairs-behind start [] = refl
pairs-behind start (exchanged sent ∷ past) =
    pairs-append (lines_to_tell start past) (item_lines start.link (exchanged sent))
    ∙ ap (λ (pairs : List (ℕ × List ℕ)). pairs ++ pairs_told (item_lines start.link (exchanged sent))) (pairs-behind start past)
    ∙ ap (λ (pairs : List (ℕ × List ℕ)). pairs_in past ++ pairs)
    (pairs-append (exchange_lines start.link sent) (map list_line (listed_by sent))
    ∙ ap (λ (pairs : List (ℕ × List ℕ)). pairs ++ pairs_told (map list_line (listed_by sent))) (pairs-exchange start.link sent)
    ∙ pairs-listed (listed_by sent))
    ∙ sym (map-append pair_listed (listing_of past) (listed_by sent))
pairs-behind start (item ∷ past) =
    pairs-append (lines_to_tell start past) (item_lines start.link item) ∙ append-nil (pairs_told (lines_to_tell start past)) ∙ pairs-behind start past

-- a past lists at most one tag in each exchange
few-from : (sent : Record) (reception : Reception) → length (listed_from sent reception) ≤ 1
few-from sent (whole_reply (replies.Epc pc epc)) = omega arith
few-from sent reception = omega arith

pub few-listed : (past : List Item) → length (listing_of past) ≤ exchanges_in past
few-listed [] = omega arith
few-listed (exchanged sent ∷ past) =
    let here = few-from sent (reception_of_ack sent sent.command) in
    let there = few-listed past in
    omega (arith, here, there, length-append (listing_of past) (listed_by sent))
few-listed (item ∷ past) = few-listed past

-- the first fault of who counts for another is that one's, or there was no memory for a count
pub fault-cause : (met : Option PlayFault) (short : Bool) (fault : PlayFault) → first_fault_of met short ≡ Some fault → (met ≡ Some fault) ⊎ ((fault ≡ OutOfMemory) × (met ≡ None))
fault-cause (Some own) short fault is = inl is
fault-cause None true fault is = let same : fault ≡ OutOfMemory = cc in inr (same, refl)
fault-cause None false fault is = absurd (cc)

-- without a fault there was memory
pub memory-enough : (met : Option PlayFault) (short : Bool) → first_fault_of met short ≡ None → short ≡ false
memory-enough (Some own) short none = absurd (cc)
memory-enough None true none = absurd (cc)
memory-enough None false none = refl

-- pairs that are added behind others
pub hears-then : (lines more : List ReportLine) (first old new : ItemList (ℕ × List ℕ)) → HearsPairs lines first old → HearsPairs more old new → HearsPairs (lines ++ more) first new
hears-then lines more first old new before behind =
    λ room.
    let joined : pairs_told (lines ++ more) ≡ pairs_told lines ++ pairs_told more = pairs-append lines more in
    let count : length (pairs_told (lines ++ more)) ≡ length (pairs_told lines) + length (pairs_told more) =
    ap (λ (pairs : List (ℕ × List ℕ)). length pairs) joined ∙ length-append (pairs_told lines) (pairs_told more) in
    let was : old ≡ record first { items = first.items ++ pairs_told lines } = before (omega (arith, room, count)) in
    let fits : length old.items + length (pairs_told more) ≤ old.capacity =
    subst (λ (list : ItemList (ℕ × List ℕ)). length list.items + length (pairs_told more) ≤ list.capacity) (sym was) (omega (arith, room, count, length-append first.items (pairs_told lines))) in
    behind fits
    ∙ ap (λ (list : ItemList (ℕ × List ℕ)). record list { items = list.items ++ pairs_told more }) was
    ∙ ap (λ (items : List (ℕ × List ℕ)). record first { items = items })
    (append_assoc first.items (pairs_told lines) (pairs_told more) ∙ ap (λ (pairs : List (ℕ × List ℕ)). first.items ++ pairs) (sym joined))

-- a line that lists nothing
pub hears-skipped : (lines : List ReportLine) (line : ReportLine) (first now : ItemList (ℕ × List ℕ)) → pair_told line ≡ [] → HearsPairs lines first now → HearsPairs (lines ++ line ∷ []) first now
hears-skipped lines line first now none heard =
    subst (λ (pairs : List (ℕ × List ℕ)). length first.items + length pairs ≤ first.capacity → now ≡ record first { items = first.items ++ pairs }) (sym (pairs-skipped lines line none)) heard
