-- Which lines of a report pass a test that only lines of listed EPCs, of results and of ends of rounds may pass.
use Rattle.runs.proofs.Names.{◌≡◌, ℕ, ◌+◌, Bool, true, false, ◌&&◌, List, [], ◌∷◌, ◌++◌, length, map, filter, refl, ap, ◌∙◌, append-nil, append_assoc, filter-append, heard_levels, wave_for, Start}
use Rattle.runs.proofs.Names.{Record, Item, exchanged, tags_behind, is_round_line, is_list_line, Listed, listed_by, listing_of, answer_line, exchanged_by, exchange_lines, list_line, item_lines}
use Rattle.runs.proofs.Names.{past_lines, tag_lines, last_lines, is_plain, LinkValue, ReportLine, ExchangeLine, MissedLine, GivenLine, TxLine, RxLine, ListLine, RoundLine, SeenLine, TagLine, DoneLine}
use Rattle.runs.proofs.Names.{SeenCount, seen_counts, TagValue}

-- no line passes that not each report has
abbrev pub PassesNoTrace : (ReportLine → Bool) → Type 0
PassesNoTrace test = (line : ReportLine) → is_plain line ≡ false → test line ≡ false

-- ... and none behind the steps
pub record PassesFew (test : ReportLine → Bool) : Type 0 where
  pub trace : PassesNoTrace test
  pub seen : (count pc : ℕ) (epc : List ℕ) → test (SeenLine count pc epc) ≡ false
  pub tag : (number : ℕ) (tag : TagValue) → test (TagLine number tag) ≡ false
  pub done : test DoneLine ≡ false

pub round-no-trace : (round : ℕ) → PassesNoTrace (is_round_line round)
round-no-trace round (RoundLine number end slots) is = absurd (cc)
round-no-trace round line is = refl

pub round-lines-pass : (round : ℕ) → PassesFew (is_round_line round)
round-lines-pass round = record {
  trace = round-no-trace round;
  seen = λ count pc epc. refl;
  tag = λ number tag. refl;
  done = refl;
}

pub list-no-trace : (round slot : ℕ) → PassesNoTrace (is_list_line round slot)
list-no-trace round slot (ListLine in_round in_slot pc epc) is = absurd (cc)
list-no-trace round slot line is = refl

pub list-lines-pass : (round slot : ℕ) → PassesFew (is_list_line round slot)
list-lines-pass round slot = record {
  trace = list-no-trace round slot;
  seen = λ count pc epc. refl;
  tag = λ number tag. refl;
  done = refl;
}

-- lines that are made of items, none of which passes
none-made : {A : Type 0} (test : ReportLine → Bool) (made : A → ReportLine) → ((item : A) → test (made item) ≡ false) → (items : List A) (more : List ReportLine)
    → filter test (map made items ++ more) ≡ filter test more
none-made test made fails [] more = refl
none-made test made fails (item ∷ items) more = rw (fails item) (none-made test made fails items more)

-- of who said what and of the waves none does
pub no-exchange : (test : ReportLine → Bool) → PassesNoTrace test → (link : LinkValue) (sent : Record) → filter test (exchange_lines link sent) ≡ []
no-exchange test none link sent =
    let waves : List ReportLine = TxLine sent.exchange (wave_for link sent.command) ∷ RxLine sent.exchange (length sent.replies) (heard_levels link sent.given) ∷ [] in
    let over : List ReportLine = GivenLine (exchanged_by link sent) ∷ waves in
    let fails : filter test over ≡ [] =
    rw (
      none (GivenLine (exchanged_by link sent)) refl,
      none (TxLine sent.exchange (wave_for link sent.command)) refl,
      none (RxLine sent.exchange (length sent.replies) (heard_levels link sent.given)) refl,
    ) refl in
    rw (none (ExchangeLine sent.exchange sent.command) refl)
    (ap (filter test) (append_assoc (map (MissedLine sent.exchange) sent.entry.missed) (map (answer_line sent.exchange) sent.replies ++ GivenLine (exchanged_by link sent) ∷ []) waves
    ∙ ap (λ (lines : List ReportLine). map (MissedLine sent.exchange) sent.entry.missed ++ lines) (append_assoc (map (answer_line sent.exchange) sent.replies) (GivenLine (exchanged_by link sent) ∷ []) waves))
    ∙ none-made test (MissedLine sent.exchange) (λ tag. none (MissedLine sent.exchange tag) refl) sent.entry.missed (map (answer_line sent.exchange) sent.replies ++ over)
    ∙ none-made test (answer_line sent.exchange) (λ replied. none (answer_line sent.exchange replied) refl) sent.replies over
    ∙ fails)

-- of an exchange those that list something may pass
pub sent-passes : (test : ReportLine → Bool) → PassesFew test → (link : LinkValue) (sent : Record) (past : List Item)
    → filter test (past_lines link (exchanged sent ∷ past)) ≡ filter test (past_lines link past) ++ filter test (map list_line (listed_by sent))
sent-passes test few link sent past =
    filter-append test (past_lines link past) (item_lines link (exchanged sent))
    ∙ ap (λ (lines : List ReportLine). filter test (past_lines link past) ++ lines)
    (filter-append test (exchange_lines link sent) (map list_line (listed_by sent))
    ∙ ap (λ (lines : List ReportLine). lines ++ filter test (map list_line (listed_by sent))) (no-exchange test few.trace link sent))

-- where no list line passes, what is listed adds nothing
pub no-listed : (test : ReportLine → Bool) → ((listed : Listed) → test (list_line listed) ≡ false) → (listing : List Listed)
    → filter test (map list_line listing) ≡ []
no-listed test fails [] = refl
no-listed test fails (listed ∷ listing) = rw (fails listed) (no-listed test fails listing)

-- ... and no exchange
pub sent-adds-none : (test : ReportLine → Bool) → PassesFew test → ((listed : Listed) → test (list_line listed) ≡ false) → (link : LinkValue) (sent : Record) (past : List Item)
    → filter test (past_lines link (exchanged sent ∷ past)) ≡ filter test (past_lines link past)
sent-adds-none test few fails link sent past =
    sent-passes test few link sent past
    ∙ ap (λ (lines : List ReportLine). filter test (past_lines link past) ++ lines) (no-listed test fails (listed_by sent))
    ∙ append-nil (filter test (past_lines link past))

-- an item whose lines don't pass adds none
pub item-passes : (test : ReportLine → Bool) (link : LinkValue) (item : Item) (past : List Item) → filter test (item_lines link item) ≡ []
    → filter test (past_lines link (item ∷ past)) ≡ filter test (past_lines link past)
item-passes test link item past none =
    filter-append test (past_lines link past) (item_lines link item)
    ∙ ap (λ (lines : List ReportLine). filter test (past_lines link past) ++ lines) none
    ∙ append-nil (filter test (past_lines link past))

pub no-last : (test : ReportLine → Bool) → PassesFew test → (seen : List SeenCount) (number : ℕ) (tags : List TagValue)
    → filter test (map (λ seen. SeenLine seen.count seen.pc seen.epc) seen ++ tag_lines number tags ++ DoneLine ∷ []) ≡ []
no-last test few [] number [] = rw few.done refl
no-last test few [] number (tag ∷ tags) = rw (few.tag number tag) (no-last test few [] (number + 1) tags)
no-last test few (one ∷ more) number tags = rw (few.seen one.count one.pc one.epc) (no-last test few more number tags)

-- of a run those of the steps may pass
pub run-passes : (test : ReportLine → Bool) → PassesFew test → (start : Start) (past : List Item)
    → filter test (past_lines start.link past ++ last_lines start past) ≡ filter test (past_lines start.link past)
run-passes test few start past =
    filter-append test (past_lines start.link past) (last_lines start past)
    ∙ ap (λ (lines : List ReportLine). filter test (past_lines start.link past) ++ lines)
    (no-last test few (seen_counts (map (λ listed. (listed.pc, listed.epc)) (listing_of past))) 0 (tags_behind start past))
    ∙ append-nil (filter test (past_lines start.link past))

-- two tests in one
pub and-false : (a b : Bool) → b ≡ false → (a && b) ≡ false
and-false true b is = is
and-false false b is = refl

pub and-true : (a b : Bool) → a ≡ true → b ≡ true → (a && b) ≡ true
and-true true b is this = this
and-true false b is this = absurd (cc)
