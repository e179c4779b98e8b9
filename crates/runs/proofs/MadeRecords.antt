-- What is known of each record of a history: it is the one that its command makes; what the channel gave in it is a raw stream only where one is
-- chosen, and is else what is expected; and a round is honest where nothing is said of its records.
use Rattle.runs.proofs.Names.{◌≡◌, ℕ, ◌+◌, ◌==◌, Bool, true, false, List, [], ◌∷◌, ◌++◌, if◌then◌else◌, refl, ap, sym, ◌∙◌, subst, Some, append_assoc, entry_at, no_entry, Entry, Given, raw, IsReadBy}
use Rattle.runs.proofs.Names.{IsOfReplies, GoesByReplies, replies_in, AreLegalTags, Start, Record, Item, tags_behind, exchanges_in, next_entry, next_record, exchanged, given_is_read, given_of_replies}
use Rattle.runs.proofs.Names.{Code, IsRecordOf, HasNoRawStream, history_of, sender_where, sender_listed_by, Listed, listed_by, Step, Expects, HoldsOfSent, IsGivenFor, IsUnmistakable, expectation_of}
use Rattle.runs.proofs.Names.{Expect, OpList, IsHonest}
use Rattle.runs.proofs.Growth.{run-always}
use Rattle.runs.proofs.Records.{AllRecords, records-at}
use Rattle.runs.proofs.Answering.{TagLaws, given-in-expected, given-unmistakable}

-- each record is the one that its command makes, sent when this was past
abbrev AreMade : Start → List Item → Type 0
AreMade start past = AllRecords (λ sent earlier. sent ≡ next_record start sent.round sent.slot sent.command earlier) past

-- a record of a history is such a one
pub made-record : (start : Start) (steps : List Step) (sent : Record) (earlier : List Item) → IsRecordOf (history_of start steps) sent earlier
    → sent ≡ next_record start sent.round sent.slot sent.command earlier
made-record start steps sent earlier recorded =
    records-at (λ sent earlier. sent ≡ next_record start sent.round sent.slot sent.command earlier) recorded.later sent earlier
    (subst (AreMade start) recorded.is
    (run-always (AreMade start) start
    (record {
      command = λ round slot command past made. (refl, made);
      event = λ event number past made. made;
      result = λ round slot index result past made. made;
      end = λ round end slots past made. made;
    })
    steps [] tt))

-- what the channel gave in it, where it is a raw stream, is heard by the link
pub made-read : (start : Start) (sent : Record) (earlier : List Item) → sent ≡ next_record start sent.round sent.slot sent.command earlier → IsReadBy start.link sent.given
made-read start sent earlier made =
    let entry = next_entry start earlier in
    subst (λ (given : Given). IsReadBy start.link given) (sym (ap (λ (r : Record). r.given) made))
    (given_is_read start.link (replies_in sent.command entry (tags_behind start earlier)) entry.choice start.several)

-- ... and where none is chosen, it is no raw stream
pub made-of-replies : (start : Start) (sent : Record) (earlier : List Item) → sent ≡ next_record start sent.round sent.slot sent.command earlier → GoesByReplies sent.entry.choice
    → IsOfReplies sent.given
made-of-replies start sent earlier made goes =
    let entry = next_entry start earlier in
    subst (λ (given : Given). IsOfReplies given) (sym (ap (λ (r : Record). r.given) made))
    (given_of_replies start.link (replies_in sent.command entry (tags_behind start earlier)) entry.choice start.several
    (subst (λ (e : Entry). GoesByReplies e.choice) (ap (λ (r : Record). r.entry) made) goes))

if-either : (here : Bool) (one other : Entry) → GoesByReplies one.choice → GoesByReplies other.choice → GoesByReplies (if here then one else other).choice
if-either true one other first second = first
if-either false one other first second = second

none-said : (entries : List (ℕ × Entry)) (exchange : ℕ) → HasNoRawStream entries → GoesByReplies (entry_at entries exchange).choice
none-said [] exchange none = tt
none-said (entry ∷ entries) exchange none = if-either (entry.0 == exchange) entry.1 (entry_at entries exchange) none.0 (none-said entries exchange none.1)

-- where no entry of a run gives raw levels, no record of its history does
pub none-given : (start : Start) (sent : Record) (earlier : List Item) → HasNoRawStream start.entries → sent ≡ next_record start sent.round sent.slot sent.command earlier
    → IsOfReplies sent.given
none-given start sent earlier none made =
    made-of-replies start sent earlier made
    (subst (λ (e : Entry). GoesByReplies e.choice) (sym (ap (λ (r : Record). r.entry) made)) (none-said start.entries (exchanges_in earlier + 1) none))

-- ... and none of an honest round
pub honest-given : (start : Start) (sent : Record) (earlier : List Item) → sent ≡ next_record start sent.round sent.slot sent.command earlier → sent.entry ≡ no_entry
    → IsOfReplies sent.given
honest-given start sent earlier made unsaid = made-of-replies start sent earlier made (subst (λ (e : Entry). GoesByReplies e.choice) (sym unsaid) tt)

none-sent : (listed : List Listed) (code : Code) (trext : Bool) (levels : List Bool) → sender_where listed (raw code trext levels) ≡ []
none-sent [] code trext levels = refl
none-sent (one ∷ more) code trext levels = refl

-- a record that was given a raw stream lists no tag
pub raw-unsent : (sent : Record) (code : Code) (trext : Bool) (levels : List Bool) → sent.given ≡ raw code trext levels → sender_listed_by sent ≡ []
raw-unsent sent code trext levels is = ap (λ (given : Given). sender_where (listed_by sent) given) is ∙ none-sent (listed_by sent) code trext levels

-- the pasts behind a record of a history are fronts of it
pub behind-record : (history : List Item) (sent : Record) (earlier : List Item) (recorded : IsRecordOf history sent earlier)
    → history ≡ (recorded.later ++ exchanged sent ∷ []) ++ earlier
behind-record history sent earlier recorded = recorded.is ∙ sym (append_assoc recorded.later (exchanged sent ∷ []) earlier)

pub recorded-expected : TagLaws → (start : Start) (sent : Record) (earlier : List Item) (expect : Expect)
    → sent ≡ next_record start sent.round sent.slot sent.command earlier → AreLegalTags (tags_behind start earlier) → expectation_of sent.command ≡ Some expect
    → IsGivenFor expect sent.given
recorded-expected laws start sent earlier expect made legal asked =
    subst (λ (g : Given). IsGivenFor expect g) (sym (ap (λ (r : Record). r.given) made))
    (given-in-expected laws start sent.command expect (next_entry start earlier) (tags_behind start earlier) asked legal)

pub recorded-unmistakable : TagLaws → (start : Start) (sent : Record) (earlier : List Item) (expect : Expect) (extended : Bool)
    → sent ≡ next_record start sent.round sent.slot sent.command earlier → AreLegalTags (tags_behind start earlier) → Expects sent.command expect extended
    → HoldsOfSent (IsUnmistakable expect) sent.given
recorded-unmistakable laws start sent earlier expect extended made legal asked =
    subst (λ (g : Given). HoldsOfSent (IsUnmistakable expect) g) (sym (ap (λ (r : Record). r.given) made))
    (given-unmistakable laws start sent.command expect extended (next_entry start earlier) (tags_behind start earlier) asked legal)

-- each record is what its command makes of what was past: a law of runs
abbrev pub RecordsFollow : Type 0
RecordsFollow = (start : Start) (taken : List Step) (sent : Record) (earlier : List Item) → IsRecordOf (history_of start taken) sent earlier
    → sent ≡ next_record start sent.round sent.slot sent.command earlier

pub honest-exchanges : RecordsFollow → (start : Start) (taken : List Step) (round : ℕ) (operations : OpList) → operations.ops ≡ []
    → ((sent : Record) (earlier : List Item) → IsRecordOf (history_of start taken) sent earlier → sent.round ≡ round → entry_at start.entries sent.exchange ≡ no_entry)
    → IsHonest (history_of start taken) round operations
honest-exchanges follow start taken round operations none unsaid = record {
  no_operations = none;
  unsaid = λ sent earlier recorded same.
      let made = follow start taken sent earlier recorded in
      ap (λ (r : Record). r.entry) made
      ∙ ap (λ n. entry_at start.entries n) (sym (ap (λ (r : Record). r.exchange) made))
      ∙ unsaid sent earlier recorded same;
}

pub honest-run : RecordsFollow → (start : Start) (taken : List Step) (round : ℕ) (operations : OpList) → operations.ops ≡ [] → start.entries ≡ []
    → IsHonest (history_of start taken) round operations
honest-run follow start taken round operations none silent =
    honest-exchanges follow start taken round operations none (λ sent earlier recorded same. ap (λ (entries : List (ℕ × Entry)). entry_at entries sent.exchange) silent)
