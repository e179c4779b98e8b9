-- What holds of each record of a past, with what was past before it.
use Rattle.runs.proofs.Names.{◌≡◌, List, [], ◌∷◌, ◌++◌, refl, ap, Record, Item, exchanged, IsRecordOf}

-- this holds of each record of a past, with what was past before it
abbrev pub AllRecords : (Record → List Item → Type 0) → List Item → Type 0
AllRecords P [] = Unit {0}
AllRecords P (exchanged sent ∷ past) = P sent past × AllRecords P past
AllRecords P (item ∷ past) = AllRecords P past

-- ... and so of one that is named
pub records-at : (P : Record → List Item → Type 0) (later : List Item) (sent : Record) (earlier : List Item) → AllRecords P (later ++ exchanged sent ∷ earlier) → P sent earlier
records-at P [] sent earlier all = all.0
records-at P (exchanged other ∷ later) sent earlier all = records-at P later sent earlier all.1
records-at P (item ∷ later) sent earlier all = records-at P later sent earlier all

pub records-behind : (P : Record → List Item → Type 0) (later past : List Item) → AllRecords P (later ++ past) → AllRecords P past
records-behind P [] past all = all
records-behind P (exchanged other ∷ later) past all = records-behind P later past all.1
records-behind P (item ∷ later) past all = records-behind P later past all

pub records-weaker : (P Q : Record → List Item → Type 0) (past : List Item) → ((sent : Record) (earlier : List Item) → P sent earlier → Q sent earlier) → AllRecords P past → AllRecords Q past
records-weaker P Q [] weaker all = tt
records-weaker P Q (exchanged sent ∷ past) weaker all = (weaker sent past all.0, records-weaker P Q past weaker all.1)
records-weaker P Q (item ∷ past) weaker all = records-weaker P Q past weaker all

-- a record of a history is one of it still when it has grown
pub later-record : (item : Item) (past : List Item) (sent : Record) (earlier : List Item) → IsRecordOf past sent earlier → IsRecordOf (item ∷ past) sent earlier
later-record item past sent earlier recorded = record { later = item ∷ recorded.later; is = ap (λ (items : List Item). item ∷ items) recorded.is }

pub records-all : (P : Record → List Item → Type 0) (past : List Item) → ((sent : Record) (earlier : List Item) → IsRecordOf past sent earlier → P sent earlier) → AllRecords P past
records-all P [] each = tt
records-all P (exchanged other ∷ past) each = (
  each other past (record { later = []; is = refl }),
  records-all P past (λ sent earlier recorded. each sent earlier (later-record (exchanged other) past sent earlier recorded)),
)
records-all P (item ∷ past) each = records-all P past (λ sent earlier recorded. each sent earlier (later-record item past sent earlier recorded))
