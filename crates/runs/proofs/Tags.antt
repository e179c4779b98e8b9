-- The tags behind a past that is one item longer.
use Rattle.runs.proofs.Names.{◌≡◌, ℕ, suc, ◌+◌, List, [], ◌∷◌, length, refl, ap, ◌∙◌, OpResult, Event, outcome_in, outcomes_from, tags_after, tag_after_own_event, tags_after_event, Start, Record}
use Rattle.runs.proofs.Names.{Item, befell, exchanged, operated, ended, tag_behind, tags_behind_from, tags_behind, RoundEnd, TagValue}

-- behind an exchange
tags-exchanged-from : (number : ℕ) (starts : List TagValue) (sent : Record) (past : List Item)
    → tags_behind_from number starts (exchanged sent ∷ past) ≡ tags_after (outcomes_from number sent.command sent.entry (tags_behind_from number starts past))
tags-exchanged-from number [] sent past = refl
tags-exchanged-from number (start ∷ starts) sent past =
    ap (λ (tags : List TagValue). (outcome_in number sent.command sent.entry (tag_behind number start past)).tag ∷ tags) (tags-exchanged-from (number + 1) starts sent past)

pub tags-exchanged : (start : Start) (sent : Record) (past : List Item)
    → tags_behind start (exchanged sent ∷ past) ≡ tags_after (outcomes_from 0 sent.command sent.entry (tags_behind start past))
tags-exchanged start sent past = tags-exchanged-from 0 start.tags sent past

-- behind an event
tags-befell-from : (number : ℕ) (starts : List TagValue) (event : Event) (befallen : ℕ) (past : List Item)
    → tags_behind_from number starts (befell event befallen ∷ past) ≡ tags_after_event number event befallen (tags_behind_from number starts past)
tags-befell-from number [] event befallen past = refl
tags-befell-from number (start ∷ starts) event befallen past =
    ap (λ (tags : List TagValue). tag_after_own_event number event befallen (tag_behind number start past) ∷ tags) (tags-befell-from (number + 1) starts event befallen past)

pub tags-befell : (start : Start) (event : Event) (befallen : ℕ) (past : List Item)
    → tags_behind start (befell event befallen ∷ past) ≡ tags_after_event 0 event befallen (tags_behind start past)
tags-befell start event befallen past = tags-befell-from 0 start.tags event befallen past

-- behind what changes no tag
tags-kept-from : (number : ℕ) (starts : List TagValue) (item : Item) (past : List Item) → ((number : ℕ) (start : TagValue) → tag_behind number start (item ∷ past) ≡ tag_behind number start past)
    → tags_behind_from number starts (item ∷ past) ≡ tags_behind_from number starts past
tags-kept-from number [] item past each = refl
tags-kept-from number (start ∷ starts) item past each =
    ap (λ (tag : TagValue). tag ∷ tags_behind_from (number + 1) starts (item ∷ past)) (each number start)
    ∙ ap (λ (tags : List TagValue). tag_behind number start past ∷ tags) (tags-kept-from (number + 1) starts item past each)

-- the end of a round
pub tags-ended : (start : Start) (round : ℕ) (end : RoundEnd) (slots : ℕ) (past : List Item)
    → tags_behind start (ended round end slots ∷ past) ≡ tags_behind start past
tags-ended start round end slots past = tags-kept-from 0 start.tags (ended round end slots) past (λ number tag. refl)

-- and the result of an operation
pub tags-operated : (start : Start) (round slot index : ℕ) (result : OpResult) (past : List Item)
    → tags_behind start (operated round slot index result ∷ past) ≡ tags_behind start past
tags-operated start round slot index result past = tags-kept-from 0 start.tags (operated round slot index result) past (λ number tag. refl)

-- no tag comes and none goes
length-tags-from : (number : ℕ) (starts : List TagValue) (past : List Item) → length (tags_behind_from number starts past) ≡ length starts
length-tags-from number [] past = refl
length-tags-from number (start ∷ starts) past = ap suc (length-tags-from (number + 1) starts past)

pub length-tags : (start : Start) (past : List Item) → length (tags_behind start past) ≡ length start.tags
length-tags start past = length-tags-from 0 start.tags past
