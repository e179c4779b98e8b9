-- Of two pasts that grow by what comes next, one is a front of the other. So the events and the exchanges determine a past, but for
-- the results and ends that follow them.
use Rattle.runs.proofs.Names.{◌≡◌, ◌+◌, ◌⊎◌, inl, inr, List, [], ◌∷◌, ◌++◌, length, refl, ap, sym, ◌∙◌, arith, length-append, Start, Item, befell, exchanged, events_and_records_of, IsConcluded}
use Rattle.runs.proofs.Names.{GrowsByNext, Step}
use Rattle.runs.proofs.Growth.{Grows}
use Rattle.runs.proofs.HeadlineNext.{fronts}

events_and_records_of-append : (own past : List Item) → events_and_records_of (own ++ past) ≡ events_and_records_of own ++ events_and_records_of past
events_and_records_of-append [] past = refl
events_and_records_of-append (befell event number ∷ own) past = ap (λ (items : List Item). befell event number ∷ items) (events_and_records_of-append own past)
events_and_records_of-append (exchanged sent ∷ own) past = ap (λ (items : List Item). exchanged sent ∷ items) (events_and_records_of-append own past)
events_and_records_of-append (item ∷ own) past = events_and_records_of-append own past

none-added : (own past : List Item) → own ++ past ≡ past → own ≡ []
none-added [] past is = refl
none-added (item ∷ own) past is =
    let count : length (item ∷ own) + length past ≡ length past = sym (length-append (item ∷ own) past) ∙ ap length is in
    absurd (omega (arith, count))

concluded : (past behind : List Item) → Grows past behind → events_and_records_of past ≡ events_and_records_of behind → IsConcluded past behind
concluded past behind grown same = record {
  own = grown.own;
  none = none-added (events_and_records_of grown.own) (events_and_records_of past) (sym (events_and_records_of-append grown.own past) ∙ ap events_and_records_of (sym grown.is) ∙ sym same);
  is = grown.is;
}

pub one-past : (start : Start) (all : List Step) (one other : List Item) → GrowsByNext start all one → GrowsByNext start all other → events_and_records_of one ≡ events_and_records_of other
    → IsConcluded one other ⊎ IsConcluded other one
one-past start all one other left right same = elim (fronts start all one other left right) [
  | inl grown ↦ inl (concluded one other grown same)
  | inr grown ↦ inr (concluded other one grown (sym same))
]
