-- Each standing that lines lead to can be completed to the end of a trace, so that a refused line is the first with which none
-- goes on.
use Rattle.air_audit.proofs.Names.{◌≡◌, ◌+◌, ◌≤◌, ℕ, zero, suc, List, [], ◌∷◌, ◌++◌, map, take, drop, Option, Some, None, slice_get, arith, ap, inl, inr, refl, ◌∙◌, subst, trace_rules, BeginTrace}
use Rattle.air_audit.proofs.Names.{IsFirstRefusal, IsFirstThatBeginsNone, TraceStanding, begun, between, sending, listing, telling, behind_exchange, link_line, rx_line, told_line, behind_told}
use Rattle.air_audit.proofs.Names.{next_tag, TellsNextTag, TraceGoesOn, AuditReason, Start, Item, exchanged, tags_behind, Faulty, HasOutcomeFrom, Lead, text_of, TagLine, DoneLine, Listed, listed_by}
use Rattle.air_audit.proofs.Names.{list_line, tag_lines, TagValue, lines_of}
use Rattle.air_audit.specs.declared.trace_line_words.Word.TheVariants as words
use Rattle.air_audit.specs.TraceOrder.{ended}
use Rattle.air_audit.proofs.OneStanding.{Laws}
use Rattle.air_audit.proofs.OneVerdict.{unambiguous}
use Rattle.air_audit.proofs.Words.{goes-as, rx-is-rx, told-goes}

slice_get-drop : {X : Type 0} (xs : List X) (n place : ℕ) → slice_get (drop n xs) place ≡ slice_get xs (n + place)
slice_get-drop xs zero place = let same : place ≡ 0 + place = omega arith in ap (slice_get xs) same
slice_get-drop [] (suc n) place = refl
slice_get-drop (x ∷ xs) (suc n) place = let same : suc (n + place) ≡ suc n + place = omega arith in slice_get-drop xs n place ∙ ap (slice_get (x ∷ xs)) same

-- the lines of the tags that are left, and the last line
abbrev pub rest_lines : ℕ → List TagValue → List (List ℕ)
rest_lines told rest = map text_of (tag_lines told rest ++ DoneLine ∷ [])

-- a standing behind the lines of so many tags: the line of the next may follow
abbrev pub TellsFrom : Start → List Item → ℕ → TraceStanding → Type 0
TellsFrom start past told from = (line : List ℕ) (to : TraceStanding) → TellsNextTag start past told line to → TraceGoesOn start from line to

tells-next : (start : Start) (past : List Item) (told : ℕ) (next : Option TagValue) → next ≡ next_tag start past told
    → TellsNextTag start past told (text_of (told_line told next)) (behind_told past told next)
tells-next start past told next is = record {
  text = ap (λ (tag : Option TagValue). text_of (told_line told tag)) is;
  leads = ap (λ (tag : Option TagValue). behind_told past told tag) is;
}

-- the lines of the tags from one on lead to the end
pub rest-leads : (start : Start) (past : List Item) (told : ℕ) (rest : List TagValue) (from : TraceStanding)
    → ((place : ℕ) → slice_get rest place ≡ next_tag start past (told + place)) → TellsFrom start past told from → Lead (trace_rules start) from (rest_lines told rest) (ended past)
rest-leads start past told [] from are goes =
    let same : told + 0 ≡ told = omega arith in
    (ended past, goes (text_of DoneLine) (ended past) (tells-next start past told None (are 0 ∙ ap (λ (n : ℕ). next_tag start past n) same)), refl)
rest-leads start past told (tag ∷ rest) from are goes =
    let same : told + 0 ≡ told = omega arith in (
      telling past (told + 1),
      goes (text_of (TagLine told tag)) (telling past (told + 1)) (tells-next start past told (Some tag) (are 0 ∙ ap (λ (n : ℕ). next_tag start past n) same)),
      rest-leads start past (told + 1) rest (telling past (told + 1))
          (λ place. let later : told + suc place ≡ told + 1 + place = omega arith in are (suc place) ∙ ap (λ (n : ℕ). next_tag start past n) later)
          (λ line to tells. told-goes start past (told + 1) (telling past (told + 1)) line to tells tells),
    )

-- a standing and lines that lead from it to the end of a trace
record Completes (start : Start) (from : TraceStanding) : Type 0 where
  pub more : List (List ℕ)
  pub past : List Item
  pub leads : Lead (trace_rules start) from more (ended past)

completes-more : (start : Start) (from : TraceStanding) (line : List ℕ) (behind : TraceStanding) → TraceGoesOn start from line behind → Completes start behind → Completes start from
completes-more start from line behind goes rest = record { more = line ∷ rest.more; past = rest.past; leads = (behind, goes, rest.leads) }

completes-told : (start : Start) (past : List Item) (told : ℕ) (from : TraceStanding) → TellsFrom start past told from → Completes start from
completes-told start past told from goes = record {
  more = rest_lines told (drop told (tags_behind start past));
  past = past;
  leads = rest-leads start past told (drop told (tags_behind start past)) from (λ place. slice_get-drop (tags_behind start past) told place) goes;
}

completes-between : (start : Start) (past : List Item) → Completes start (between past)
completes-between start past = completes-told start past 0 (between past) (λ line to tells. told-goes start past 0 (between past) line to tells tells)

completes-listed : (start : Start) (past : List Item) (listed : List Listed) → Completes start (behind_exchange past listed)
completes-listed start past [] = completes-between start past
completes-listed start past (listed ∷ others) =
    completes-more start (listing past listed) (text_of (list_line listed)) (between past) (record { text = refl; leads = refl }) (completes-between start past)

completes : (start : Start) (from : TraceStanding) → Completes start from
completes start begun =
    completes-more start begun (text_of (link_line start.link)) (between []) (record { text = refl; leads = refl }) (completes-between start [])
completes start (between past) = completes-between start past
completes start (sending past sent) =
    completes-more start (sending past sent) (text_of (rx_line start sent)) (behind_exchange (exchanged sent ∷ past) (listed_by sent))
    (goes-as start (sending past sent) (text_of (rx_line start sent)) (behind_exchange (exchanged sent ∷ past) (listed_by sent)) words.Rx (rx-is-rx start sent) (record { text = refl; leads = refl }))
    (completes-listed start (exchanged sent ∷ past) (listed_by sent))
completes start (listing past listed) = completes-listed start past (listed ∷ [])
completes start (telling past told) = completes-told start past told (telling past told) (λ line to tells. told-goes start past told (telling past told) line to tells tells)
completes start (ended past) = record { more = []; past = past; leads = refl }

-- the lines before a refused one begin a trace, and so does each front of them
fewer-go : (start : Start) (from : TraceStanding) (first : ℕ) (lines : List (List ℕ)) (number : ℕ) (reason : AuditReason) → HasOutcomeFrom (trace_rules start) from first lines (Faulty number reason)
    → (fewer : ℕ) → fewer + first ≤ number → BeginTrace start from lines fewer
fewer-go start from first [] number reason is fewer within = absurd is
fewer-go start from first (line ∷ lines) number reason is zero within =
    let rest = completes start from in record { whole = omega arith; more = rest.more; past = rest.past; leads = rest.leads }
fewer-go start from first (line ∷ []) number reason is (suc fewer) within = absurd (omega (arith, is.1))
fewer-go start from first (line ∷ next ∷ lines) number reason (inl stops) (suc fewer) within = absurd (omega (arith, stops.1))
fewer-go start from first (line ∷ next ∷ lines) number reason (inr more) (suc fewer) within =
    let rest = fewer-go start more.0 (first + 1) (next ∷ lines) number reason more.2 fewer (omega arith) in
    record { whole = omega (arith, rest.whole); more = rest.more; past = rest.past; leads = (more.0, more.1, rest.leads) }

-- no line before the first is the refused one
not-before : (start : Start) (from : TraceStanding) (first : ℕ) (lines : List (List ℕ)) (number : ℕ) (reason : AuditReason) → HasOutcomeFrom (trace_rules start) from first lines (Faulty number reason)
    → first ≤ number
not-before start from first [] number reason is = absurd is
not-before start from first (line ∷ []) number reason is = omega (arith, is.1)
not-before start from first (line ∷ next ∷ lines) number reason (inl stops) = omega (arith, stops.1)
not-before start from first (line ∷ next ∷ lines) number reason (inr more) = omega (arith, not-before start more.0 (first + 1) (next ∷ lines) number reason more.2)

-- with the refused line they don't
none-go : Laws → (start : Start) (from : TraceStanding) (first : ℕ) (lines : List (List ℕ)) (number : ℕ) (reason : AuditReason)
    → HasOutcomeFrom (trace_rules start) from first lines (Faulty number reason) → (count : ℕ) → count + first ≡ number + 1 → BeginTrace start from lines count → ⊥
none-go laws start from first lines number reason is zero place go = omega (arith, place, not-before start from first lines number reason is)
none-go laws start from first [] number reason is (suc count) place go = is
none-go laws start from first (line ∷ []) number reason is (suc count) place go = omega (arith, go.whole)
none-go laws start from first (line ∷ next ∷ lines) number reason (inl stops) (suc count) place go =
    (unambiguous laws start).not_faulty from go.leads.0 line reason go.leads.1 stops.0
none-go laws start from first (line ∷ next ∷ lines) number reason (inr more) (suc count) place go =
    let same = (unambiguous laws start).one_standing from go.leads.0 more.0 line go.leads.1 more.1 in
    none-go laws start more.0 (first + 1) (next ∷ lines) number reason more.2 count (omega (arith, place))
    (record {
      whole = omega (arith, go.whole);
      more = go.more;
      past = go.past;
      leads = subst (λ (s : TraceStanding). Lead (trace_rules start) s (take count (next ∷ lines) ++ go.more) (ended go.past)) same go.leads.2;
    })

pub first-that-begins-none : Laws → (start : Start) (bytes : List ℕ) (number : ℕ) (reason : AuditReason) → IsFirstRefusal start bytes number reason
    → IsFirstThatBeginsNone start bytes number
first-that-begins-none laws start bytes number reason first = record {
  before = λ fewer less. fewer-go start begun 1 (lines_of bytes) number reason first fewer (omega (arith, less));
  none = none-go laws start begun 1 (lines_of bytes) number reason first number refl;
}
