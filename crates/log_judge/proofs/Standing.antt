-- What is known stands for a log, entry by entry.
use Rattle.std.proofs.Common.{◌≡◌, ℕ, ◌+◌, ◌^◌, ◌<◌, ◌≤◌, false, List, [], ◌∷◌, ◌++◌, length, refl, sym, ap, subst, arith, append_assoc, length-append}
use Rattle.std.proofs.lemmas.List.Elements.{All-append, All-cons}
use Rattle.tag_machine.specs.TagValue.{StateValue, TagValue}
use Rattle.log_judge.specs.Log.{LogEntry, LoggedTag, tag_with}
use Rattle.log_judge.specs.Explaining.{Allows, IsAllowed, IsLedBy, Leads, Manner, ByTables, WithLiberties}
use Rattle.log_judge.specs.laws.Logs.{IsLegalEntry}
use Rattle.log_judge.specs.laws.Kinds.{reworded}
use Rattle.log_judge.specs.laws.Known.{Known, Covers, CoversState, Follows}
use Rattle.log_judge.specs.laws.StandingLaws.{ComesTo, StandsBehind}
use Rattle.log_judge.proofs.OneEntry.{comes, follows_one, goes, valid_behind}
use Rattle.log_judge.proofs.OneKind.{AreSmall, none_small}

-- a log and an entry more
pub leads_on : (manner : Manner) (log : List LogEntry) (entry : LogEntry) (tag next behind : TagValue) → Leads manner log tag next → Allows manner entry next behind → Leads manner (log ++ entry ∷ []) tag behind
leads_on manner [] entry tag next behind leads allows = (behind, subst (λ (t : TagValue). Allows manner entry t behind) leads allows, refl)
leads_on manner (first ∷ log) entry tag next behind leads allows = (leads.0, leads.1, leads_on manner log entry leads.0 next behind leads.2 allows)

pub record LeadsOver (manner : Manner) (log : List LogEntry) (entry : LogEntry) (tag behind : TagValue) : Type 0 where
  pub next : TagValue
  pub leads : Leads manner log tag next
  pub allows : Allows manner entry next behind

pub leads_over : (manner : Manner) (log : List LogEntry) (entry : LogEntry) (tag behind : TagValue) → Leads manner (log ++ entry ∷ []) tag behind → LeadsOver manner log entry tag behind
leads_over manner [] entry tag behind leads = record { next = tag; leads = refl; allows = subst (λ (t : TagValue). Allows manner entry tag t) (sym leads.2) leads.1 }
leads_over manner (first ∷ log) entry tag behind leads =
    let over = leads_over manner log entry leads.0 behind leads.2 in
    record { next = over.next; leads = (leads.0, leads.1, over.leads); allows = over.allows }

-- the words of either manner
pub words_of : (manner : Manner) (tag : LoggedTag) (log : List LogEntry) → IsAllowed manner tag log → (words : List ℕ) × IsLedBy words manner tag log
words_of ByTables tag log allowed = (allowed.words, allowed.explain)
words_of WithLiberties tag log allowed = (allowed.words, allowed.excuse)

pub allowed_by : (manner : Manner) (tag : LoggedTag) (log : List LogEntry) (words : List ℕ) → IsLedBy words manner tag log → IsAllowed manner tag log
allowed_by ByTables tag log words led = record { words = words; explain = led }
allowed_by WithLiberties tag log words led = record { words = words; excuse = led }

-- before the first entry, whatever the words of the tag
pub stands_first : (manner : Manner) (tag : LoggedTag) (words : List ℕ) → StandsBehind manner tag [] (record { tag = tag_with tag words; any = false })
stands_first manner tag words = record {
  valid = record { small = tt; itself = refl };
  sound = λ others behind drawn leads. record {
    place = 0;
    inside = drawn.some;
    covers = record { state = ap (λ (t : TagValue). t.state) leads; body = ap (λ (t : TagValue). t.body) leads };
  };
  whole = λ state future covers some. record {
    used = [];
    small = none_small;
    leads = ap (λ (s : StateValue). let it : TagValue = record { state = s; body = reworded future 0 (tag_with tag words).body } in it) covers;
  };
}

module _ (manner : Manner) (tag : LoggedTag) (log : List LogEntry) (known : Known) (stands : StandsBehind manner tag log known) (entry : LogEntry) (legal : IsLegalEntry entry) where
  whole_on : (next : Known) → Follows manner known entry next → (state : StateValue) (future : List ℕ) → CoversState next.any next.tag.state state → 1 ≤ length future → ComesTo manner tag (log ++ entry ∷ []) next state future
  whole_on next follows state future covers some =
      let it = comes manner known entry next state stands.valid legal follows covers in
      let more : 1 ≤ length (it.drawn ++ future) = omega (arith, length-append it.drawn future, some) in
      let before = stands.whole it.from (it.drawn ++ future) it.meant more in
      let words : List ℕ = (before.used ++ it.drawn) ++ future in
      let same : before.used ++ (it.drawn ++ future) ≡ words = sym (append_assoc before.used it.drawn future) in
      let count : length before.used + length it.drawn ≡ length (before.used ++ it.drawn) = sym (length-append before.used it.drawn) in
      let whole : Leads manner (log ++ entry ∷ []) (tag_with tag (before.used ++ (it.drawn ++ future))) (record { state = state; body = reworded (before.used ++ (it.drawn ++ future)) (length before.used + length it.drawn) next.tag.body })
      = leads_on manner log entry (tag_with tag (before.used ++ (it.drawn ++ future))) _ _ before.leads (it.leads before.used future some) in
      record {
        used = before.used ++ it.drawn;
        small = All-append (λ word. word < 2 ^ 16) before.used it.drawn before.small it.are_small;
        leads = subst (λ (ws : List ℕ). Leads manner (log ++ entry ∷ []) (tag_with tag ws) (record { state = state; body = reworded ws (length (before.used ++ it.drawn)) next.tag.body })) same
            (subst (λ (n : ℕ). Leads manner (log ++ entry ∷ []) (tag_with tag (before.used ++ (it.drawn ++ future))) (record { state = state; body = reworded (before.used ++ (it.drawn ++ future)) n next.tag.body })) count whole);
      }

  -- ... and behind an entry more
  pub stands_on : (next : Known) → Follows manner known entry next → StandsBehind manner tag (log ++ entry ∷ []) next
  stands_on next follows = record {
    valid = valid_behind manner known entry next legal stands.valid follows;
    sound = λ words behind drawn leads.
        let over = leads_over manner log entry (tag_with tag words) behind leads in
        let meant = stands.sound words over.next drawn over.leads in
        let gone = goes known stands.valid words meant.place meant.inside over.next meant.covers manner entry behind legal over.allows in
        record { place = gone.place; inside = gone.inside; covers = subst (λ (k : Known). Covers words gone.place k behind) (follows_one manner known entry gone.next next gone.follows follows) gone.covers };
    whole = whole_on next follows;
  }

  -- where nothing may follow, no words lead on
  pub fails_on : ((next : Known) → ¬ Follows manner known entry next) → ¬ IsAllowed manner tag (log ++ entry ∷ [])
  fails_on none allowed =
      let by = words_of manner tag (log ++ entry ∷ []) allowed in
      let over = leads_over manner log entry (tag_with tag by.0) by.1.behind by.1.leads in
      let meant = stands.sound by.0 over.next by.1.drawn over.leads in
      let gone = goes known stands.valid by.0 meant.place meant.inside over.next meant.covers manner entry by.1.behind legal over.allows in
      none gone.next gone.follows

-- some words do what the log says
pub allowed_where_stands : (manner : Manner) (tag : LoggedTag) (log : List LogEntry) (known : Known) → StandsBehind manner tag log known → IsAllowed manner tag log
allowed_where_stands manner tag log known stands =
    let it = stands.whole known.tag.state (0 ∷ []) stands.valid.itself (omega arith) in
    let words : List ℕ = it.used ++ 0 ∷ [] in
    let zero_small : AreSmall (0 ∷ []) = All-cons (λ word. word < 2 ^ 16) 0 [] (omega arith) none_small in
    allowed_by manner tag log words (record {
      drawn = record { some = omega (arith, length-append it.used (0 ∷ [])); small = All-append (λ word. word < 2 ^ 16) it.used (0 ∷ []) it.small zero_small };
      behind = _;
      leads = it.leads;
    })
