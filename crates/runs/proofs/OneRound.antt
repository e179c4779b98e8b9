-- What one round makes of tags: whom it lists, and what it leaves of each where it ends quiet.
use Rattle.runs.proofs.Names.{◌≡◌, ℕ, zero, suc, ◌+◌, Bool, true, List, [], ◌∷◌, map, Option, Some, slice_get, if◌then◌else◌, option_map, refl, ap, sym, ◌∙◌, subst, arith, ◌&&◌, AllByRecursion}
use Rattle.runs.proofs.Names.{AllZip, All-get_or, get_or_from_slice_get, slice_get-map, slice_get_within, Start, Item, ended, tag_behind, tags_behind_from, LinkValue, facts, slots-within, SpecValue}
use Rattle.runs.proofs.Names.{IsLegalSpec, RoundEnd, StateValue, TagValue, ReadyState, is_present, AreReady, IsLeftByRound, IsPairOf, IsQuietRound, ListsItsTags, Played, is_named, pc_and_epc_of, Laws}
use Rattle.runs.proofs.Names.{tags_listed_in, tags_listed_where, ending_of, flags_after_query, is_matched_in, tag_after_query, no_operations, played_of, start_with, flags_behind_query}
use Rattle.q_round.specs.declared.round.RoundEnd.TheVariants as round_ends
use Rattle.scenario.specs.declared.values.Step.TheVariants as steps
use Rattle.two_portals.specs.Played.{flags_in_round, times}
use Rattle.runs.proofs.Tags.{length-tags}
use Rattle.runs.proofs.CompleteRound.{IsTold, complete-inventory, history-told}
use Rattle.runs.proofs.RoundsAmong.{played}
use Rattle.runs.proofs.EveryTag.{IsOneRun, IsThere, ListsTags, after-query, among_of, history_of_round, key, key_of, lists-tags, ready-matched}
use Rattle.runs.proofs.MadeRecords.{honest-run, made-record}
use Rattle.runs.proofs.Keeping.{Keeps}
use Rattle.runs.proofs.PlainRounds.{one-round-played}
use Rattle.runs.proofs.Population.{tag_stepped}
use Rattle.runs.proofs.TagQuery.{query-flags}
use Rattle.runs.proofs.TagsInRound.{query_command}

-- the run of one round that begins with these tags
abbrev run_of : List TagValue → SpecValue → List Item
run_of tags spec = history_of_round (start_with tags) spec no_operations

one-run : (tags : List TagValue) (spec : SpecValue) → IsLegalSpec spec → IsOneRun (start_with tags) spec no_operations
one-run tags spec legal = record {
  legal = record { legal = legal; few = omega arith };
  silent = refl;
  fair = record {
    honest = honest-run made-record (start_with tags) (steps.Round spec no_operations ∷ []) 1 no_operations refl refl;
    apart = λ capture. absurd (cc);
  };
}

-- the pair of a tag that is listed is its own
key-is : (tags : List TagValue) (number : ℕ) → IsThere (start_with tags) number → IsPairOf tags (key (start_with tags) number) number
key-is tags number there =
    slice_get-map pc_and_epc_of tags number ∙ ap (option_map pc_and_epc_of) there.numbered ∙ ap (λ (found : Option TagValue). Some (key_of found)) (sym there.numbered)

keys-are : (tags : List TagValue) (numbers : List ℕ) → AllByRecursion (IsThere (start_with tags)) numbers → AllZip (IsPairOf tags) (map (key (start_with tags)) numbers) numbers
keys-are tags [] there = tt
keys-are tags (number ∷ numbers) there = (key-is tags number there.0, keys-are tags numbers there.1)

pub lists-its-tags : (tags : List TagValue) (spec : SpecValue) → IsLegalSpec spec → ListsItsTags tags (played_of tags spec)
lists-its-tags tags spec legal =
    let start = start_with tags in
    let one = one-round-played slots-within tags spec legal in
    let lists : ListsTags start (ended 1 one.end one.slots ∷ one.past) = subst (ListsTags start) one.is (lists-tags slots-within facts start spec no_operations (one-run tags spec legal)) in
    let numbers = tags_listed_where (λ sent. true) one.past in
    subst (ListsItsTags tags) (sym one.played)
    (record {
      each = subst (λ (pairs : List (ℕ × List ℕ)). AllZip (IsPairOf tags) pairs numbers) (sym lists.pairs) (keys-are tags numbers lists.there);
      once = lists.once;
      as_many = length-tags start one.past;
    })

-- what holds of each tag and of what becomes of it
zip-from : (R : TagValue → TagValue → Type 0) (number : ℕ) (starts : List TagValue) (past : List Item)
    → ((place : ℕ) (tag : TagValue) → slice_get starts place ≡ Some tag → R tag (tag_behind (number + place) tag past)) → AllZip R starts (tags_behind_from number starts past)
zip-from R number [] past each = tt
zip-from R number (tag ∷ starts) past each = (
  subst (λ (n : ℕ). R tag (tag_behind n tag past)) (omega arith) (each 0 tag refl),
  zip-from R (number + 1) starts past (λ place later at. subst (λ (n : ℕ). R later (tag_behind n later past)) (omega arith) (each (suc place) later at)),
)

zip-at : (R : TagValue → TagValue → Type 0) (number : ℕ) (starts : List TagValue) (past : List Item) (place : ℕ) (tag : TagValue) → AllZip R starts (tags_behind_from number starts past)
    → slice_get starts place ≡ Some tag → R tag (tag_behind (number + place) tag past)
zip-at R number [] past place tag each at = absurd (cc)
zip-at R number (first ∷ starts) past zero tag each at =
    let same : first ≡ tag = cc in
    subst (λ (t : TagValue). R t (tag_behind (number + 0) t past)) same (subst (λ (n : ℕ). R first (tag_behind n first past)) (omega arith) each.0)
zip-at R number (first ∷ starts) past (suc place) tag each at =
    subst (λ (n : ℕ). R tag (tag_behind n tag past)) (omega arith) (zip-at R (number + 1) starts past place tag each.1 at)

-- a tag that was ready, just after the Query
ready-flags : (spec : SpecValue) (link : LinkValue) (number : ℕ) (tag after : TagValue) → after ≡ tag_stepped (query_command spec link) [] number tag → tag.state ≡ ReadyState
    → after.body.flags ≡ tag.body.flags
ready-flags spec link number tag after is ready =
    ap (λ (t : TagValue). t.body.flags) is
    ∙ query-flags link.dr link.code link.trext spec.sel spec.session spec.target spec.q tag
    ∙ ap (λ (state : StateValue). flags_behind_query spec.session state tag.body.flags) ready

ready-at : (tags : List TagValue) (number : ℕ) (tag : TagValue) → AreReady tags → slice_get tags number ≡ Some tag → tag.state ≡ ReadyState
ready-at tags number tag ready at =
    subst (λ (t : TagValue). t.state ≡ ReadyState) (get_or_from_slice_get tags number tag tag at)
    (All-get_or (λ (t : TagValue). t.state ≡ ReadyState) tags number tag (slice_get_within tags number tag at) ready)

-- the end of a round that is told
ending-is : (start : Start) (history : List Item) (end : RoundEnd) (slots : ℕ) (past : List Item) → history ≡ ended 1 end slots ∷ past → end ≡ round_ends.Quiet
    → ending_of 1 history ≡ Some (record { end = round_ends.Quiet; slots = slots; past = past })
ending-is start history end slots past is quiet = ap (ending_of 1) is ∙ ap (λ (each : RoundEnd). Some (record { end = each; slots = slots; past = past })) quiet

pub is-quiet-round : (tags : List TagValue) (spec : SpecValue) → IsLegalSpec spec → AreReady tags → (played_of tags spec).end ≡ round_ends.Quiet
    → IsQuietRound tags spec (played_of tags spec)
is-quiet-round tags spec legal ready quiet =
    let start = start_with tags in
    let history = run_of tags spec in
    let plain = one-run tags spec legal in
    let one = one-round-played slots-within tags spec legal in
    let ends_quiet : one.end ≡ round_ends.Quiet = sym (ap (λ (round : Played). round.end) one.played) ∙ quiet in
    let among = among_of start spec no_operations in
    let inventory = complete-inventory slots-within facts among (steps.Round spec no_operations ∷ []) (plain.legal, tt) refl plain.fair in
    let complete = inventory.quiet_is_complete one.slots one.past (ending-is start history one.end one.slots one.past one.is ends_quiet) in
    let told : IsTold (played among) history = history-told slots-within facts among (plain.legal, tt) plain.fair in
    let lists = lists-tags slots-within facts start spec no_operations plain in
    let numbers = tags_listed_where (λ sent. true) one.past in
    let listed : numbers ≡ tags_listed_in 1 history = sym (ap (tags_listed_where (λ sent. true)) one.is) ∙ lists.in_round in
    let matched : (number : ℕ) (tag : TagValue) → slice_get tags number ≡ Some tag → is_matched_in 1 history number tag ≡ is_named spec tag =
    λ number tag at.
    ready-matched spec start.link number tag (tag_after_query 1 history number tag) (after-query start spec no_operations plain told number tag) (ready-at tags number tag ready at) in
    subst (IsQuietRound tags spec) (sym one.played)
    (record {
      named = λ number tag at.
          ap (times number) listed ∙ complete.listed number tag at ∙ ap (λ (named : Bool). if named then 1 else 0) (matched number tag at);
      left = zip-from (IsLeftByRound spec) 0 tags one.past (λ number tag at.
          let kept : Keeps tag (tag_behind (0 + number) tag one.past) = zip-at Keeps 0 tags one.past number tag one.kept at in
          let place : 0 + number ≡ number = omega arith in
          let is_ready = ready-at tags number tag ready at in
          let there : is_present tag.state ≡ true = ap is_present is_ready in
          subst (λ (n : ℕ). IsLeftByRound spec tag (tag_behind n tag one.past)) (sym place)
          (record {
            state = complete.ready number tag at (subst (λ (n : ℕ). is_present (tag_behind n tag one.past).state ≡ true) place (kept.present there));
            flags =
                complete.flags number tag at
                ∙ ap (λ (named : Bool). flags_in_round spec.session named (flags_after_query 1 history number tag)) (matched number tag at)
                ∙ ap (flags_in_round spec.session (is_named spec tag))
                (ready-flags spec start.link number tag (tag_after_query 1 history number tag) (after-query start spec no_operations plain told number tag) is_ready);
            memory = subst (λ (n : ℕ). (tag_behind n tag one.past).body.memory ≡ tag.body.memory) place kept.memory;
            locks = subst (λ (n : ℕ). (tag_behind n tag one.past).body.locks ≡ tag.body.locks) place kept.locks;
          }));
    })

-- what two_portals wants of rounds
pub played-laws : Laws played_of
played-laws = record {
  senders = λ tags spec legal. lists-its-tags tags spec legal;
  quiet = λ tags spec legal ready quiet. is-quiet-round tags spec legal ready quiet;
}
