-- The one round of a run in which nothing is said of any exchange.
use Rattle.air_world.proofs.Names.{◌≡◌, get_or, ℕ, suc, ◌+◌, ◌≤◌, ◌<◌, List, ◌∷◌, ◌++◌, length, map, refl, sym, ◌∙◌, ap, subst, arith, [], AirValue, last_exchange, AreEntriesLeft, Entry, Start, Item}
use Rattle.air_world.proofs.Names.{exchanged, ended, rounds_in, tags_behind, RunValue, RunIsAt, IsEndedBy, SpecValue, IsLegalSpec, RoundEnd, RoundsKeepLimit, round-holds, PlayedRound, number_of}
use Rattle.air_world.proofs.Names.{past_behind_played, past_behind_round, listed_by, listing_of, GoesByTags, pair_listed, pairs_listed_by, pairs_since, played_of, round_ended, rounds_told, pairs_in}
use Rattle.air_world.proofs.Names.{no_operations, length-map, map-append, All-nil, slice_get_within, AllByRecursion, AllZip, TagValue, AreLegalTags}
use Rattle.air_events.specs.declared.Several.TheVariants as severals
use Rattle.air_world.proofs.Beginning.{tags-before}
use Rattle.air_world.proofs.Rounds.{rounds-slot}
use Rattle.runs.proofs.Totals.{few-once}
use Rattle.two_portals.specs.Played.{IsPairOf, ListsItsTags, Played, pc_and_epc_of}

-- the run of a round that is played over this air
abbrev pub start_on : AirValue → Start
start_on air = record { link = air.link; tags = air.tags; entries = []; several = severals.Break }

-- what the air and the run are then: the run made no exchange
pub record IsNewHall (air : AirValue) (run : RunValue) : Type 0 where
  pub run_is : run ≡ record { entries = []; exchanges = 0; rounds = 0 }
  pub several : air.several ≡ severals.Break
  pub legal : AreLegalTags air.tags
  pub few : air.exchanges ≤ last_exchange

none-left : (entries : List (ℕ × Entry)) → entries ≡ [] → AreEntriesLeft entries [] 0
none-left entries none = subst (λ left. AreEntriesLeft left [] 0) (sym none) (record { rises = tt; same = λ exchange later. refl })

-- the run begins
pub hall-begins : (air : AirValue) (run : RunValue) → IsNewHall air run → RunIsAt (start_on air) air.exchanges [] air run
hall-begins air run new = record {
  names = λ exchange. record { events = All-nil _; missed = All-nil _ };
  few = λ exchange. tt;
  link = refl;
  several = new.several;
  tags = sym (tags-before 0 air.tags);
  legal = new.legal;
  exchanges = omega (arith, new.few);
  made = ap (λ (r : RunValue). r.exchanges) new.run_is;
  entries = none-left run.entries (ap (λ (r : RunValue). r.entries) new.run_is);
  rounds = ap (λ (r : RunValue). r.rounds) new.run_is;
}

-- where no round ended none is told
none-told : (start : Start) (past : List Item) → rounds_in past ≡ 0 → rounds_told start past ≡ []
none-told start [] none = refl
none-told start (ended round end slots ∷ past) none = absurd (omega (arith, none))
none-told start (item ∷ past) none = none-told start past none

-- ... and all pairs of the past were listed since
all-since : (past : List Item) → rounds_in past ≡ 0 → pairs_in past ≡ pairs_since past
all-since [] none = refl
all-since (exchanged sent ∷ past) none =
    map-append pair_listed (listing_of past) (listed_by sent) ∙ ap (λ (pairs : List (ℕ × List ℕ)). pairs ++ pairs_listed_by sent) (all-since past none)
all-since (ended round end slots ∷ past) none = absurd (omega (arith, none))
all-since (item ∷ past) none = all-since past none

-- the end of the first round of a run tells what it was
hall-ended : (start : Start) (spec : SpecValue) (end : RoundEnd) (slots : ℕ) (past : List Item) → GoesByTags start no_operations spec [] → rounds_in past ≡ 0
    → ended 1 end slots ∷ past ≡ past_behind_round start no_operations spec []
    → round_ended start end past ≡ played_of (tags_behind start []) spec
hall-ended start spec end slots past goes none is =
    let same : round_ended start end past ∷ [] ≡ played_of (tags_behind start []) spec ∷ [] =
    ap (λ (told : List Played). told ++ round_ended start end past ∷ []) (sym (none-told start past none)) ∙ ap (rounds_told start) is ∙ goes.told in
    ap (λ (told : List Played). get_or told 0 (round_ended start end past)) same

-- a past that is the end of a round
record IsEnd (number before : ℕ) (behind : List Item) : Type 0 where
  pub end : RoundEnd
  pub slots : ℕ
  pub past : List Item
  pub is : behind ≡ ended number end slots ∷ past
  pub none : rounds_in past ≡ before

round-ends : RoundsKeepLimit → (played : PlayedRound) → IsLegalSpec played.spec → IsEnd (number_of played) (rounds_in played.before) (past_behind_played played)
round-ends keeps played legal =
    round-holds (λ outcomes now. rounds_in now ≡ rounds_in played.before) (IsEnd (number_of played) (rounds_in played.before)) played keeps legal
    (record {
      slot = λ outcomes now command next same. rounds-slot played.start played.operations (number_of played) (length outcomes + 1) command now ∙ same;
      end = λ outcomes now end next same. record { end = end; slots = length outcomes; past = now; is = refl; none = same };
    })
    refl

same-end : (number other : ℕ) (end own : RoundEnd) (slots few : ℕ) (past before : List Item) → ended number end slots ∷ past ≡ ended other own few ∷ before → end ≡ own
same-end number other end own slots few past before same = cc

zip-length : (tags : List TagValue) (pairs : List (ℕ × List ℕ)) (senders : List ℕ) → AllZip (IsPairOf tags) pairs senders → length pairs ≡ length senders
zip-length tags [] [] each = refl
zip-length tags (pair ∷ pairs) (sender ∷ senders) each = ap suc (zip-length tags pairs senders each.1)
zip-length tags pairs senders each = absurd each

senders-below : (tags : List TagValue) (pairs : List (ℕ × List ℕ)) (senders : List ℕ) → AllZip (IsPairOf tags) pairs senders
    → AllByRecursion (λ number. number < length tags) senders
senders-below tags [] [] each = tt
senders-below tags (pair ∷ pairs) (sender ∷ senders) each = (
  subst (λ n. sender < n) (length-map tags pc_and_epc_of) (slice_get_within (map pc_and_epc_of tags) sender pair each.0),
  senders-below tags pairs senders each.1,
)
senders-below tags pairs senders each = absurd each

-- a round lists no more tags than there are
few-pairs : (tags : List TagValue) (round : Played) → ListsItsTags tags round → length round.pairs ≤ length tags
few-pairs tags round lists =
    subst (λ n. n ≤ length tags) (sym (zip-length tags round.pairs round.senders lists.each))
    (few-once (length tags) round.senders (senders-below tags round.pairs round.senders lists.each) lists.once)

-- what the laws of rounds say of this round
pub record HallRound (start : Start) (spec : SpecValue) : Type 0 where
  pub keeps : RoundsKeepLimit
  pub legal : IsLegalSpec spec
  pub goes : GoesByTags start no_operations spec []
  pub lists : ListsItsTags start.tags (played_of start.tags spec)

-- behind the end of the round
pub record IsHallOver (start : Start) (spec : SpecValue) (end : RoundEnd) : Type 0 where
  pub pairs : pairs_in (past_behind_round start no_operations spec []) ≡ (played_of start.tags spec).pairs
  pub few : length (played_of start.tags spec).pairs ≤ length start.tags
  pub end_is : end ≡ (played_of start.tags spec).end
  pub tags : tags_behind start (past_behind_round start no_operations spec []) ≡ (played_of start.tags spec).tags

pub hall-over : (start : Start) (spec : SpecValue) (end : RoundEnd) → HallRound start spec → IsEndedBy end (past_behind_round start no_operations spec []) → IsHallOver start spec end
hall-over start spec end laws over =
    let last = round-ends laws.keeps (record { start = start; operations = no_operations; spec = spec; before = [] }) laws.legal in
    let first : tags_behind start [] ≡ start.tags = tags-before 0 start.tags in
    let told : round_ended start last.end last.past ≡ played_of start.tags spec =
    hall-ended start spec last.end last.slots last.past laws.goes last.none (sym last.is) ∙ ap (λ (tags : List TagValue). played_of tags spec) first in
    record {
      pairs = ap (λ (past : List Item). pairs_in past) last.is ∙ all-since last.past last.none ∙ ap (λ (round : Played). round.pairs) told;
      few = few-pairs start.tags (played_of start.tags spec) laws.lists;
      end_is = same-end over.number 1 end last.end over.slots last.slots over.before last.past (sym over.is ∙ last.is) ∙ ap (λ (round : Played). round.end) told;
      tags = laws.goes.tags ∙ ap (λ (tags : List TagValue). (played_of tags spec).tags) first;
    }
