-- What an honest round says of the tags that it lists, in the history of a run.
use Rattle.runs.proofs.Names.{◌≡◌, ℕ, ◌+◌, ◌≤◌, ◌==◌, ◌&&◌, not, Bool, true, false, ◌⊎◌, inl, inr, List, ◌∷◌, ◌++◌, length, Option, Some, None, slice_get, if◌then◌else◌, refl, ap, sym, ◌∙◌, subst}
use Rattle.runs.proofs.Names.{arith, add-one, eq-eqb, slice_get_past, OpList, Start, Item, ended, tag_behind, AreLegalSteps, rounds_of, history_of, HasNumber, IsMatchedTag, ListsNoTagTwice}
use Rattle.runs.proofs.Names.{StepsFlags, IsQuietComplete, EndsByLimit, CompleteInventory, is_spoken_to, CountedRound, IsHonest, IsApart, is_of_round, is_of_slot, tags_listed_in, tags_listed_in_slot}
use Rattle.runs.proofs.Names.{times, Ending, ending_of, past_after_query, tag_after_query, is_matched_in, flags_after_query, StandsAtQuiet, StandsAtEnd, IsListedOnce, is_matched, flags_in_round}
use Rattle.runs.proofs.Names.{LinkValue, RoundFacts, SpecValue, IsLegalSpec, RoundEnd, Step, TagValue}
use Rattle.air_events.specs.declared.Several.TheVariants as severals
use Rattle.q_round.specs.declared.round.RoundEnd.TheVariants as round_ends
use Rattle.runs.proofs.Records.{AllRecords, records-at, records-behind, records-all}
use Rattle.runs.proofs.RoundsAmong.{RoundAmong, steps_around, played, stands-among}
use Rattle.runs.proofs.OtherRounds.{AreOfOthers, listed-others, query-others, ending-others, records-others}
use Rattle.runs.proofs.Growth.{RoundsKeepLimit}
use Rattle.runs.proofs.PlayedRounds.{PlayedRound, number_of, past_behind_played}
use Rattle.runs.proofs.Members.{Member, StandsBefore}
use Rattle.runs.proofs.TagsInRound.{past_at_query, frame_behind, StepsFlagsOf, ListsOwnEpc, StandsNext, known-once}
use Rattle.runs.proofs.TagEnds.{listed-once, quiet-stands, end-stands}
use Rattle.runs.proofs.Times.{bit, bit-some}
use Rattle.runs.proofs.Totals.{as-many-listed}
use Rattle.runs.proofs.WholeRound.{IsFairIn, round-test, slot-test, LastSlot, slots_to, IsSilentWhereQuiet, IsOver, round-stands}

-- The round as the whole history tells it: in slots before the last one and in the last one a number was listed or not, and each tag
-- stands where it stands at the end of the round, seen from where it stood just after the Query.
pub record IsToldBy (round : PlayedRound) (last : LastSlot) (history : List Item) : Type 0 where
  pub listed : ℕ → Bool
  pub listed_now : ℕ → Bool
  pub ending : ending_of (number_of round) history ≡ Some (record { end = last.end; slots = slots_to last; past = last.now })
  pub query_is : past_after_query (number_of round) history ≡ past_at_query round
  pub count : (number : ℕ) → times number (tags_listed_in (number_of round) history) ≡ bit (listed number) + bit (listed_now number)
  pub count_now : (number : ℕ) → times number (tags_listed_in_slot (number_of round) (slots_to last) history) ≡ bit (listed_now number)
  pub once : (number : ℕ) → listed number ≡ true → listed_now number ≡ false
  pub strangers : (number : ℕ) → slice_get round.start.tags number ≡ None → (listed number ≡ false) × (listed_now number ≡ false)
  pub spoken : (number : ℕ) (tag : TagValue) → HasNumber round.start number tag
      → is_matched_in (number_of round) history number tag ≡ is_spoken_to round.spec (tag_after_query (number_of round) history number tag)
  pub flags : AllRecords (StepsFlagsOf round.start (number_of round) round.spec.session) history
  pub epcs : AllRecords (ListsOwnEpc round.start (number_of round) (past_after_query (number_of round) history)) history
  pub tags : (number : ℕ) (tag : TagValue) → HasNumber round.start number tag
      → StandsBefore (frame_behind round last.earlier) last.outcome
      (record { first = tag_after_query (number_of round) history number tag; listed = listed number; listed_now = listed_now number }) (tag_behind number tag last.now)
  pub quiet : IsSilentWhereQuiet round.spec last

told : (round : PlayedRound) (last : LastSlot) (later : List Item) → AreOfOthers (number_of round) later
    → StandsNext round last.outcome last.earlier last.now → IsSilentWhereQuiet round.spec last
    → IsToldBy round last (later ++ ended (number_of round) last.end (slots_to last) ∷ last.now)
told round last later others stands quiet =
    let start = round.start in
    let of : ℕ = number_of round in
    let slots : ℕ = slots_to last in
    let now = last.now in
    let behind = ended of last.end slots ∷ now in
    let history = later ++ behind in
    let query_is : past_after_query of history ≡ past_at_query round = query-others of later behind others ∙ stands.tells.query_is in
    record {
      listed = stands.listed;
      listed_now = stands.listed_now;
      ending = ending-others of later behind others
          ∙ ap (λ (is : Bool). if is then Some (record { end = last.end; slots = slots; past = now }) else ending_of of now) (eq-eqb of of refl);
      query_is = query_is;
      count = λ number. ap (λ (tags : List ℕ). times number tags) (listed-others of (is_of_round of) later behind (round-test of) others) ∙ stands.counts.count number;
      count_now = λ number.
          ap (λ (tags : List ℕ). times number tags) (listed-others of (is_of_slot of slots) later behind (slot-test of slots) others)
          ∙ ap (λ n. times number (tags_listed_in_slot of n now)) (sym (add-one (length last.earlier)))
          ∙ stands.counts.count_now number;
      once = λ number. known-once round last.outcome last.earlier now stands number (slice_get start.tags number) refl;
      strangers = stands.counts.strangers;
      spoken = λ number tag numbered.
          subst (λ (query : List Item). is_matched (tag_behind number tag query).state ≡ is_spoken_to round.spec (tag_behind number tag query)) (sym query_is)
          (stands.tells.spoken number tag numbered);
      epcs = subst (λ (query : List Item). AllRecords (ListsOwnEpc start of query) history) (sym query_is)
          (records-others (ListsOwnEpc start of (past_at_query round)) of later behind (λ sent past differs same. absurd (differs same)) others stands.tells.epcs);
      flags = records-others (StepsFlagsOf start of round.spec.session) of later behind (λ sent past differs same. absurd (differs same)) others stands.tells.flags;
      tags = λ number tag numbered.
          subst (λ (query : List Item). StandsBefore (frame_behind round last.earlier) last.outcome
          (record { first = tag_behind number tag query; listed = stands.listed number; listed_now = stands.listed_now number }) (tag_behind number tag now)) (sym query_is)
          (stands.tags number tag numbered);
      quiet = quiet;
    }

few-bits : (first second : Bool) → (first ≡ true → second ≡ false) → bit first + bit second ≤ 1
few-bits true second once = let none : bit second ≡ 0 = ap bit (once refl) in omega arith
few-bits false true once = omega arith
few-bits false false once = omega arith

some-bit : (first second : Bool) → 1 ≤ bit first + bit second → (first ≡ true) ⊎ (second ≡ true)
some-bit true second some = inl refl
some-bit false true some = inr refl
some-bit false false some = absurd (omega arith)

no-bits : (first second : Bool) → bit first + bit second ≡ 0 → (first ≡ false) × (second ≡ false)
no-bits false false none = (refl, refl)
no-bits true second none = absurd (omega arith)
no-bits false true none = absurd (omega arith)

first-bit : (first second : Bool) → bit first + bit second ≡ 1 → bit second ≡ 0 → (first ≡ true) × (second ≡ false)
first-bit true false one none = (refl, refl)
first-bit first true one none = absurd (omega arith)
first-bit false false one none = absurd (omega arith)

bit-alone : (b : Bool) → bit b + bit false ≡ (if b then 1 else 0)
bit-alone true = refl
bit-alone false = refl

inverted-is : (first second : Bool) → (first ≡ true → second ≡ false) → (bit first + bit second == 1 && not (bit second == 1)) ≡ first
inverted-is true true once = let none = once refl in absurd (cc)
inverted-is true false once = refl
inverted-is false true once = refl
inverted-is false false once = refl

matched-either : (first : TagValue) (listed listed_now : Bool) → IsListedOnce first listed listed_now → (listed ≡ true) ⊎ (listed_now ≡ true) → is_matched first.state ≡ true
matched-either first listed listed_now once (inl is) = once.matched is
matched-either first listed listed_now once (inr is) = once.matched_now is

abbrev ending_with : RoundEnd → ℕ → List Item → Ending
ending_with end slots past = record { end = end; slots = slots; past = past }

-- what a tag was just after the Query, and whether it was listed
abbrev member_told : (round : PlayedRound) (last : LastSlot) (history : List Item) → IsToldBy round last history → ℕ → TagValue → Member
member_told round last history by number tag =
    record { first = tag_after_query (number_of round) history number tag; listed = by.listed number; listed_now = by.listed_now number }

module _ (round : PlayedRound) (last : LastSlot) (history : List Item) (by : IsToldBy round last history) where
  single : (number : ℕ) (tag : TagValue) → HasNumber round.start number tag → IsListedOnce (tag_after_query (number_of round) history number tag) (by.listed number) (by.listed_now number)
  single number tag numbered = listed-once (frame_behind round last.earlier) last.outcome (member_told round last history by number tag) (tag_behind number tag last.now) (by.tags number tag numbered)

  at-end : (number : ℕ) (tag : TagValue) → HasNumber round.start number tag
      → StandsAtEnd round.spec.session (tag_after_query (number_of round) history number tag) (by.listed number) (by.listed_now number) (tag_behind number tag last.now)
  at-end number tag numbered = end-stands (frame_behind round last.earlier) last.outcome (member_told round last history by number tag) (tag_behind number tag last.now) (by.tags number tag numbered)

  pub at-quiet : last.end ≡ round_ends.Quiet → (number : ℕ) (tag : TagValue) → HasNumber round.start number tag
      → StandsAtQuiet round.spec.session (tag_after_query (number_of round) history number tag) (by.listed number) (by.listed_now number) (tag_behind number tag last.now)
  at-quiet is number tag numbered =
      quiet-stands (frame_behind round last.earlier) last.outcome (member_told round last history by number tag) (tag_behind number tag last.now) (by.quiet is) (by.tags number tag numbered)

  matched-number : (number : ℕ) (found : Option TagValue) → slice_get round.start.tags number ≡ found → 1 ≤ times number (tags_listed_in (number_of round) history)
      → IsMatchedTag round.start history (number_of round) number
  matched-number number None none some =
      let (first, second) = by.strangers number none in
      let count : times number (tags_listed_in (number_of round) history) ≡ bit false + bit false =
      by.count number ∙ ap (λ (b : Bool). bit b + bit (by.listed_now number)) first ∙ ap (λ (b : Bool). bit false + bit b) second in
      absurd (omega (arith, some, count))
  matched-number number (Some tag) numbered some = record {
    tag = tag;
    numbered = numbered;
    matched = matched-either (tag_after_query (number_of round) history number tag) (by.listed number) (by.listed_now number) (single number tag numbered)
        (some-bit (by.listed number) (by.listed_now number) (subst (λ n. 1 ≤ n) (by.count number) some));
  }

  strangers-unlisted : (number : ℕ) → slice_get round.start.tags number ≡ None → times number (tags_listed_in (number_of round) history) ≡ 0
  strangers-unlisted number none =
      let (first, second) = by.strangers number none in
      by.count number ∙ ap (λ (b : Bool). bit b + bit (by.listed_now number)) first ∙ ap (λ (b : Bool). bit false + bit b) second ∙ omega arith

  few-times : (number : ℕ) → times number (tags_listed_in (number_of round) history) ≤ 1
  few-times number = subst (λ n. n ≤ 1) (sym (by.count number)) (few-bits (by.listed number) (by.listed_now number) (by.once number))

  no-tag-twice : ListsNoTagTwice round.start history (number_of round)
  no-tag-twice = record {
    once = few-times;
    matched = λ number some. matched-number number (slice_get round.start.tags number) refl some;
  }

  flag-steps : StepsFlags round.start history (number_of round) round.spec.session
  flag-steps = record {
    slot = λ sent past number tag recorded same begins numbered.
        (records-at (StepsFlagsOf round.start (number_of round) round.spec.session) recorded.later sent past (subst (AllRecords (StepsFlagsOf round.start (number_of round) round.spec.session)) recorded.is by.flags)
        same number tag numbered).slot begins;
    other = λ sent past number tag recorded same no_slot no_query numbered.
        (records-at (StepsFlagsOf round.start (number_of round) round.spec.session) recorded.later sent past (subst (AllRecords (StepsFlagsOf round.start (number_of round) round.spec.session)) recorded.is by.flags)
        same number tag numbered).other no_slot no_query;
  }

  quiet-complete : last.end ≡ round_ends.Quiet → IsQuietComplete round.start history (number_of round) round.spec.session last.now
  quiet-complete is = record {
    listed = λ number tag numbered.
        let stands = at-quiet is number tag numbered in
        by.count number
        ∙ ap (λ (b : Bool). bit (by.listed number) + bit b) stands.not_now
        ∙ ap (λ (b : Bool). bit b + bit false) stands.listed_is
        ∙ bit-alone (is_matched_in (number_of round) history number tag);
    flags = λ number tag numbered. (at-quiet is number tag numbered).flags;
    ready = λ number tag numbered present. (at-quiet is number tag numbered).ready present;
  }

  limit-end : EndsByLimit round.start history (number_of round) round.spec.session (slots_to last) last.now
  limit-end = record {
    not_listed = λ number tag numbered matched none.
        let bits = no-bits (by.listed number) (by.listed_now number) (sym (by.count number) ∙ none) in
        let stands = (at-end number tag numbered).unlisted matched bits.0 bits.1 in
        record { state = stands.0; flags = stands.1 };
    listed_last = λ number tag numbered one.
        let stands = (at-end number tag numbered).last (bit-some (by.listed_now number) (omega (arith, by.count_now number, one))) in
        record { state = stands.0; flags = stands.1 };
    listed_before = λ number tag numbered one none.
        let bits = first-bit (by.listed number) (by.listed_now number) (sym (by.count number) ∙ one) (sym (by.count_now number) ∙ none) in
        let stands = (at-end number tag numbered).earlier bits.0 in
        record { state = stands.0; flags = stands.1 };
    not_matched = λ number tag numbered outside.
        let stands = (at-end number tag numbered).outside outside in
        record { state = stands.0; flags = stands.1 };
  }

  told-complete : CompleteInventory round.start history (number_of round) round.spec.session
  told-complete = record {
    no_tag_twice = no-tag-twice;
    flag_steps = flag-steps;
    quiet_is_complete = λ slots past is.
        let same : ending_with last.end (slots_to last) last.now ≡ ending_with round_ends.Quiet slots past = let both = sym by.ending ∙ is in cc in
        subst (λ (ending : Ending). IsQuietComplete round.start history (number_of round) round.spec.session ending.past) same
        (quiet-complete (ap (λ (ending : Ending). ending.end) same));
    limit_end = λ slots past is.
        let same : ending_with last.end (slots_to last) last.now ≡ ending_with round_ends.Limit slots past = let both = sym by.ending ∙ is in cc in
        subst (λ (ending : Ending). EndsByLimit round.start history (number_of round) round.spec.session ending.slots ending.past) same limit-end;
  }

  pub told-counted : CountedRound round.start history (number_of round) round.spec
  told-counted = (
    record { end = last.end; slots = slots_to last; past = last.now },
    by.ending,
    record {
      matched = by.spoken;
      each_once = few-times;
      spoken_to = λ number tag numbered some.
          sym (by.spoken number tag numbered)
          ∙ matched-either (tag_after_query (number_of round) history number tag) (by.listed number) (by.listed_now number) (single number tag numbered)
          (some-bit (by.listed number) (by.listed_now number) (subst (λ n. 1 ≤ n) (by.count number) some));
      numbered = λ number some. matched-number number (slice_get round.start.tags number) refl some;
      own_epc = λ sent past number tag recorded same numbered senders.
          records-at (ListsOwnEpc round.start (number_of round) (past_after_query (number_of round) history)) recorded.later sent past
          (subst (AllRecords (ListsOwnEpc round.start (number_of round) (past_after_query (number_of round) history))) recorded.is by.epcs) same number tag numbered senders;
      complete = λ number tag numbered quiet spoken.
          (quiet-complete quiet).listed number tag numbered
          ∙ ap (λ (b : Bool). if b then 1 else 0) (by.spoken number tag numbered ∙ spoken);
      as_many = λ quiet.
          as-many-listed round.start round.spec (number_of round) history (tags_listed_in (number_of round) history)
          (λ number tag numbered. (quiet-complete quiet).listed number tag numbered ∙ ap (λ (b : Bool). if b then 1 else 0) (by.spoken number tag numbered))
          (λ number above. strangers-unlisted number (slice_get_past round.start.tags number above));
      flags = λ number tag numbered.
          (by.tags number tag numbered).body.flags
          ∙ ap (λ (b : Bool). flags_in_round round.spec.session b (flags_after_query (number_of round) history number tag))
          (sym (ap (λ n. n == 1 && not (times number (tags_listed_in_slot (number_of round) (slots_to last) history) == 1)) (by.count number)
          ∙ ap (λ n. bit (by.listed number) + bit (by.listed_now number) == 1 && not (n == 1)) (by.count_now number)
          ∙ inverted-is (by.listed number) (by.listed_now number) (by.once number)));
      memory = λ number tag numbered. (by.tags number tag numbered).body.memory;
      locks = λ number tag numbered. (by.tags number tag numbered).body.locks;
    },
  )

-- a law of rounds: what an inventory goes by of the rule for Q
abbrev pub RoundsHaveFacts : Type 0
RoundsHaveFacts = (spec : SpecValue) (link : LinkValue) → IsLegalSpec spec → RoundFacts spec link

-- what the history of a run tells of a round that is honest
pub record IsTold (round : PlayedRound) (history : List Item) : Type 0 where
  pub last : LastSlot
  pub by : IsToldBy round last history
  pub behind_is : past_behind_played round ≡ ended (number_of round) last.end (slots_to last) ∷ last.now

told-behind : (round : PlayedRound) (later : List Item) → AreOfOthers (number_of round) later
    → AllRecords (IsFairIn round.start (number_of round)) (later ++ past_behind_played round)
    → IsOver round (past_behind_played round) → IsTold round (later ++ past_behind_played round)
told-behind round later others unsaid over =
    let last = over.last in
    let whole = ended (number_of round) last.end (slots_to last) ∷ last.now in
    let unsaid_now : AllRecords (IsFairIn round.start (number_of round)) last.now =
    records-behind (IsFairIn round.start (number_of round)) later whole
    (subst (λ (items : List Item). AllRecords (IsFairIn round.start (number_of round)) (later ++ items)) over.is unsaid) in
    record {
      last = last;
      by = subst (λ (items : List Item). IsToldBy round last (later ++ items)) (sym over.is) (told round last later others (over.stands unsaid_now) over.quiet);
      behind_is = over.is;
    }

-- a round of a history is honest, and where the channel captures one of several replies no two tags answer alike in it
pub record IsFairRound (start : Start) (history : List Item) (round : ℕ) (operations : OpList) : Type 0 where
  pub honest : IsHonest history round operations
  pub apart : start.several ≡ severals.Capture → IsApart history round

pub history-told : RoundsKeepLimit → RoundsHaveFacts → (among : RoundAmong) → AreLegalSteps (steps_around among)
    → IsFairRound among.start (history_of among.start (steps_around among)) (rounds_of among.before + 1) among.operations
    → IsTold (played among) (history_of among.start (steps_around among))
history-told keeps facts among legal fair =
    let start = among.start in
    let round = played among in
    let number : ℕ = number_of round in
    let stands = stands-among keeps among legal in
    let each_fair : AllRecords (IsFairIn start number) (history_of start (steps_around among)) =
    subst (λ n. AllRecords (IsFairIn start n) (history_of start (steps_around among))) (sym stands.number_is)
    (records-all (IsFairIn start (rounds_of among.before + 1)) (history_of start (steps_around among))
    (λ sent earlier recorded same. record {
      unsaid = fair.honest.unsaid sent earlier recorded same;
      apart = λ captures begins. (fair.apart captures).apart sent earlier recorded same begins;
    })) in
    subst (λ (items : List Item). IsTold round items) (sym stands.is)
    (told-behind round stands.later stands.later_others (subst (AllRecords (IsFairIn start number)) stands.is each_fair)
    (round-stands round keeps stands.legal.legal (facts among.spec start.link stands.legal.legal) fair.honest.no_operations stands.before_others))

-- ... also where the steps of the run are called by a name
pub taken-told : RoundsKeepLimit → RoundsHaveFacts → (among : RoundAmong) (taken : List Step) → AreLegalSteps taken → taken ≡ steps_around among
    → IsFairRound among.start (history_of among.start taken) (rounds_of among.before + 1) among.operations → IsTold (played among) (history_of among.start taken)
taken-told keeps facts among taken legal is fair =
    subst (λ (s : List Step). IsTold (played among) (history_of among.start s)) (sym is)
    (history-told keeps facts among (subst AreLegalSteps is legal)
    (subst (λ (s : List Step). IsFairRound among.start (history_of among.start s) (rounds_of among.before + 1) among.operations) is fair))

pub complete-inventory : RoundsKeepLimit → RoundsHaveFacts → (among : RoundAmong) (taken : List Step) → AreLegalSteps taken → taken ≡ steps_around among
    → IsFairRound among.start (history_of among.start taken) (rounds_of among.before + 1) among.operations
    → CompleteInventory among.start (history_of among.start taken) (rounds_of among.before + 1) among.spec.session
complete-inventory keeps facts among taken legal is fair =
    let history = history_of among.start taken in
    let told = taken-told keeps facts among taken legal is fair in
    subst (λ n. CompleteInventory among.start history n among.spec.session) (stands-among keeps among (subst AreLegalSteps is legal)).number_is
    (told-complete (played among) told.last history told.by)

pub counted-round : RoundsKeepLimit → RoundsHaveFacts → (among : RoundAmong) (taken : List Step) → AreLegalSteps taken → taken ≡ steps_around among
    → IsFairRound among.start (history_of among.start taken) (rounds_of among.before + 1) among.operations
    → CountedRound among.start (history_of among.start taken) (rounds_of among.before + 1) among.spec
counted-round keeps facts among taken legal is fair =
    let history = history_of among.start taken in
    let told = taken-told keeps facts among taken legal is fair in
    subst (λ n. CountedRound among.start history n among.spec) (stands-among keeps among (subst AreLegalSteps is legal)).number_is
    (told-counted (played among) told.last history told.by)
