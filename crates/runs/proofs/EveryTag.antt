-- A run of one honest round that ends quiet lists every tag once, where each takes part; where no two tags have one EPC, it lists as many
-- EPCs.
use Rattle.runs.proofs.Names.{◌≡◌, ◌≢◌, ℕ, suc, ◌+◌, ◌≤◌, ◌==◌, ◌&&◌, not, Bool, true, false, List, [], ◌∷◌, ◌++◌, length, map, filter, Option, Some, None, slice_get, if◌then◌else◌, refl, ap, sym}
use Rattle.runs.proofs.Names.{◌∙◌, subst, arith, eq-eqb, and_parts, length-append, map-append, length-map, pointwise, same_text, AllByRecursion, nat_eq, OpList, Given, whole, raw, IsOfReplies}
use Rattle.runs.proofs.Names.{Replied, Start, Record, Item, exchanged, tag_behind, next_entry, is_expected, reception_of, no_entry, entry_at, Entry, IsLegalRound, Acknowledges, HasNoRawStream}
use Rattle.runs.proofs.Names.{past_behind_round, history_of, Listed, reception_of_ack, listed_from, listed_by, listing_of, Command, HasNumber, is_spoken_to, tags_spoken_to, AllTakePart, HaveOwnEpcs}
use Rattle.runs.proofs.Names.{pairs_listed, ListsEveryTag, listed_as, sender_where, sender_listed_by, is_of_round, tags_listed_where, tags_listed_in, times, Ending, ending_of, tag_after_query}
use Rattle.runs.proofs.Names.{is_matched, flags_behind_query, LinkValue, SpecValue, IsLegalSpec, RoundEnd, whole_reply, no_such_reply, Reply, same_pair, distinct, matches, TagValue, StateValue}
use Rattle.runs.proofs.Names.{ReadyState, is_present, Banks, pc_of, epc_of}
use Rattle.command_grammar.specs.declared.commands.Command.TheVariants as commands
use Rattle.q_round.specs.declared.round.RoundEnd.TheVariants as round_ends
use Rattle.reply_grammar.specs.declared.expected.Expect.TheVariants as expects
use Rattle.reply_grammar.specs.declared.expected.Reply.TheVariants as replies
use Rattle.scenario.specs.declared.values.Step.TheVariants as steps
use Rattle.runs.proofs.CompleteRound.{IsTold, IsToldBy, RoundsHaveFacts, IsFairRound, history-told, told-counted}
use Rattle.runs.proofs.RoundsAmong.{RoundAmong, played}
use Rattle.runs.proofs.MadeRecords.{made-record, none-given}
use Rattle.runs.proofs.Records.{AllRecords, records-at, records-all}
use Rattle.runs.proofs.Growth.{RoundsKeepLimit}
use Rattle.runs.proofs.Population.{tag_stepped, tag-steps}
use Rattle.runs.proofs.TagQuery.{query-matched, query-memory}
use Rattle.runs.proofs.Times.{times-append, times-one, times-first, bit, lists-one}
use Rattle.runs.proofs.Turns.{round-holds}
use Rattle.runs.proofs.TagsInRound.{query_command}

-- each record of a past is one of the round
abbrev AreOfRound : ℕ → List Item → Type 0
AreOfRound round past = AllRecords (λ sent earlier. sent.round ≡ round) past

-- in a run of one round they are
one-round : RoundsKeepLimit → (start : Start) (operations : OpList) (spec : SpecValue) → IsLegalSpec spec → AreOfRound 1 (past_behind_round start operations spec [])
one-round keeps start operations spec legal =
    round-holds (λ outcomes now. AreOfRound 1 now) (λ outcomes sent now. AreOfRound 1 (exchanged sent ∷ now)) (AreOfRound 1)
    (record { start = start; operations = operations; spec = spec; before = [] }) keeps legal
    (record {
      slot = λ outcomes now command next holds. (refl, holds);
      no_answer = λ outcomes now command reception heard none holds. holds;
      ack = λ outcomes now command rn heard holds. (refl, holds);
      operation = λ some outcomes now command expect extended suits holds. (refl, holds);
      result = λ some outcomes now index result holds. holds;
      end = λ outcomes now end next holds. holds;
    })
    tt

-- so that all tags that are listed are listed in it
all-in-round : (round : ℕ) (past : List Item) → AreOfRound round past → tags_listed_where (λ sent. true) past ≡ tags_listed_in round past
all-in-round round [] all = refl
all-in-round round (exchanged sent ∷ past) all =
    ap (λ (tags : List ℕ). tags ++ sender_listed_by sent) (all-in-round round past all.1)
    ∙ ap (λ (passes : Bool). tags_listed_in round past ++ (if passes then sender_listed_by sent else [])) (sym (eq-eqb sent.round round all.0))
all-in-round round (item ∷ past) all = all-in-round round past all

abbrev if_listed : List Listed → ℕ → List ℕ
if_listed [] number = []
if_listed (listed ∷ more) number = number ∷ []

if_listed-is : (listed : List Listed) (replied : Replied) → if_listed listed replied.number ≡ sender_where listed (whole replied)
if_listed-is [] replied = refl
if_listed-is (one ∷ more) replied = refl

-- a record lists nobody, or one tag, where no raw stream answers its ACK
pub data Lists (listed : List Listed) (senders : List ℕ) : Type 0 where
  nobody : listed ≡ [] → senders ≡ [] → Lists listed senders
  somebody : (one : Listed) (number : ℕ) → listed ≡ one ∷ [] → senders ≡ number ∷ [] → Lists listed senders

lists-reply : (sent : Record) (reply : Reply) (number : ℕ) → Lists (listed_from sent (whole_reply reply)) (if_listed (listed_from sent (whole_reply reply)) number)
lists-reply sent (replies.Epc pc epc) number = somebody (record { round = sent.round; slot = sent.slot; pc = pc; epc = epc }) number refl refl
lists-reply sent reply number = nobody refl refl

lists-expected : (sent : Record) (expected : Bool) (reply : Reply) (number : ℕ)
    → let listed = listed_from sent (if expected then whole_reply reply else no_such_reply) in Lists listed (if_listed listed number)
lists-expected sent true reply number = lists-reply sent reply number
lists-expected sent false reply number = nobody refl refl

lists-given : (sent : Record) (given : Given) → IsOfReplies given → let listed = listed_from sent (reception_of expects.Epc given) in Lists listed (sender_where listed given)
lists-given sent (whole replied) of =
    let listed = listed_from sent (reception_of expects.Epc (whole replied)) in
    subst (λ (senders : List ℕ). Lists listed senders) (if_listed-is listed replied) (lists-expected sent (is_expected expects.Epc replied.sent) replied.sent.reply replied.number)
lists-given sent (raw code trext levels) of = absurd of
lists-given sent given of = nobody refl refl

lists-by : (sent : Record) (command : Command) → ((rn : ℕ) → command ≡ commands.Ack rn → IsOfReplies sent.given) → let listed = listed_from sent (reception_of_ack sent command) in Lists listed (sender_where listed sent.given)
lists-by sent (commands.Ack rn) of = lists-given sent sent.given (of rn refl)
lists-by sent command of = nobody refl refl

pub lists : (sent : Record) → ((rn : ℕ) → Acknowledges sent rn → IsOfReplies sent.given) → Lists (listed_by sent) (sender_listed_by sent)
lists sent of = lists-by sent sent.command of

as-many : (listed : List Listed) (senders : List ℕ) → Lists listed senders → length senders ≡ length listed
as-many listed senders (nobody none no_sender) = ap length no_sender ∙ sym (ap length none)
as-many listed senders (somebody one number listed_one sender) = ap length sender ∙ sym (ap length listed_one)

-- no record of a past was given a raw stream
abbrev pub AreOfReplies : List Item → Type 0
AreOfReplies past = AllRecords (λ sent earlier. IsOfReplies sent.given) past

-- as many tags are listed as there are list lines
listed-as-many : (past : List Item) → AreOfReplies past → length (tags_listed_where (λ sent. true) past) ≡ length (listing_of past)
listed-as-many [] of = refl
listed-as-many (exchanged sent ∷ past) of =
    let before = listed-as-many past of.1 in
    let here = as-many (listed_by sent) (sender_listed_by sent) (lists sent (λ rn ack. of.0)) in
    length-append (tags_listed_where (λ sent. true) past) (sender_listed_by sent)
    ∙ omega (arith, before, here)
    ∙ sym (length-append (listing_of past) (listed_by sent))
listed-as-many (item ∷ past) of = listed-as-many past of

-- the PC and the EPC of the tag of a number
abbrev pub key_of : Option TagValue → ℕ × List ℕ
key_of None = (0, [])
key_of (Some tag) = (pc_of tag.body.memory, epc_of tag.body.memory)

abbrev pub key : Start → ℕ → ℕ × List ℕ
key start number = key_of (slice_get start.tags number)

abbrev pair_of : Listed → ℕ × List ℕ
pair_of listed = (listed.pc, listed.epc)

-- a record lists its sender with the PC and the EPC that it has at the start
abbrev ListsKey : Start → Record → List Item → Type 0
ListsKey start sent earlier = (number : ℕ) → sender_listed_by sent ≡ number ∷ [] → map pair_of (listed_by sent) ≡ key start number ∷ []

lists-key : (start : Start) (sent : Record) (number : ℕ) (tag : TagValue) (banks : Banks) → HasNumber start number tag → listed_by sent ≡ listed_as sent banks ∷ []
    → banks ≡ tag.body.memory → map pair_of (listed_by sent) ≡ key start number ∷ []
lists-key start sent number tag banks numbered is same =
    ap (map pair_of) is
    ∙ ap (λ (b : Banks). (pc_of b, epc_of b) ∷ []) same
    ∙ ap (λ (found : Option TagValue). key_of found ∷ []) (sym numbered)

keys-of : (start : Start) (listed : List Listed) (senders : List ℕ) → Lists listed senders
    → ((number : ℕ) → senders ≡ number ∷ [] → map pair_of listed ≡ key start number ∷ []) → map pair_of listed ≡ map (key start) senders
keys-of start listed senders (nobody none no_sender) each = ap (map pair_of) none ∙ ap (map (key start)) (sym no_sender)
keys-of start listed senders (somebody one number listed_one sender) each = each number sender ∙ ap (map (key start)) (sym sender)

-- so that the pairs that are listed are those of the tags that are
pairs-are-keys : (start : Start) (past : List Item) → AreOfReplies past → AllRecords (ListsKey start) past → pairs_listed past ≡ map (key start) (tags_listed_where (λ sent. true) past)
pairs-are-keys start [] of all = refl
pairs-are-keys start (exchanged sent ∷ past) of all =
    map-append pair_of (listing_of past) (listed_by sent)
    ∙ ap (λ pairs. pairs ++ map pair_of (listed_by sent)) (pairs-are-keys start past of.1 all.1)
    ∙ ap (λ pairs. map (key start) (tags_listed_where (λ sent. true) past) ++ pairs) (keys-of start (listed_by sent) (sender_listed_by sent) (lists sent (λ rn ack. of.0)) all.0)
    ∙ sym (map-append (key start) (tags_listed_where (λ sent. true) past) (sender_listed_by sent))
pairs-are-keys start (item ∷ past) of all = pairs-are-keys start past of all

-- the numbers of a list stand in it once
abbrev StandOnce : List ℕ → Type 0
StandOnce [] = Unit {0}
StandOnce (number ∷ numbers) = AllByRecursion (λ other. other ≢ number) numbers × StandOnce numbers

none-of : (number : ℕ) (numbers : List ℕ) → times number numbers ≡ 0 → AllByRecursion (λ other. other ≢ number) numbers
none-of number [] none = tt
none-of number (first ∷ others) none =
    let count = times-first number first others in (
      λ same. let here : bit (first == number) ≡ 1 = ap bit (eq-eqb first number same) in absurd (omega (arith, count, here, none)),
      none-of number others (omega (arith, count, none)),
    )

stand-once : (numbers : List ℕ) → ((number : ℕ) → times number numbers ≤ 1) → StandOnce numbers
stand-once [] once = tt
stand-once (first ∷ others) once =
    let here : bit (first == first) ≡ 1 = ap bit (eq-eqb first first refl) in
    let count = times-first first first others in
    let most = once first in (
      none-of first others (omega (arith, here, count, most)),
      stand-once others (λ number. let all = once number in let both = times-first number first others in omega (arith, all, both)),
    )

-- what holds of each number that stands in a list
all-of : (P : ℕ → Type 0) (numbers : List ℕ) → ((number : ℕ) → 1 ≤ times number numbers → P number) → AllByRecursion P numbers
all-of P [] each = tt
all-of P (first ∷ others) each = (
  each first (let here : bit (first == first) ≡ 1 = ap bit (eq-eqb first first refl) in let count = times-first first first others in omega (arith, here, count)),
  all-of P others (λ number some. each number (let count = times-first number first others in omega (arith, some, count))),
)

-- the tag of a number is there
pub record IsThere (start : Start) (number : ℕ) : Type 0 where
  pub tag : TagValue
  pub numbered : HasNumber start number tag

same-epc : (one other : ℕ × List ℕ) → same_pair one other ≡ true → one.1 ≡ other.1
same-epc one other same = same_text one.1 other.1 (sym (and_parts (one.0 == other.0) (pointwise nat_eq one.1 other.1) same).1)

-- tags with other numbers have other EPCs
other-pair : (start : Start) (number other : ℕ) → HaveOwnEpcs start → IsThere start number → IsThere start other → other ≢ number
    → (same : Bool) → same_pair (key start number) (key start other) ≡ same → same ≡ false
other-pair start number other own one two differs false is = refl
other-pair start number other own one two differs true is =
    let first : key start number ≡ (pc_of one.tag.body.memory, epc_of one.tag.body.memory) = ap key_of one.numbered in
    let second : key start other ≡ (pc_of two.tag.body.memory, epc_of two.tag.body.memory) = ap key_of two.numbered in
    let alike : epc_of one.tag.body.memory ≡ epc_of two.tag.body.memory =
    sym (ap (λ (p : ℕ × List ℕ). p.1) first) ∙ same-epc (key start number) (key start other) is ∙ ap (λ (p : ℕ × List ℕ). p.1) second in
    absurd (differs (sym (own number other one.tag two.tag one.numbered two.numbered alike)))

keep-if : (keeps : Bool) (pair : ℕ × List ℕ) (pairs : List (ℕ × List ℕ)) → keeps ≡ false → (if not keeps then pair ∷ pairs else pairs) ≡ pair ∷ pairs
keep-if true pair pairs is = absurd (cc)
keep-if false pair pairs is = refl

kept-all : (start : Start) (number : ℕ) (numbers : List ℕ) → HaveOwnEpcs start → IsThere start number → AllByRecursion (IsThere start) numbers
    → AllByRecursion (λ other. other ≢ number) numbers
    → filter (λ other. not (same_pair (key start number) other)) (map (key start) numbers) ≡ map (key start) numbers
kept-all start number [] own there all others = refl
kept-all start number (first ∷ numbers) own there all others =
    ap (λ (pairs : List (ℕ × List ℕ)). if not (same_pair (key start number) (key start first)) then key start first ∷ pairs else pairs)
    (kept-all start number numbers own there all.1 others.1)
    ∙ keep-if (same_pair (key start number) (key start first)) (key start first) (map (key start) numbers)
    (other-pair start number first own there all.0 others.0 (same_pair (key start number) (key start first)) refl)

distinct-keys : (start : Start) (numbers : List ℕ) → HaveOwnEpcs start → AllByRecursion (IsThere start) numbers → StandOnce numbers
    → distinct (map (key start) numbers) ≡ map (key start) numbers
distinct-keys start [] own all once = refl
distinct-keys start (number ∷ numbers) own all once =
    ap (λ (pairs : List (ℕ × List ℕ)). key start number ∷ pairs)
    (ap (filter (λ other. not (same_pair (key start number) other))) (distinct-keys start numbers own all.1 once.1)
    ∙ kept-all start number numbers own all.0 all.1 once.0)

-- where the pairs that are listed are those of tags, each with its own, as many are distinct as there are tags
distinct-length : (start : Start) (history : List Item) (numbers : List ℕ) → pairs_listed history ≡ map (key start) numbers
    → distinct (map (key start) numbers) ≡ map (key start) numbers → length (distinct (pairs_listed history)) ≡ length numbers
distinct-length start history numbers listed apart =
    ap (λ (pairs : List (ℕ × List ℕ)). length (distinct pairs)) listed ∙ ap length apart ∙ length-map numbers (key start)

-- who is listed by a record of a history is listed in it
listed-somewhere : (test : Record → Bool) (later : List Item) (sent : Record) (earlier : List Item) (number : ℕ) → test sent ≡ true → sender_listed_by sent ≡ number ∷ []
    → 1 ≤ times number (tags_listed_where test (later ++ exchanged sent ∷ earlier))
listed-somewhere test [] sent earlier number passes sender =
    let here : bit (number == number) ≡ 1 = ap bit (eq-eqb number number refl) in
    let one = times-one number number in
    let all = ap (times number) (lists-one test sent earlier number passes sender) ∙ times-append number (tags_listed_where test earlier) (number ∷ []) in
    omega (arith, here, one, all)
listed-somewhere test (exchanged other ∷ later) sent earlier number passes sender =
    let before = listed-somewhere test later sent earlier number passes sender in
    let all = times-append number (tags_listed_where test (later ++ exchanged sent ∷ earlier)) (if test other then sender_listed_by other else []) in
    omega (arith, before, all)
listed-somewhere test (item ∷ later) sent earlier number passes sender = listed-somewhere test later sent earlier number passes sender

-- where the Query speaks to each tag, it speaks to as many as there are
all-spoken-to : (spec : SpecValue) (round : ℕ) (history : List Item) (number : ℕ) (tags : List TagValue)
    → ((place : ℕ) (tag : TagValue) → slice_get tags place ≡ Some tag → is_spoken_to spec (tag_after_query round history (number + place) tag) ≡ true)
    → tags_spoken_to spec round history number tags ≡ length tags
all-spoken-to spec round history number [] each = refl
all-spoken-to spec round history number (tag ∷ tags) each =
    let here : is_spoken_to spec (tag_after_query round history number tag) ≡ true =
    subst (λ n. is_spoken_to spec (tag_after_query round history n tag) ≡ true) (omega arith) (each 0 tag refl) in
    let one : bit (is_spoken_to spec (tag_after_query round history number tag)) ≡ 1 = ap bit here in
    let rest : tags_spoken_to spec round history (number + 1) tags ≡ length tags =
    all-spoken-to spec round history (number + 1) tags
    (λ place later at. subst (λ n. is_spoken_to spec (tag_after_query round history n later) ≡ true) (omega arith) (each (suc place) later at)) in
    ap (λ n. n + tags_spoken_to spec round history (number + 1) tags) one ∙ omega (arith, rest)

-- a tag just after the first Query of a run has the memory that it had at the start
first-memory : (spec : SpecValue) (link : LinkValue) (number : ℕ) (tag after : TagValue) → after ≡ tag_stepped (query_command spec link) [] number tag
    → after.body.memory ≡ tag.body.memory
first-memory spec link number tag after is =
    ap (λ (t : TagValue). t.body.memory) is ∙ query-memory link.dr link.code link.trext spec.sel spec.session spec.target spec.q tag

-- ... and where it was ready, it matched if its flags are those that the Query speaks to
pub ready-matched : (spec : SpecValue) (link : LinkValue) (number : ℕ) (tag after : TagValue) → after ≡ tag_stepped (query_command spec link) [] number tag → tag.state ≡ ReadyState
    → is_matched after.state ≡ matches spec.sel spec.session spec.target tag.body.flags
ready-matched spec link number tag after is ready =
    ap (λ (t : TagValue). is_matched t.state) is
    ∙ query-matched link.dr link.code link.trext spec.sel spec.session spec.target spec.q tag
    ∙ ap (λ (state : StateValue). is_present state && matches spec.sel spec.session spec.target (flags_behind_query spec.session state tag.body.flags)) ready

-- the history of a run of one round
abbrev pub history_of_round : Start → SpecValue → OpList → List Item
history_of_round start spec operations = history_of start (steps.Round spec operations ∷ [])

-- the one round of such a run
abbrev pub among_of : Start → SpecValue → OpList → RoundAmong
among_of start spec operations = record { start = start; before = []; after = []; spec = spec; operations = operations }

-- the pairs that a run of one round lists are those of the tags that it lists, in order, each of which is one of the start and is listed once
pub record ListsTags (start : Start) (history : List Item) : Type 0 where
  pub pairs : pairs_listed history ≡ map (key start) (tags_listed_where (λ sent. true) history)
  pub in_round : tags_listed_where (λ sent. true) history ≡ tags_listed_in 1 history
  pub there : AllByRecursion (IsThere start) (tags_listed_where (λ sent. true) history)
  pub once : (number : ℕ) → times number (tags_listed_where (λ sent. true) history) ≤ 1
  pub of_replies : AreOfReplies history

-- a run of one round that is honest, of which nothing is said
pub record IsOneRun (start : Start) (spec : SpecValue) (operations : OpList) : Type 0 where
  pub legal : IsLegalRound spec operations
  pub silent : start.entries ≡ []
  pub fair : IsFairRound start (history_of_round start spec operations) 1 operations

-- what is known of its tags just after the Query: each has the memory that it had at the start
pub after-query : (start : Start) (spec : SpecValue) (operations : OpList) (one : IsOneRun start spec operations) → IsTold (played (among_of start spec operations)) (history_of_round start spec operations)
    → (number : ℕ) (tag : TagValue) → tag_after_query 1 (history_of_round start spec operations) number tag ≡ tag_stepped (query_command spec start.link) [] number tag
after-query start spec operations one told number tag =
    let unsaid : next_entry start [] ≡ no_entry = ap (λ (entries : List (ℕ × Entry)). entry_at entries 1) one.silent in
    ap (λ (query : List Item). tag_behind number tag query) told.by.query_is ∙ tag-steps start 1 1 (query_command spec start.link) [] number tag unsaid

pub lists-tags : RoundsKeepLimit → RoundsHaveFacts → (start : Start) (spec : SpecValue) (operations : OpList) → IsOneRun start spec operations
    → ListsTags start (history_of_round start spec operations)
lists-tags keeps facts start spec operations one =
    let history = history_of_round start spec operations in
    let among = among_of start spec operations in
    let told : IsTold (played among) history = history-told keeps facts among (one.legal, tt) one.fair in
    let (ending, ending_is, counted) = told-counted (played among) told.last history told.by in
    let memory : (number : ℕ) (tag : TagValue) → (tag_after_query 1 history number tag).body.memory ≡ tag.body.memory =
    λ number tag. first-memory spec start.link number tag (tag_after_query 1 history number tag) (after-query start spec operations one told number tag) in
    let round : AreOfRound 1 history = one-round keeps start operations spec one.legal.legal in
    let in_round = all-in-round 1 history round in
    let there : (number : ℕ) → 1 ≤ times number (tags_listed_in 1 history) → IsThere start number =
    λ number some. let found = counted.numbered number some in record { tag = found.tag; numbered = found.numbered } in
    let of : AreOfReplies history =
    records-all (λ sent earlier. IsOfReplies sent.given) history
    (λ sent earlier recorded.
    none-given start sent earlier (subst HasNoRawStream (sym one.silent) tt) (made-record start (steps.Round spec operations ∷ []) sent earlier recorded)) in
    let keys : AllRecords (ListsKey start) history =
    records-all (ListsKey start) history
    (λ sent earlier recorded number sender.
    let same : sent.round ≡ 1 = records-at (λ sent earlier. sent.round ≡ 1) recorded.later sent earlier (subst (AreOfRound 1) recorded.is round) in
    let some : 1 ≤ times number (tags_listed_in 1 history) =
    subst (λ (items : List Item). 1 ≤ times number (tags_listed_in 1 items)) (sym recorded.is)
    (listed-somewhere (is_of_round 1) recorded.later sent earlier number (eq-eqb sent.round 1 same) sender) in
    let tag = there number some in
    lists-key start sent number tag.tag (tag_after_query 1 history number tag.tag).body.memory tag.numbered
    (counted.own_epc sent earlier number tag.tag recorded same tag.numbered sender) (memory number tag.tag)) in
    record {
      pairs = pairs-are-keys start history of keys;
      in_round = in_round;
      there = all-of (IsThere start) (tags_listed_where (λ sent. true) history)
          (λ number some. there number (subst (λ (tags : List ℕ). 1 ≤ times number tags) in_round some));
      once = λ number. subst (λ (tags : List ℕ). times number tags ≤ 1) (sym in_round) (counted.each_once number);
      of_replies = of;
    }

end_of : Option Ending → RoundEnd
end_of None = round_ends.Limit
end_of (Some ending) = ending.end

-- a run of one round that is fair, of which nothing is said, in which each tag takes part and has an EPC of its own
pub record IsPlainRun (start : Start) (spec : SpecValue) (operations : OpList) : Type 0 where
  pub legal : IsLegalRound spec operations
  pub part : AllTakePart start spec
  pub own : HaveOwnEpcs start
  pub silent : start.entries ≡ []
  pub fair : IsFairRound start (history_of_round start spec operations) 1 operations

pub every-tag : RoundsKeepLimit → RoundsHaveFacts → (start : Start) (spec : SpecValue) (operations : OpList) (slots : ℕ) (past : List Item) → IsPlainRun start spec operations
    → ending_of 1 (history_of_round start spec operations) ≡ Some (record { end = round_ends.Quiet; slots = slots; past = past })
    → ListsEveryTag start (history_of_round start spec operations)
unfolding end_of
every-tag keeps facts start spec operations slots past plain quiet =
    let history = history_of_round start spec operations in
    let link = start.link in
    let one : IsOneRun start spec operations = record { legal = plain.legal; silent = plain.silent; fair = plain.fair } in
    let among = among_of start spec operations in
    let told : IsTold (played among) history = history-told keeps facts among (plain.legal, tt) plain.fair in
    let by : IsToldBy (played among) told.last history = told.by in
    let (ending, ending_is, counted) = told-counted (played among) told.last history told.by in
    let ends_quiet : ending.end ≡ round_ends.Quiet = ap end_of (sym ending_is ∙ quiet) in
    let spoken : (number : ℕ) (tag : TagValue) → HasNumber start number tag → is_spoken_to spec (tag_after_query 1 history number tag) ≡ true =
    λ number tag numbered.
    sym (by.spoken number tag numbered)
    ∙ ready-matched spec link number tag (tag_after_query 1 history number tag) (after-query start spec operations one told number tag) (plain.part.ready number tag numbered)
    ∙ plain.part.matching number tag numbered in
    let tags = lists-tags keeps facts start spec operations one in
    let numbers = tags_listed_where (λ sent. true) history in
    let count : length numbers ≡ length start.tags =
    ap length tags.in_round ∙ counted.as_many ends_quiet
    ∙ all-spoken-to spec 1 history 0 start.tags (λ place tag at. subst (λ n. is_spoken_to spec (tag_after_query 1 history n tag) ≡ true) (omega arith) (spoken place tag at)) in
    record {
      listed = sym (listed-as-many history tags.of_replies) ∙ count;
      distinct_pairs = distinct-length start history numbers tags.pairs (distinct-keys start numbers plain.own tags.there (stand-once numbers tags.once)) ∙ count;
    }
