-- Rounds that stand side by side: a sound one lists each tag that has the flag it asks for, and leaves each tag with the flag that the
-- next one asks for.
use Rattle.runs.proofs.Names.{◌≡◌, ℕ, zero, suc, ◌+◌, ◌≤◌, ◌==◌, ◌&&◌, Bool, true, false, ◌⊎◌, inl, inr, List, [], ◌∷◌, ◌++◌, Some, if◌then◌else◌, refl, ap, sym, ◌∙◌, subst, arith, eqb-true, Given}
use Rattle.runs.proofs.Names.{silence, whole, broken, raw, no_entry, Start, Record, Item, exchanged, tag_behind, next_entry, next_record, Side, A, B, side_after, Negate, Step, Flags}
use Rattle.runs.proofs.Names.{flags_after_inversion, is_side, matches, sel_allows, side_of, StateValue, ReadyState, AcknowledgedState, OpenState, SecuredState, TagValue, is_present, HasNumber}
use Rattle.runs.proofs.Names.{is_spoken_to, AreLegalSteps, IsRecordOf, rounds_of, history_of, is_of_round, listed_as, sender_listed_by, sender_where, tags_listed_in, times, Listed, listed_by, Ending}
use Rattle.runs.proofs.Names.{ending_of, is_query_of, past_after_query, tag_after_query, IsSound, MayTakePart, is_inventoried_in, other_side, round_behind, tag_where, flags_behind_query}
use Rattle.runs.proofs.Names.{flags_in_round, is_matched}
use Rattle.q_round.specs.declared.round.RoundEnd.TheVariants as round_ends
use Rattle.scenario.specs.declared.values.Step.TheVariants as steps
use Rattle.runs.proofs.Growth.{RoundsKeepLimit}
use Rattle.runs.proofs.Records.{later-record}
use Rattle.runs.proofs.PlayedRounds.{number_of}
use Rattle.runs.proofs.CompleteRound.{IsFairRound, IsTold, RoundsHaveFacts, at-quiet, counted-round, taken-told}
use Rattle.runs.proofs.RoundsAmong.{RoundAmong, legal-split, past_behind-append, played, stands-among, steps_around}
use Rattle.runs.proofs.Population.{tag-steps, tag_stepped}
use Rattle.runs.proofs.TagQuery.{query-flags, query-matched}
use Rattle.runs.proofs.TagsInRound.{query_command}
use Rattle.runs.proofs.Times.{times-append, times-one, bit-some}
use Rattle.runs.proofs.WholeRound.{slots_to}

query-here : (first : Record) (past : List Item) (sent : Record) (earlier found : List Item) (here : Bool) → (if here then exchanged first ∷ past else found) ≡ exchanged sent ∷ earlier
    → (found ≡ exchanged sent ∷ earlier → IsRecordOf past sent earlier) → IsRecordOf (exchanged first ∷ past) sent earlier
query-here first past sent earlier found true is rest = record { later = []; is = is }
query-here first past sent earlier found false is rest = later-record (exchanged first) past sent earlier (rest is)

-- the Query of a round is a record of the history
query-record : (round : ℕ) (history : List Item) (sent : Record) (earlier : List Item) → past_after_query round history ≡ exchanged sent ∷ earlier → IsRecordOf history sent earlier
query-record round [] sent earlier is = absurd (cc)
query-record round (exchanged first ∷ past) sent earlier is =
    query-here first past sent earlier (past_after_query round past) (is_query_of round first) is (query-record round past sent earlier)
query-record round (item ∷ past) sent earlier is = later-record item past sent earlier (query-record round past sent earlier is)

-- flags
sl-closed : (own session : ℕ) (flags : Flags) (same : Bool) → session ≤ 3 → (if same then flags_after_inversion flags session else flags).sl ≡ flags.sl
sl-closed own zero flags true few = refl
sl-closed own (suc zero) flags true few = refl
sl-closed own (suc (suc zero)) flags true few = refl
sl-closed own (suc (suc (suc zero))) flags true few = refl
sl-closed own (suc (suc (suc (suc session)))) flags true few = absurd (omega (arith, few))
sl-closed own session flags false few = refl

sl-kept : (session : ℕ) (state : StateValue) (flags : Flags) → session ≤ 3 → (flags_behind_query session state flags).sl ≡ flags.sl
sl-kept session (AcknowledgedState own q rn) flags few = sl-closed own session flags (own == session) few
sl-kept session (OpenState held) flags few = sl-closed held.session session flags (held.session == session) few
sl-kept session (SecuredState held) flags few = sl-closed held.session session flags (held.session == session) few
sl-kept session state flags few = refl

own-side : (side : Side) → is_side side side ≡ true
own-side A = refl
own-side B = refl

-- the flag that a round of this target leaves: it inverts the flag of a tag that has it
left : (target side : Side) (of : Bool → Side) → of true ≡ side_after Negate side → of false ≡ side → of (is_side target side) ≡ other_side target
left A A of listed other = listed
left A B of listed other = other
left B A of listed other = other
left B B of listed other = listed

side-left : (session : ℕ) (target : Side) (flags : Flags) → session ≤ 3
    → side_of (flags_in_round session (is_side target (side_of flags session)) flags) session ≡ other_side target
side-left zero target flags few = left target flags.s0 (λ listed. side_of (flags_in_round 0 listed flags) 0) refl refl
side-left (suc zero) target flags few = left target flags.s1 (λ listed. side_of (flags_in_round 1 listed flags) 1) refl refl
side-left (suc (suc zero)) target flags few = left target flags.s2 (λ listed. side_of (flags_in_round 2 listed flags) 2) refl refl
side-left (suc (suc (suc zero))) target flags few = left target flags.s3 (λ listed. side_of (flags_in_round 3 listed flags) 3) refl refl
side-left (suc (suc (suc (suc session)))) target flags few = absurd (omega (arith, few))

-- the flag of a tag that is fresh is left as it is
pub side-fresh : (session : ℕ) (state : StateValue) (flags : Flags) → is_inventoried_in session state ≡ false → flags_behind_query session state flags ≡ flags
side-fresh session (AcknowledgedState own q rn) flags no_part = ap (λ (b : Bool). if b then flags_after_inversion flags session else flags) no_part
side-fresh session (OpenState held) flags no_part = ap (λ (b : Bool). if b then flags_after_inversion flags session else flags) no_part
side-fresh session (SecuredState held) flags no_part = ap (λ (b : Bool). if b then flags_after_inversion flags session else flags) no_part
side-fresh session state flags no_part = refl

-- where the step behind these steps begins, a Query finds the flag of a tag to be this, if the tag is present
abbrev pub HasFlagWhere : Start → ℕ → Side → ℕ → TagValue → List Step → Type 0
HasFlagWhere start session side number tag before =
    let now = tag_where start before number tag in
    is_present now.state ≡ true → side_of (flags_behind_query session now.state now.body.flags) session ≡ side

-- a record that lists a tag in a round
record ListsHere (history : List Item) (round number : ℕ) : Type 0 where
  sent : Record
  earlier : List Item
  recorded : IsRecordOf history sent earlier
  round_is : sent.round ≡ round
  some : 1 ≤ times number (sender_listed_by sent)

later-lists : (item : Item) (history : List Item) (round number : ℕ) → ListsHere history round number → ListsHere (item ∷ history) round number
later-lists item history round number lists = record {
  sent = lists.sent;
  earlier = lists.earlier;
  recorded = later-record item history lists.sent lists.earlier lists.recorded;
  round_is = lists.round_is;
  some = lists.some;
}

either-part : (a b : ℕ) → 1 ≤ a + b → (1 ≤ a) ⊎ (1 ≤ b)
either-part zero b some = inr (omega (arith, some))
either-part (suc a) b some = inl (omega arith)

record-lists : (sent : Record) (past : List Item) (round number : ℕ) (here : Bool) → is_of_round round sent ≡ here
    → 1 ≤ times number (tags_listed_in round past ++ (if here then sender_listed_by sent else []))
    → (1 ≤ times number (tags_listed_in round past) → ListsHere past round number) → ListsHere (exchanged sent ∷ past) round number
record-lists sent past round number true is some rest =
    let parts : 1 ≤ times number (tags_listed_in round past) + times number (sender_listed_by sent) =
    subst (λ n. 1 ≤ n) (times-append number (tags_listed_in round past) (sender_listed_by sent)) some in
    elim (either-part (times number (tags_listed_in round past)) (times number (sender_listed_by sent)) parts) [
      | inl before ↦ later-lists (exchanged sent) past round number (rest before)
      | inr now ↦ record { sent = sent; earlier = past; recorded = record { later = []; is = refl }; round_is = eqb-true sent.round round is; some = now }
    ]
record-lists sent past round number false is some rest =
    let parts : 1 ≤ times number (tags_listed_in round past) + 0 = subst (λ n. 1 ≤ n) (times-append number (tags_listed_in round past) []) some in
    later-lists (exchanged sent) past round number (rest (omega (arith, parts)))

-- who is listed is listed by a record
some-lists : (history : List Item) (round number : ℕ) → 1 ≤ times number (tags_listed_in round history) → ListsHere history round number
some-lists [] round number some = absurd (omega (arith, some))
some-lists (exchanged sent ∷ past) round number some = record-lists sent past round number (is_of_round round sent) refl some (some-lists past round number)
some-lists (item ∷ past) round number some = later-lists item past round number (some-lists past round number some)

-- a record lists one tag at most
one-sender : (listed : List Listed) (given : Given) (number : ℕ) → 1 ≤ times number (sender_where listed given) → sender_where listed given ≡ number ∷ []
one-sender [] given number some = absurd (omega (arith, some))
one-sender (first ∷ more) silence number some = absurd (omega (arith, some))
one-sender (first ∷ more) (whole replied) number some =
    let same : (replied.number == number) ≡ true = bit-some (replied.number == number) (subst (λ n. 1 ≤ n) (times-one number replied.number) some) in
    ap (λ (n : ℕ). n ∷ []) (eqb-true replied.number number same)
one-sender (first ∷ more) (broken replied place) number some = absurd (omega (arith, some))
one-sender (first ∷ more) (raw code trext levels) number some = absurd (omega (arith, some))

-- a round lists a tag, which itself sent what is listed
pub record IsListedIn (history : List Item) (round number : ℕ) (tag : TagValue) : Type 0 where
  pub sent : Record
  pub earlier : List Item
  pub recorded : IsRecordOf history sent earlier
  pub round_is : sent.round ≡ round
  pub sender : sender_listed_by sent ≡ number ∷ []
  pub entry : listed_by sent ≡ listed_as sent (tag_after_query round history number tag).body.memory ∷ []

-- the end of a round that ended quiet
same-end : (ending : Ending) (history : List Item) (round slots : ℕ) (past : List Item) → ending_of round history ≡ Some ending
    → ending_of round history ≡ Some (record { end = round_ends.Quiet; slots = slots; past = past }) → ending.end ≡ round_ends.Quiet
same-end ending history round slots past is quiet =
    let both : Some ending ≡ Some (record { end = round_ends.Quiet; slots = slots; past = past }) = sym is ∙ quiet in
    let same : ending ≡ record { end = round_ends.Quiet; slots = slots; past = past } = cc in
    ap (λ (e : Ending). e.end) same

module _ (keeps : RoundsKeepLimit) (facts : RoundsHaveFacts) (among : RoundAmong) (taken : List Step) (legal : AreLegalSteps taken) (is : taken ≡ steps_around among)
    (sound : IsSound among.start (history_of among.start taken) (round_behind among.before) among.operations) where
  fair : IsFairRound among.start (history_of among.start taken) (rounds_of among.before + 1) among.operations
  fair = record { honest = sound.honest; apart = sound.apart }

  number-is : number_of (played among) ≡ round_behind among.before
  number-is = (stands-among keeps among (subst AreLegalSteps is legal)).number_is

  own-told : IsTold (played among) (history_of among.start taken)
  own-told = taken-told keeps facts among taken legal is fair

  few-sessions : among.spec.session ≤ 3
  few-sessions = (legal-split among.before (steps.Round among.spec among.operations ∷ among.after) (subst AreLegalSteps is legal)).1.0.legal.session

  -- nothing is said of its Query
  query-unsaid : (past : List Item) → past ≡ history_of among.start among.before → next_entry among.start past ≡ no_entry
  query-unsaid past same =
      let before = history_of among.start among.before in
      let sent = next_record among.start (number_of (played among)) 1 (query_command among.spec among.start.link) before in
      subst (λ (p : List Item). next_entry among.start p ≡ no_entry) (sym same)
      (sound.honest.unsaid sent before (query-record (number_of (played among)) (history_of among.start taken) sent before own-told.by.query_is) number-is)

  -- a tag just after it
  queried : (number : ℕ) (tag : TagValue) → tag_after_query (number_of (played among)) (history_of among.start taken) number tag
      ≡ tag_stepped (query_command among.spec among.start.link) (history_of among.start among.before) number tag
  queried number tag =
      let before = history_of among.start among.before in
      ap (λ (past : List Item). tag_behind number tag past) own-told.by.query_is
      ∙ tag-steps among.start (number_of (played among)) 1 (query_command among.spec among.start.link) before number tag (query-unsaid before refl)

  -- whether the tag is matched is whether it has the flag, where Sel allows it
  matched-is : (number : ℕ) (tag : TagValue) → MayTakePart among.start among.spec.sel number tag among.before
      → let now = tag_where among.start among.before number tag in
      is_matched (tag_after_query (number_of (played among)) (history_of among.start taken) number tag).state
      ≡ is_side among.spec.target (side_of (flags_behind_query among.spec.session now.state now.body.flags) among.spec.session)
  matched-is number tag part =
      let spec = among.spec in
      let link = among.start.link in
      let now = tag_where among.start among.before number tag in
      let flags = flags_behind_query spec.session now.state now.body.flags in
      let allowed : sel_allows spec.sel flags.sl ≡ true = ap (sel_allows spec.sel) (sl-kept spec.session now.state now.body.flags few-sessions) ∙ part.allowed in
      ap (λ (t : TagValue). is_matched t.state) (queried number tag)
      ∙ query-matched link.dr link.code link.trext spec.sel spec.session spec.target spec.q now
      ∙ ap (λ (there : Bool). there && matches spec.sel spec.session spec.target flags) part.present
      ∙ ap (λ (allows : Bool). allows && is_side spec.target (side_of flags spec.session)) allowed

  pub sound-lists : (number : ℕ) (tag : TagValue) → HasNumber among.start number tag → MayTakePart among.start among.spec.sel number tag among.before
      → HasFlagWhere among.start among.spec.session among.spec.target number tag among.before
      → IsListedIn (history_of among.start taken) (round_behind among.before) number tag
  sound-lists number tag numbered part flag =
      let history = history_of among.start taken in
      let round = round_behind among.before in
      let (ending, ending_is, counted) = counted-round keeps facts among taken legal is fair in
      let quiet : ending.end ≡ round_ends.Quiet = same-end ending history round sound.slots sound.past ending_is sound.quiet in
      let matched : is_matched (tag_after_query round history number tag).state ≡ true =
      subst (λ n. is_matched (tag_after_query n history number tag).state ≡ true) number-is
      (matched-is number tag part ∙ ap (is_side among.spec.target) (flag part.present) ∙ own-side among.spec.target) in
      let spoken : is_spoken_to among.spec (tag_after_query round history number tag) ≡ true = sym (counted.matched number tag numbered) ∙ matched in
      let listed = counted.complete number tag numbered quiet spoken in
      let here = some-lists history round number (omega (arith, listed)) in
      let sender = one-sender (listed_by here.sent) here.sent.given number here.some in
      record {
        sent = here.sent;
        earlier = here.earlier;
        recorded = here.recorded;
        round_is = here.round_is;
        sender = sender;
        entry = counted.own_epc here.sent here.earlier number tag here.recorded here.round_is numbered sender;
      }

  -- what is past behind the round is what was past at its end, and the end
  behind-round : (number : ℕ) (tag : TagValue) → tag_where among.start (among.before ++ steps.Round among.spec among.operations ∷ []) number tag ≡ tag_behind number tag own-told.last.now
  behind-round number tag =
      ap (λ (past : List Item). tag_behind number tag past)
      (past_behind-append among.start among.before (steps.Round among.spec among.operations ∷ []) [] ∙ own-told.behind_is)

  pub sound-leaves : (number : ℕ) (tag : TagValue) → HasNumber among.start number tag → MayTakePart among.start among.spec.sel number tag among.before
      → HasFlagWhere among.start among.spec.session (other_side among.spec.target) number tag (among.before ++ steps.Round among.spec among.operations ∷ [])
  sound-leaves number tag numbered part there =
      let spec = among.spec in
      let history = history_of among.start taken in
      let round : ℕ = number_of (played among) in
      let last = own-told.last in
      let now = tag_where among.start among.before number tag in
      let found = flags_behind_query spec.session now.state now.body.flags in
      let left = tag_behind number tag last.now in
      let quiet : last.end ≡ round_ends.Quiet = same-end (record { end = last.end; slots = slots_to last; past = last.now }) history round sound.slots sound.past
      own-told.by.ending (subst (λ n. ending_of n history ≡ Some (record { end = round_ends.Quiet; slots = sound.slots; past = sound.past })) (sym number-is) sound.quiet) in
      let stands = at-quiet (played among) last history own-told.by quiet number tag numbered in
      let ready : left.state ≡ ReadyState = stands.ready (subst (λ (t : TagValue). is_present t.state ≡ true) (behind-round number tag) there) in
      let flags : left.body.flags ≡ flags_in_round spec.session (is_side spec.target (side_of found spec.session)) found =
      stands.flags
      ∙ ap (λ (matched : Bool). flags_in_round spec.session matched (tag_after_query round history number tag).body.flags) (matched-is number tag part)
      ∙ ap (λ (t : TagValue). flags_in_round spec.session (is_side spec.target (side_of found spec.session)) t.body.flags) (queried number tag)
      ∙ ap (flags_in_round spec.session (is_side spec.target (side_of found spec.session)))
      (query-flags among.start.link.dr among.start.link.code among.start.link.trext spec.sel spec.session spec.target spec.q now) in
      ap (λ (t : TagValue). side_of (flags_behind_query spec.session t.state t.body.flags) spec.session) (behind-round number tag)
      ∙ ap (λ (state : StateValue). side_of (flags_behind_query spec.session state left.body.flags) spec.session) ready
      ∙ ap (λ (f : Flags). side_of f spec.session) flags
      ∙ side-left spec.session spec.target found few-sessions
