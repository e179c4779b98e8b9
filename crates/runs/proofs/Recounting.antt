-- As many rounds side by side as make up for the unsound ones among them list a tag: by induction over the rounds.
use Rattle.runs.proofs.Names.{◌≡◌, ℕ, zero, suc, ◌+◌, ◌*◌, ◌≤◌, Bool, true, false, ◌⊎◌, inl, inr, List, [], ◌∷◌, ◌++◌, length, if◌then◌else◌, refl, ap, sym, ◌∙◌, subst, arith, append_assoc, OpList}
use Rattle.runs.proofs.Names.{Side, Sel, SpecValue, Step, side_of, Flags, TagValue, HasNumber, AreLegalSteps, AreInTurn, HoldsOfEach, IsFresh, IsListedBySound, IsRecount, IsSound, IsThere}
use Rattle.runs.proofs.Names.{MayTakePart, Recount, enough_from_any, enough_from_fresh, history_with, other_side, round_behind, steps_with, tag_where, unsound_from}
use Rattle.scenario.specs.declared.values.Step.TheVariants as steps
use Rattle.runs.proofs.Growth.{RoundsKeepLimit}
use Rattle.runs.proofs.OtherRounds.{rounds_of-append}
use Rattle.runs.proofs.CompleteRound.{RoundsHaveFacts}
use Rattle.runs.proofs.RoundsAmong.{RoundAmong}
use Rattle.runs.proofs.SideBySide.{HasFlagWhere, IsListedIn, side-fresh, sound-leaves, sound-lists}

-- the round behind one more
next-round : (before : List Step) (spec : SpecValue) (operations : OpList) → round_behind (before ++ steps.Round spec operations ∷ []) ≡ round_behind before + 1
next-round before spec operations = ap (λ n. n + 1) (rounds_of-append before (steps.Round spec operations ∷ []))

-- what a round counts among those that aren't said to be sound
abbrev counted : Bool → ℕ
counted sound = if sound then 0 else 1

-- one of so many rounds from a number on is said to be sound, and lists the tag
record IsFound (recount : Recount) (number : ℕ) (tag : TagValue) (first count : ℕ) : Type 0 where
  round : ℕ
  from : first ≤ round
  to : round + 1 ≤ first + count
  sound : recount.sound round ≡ true
  listed : IsListedIn (history_with recount) round number tag

-- so many rounds are enough for a tag whose flag is the one that the first of them asks for, or for any tag
abbrev AreEnough : Recount → ℕ → TagValue → List Step → Side → ℕ → ℕ → Type 0
AreEnough recount number tag before target rounds unsound =
    (HasFlagWhere recount.start recount.session target number tag before × (2 * unsound + 1 ≤ rounds)) ⊎ (2 * unsound + 2 ≤ rounds)

abbrev SoundHere : Recount → List Step → OpList → Type 0
SoundHere recount before operations = recount.sound (round_behind before) ≡ true → IsSound recount.start (history_with recount) (round_behind before) operations

abbrev ThereHere : Recount → ℕ → TagValue → List Step → OpList → Type 0
ThereHere recount number tag before operations = recount.sound (round_behind before) ≡ true → MayTakePart recount.start recount.sel number tag before

module _ (keeps : RoundsKeepLimit) (facts : RoundsHaveFacts) (recount : Recount) (legal : AreLegalSteps (steps_with recount))
    (number : ℕ) (tag : TagValue) (numbered : HasNumber recount.start number tag) where
  -- what is known of rounds that stand behind these steps
  record Stand (before : List Step) (target : Side) (rounds : List Step) (unsound : ℕ) : Type 0 where
    whole : steps_with recount ≡ before ++ (rounds ++ recount.after)
    turns : AreInTurn recount.sel recount.session target rounds
    sound : HoldsOfEach (SoundHere recount) before rounds
    there : HoldsOfEach (ThereHere recount number tag) before rounds
    few : unsound_from recount.sound (round_behind before) (length rounds) ≤ unsound
    enough : AreEnough recount number tag before target (length rounds) unsound

  abbrev Found : List Step → ℕ → Type 0
  Found before count = IsFound recount number tag (round_behind before) count

  -- what is found behind a round is found
  further : (before : List Step) (spec : SpecValue) (operations : OpList) (count : ℕ) → Found (before ++ steps.Round spec operations ∷ []) count → Found before (suc count)
  further before spec operations count found =
      let next = next-round before spec operations in
      record {
        round = found.round;
        from = let from = found.from in omega (arith, from, next);
        to = let to = found.to in omega (arith, to, next);
        sound = found.sound;
        listed = found.listed;
      }

  few-behind : (before : List Step) (spec : SpecValue) (operations : OpList) (count unsound : ℕ)
      → unsound_from recount.sound (round_behind before + 1) count ≤ unsound
      → unsound_from recount.sound (round_behind (before ++ steps.Round spec operations ∷ [])) count ≤ unsound
  few-behind before spec operations count unsound few =
      subst (λ n. unsound_from recount.sound n count ≤ unsound) (sym (next-round before spec operations)) few

  whole-behind : (before : List Step) (spec : SpecValue) (operations : OpList) (rounds : List Step)
      → steps_with recount ≡ before ++ (steps.Round spec operations ∷ rounds ++ recount.after)
      → steps_with recount ≡ (before ++ steps.Round spec operations ∷ []) ++ (rounds ++ recount.after)
  whole-behind before spec operations rounds whole =
      whole ∙ sym (append_assoc before (steps.Round spec operations ∷ []) (rounds ++ recount.after))

  -- the round, as one among the steps of the run
  abbrev among_of : List Step → SpecValue → OpList → List Step → RoundAmong
  among_of before spec operations rounds =
      record { start = recount.start; before = before; after = rounds ++ recount.after; spec = spec; operations = operations }

  -- behind a round that isn't said to be sound
  unsound-next : (before : List Step) (target : Side) (spec : SpecValue) (operations : OpList) (rounds : List Step) (unsound : ℕ)
      → Stand before target (steps.Round spec operations ∷ rounds) unsound → recount.sound (round_behind before) ≡ false
      → ((fewer : ℕ) → Stand (before ++ steps.Round spec operations ∷ []) (other_side target) rounds fewer → Found (before ++ steps.Round spec operations ∷ []) (length rounds))
      → Found before (suc (length rounds))
  unsound-next before target spec operations rounds zero stand not_sound rest =
      let few : counted (recount.sound (round_behind before)) + unsound_from recount.sound (round_behind before + 1) (length rounds) ≤ zero = stand.few in
      let one : counted (recount.sound (round_behind before)) ≡ 1 = ap counted not_sound in
      absurd (omega (arith, few, one))
  unsound-next before target spec operations rounds (suc fewer) stand not_sound rest =
      let (sel_is, session_is, target_is, turns) = stand.turns in
      let few : counted (recount.sound (round_behind before)) + unsound_from recount.sound (round_behind before + 1) (length rounds) ≤ suc fewer = stand.few in
      let one : counted (recount.sound (round_behind before)) ≡ 1 = ap counted not_sound in
      further before spec operations (length rounds) (rest fewer (record {
        whole = whole-behind before spec operations rounds stand.whole;
        turns = turns;
        sound = stand.sound.1;
        there = stand.there.1;
        few = few-behind before spec operations (length rounds) fewer (omega (arith, few, one));
        enough = elim stand.enough [
          | inl known ↦ let count = known.1 in inr (omega (arith, count))
          | inr many ↦ inr (omega (arith, many))
        ];
      }))

  -- behind a sound round
  sound-next : (before : List Step) (target : Side) (spec : SpecValue) (operations : OpList) (rounds : List Step) (unsound : ℕ)
      → Stand before target (steps.Round spec operations ∷ rounds) unsound → recount.sound (round_behind before) ≡ true
      → ((fewer : ℕ) → Stand (before ++ steps.Round spec operations ∷ []) (other_side target) rounds fewer → Found (before ++ steps.Round spec operations ∷ []) (length rounds))
      → Found before (suc (length rounds))
  sound-next before target spec operations rounds unsound stand is_sound rest =
      let (sel_is, session_is, target_is, turns) = stand.turns in
      let among = among_of before spec operations rounds in
      let sound = stand.sound.0 is_sound in
      let part = subst (λ (sel : Sel). MayTakePart recount.start sel number tag before) (sym sel_is) (stand.there.0 is_sound) in
      let few : counted (recount.sound (round_behind before)) + unsound_from recount.sound (round_behind before + 1) (length rounds) ≤ unsound = stand.few in
      let none : counted (recount.sound (round_behind before)) ≡ 0 = ap counted is_sound in
      elim stand.enough [
        | inl known ↦ record {
          round = round_behind before;
          from = omega arith;
          to = omega arith;
          sound = is_sound;
          listed = sound-lists keeps facts among (steps_with recount) legal stand.whole sound number tag numbered part
              (subst (λ (session : ℕ). HasFlagWhere recount.start session spec.target number tag before) (sym session_is)
              (subst (λ (side : Side). HasFlagWhere recount.start recount.session side number tag before) (sym target_is) known.0));
        }
        | inr many ↦ further before spec operations (length rounds) (rest unsound (record {
          whole = whole-behind before spec operations rounds stand.whole;
          turns = turns;
          sound = stand.sound.1;
          there = stand.there.1;
          few = few-behind before spec operations (length rounds) unsound (omega (arith, few, none));
          enough = inl (
            subst (λ (session : ℕ). HasFlagWhere recount.start session (other_side target) number tag (before ++ steps.Round spec operations ∷ [])) session_is
                (subst (λ (side : Side). HasFlagWhere recount.start spec.session (other_side side) number tag (before ++ steps.Round spec operations ∷ [])) target_is
                (sound-leaves keeps facts among (steps_with recount) legal stand.whole sound number tag numbered part)),
            omega (arith, many),
          );
        }))
      ]

  either-next : (before : List Step) (target : Side) (spec : SpecValue) (operations : OpList) (rounds : List Step) (unsound : ℕ) (is : Bool)
      → Stand before target (steps.Round spec operations ∷ rounds) unsound → recount.sound (round_behind before) ≡ is
      → ((fewer : ℕ) → Stand (before ++ steps.Round spec operations ∷ []) (other_side target) rounds fewer → Found (before ++ steps.Round spec operations ∷ []) (length rounds))
      → Found before (suc (length rounds))
  either-next before target spec operations rounds unsound true stand is rest = sound-next before target spec operations rounds unsound stand is rest
  either-next before target spec operations rounds unsound false stand is rest = unsound-next before target spec operations rounds unsound stand is rest

  none-left : (before : List Step) (target : Side) (unsound : ℕ) → AreEnough recount number tag before target 0 unsound → Found before 0
  none-left before target unsound (inl known) = let count = known.1 in absurd (omega (arith, count))
  none-left before target unsound (inr many) = absurd (omega (arith, many))

  found : (rounds before : List Step) (target : Side) (unsound : ℕ) → Stand before target rounds unsound → Found before (length rounds)
  found [] before target unsound stand = none-left before target unsound stand.enough
  found (steps.Round spec operations ∷ rounds) before target unsound stand =
      either-next before target spec operations rounds unsound (recount.sound (round_behind before)) stand refl
      (λ fewer next. found rounds (before ++ steps.Round spec operations ∷ []) (other_side target) fewer next)
  found (step ∷ rounds) before target unsound stand = absurd stand.turns

  listed : (unsound : ℕ) → IsRecount recount unsound → IsThere recount number tag
      → AreEnough recount number tag recount.before recount.target (length recount.rounds) unsound → IsListedBySound recount number tag
  listed unsound is there enough =
      let one = found recount.rounds recount.before recount.target unsound
      (record { whole = refl; turns = is.turns; sound = is.are_sound; there = there; few = is.few; enough = enough }) in
      record {
        round = one.round;
        from = one.from;
        to = one.to;
        sound = one.sound;
        sent = one.listed.sent;
        earlier = one.listed.earlier;
        recorded = one.listed.recorded;
        round_is = one.listed.round_is;
        sender = one.listed.sender;
        entry = one.listed.entry;
      }

  pub listed-from-any : (unsound : ℕ) → IsRecount recount unsound → enough_from_any unsound ≤ length recount.rounds → IsThere recount number tag → IsListedBySound recount number tag
  listed-from-any unsound is many there = listed unsound is there (inr many)

  pub listed-from-fresh : (unsound : ℕ) → IsRecount recount unsound → enough_from_fresh unsound ≤ length recount.rounds → IsThere recount number tag
      → IsFresh recount number tag → IsListedBySound recount number tag
  listed-from-fresh unsound is many there fresh =
      let now = tag_where recount.start recount.before number tag in
      let side : HasFlagWhere recount.start recount.session recount.target number tag recount.before =
      λ present. ap (λ (flags : Flags). side_of flags recount.session) (side-fresh recount.session now.state now.body.flags fresh.not_inventoried)
      ∙ fresh.side ∙ sym fresh.first in
      listed unsound is there (inl (side, many))
