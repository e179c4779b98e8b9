-- What is known of a tag where a round ends.
use Rattle.runs.proofs.Names.{◌≡◌, ℕ, Bool, true, false, List, [], ◌∷◌, ◌++◌, length, refl, ap, sym, ◌∙◌, subst, inl, inr, add-one, arith, false_from_ne_true, AllByRecursion, SlotOutcome, Silence}
use Rattle.runs.proofs.Names.{IsSilentFrame, StateValue, ReadyState, ArbitrateState, AcknowledgedState, OpenState, SecuredState, KilledState, UnpoweredState, TagValue, is_present, is_matched}
use Rattle.runs.proofs.Names.{IsCounterBefore, flags_in_round, is_acknowledged, StandsAtQuiet, StandsAtEnd, IsListedOnce}
use Rattle.runs.proofs.Members.{Frame, Member, MayStand, StandsBefore}

-- a tag that is ready, or takes no part, isn't listed twice
done-once : (first : TagValue) (listed listed_now : Bool) → listed ≡ is_matched first.state → listed_now ≡ false → IsListedOnce first listed listed_now
done-once first listed listed_now is none = record { matched = λ e. sym is ∙ e; matched_now = λ e. absurd (cc); once = λ e. none }

-- nor is one that isn't listed before this slot
new-once : (first : TagValue) (listed listed_now : Bool) → is_matched first.state ≡ true → listed ≡ false → IsListedOnce first listed listed_now
new-once first listed listed_now part new = record { matched = λ e. part; matched_now = λ e. part; once = λ e. absurd (cc) }

once : (on : Frame) (outcome : SlotOutcome) (of : Member) (state : StateValue) → MayStand on outcome of state → IsListedOnce of.first of.listed of.listed_now
once on outcome of ReadyState is = done-once of.first of.listed of.listed_now is.earlier is.not_now
once on outcome of (OpenState held) is = absurd is
once on outcome of (SecuredState held) is = absurd is
once on outcome of KilledState is = done-once of.first of.listed of.listed_now (is.0.not_listed ∙ sym is.0.no_part) is.1
once on outcome of UnpoweredState is = done-once of.first of.listed of.listed_now (is.0.not_listed ∙ sym is.0.no_part) is.1
once on outcome of state is = new-once of.first of.listed of.listed_now is.unlisted.takes_part is.unlisted.not_listed

-- A tag is listed in one slot of a round at most, and only where it matched.
pub listed-once : (on : Frame) (outcome : SlotOutcome) (of : Member) (tag : TagValue) → StandsBefore on outcome of tag → IsListedOnce of.first of.listed of.listed_now
listed-once on outcome of tag stands = once on outcome of tag.state stands.state

-- each outcome of a silent frame is silence
all-before : (later : List SlotOutcome) (outcome : SlotOutcome) (earlier : List SlotOutcome) → AllByRecursion (λ o. o ≡ Silence) (later ++ outcome ∷ earlier) → outcome ≡ Silence
all-before [] outcome earlier all = all.0
all-before (first ∷ later) outcome earlier all = all-before later outcome earlier all.1

-- no tag waits behind a silent frame
no-counter : (q : ℕ) (outcome : SlotOutcome) (frame : List SlotOutcome) (slot : ℕ) → IsSilentFrame q (outcome ∷ frame) → IsCounterBefore q outcome frame slot → ⊥
no-counter q outcome frame slot silent (inl (inl c)) = let whole = silent.whole in let least = c.least in let most = c.most in let long = add-one (length frame) in omega arith
no-counter q outcome frame slot silent (inl (inr a)) =
    a.heard (all-before a.later a.outcome a.earlier (subst (λ (l : List SlotOutcome). AllByRecursion (λ o. o ≡ Silence) l) a.in_frame silent.silent.1))
no-counter q outcome frame slot silent (inr back) = back.1 silent.silent.0

-- what is left of the cases behind a silent frame
record IsFinished (matched listed listed_now : Bool) (state : StateValue) : Type 0 where
  listed_is : listed ≡ matched
  not_now : listed_now ≡ false
  ready : is_present state ≡ true → state ≡ ReadyState

finished : (on : Frame) (outcome : SlotOutcome) (of : Member) (state : StateValue) → IsSilentFrame on.q (outcome ∷ on.slots) → MayStand on outcome of state
    → IsFinished (is_matched of.first.state) of.listed of.listed_now state
finished on outcome of ReadyState silent is = record { listed_is = is.earlier; not_now = is.not_now; ready = λ e. refl }
finished on outcome of (ArbitrateState own own_q slot) silent is = absurd (no-counter on.q outcome on.slots slot silent is.counter)
finished on outcome of (OpenState held) silent is = absurd is
finished on outcome of (SecuredState held) silent is = absurd is
finished on outcome of KilledState silent is = record { listed_is = is.0.not_listed ∙ sym is.0.no_part; not_now = is.1; ready = λ e. absurd (cc) }
finished on outcome of UnpoweredState silent is = record { listed_is = is.0.not_listed ∙ sym is.0.no_part; not_now = is.1; ready = λ e. absurd (cc) }
finished on outcome of state silent is = absurd (is.heard silent.silent.0)

-- Behind a frame of silent slots each tag that matched was listed, and each tag that is present is ready.
pub quiet-stands : (on : Frame) (outcome : SlotOutcome) (of : Member) (tag : TagValue) → IsSilentFrame on.q (outcome ∷ on.slots) → StandsBefore on outcome of tag
    → StandsAtQuiet on.session of.first of.listed of.listed_now tag
quiet-stands on outcome of tag silent stands =
    let known = finished on outcome of tag.state silent stands.state in
    record {
      listed_is = known.listed_is;
      not_now = known.not_now;
      ready = known.ready;
      flags = stands.body.flags ∙ ap (λ (b : Bool). flags_in_round on.session b of.first.body.flags) known.listed_is;
    }

-- what the state of a tag says of how it was listed
record IsWhere (matched listed listed_now : Bool) (state : StateValue) : Type 0 where
  unlisted : matched ≡ true → listed ≡ false → listed_now ≡ false → is_matched state ≡ true
  last : listed_now ≡ true → is_acknowledged state ≡ true
  earlier : listed ≡ true → state ≡ ReadyState
  outside : matched ≡ false → is_present state ≡ true → state ≡ ReadyState

is-where : (on : Frame) (outcome : SlotOutcome) (of : Member) (state : StateValue) → MayStand on outcome of state
    → IsWhere (is_matched of.first.state) of.listed of.listed_now state
is-where on outcome of ReadyState is =
    let e = is.earlier in let n = is.not_now in record { unlisted = λ part new none. absurd (cc); last = λ now. absurd (cc); earlier = λ before. refl; outside = λ none present. refl }
is-where on outcome of (AcknowledgedState own own_q rn) is =
    let n = is.now in let u = is.unlisted.not_listed in let p = is.unlisted.takes_part in
    record { unlisted = λ part new none. absurd (cc); last = λ now. refl; earlier = λ before. absurd (cc); outside = λ none present. absurd (cc) }
is-where on outcome of (OpenState held) is = absurd is
is-where on outcome of (SecuredState held) is = absurd is
is-where on outcome of KilledState is =
    let p = is.0.no_part in let u = is.0.not_listed in let n = is.1 in
    record { unlisted = λ part new none. absurd (cc); last = λ now. absurd (cc); earlier = λ before. absurd (cc); outside = λ none present. absurd (cc) }
is-where on outcome of UnpoweredState is =
    let p = is.0.no_part in let u = is.0.not_listed in let n = is.1 in
    record { unlisted = λ part new none. absurd (cc); last = λ now. absurd (cc); earlier = λ before. absurd (cc); outside = λ none present. absurd (cc) }
is-where on outcome of state is =
    let n = is.not_now in let u = is.unlisted.not_listed in let p = is.unlisted.takes_part in
    record { unlisted = λ part new none. refl; last = λ now. absurd (cc); earlier = λ before. absurd (cc); outside = λ none present. absurd (cc) }

-- Behind the last slot, whichever way the round ends, the state and the flags of a tag say how it was listed.
pub end-stands : (on : Frame) (outcome : SlotOutcome) (of : Member) (tag : TagValue) → StandsBefore on outcome of tag
    → StandsAtEnd on.session of.first of.listed of.listed_now tag
end-stands on outcome of tag stands =
    let known = is-where on outcome of tag.state stands.state in
    let single = once on outcome of tag.state stands.state in
    let flags : (b : Bool) → of.listed ≡ b → tag.body.flags ≡ flags_in_round on.session b of.first.body.flags =
    λ b e. stands.body.flags ∙ ap (λ (c : Bool). flags_in_round on.session c of.first.body.flags) e in
    let new_now : of.listed_now ≡ true → of.listed ≡ false = λ now. false_from_ne_true of.listed (λ e. let none = single.once e in cc) in
    let new_outside : is_matched of.first.state ≡ false → of.listed ≡ false = λ none. false_from_ne_true of.listed (λ e. let part = single.matched e in cc) in
    record {
      unlisted = λ part new none. (known.unlisted part new none, flags false new);
      last = λ now. (known.last now, flags false (new_now now));
      earlier = λ before. (known.earlier before, flags true before);
      outside = λ none. (known.outside none, flags false (new_outside none));
    }
