-- Two portals don't disturb each other: each round leaves the flags of the other portal's session.
use Rattle.std.proofs.Common.{rules, ◌≡◌, ◌⊎◌, inl, inr, ℕ, Bool, true, false, List, [], ◌∷◌, map, refl, sym, ap, ◌∙◌, subst, Some, None, option_map, zero, suc}
use Rattle.std.specs.Prelude.{All, slice_get, if◌then◌else◌}
use Rattle.std.specs.List.{AllZip}
use Rattle.std.proofs.lemmas.Option.{slice_get-map}
use Rattle.std.proofs.lemmas.List.Elements.{All-head, All-tail, All-cons, All-nil}
use Rattle.q_round.specs.SpecValue.{SpecValue}
use Rattle.session_flags.specs.declared.flags.Flags.{Flags}
use Rattle.session_flags.specs.Flags.{side_of, side_after}
use Rattle.session_flags.specs.declared.flags.Effect.TheVariants.{Negate}
use Rattle.tag_machine.specs.TagValue.{TagValue, ReadyState}
use Rattle.two_portals.specs.Played.{Played, AreReady, IsLeftByRound, IsQuietRound, ListsItsTags, flags_in_round, is_named, pc_and_epc_of}
use Rattle.two_portals.specs.PortalLines.{IsNewTag, are_same}
use Rattle.two_portals.proofs.Counts.{Pair, alike-same}
use Rattle.two_portals.proofs.Senders.{NameAlike, sent-alike, unknown-unnamed}

-- two tag values are of one tag, for a portal: both are ready, with one memory, and a Query of the session can't tell them apart
pub record AreTwins (session : ℕ) (joint alone : TagValue) : Type 0 where
  pub ready : joint.state ≡ ReadyState
  pub alone_ready : alone.state ≡ ReadyState
  pub memory : joint.body.memory ≡ alone.body.memory
  pub sl : joint.body.flags.sl ≡ alone.body.flags.sl
  pub side : side_of joint.body.flags session ≡ side_of alone.body.flags session

named-alike : (spec : SpecValue) (joint alone : TagValue) → AreTwins spec.session joint alone → is_named spec joint ≡ is_named spec alone
named-alike spec joint alone twins = rw (twins.sl, twins.side) refl

-- the flags that a round of a portal leaves are those of twins again
sl-kept : (listed : Bool) (session : ℕ) (flags : Flags) → (session ≡ 2) ⊎ (session ≡ 3) → (flags_in_round session listed flags).sl ≡ flags.sl
sl-kept false session flags portal = refl
sl-kept true session flags (inl two) = rw two refl
sl-kept true session flags (inr three) = rw three refl

side-alike : (listed : Bool) (session : ℕ) (one other : Flags) → (session ≡ 2) ⊎ (session ≡ 3) → side_of one session ≡ side_of other session
    → side_of (flags_in_round session listed one) session ≡ side_of (flags_in_round session listed other) session
side-alike false session one other portal same = same
side-alike true session one other (inl two) same =
    subst (λ (s : ℕ). side_of one s ≡ side_of other s → side_of (flags_in_round s true one) s ≡ side_of (flags_in_round s true other) s) (sym two) (λ e. ap (side_after Negate) e) same
side-alike true session one other (inr three) same =
    subst (λ (s : ℕ). side_of one s ≡ side_of other s → side_of (flags_in_round s true one) s ≡ side_of (flags_in_round s true other) s) (sym three) (λ e. ap (side_after Negate) e) same

-- a round of the one portal leaves the flag of the other's session
abbrev pub KeepsSide : (session other : ℕ) → Type 0
KeepsSide session other = (listed : Bool) (flags : Flags) → side_of (flags_in_round session listed flags) other ≡ side_of flags other

pub two-keeps : KeepsSide 2 3
two-keeps true flags = refl
two-keeps false flags = refl

pub three-keeps : KeepsSide 3 2
three-keeps true flags = refl
three-keeps false flags = refl

abbrev IsPortal : ℕ → Type 0
IsPortal session = (session ≡ 2) ⊎ (session ≡ 3)

-- a round of the portal, played jointly and alone
own-twins : (spec : SpecValue) (joint alone left own : TagValue) → IsPortal spec.session → AreTwins spec.session joint alone → IsLeftByRound spec joint left → IsLeftByRound spec alone own
    → AreTwins spec.session left own
own-twins spec joint alone left own portal twins kept kept2 = record {
  ready = kept.state;
  alone_ready = kept2.state;
  memory = kept.memory ∙ twins.memory ∙ sym kept2.memory;
  sl =
      ap (λ (flags : Flags). flags.sl) kept.flags ∙ sl-kept (is_named spec joint) spec.session joint.body.flags portal ∙ twins.sl
      ∙ sym (ap (λ (flags : Flags). flags.sl) kept2.flags ∙ sl-kept (is_named spec alone) spec.session alone.body.flags portal);
  side =
      ap (λ (flags : Flags). side_of flags spec.session) kept.flags
      ∙ side-alike (is_named spec joint) spec.session joint.body.flags alone.body.flags portal twins.side
      ∙ ap (λ (named : Bool). side_of (flags_in_round spec.session named alone.body.flags) spec.session) (named-alike spec joint alone twins)
      ∙ sym (ap (λ (flags : Flags). side_of flags spec.session) kept2.flags);
}

-- a round of the other portal
other-twins : (spec : SpecValue) (session : ℕ) (joint alone left : TagValue) → IsPortal spec.session → KeepsSide spec.session session → AreTwins session joint alone → IsLeftByRound spec joint left
    → AreTwins session left alone
other-twins spec session joint alone left portal keeps twins kept = record {
  ready = kept.state;
  alone_ready = twins.alone_ready;
  memory = kept.memory ∙ twins.memory;
  sl = ap (λ (flags : Flags). flags.sl) kept.flags ∙ sl-kept (is_named spec joint) spec.session joint.body.flags portal ∙ twins.sl;
  side = ap (λ (flags : Flags). side_of flags session) kept.flags ∙ keeps (is_named spec joint) joint.body.flags ∙ twins.side;
}

-- all tags of two halls
abbrev pub AreAllTwins : ℕ → List TagValue → List TagValue → Type 0
AreAllTwins session joint alone = AllZip (AreTwins session) joint alone

pub own-round : (spec : SpecValue) (joint alone left own : List TagValue) → IsPortal spec.session → AreAllTwins spec.session joint alone → AllZip (IsLeftByRound spec) joint left
    → AllZip (IsLeftByRound spec) alone own → AreAllTwins spec.session left own
own-round spec [] [] [] [] portal twins kept kept2 = twins
own-round spec (tag ∷ joint) (tag2 ∷ alone) (tag3 ∷ left) (tag4 ∷ own) portal twins kept kept2 =
    (own-twins spec tag tag2 tag3 tag4 portal twins.0 kept.0 kept2.0, own-round spec joint alone left own portal twins.1 kept.1 kept2.1)
own-round spec joint alone left own portal twins kept kept2 = absurd (search rules)

pub other-round : (spec : SpecValue) (session : ℕ) (joint alone left : List TagValue) → IsPortal spec.session → KeepsSide spec.session session → AreAllTwins session joint alone
    → AllZip (IsLeftByRound spec) joint left → AreAllTwins session left alone
other-round spec session [] [] [] portal keeps twins kept = twins
other-round spec session (tag ∷ joint) (tag2 ∷ alone) (tag3 ∷ left) portal keeps twins kept =
    (other-twins spec session tag tag2 tag3 portal keeps twins.0 kept.0, other-round spec session joint alone left portal keeps twins.1 kept.1)
other-round spec session joint alone left portal keeps twins kept = absurd (search rules)

new-twins : (session : ℕ) (tag : TagValue) → IsNewTag tag → AreTwins session tag tag
new-twins session tag fresh = record { ready = fresh.state; alone_ready = fresh.state; memory = refl; sl = refl; side = refl }

pub all-new-twins : (session : ℕ) (tags : List TagValue) → All IsNewTag tags → AreAllTwins session tags tags
all-new-twins session [] fresh = tt
all-new-twins session (tag ∷ tags) fresh = (new-twins session tag (All-head IsNewTag tag tags fresh), all-new-twins session tags (All-tail IsNewTag tag tags fresh))

pub joint-ready : (session : ℕ) (joint alone : List TagValue) → AreAllTwins session joint alone → AreReady joint
joint-ready session [] [] twins = All-nil (λ tag. tag.state ≡ ReadyState)
joint-ready session (tag ∷ joint) (tag2 ∷ alone) twins = All-cons (λ tag. tag.state ≡ ReadyState) tag joint twins.0.ready (joint-ready session joint alone twins.1)
joint-ready session joint alone twins = absurd twins

pub alone-ready : (session : ℕ) (joint alone : List TagValue) → AreAllTwins session joint alone → AreReady alone
alone-ready session [] [] twins = All-nil (λ tag. tag.state ≡ ReadyState)
alone-ready session (tag ∷ joint) (tag2 ∷ alone) twins = All-cons (λ tag. tag.state ≡ ReadyState) tag2 alone twins.0.alone_ready (alone-ready session joint alone twins.1)
alone-ready session joint alone twins = absurd twins

-- twins have one memory
one-pair : (session : ℕ) (joint alone : TagValue) → AreTwins session joint alone → pc_and_epc_of joint ≡ pc_and_epc_of alone
one-pair session joint alone twins = rw twins.memory refl

same-pairs : (session : ℕ) (joint alone : List TagValue) → AreAllTwins session joint alone → map pc_and_epc_of joint ≡ map pc_and_epc_of alone
same-pairs session [] [] twins = refl
same-pairs session (tag ∷ joint) (tag2 ∷ alone) twins =
    let here = one-pair session tag tag2 twins.0 in
    let later = same-pairs session joint alone twins.1 in
    λ i. here i ∷ later i
same-pairs session joint alone twins = absurd twins

-- the tags of a number in both halls, or that there are none
data AreAt (session : ℕ) (joint alone : List TagValue) (number : ℕ) : Type 0 where
  both : (tag own : TagValue) → slice_get joint number ≡ Some tag → slice_get alone number ≡ Some own → AreTwins session tag own → AreAt session joint alone number
  none : slice_get joint number ≡ None → slice_get alone number ≡ None → AreAt session joint alone number

twins-at : (session : ℕ) (joint alone : List TagValue) (number : ℕ) → AreAllTwins session joint alone → AreAt session joint alone number
twins-at session [] [] number twins = none refl refl
twins-at session (tag ∷ joint) (tag2 ∷ alone) zero twins = both tag tag2 refl refl twins.0
twins-at session (tag ∷ joint) (tag2 ∷ alone) (suc number) twins =
    elim (twins-at session joint alone number twins.1) [
      | both one own here there alike ↦ both one own here there alike
      | none here there ↦ none here there
    ]
twins-at session joint alone number twins = absurd twins

no-pair : (tags : List TagValue) (number : ℕ) → slice_get tags number ≡ None → slice_get (map pc_and_epc_of tags) number ≡ None
no-pair tags number unknown = slice_get-map pc_and_epc_of tags number ∙ ap (option_map pc_and_epc_of) unknown

-- a round that ended quiet, with what holds of every round
pub record IsWholeRound (tags : List TagValue) (spec : SpecValue) (round : Played) : Type 0 where
  pub lists : ListsItsTags tags round
  pub quiet : IsQuietRound tags spec round

-- where a round of the portal ended quiet jointly and alone, it named the same tags both times ..
pub names-alike : (spec : SpecValue) (joint alone : List TagValue) (round own : Played) → AreAllTwins spec.session joint alone
    → IsWholeRound joint spec round → IsWholeRound alone spec own → NameAlike round.senders own.senders
names-alike spec joint alone round own twins whole whole2 = λ number.
    elim (twins-at spec.session joint alone number twins) [
      | both tag tag2 here there alike ↦
          whole.quiet.named number tag here ∙ ap (λ (named : Bool). if named then 1 else 0) (named-alike spec tag tag2 alike) ∙ sym (whole2.quiet.named number tag2 there)
      | none here there ↦
          unknown-unnamed (map pc_and_epc_of joint) round.pairs round.senders number whole.lists.each (no-pair joint number here)
          ∙ sym (unknown-unnamed (map pc_and_epc_of alone) own.pairs own.senders number whole2.lists.each (no-pair alone number there))
    ]

-- ... and so lists the same
pub round-same : (spec : SpecValue) (joint alone : List TagValue) (round own : Played) → AreAllTwins spec.session joint alone → IsWholeRound joint spec round → IsWholeRound alone spec own
    → are_same round.pairs own.pairs ≡ true
round-same spec joint alone round own twins whole whole2 =
    alike-same round.pairs own.pairs (sent-alike (map pc_and_epc_of joint) round.pairs own.pairs round.senders own.senders whole.lists.each
    (subst (λ (pairs : List Pair). AllZip (λ sent number. slice_get pairs number ≡ Some sent) own.pairs own.senders) (sym (same-pairs spec.session joint alone twins)) whole2.lists.each)
    (names-alike spec joint alone round own twins whole whole2))
