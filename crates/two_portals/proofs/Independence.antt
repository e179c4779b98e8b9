-- Where every round of two portals ended quiet, each lists jointly what it lists alone.
use Rattle.std.proofs.Common.{◌≡◌, inl, inr, ℕ, ◌+◌, true, false, List, [], ◌∷◌, ◌++◌, refl, sym, ap, ◌∙◌, subst, eq-eqb}
use Rattle.std.specs.Prelude.{◌==◌, ◌&&◌, All}
use Rattle.std.specs.Cmp.{first_so, second_so}
use Rattle.std.proofs.lemmas.List.Elements.{All-head, All-tail, All-cons, All-nil, All-append}
use Rattle.q_round.specs.SpecValue.{SpecValue, IsLegalSpec}
use Rattle.q_round.specs.declared.round.RoundEnd.{RoundEnd}
use Rattle.q_round.specs.declared.round.RoundEnd.TheVariants as ends
use Rattle.tag_machine.specs.TagValue.{TagValue}
use Rattle.two_portals.specs.Played.{AreReady, IsQuietRound, ListsItsTags}
use Rattle.two_portals.specs.PortalLines.{AreIndependent, IsNewTag, IsOfPortal, is_of_session, ended_quiet, portal_line_of, lines_of_portal, portal_lines}
use Rattle.two_portals.specs.declared.portal_line.PortalLine.{PortalLine}
use Rattle.two_portals.proofs.Lines.{Plays, SendersAgree, lines_from, other-line, other-senders, own-line, own-senders}
use Rattle.two_portals.proofs.Senders.{NameAlike}
use Rattle.two_portals.proofs.Twins.{AreAllTwins, IsWholeRound, KeepsSide, all-new-twins, alone-ready, joint-ready, names-alike, other-round, own-round, round-same, three-keeps, two-keeps}

ended-quiet : (end : RoundEnd) → ended_quiet end ≡ true → end ≡ ends.Quiet
ended-quiet ends.Quiet quiet = refl
ended-quiet ends.Limit quiet = absurd (cc)

-- what is known of rounds
pub record Laws (played : Plays) : Type 0 where
  pub senders : (before : List TagValue) (spec : SpecValue) → IsLegalSpec spec → ListsItsTags before (played before spec)
  pub quiet : (before : List TagValue) (spec : SpecValue) → IsLegalSpec spec → AreReady before → (played before spec).end ≡ ends.Quiet → IsQuietRound before spec (played before spec)

whole-round : (played : Plays) → Laws played → (tags : List TagValue) (spec : SpecValue) → IsLegalSpec spec → AreReady tags → ended_quiet (played tags spec).end ≡ true
    → IsWholeRound tags spec (played tags spec)
whole-round played laws tags spec legal ready quiet = record {
  lists = laws.senders tags spec legal;
  quiet = laws.quiet tags spec legal ready (ended-quiet (played tags spec).end quiet);
}

abbrev pub AllQuiet : List PortalLine → Type 0
AllQuiet lines = All (λ line. line.quiet ≡ true) lines

abbrev pub AllSame : List PortalLine → Type 0
AllSame lines = All (λ line. line.same ≡ true) lines

-- how rounds are played, and two portals by the sessions of their rounds
record Sides : Type 0 where
  played : Plays
  laws : Laws played
  session : ℕ
  other : ℕ
  apart : (session == other) ≡ false
  apart2 : (other == session) ≡ false
  keeps : KeepsSide session other
  keeps2 : KeepsSide other session

-- where the rounds of both stand: the tags that they share, those that each reads alone, and the numbers of their next lines
record PortalsAt : Type 0 where
  joint : List TagValue
  alone : List TagValue
  beside : List TagValue
  number : ℕ
  number_beside : ℕ

-- the tags that each portal reads alone are twins of those that they share
record Shared (sides : Sides) (at : PortalsAt) : Type 0 where
  own : AreAllTwins sides.session at.joint at.alone
  others : AreAllTwins sides.other at.joint at.beside

-- a round of the first portal
record IsOwnRound (sides : Sides) (spec : SpecValue) : Type 0 where
  legal : IsLegalSpec spec
  portal : IsOfPortal spec
  session : spec.session ≡ sides.session

-- where the rounds stand behind such a round
abbrev behind_own : Sides → SpecValue → PortalsAt → PortalsAt
behind_own sides spec at =
    record at { joint = (sides.played at.joint spec).tags; alone = (sides.played at.alone spec).tags; number = at.number + 1 }

-- one round: it lists the same, and leaves the tags shared
record IsSameRound (sides : Sides) (spec : SpecValue) (at : PortalsAt) : Type 0 where
  same : (portal_line_of sides.session 0 (sides.played at.joint spec) (sides.played at.alone spec)).same ≡ true
  senders : NameAlike (sides.played at.joint spec).senders (sides.played at.alone spec).senders
  shared : Shared sides (behind_own sides spec at)

one-round : (sides : Sides) (spec : SpecValue) (at : PortalsAt) → IsOwnRound sides spec → Shared sides at
    → (ended_quiet (sides.played at.joint spec).end && ended_quiet (sides.played at.alone spec).end) ≡ true → IsSameRound sides spec at
one-round sides spec at is shared quiet =
    let joint = sides.played at.joint spec in
    let alone = sides.played at.alone spec in
    let twins = subst (λ (s : ℕ). AreAllTwins s at.joint at.alone) (sym is.session) shared.own in
    let round = whole-round sides.played sides.laws at.joint spec is.legal (joint-ready spec.session at.joint at.alone twins) (first_so (ended_quiet joint.end) (ended_quiet alone.end) quiet) in
    let own = whole-round sides.played sides.laws at.alone spec is.legal (alone-ready spec.session at.joint at.alone twins) (second_so (ended_quiet joint.end) (ended_quiet alone.end) quiet) in
    record {
      same = round-same spec at.joint at.alone joint alone twins round own;
      senders = names-alike spec at.joint at.alone joint alone twins round own;
      shared = record {
        own = subst (λ (s : ℕ). AreAllTwins s joint.tags alone.tags) is.session
            (own-round spec at.joint at.alone joint.tags alone.tags is.portal twins round.quiet.left own.quiet.left);
        others = other-round spec sides.other at.joint at.beside joint.tags is.portal (subst (λ (s : ℕ). KeepsSide s sides.other) (sym is.session) sides.keeps) shared.others round.quiet.left;
      };
    }

-- the lines of both portals, from where their rounds stand
record AreSame (sides : Sides) (at : PortalsAt) (specs : List SpecValue) : Type 0 where
  own : AllSame (lines_from sides.played sides.session at.number at.joint at.alone specs)
  others : AllSame (lines_from sides.played sides.other at.number_beside at.joint at.beside specs)
  senders : SendersAgree sides.played sides.session at.joint at.alone specs
  others_senders : SendersAgree sides.played sides.other at.joint at.beside specs

record AreQuiet (sides : Sides) (at : PortalsAt) (specs : List SpecValue) : Type 0 where
  own : AllQuiet (lines_from sides.played sides.session at.number at.joint at.alone specs)
  others : AllQuiet (lines_from sides.played sides.other at.number_beside at.joint at.beside specs)

-- where all rounds end quiet, each lists the same
abbrev SameWhereQuiet : Sides → PortalsAt → List SpecValue → Type 0
SameWhereQuiet sides at specs = Shared sides at → AreQuiet sides at specs → AreSame sides at specs

-- a round of the first portal, behind which all lines are the same
own-round-first : (sides : Sides) (at : PortalsAt) (spec : SpecValue) (specs : List SpecValue) → IsOwnRound sides spec
    → SameWhereQuiet sides (behind_own sides spec at) specs → SameWhereQuiet sides at (spec ∷ specs)
own-round-first sides at spec specs is go_on shared quiet =
    let played = sides.played in
    let mine = eq-eqb spec.session sides.session is.session in
    let theirs : is_of_session sides.other spec ≡ false = ap (λ (s : ℕ). s == sides.other) is.session ∙ sides.apart in
    let line = portal_line_of sides.session at.number (played at.joint spec) (played at.alone spec) in
    let rest = lines_from played sides.session (at.number + 1) (played at.joint spec).tags (played at.alone spec).tags specs in
    let lines = own-line played sides.session at.number at.joint at.alone spec specs mine in
    let lines2 = other-line played sides.other at.number_beside at.joint at.beside spec specs theirs in
    let told = subst AllQuiet lines quiet.own in
    let round = one-round sides spec at is shared (All-head (λ (each : PortalLine). each.quiet ≡ true) line rest told) in
    let later = go_on round.shared (record {
      own = All-tail (λ (each : PortalLine). each.quiet ≡ true) line rest told;
      others = subst AllQuiet lines2 quiet.others;
    }) in
    record {
      own = subst AllSame (sym lines) (All-cons (λ (each : PortalLine). each.same ≡ true) line rest round.same later.own);
      others = subst AllSame (sym lines2) later.others;
      senders = own-senders played sides.session at.joint at.alone spec specs mine round.senders later.senders;
      others_senders = other-senders played sides.other at.joint at.beside spec specs theirs later.others_senders;
    }

-- portal 2 as the first
abbrev sides_of : (played : Plays) → Laws played → Sides
sides_of played laws = record { played = played; laws = laws; session = 2; other = 3; apart = refl; apart2 = refl; keeps = two-keeps; keeps2 = three-keeps }

-- the other portal as the first
abbrev turned : Sides → Sides
turned sides = record {
  played = sides.played;
  laws = sides.laws;
  session = sides.other;
  other = sides.session;
  apart = sides.apart2;
  apart2 = sides.apart;
  keeps = sides.keeps2;
  keeps2 = sides.keeps;
}

abbrev turned_at : PortalsAt → PortalsAt
turned_at at = record { joint = at.joint; alone = at.beside; beside = at.alone; number = at.number_beside; number_beside = at.number }

same-turned : (sides : Sides) (at : PortalsAt) (specs : List SpecValue) → SameWhereQuiet sides at specs → SameWhereQuiet (turned sides) (turned_at at) specs
same-turned sides at specs same shared quiet =
    let told = same (record { own = shared.others; others = shared.own }) (record { own = quiet.others; others = quiet.own }) in
    record { own = told.others; others = told.own; senders = told.others_senders; others_senders = told.senders }

both-same : (played : Plays) (laws : Laws played) (specs : List SpecValue) (at : PortalsAt) → All IsLegalSpec specs → All IsOfPortal specs → SameWhereQuiet (sides_of played laws) at specs
both-same played laws [] at legal portal shared quiet = record {
  own = All-nil (λ (each : PortalLine). each.same ≡ true);
  others = All-nil (λ (each : PortalLine). each.same ≡ true);
  senders = tt;
  others_senders = tt;
}
both-same played laws (spec ∷ specs) at legal portal shared quiet =
    let two = sides_of played laws in
    let three = turned two in
    let legal_here = All-head IsLegalSpec spec specs legal in
    let later : (behind : PortalsAt) → SameWhereQuiet two behind specs =
    λ behind. both-same played laws specs behind (All-tail IsLegalSpec spec specs legal) (All-tail IsOfPortal spec specs portal) in
    elim (All-head IsOfPortal spec specs portal) [
      | inl is ↦ own-round-first two at spec specs (record { legal = legal_here; portal = inl is; session = is }) (later (behind_own two spec at)) shared quiet
      | inr is ↦
          let behind = behind_own three spec (turned_at at) in
          same-turned three (turned_at at) (spec ∷ specs)
          (own-round-first three (turned_at at) spec specs (record { legal = legal_here; portal = inr is; session = is })
          (same-turned two (turned_at behind) specs (later (turned_at behind)))) shared quiet
    ]

-- all of a list is all of its front, and of what follows it
all-front : (P : PortalLine → Type 0) (front back : List PortalLine) → All P (front ++ back) → All P front × All P back
all-front P [] back all = (All-nil P, all)
all-front P (line ∷ front) back all =
    let later = all-front P front back (All-tail P line (front ++ back) all) in
    (All-cons P line front (All-head P line (front ++ back) all) later.0, later.1)

-- two portals that share new tags
abbrev at_first : List TagValue → PortalsAt
at_first tags = record { joint = tags; alone = tags; beside = tags; number = 1; number_beside = 1 }

all-same : (played : Plays) (laws : Laws played) (specs : List SpecValue) (tags : List TagValue) → All IsLegalSpec specs → All IsOfPortal specs → All IsNewTag tags
    → AllQuiet (portal_lines played tags specs) → AreSame (sides_of played laws) (at_first tags) specs
all-same played laws specs tags legal portal fresh quiet =
    let both = all-front (λ (each : PortalLine). each.quiet ≡ true) (lines_of_portal 2 played tags specs) (lines_of_portal 3 played tags specs) quiet in
    both-same played laws specs (at_first tags) legal portal (record { own = all-new-twins 2 tags fresh; others = all-new-twins 3 tags fresh }) (record { own = both.0; others = both.1 })

pub new-tags-same : (played : Plays) → Laws played → (specs : List SpecValue) (tags : List TagValue) → All IsLegalSpec specs → All IsOfPortal specs → All IsNewTag tags
    → AreIndependent (portal_lines played tags specs)
new-tags-same played laws specs tags legal portal fresh = λ quiet.
    let same = all-same played laws specs tags legal portal fresh quiet in
    All-append (λ (each : PortalLine). each.same ≡ true) (lines_of_portal 2 played tags specs) (lines_of_portal 3 played tags specs) same.own same.others

-- both portals list jointly the tags that they list alone
pub new-tags-agree : (played : Plays) → Laws played → (specs : List SpecValue) (tags : List TagValue) → All IsLegalSpec specs → All IsOfPortal specs → All IsNewTag tags
    → AllQuiet (portal_lines played tags specs) → SendersAgree played 2 tags tags specs × SendersAgree played 3 tags tags specs
new-tags-agree played laws specs tags legal portal fresh quiet =
    let same = all-same played laws specs tags legal portal fresh quiet in
    (same.senders, same.others_senders)
