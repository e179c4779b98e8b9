-- Where the rounds of two portals stand.
use Rattle.std.proofs.Common.{◌≡◌, ℕ, ◌+◌, ◌<◌, ◌≤◌, false, List, [], ◌∷◌, ◌++◌, length, get_or, drop, refl, sym, ap, ◌∙◌, subst, add-one, drop-cons, append_assoc, append-nil, eq-eqb}
use Rattle.std.specs.Prelude.{◌==◌}
use Rattle.std.proofs.lemmas.List.{drop_all}
use Rattle.q_round.specs.SpecValue.{SpecValue}
use Rattle.tag_machine.specs.TagValue.{TagValue}
use Rattle.two_portals.specs.PortalLines.{is_of_session, portal_line_of, lines_of_portal, portal_lines}
use Rattle.two_portals.specs.declared.portal_line.PortalLine.{PortalLine}
use Rattle.two_portals.proofs.Lines.{Plays, lines_from, other-line, own-line}

-- all rounds, what they make of tags, and the tags before them
pub record Course : Type 0 where
  pub played : Plays
  pub tags : List TagValue
  pub specs : List SpecValue

-- a portal: the tags that it reads alone, and its lines so far with their number
pub record Portal : Type 0 where
  pub alone : List TagValue
  pub count : ℕ
  pub lines : List PortalLine

-- the lines of a portal so far, and those of the rounds from a place on
abbrev pub AreLinesOf : Course → (session place : ℕ) → List TagValue → Portal → Type 0
AreLinesOf course session place joint portal =
    portal.lines ++ lines_from course.played session (portal.count + 1) joint portal.alone (drop place course.specs)
    ≡ lines_of_portal session course.played course.tags course.specs

-- a round at its place, which was played jointly: what it made of the tags before it
pub record JointRound (course : Course) : Type 0 where
  pub place : ℕ
  pub spec : SpecValue
  pub before : List TagValue
  pub behind : List TagValue
  pub inside : place < length course.specs
  pub is : spec ≡ get_or course.specs place spec
  pub tags : behind ≡ (course.played before spec).tags

next-spec : (course : Course) (round : JointRound course) → drop round.place course.specs ≡ round.spec ∷ drop (round.place + 1) course.specs
next-spec course round =
    drop-cons course.specs round.place round.spec round.inside ∙ (λ i. sym round.is i ∷ drop (sym (add-one round.place) i) course.specs)

-- it was played alone too, and the portal stands behind it
pub record IsPlayed (course : Course) (round : JointRound course) (portal behind : Portal) : Type 0 where
  pub alone : behind.alone ≡ (course.played portal.alone round.spec).tags
  pub count : behind.count ≡ portal.count + 1
  pub lines : behind.lines ≡ portal.lines ++ portal_line_of round.spec.session (portal.count + 1) (course.played round.before round.spec) (course.played portal.alone round.spec) ∷ []

own-here : (course : Course) (round : JointRound course) (portal behind : Portal) → AreLinesOf course round.spec.session round.place round.before portal
    → IsPlayed course round portal behind → AreLinesOf course round.spec.session (round.place + 1) round.behind behind
own-here course round portal behind so_far is =
    let played = course.played in
    let spec = round.spec in
    let line = portal_line_of spec.session (portal.count + 1) (played round.before spec) (played portal.alone spec) in
    let rest = drop (round.place + 1) course.specs in
    let later = lines_from played spec.session (portal.count + 1 + 1) (played round.before spec).tags (played portal.alone spec).tags rest in
    (λ i. is.lines i ++ lines_from played spec.session (is.count i + 1) (round.tags i) (is.alone i) rest)
    ∙ append_assoc portal.lines (line ∷ []) later
    ∙ ap (λ (lines : List PortalLine). portal.lines ++ lines)
    (sym (own-line played spec.session (portal.count + 1) round.before portal.alone spec rest (eq-eqb spec.session spec.session refl)))
    ∙ ap (λ (specs : List SpecValue). portal.lines ++ lines_from played spec.session (portal.count + 1) round.before portal.alone specs) (sym (next-spec course round)) ∙ so_far

-- behind a round of the portal ..
pub own-more : (course : Course) (session : ℕ) (round : JointRound course) (portal behind : Portal) → AreLinesOf course session round.place round.before portal → round.spec.session ≡ session
    → IsPlayed course round portal behind → AreLinesOf course session (round.place + 1) round.behind behind
own-more course session round portal behind so_far own is =
    subst (λ (s : ℕ). AreLinesOf course s (round.place + 1) round.behind behind) own
    (own-here course round portal behind (subst (λ (s : ℕ). AreLinesOf course s round.place round.before portal) (sym own) so_far) is)

-- ... and of the other
pub other-more : (course : Course) (session : ℕ) (round : JointRound course) (portal : Portal) → AreLinesOf course session round.place round.before portal
    → is_of_session session round.spec ≡ false → AreLinesOf course session (round.place + 1) round.behind portal
other-more course session round portal so_far other =
    let rest = drop (round.place + 1) course.specs in
    ap (λ (tags : List TagValue). portal.lines ++ lines_from course.played session (portal.count + 1) tags portal.alone rest) round.tags
    ∙ ap (λ (lines : List PortalLine). portal.lines ++ lines) (sym (other-line course.played session (portal.count + 1) round.before portal.alone round.spec rest other))
    ∙ ap (λ (specs : List SpecValue). portal.lines ++ lines_from course.played session (portal.count + 1) round.before portal.alone specs) (sym (next-spec course round)) ∙ so_far

-- behind all rounds
all-lines : (course : Course) (session place : ℕ) (joint : List TagValue) (portal : Portal) → AreLinesOf course session place joint portal → length course.specs ≤ place
    → portal.lines ≡ lines_of_portal session course.played course.tags course.specs
all-lines course session place joint portal so_far over =
    sym (append-nil portal.lines)
    ∙ ap (λ (specs : List SpecValue). portal.lines ++ lines_from course.played session (portal.count + 1) joint portal.alone specs) (sym (drop_all place course.specs over)) ∙ so_far

-- the lines of the one portal, and then those of the other
pub both-told : (course : Course) (place : ℕ) (joint : List TagValue) (portal2 portal3 : Portal) → AreLinesOf course 2 place joint portal2 → AreLinesOf course 3 place joint portal3
    → length course.specs ≤ place → portal2.lines ++ portal3.lines ≡ portal_lines course.played course.tags course.specs
both-told course place joint portal2 portal3 lines lines3 over =
    let two = all-lines course 2 place joint portal2 lines over in
    let three = all-lines course 3 place joint portal3 lines3 over in
    (λ i. two i ++ three i)

-- whose round it is, by its session
pub not-of : (session other : ℕ) (spec : SpecValue) → spec.session ≡ other → (other == session) ≡ false → is_of_session session spec ≡ false
not-of session other spec is apart = ap (λ (s : ℕ). s == session) is ∙ apart
