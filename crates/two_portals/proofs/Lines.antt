-- The lines of a portal, round by round.
use Rattle.std.proofs.Common.{◌≡◌, ℕ, ◌+◌, true, false, List, ◌∷◌, refl}
use Rattle.std.specs.Prelude.{filter}
use Rattle.q_round.specs.SpecValue.{SpecValue}
use Rattle.tag_machine.specs.TagValue.{TagValue}
use Rattle.two_portals.specs.Played.{Played}
use Rattle.two_portals.specs.PortalLines.{HaveTheSameSenders, is_of_session, portal_line_of, portal_lines_of, portal_rounds_of, rounds_played}
use Rattle.two_portals.proofs.Senders.{NameAlike}
use Rattle.two_portals.specs.declared.portal_line.PortalLine.{PortalLine}

-- what a round makes of tags
abbrev pub Plays : Type 0
Plays = List TagValue → SpecValue → Played

-- the lines of a portal for rounds that are still to be played, from where the tags of both halls stand, and from a number on
abbrev pub lines_from : Plays → (session number : ℕ) → (joint alone : List TagValue) → List SpecValue → List PortalLine
lines_from played session number joint alone specs =
    portal_lines_of session number (portal_rounds_of session specs (rounds_played played joint specs)) (rounds_played played alone (filter (is_of_session session) specs))

-- the next round is one of the portal ..
pub own-line : (played : Plays) (session number : ℕ) (joint alone : List TagValue) (spec : SpecValue) (specs : List SpecValue) → is_of_session session spec ≡ true
    → lines_from played session number joint alone (spec ∷ specs)
    ≡ portal_line_of session number (played joint spec) (played alone spec) ∷ lines_from played session (number + 1) (played joint spec).tags (played alone spec).tags specs
own-line played session number joint alone spec specs own = rw own refl

-- ... or of the other
pub other-line : (played : Plays) (session number : ℕ) (joint alone : List TagValue) (spec : SpecValue) (specs : List SpecValue) → is_of_session session spec ≡ false
    → lines_from played session number joint alone (spec ∷ specs) ≡ lines_from played session number (played joint spec).tags alone specs
other-line played session number joint alone spec specs other = rw other refl

-- a portal lists jointly the tags that it lists alone, in each round from where the tags of both halls stand
abbrev pub SendersAgree : Plays → (session : ℕ) → (joint alone : List TagValue) → List SpecValue → Type 0
SendersAgree played session joint alone specs =
    HaveTheSameSenders (portal_rounds_of session specs (rounds_played played joint specs)) (rounds_played played alone (filter (is_of_session session) specs))

pub own-senders : (played : Plays) (session : ℕ) (joint alone : List TagValue) (spec : SpecValue) (specs : List SpecValue) → is_of_session session spec ≡ true
    → NameAlike (played joint spec).senders (played alone spec).senders → SendersAgree played session (played joint spec).tags (played alone spec).tags specs
    → SendersAgree played session joint alone (spec ∷ specs)
own-senders played session joint alone spec specs own here later = rw own (here, later)

pub other-senders : (played : Plays) (session : ℕ) (joint alone : List TagValue) (spec : SpecValue) (specs : List SpecValue) → is_of_session session spec ≡ false
    → SendersAgree played session (played joint spec).tags alone specs → SendersAgree played session joint alone (spec ∷ specs)
other-senders played session joint alone spec specs other later = rw other later
