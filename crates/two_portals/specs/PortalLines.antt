-- Profile: the lines of two portals, which share tags and take turns by whole rounds. Portal 2 goes by session S2, portal 3 by session
-- S3. Each round of a portal is told as it went with the rounds of the other portal between, and as it would have gone without them.
use Rattle.std.specs.Prelude.{◌≡◌, ℕ, ◌+◌, ◌==◌, ◌&&◌, ◌⊎◌, Bool, true, false, List, [], ◌∷◌, ◌++◌, length, filter, count_by, All, if◌then◌else◌}
use Rattle.std.specs.List.{AllZip}
use Rattle.q_round.specs.SpecValue.{SpecValue}
use Rattle.q_round.specs.declared.round.RoundEnd.{RoundEnd}
use Rattle.q_round.specs.declared.round.RoundEnd.TheVariants as ends
use Rattle.reply_grammar.specs.PcAndEpc.{same_pair}
use Rattle.session_flags.specs.Flags.{new_flags}
use Rattle.tag_machine.specs.TagValue.{TagValue, ReadyState}
use Rattle.two_portals.specs.Played.{Played, times}
use Rattle.two_portals.specs.declared.portal_line.PortalLine.{PortalLine}

-- what each of these rounds lists, how it ends and what it leaves, where they are played one after the other
abbrev pub rounds_played : (List TagValue → SpecValue → Played) → List TagValue → List SpecValue → List Played
rounds_played played tags [] = []
rounds_played played tags (spec ∷ specs) = let round = played tags spec in round ∷ rounds_played played round.tags specs

-- a round is one of a portal: it is of the portal's session
abbrev pub is_of_session : ℕ → SpecValue → Bool
is_of_session session spec = spec.session == session

-- of rounds with these parameters, those of a portal
abbrev pub portal_rounds_of : ℕ → List SpecValue → List Played → List Played
portal_rounds_of session [] rounds = []
portal_rounds_of session (spec ∷ specs) [] = []
portal_rounds_of session (spec ∷ specs) (round ∷ rounds) =
    (if is_of_session session spec then round ∷ portal_rounds_of session specs rounds else portal_rounds_of session specs rounds)

-- after a whole frame of silent slots, and not by its limit
abbrev pub ended_quiet : RoundEnd → Bool
ended_quiet ends.Quiet = true
ended_quiet ends.Limit = false

-- each of the first pairs stands in both lists equally often
abbrev pub agree_on : (pairs one other : List (ℕ × List ℕ)) → Bool
agree_on [] one other = true
agree_on (pair ∷ pairs) one other = count_by (same_pair pair) one == count_by (same_pair pair) other && agree_on pairs one other

-- each pair stands in both lists equally often: sorted, both lists are equal
abbrev pub are_same : (one other : List (ℕ × List ℕ)) → Bool
are_same one other = agree_on (one ++ other) one other

-- the line of a round of a portal, as it went jointly and alone
abbrev pub portal_line_of : (session number : ℕ) → (joint alone : Played) → PortalLine
portal_line_of session number joint alone = record {
  session = session;
  number = number;
  joint = length joint.pairs;
  alone = length alone.pairs;
  quiet = ended_quiet joint.end && ended_quiet alone.end;
  same = are_same joint.pairs alone.pairs;
}

-- the lines of the rounds of a portal, numbered from a number on, as they went jointly and alone
abbrev pub portal_lines_of : (session number : ℕ) → (joint alone : List Played) → List PortalLine
portal_lines_of session number [] alone = []
portal_lines_of session number (round ∷ joint) [] = []
portal_lines_of session number (round ∷ joint) (own ∷ alone) = portal_line_of session number round own ∷ portal_lines_of session (number + 1) joint alone

-- the lines of a portal: of its rounds among all these, and of the same rounds without the others
abbrev pub lines_of_portal : ℕ → (List TagValue → SpecValue → Played) → List TagValue → List SpecValue → List PortalLine
lines_of_portal session played tags specs =
    portal_lines_of session 1 (portal_rounds_of session specs (rounds_played played tags specs)) (rounds_played played tags (filter (is_of_session session) specs))

-- the lines of both portals, those of portal 2 first
abbrev pub portal_lines : (List TagValue → SpecValue → Played) → List TagValue → List SpecValue → List PortalLine
portal_lines played tags specs = lines_of_portal 2 played tags specs ++ lines_of_portal 3 played tags specs

-- a tag as it is before any round: ready, with the flags of a new tag
pub record IsNewTag (tag : TagValue) : Type 0 where
  pub state : tag.state ≡ ReadyState
  pub flags : tag.body.flags ≡ new_flags

-- the round is one of the two portals'
abbrev pub IsOfPortal : SpecValue → Type 0
IsOfPortal spec = (spec.session ≡ 2) ⊎ (spec.session ≡ 3)

-- the rounds of a portal, jointly and alone, list the same tags, by their numbers, each as often
abbrev pub HaveTheSameSenders : (joint alone : List Played) → Type 0
HaveTheSameSenders joint alone = AllZip (λ round own. (number : ℕ) → times number round.senders ≡ times number own.senders) joint alone

-- where every round ended quiet, each lists jointly what it lists alone
abbrev pub AreIndependent : List PortalLine → Type 0
AreIndependent lines = All (λ line. line.quiet ≡ true) lines → All (λ line. line.same ≡ true) lines
