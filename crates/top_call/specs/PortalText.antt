-- Profile: what is written of two portals: a line for each round of each portal, and then the last line.
use Rattle.std.specs.Prelude.{ℕ, Bool, true, false, List, [], ◌∷◌, ◌++◌, codes}
use Rattle.std.specs.Fmt.{decimal}
use Rattle.std.specs.List.{flat_map}
use Rattle.text_fields.specs.Lines.{line_feed, line_with}
use Rattle.two_portals.specs.declared.portal_line.PortalLine.{PortalLine}

-- whether the round ended quiet jointly and alone
abbrev pub quiet_word : Bool → List ℕ
quiet_word true = codes "quiet"
quiet_word false = codes "limit"

-- whether the same was listed
abbrev pub mark_word : Bool → List ℕ
mark_word true = codes "same"
mark_word false = codes "other"

-- the line of a round, with its line feed
abbrev pub portal_line_text : PortalLine → List ℕ
portal_line_text line =
    line_with (codes "portal" ∷ decimal line.session ∷ decimal line.number ∷ decimal line.joint ∷ decimal line.alone ∷ quiet_word line.quiet ∷ mark_word line.same ∷ [])
    ++ line_feed ∷ []

-- the lines, and the last one
abbrev pub portals_text : List PortalLine → List ℕ
portals_text lines = flat_map portal_line_text lines ++ codes "done" ++ line_feed ∷ []
