-- Each standing can end.
use Rattle.std.proofs.Common.{true, false, List, [], ◌∷◌, refl, arith}
use Rattle.bit_strings.specs.declared.code.Code.TheVariants.{Fm0}
use Rattle.pie_line.specs.Link.{LinkValue, IsLegalLink}
use Rattle.air_events.specs.declared.Several.TheVariants.{Break}
use Rattle.scenario_lines.specs.declared.version.Version.TheVariants.{One, Two}
use Rattle.scenario_lines.specs.declared.line.Line.{Line}
use Rattle.scenario_lines.specs.declared.line.Line.TheVariants as lines
use Rattle.scenario_lines.specs.LineForm.{IsLine}
use Rattle.scenario.specs.Draft.{DraftValue, new_draft}
use Rattle.scenario.specs.Standing.{MayStandNext, LinesLead, ScenarioStanding, begun, ended, first_head, linked, second_head, start, within}

-- some link
some_link : LinkValue
some_link = record { tari = 12500; rtcal = 31250; trcal = 50000; pw = 6250; dr = true; code = Fm0; trext = false }

some_link_is_legal : IsLegalLink some_link
unfolding some_link
some_link_is_legal = record {
  tari_range = (omega arith, omega arith);
  rtcal_range = (omega arith, omega arith);
  trcal_range = (omega arith, omega arith);
  pw_range = (omega arith, omega arith, omega arith);
}

some_link_is_line : IsLine (lines.Link some_link)
unfolding some_link
some_link_is_line = record {
  form = record { tari = omega arith; rtcal = omega arith; trcal = omega arith; pw = omega arith };
  coherent = some_link_is_legal;
}

end_follows : (draft : DraftValue) → MayStandNext (within draft) lines.End
end_follows draft =
    record { is = record { form = tt; coherent = tt }; stands = tt; room = tt; agrees = record { version = tt; copies = tt; names = tt; order = tt; once = tt } }

link_ends : LinesLead (begun One) (lines.Link some_link ∷ lines.End ∷ []) (ended (new_draft (first_head some_link)))
link_ends =
    (record { is = some_link_is_line; stands = tt; room = tt; agrees = tt }, (end_follows (new_draft (first_head some_link)), refl))

default_ends : (link : LinkValue) → LinesLead (linked link) (lines.Default Break ∷ lines.End ∷ []) (ended (new_draft (second_head link Break)))
default_ends link = (
  record { is = record { form = tt; coherent = tt }; stands = tt; room = tt; agrees = tt },
  (end_follows (new_draft (second_head link Break)), refl),
)

-- some lines lead from here to the end
pub record CanEnd (standing : ScenarioStanding) : Type 0 where
  pub more : List Line
  pub draft : DraftValue
  pub leads : LinesLead standing more (ended draft)

pub can_end : (standing : ScenarioStanding) → CanEnd standing
can_end start = record {
  more = lines.Version One ∷ lines.Link some_link ∷ lines.End ∷ [];
  draft = new_draft (first_head some_link);
  leads = (record { is = record { form = tt; coherent = tt }; stands = tt; room = tt; agrees = tt }, link_ends);
}
can_end (begun One) = record { more = lines.Link some_link ∷ lines.End ∷ []; draft = new_draft (first_head some_link); leads = link_ends }
can_end (begun Two) = record {
  more = lines.Link some_link ∷ lines.Default Break ∷ lines.End ∷ [];
  draft = new_draft (second_head some_link Break);
  leads = (record { is = some_link_is_line; stands = tt; room = tt; agrees = tt }, default_ends some_link);
}
can_end (linked link) = record { more = lines.Default Break ∷ lines.End ∷ []; draft = new_draft (second_head link Break); leads = default_ends link }
can_end (within draft) = record { more = lines.End ∷ []; draft = draft; leads = (end_follows draft, refl) }
can_end (ended draft) = record { more = []; draft = draft; leads = refl }
