-- What is told one after another, and what was heard where a run is cut off.
use Rattle.std.proofs.lemmas.List.{append-nil}
use Rattle.air_world.proofs.Names.{◌≡◌, ℕ, ◌≤◌, List, ◌∷◌, ◌++◌, Option, Some, Result, Ok, Err, sym, ◌∙◌, ap, subst, arith, append_assoc, [], AirValue, AreEntriesLeft, Item, exchanges_in, rounds_in}
use Rattle.air_world.proofs.Names.{tags_behind, Begun, IsUnderway, RunValue, StandsAt, StandsOrFails, counted_on, EndsOrFails, IsCut, IsCutOff, IsToldWhole, lines_to_tell, ReportLine, PlayFault, Grows}
use Rattle.air_world.proofs.Names.{added_lines, past_lines-more, item_lines, IfErr, IsErrAnd}

-- fewer exchanges more fit as well
pub underway-fewer : {A : Type 0} {hears : A → List ReportLine → A → Type 0} {more : ℕ} {air : AirValue} {run : RunValue} {report : A} (few : ℕ) → few ≤ more → IsUnderway hears more air run report
    → IsUnderway hears few air run report
underway-fewer few fewer r = record { begun = r.begun; past = r.past; stands = r.stands; room = omega (arith, r.room) }

-- nothing is told
pub tells-nothing : {A : Type 0} {hears : A → List ReportLine → A → Type 0} {now : A} → IsToldWhole hears [] now now
tells-nothing {hears} {now} = record { on = λ first before heard. subst (λ (lines : List ReportLine). hears first lines now) (sym (append-nil before)) heard }

-- the same lines
pub tells-same : {A : Type 0} {hears : A → List ReportLine → A → Type 0} {lines same : List ReportLine} {old new : A} → lines ≡ same → IsToldWhole hears lines old new → IsToldWhole hears same old new
tells-same {hears} {old} {new} is told = subst (λ (l : List ReportLine). IsToldWhole hears l old new) is told

-- lines are told one after another
pub tells-then : {A : Type 0} {hears : A → List ReportLine → A → Type 0} {lines more : List ReportLine} {old between new : A}
    → IsToldWhole hears lines old between → IsToldWhole hears more between new → IsToldWhole hears (lines ++ more) old new
tells-then {hears} {lines} {more} {new} told then = record {
  on = λ first before heard. subst (λ (all : List ReportLine). hears first all new) (append_assoc before lines more) (then.on first (before ++ lines) (told.on first before heard));
}

-- a front of lines is a front of all that begin with them
pub cut-longer : {Heard : List ReportLine → Type 0} {Cause : PlayFault → Type 0} {lines whole : List ReportLine} {fault : PlayFault} (more : List ReportLine) → whole ≡ lines ++ more
    → IsCut Heard Cause lines fault → IsCut Heard Cause whole fault
cut-longer more joined cut = record {
  front = cut.front;
  rest = cut.rest ++ more;
  split = joined ∙ ap (λ (lines : List ReportLine). lines ++ more) cut.split ∙ append_assoc cut.front cut.rest more;
  heard = cut.heard;
  cause = cut.cause;
}

-- the same, of pasts
pub cut-past : {Heard : List ReportLine → Type 0} {Cause : PlayFault → Type 0} {fault : PlayFault} {A : Type 0} (begun : Begun A) {past longer : List Item} → Grows past longer
    → IsCut Heard Cause (lines_to_tell begun.start past) fault → IsCut Heard Cause (lines_to_tell begun.start longer) fault
cut-past begun {past} grows cut =
    cut-longer (added_lines begun.start.link grows.own) (ap (λ (items : List Item). lines_to_tell begun.start items) grows.is ∙ past_lines-more begun.start.link grows.own past) cut

-- a fault that is handed on
pub ends-cut : {T : Type 0} (r : Result T PlayFault) (met : PlayFault) (Whole : Type 0) (CutOff : PlayFault → Type 0) → IsErrAnd r (λ fault. fault ≡ met) → CutOff met → EndsOrFails r Whole CutOff
ends-cut (Ok done) met Whole CutOff is cut = absurd is
ends-cut (Err fault) met Whole CutOff is cut = subst CutOff (sym is) cut

-- a run is cut off behind lines that were heard whole
pub cut-behind : {A : Type 0} {hears : A → List ReportLine → A → Type 0} {begun : Begun A} {past : List Item} {air : AirValue} {run : RunValue} {report : A} (failed : A → Option PlayFault)
    (fault : PlayFault) → StandsAt hears begun past air run report → failed report ≡ Some fault → IsCutOff hears failed begun.first report (lines_to_tell begun.start past) fault
cut-behind {begun} {past} failed fault stands cause = record {
  front = lines_to_tell begun.start past;
  rest = [];
  split = sym (append-nil (lines_to_tell begun.start past));
  heard = stands.heard;
  cause = cause;
}

-- what stands where a run goes on, and is cut off behind it where it doesn't
pub ends-checked : {A T : Type 0} {hears : A → List ReportLine → A → Type 0} {begun : Begun A} {past : List Item} {air : AirValue} {run : RunValue} {report : A} (failed : A → Option PlayFault)
    (r : Result T PlayFault) → StandsAt hears begun past air run report → IfErr r (λ fault. failed report ≡ Some fault) → StandsOrFails hears failed r begun past air run report
ends-checked failed (Ok done) stands cause = stands
ends-checked failed (Err fault) stands cause = cut-behind failed fault stands cause

-- behind an item that is neither an exchange nor an event, whose lines were told
pub stands-told : {A : Type 0} {hears : A → List ReportLine → A → Type 0} {begun : Begun A} {past : List Item} {air : AirValue} {run after : RunValue} {report next : A} (item : Item)
    → StandsAt hears begun past air run report → IsToldWhole hears (item_lines begun.start.link item) report next → tags_behind begun.start (item ∷ past) ≡ tags_behind begun.start past
    → exchanges_in (item ∷ past) ≡ exchanges_in past → after ≡ record run { rounds = rounds_in (item ∷ past) } → StandsAt hears begun (item ∷ past) air after next
stands-told {begun} {past} {after} item stands told tags exchanges after_is =
    let was = stands.at in
    record {
      at = record {
        names = was.names;
        few = was.few;
        link = was.link;
        several = was.several;
        tags = was.tags ∙ sym tags;
        legal = was.legal;
        exchanges = was.exchanges ∙ ap (counted_on begun.earlier) (sym exchanges);
        made = ap (λ (r : RunValue). r.exchanges) after_is ∙ was.made ∙ sym exchanges;
        entries = subst (λ n. AreEntriesLeft after.entries begun.start.entries n) (sym exchanges)
            (subst (λ l. AreEntriesLeft l begun.start.entries (exchanges_in past)) (sym (ap (λ (r : RunValue). r.entries) after_is)) was.entries);
        rounds = ap (λ (r : RunValue). r.rounds) after_is;
      };
      heard = told.on begun.first (lines_to_tell begun.start past) stands.heard;
    }
