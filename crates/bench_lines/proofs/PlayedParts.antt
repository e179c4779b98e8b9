-- How far a probe is played.
use Rattle.std.proofs.Common.{◌≡◌, ◌+◌, ◌<◌, ℕ, List, [], ◌∷◌, ◌++◌, length, Option, Result, Ok, Err, refl, sym, ◌∙◌, ap, subst, arith, append_assoc}
use Rattle.std.specs.Prelude.{IfErr, IfOk, IsErrAnd, OnOk}
use Rattle.std.specs.List.{AllZip}
use Rattle.std.proofs.lemmas.List.{append-nil}
use Rattle.air_io.specs.Flow.{Adds}
use Rattle.air_io.specs.laws.Flow.{Adds-more, Adds-nothing}
use Rattle.report_lines.specs.declared.mode.PlayFault.{PlayFault}
use Rattle.report_lines.specs.declared.mode.PlayFault.TheVariants.{Write, OutOfMemory}
use Rattle.tag_machine.specs.declared.any_tag.AnyTag.{AnyTag}
use Rattle.tag_machine.specs.Hearing.{tag_value_of}
use Rattle.tag_machine.specs.TagValue.{TagValue}
use Rattle.text_fields.specs.Lines.{text_with}
use Rattle.checked_lines.specs.laws.HandedOn.{handed_on}
use Rattle.bench_lines.specs.Stimuli.{Stimulus, StimulusEffect}
use Rattle.bench_lines.specs.ProbeAnswers.{HasEffect, TellsEffects, first_number, last_text, probe_lines_behind, outcome_of_effect, probe_text_from}
use Rattle.bench_lines.specs.Played.{AddsFrontOf, HasPlayed, WritesFrontOf, StopsIn, TellsNext, WritesPart}
use Rattle.bench_lines.specs.ProbeText.{SayStimuli}

-- whatever is done to a tag has an effect
abbrev pub HaveEffects : Type 0
HaveEffects = (said : List Stimulus) → (effects : List StimulusEffect) × AllZip HasEffect said effects

-- the text of all effects is what was written, and then that of the effects that are left
pub record GoesBy (first : TagValue) (said : List Stimulus) (text : List ℕ) (number : ℕ) (tag : TagValue) (effects : List StimulusEffect) : Type 0 where
  pub all : List StimulusEffect
  pub each : AllZip HasEffect said all
  pub told : probe_text_from first_number first all ≡ text ++ probe_text_from number tag effects

-- what a probe is played over: the tag at first, what is done to it, and what the sink was given before and how many faults it had met
pub record Beginning : Type 0 where
  pub first : TagValue
  pub said : List Stimulus
  pub written : Option (List ℕ)
  pub faults : ℕ

-- where the play stands: the number of the next line, the tag, the lines that are left, what waits to be written, and what the sink was given
pub record Place : Type 0 where
  pub number : ℕ
  pub tag : TagValue
  pub left : List (List ℕ)
  pub waiting : List ℕ
  pub written : Option (List ℕ)

abbrev pub beginning : (first : TagValue) (said : List Stimulus) (written : Option (List ℕ)) (faults : ℕ) → Beginning
beginning first said written faults = record { first = first; said = said; written = written; faults = faults }

abbrev pub place : (number : ℕ) (tag : TagValue) (left : List (List ℕ)) (waiting : List ℕ) (written : Option (List ℕ)) → Place
place number tag left waiting written = record { number = number; tag = tag; left = left; waiting = waiting; written = written }

-- The tag has come so far, the text of that was written but for what waits, and these lines are left.
pub record PlayedTo (begun : Beginning) (to : Place) : Type 0 where
  pub sent : List ℕ
  pub added : Adds begun.written to.written sent
  pub left : List Stimulus
  pub say : SayStimuli to.left left
  pub count : to.number + length left ≡ first_number + length begun.said
  pub goes : (effects : List StimulusEffect) → AllZip HasEffect left effects → GoesBy begun.first begun.said (sent ++ to.waiting) to.number to.tag effects

pub none_played : (begun : Beginning) (behind : List (List ℕ)) (waiting : List ℕ) → SayStimuli behind begun.said → waiting ≡ []
    → PlayedTo begun (place first_number begun.first behind waiting begun.written)
none_played begun behind waiting say none = record {
  sent = [];
  added = Adds-nothing begun.written;
  left = begun.said;
  say = say;
  count = refl;
  goes = λ effects each.
      record { all = effects; each = each; told = ap (λ (w : List ℕ). w ++ probe_text_from first_number begun.first effects) (sym none) };
}

-- a piece more behind a text of two parts, and a text behind it
piece_behind : (sent waiting waiting' piece rest : List ℕ) → waiting' ≡ waiting ++ piece → (sent ++ waiting) ++ (piece ++ rest) ≡ (sent ++ waiting') ++ rest
piece_behind sent waiting waiting' piece rest is =
    sym (append_assoc (sent ++ waiting) piece rest)
    ∙ ap (λ (t : List ℕ). t ++ rest) (append_assoc sent waiting piece ∙ ap (λ (t : List ℕ). sent ++ t) (sym is))

-- one effect more: what is done next is the first of what is left
pub one_played : (begun : Beginning) (from : Place) (tag : TagValue) (behind : List (List ℕ)) (waiting : List ℕ) (stimulus : Stimulus) (so_far : PlayedTo begun from)
    → ((others : List Stimulus) × (so_far.left ≡ stimulus ∷ others) × SayStimuli behind others) → TellsNext from.number from.tag stimulus tag from.waiting waiting
    → PlayedTo begun (place (from.number + 1) tag behind waiting from.written)
one_played begun from tag behind waiting stimulus so_far next told =
    let piece : List ℕ = text_with (probe_lines_behind from.number told.effect from.tag) in
    record {
      sent = so_far.sent;
      added = so_far.added;
      left = next.0;
      say = next.2;
      count = let count = so_far.count in let length_is = ap length next.1 in omega arith;
      goes = λ effects each.
          let by = so_far.goes (told.effect ∷ effects) (subst (λ (list : List Stimulus). AllZip HasEffect list (told.effect ∷ effects)) (sym next.1) (told.has, each)) in
          record {
            all = by.all;
            each = by.each;
            told = by.told
                ∙ ap (λ (t : TagValue). (so_far.sent ++ from.waiting) ++ (piece ++ probe_text_from (from.number + 1) t effects)) (sym told.becomes)
                ∙ piece_behind so_far.sent from.waiting waiting piece (probe_text_from (from.number + 1) tag effects) told.told;
          };
    }

-- what is done next was done, and what comes of it waits
pub tells_next : {E : Type 0} (result : Result AnyTag E) (from : Place) (stimulus : Stimulus) (some : (effect : StimulusEffect) × HasEffect stimulus effect) (waiting : List ℕ)
    → IfOk result (λ it. tag_value_of it ≡ (outcome_of_effect some.0 from.tag).tag) → OnOk result (waiting ≡ from.waiting ++ text_with (probe_lines_behind from.number some.0 from.tag))
    → IfOk result (λ it. TellsNext from.number from.tag stimulus (tag_value_of it) from.waiting waiting)
tells_next (Ok it) from stimulus some waiting becomes told = record { effect = some.0; has = some.1; becomes = becomes; told = told }
tells_next (Err cause) from stimulus some waiting becomes told = tt

-- nothing of what waits is written, or all of it
pub none_sent : (waiting : List ℕ) (written : Option (List ℕ)) → WritesFrontOf waiting waiting written written
none_sent waiting written = record { front = []; cut = refl; added = Adds-nothing written }

pub all_sent : {E : Type 0} (result : Result (Unit {0}) E) (waiting waiting' : List ℕ) (written written' : Option (List ℕ)) → OnOk result (Adds written written' waiting)
    → OnOk result (waiting' ≡ []) → OnOk result (WritesFrontOf waiting waiting' written written')
all_sent (Ok done) waiting waiting' written written' added empty =
    record { front = waiting; cut = sym (ap (λ (w : List ℕ). waiting ++ w) empty ∙ append-nil waiting); added = added }
all_sent (Err cause) waiting waiting' written written' added empty = tt

-- less than a page waits where nothing does
pub none_waits : {E : Type 0} (result : Result (Unit {0}) E) (waiting : List ℕ) → OnOk result (waiting ≡ []) → OnOk result (length waiting < 4096)
none_waits (Ok done) waiting empty = rw empty (omega arith)
none_waits (Err cause) waiting empty = tt

-- a front of what waits was written
pub some_sent : (begun : Beginning) (from : Place) (waiting : List ℕ) (after : Option (List ℕ)) → PlayedTo begun from → WritesFrontOf from.waiting waiting from.written after
    → PlayedTo begun (record { number = from.number; tag = from.tag; left = from.left; waiting = waiting; written = after })
some_sent begun from waiting after so_far sends = record {
  sent = so_far.sent ++ sends.front;
  added = Adds-more begun.written from.written after so_far.sent sends.front so_far.added sends.added;
  left = so_far.left;
  say = so_far.say;
  count = so_far.count;
  goes = λ effects each.
      let by = so_far.goes effects each in
      record {
        all = by.all;
        each = by.each;
        told = by.told
            ∙ ap (λ (t : List ℕ). t ++ probe_text_from from.number from.tag effects)
            (ap (λ (w : List ℕ). so_far.sent ++ w) sends.cut ∙ sym (append_assoc so_far.sent sends.front waiting));
      };
}

-- all is told: the text is what was written and what waits
pub record IsTold (begun : Beginning) (to : Place) : Type 0 where
  pub sent : List ℕ
  pub added : Adds begun.written to.written sent
  pub tells : TellsEffects begun.first begun.said (sent ++ to.waiting)

pub all_told : (begun : Beginning) (from : Place) (waiting : List ℕ) (so_far : PlayedTo begun from) → so_far.left ≡ [] → waiting ≡ from.waiting ++ last_text from.tag
    → IsTold begun (record from { waiting = waiting })
all_told begun from waiting so_far none is =
    let by = so_far.goes [] (subst (λ (list : List Stimulus). AllZip HasEffect list []) (sym none) tt) in
    record {
      sent = so_far.sent;
      added = so_far.added;
      tells = record {
        effects = by.all;
        each = by.each;
        told = sym (by.told ∙ append_assoc so_far.sent from.waiting (last_text from.tag) ∙ ap (λ (w : List ℕ). so_far.sent ++ w) (sym is));
      };
    }

-- a front of a text that is told was written
part_of : (begun : Beginning) (written after : Option (List ℕ)) (sent waiting behind : List ℕ) → Adds begun.written written sent
    → TellsEffects begun.first begun.said ((sent ++ waiting) ++ behind) → AddsFrontOf waiting written after → WritesPart begun.first begun.said begun.written after
part_of begun written after sent waiting behind added tells adds = record {
  front = sent ++ adds.front;
  rest = adds.rest ++ behind;
  tells = record {
    effects = tells.effects;
    each = tells.each;
    told = append_assoc sent adds.front (adds.rest ++ behind) ∙ ap (λ (t : List ℕ). sent ++ t) (sym (append_assoc adds.front adds.rest behind))
        ∙ sym (append_assoc sent (adds.front ++ adds.rest) behind) ∙ ap (λ (w : List ℕ). (sent ++ w) ++ behind) (sym adds.cut) ∙ tells.told;
  };
  added = Adds-more begun.written written after sent adds.front added adds.added;
}

-- what stands for a cause
stopped : (begun : Beginning) (waiting : List ℕ) (written after : Option (List ℕ)) (faults : ℕ) (fault : PlayFault)
    → (AddsFrontOf waiting written after → WritesPart begun.first begun.said begun.written after) → StopsIn waiting written after begun.faults faults fault
    → HasPlayed begun.first begun.said begun.written after begun.faults faults (Err fault)
stopped begun waiting written after faults Write part stop = (stop.0, part stop.1)
stopped begun waiting written after faults OutOfMemory part stop = (stop.0, part stop.1)

-- an end of playing before all is told
pub stop_played : HaveEffects → (begun : Beginning) (from : Place) (after : Option (List ℕ)) (faults : ℕ) (fault : PlayFault) → PlayedTo begun from
    → StopsIn from.waiting from.written after begun.faults faults fault → HasPlayed begun.first begun.said begun.written after begun.faults faults (Err fault)
stop_played have begun from after faults fault so_far stop =
    let effects = have so_far.left in
    let by = so_far.goes effects.0 effects.1 in
    stopped begun from.waiting from.written after faults fault
    (part_of begun from.written after so_far.sent from.waiting (probe_text_from from.number from.tag effects.0) so_far.added
    (record { effects = by.all; each = by.each; told = sym by.told })) stop

-- ... and behind it
pub last_told : (result : Result (Unit {0}) PlayFault) (begun : Beginning) (to : Place) (after : Option (List ℕ)) (faults : ℕ) → IsTold begun to
    → OnOk result (Adds to.written after to.waiting) → OnOk result (faults ≡ begun.faults) → IfErr result (StopsIn to.waiting to.written after begun.faults faults)
    → HasPlayed begun.first begun.said begun.written after begun.faults faults result
last_told (Ok done) begun to after faults told ok steady failed = (
  steady,
  record { text = told.sent ++ to.waiting; tells = told.tells; added = Adds-more begun.written to.written after told.sent to.waiting told.added ok },
)
last_told (Err fault) begun to after faults told ok steady failed =
    let tells : TellsEffects begun.first begun.said ((told.sent ++ to.waiting) ++ []) = record {
      effects = told.tells.effects;
      each = told.tells.each;
      told = append-nil (told.sent ++ to.waiting) ∙ told.tells.told;
    } in
    stopped begun to.waiting to.written after faults fault (part_of begun to.written after told.sent to.waiting [] told.added tells) failed

-- where there is no memory, nothing of what waits is written
pub no_memory : (waiting : List ℕ) (written : Option (List ℕ)) (faults faults' : ℕ) → faults' ≡ faults → StopsIn waiting written written faults faults' OutOfMemory
no_memory waiting written faults faults' steady = (steady, record { front = []; rest = waiting; cut = refl; added = Adds-nothing written })

-- nothing at all was written
pub nothing_played : HaveEffects → (result : Result (Unit {0}) PlayFault) (first : TagValue) (said : List Stimulus) (written : Option (List ℕ)) (faults : ℕ)
    → IsErrAnd result (λ fault. fault ≡ OutOfMemory) → HasPlayed first said written written faults faults result
nothing_played have result first said written faults is =
    let effects = have said in
    handed_on result OutOfMemory (HasPlayed first said written written faults faults) is (
      refl,
      record {
        front = [];
        rest = probe_text_from first_number first effects.0;
        tells = record { effects = effects.0; each = effects.1; told = refl };
        added = Adds-nothing written;
      },
    )
