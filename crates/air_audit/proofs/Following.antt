-- How a trace goes on with a line, or why it doesn't, from what is known of the auditor.
use Rattle.air_audit.proofs.Names.{◌≡◌, ◌≢◌, ℕ, ◌+◌, ◌≤◌, Bool, List, [], ◌∷◌, ◌++◌, length, Option, Some, None, slice_get, Result, Ok, Err, codes, refl, sym, ap, ◌∙◌, subst, arith, IfErr, IsOk}
use Rattle.air_audit.proofs.Names.{AuditorValue, GoesOnOrStops, GoesOnWith, AuditorIsAt, IsHearing, KeepsUp, SendsTo, AuditorStandsAt, AuditStopsAt, TellsLine, TellsOther, position_behind}
use Rattle.air_audit.proofs.Names.{DiffersFirst, IsNoTxLine, IsOther, IsRefusedAs, IsRefusedHere, GoesOnAs, TraceStanding, begun, between, sending, telling, TellsNextTag, behind_exchange, behind_told}
use Rattle.air_audit.proofs.Names.{link_line, next_tag, record_of, rx_line, told_line, word_of_line, word_of, Stop, Word, AuditReason, heard_most, Given, heard_levels, Start, Record, Item, exchanged}
use Rattle.air_audit.proofs.Names.{exchanges_in, next_entry, tags_behind, IsGiven, LinkValue, first_field, most_rx_levels, text_of, ReportLine, ListLine, RxLine, report_line_text, TagLaws}
use Rattle.air_audit.proofs.Names.{given-of-answers, Listed, listed_by, append_cancel_right, Sent, IsSent, TagValue, line_feed}
use Rattle.air_audit.specs.declared.auditor.Position.TheVariants as positions
use Rattle.air_audit.specs.declared.trace_line_words.Word.TheVariants as words
use Rattle.air_audit.specs.declared.verdict.AuditReason.TheVariants as reasons
use Rattle.air_audit.specs.declared.auditor.Position.{Position}
use Rattle.air_audit.specs.declared.stop.Stop.TheVariants as stops
use Rattle.air_audit.proofs.Received.{made-length}
use Rattle.air_audit.proofs.RxLines.{IsReadable, rx-differs}
use Rattle.air_audit.proofs.Words.{goes-as}

-- a line has the text that was written
pub same-text : (line text : List ℕ) (expected : ReportLine) → text ≡ report_line_text expected → line ++ line_feed ∷ [] ≡ text → line ≡ text_of expected
same-text line text expected written same = append_cancel_right line (text_of expected) (line_feed ∷ []) (same ∙ written)

pub other-text : (line text : List ℕ) (expected : ReportLine) → text ≡ report_line_text expected → line ++ line_feed ∷ [] ≢ text → line ≢ text_of expected
other-text line text expected written other same = other (ap (λ (l : List ℕ). l ++ line_feed ∷ []) same ∙ sym written)

-- an auditor that moved on, with another line written
pub record Moved (before after : AuditorValue) : Type 0 where
  pub moves : after ≡ record before { position = after.position; text = after.text }

pub keeps-moved : (start : Start) (past : List Item) (before after : AuditorValue) → Moved before after → KeepsUp start past before → KeepsUp start past after
keeps-moved start past before after moved keeps =
    let same : KeepsUp start past (record before { position = after.position; text = after.text }) = record {
      given = keeps.given;
      link = keeps.link;
      several = keeps.several;
      tags = keeps.tags;
      legal = keeps.legal;
      entries = keeps.entries;
      exchanges = keeps.exchanges;
      round = keeps.round;
      slot = keeps.slot;
    } in
    subst (λ (a : AuditorValue). KeepsUp start past a) (sym moved.moves) same

-- the first line is that of the link
pub begins : (start : Start) (line : List ℕ) (before after : AuditorValue) → KeepsUp start [] before → line ≡ text_of (link_line start.link) → Moved before after
    → after.position ≡ positions.Between → GoesOnWith start begun line after
begins start line before after keeps text moved position = record {
  next = between [];
  goes = record { text = text; leads = refl };
  stands = record { position_is = position; keeps = keeps-moved start [] before after moved keeps };
}

pub begins-not : (start : Start) (line : List ℕ) (link : LinkValue) → link ≡ start.link → line ≢ text_of (link_line link) → IsRefusedHere start begun line reasons.Blf
begins-not start line link same other = (refl, λ text. other (text ∙ sym (ap (λ (l : LinkValue). text_of (link_line l)) same)))

-- a line is refused by the word that it begins with
pub refused-as : (start : Start) (from : TraceStanding) (line : List ℕ) (reason : AuditReason) (word : Word) → word_of_line line ≡ word → IsRefusedAs start from word line reason
    → IsRefusedHere start from line reason
refused-as start from line reason word is refused = subst (λ (w : Word). IsRefusedAs start from w line reason) (sym is) refused

-- the line sends a command
pub sends-on : (start : Start) (past : List Item) (line : List ℕ) (after : AuditorValue) → word_of_line line ≡ words.Tx → SendsTo start past line after → GoesOnWith start (between past) line after
sends-on start past line after word to = record {
  next = sending past (record_of start past to.command);
  goes = goes-as start (between past) line _ words.Tx word (record { command = to.command; sends = to.sends; leads = refl });
  stands = to.hearing;
}

-- ... or none
pub sends-not : (start : Start) (past : List Item) (line : List ℕ) (exchange : ℕ) (reason : AuditReason) → word_of_line line ≡ words.Tx → exchange ≡ exchanges_in past + 1
    → IsNoTxLine exchange line reason → IsRefusedHere start (between past) line reason
sends-not start past line exchange reason word number refused =
    refused-as start (between past) line reason words.Tx word (subst (λ n. IsNoTxLine n line reason) number refused)

-- nothing in the line is judged
pub passes-by : (start : Start) (past : List Item) (line : List ℕ) (auditor : AuditorValue) → word_of_line line ≡ words.Unjudged → AuditorIsAt positions.Between start past auditor
    → GoesOnWith start (between past) line auditor
passes-by start past line auditor word at = record {
  next = between past;
  goes = goes-as start (between past) line (between past) words.Unjudged word refl;
  stands = at;
}

-- the line of the next tag, or the last line
tells-next : (start : Start) (past : List Item) (told : ℕ) (line : List ℕ) (before after : AuditorValue) → KeepsUp start past before
    → TellsLine told (slice_get before.tags told) line before after → TellsNextTag start past told line (behind_told past told (next_tag start past told))
tells-next start past told line before after keeps tells = record {
  text = tells.text_is ∙ ap (λ (tags : List TagValue). text_of (told_line told (slice_get tags told))) keeps.tags;
  leads = refl;
}

stands-told : (start : Start) (past : List Item) (told : ℕ) (next : Option TagValue) (after : AuditorValue) → KeepsUp start past after → after.position ≡ position_behind told next
    → AuditorStandsAt start (behind_told past told next) after
stands-told start past told None after keeps position = record { position_is = position; keeps = keeps }
stands-told start past told (Some tag) after keeps position = record { position_is = position; keeps = keeps }

-- The line of the next tag behind so many may follow here, and another that begins as one is refused.
pub record TagsFollow (start : Start) (past : List Item) (told : ℕ) (from : TraceStanding) : Type 0 where
  pub goes : (line : List ℕ) (to : TraceStanding) → TellsNextTag start past told line to → GoesOnAs start from words.OfTags line to
  pub refused : (line : List ℕ) (reason : AuditReason) → IsOther (told_line told (next_tag start past told)) reasons.Tag line reason → IsRefusedAs start from words.OfTags line reason

-- the line of a tag, or the last line, or why it is none
pub record TellsOrStops (told : ℕ) (line : List ℕ) (before after : AuditorValue) (result : Result (Unit {0}) Stop) : Type 0 where
  pub tells : IsOk result → TellsLine told (slice_get before.tags told) line before after
  pub other : IfErr result (TellsOther (told_line told (slice_get before.tags told)) line)

module _ (start : Start) (past : List Item) (told : ℕ) (from : TraceStanding) (follow : TagsFollow start past told from) (line : List ℕ) (word : word_of_line line ≡ words.OfTags)
    (before after : AuditorValue) (keeps : KeepsUp start past before) where
  told-on : TellsLine told (slice_get before.tags told) line before after → GoesOnWith start from line after
  told-on tells =
      let position : after.position ≡ position_behind told (slice_get before.tags told) = ap (λ (a : AuditorValue). a.position) tells.moves in
      let to = behind_told past told (next_tag start past told) in
      record {
        next = to;
        goes = goes-as start from line to words.OfTags word (follow.goes line to (tells-next start past told line before after keeps tells));
        stands =
            stands-told start past told (next_tag start past told) after
            (keeps-moved start past before after (record { moves = tells.moves ∙ ap (λ (p : Position). record before { position = p; text = after.text }) (sym position) }) keeps)
            (position ∙ ap (λ (tags : List TagValue). position_behind told (slice_get tags told)) keeps.tags);
      }

  told-not : (stop : Stop) → TellsOther (told_line told (slice_get before.tags told)) line stop → AuditStopsAt stop start from line
  told-not (stops.OutOfMemory error) other = tt
  told-not (stops.Refused reason) other =
      refused-as start from line reason words.OfTags word
      (follow.refused line reason
      (other.0, λ text. other.1 (text ∙ sym (ap (λ (tags : List TagValue). text_of (told_line told (slice_get tags told))) keeps.tags))))

  -- the answer to a line that begins as the line of a tag, or as the last one
  pub tells-or-stops : (result : Result (Unit {0}) Stop) → TellsOrStops told line before after result → GoesOnOrStops result start from line after
  tells-or-stops (Ok done) told = told-on (told.tells refl)
  tells-or-stops (Err stop) told = told-not stop told.other

pub tags-first : (start : Start) (past : List Item) → TagsFollow start past 0 (between past)
tags-first start past = record { goes = λ line to tells. tells; refused = λ line reason other. other }

pub tags-next : (start : Start) (past : List Item) (told : ℕ) → TagsFollow start past told (telling past told)
tags-next start past told = record { goes = λ line to tells. tells; refused = λ line reason other. other }

-- no levels come that are too many for a line
pub levels-few : TagLaws → (start : Start) (past : List Item) (sent : Record) (auditor : AuditorValue) → IsHearing start past sent auditor → length auditor.answers.levels ≤ most_rx_levels
levels-few laws start past sent auditor is =
    let given : IsGiven sent.given =
    subst (λ (g : Given). IsGiven g) (sym (ap (λ (r : Record). r.given) is.made))
    (given-of-answers (λ (s : Sent). IsSent (Some s)) start sent.command (next_entry start past) (tags_behind start past)
    (λ tag lawful answer replied. laws.range sent.command tag.state tag.body answer lawful replied) laws.stays is.legal) in
    omega (arith, ap (λ (l : List Bool). length l) is.levels, heard_most start.link sent.given given (made-length start past sent auditor is))

number-kept : (start : Start) (past : List Item) (sent : Record) (auditor : AuditorValue) → IsHearing start past sent auditor → auditor.exchanges ≡ sent.exchange
number-kept start past sent auditor is = is.keeps.exchanges ∙ sym (ap (λ (r : Record). r.exchange) is.made)

rx-is : (start : Start) (past : List Item) (sent : Record) (auditor : AuditorValue) → IsHearing start past sent auditor
    → RxLine auditor.exchanges auditor.answers.count auditor.answers.levels ≡ rx_line start sent
rx-is start past sent auditor is =
    let number = number-kept start past sent auditor is in
    let count = is.count in
    let levels = is.levels in
    cc

pub rx-alike : (exchange exchange' count count' : ℕ) (levels levels' : List Bool) → exchange ≡ exchange' → count ≡ count' → levels ≡ levels'
    → text_of (RxLine exchange count levels) ≡ text_of (RxLine exchange' count' levels')
rx-alike exchange exchange' count count' levels levels' same_exchange same_count same_levels = rw (same_exchange, same_count, same_levels) refl

-- the line is that of what was heard, behind which a list line has to stand or none
pub heard-on : (start : Start) (past : List Item) (sent : Record) (line : List ℕ) (auditor after : AuditorValue) (listed : List Listed) → IsHearing start past sent auditor
    → first_field line ≡ codes "rx" → line ≡ text_of (RxLine auditor.exchanges auditor.answers.count auditor.answers.levels) → listed_by sent ≡ listed
    → AuditorStandsAt start (behind_exchange (exchanged sent ∷ past) listed) after → GoesOnWith start (sending past sent) line after
heard-on start past sent line auditor after listed is word text same stands = record {
  next = behind_exchange (exchanged sent ∷ past) listed;
  goes = goes-as start (sending past sent) line (behind_exchange (exchanged sent ∷ past) listed) words.Rx (ap word_of word)
      (record { text = text ∙ ap text_of (rx-is start past sent auditor is); leads = ap (behind_exchange (exchanged sent ∷ past)) (sym same) });
  stands = stands;
}

-- the list line that is written has the round and the slot of the record
pub list-written : (start : Start) (past : List Item) (sent : Record) (auditor : AuditorValue) (new old : List ℕ) (round slot pc : ℕ) (epc : List ℕ) → IsHearing start past sent auditor
    → new ≡ old ++ report_line_text (ListLine round slot pc epc) → old ≡ [] → round ≡ auditor.round → slot ≡ auditor.slot
    → new ≡ report_line_text (ListLine sent.round sent.slot pc epc)
list-written start past sent auditor new old round slot pc epc is written none round_is slot_is =
    let round_of = round_is ∙ is.keeps.round ∙ sym (ap (λ (r : Record). r.round) is.made) in
    let slot_of = slot_is ∙ is.keeps.slot ∙ sym (ap (λ (r : Record). r.slot) is.made) in
    written ∙ ap (λ (l : List ℕ). l ++ report_line_text (ListLine round slot pc epc)) none ∙ ap (λ n. report_line_text (ListLine n slot pc epc)) round_of
    ∙ ap (λ n. report_line_text (ListLine sent.round n pc epc)) slot_of

-- why a line that begins with rx isn't what an auditor heard, which may be read
pub record IsNotHeard (line : List ℕ) (auditor : AuditorValue) (reason : AuditReason) : Type 0 where
  pub readable : IsReadable auditor.exchanges auditor.answers.count auditor.answers.levels
  pub word : word_of_line line ≡ words.Rx
  pub first : DiffersFirst auditor.exchanges auditor.answers.count auditor.answers.levels line reason

pub rx-not : (start : Start) (past : List Item) (sent : Record) (line : List ℕ) (auditor : AuditorValue) (reason : AuditReason) → IsHearing start past sent auditor
    → IsNotHeard line auditor reason → IsRefusedHere start (sending past sent) line reason
rx-not start past sent line auditor reason is not =
    let other = rx-differs auditor.exchanges auditor.answers.count auditor.answers.levels line reason not.readable not.first in
    let number = number-kept start past sent auditor is in
    refused-as start (sending past sent) line reason words.Rx not.word
    (record {
      other = λ text. other (text ∙ sym (ap text_of (rx-is start past sent auditor is)));
      first =
          subst (λ n. DiffersFirst n (length sent.replies) (heard_levels start.link sent.given) line reason) number
          (subst (λ n. DiffersFirst auditor.exchanges n (heard_levels start.link sent.given) line reason) is.count
          (subst (λ (l : List Bool). DiffersFirst auditor.exchanges auditor.answers.count l line reason) is.levels not.first));
    })
