-- Over the lines of a trace, up to the first that is refused.
use Rattle.air_audit.proofs.Names.{◌≡◌, ◌≢◌, ℕ, ◌+◌, ◌≤◌, List, [], ◌∷◌, length, refl, sym, ap, ◌∙◌, subst, arith, IsAudited, TraceMayEnd, trace_rules, AreAsGiven, AuditorValue, GoesOnWith}
use Rattle.air_audit.proofs.Names.{AuditorIsBegun, IsEarly, AuditorStandsAt, IsFirstRefusal, IsRefusedHere, TraceStanding, begun, AuditReason, AreEntriesLeft, Entry, Start, Item, tags_behind_from}
use Rattle.air_audit.proofs.Names.{IsText, HasReadTo, NextLine, all_read, fault_read, none_read, one_read, unended_read, TagValue, AreLegalTags, lines_of}
use Rattle.air_audit.specs.declared.auditor.Position.TheVariants as positions
use Rattle.air_audit.specs.declared.verdict.AuditReason.TheVariants as reasons
use Rattle.air_audit.specs.TraceOrder.{ended}

-- the lines before the rest lead to where the auditor stands; the next line has this number
pub record Walked (start : Start) (trace rest : List ℕ) (number : ℕ) (auditor : AuditorValue) : Type 0 where
  pub standing : TraceStanding
  pub read : HasReadTo (trace_rules start) begun 1 (lines_of trace) standing number (lines_of rest)
  pub stands : AuditorStandsAt start standing auditor

-- where there were fewer exchanges, there were no more than that
pub early-weaker : (fewer most : ℕ) (auditor : AuditorValue) → fewer ≤ most → IsEarly fewer auditor → IsEarly most auditor
early-weaker fewer most auditor within early = record {
  exchanges = omega (arith, early.exchanges);
  round = omega (arith, early.round);
  slot = omega (arith, early.slot);
}

tags-before : (number : ℕ) (starts : List TagValue) → tags_behind_from number starts [] ≡ starts
tags-before number [] = refl
tags-before number (start ∷ starts) = ap (λ (tags : List TagValue). start ∷ tags) (tags-before (number + 1) starts)

-- an audit that has begun, of these tags and of what is said of exchanges, stands before the first line
pub begun-stands : (start : Start) (auditor : AuditorValue) (tags : List TagValue) (entries : List (ℕ × Entry)) → AuditorIsBegun start.link start.several tags entries auditor
    → tags ≡ start.tags → entries ≡ start.entries → AreAsGiven (length start.tags) start.entries → AreLegalTags tags → AuditorStandsAt start begun auditor
begun-stands start auditor tags entries is tags_are entries_are given legal = record {
  position_is = is.position_is;
  keeps = record {
    given = given;
    link = is.link_is;
    several = is.several_is;
    tags = is.tags_are ∙ tags_are ∙ sym (tags-before 0 start.tags);
    legal = subst AreLegalTags (sym is.tags_are) legal;
    entries = subst (λ (left : List (ℕ × Entry)). AreEntriesLeft left start.entries 0) (sym entries_are ∙ sym is.entries_are)
        (record { rises = given.rises; same = λ exchange later. refl });
    exchanges = is.exchanges_are;
    round = is.round_is;
    slot = is.slot_is;
  };
}

-- the trace stands behind its last line exactly where the auditor does
ended-there : (start : Start) (standing : TraceStanding) (auditor : AuditorValue) → AuditorStandsAt start standing auditor → TraceMayEnd standing → auditor.position ≡ positions.Ended
ended-there start (ended past) auditor stands may = stands.position_is
ended-there start standing auditor stands may = absurd may

ended-past : (start : Start) (standing : TraceStanding) (auditor : AuditorValue) → AuditorStandsAt start standing auditor → auditor.position ≡ positions.Ended
    → (past : List Item) × (standing ≡ ended past)
ended-past start (ended past) auditor stands is = (past, refl)
ended-past start standing auditor stands is = let position = stands.position_is in absurd (cc)

-- before the first line
pub walked-none : (start : Start) (trace : List ℕ) (auditor : AuditorValue) → AuditorStandsAt start begun auditor → Walked start trace trace 1 auditor
walked-none start trace auditor stands = record { standing = begun; read = none_read (trace_rules start) begun 1 (lines_of trace); stands = stands }

module _ (start : Start) (trace rest : List ℕ) (number : ℕ) (auditor : AuditorValue) (walked : Walked start trace rest number auditor) where
  -- behind a line more
  pub walked-more : (next : NextLine (lines_of rest)) (after : AuditorValue) → GoesOnWith start walked.standing next.line after → Walked start trace next.rest (number + 1) after
  walked-more next after goes = record {
    standing = goes.next;
    read = one_read (trace_rules start) begun 1 (lines_of trace) walked.standing number (lines_of rest) next goes.next walked.read goes.goes;
    stands = goes.stands;
  }

  -- it is refused
  pub refused-line : (next : NextLine (lines_of rest)) (reason : AuditReason) → IsRefusedHere start walked.standing next.line reason → IsFirstRefusal start trace number reason
  refused-line next reason refused = fault_read (trace_rules start) begun 1 (lines_of trace) walked.standing number (lines_of rest) next reason walked.read refused

  -- a line is missing, or has no line feed
  pub refused-end : lines_of rest ≡ rest ∷ [] → (auditor.position ≡ positions.Ended → rest ≢ []) → IsFirstRefusal start trace number reasons.End
  refused-end whole some =
      unended_read (trace_rules start) begun 1 (lines_of trace) walked.standing number rest walked.read whole
      (λ none may. some (ended-there start walked.standing auditor walked.stands may) none)

  -- the trace is audited
  pub audited : auditor.position ≡ positions.Ended → rest ≡ [] → IsAudited start trace
  audited is none =
      let at_end = ended-past start walked.standing auditor walked.stands is in (
        at_end.0,
        subst (λ (s : TraceStanding). IsText (trace_rules start) trace s) at_end.1
            (all_read (trace_rules start) begun 1 (lines_of trace) walked.standing number rest walked.read none (subst TraceMayEnd (sym at_end.1) tt)),
      )
