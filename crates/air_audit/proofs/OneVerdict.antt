-- A line follows or is refused, and is refused for one first reason: so at most one verdict on a trace is right.
use Rattle.air_audit.proofs.Names.{◌≡◌, ◌+◌, ◌≤◌, ℕ, List, ◌∷◌, length, map, codes, arith, ap, ap₂, refl, sym, ◌∙◌, trace_rules, IsAuditVerdict, IsNoTxLine, IsRefusedAs, tx_parts, rx_parts, GoesOnAs}
use Rattle.air_audit.proofs.Names.{TraceStanding, begun, between, sending, listing, telling, word_of_line, Sends, Word, AuditReason, Verdict, Yes, No, heard_levels, Start, exchanges_in}
use Rattle.air_audit.proofs.Names.{AreUnambiguous, one_fault, text_not_faulty, Command, HasTxShape, TxFields, length-map, decimal, fields_of}
use Rattle.air_audit.specs.declared.trace_line_words.Word.TheVariants as words
use Rattle.air_audit.specs.TraceOrder.{ended}
use Rattle.air_audit.proofs.FirstPart.{none-fails, one-first}
use Rattle.air_audit.proofs.OneStanding.{Laws, goes-one}

pub tx-shape : (line : List ℕ) → TxFields line → HasTxShape line
tx-shape line tx =
    let count : length (fields_of line) ≡ length (codes "tx" ∷ tx.exchange ∷ map decimal tx.intervals) = ap length tx.are in
    let same : length (map decimal tx.intervals) ≡ length tx.intervals = length-map tx.intervals decimal in
    let some : 1 ≤ length tx.intervals = tx.some in
    let few : length tx.intervals ≤ 20000 = tx.few in
    (omega arith, omega arith)

-- nothing fails in a line that sends a command
sent-unrefused : (exchange : ℕ) (line : List ℕ) (command : Command) (reason : AuditReason) → Sends exchange line command → IsNoTxLine exchange line reason → ⊥
sent-unrefused exchange line command reason sends fails =
    none-fails (tx_parts exchange line) reason (tx-shape line sends.tx, (sends.tx, ((sends.tx, sends.number), ((command, sends), tt)))) fails

-- a line that follows isn't refused
unrefused : (start : Start) (from : TraceStanding) (word : Word) (line : List ℕ) (to : TraceStanding) (reason : AuditReason) → GoesOnAs start from word line to
    → IsRefusedAs start from word line reason → ⊥
unrefused start begun word line to reason goes refused = refused.1 goes.text
unrefused start (between past) words.Tx line to reason goes refused = sent-unrefused (exchanges_in past + 1) line goes.command reason goes.sends refused
unrefused start (between past) words.Unjudged line to reason goes refused = refused
unrefused start (between past) words.OfTags line to reason goes refused = refused.1 goes.text
unrefused start (sending past sent) words.Rx line to reason goes refused = refused.other goes.text
unrefused start (listing past listed) word line to reason goes refused = refused.1 goes.text
unrefused start (telling past told) words.OfTags line to reason goes refused = refused.1 goes.text
unrefused start from word line to reason goes refused = goes

reason-one : (start : Start) (from : TraceStanding) (word : Word) (line : List ℕ) (one other : AuditReason) → IsRefusedAs start from word line one
    → IsRefusedAs start from word line other → one ≡ other
reason-one start begun word line one other a b = a.0 ∙ sym b.0
reason-one start (between past) words.Tx line one other a b = one-first (tx_parts (exchanges_in past + 1) line) one other a b
reason-one start (between past) words.Unjudged line one other a b = absurd a
reason-one start (between past) words.OfTags line one other a b = a.0 ∙ sym b.0
reason-one start (sending past sent) words.Rx line one other a b =
    one-first (rx_parts sent.exchange (length sent.replies) (heard_levels start.link sent.given) line) one other a.first b.first
reason-one start (listing past listed) word line one other a b = a.0 ∙ sym b.0
reason-one start (telling past told) words.OfTags line one other a b = a.0 ∙ sym b.0
reason-one start from word line one other a b = a ∙ sym b

pub unambiguous : Laws → (start : Start) → AreUnambiguous (trace_rules start)
unambiguous laws start = record {
  one_standing = λ from one other line goes goes'. goes-one laws start from (word_of_line line) line one other goes goes';
  one_reason = λ from line one other refused refused'. reason-one start from (word_of_line line) line one other refused refused';
  not_faulty = λ from to line reason goes refused. unrefused start from (word_of_line line) line to reason goes refused;
}

pub verdict-one : Laws → (start : Start) (bytes : List ℕ) (one other : Verdict) → IsAuditVerdict start bytes one → IsAuditVerdict start bytes other → one ≡ other
verdict-one laws start bytes Yes Yes first second = refl
verdict-one laws start bytes Yes (No number reason) first second =
    absurd (text_not_faulty (trace_rules start) (unambiguous laws start) bytes (ended first.0) number reason first.1 second)
verdict-one laws start bytes (No number reason) Yes first second =
    absurd (text_not_faulty (trace_rules start) (unambiguous laws start) bytes (ended second.0) number reason second.1 first)
verdict-one laws start bytes (No number reason) (No number' reason') first second =
    let same = one_fault (trace_rules start) (unambiguous laws start) bytes number number' reason reason' first second in ap₂ No same.0 same.1
