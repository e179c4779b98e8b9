-- How many slot commands a round has: at most its limit, as many as its line says, and no other round adds to them.
use Rattle.runs.proofs.Names.{◌≡◌, ◌≢◌, ℕ, suc, ◌+◌, ◌≤◌, ◌==◌, Bool, true, false, List, [], ◌∷◌, ◌++◌, length, filter, if◌then◌else◌, refl, ap, sym, ◌∙◌, subst, append-nil, ne_eqb, eq-eqb}
use Rattle.runs.proofs.Names.{filter-append, Expects, Record, Item, exchanged, operated, ended, next_record, AreLegalSteps, is_round_line, begins_slot, begins_slot_of, slot_records, rounds_of}
use Rattle.runs.proofs.Names.{KeepsLimit, history_of, past_lines, last_lines, run_lines, Command, LinkValue, SpecValue, IsLegalSpec, Turn, quiet, limit, turn_of, next_of_turn, next_command, Outcome}
use Rattle.runs.proofs.Names.{Next, RoundEnd, Expect, ReportLine, RoundLine}
use Rattle.command_grammar.specs.declared.commands.Command.TheVariants as commands
use Rattle.q_round.specs.declared.round.Next.TheVariants as nexts
use Rattle.runs.proofs.HeadlineLines.{round-lines-pass, sent-adds-none, item-passes, run-passes, and-false, and-true}
use Rattle.runs.proofs.Growth.{RoundsKeepLimit, few-outcomes}
use Rattle.runs.proofs.OtherRounds.{AreOfOthers}
use Rattle.runs.proofs.PlayedRounds.{PlayedRound, number_of, past_behind_played}
use Rattle.runs.proofs.RoundsAmong.{RoundAmong, steps_around, played, stands-among}
use Rattle.runs.proofs.Turns.{round-holds}

-- the lines for the end of a round among the lines of a past
abbrev pub round_lines : LinkValue → ℕ → List Item → List ReportLine
round_lines link round past = filter (is_round_line round) (past_lines link past)

-- an exchange has no such line
sent-no-line : (link : LinkValue) (round : ℕ) (sent : Record) (past : List Item)
    → round_lines link round (exchanged sent ∷ past) ≡ round_lines link round past
sent-no-line link round sent past = sent-adds-none (is_round_line round) (round-lines-pass round) (λ listed. refl) link sent past

-- no command of an operation begins a slot
pub expects-begins-none : (command : Command) (expect : Expect) (extended : Bool) → Expects command expect extended → begins_slot command ≡ false
expects-begins-none (commands.Query dr code trext sel session target q) expect extended suits = absurd suits
expects-begins-none (commands.QueryAdjust session updn) expect extended suits = absurd suits
expects-begins-none (commands.QueryRep session) expect extended suits = absurd suits
expects-begins-none command expect extended suits = refl

-- a record of another round begins no slot of this one
other-round : (round : ℕ) (sent : Record) → sent.round ≢ round → begins_slot_of round sent ≡ false
other-round round sent other = and-false (begins_slot sent.command) (sent.round == round) (ne_eqb sent.round round other)

-- other rounds add no slot command to a round
slots-others : (round : ℕ) (own past : List Item) → AreOfOthers round own → slot_records round (own ++ past) ≡ slot_records round past
slots-others round [] past others = refl
slots-others round (exchanged sent ∷ own) past others =
    ap (λ (is : Bool). if is then sent ∷ slot_records round (own ++ past) else slot_records round (own ++ past)) (other-round round sent others.0)
    ∙ slots-others round own past others.1
slots-others round (item ∷ own) past others = slots-others round own past others.1

pub no-slots : (round : ℕ) (past : List Item) → AreOfOthers round past → slot_records round past ≡ []
no-slots round past others = ap (slot_records round) (sym (append-nil past)) ∙ slots-others round past [] others

-- ... and no line
lines-others : (link : LinkValue) (round : ℕ) (own past : List Item) → AreOfOthers round own → round_lines link round (own ++ past) ≡ round_lines link round past
lines-others link round [] past others = refl
lines-others link round (exchanged sent ∷ own) past others = sent-no-line link round sent (own ++ past) ∙ lines-others link round own past others.1
lines-others link round (ended number end slots ∷ own) past others =
    item-passes (is_round_line round) link (ended number end slots) (own ++ past) (rw (ne_eqb number round others.0) refl)
    ∙ lines-others link round own past others.1
lines-others link round (item ∷ own) past others = item-passes (is_round_line round) link item (own ++ past) refl ∙ lines-others link round own past others.1

-- whether a slot command comes next
abbrev pub sends_slot : Next → Bool
sends_slot (nexts.Send command) = begins_slot command
sends_slot nexts.Quiet = false
sends_slot nexts.Limit = false

answer-begins : (spec : SpecValue) (link : LinkValue) (turn : Turn) (command : Command) → next_of_turn spec link turn ≡ nexts.Send command → begins_slot command ≡ true
answer-begins spec link quiet command sends = absurd (cc)
answer-begins spec link limit command sends = absurd (cc)
answer-begins spec link turn command sends = sym (ap sends_slot sends)

-- what a round sends next begins a slot
pub next-begins : (spec : SpecValue) (link : LinkValue) (outcomes : List Outcome) (command : Command)
    → next_command spec link outcomes ≡ nexts.Send command → begins_slot command ≡ true
next-begins spec link outcomes command sends = answer-begins spec link (turn_of spec outcomes) command sends

-- within a round: a past has so many of its slot commands, and no line for its end
record Counts (link : LinkValue) (round count : ℕ) (past : List Item) : Type 0 where
  pub slots : length (slot_records round past) ≡ count
  pub lines : round_lines link round past ≡ []

-- a record that begins no slot of the round adds nothing to it
counts-sent : (link : LinkValue) (round count : ℕ) (sent : Record) (past : List Item) → begins_slot_of round sent ≡ false → Counts link round count past
    → Counts link round count (exchanged sent ∷ past)
counts-sent link round count sent past no_slot counts = record { slots = rw no_slot counts.slots; lines = sent-no-line link round sent past ∙ counts.lines }

-- the round has kept its limit, and the past has its one line
record Settled (link : LinkValue) (round limit : ℕ) (past : List Item) : Type 0 where
  pub end : RoundEnd
  pub within : length (slot_records round past) ≤ limit
  pub line : round_lines link round past ≡ RoundLine round end (length (slot_records round past)) ∷ []

one-line : (round : ℕ) (end : RoundEnd) (slots : ℕ) → filter (is_round_line round) (RoundLine round end slots ∷ []) ≡ RoundLine round end slots ∷ []
one-line round end slots = let this : (round == round) ≡ true = eq-eqb round round refl in rw this refl

round-settles : RoundsKeepLimit → (round : PlayedRound) → IsLegalSpec round.spec → AreOfOthers (number_of round) round.before
    → Settled round.start.link (number_of round) round.spec.limit (past_behind_played round)
round-settles keeps round legal others =
    let of : ℕ = number_of round in
    let link : LinkValue = round.start.link in
    round-holds (λ outcomes now. Counts link of (length outcomes) now) (λ outcomes sent now. Counts link of (suc (length outcomes)) (exchanged sent ∷ now))
    (Settled link of round.spec.limit) round keeps legal
    (record {
      slot = λ outcomes now command next counts.
          let sent = next_record round.start of (length outcomes + 1) command now in
          let this : begins_slot_of of sent ≡ true =
          and-true (begins_slot command) (of == of) (next-begins round.spec link outcomes command next.is) (eq-eqb of of refl) in
          record { slots = rw this (ap suc counts.slots); lines = sent-no-line link of sent now ∙ counts.lines };
      no_answer = λ outcomes now command reception heard none counts. counts;
      ack = λ outcomes now command rn heard counts. counts-sent link of (suc (length outcomes)) _ _ refl counts;
      operation = λ some outcomes now command expect extended suits counts.
          counts-sent link of (suc (length outcomes)) (next_record round.start of (length outcomes + 1) command now) now
          (rw (expects-begins-none command expect extended suits) refl) counts;
      result = λ some outcomes now index result counts. record {
        slots = counts.slots;
        lines = item-passes (is_round_line of) link (operated of (length outcomes + 1) index result) now refl ∙ counts.lines;
      };
      end = λ outcomes now end next counts. record {
        end = end;
        within = subst (λ n. n ≤ round.spec.limit) (sym counts.slots) (few-outcomes keeps round.spec outcomes legal next.are);
        line = filter-append (is_round_line of) (past_lines link now) (RoundLine of end (length outcomes) ∷ [])
            ∙ ap (λ (lines : List ReportLine). lines ++ filter (is_round_line of) (RoundLine of end (length outcomes) ∷ [])) counts.lines
            ∙ one-line of end (length outcomes)
            ∙ ap (λ n. RoundLine of end n ∷ []) (sym counts.slots);
      };
    })
    (record { slots = ap length (no-slots of round.before others); lines = ap (round_lines link of) (sym (append-nil round.before)) ∙ lines-others link of round.before [] others })

-- the round that a step runs keeps its limit in the run
pub round-keeps : RoundsKeepLimit → (among : RoundAmong) → AreLegalSteps (steps_around among)
    → KeepsLimit (history_of among.start (steps_around among)) (run_lines among.start (steps_around among)) (rounds_of among.before + 1) among.spec.limit
round-keeps keeps among legal =
    let start = among.start in
    let of : ℕ = number_of (played among) in
    let behind = past_behind_played (played among) in
    let stands = stands-among keeps among legal in
    let settled : Settled start.link of among.spec.limit behind = round-settles keeps (played among) stands.legal.legal stands.before_others in
    let same : slot_records of (stands.later ++ behind) ≡ slot_records of behind = slots-others of stands.later behind stands.later_others in
    subst (λ (history : List Item). KeepsLimit history (past_lines start.link history ++ last_lines start history) (rounds_of among.before + 1) among.spec.limit) (sym stands.is)
    (subst (λ (round : ℕ). KeepsLimit (stands.later ++ behind) (past_lines start.link (stands.later ++ behind) ++ last_lines start (stands.later ++ behind)) round among.spec.limit)
    stands.number_is
    (record {
      end = settled.end;
      within = subst (λ (sents : List Record). length sents ≤ among.spec.limit) (sym same) settled.within;
      line = run-passes (is_round_line of) (round-lines-pass of) start (stands.later ++ behind)
          ∙ lines-others start.link of stands.later behind stands.later_others
          ∙ settled.line
          ∙ ap (λ (sents : List Record). RoundLine of settled.end (length sents) ∷ []) (sym same);
    }))
