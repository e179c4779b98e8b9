-- What steps add to a past: items of rounds that came before or come behind. Nothing of it is of the round between.
use Rattle.runs.proofs.Names.{◌≡◌, ◌≢◌, ℕ, ◌+◌, ◌<◌, ◌≤◌, ◌==◌, ◌⊎◌, inl, inr, Bool, true, false, List, [], ◌∷◌, ◌++◌, length, Some, if◌then◌else◌, refl, ap, sym, ◌∙◌, subst, append_assoc, append-nil}
use Rattle.runs.proofs.Names.{arith, ne_eqb, AllByRecursion, OpList, Start, Record, Item, befell, exchanged, operated, ended, next_record, past_behind_command, rounds_in, IsLegalStep, AreLegalSteps}
use Rattle.runs.proofs.Names.{rounds_of, past_behind_round, past_behind_step, past_behind, Command, sender_listed_by, tags_listed_where, is_query, is_query_of, past_after_query, ending_of, SpecValue}
use Rattle.runs.proofs.Names.{IsLegalSpec, Step}
use Rattle.command_grammar.specs.declared.commands.Command.TheVariants as commands
use Rattle.scenario.specs.declared.values.Step.TheVariants as steps
use Rattle.runs.proofs.HeadlineLines.{and-false}
use Rattle.runs.proofs.Records.{AllRecords}
use Rattle.runs.proofs.Turns.{round-holds}
use Rattle.runs.proofs.Growth.{RoundsKeepLimit}

-- a round is none, or one of those behind the first and up to the last
abbrev pub IsBetween : ℕ → ℕ → ℕ → Type 0
IsBetween first last round = (round ≡ 0) ⊎ ((first < round) × (round ≤ last))

-- the number of the round of an item, where it names one, is such a number
abbrev pub IsOfRound : (ℕ → Type 0) → Item → Type 0
IsOfRound P (exchanged sent) = P sent.round
IsOfRound P (ended round end slots) = P round
IsOfRound P item = Unit {0}

abbrev pub AreOfRounds : (ℕ → Type 0) → List Item → Type 0
AreOfRounds P items = AllByRecursion (IsOfRound P) items

weaker-one : (P Q : ℕ → Type 0) (item : Item) → ((round : ℕ) → P round → Q round) → IsOfRound P item → IsOfRound Q item
weaker-one P Q (exchanged sent) weaker is = weaker sent.round is
weaker-one P Q (ended round end slots) weaker is = weaker round is
weaker-one P Q item weaker is = tt

rounds-weaker : (P Q : ℕ → Type 0) (items : List Item) → ((round : ℕ) → P round → Q round) → AreOfRounds P items → AreOfRounds Q items
rounds-weaker P Q [] weaker are = tt
rounds-weaker P Q (item ∷ items) weaker are = (weaker-one P Q item weaker are.0, rounds-weaker P Q items weaker are.1)

rounds-append : (P : ℕ → Type 0) (left right : List Item) → AreOfRounds P left → AreOfRounds P right → AreOfRounds P (left ++ right)
rounds-append P [] right of_left of_right = of_right
rounds-append P (item ∷ left) right of_left of_right = (of_left.0, rounds-append P left right of_left.1 of_right)

-- the items of a list are of rounds behind the first and up to the last, or of none
abbrev pub AreBetween : ℕ → ℕ → List Item → Type 0
AreBetween first last items = AreOfRounds (IsBetween first last) items

is-between-wider : (a b c d round : ℕ) → c ≤ a → b ≤ d → IsBetween a b round → IsBetween c d round
is-between-wider a b c d round low high (inl none) = inl none
is-between-wider a b c d round low high (inr within) = inr (omega (arith, within.0), omega (arith, within.1))

between-wider : (a b c d : ℕ) (items : List Item) → c ≤ a → b ≤ d → AreBetween a b items → AreBetween c d items
between-wider a b c d items low high = rounds-weaker (IsBetween a b) (IsBetween c d) items (λ round. is-between-wider a b c d round low high)

-- what was added to a past ended so many rounds, and is of those rounds or of none
pub record Adds (past now : List Item) (rounds : ℕ) : Type 0 where
  pub own : List Item
  pub is : now ≡ own ++ past
  pub rounds_are : rounds_in now ≡ rounds_in past + rounds
  pub of : AreBetween (rounds_in past) (rounds_in past + rounds) own

pub adds-none : (past : List Item) → Adds past past 0
adds-none past = record { own = []; is = refl; rounds_are = omega arith; of = tt }

pub adds-on : (past between now : List Item) (first second : ℕ) → Adds past between first → Adds between now second → Adds past now (first + second)
adds-on past between now first second left right = record {
  own = right.own ++ left.own;
  is = right.is ∙ ap (λ (items : List Item). right.own ++ items) left.is ∙ sym (append_assoc right.own left.own past);
  rounds_are = omega (arith, left.rounds_are, right.rounds_are);
  of = rounds-append (IsBetween (rounds_in past) (rounds_in past + (first + second))) right.own left.own
      (between-wider (rounds_in between) (rounds_in between + second) (rounds_in past) (rounds_in past + (first + second)) right.own
      (omega (arith, left.rounds_are)) (omega (arith, left.rounds_are)) right.of)
      (between-wider (rounds_in past) (rounds_in past + first) (rounds_in past) (rounds_in past + (first + second)) left.own (omega arith) (omega arith) left.of);
}

-- within a round: its own items so far
record AddsWithin (past now : List Item) : Type 0 where
  pub own : List Item
  pub is : now ≡ own ++ past
  pub rounds_are : rounds_in now ≡ rounds_in past
  pub of : AreBetween (rounds_in past) (rounds_in past + 1) own

adds-command : (start : Start) (past now : List Item) (slot : ℕ) (command : Command) → AddsWithin past now
    → AddsWithin past (past_behind_command start (rounds_in past + 1) slot command now)
adds-command start past now slot command within = record {
  own = exchanged (next_record start (rounds_in past + 1) slot command now) ∷ within.own;
  is = ap (λ (items : List Item). exchanged (next_record start (rounds_in past + 1) slot command now) ∷ items) within.is;
  rounds_are = within.rounds_are;
  of = (inr (omega arith, omega arith), within.of);
}

round-adds : RoundsKeepLimit → (start : Start) (operations : OpList) (spec : SpecValue) (past : List Item) → IsLegalSpec spec → Adds past (past_behind_round start operations spec past) 1
round-adds keeps start operations spec past legal =
    let round : ℕ = rounds_in past + 1 in
    round-holds (λ outcomes now. AddsWithin past now) (λ outcomes sent now. AddsWithin past (exchanged sent ∷ now)) (λ now. Adds past now 1)
    (record { start = start; operations = operations; spec = spec; before = past }) keeps legal
    (record {
      slot = λ outcomes now command next within. adds-command start past now (length outcomes + 1) command within;
      no_answer = λ outcomes now command reception heard none within. within;
      ack = λ outcomes now command rn heard within.
          adds-command start past (past_behind_command start round (length outcomes + 1) command now) (length outcomes + 1) (commands.Ack rn) within;
      operation = λ some outcomes now command expect extended suits within. adds-command start past now (length outcomes + 1) command within;
      result = λ some outcomes now index result within. record {
        own = operated round (length outcomes + 1) index result ∷ within.own;
        is = ap (λ (items : List Item). operated round (length outcomes + 1) index result ∷ items) within.is;
        rounds_are = within.rounds_are;
        of = (tt, within.of);
      };
      end = λ outcomes now end next within. record {
        own = ended round end (length outcomes) ∷ within.own;
        is = ap (λ (items : List Item). ended round end (length outcomes) ∷ items) within.is;
        rounds_are = ap (λ n. n + 1) within.rounds_are;
        of = (inr (omega arith, omega arith), within.of);
      };
    })
    (record { own = []; is = refl; rounds_are = refl; of = tt })

pub step-adds : RoundsKeepLimit → (start : Start) (step : Step) (past : List Item) → IsLegalStep step → Adds past (past_behind_step start step past) (rounds_of (step ∷ []))
step-adds keeps start (steps.Select command) past legal = record {
  own = exchanged (next_record start 0 0 command past) ∷ [];
  is = refl;
  rounds_are = omega arith;
  of = (inl refl, tt);
}
step-adds keeps start steps.Nak past legal = record {
  own = exchanged (next_record start 0 0 commands.Nak past) ∷ [];
  is = refl;
  rounds_are = omega arith;
  of = (inl refl, tt);
}
step-adds keeps start (steps.Event event number) past legal = record {
  own = befell event number ∷ [];
  is = refl;
  rounds_are = omega arith;
  of = (tt, tt);
}
step-adds keeps start (steps.Round spec operations) past legal = round-adds keeps start operations spec past legal.legal

pub rounds_of-append : (before after : List Step) → rounds_of (before ++ after) ≡ rounds_of before + rounds_of after
rounds_of-append [] after = omega arith
rounds_of-append (steps.Round spec operations ∷ before) after = let rest = rounds_of-append before after in omega (arith, rest)
rounds_of-append (step ∷ before) after = rounds_of-append before after

pub steps-add : RoundsKeepLimit → (start : Start) (all : List Step) (past : List Item) → AreLegalSteps all → Adds past (past_behind start all past) (rounds_of all)
steps-add keeps start [] past legal = adds-none past
steps-add keeps start (step ∷ later) past legal =
    let now = past_behind_step start step past in
    subst (λ n. Adds past (past_behind start later now) n) (sym (rounds_of-append (step ∷ []) later))
    (adds-on past now (past_behind start later now) (rounds_of (step ∷ [])) (rounds_of later)
    (step-adds keeps start step past legal.0) (steps-add keeps start later now legal.1))

-- the items of a list are none of a round
abbrev pub AreOfOthers : ℕ → List Item → Type 0
AreOfOthers round items = AreOfRounds (λ number. number ≢ round) items

is-other : (first last round number : ℕ) → 1 ≤ round → (round ≤ first) ⊎ (last < round) → IsBetween first last number → number ≢ round
is-other first last round number some outside (inl none) is = absurd (omega (arith, some, none, is))
is-other first last round number some (inl below) (inr within) is = absurd (omega (arith, within.0, within.1, is, below))
is-other first last round number some (inr above) (inr within) is = absurd (omega (arith, within.0, within.1, is, above))

pub of-others : (first last round : ℕ) (items : List Item) → 1 ≤ round → (round ≤ first) ⊎ (last < round) → AreBetween first last items → AreOfOthers round items
of-others first last round items some outside = rounds-weaker (IsBetween first last) (λ number. number ≢ round) items (λ number. is-other first last round number some outside)

-- a test that only records of the round pass
abbrev pub IsTestOf : ℕ → (Record → Bool) → Type 0
IsTestOf round test = (sent : Record) → test sent ≡ true → sent.round ≡ round

fails-others : (round : ℕ) (test : Record → Bool) (sent : Record) (passes : Bool) → IsTestOf round test → sent.round ≢ round → test sent ≡ passes → test sent ≡ false
fails-others round test sent true of other is = absurd (other (of sent is))
fails-others round test sent false of other is = is

-- other rounds list none of its tags
pub listed-others : (round : ℕ) (test : Record → Bool) (own past : List Item) → IsTestOf round test → AreOfOthers round own
    → tags_listed_where test (own ++ past) ≡ tags_listed_where test past
listed-others round test [] past of others = refl
listed-others round test (exchanged sent ∷ own) past of others =
    ap (λ (passes : Bool). tags_listed_where test (own ++ past) ++ (if passes then sender_listed_by sent else []))
    (fails-others round test sent (test sent) of others.0 refl)
    ∙ append-nil (tags_listed_where test (own ++ past))
    ∙ listed-others round test own past of others.1
listed-others round test (item ∷ own) past of others = listed-others round test own past of others.1

not-query : (round : ℕ) (sent : Record) → sent.round ≢ round → is_query_of round sent ≡ false
not-query round sent other = and-false (is_query sent.command) (sent.round == round) (ne_eqb sent.round round other)

-- they have not its Query
pub query-others : (round : ℕ) (own past : List Item) → AreOfOthers round own → past_after_query round (own ++ past) ≡ past_after_query round past
query-others round [] past others = refl
query-others round (exchanged sent ∷ own) past others =
    ap (λ (is : Bool). if is then exchanged sent ∷ own ++ past else past_after_query round (own ++ past)) (not-query round sent others.0)
    ∙ query-others round own past others.1
query-others round (item ∷ own) past others = query-others round own past others.1

-- nor its end
pub ending-others : (round : ℕ) (own past : List Item) → AreOfOthers round own → ending_of round (own ++ past) ≡ ending_of round past
ending-others round [] past others = refl
ending-others round (ended number end slots ∷ own) past others =
    ap (λ (is : Bool). if is then Some (record { end = end; slots = slots; past = own ++ past }) else ending_of round (own ++ past)) (ne_eqb number round others.0)
    ∙ ending-others round own past others.1
ending-others round (item ∷ own) past others = ending-others round own past others.1

-- what holds of each record of a round holds where only others were added
pub records-others : (P : Record → List Item → Type 0) (round : ℕ) (own past : List Item)
    → ((sent : Record) (earlier : List Item) → sent.round ≢ round → P sent earlier) → AreOfOthers round own → AllRecords P past → AllRecords P (own ++ past)
records-others P round [] past vacuous others all = all
records-others P round (exchanged sent ∷ own) past vacuous others all =
    (vacuous sent (own ++ past) others.0, records-others P round own past vacuous others.1 all)
records-others P round (item ∷ own) past vacuous others all = records-others P round own past vacuous others.1 all
