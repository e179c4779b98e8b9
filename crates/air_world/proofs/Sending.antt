-- What an exchange makes of the air and the run.
use Rattle.air_world.proofs.Names.{◌≡◌, ℕ, zero, suc, ◌+◌, ◌≤◌, List, ◌∷◌, ◌++◌, length, Option, Some, None, refl, sym, ◌∙◌, ap, subst, arith, slice_get, [], AirValue, NamesTags, air_after}
use Rattle.air_world.proofs.Names.{next_exchange, AreEntriesLeft, entry_at, Choice, Entry, few_words, HasFewLevels, given_in, given_of, got_of, heard_levels, wave_for, whole_or_silence, Start, Record}
use Rattle.air_world.proofs.Names.{Item, next_entry, next_record, past_behind_command, exchanges_in, tags_behind, Got, RunValue, IsHeard, RunIsAt, counted_on, AnswersCommand, AreOfDifferentTags}
use Rattle.air_world.proofs.Names.{AreShort, IsBehind, IsOneOf, Command, LinkValue, AnswersExpected, Carries, Expect, tags-exchanged, length-tags, AnswersSo, AreReplies, StaysLegal}
use Rattle.air_world.proofs.Names.{replies-in-answered, IsSomeAnd, Outcome, Sent, bits_sent, BodyValue, IsLegalTag, StateValue, TagValue, AreLegalTags, Replied, outcomes_in, replies_from, replies_in}
use Rattle.air_world.proofs.Names.{reply_of, tags_after, expect_of, answers_of}
use Rattle.air_events.specs.declared.Choice.TheVariants as choices
use Rattle.air_events.specs.declared.Several.TheVariants as severals
use Rattle.tag_machine.specs.Answers.{IsSent}
use Rattle.air_events.specs.declared.Several.{Several}
use Rattle.air_model.proofs.GivenLaws.{given_is_read}
use Rattle.air_world.proofs.Slots.{dialogue-heard, inventory-heard}
use Rattle.reply_grammar.proofs.Suiting.{spelling-within}
use Rattle.runs.proofs.Answering.{SendsInRange, TagLaws, given-in-expected, given-unmistakable}
use Rattle.tag_machine.specs.Step.{step}

-- the entry of the next exchange names tags that there are ..
pub entry-names : {start : Start} {earlier : ℕ} {past : List Item} {air : AirValue} {run : RunValue} (entry : Entry) → RunIsAt start earlier past air run
    → entry ≡ entry_at start.entries (exchanges_in past + 1) → NamesTags (length air.tags) entry
entry-names {start} {past} {air} entry plays is =
    let count : length air.tags ≡ length start.tags = ap length plays.tags ∙ length-tags start past in
    let named : NamesTags (length start.tags) entry = subst (λ e. NamesTags (length start.tags) e) (sym is) (plays.names (exchanges_in past + 1)) in
    subst (λ n. NamesTags n entry) (sym count) named

-- .. and gives few levels
pub entry-fits : {start : Start} {earlier : ℕ} {past : List Item} {air : AirValue} {run : RunValue} (entry : Entry) → RunIsAt start earlier past air run
    → entry ≡ entry_at start.entries (exchanges_in past + 1) → HasFewLevels entry.choice
entry-fits {past} entry plays is = subst (λ (e : Entry). HasFewLevels e.choice) (sym is) (plays.few (exchanges_in past + 1))

-- what legal tags answer answers the command
carried : (expect : Option Expect) (sent : Sent) → IsSomeAnd expect (λ it. Carries it sent.handle × AnswersExpected sent.reply it (bits_sent (Some sent)))
    → IsSomeAnd expect (λ it. AnswersExpected sent.reply it (bits_sent (Some sent)))
carried None sent is = is
carried (Some it) sent is = is.1

abbrev pub AnswersExpectedOnes : Type 0
AnswersExpectedOnes = (command : Command) (state : StateValue) (body : BodyValue) (sent : Sent) → IsLegalTag (record { state = state; body = body })
    → (step command state body).answer ≡ Some sent → IsSomeAnd (expect_of command state) (λ expect. Carries expect sent.handle × AnswersExpected sent.reply expect (bits_sent (Some sent)))

answers-so : AnswersExpectedOnes → (command : Command) → AnswersSo (AnswersCommand command) command
answers-so law command tag legal sent is = record { state = tag.state; answers = carried (expect_of command tag.state) sent (law command tag.state tag.body sent legal is) }

-- no answer is longer than the longest reply
short-answers : (replies : List Replied) → AreReplies (λ sent. IsSent (Some sent)) replies → AreShort (answers_of replies)
short-answers [] are = tt
short-answers (replied ∷ replies) are = (
  (spelling-within replied.sent.reply replied.sent.handle are.0.0 (few_words replied.sent.reply are.0.2)).1,
  short-answers replies are.1,
)

pub answers-short : SendsInRange → StaysLegal → (command : Command) (entry : Entry) (tags : List TagValue) → AreLegalTags tags → AreShort (answers_of (replies_in command entry tags))
answers-short range stays command entry tags legal =
    short-answers (replies_in command entry tags)
    (replies-in-answered (λ sent. IsSent (Some sent)) command entry tags (λ tag lawful sent is. range command tag.state tag.body sent lawful is) stays legal)

-- the numbers of replies rise
rises-behind : (number : ℕ) (answer : Option Sent) (later : List Replied) → ((place : ℕ) (replied : Replied) → slice_get later place ≡ Some replied → number + 1 ≤ replied.number)
    → (place : ℕ) (replied : Replied) → slice_get (reply_of number answer ++ later) place ≡ Some replied → number ≤ replied.number
rises-behind number None later rises place replied found = let more = rises place replied found in omega (arith, more)
rises-behind number (Some sent) later rises zero replied found =
    let same : ◌≡◌ {A = Replied} (record { number = number; sent = sent }) replied = cc in omega (arith, ap (λ (r : Replied). r.number) same)
rises-behind number (Some sent) later rises (suc place) replied found = let more = rises place replied found in omega (arith, more)

numbers-rise : (number : ℕ) (outcomes : List Outcome) (place : ℕ) (replied : Replied) → slice_get (replies_from number outcomes) place ≡ Some replied → number ≤ replied.number
numbers-rise number [] place replied found = absurd (cc)
numbers-rise number (outcome ∷ outcomes) place replied found =
    rises-behind number outcome.answer (replies_from (number + 1) outcomes) (numbers-rise (number + 1) outcomes) place replied found

-- ... so that no two are of one tag
different-behind : (number : ℕ) (answer : Option Sent) (later : List Replied) → ((place : ℕ) (replied : Replied) → slice_get later place ≡ Some replied → number + 1 ≤ replied.number)
    → AreOfDifferentTags later → (place other : ℕ) (replied own : Replied) → slice_get (reply_of number answer ++ later) place ≡ Some replied
    → slice_get (reply_of number answer ++ later) other ≡ Some own → replied.number ≡ own.number → replied ≡ own
different-behind number None later rises different place other replied own found also same = different place other replied own found also same
different-behind number (Some sent) later rises different zero zero replied own found also same = cc
different-behind number (Some sent) later rises different zero (suc other) replied own found also same =
    let first : ◌≡◌ {A = Replied} (record { number = number; sent = sent }) replied = cc in
    absurd (omega (arith, ap (λ (r : Replied). r.number) first, rises other own also, same))
different-behind number (Some sent) later rises different (suc place) zero replied own found also same =
    let first : ◌≡◌ {A = Replied} (record { number = number; sent = sent }) own = cc in
    absurd (omega (arith, ap (λ (r : Replied). r.number) first, rises place replied found, same))
different-behind number (Some sent) later rises different (suc place) (suc other) replied own found also same = different place other replied own found also same

different-tags : (number : ℕ) (outcomes : List Outcome) → AreOfDifferentTags (replies_from number outcomes)
different-tags number [] = λ place other replied own found also same. absurd (cc)
different-tags number (outcome ∷ outcomes) =
    different-behind number outcome.answer (replies_from (number + 1) outcomes) (numbers-rise (number + 1) outcomes) (different-tags (number + 1) outcomes)

-- what the channel gives whole is one of the replies
picked-one : (replies : List Replied) (number : ℕ) (picked : Option Replied) → slice_get replies number ≡ picked → IsOneOf replies (whole_or_silence picked)
picked-one replies number None is = tt
picked-one replies number (Some replied) is = (number, is)

given-one : (link : LinkValue) (replies : List Replied) (choice : Option Choice) (several : Several) → IsOneOf replies (given_of link replies choice several)
given-one link replies (Some (choices.Pick number)) several = picked-one replies number (slice_get replies number) refl
given-one link [] (Some (choices.Break place)) several = tt
given-one link (replied ∷ others) (Some (choices.Break place)) several = tt
given-one link (replied ∷ []) None several = (0, refl)
given-one link (replied ∷ other ∷ others) None severals.Capture = (0, refl)
given-one link replies choice several = tt

-- what is known of an exchange with which a run goes on
pub record Sends (start : Start) (earlier : ℕ) (past : List Item) (command : Command) : Type 0 where
  pub air : AirValue
  pub run : RunValue
  pub next : AirValue
  pub entry : Entry
  pub got : Got
  pub plays : RunIsAt start earlier past air run
  pub is : next ≡ air_after air command entry
  pub got_is : got ≡ got_of air.link (given_in air.link air.several command entry air.tags)
  pub entry_is : entry ≡ entry_at start.entries (exchanges_in past + 1)
  pub legal : AreLegalTags next.tags

next-counted : (earlier exchanges : ℕ) → next_exchange (counted_on earlier exchanges) ≡ counted_on earlier (exchanges + 1)
next-counted earlier exchanges = omega arith

-- after an exchange, air and run stand behind the longer past
pub sent-plays : {start : Start} {earlier : ℕ} {past : List Item} {command : Command} (sends : Sends start earlier past command) (round slot : ℕ) (after : RunValue)
    → after.exchanges ≡ exchanges_in past + 1 → after.rounds ≡ sends.run.rounds → AreEntriesLeft after.entries start.entries (exchanges_in past + 1)
    → RunIsAt start earlier (past_behind_command start round slot command past) sends.next after
sent-plays {start} {earlier} {past} {command} sends round slot after made rounds left =
    let sent : Record = next_record start round slot command past in
    let plays = sends.plays in
    let moved : tags_after (outcomes_in command sends.entry sends.air.tags) ≡ tags_after (outcomes_in command sent.entry (tags_behind start past)) =
    λ i. tags_after (outcomes_in command (sends.entry_is i) (plays.tags i)) in
    record {
      names = plays.names;
      few = plays.few;
      link = ap (λ (a : AirValue). a.link) sends.is ∙ plays.link;
      several = ap (λ (a : AirValue). a.several) sends.is ∙ plays.several;
      tags = ap (λ (a : AirValue). a.tags) sends.is ∙ moved ∙ sym (tags-exchanged start sent past);
      legal = sends.legal;
      exchanges = ap (λ (a : AirValue). a.exchanges) sends.is ∙ ap next_exchange plays.exchanges ∙ next-counted earlier (exchanges_in past);
      made = made;
      entries = left;
      rounds = rounds ∙ plays.rounds;
    }

-- ... and what stands on the air is what the record says
pub sent-behind : AnswersExpectedOnes → StaysLegal → {start : Start} {earlier : ℕ} {past : List Item} {command : Command} (sends : Sends start earlier past command) (round slot : ℕ)
    → IsBehind start.link (next_record start round slot command past) sends.next sends.got
sent-behind law stays {start} {past} {command} sends round slot =
    let sent : Record = next_record start round slot command past in
    let tags : List TagValue = tags_behind start past in
    let plays = sends.plays in
    let given : given_in sends.air.link sends.air.several command sends.entry sends.air.tags ≡ sent.given =
    λ i. given_in (plays.link i) (plays.several i) command (sends.entry_is i) (plays.tags i) in
    record {
      link_is = ap (λ (a : AirValue). a.link) sends.is ∙ plays.link;
      frame = ap (λ (a : AirValue). a.frame) sends.is ∙ ap (λ l. wave_for l command) plays.link;
      answers = ap (λ (a : AirValue). a.answers) sends.is ∙ (λ i. answers_of (replies_in command (sends.entry_is i) (plays.tags i)));
      stream = ap (λ (a : AirValue). a.stream) sends.is ∙ (λ i. heard_levels (plays.link i) (given i));
      got_is = sends.got_is ∙ (λ i. got_of (plays.link i) (given i));
      answered = replies-in-answered (AnswersCommand command) command sent.entry tags (answers-so law command) stays (subst AreLegalTags plays.tags plays.legal);
      different = different-tags 0 (outcomes_in command sent.entry tags);
      one = given-one start.link sent.replies sent.entry.choice start.several;
    }

-- ... of which the run hears what the record says
pub sent-heard : TagLaws → (start : Start) (past : List Item) (round slot : ℕ) (command : Command) {air : AirValue} {got : Got} → AreLegalTags (tags_behind start past)
    → IsBehind start.link (next_record start round slot command past) air got → IsHeard start.link (next_record start round slot command past) air got
sent-heard laws start past round slot command legal behind =
    let entry : Entry = next_entry start past in
    let tags : List TagValue = tags_behind start past in
    let read = given_is_read start.link (replies_in command entry tags) entry.choice start.several in
    record {
      inventory = λ expect received asked came is. inventory-heard behind expect received (given-in-expected laws start command expect entry tags asked legal) read came is;
      operations = λ expect extended received asked came is. dialogue-heard behind expect extended received (given-unmistakable laws start command expect extended entry tags asked legal) read came is;
    }
