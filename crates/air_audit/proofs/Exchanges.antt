-- What an exchange makes of an auditor.
use Rattle.std.specs.List.{All}
use Rattle.air_audit.proofs.Names.{◌≡◌, ℕ, ◌+◌, ◌<◌, List, ◌∷◌, length, Result, Ok, Err, refl, sym, ap, ◌∙◌, subst, IfErr, IsErrAnd, AreAsGiven, AuditorValue, IsHearing, KeepsUp, Place, place_in}
use Rattle.air_audit.proofs.Names.{place_of_command, record_of, AuditReason, AreEntriesLeft, Entry, Several, given_of, heard_levels, Start, Item, exchanged, exchanges_in, next_entry, tags_behind}
use Rattle.air_audit.proofs.Names.{Command, LinkValue, length-tags, tags-exchanged, Outcome, TagValue, AreLegalTags, outcomes_in, replies_from, tags_after, length-befallen, tags_after_events}
use Rattle.air_audit.specs.declared.auditor.Position.TheVariants as positions
use Rattle.air_events.specs.Entries.{entry_at}
use Rattle.air_events.specs.declared.Event.{Event}

-- the entry of the next exchange names tags that there are, and chooses few levels
pub record NextEntry (start : Start) (past : List Item) (tags : List TagValue) (entry : Entry) : Type 0 where
  pub given : AreAsGiven (length start.tags) start.entries
  pub tags_are : tags ≡ tags_behind start past
  pub is : entry ≡ next_entry start past

pub events-there : (start : Start) (past : List Item) (tags : List TagValue) (entry : Entry) (events : List (Event × ℕ)) → NextEntry start past tags entry → events ≡ entry.events
    → All (λ event. event.1 < length tags) events
events-there start past tags entry events next are =
    let count : length tags ≡ length start.tags = ap length next.tags_are ∙ length-tags start past in
    let said : events ≡ (next_entry start past).events = are ∙ ap (λ (e : Entry). e.events) next.is in
    subst (λ (l : List (Event × ℕ)). All (λ event. event.1 < length tags) l) (sym said)
    (subst (λ n. All (λ event. event.1 < n) (next_entry start past).events) (sym count) (next.given.events (exchanges_in past + 1)))

pub missed-there : (start : Start) (past : List Item) (tags befallen : List TagValue) (entry : Entry) (events : List (Event × ℕ)) → NextEntry start past tags entry
    → befallen ≡ tags_after_events 0 events tags → All (λ tag. tag < length befallen) entry.missed
missed-there start past tags befallen entry events next befell =
    let count : length befallen ≡ length start.tags = ap length befell ∙ length-befallen 0 events tags ∙ ap length next.tags_are ∙ length-tags start past in
    subst (λ (e : Entry). All (λ tag. tag < length befallen) e.missed) (sym next.is)
    (subst (λ n. All (λ tag. tag < n) (next_entry start past).missed) (sym count) (next.given.missed (exchanges_in past + 1)))

-- what is known of an exchange: the auditor before it, what is said of it, and what came of the command for the tags
pub record Exchange (start : Start) (past : List Item) (command : Command) (after : AuditorValue) : Type 0 where
  pub before : AuditorValue
  pub entry : Entry
  pub outcomes : List Outcome
  pub keeps : KeepsUp start past before
  pub entry_is : entry ≡ next_entry start past
  pub outcomes_are : outcomes ≡ outcomes_in command entry before.tags
  pub tags : after.tags ≡ tags_after outcomes
  pub legal : AreLegalTags after.tags
  pub count : after.answers.count ≡ length (replies_from 0 outcomes)
  pub levels : after.answers.levels ≡ heard_levels before.answers.link (given_of before.answers.link (replies_from 0 outcomes) entry.choice before.several)
  pub link : after.answers.link ≡ before.answers.link
  pub several : after.several ≡ before.several
  pub entries : AreEntriesLeft after.entries start.entries (exchanges_in past + 1)
  pub exchanges : after.exchanges ≡ before.exchanges + 1
  pub round : after.round ≡ (place_of_command (record { round = before.round; slot = before.slot }) command).round
  pub slot : after.slot ≡ (place_of_command (record { round = before.round; slot = before.slot }) command).slot
  pub sent : after.sent ≡ Ok command
  pub position : after.position ≡ positions.Sending

-- the outcomes are those of the record
recorded : (start : Start) (past : List Item) (command : Command) (after : AuditorValue) (is : Exchange start past command after)
    → is.outcomes ≡ outcomes_in command (next_entry start past) (tags_behind start past)
recorded start past command after is =
    is.outcomes_are ∙ ap (λ (e : Entry). outcomes_in command e is.before.tags) is.entry_is
    ∙ ap (λ (t : List TagValue). outcomes_in command (next_entry start past) t) is.keeps.tags

-- the round and the slot before the command
same-place : (past : List Item) (round slot : ℕ) → round ≡ (place_in past).round → slot ≡ (place_in past).slot
    → (let place : Place = record { round = round; slot = slot } in place) ≡ place_in past
same-place past round slot same_round same_slot =
    rw (same_round, same_slot) refl

-- behind the exchange the auditor stands for the longer past
keeps-up : (start : Start) (past : List Item) (command : Command) (after : AuditorValue) → Exchange start past command after
    → KeepsUp start (exchanged (record_of start past command) ∷ past) after
keeps-up start past command after is =
    let sent = record_of start past command in
    let place = same-place past is.before.round is.before.slot is.keeps.round is.keeps.slot in
    record {
      given = is.keeps.given;
      link = is.link ∙ is.keeps.link;
      several = is.several ∙ is.keeps.several;
      tags = is.tags ∙ ap (λ (o : List Outcome). tags_after o) (recorded start past command after is) ∙ sym (tags-exchanged start sent past);
      legal = is.legal;
      entries = is.entries;
      exchanges = is.exchanges ∙ ap (λ n. n + 1) is.keeps.exchanges;
      round = is.round ∙ ap (λ (p : Place). (place_of_command p command).round) place;
      slot = is.slot ∙ ap (λ (p : Place). (place_of_command p command).slot) place;
    }

-- ... and knows what came back
pub hearing : (start : Start) (past : List Item) (command : Command) (after : AuditorValue) → Exchange start past command after
    → IsHearing start past (record_of start past command) after
hearing start past command after is =
    let outcomes = recorded start past command after is in
    let sent = record_of start past command in
    record {
      position_is = is.position;
      keeps = keeps-up start past command after is;
      made = refl;
      command = is.sent;
      legal = subst (λ (t : List TagValue). AreLegalTags t) is.keeps.tags is.keeps.legal;
      count = is.count ∙ ap (λ (o : List Outcome). length (replies_from 0 o)) outcomes;
      levels =
          is.levels
          ∙ ap (λ (l : LinkValue). heard_levels l (given_of l (replies_from 0 is.outcomes) is.entry.choice is.before.several)) is.keeps.link
          ∙ ap (λ (s : Several). heard_levels start.link (given_of start.link (replies_from 0 is.outcomes) is.entry.choice s)) is.keeps.several
          ∙ ap (λ (e : Entry). heard_levels start.link (given_of start.link (replies_from 0 is.outcomes) e.choice start.several)) is.entry_is
          ∙ ap (λ (o : List Outcome). heard_levels start.link (given_of start.link (replies_from 0 o) sent.entry.choice start.several)) outcomes;
    }

-- what an auditor keeps, as its parts
pub record Parts (before : AuditorValue) : Type 0 where
  pub tags : List TagValue
  pub entries : List (ℕ × Entry)
  pub exchanges : ℕ
  pub tags_are : tags ≡ before.tags
  pub entries_are : entries ≡ before.entries
  pub exchanges_are : exchanges ≡ before.exchanges

-- ... as an auditor has them that is seen so
abbrev pub parts-of : (seen before : AuditorValue) → seen ≡ before → Parts before
parts-of seen before is = record {
  tags = seen.tags;
  entries = seen.entries;
  exchanges = seen.exchanges;
  tags_are = ap (λ (a : AuditorValue). a.tags) is;
  entries_are = ap (λ (a : AuditorValue). a.entries) is;
  exchanges_are = ap (λ (a : AuditorValue). a.exchanges) is;
}

pub left-before : (start : Start) (past : List Item) (before : AuditorValue) (parts : Parts before) → KeepsUp start past before → AreEntriesLeft parts.entries start.entries (exchanges_in past)
left-before start past before parts keeps = subst (λ (l : List (ℕ × Entry)). AreEntriesLeft l start.entries (exchanges_in past)) (sym parts.entries_are) keeps.entries

pub next-number : (start : Start) (past : List Item) (before : AuditorValue) (parts : Parts before) (exchange : ℕ) → KeepsUp start past before → exchange ≡ parts.exchanges + 1
    → exchange ≡ exchanges_in past + 1
next-number start past before parts exchange keeps is = is ∙ ap (λ n. n + 1) (parts.exchanges_are ∙ keeps.exchanges)

-- what is said of the next exchange, by the cursor of the auditor
pub next-known : (start : Start) (past : List Item) (before : AuditorValue) (parts : Parts before) (exchange : ℕ) (entry : Entry) → KeepsUp start past before → exchange ≡ parts.exchanges + 1
    → ((entries : List (ℕ × Entry)) (played : ℕ) → AreEntriesLeft parts.entries entries played → exchange ≡ played + 1 → entry ≡ entry_at entries exchange)
    → NextEntry start past parts.tags entry
next-known start past before parts exchange entry keeps is says =
    let number = next-number start past before parts exchange keeps is in
    record {
      given = keeps.given;
      tags_are = parts.tags_are ∙ keeps.tags;
      is = says start.entries (exchanges_in past) (left-before start past before parts keeps) number ∙ ap (λ n. entry_at start.entries n) number;
    }

-- a refusal that is handed on
pub handed-on : (P : AuditReason → Type 0) (reason : AuditReason) (result : Result (Unit {0}) AuditReason) → IsErrAnd result (λ other. other ≡ reason) → P reason → IfErr result P
handed-on P reason (Ok done) same holds = tt
handed-on P reason (Err other) same holds = subst P (sym same) holds

-- the next place, from parts that are the same
pub same-next : (command : Command) (round slot other_round other_slot : ℕ) → round ≡ other_round → slot ≡ other_slot
    → place_of_command (record { round = round; slot = slot }) command ≡ place_of_command (record { round = other_round; slot = other_slot }) command
same-next command round slot other_round other_slot same_round same_slot = rw (same_round, same_slot) refl
