use Rattle.air_world.proofs.Names.{◌≡◌, ◌+◌, ℕ, List, refl, sym, ap, ◌∙◌, subst, arith, AreEntriesLeft, entry_at, Start, Item, exchanges_in, next_record, RunValue, RunIsAt, AreShort, lines_to_tell}
use Rattle.air_world.proofs.Names.{AreLegalTags, AnswerValue}
use Rattle.air_world.proofs.Passing.{tells-then}
use Rattle.air_world.proofs.Sending.{Sends, answers-short, entry-fits, entry-names, sent-behind, sent-heard, sent-plays}
use Rattle.air_world.proofs.run.Run.send.Given.{Over}
use Rattle.air_world.proofs.run.Run.send.Goals.{After-next_entry-entry}
use Rattle.air_world.proofs.run.Run.send.Goals as goal

-- the number of the exchange
number : (g : Over) (c : After-next_entry-entry g) {start : Start} {earlier : ℕ} {past : List Item} → RunIsAt start earlier past c.args.air.now c.args.self.now
    → c.self.inside.exchanges + 1 ≡ exchanges_in past + 1
number g c at = ap (λ (run : RunValue). run.exchanges + 1) c.self.view_is ∙ ap (λ n. n + 1) at.made

-- the entries that were left before it
left : (g : Over) (c : After-next_entry-entry g) {start : Start} {earlier : ℕ} {past : List Item} → RunIsAt start earlier past c.args.air.now c.args.self.now
    → AreEntriesLeft c.self.inside.entries start.entries (exchanges_in past)
left g c {start} {past} at = subst (λ l. AreEntriesLeft l start.entries (exchanges_in past)) (ap (λ (run : RunValue). run.entries) (sym c.self.view_is)) at.entries

-- what is said of it
entry : (g : Over) (c : After-next_entry-entry g) {start : Start} {earlier : ℕ} {past : List Item} → RunIsAt start earlier past c.args.air.now c.args.self.now
    → c.next_entry-entry.result.now ≡ entry_at start.entries (exchanges_in past + 1)
entry g c {start} at = c.next_entry-entry.ensures.entry _ _ (left g c at) (number g c at) ∙ ap (λ n. entry_at start.entries n) (number g c at)

pub overflow_add-self : goal.overflow_add-self
overflow_add-self g c = let r = c.requires in omega (arith, ap (λ (run : RunValue). run.exchanges) c.self.view_is, r.stands.at.made, r.room)

pub exchange-got-requires : goal.exchange-got-requires
exchange-got-requires g c =
    let at = c.requires.stands.at in
    let is = entry g (goal.at.exchange-got-requires g c).After-next_entry-entry at in
    record { named = entry-names _ at is; few = entry-fits _ at is }

pub tell_said-requires-clause-short : goal.tell_said-requires-clause-short
tell_said-requires-clause-short g c =
    subst (λ (answers : List AnswerValue). AreShort answers) (sym (ap (λ air. air.answers) c.exchange-got.ensures.air))
    (answers-short c.answers_are_replies.ensures.legal c.steps_keep_tags_legal.ensures.befallen c.args.command.now c.next_entry-entry.result.now c.args.air.now.tags c.requires.stands.at.legal)

pub returns : goal.returns
returns g c = λ begun past round slot stands.
    let start = begun.start in
    let at = stands.at in
    let before = (goal.at.returns g c).After-next_entry-entry in
    let stays = c.steps_keep_tags_legal.ensures.befallen in
    let number_is = number g before at in
    let is = entry g before at in
    let sends : Sends start begun.earlier past c.args.command.now = record {
      air = c.args.air.now;
      run = c.args.self.now;
      next = c.exchange-got.new.self;
      entry = c.next_entry-entry.result.now;
      got = c.exchange-got.result;
      plays = at;
      is = c.exchange-got.ensures.air;
      got_is = c.exchange-got.ensures.got;
      entry_is = is;
      legal = c.exchange-got.ensures.legal;
    } in
    let behind = sent-behind c.answers_are_replies.ensures.expected stays sends round slot in
    let told = tells-then (c.tell_said.ensures.told start.link (next_record start round slot c.args.command.now past) behind number_is refl is)
    (c.tell_waves.ensures c.exchange-got.result start.link (next_record start round slot c.args.command.now past) behind number_is) in
    record {
      at = sent-plays sends round slot _ number_is (ap (λ (run : RunValue). run.rounds) c.self.view_is)
          (subst (λ n. AreEntriesLeft c.next_entry-entry.new.self start.entries n) number_is (c.next_entry-entry.ensures.left _ _ (left g before at) number_is));
      behind = behind;
      received = sent-heard (record { rows = c.answers_are_replies.ensures.reply; range = c.answers_are_replies.ensures.legal; stays = stays }) start past round slot c.args.command.now
          (subst AreLegalTags at.tags at.legal) behind;
      heard = told.on begun.first (lines_to_tell start past) stands.heard;
    }
