use Rattle.std.specs.List.{All}
use Rattle.air_audit.proofs.Names.{◌≡◌, ◌+◌, List, Ok, arith, length, refl, ap, sym, ◌∙◌, subst, AuditorValue, IsShortAnswer, IsNoTxLine, Place, Sends, AreEntriesLeft, Several, given_of, heard_levels}
use Rattle.air_audit.proofs.Names.{exchanges_in, Command, LinkValue, length-map, TagValue, Replied, outcomes_in, replies_from, length-befallen, one_exchange, AnswerValue, AnswersValue, answer_of}
use Rattle.air_audit.proofs.Names.{answers_of, hearing_from}
use Rattle.air_audit.proofs.Exchanges.{Parts, parts-of, events-there, handed-on, hearing, left-before, missed-there, next-known, next-number, same-next}
use Rattle.air_audit.proofs.HeardAnswers.{short-answers}
use Rattle.air_audit.proofs.auditor.Auditor.send.Goals as goal

pub befall_all-requires : goal.befall_all-requires
befall_all-requires g c =
    let r = c.requires.underway in
    let parts : Parts c.args.self.now = parts-of _ c.args.self.now c.self.view_is in
    events-there r.0 r.1 c.self.inside.population c.next_entry-entry.result.now c.as_slice.result.now
    (next-known r.0 r.1 c.args.self.now parts _ c.next_entry-entry.result.now r.2 c.from.ensures c.next_entry-entry.ensures.entry) c.as_slice.ensures.value

pub hear-requires-clause-missed : goal.hear-requires-clause-missed
hear-requires-clause-missed g c =
    let r = c.requires.underway in
    let parts : Parts c.args.self.now = parts-of _ c.args.self.now c.self.view_is in
    missed-there r.0 r.1 c.self.inside.population c.befall_all.new.self c.next_entry-entry.result.now c.as_slice.result.now
    (next-known r.0 r.1 c.args.self.now parts _ c.next_entry-entry.result.now r.2 c.from.ensures c.next_entry-entry.ensures.entry) c.befall_all.ensures.tags

pub hear-requires-clause-room : goal.hear-requires-clause-room
hear-requires-clause-room g c =
    omega (arith, c.self.invariant.1, ap (λ (tags : List TagValue). length tags) c.befall_all.ensures.tags, length-befallen 0 c.as_slice.result.now c.self.inside.population)

pub invariant_of-self-2 : goal.invariant_of-self-2
invariant_of-self-2 g c =
    let befallen : length c.befall_all.new.self ≡ length c.self.inside.population =
    ap (λ (tags : List TagValue). length tags) c.befall_all.ensures.tags ∙ length-befallen 0 c.as_slice.result.now c.self.inside.population in
    (c.self.invariant.0, omega (arith, c.self.invariant.1, befallen, c.hear.ensures.count, ap (λ (a : AnswersValue). a.tags) c.hear.ensures.answers))

pub hear-requires-2-clause-short : goal.hear-requires-2-clause-short
hear-requires-2-clause-short g c =
    let replies : List Replied = replies_from 0 (hearing_from 0 c.command-command.result.now c.next_entry-entry.result.now c.befall_all.new.self) in
    subst (λ (items : List AnswerValue). All IsShortAnswer items) (sym (ap (λ (a : AnswersValue). a.items) c.hear.ensures.answers)) (short-answers replies c.hear.ensures.sent)

pub returns-in_err-read-clause-refused : goal.returns-in_err-read-clause-refused
returns-in_err-read-clause-refused g c =
    handed-on (IsNoTxLine (c.args.self.now.exchanges + 1) c.args.line.now) c.in_err-read.field-0.0 c.from_residual.result c.from_residual.ensures.1
    (subst (λ n. IsNoTxLine n c.args.line.now c.in_err-read.field-0.0) (ap (λ (a : AuditorValue). a.exchanges + 1) c.self.view_is) c.in_err-read.ensures.refused)

pub returns-clause-sends : goal.returns-clause-sends
returns-clause-sends g c = λ ok start past keeps.
    let parts : Parts c.args.self.now = parts-of _ c.args.self.now c.self.view_is in
    let read = c.in_ok-read.ensures.reads refl in
    let command : Command = c.command-command.result.now in
    let next = next-known start past c.args.self.now parts _ c.next_entry-entry.result.now keeps c.from.ensures c.next_entry-entry.ensures.entry in
    let number = next-number start past c.args.self.now parts _ keeps c.from.ensures in
    let own = next-number start past c.args.self.now parts (c.self.inside.exchanges + 1) keeps refl in
    let heard : c.read.new.self ≡ Ok command = c.command-command.ensures in
    let same : read.command ≡ command = let was = read.read in cc in
    let replies : List Replied = replies_from 0 (hearing_from 0 command c.next_entry-entry.result.now c.befall_all.new.self) in
    let answers : c.hear.new.answers.items ≡ answers_of replies = ap (λ (a : AnswersValue). a.items) c.hear.ensures.answers in
    let link = ap (λ (a : AuditorValue). a.answers.link) c.self.view_is in
    let several = ap (λ (a : AuditorValue). a.several) c.self.view_is in
    let round = ap (λ (a : AuditorValue). a.round) c.self.view_is in
    let slot = ap (λ (a : AuditorValue). a.slot) c.self.view_is in
    record {
      command = command;
      sends =
          subst (λ n. Sends n c.args.line.now command) own
          (subst (λ (sent : Command). Sends (c.self.inside.exchanges + 1) c.args.line.now sent) same read.sends);
      hearing = hearing start past command _ (record {
        before = c.args.self.now;
        entry = c.next_entry-entry.result.now;
        outcomes = hearing_from 0 command c.next_entry-entry.result.now c.befall_all.new.self;
        keeps = keeps;
        entry_is = next.is;
        outcomes_are =
            subst (λ (tags : List TagValue). hearing_from 0 command c.next_entry-entry.result.now c.befall_all.new.self ≡ outcomes_in command c.next_entry-entry.result.now tags) parts.tags_are
            (one_exchange command c.next_entry-entry.result.now c.self.inside.population c.befall_all.new.self c.as_slice.result.now c.as_slice.ensures.value c.befall_all.ensures.tags);
        tags = c.hear.ensures.tags;
        legal = c.hear.ensures.legal;
        count = ap length answers ∙ length-map replies answer_of;
        levels =
            c.hear-2.ensures.heard replies answers
            ∙ ap (λ (l : LinkValue). heard_levels l (given_of l replies c.next_entry-entry.result.now.choice c.self.inside.several)) link
            ∙ ap (λ (s : Several). heard_levels c.args.self.now.answers.link (given_of c.args.self.now.answers.link replies c.next_entry-entry.result.now.choice s)) several;
        link = c.hear-2.ensures.link ∙ link;
        several = several;
        entries = subst (λ n. AreEntriesLeft c.next_entry-entry.new.self start.entries n) number
            (c.next_entry-entry.ensures.left start.entries (exchanges_in past) (left-before start past c.args.self.now parts keeps) number);
        exchanges = ap (λ (a : AuditorValue). a.exchanges + 1) c.self.view_is;
        round = c.place_of_command-round.ensures.round ∙ ap (λ (p : Place). p.round) (same-next command _ _ _ _ round slot);
        slot = c.place_of_command-round.ensures.slot ∙ ap (λ (p : Place). p.slot) (same-next command _ _ _ _ round slot);
        sent = heard;
        position = refl;
      });
    }
