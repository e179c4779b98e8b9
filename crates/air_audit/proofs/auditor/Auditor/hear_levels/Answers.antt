use Rattle.air_audit.proofs.Names.{◌≡◌, ◌<◌, ◌^◌, List, [], ◌∷◌, Bool, ap, refl, subst, sym, ◌∙◌, arith, AuditorValue, IsHearing, DiffersFirst, word_of, exchanged, TagLaws, string_bytes}
use Rattle.air_audit.specs.declared.auditor.Position.TheVariants as positions
use Rattle.air_audit.proofs.Following.{heard-on, keeps-moved, levels-few, list-written, rx-alike, rx-not}
use Rattle.air_audit.proofs.auditor.Auditor.hear_levels.Goals as goal

pub returns-in-Err-clause-follows : goal.returns-in-Err-clause-follows
returns-in-Err-clause-follows g c = λ start past sent is.
    let laws : TagLaws = record { rows = c.answers_are_replies.ensures.reply; range = c.answers_are_replies.ensures.legal; stays = c.steps_keep_tags_legal.ensures.befallen } in
    let auditor : AuditorValue = c.args.self.now in
    let number = ap (λ (a : AuditorValue). a.exchanges) c.self.view_is in
    let count : c.len.result ≡ auditor.answers.count = c.len.ensures.count ∙ ap (λ (a : AuditorValue). a.answers.count) c.self.view_is in
    let levels : c.levels.result.now.items ≡ auditor.answers.levels = c.levels.ensures.value ∙ ap (λ (a : AuditorValue). a.answers.levels) c.self.view_is in
    let small : c.len.result < 2 ^ 32 = omega arith in
    let early : auditor.exchanges < 2 ^ 32 = omega (arith, c.requires.early.exchanges) in
    let count_small : auditor.answers.count < 2 ^ 32 = subst (λ n. n < 2 ^ 32) count small in
    let first : DiffersFirst auditor.exchanges auditor.answers.count auditor.answers.levels c.args.line.now c.in-Err.reason =
    subst (λ n. DiffersFirst n auditor.answers.count auditor.answers.levels c.args.line.now c.in-Err.reason) number
    (subst (λ n. DiffersFirst c.self.inside.exchanges n auditor.answers.levels c.args.line.now c.in-Err.reason) count
    (subst (λ (l : List Bool). DiffersFirst c.self.inside.exchanges c.len.result l c.args.line.now c.in-Err.reason) levels c.in-Err.ensures.refused)) in
    rx-not start past sent c.args.line.now auditor c.in-Err.reason is
    (record {
      readable = record { exchange_small = omega arith; count_small = omega arith; few = levels-few laws start past sent auditor is };
      word = ap word_of c.requires.word;
      first = first;
    })

pub returns-in_default-pair_to_list-clause-follows : goal.returns-in_default-pair_to_list-clause-follows
returns-in_default-pair_to_list-clause-follows g c = λ start past sent is.
    let same = c.self-2.view_is ∙ c.pair_to_list.ensures.same ∙ c.self.view_is in
    heard-on start past sent c.args.line.now c.args.self.now _ [] is c.requires.word
    (c.in_default.ensures.same refl
    ∙ rx-alike _ _ _ _ _ _ (ap (λ (a : AuditorValue). a.exchanges) c.self.view_is) (c.len.ensures.count ∙ ap (λ (a : AuditorValue). a.answers.count) c.self.view_is)
    (c.levels.ensures.value ∙ ap (λ (a : AuditorValue). a.answers.levels) c.self.view_is))
    (c.in_default-pair_to_list.ensures.lists start past sent (subst (λ (a : AuditorValue). IsHearing start past sent a) (sym c.self.view_is) is))
    (record {
      position_is = refl;
      keeps = keeps-moved start (exchanged sent ∷ past) c.args.self.now _
          (record { moves = ap (λ (a : AuditorValue). record a { position = positions.Between; text = string_bytes c.self-2.inside.text }) same }) is.keeps;
    })

pub returns-clause-follows : goal.returns-clause-follows
returns-clause-follows g c = λ start past sent is.
    let same = c.self-2.view_is ∙ c.pair_to_list.ensures.same ∙ c.self.view_is in
    heard-on start past sent c.args.line.now c.args.self.now _ _ is c.requires.word
    (c.in_default.ensures.same refl
    ∙ rx-alike _ _ _ _ _ _ (ap (λ (a : AuditorValue). a.exchanges) c.self.view_is) (c.len.ensures.count ∙ ap (λ (a : AuditorValue). a.answers.count) c.self.view_is)
    (c.levels.ensures.value ∙ ap (λ (a : AuditorValue). a.answers.levels) c.self.view_is))
    (c.in-Some.ensures.lists start past sent (subst (λ (a : AuditorValue). IsHearing start past sent a) (sym c.self.view_is) is))
    (record {
      position_is = refl;
      keeps = keeps-moved start (exchanged sent ∷ past) c.args.self.now _
          (record { moves = ap (λ (a : AuditorValue). record a { position = positions.Listing; text = string_bytes c.push_list_line.new.text }) same }) is.keeps;
      text = list-written start past sent c.args.self.now _ _ _ _ _ _ is c.in_ok-push_list_line.ensures c.clear.ensures.bytes (ap (λ (a : AuditorValue). a.round) same)
          (ap (λ (a : AuditorValue). a.slot) same);
    })
