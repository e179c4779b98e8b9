-- What the next line says, or the first reason for which it may not stand there.
use Rattle.std.proofs.Common.{inl, refl, rules, subst, sym}
use Rattle.text_fields.specs.Lines.{fields_of}
use Rattle.scenario_lines.specs.declared.keywords.Keyword.{Keyword}
use Rattle.scenario_lines.specs.LineBeginnings.{spelled_begins}
use Rattle.scenario_lines.specs.LineFaults.{BeginsWithKeyword, IsFaultyLine}
use Rattle.scenario_lines.specs.SpelledLines.{SpellsLine}
use Rattle.scenario_lines.specs.Spelling.{keyword_of}
use Rattle.scenario.specs.Faults.{IsFaultyAt}
use Rattle.scenario.specs.Standing.{HasRoomForLine, MayStand}
use Rattle.scenario.specs.ReaderAnswers.{standing_of}
use Rattle.checked_lines.specs.laws.HandedOn.{fault_handed_on}
use Rattle.scenario.proofs.Refusals.{says_nothing, says_otherwise}
use Rattle.scenario.proofs.progress.Progress.said_behind_first.Goals as goal

pub returns-in_default-clause-refused : goal.returns-in_default-clause-refused
returns-in_default-clause-refused c = inl ((λ begins. c.in_default.ensures.none begins.keyword begins.begins), refl)

pub returns-in_err-said-clause-refused : goal.returns-in_err-said-clause-refused
returns-in_err-said-clause-refused c =
    let standing = standing_of c.args.self.now in
    let fields = fields_of c.args.line.now in
    let reason = c.in_err-said.field-0.0 in
    let keyword = c.keyword-keyword.result in
    let begins = subst (λ f. BeginsWithKeyword f keyword) c.in-Some.ensures.value c.keyword-keyword.ensures.value in
    let stands : MayStand standing keyword = search rules in
    let room : HasRoomForLine standing keyword = search rules in
    fault_handed_on c.from_residual.result reason (IsFaultyAt standing fields) c.from_residual.ensures.1
    (says_nothing standing fields keyword begins stands room reason (subst (λ f. IsFaultyLine f reason) c.in-Some.ensures.value c.in_err-said.ensures.refused))

pub returns-in_err-agree-clause-refused : goal.returns-in_err-agree-clause-refused
returns-in_err-agree-clause-refused c =
    let standing = standing_of c.args.self.now in
    let fields = fields_of c.args.line.now in
    let fault = c.in_err-agree.field-0.0 in
    let keyword = c.keyword-keyword.result in
    let begins = subst (λ f. BeginsWithKeyword f keyword) c.in-Some.ensures.value c.keyword-keyword.ensures.value in
    let stands : MayStand standing keyword = search rules in
    let room : HasRoomForLine standing keyword = search rules in
    let cause = c.from_residual-in_err-agree in
    fault_handed_on cause.result fault (IsFaultyAt standing fields) cause.ensures.1
    (says_otherwise standing fields keyword begins stands room c.in_ok-said.said fault (subst (λ f. SpellsLine f c.in_ok-said.said) c.in-Some.ensures.value c.in_ok-said.ensures.ok)
    c.in_err-agree.ensures.disagrees)

pub returns-clause-ok : goal.returns-clause-ok
returns-clause-ok c =
    let standing = standing_of c.args.self.now in
    let said = c.in_ok-said.said in
    let spells = subst (λ f. SpellsLine f said) c.in-Some.ensures.value c.in_ok-said.ensures.ok in
    let same = c.keyword-keyword.ensures.only (keyword_of said) (spelled_begins c.in-Some.begun said c.in_ok-said.ensures.ok) in
    let stands : MayStand standing c.keyword-keyword.result = search rules in
    let room : HasRoomForLine standing c.keyword-keyword.result = search rules in (
      spells,
      record {
        is = spells.is;
        stands = subst (λ (keyword : Keyword). MayStand standing keyword) (sym same) stands;
        room = subst (λ (keyword : Keyword). HasRoomForLine standing keyword) (sym same) room;
        agrees = c.in_ok-agree.ensures.ok;
      },
    )
