-- The fields of an air line.
use Rattle.std.proofs.Common.{◌≡◌, ◌≢◌, [], ◌∷◌, ◌∙◌, List, ℕ, ap, length, rules, sym}
use Rattle.std.proofs.lemmas.Bool.{eqb-false}
use Rattle.scenario_lines.proofs.AirFields.{air_shape}
use Rattle.scenario_lines.proofs.FirstNumbers.{first_number, not_found}
use Rattle.scenario_lines.proofs.reading.air.read_air.Goals as goal

pub returns-in-None-clause-refused : goal.returns-in-None-clause-refused
returns-in-None-clause-refused c =
    let first : c.args.others ≡ c.in-Some.exchange.now ∷ c.next.new.self = search rules in
    let second : c.next.new.self ≡ c.in-Some-next.kind.now ∷ c.next-2.new.self = search rules in
    let filled : c.in-Some.exchange.now ≢ [] = λ none.
    eqb-false (length c.in-Some.exchange.now) 0 (sym c.is_empty.ensures ∙ c.if-is_empty.false) (ap length none) in
    let whole : c.args.others ≡ c.in-Some.exchange.now ∷ c.in-Some-next.kind.now ∷ c.next-2.new.self =
    first ∙ ap (λ (rest : List (List ℕ)). c.in-Some.exchange.now ∷ rest) second in (
      rw whole (air_shape c.in-Some.exchange.now c.in-Some-next.kind.now c.next-2.new.self c.in-Some-value_named.kind c.in_ok-happening.happening
          filled c.in-Some-value_named.ensures.value c.in_ok-happening.ensures.ok),
      λ exchange happening is is' spells.
          not_found (c.in-None.ensures.only exchange is.0 is.1 (first_number c.in-Some.exchange.now c.next.new.self _ exchange first spells).0),
    )
