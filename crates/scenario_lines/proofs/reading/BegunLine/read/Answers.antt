-- The fields behind the keyword say what the line says.
use Rattle.std.proofs.Common.{◌≡◌, ◌∙◌, rules, sym}
use Rattle.scenario_lines.specs.Names.{keyword_text}
use Rattle.scenario_lines.specs.Spelling.{other_fields, keyword_of}
use Rattle.scenario_lines.proofs.LineReasons.{only_spelled}
use Rattle.scenario_lines.proofs.ToldLines.{same_fields}
use Rattle.scenario_lines.proofs.ToldNames.{keyword_told}
use Rattle.scenario_lines.proofs.reading.BegunLine.read.Goals as goal

pub returns-clause-only : goal.returns-clause-only
returns-clause-only c = rw (← c.self.view_is) (λ said spells.
    let begins = c.self.invariant in
    let same = same_fields (keyword_text c.self.inside.keyword) (keyword_text (keyword_of said)) begins.others (other_fields said)
    (sym begins.first ∙ spells.spelling) in
    let rest : c.next.new.self ≡ begins.others = search rules in
    only_spelled c.self.inside.keyword c.next.new.self c.read_behind.result c.read_behind.ensures.ok c.read_behind.ensures.refused said
    (record { same_keyword = sym (keyword_told c.self.inside.keyword (keyword_of said) same.0); spelling = rest ∙ same.1; is = spells.is }))
