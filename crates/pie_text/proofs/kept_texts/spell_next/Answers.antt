-- A space and digits are ASCII.
use Rattle.std.proofs.Common.{◌≡◌, ◌++◌, ◌∷◌, arith, subst, sym}
use Rattle.std.specs.Fmt.{decimal}
use Rattle.std.proofs.lemmas.Grind.{common_steps}
use Rattle.std.specs.Str.{IsAscii}
use Rattle.std.proofs.lemmas.Str.{IsAscii-append}
use Rattle.text_fields.specs.Lines.{space}
use Rattle.pie_text.proofs.PairTexts.{field_ascii}
use Rattle.pie_text.proofs.kept_texts.spell_next.Goals as goal

pub returns-clause-ascii : goal.returns-clause-ascii
returns-clause-ascii g c = λ ascii.
    let before = c.args.spelled.now.bytes in
    let field = space ∷ decimal c.args.interval in
    let text : c.push_str.new.self.bytes ≡ before ++ field = grind (arith, common_steps) in
    subst IsAscii (sym text) (IsAscii-append before field ascii (field_ascii c.args.interval c.ranges.interval.fits))
