-- What is known of the input when it ended.
use Rattle.std.proofs.Common.{◌≡◌, ◌≢◌, length, ap, rules}
use Rattle.std.proofs.lemmas.List.{nil_from_length}
use Rattle.checked_lines.specs.laws.AnsweredLines.{answers_all, fault_last}
use Rattle.decode_lines.specs.Answer.{decode_rules}
use Rattle.decode_lines.proofs.AnsweredLines.{fault_known, none_known}
use Rattle.decode_lines.proofs.lines.Answering.end.Goals as goal

pub returns-in-Some-clause-refused : goal.returns-in-Some-clause-refused
returns-in-Some-clause-refused c = λ input stands. fault_known _ _ input _ _ _ c.in-Some.is stands

pub returns-then-is_empty-clause-ok : goal.returns-then-is_empty-clause-ok
returns-then-is_empty-clause-ok c = λ input stands.
    let none : length c.args.self.part.items ≡ 0 = search rules in
    answers_all decode_rules input _ _ _ (none_known _ input _ _ _ c.in_default.is stands).0 (nil_from_length c.args.self.part.items none)

pub returns-clause-refused : goal.returns-clause-refused
returns-clause-refused c = λ input stands.
    let so_far = none_known _ input _ _ _ c.in_default.is stands in
    let some : length c.args.self.part.items ≢ 0 = search rules in
    fault_last decode_rules input _ _ so_far.0.asks so_far.1 (λ none. some (ap length none))
