use Rattle.std.proofs.Common.{◌++◌, ◌∷◌, [], ◌∙◌, ap, subst, sym, append_assoc, arith}
use Rattle.command_grammar.specs.declared.reader.fields.Fields.{Fields}
use Rattle.command_grammar.specs.declared.reader.field_in_progress.Next.{Next}
use Rattle.command_grammar.specs.declared.reader.field_in_progress.Stage.{Stage}
use Rattle.command_grammar.specs.declared.reader.command_in_progress.Position.{Position}
use Rattle.command_grammar.specs.declared.reader.command_in_progress.Position.TheVariants as positions
use Rattle.std.specs.Prelude.{Option}
use Rattle.command_grammar.specs.declared.refusal.Reason.{Reason}
use Rattle.command_grammar.specs.reading.CheckNumbers.{AreServed}
use Rattle.command_grammar.specs.reading.Readers.{Reading, ◌>>=◌}
use Rattle.command_grammar.specs.reading.CommandFields.{all_of, run}
use Rattle.command_grammar.specs.reading.FieldStages.{next_from}
use Rattle.command_grammar.specs.reading.Framing.{CheckGoesAlong, IsServed}
use Rattle.command_grammar.proofs.reading.Resuming.{number_wide, number_value, number_small, number_goes, number_counted}
use Rattle.command_grammar.proofs.reader.command_in_progress.State.take_last.Goals as goal

pub push_number-requires-clause-fits : goal.push_number-requires-clause-fits
push_number-requires-clause-fits c =
    rw c.width.ensures (number_small c.args.self.now c.in-Number.field c.requires.digits.0 c.args.bit c.with-value.result (c.in-Within.is ∙ ap (λ (stage : Stage). positions.Within stage) c.in-Number.is) c.requires.last c.requires.digits.1 c.with-value.ensures)

pub take_number-requires-clause-small : goal.take_number-requires-clause-small
take_number-requires-clause-small c =
    number_small c.args.self.now c.in-Number.field c.requires.digits.0 c.args.bit c.with-value.result (c.in-Within.is ∙ ap (λ (stage : Stage). positions.Within stage) c.in-Number.is) c.requires.last c.requires.digits.1 c.with-value.ensures

pub returns-in-Refused-clause-goes : goal.returns-in-Refused-clause-goes
returns-in-Refused-clause-goes c = λ before read stands digits rest.
    ap all_of (sym (append_assoc (before ++ read) (c.args.bit ∷ []) rest))
    ∙ number_goes c.args.self.now c.in-Number.field before read c.args.bit c.with-value.result (c.in-Within.is ∙ ap (λ (stage : Stage). positions.Within stage) c.in-Number.is) (number_wide c.args.self.now c.in-Number.field read (c.in-Within.is ∙ ap (λ (stage : Stage). positions.Within stage) c.in-Number.is) c.requires.last digits) (number_value c.args.self.now read c.args.bit c.with-value.result digits c.with-value.ensures) stands rest
    ∙ ap (λ (r : Reading Fields). r >>= λ x. run c.args.self.now.behind.now c.args.self.now.kind x.0 (((before ++ read) ++ c.args.bit ∷ []) ++ rest) x.1)
    (c.take_number.ensures.reads rest ∙ ap (λ (n : Next). next_from n c.take_number.new.fields rest) c.in-Refused.is)

pub returns-in-Stay-clause-goes : goal.returns-in-Stay-clause-goes
returns-in-Stay-clause-goes c = rw c.stay.ensures (λ before read stands digits.
    let wide = number_wide c.args.self.now c.in-Number.field read (c.in-Within.is ∙ ap (λ (stage : Stage). positions.Within stage) c.in-Number.is) c.requires.last digits in
    let value = number_value c.args.self.now read c.args.bit c.with-value.result digits c.with-value.ensures in
    record {
      counted = number_counted c.push_number.new.self before read c.args.bit c.with-value.result c.width.result (omega (arith, wide, c.width.ensures)) value
          (c.push_number.ensures.counts before (subst (λ (position : Position). CheckGoesAlong position c.args.self.now.check before) (c.in-Within.is ∙ ap (λ (stage : Stage). positions.Within stage) c.in-Number.is) stands.counted));
      served = subst (λ (kept : Option Reason). AreServed kept c.args.self.now.behind.now) (sym c.push_number.ensures.kept)
          (subst (λ (position : Position). IsServed position c.args.self.now.check c.args.self.now.behind.now) (c.in-Within.is ∙ ap (λ (stage : Stage). positions.Within stage) c.in-Number.is) stands.served);
      reads = λ rest. number_goes c.args.self.now c.in-Number.field before read c.args.bit c.with-value.result (c.in-Within.is ∙ ap (λ (stage : Stage). positions.Within stage) c.in-Number.is) wide value stands rest
          ∙ ap (λ (r : Reading Fields). r >>= λ x. run c.args.self.now.behind.now c.args.self.now.kind x.0 (((before ++ read) ++ c.args.bit ∷ []) ++ rest) x.1)
          (c.take_number.ensures.reads rest ∙ ap (λ (n : Next). next_from n c.take_number.new.fields rest) c.in-Stay.is);
    })

pub returns-in-Done-clause-goes : goal.returns-in-Done-clause-goes
returns-in-Done-clause-goes c = λ before read stands digits.
    let wide = number_wide c.args.self.now c.in-Number.field read (c.in-Within.is ∙ ap (λ (stage : Stage). positions.Within stage) c.in-Number.is) c.requires.last digits in
    let value = number_value c.args.self.now read c.args.bit c.with-value.result digits c.with-value.ensures in
    let register = number_counted c.push_number.new.self before read c.args.bit c.with-value.result c.width.result (omega (arith, wide, c.width.ensures)) value
    (c.push_number.ensures.counts before (subst (λ (position : Position). CheckGoesAlong position c.args.self.now.check before) (c.in-Within.is ∙ ap (λ (stage : Stage). positions.Within stage) c.in-Number.is) stands.counted)) in
    record {
      counted = c.begin.ensures.counts ((before ++ read) ++ c.args.bit ∷ []) register;
      served = c.begin.ensures.serves;
      reads = λ rest. number_goes c.args.self.now c.in-Number.field before read c.args.bit c.with-value.result (c.in-Within.is ∙ ap (λ (stage : Stage). positions.Within stage) c.in-Number.is) wide value stands rest
          ∙ ap (λ (r : Reading Fields). r >>= λ x. run c.args.self.now.behind.now c.args.self.now.kind x.0 (((before ++ read) ++ c.args.bit ∷ []) ++ rest) x.1)
          (c.take_number.ensures.reads rest ∙ ap (λ (n : Next). next_from n c.take_number.new.fields rest) c.in-Done.is)
          ∙ c.begin.ensures.reads ((before ++ read) ++ c.args.bit ∷ []) rest register;
    }
