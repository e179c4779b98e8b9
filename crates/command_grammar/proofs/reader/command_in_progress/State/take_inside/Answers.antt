use Rattle.std.proofs.Common.{◌≡◌, ◌∷◌, ◌++◌, ◌∙◌, [], Bool, List, ap, arith, refl, subst}
use Rattle.command_grammar.specs.declared.reader.command_in_progress.Position.{Position}
use Rattle.command_grammar.specs.declared.reader.command_in_progress.Position.TheVariants as positions
use Rattle.command_grammar.specs.reading.Framing.{CheckGoesAlong, IsServed, bits_of_number}
use Rattle.command_grammar.specs.reading.KnownBits.{known_bits}
use Rattle.command_grammar.proofs.reading.Resuming.{code_goes_on, known_goes_on, known_counted, no_number, none_left, no_digits}
use Rattle.command_grammar.proofs.reader.command_in_progress.State.take_inside.Goals as goal

pub returns-then-not-take_inside-clause-edge : goal.returns-then-not-take_inside-clause-edge
returns-then-not-take_inside-clause-edge c = λ no none.
    rw c.in-Within.is (c.take_inside.ensures.edge c.if-not-take_inside.true
    (subst (λ (position : Position). bits_of_number position ≡ 0) c.in-Within.is (no_number c.args.self.now c.requires.digits.0 none c.requires.digits.1)))

pub returns-else-not-take_inside-clause-none : goal.returns-else-not-take_inside-clause-none
returns-else-not-take_inside-clause-none c = λ yes.
    (none_left c.args.self.now c.requires.digits.0 (positions.Within c.in-Within.stage) c.in-Within.is (c.take_inside.ensures.other c.if-not-take_inside.false) c.requires.digits.1).0

pub returns-else-not-take_inside-clause-digits : goal.returns-else-not-take_inside-clause-digits
returns-else-not-take_inside-clause-digits c = λ yes.
    let old = none_left c.args.self.now c.requires.digits.0 (positions.Within c.in-Within.stage) c.in-Within.is (c.take_inside.ensures.other c.if-not-take_inside.false) c.requires.digits.1 in
    no_digits _ (omega (arith, old.0, c.take_inside.ensures.none c.if-not-take_inside.false)) old.1

pub returns-in-More-clause-stands : goal.returns-in-More-clause-stands
returns-in-More-clause-stands c = λ yes bits stands.
    record {
      counted = ap (λ (l : List Bool). l ++ c.args.bit ∷ []) (subst (λ (position : Position). CheckGoesAlong position c.args.self.now.check bits) c.in-Code.is stands.counted) ∙ c.in-More.ensures.keeps;
      served = tt;
      reads = code_goes_on c.args.self.now bits c.args.bit c.in-Code.front c.in-More.more c.in-Code.is c.in-More.ensures.says stands;
    }

pub returns-in-More-clause-none : goal.returns-in-More-clause-none
returns-in-More-clause-none c = λ yes.
    (none_left c.args.self.now c.requires.digits.0 (positions.Code c.in-Code.front) c.in-Code.is refl c.requires.digits.1).0

pub returns-in-More-clause-digits : goal.returns-in-More-clause-digits
returns-in-More-clause-digits c = λ yes.
    let old = none_left c.args.self.now c.requires.digits.0 (positions.Code c.in-Code.front) c.in-Code.is refl c.requires.digits.1 in
    no_digits _ old.0 old.1

pub begin_command-requires : goal.begin_command-requires
begin_command-requires c =
    record { none = none_left c.args.self.now c.requires.digits.0 (positions.Code c.in-Code.front) c.in-Code.is refl c.requires.digits.1 }

pub returns-in-Known-clause-stands : goal.returns-in-Known-clause-stands
returns-in-Known-clause-stands c = λ yes bits stands.
    record {
      counted = known_counted c.args.self.now.check bits (known_bits c.take_inside-in-Known.new.self) c.args.bit c.in-Known.wanted (c.take_inside-in-Known.ensures.reads yes)
          (subst (λ (position : Position). CheckGoesAlong position c.args.self.now.check bits) c.in-Known.is stands.counted);
      served = subst (λ (position : Position). IsServed position c.args.self.now.check c.args.self.now.behind.now) c.in-Known.is stands.served;
      reads = known_goes_on c.args.self.now bits c.args.bit c.in-Known.field-0 c.in-Known.wanted c.take_inside-in-Known.new.self c.in-Known.is (c.take_inside-in-Known.ensures.reads yes) stands;
    }

pub returns-in-Known-clause-none : goal.returns-in-Known-clause-none
returns-in-Known-clause-none c = λ yes.
    (none_left c.args.self.now c.requires.digits.0 (positions.Known c.in-Known.field-0 c.in-Known.wanted) c.in-Known.is refl c.requires.digits.1).0

pub returns-in-Known-clause-digits : goal.returns-in-Known-clause-digits
returns-in-Known-clause-digits c = λ yes.
    let old = none_left c.args.self.now c.requires.digits.0 (positions.Known c.in-Known.field-0 c.in-Known.wanted) c.in-Known.is refl c.requires.digits.1 in
    no_digits _ old.0 old.1
