use Rattle.std.proofs.Common.{◌≡◌, ◌∷◌, ◌++◌, ◌+◌, ◌∙◌, [], List, Bool, subst, sym, arith}
use Rattle.std.specs.Prelude.{Option, Some, None, ℕ}
use Rattle.command_grammar.specs.declared.reader.command_in_progress.State.{State}
use Rattle.command_grammar.specs.declared.refusal.Reason.{Reason}
use Rattle.command_grammar.specs.reading.Framing.{Keeps, IsOpen, IsSoundPosition, HasRead, HasDigits, StateStandsFor, TakesBit}
use Rattle.command_grammar.proofs.SpellingLaws.{stands_refused, judges_refused}
use Rattle.command_grammar.proofs.reading.Resuming.{open_small, open_few, few_open, open_more, keeps_more, open_sound, open_digits, ongoing_none, inside_stands, inside_keeps, inside_open, edge_stands, edge_refused}
use Rattle.command_grammar.proofs.reader.framer.Framer.push.Goals as goal

some_none : (refusal : ℕ × Reason) → ¬ (◌≡◌ {A = Option (ℕ × Reason)} (Some refusal) None)
some_none refusal same = absurd cc

pub take_digit-requires : goal.take_digit-requires
take_digit-requires c = open_small c.self.inside.state c.self.inside.pushed c.self.inside.refused c.self.invariant

pub overflow_add-self : goal.overflow_add-self
overflow_add-self c = omega (arith, open_few c.self.inside.state c.self.inside.pushed c.self.inside.refused c.self.invariant (c.take_digit.ensures.left c.if-take_digit.true))

pub invariant_of-self : goal.invariant_of-self
invariant_of-self c = open_more c.self.inside.state c.take_digit.new.self c.self.inside.pushed c.self.inside.refused c.args.bit (c.take_digit.ensures.taken c.if-take_digit.true) (c.take_digit.ensures.left c.if-take_digit.true) c.self.invariant

pub returns-then-take_digit-clause-stands : goal.returns-then-take_digit-clause-stands
returns-then-take_digit-clause-stands c = rw (← c.self.view_is) (λ bits keeps.
    (keeps_more c.self.inside.state c.take_digit.new.self c.self.inside.pushed c.self.inside.refused bits c.args.bit (c.take_digit.ensures.taken c.if-take_digit.true) (c.take_digit.ensures.left c.if-take_digit.true) c.self.invariant keeps).0)

pub returns-then-take_digit-clause-judges : goal.returns-then-take_digit-clause-judges
returns-then-take_digit-clause-judges c = rw (← c.self.view_is) (λ bits keeps.
    (keeps_more c.self.inside.state c.take_digit.new.self c.self.inside.pushed c.self.inside.refused bits c.args.bit (c.take_digit.ensures.taken c.if-take_digit.true) (c.take_digit.ensures.left c.if-take_digit.true) c.self.invariant keeps).1)

pub take_inside-requires : goal.take_inside-requires
take_inside-requires c =
    let same = sym (c.take_digit.ensures.same c.if-take_digit.false) in
    record {
      sound = subst (λ (s : State). IsSoundPosition s.position s.fields) same (open_sound c.self.inside.state c.self.inside.pushed c.self.inside.refused c.self.invariant);
      digits = subst (λ (s : State). (read : List Bool) × HasDigits s read) same (open_digits c.self.inside.state c.self.inside.pushed c.self.inside.refused c.self.invariant);
    }

pub overflow_add-self-then-take_inside : goal.overflow_add-self-then-take_inside
overflow_add-self-then-take_inside c =
    let same = sym (c.take_digit.ensures.same c.if-take_digit.false) in
    let is = subst (λ (s : State). IsOpen s c.self.inside.pushed c.self.inside.refused) same c.self.invariant in
    omega (arith, few_open c.take_digit.new.self c.self.inside.pushed c.self.inside.refused (ongoing_none c.take_digit.new.self c.self.inside.pushed c.self.inside.refused is (c.take_inside.ensures.ongoing c.if-take_inside.true)) is)

pub invariant_of-self-then-take_inside : goal.invariant_of-self-then-take_inside
invariant_of-self-then-take_inside c =
    let same = sym (c.take_digit.ensures.same c.if-take_digit.false) in
    let is = subst (λ (s : State). IsOpen s c.self.inside.pushed c.self.inside.refused) same c.self.invariant in
    inside_open c.take_digit.new.self c.take_inside.new.self c.self.inside.pushed c.self.inside.refused c.args.bit
    (ongoing_none c.take_digit.new.self c.self.inside.pushed c.self.inside.refused is (c.take_inside.ensures.ongoing c.if-take_inside.true))
    (c.take_inside.ensures.none c.if-take_inside.true) (c.take_inside.ensures.stands c.if-take_inside.true) (c.take_inside.ensures.digits c.if-take_inside.true) (c.take_inside.ensures.sound c.if-take_inside.true) is

pub returns-then-take_inside-clause-stands : goal.returns-then-take_inside-clause-stands
returns-then-take_inside-clause-stands c = rw (← c.self.view_is) (λ bits keeps.
    let same = sym (c.take_digit.ensures.same c.if-take_digit.false) in
    let is = subst (λ (s : State). IsOpen s c.self.inside.pushed c.self.inside.refused) same c.self.invariant in
    inside_keeps c.take_digit.new.self c.take_inside.new.self c.self.inside.pushed c.self.inside.refused bits c.args.bit
    (ongoing_none c.take_digit.new.self c.self.inside.pushed c.self.inside.refused is (c.take_inside.ensures.ongoing c.if-take_inside.true))
    (c.take_inside.ensures.none c.if-take_inside.true) (c.take_inside.ensures.stands c.if-take_inside.true) (c.take_inside.ensures.digits c.if-take_inside.true)
    (subst (λ (s : State). Keeps s c.self.inside.pushed c.self.inside.refused bits) same keeps))

pub returns-then-take_inside-clause-judges : goal.returns-then-take_inside-clause-judges
returns-then-take_inside-clause-judges c = rw (← c.self.view_is) (λ bits keeps.
    let same = sym (c.take_digit.ensures.same c.if-take_digit.false) in
    let is = subst (λ (s : State). IsOpen s c.self.inside.pushed c.self.inside.refused) same c.self.invariant in
    c.judge.ensures.judges (bits ++ c.args.bit ∷ []) (inside_stands c.take_digit.new.self c.take_inside.new.self c.self.inside.pushed c.self.inside.refused bits c.args.bit
    (ongoing_none c.take_digit.new.self c.self.inside.pushed c.self.inside.refused is (c.take_inside.ensures.ongoing c.if-take_inside.true))
    (c.take_inside.ensures.none c.if-take_inside.true) (c.take_inside.ensures.stands c.if-take_inside.true)
    (subst (λ (s : State). Keeps s c.self.inside.pushed c.self.inside.refused bits) same keeps)))

pub returns-then-take_inside-clause-remembers : goal.returns-then-take_inside-clause-remembers
returns-then-take_inside-clause-remembers c =
    let is = subst (λ (s : State). IsOpen s c.self.inside.pushed c.self.inside.refused) (sym (c.take_digit.ensures.same c.if-take_digit.false)) c.self.invariant in
    ongoing_none c.take_digit.new.self c.self.inside.pushed c.self.inside.refused is (c.take_inside.ensures.ongoing c.if-take_inside.true) ∙ sym c.judge.ensures.taken

pub returns-then-take_inside-clause-same : goal.returns-then-take_inside-clause-same
returns-then-take_inside-clause-same c = rw (← c.self.view_is) (λ place reason refused.
    let is = subst (λ (s : State). IsOpen s c.self.inside.pushed c.self.inside.refused) (sym (c.take_digit.ensures.same c.if-take_digit.false)) c.self.invariant in
    absurd (some_none (place, reason) (sym refused ∙ ongoing_none c.take_digit.new.self c.self.inside.pushed c.self.inside.refused is (c.take_inside.ensures.ongoing c.if-take_inside.true))))

pub returns-in-Some-clause-stands : goal.returns-in-Some-clause-stands
returns-in-Some-clause-stands c = rw (← c.self.view_is) (stands_refused c.self.inside.state c.take_inside.new.self c.self.inside.pushed c.self.inside.refused c.args.bit c.in-Some.place c.in-Some.reason c.in-Some.is)

pub returns-in-Some-clause-judges : goal.returns-in-Some-clause-judges
returns-in-Some-clause-judges c = rw (← c.self.view_is) (judges_refused c.self.inside.state c.self.inside.pushed c.self.inside.refused c.args.bit c.in-Some.place c.in-Some.reason c.in-Some.is)

pub overflow_add-self-in-None : goal.overflow_add-self-in-None
overflow_add-self-in-None c = omega (arith, few_open c.self.inside.state c.self.inside.pushed c.self.inside.refused c.in-None.is c.self.invariant)

pub returns-in-None-take_edge-clause-stands : goal.returns-in-None-take_edge-clause-stands
returns-in-None-take_edge-clause-stands c = rw (← c.self.view_is) (λ bits keeps.
    let same = sym (c.take_inside.ensures.same c.if-take_inside.false ∙ c.take_digit.ensures.same c.if-take_digit.false) in
    let read = subst (λ (s : State). HasRead s c.self.inside.pushed bits) same (subst (λ (r : Option (ℕ × Reason)). Keeps c.self.inside.state c.self.inside.pushed r bits) c.in-None.is keeps) in
    subst (λ (r : Option (ℕ × Reason)). Keeps c.take_edge.new.self (c.self.inside.pushed + 1) r (bits ++ c.args.bit ∷ [])) (sym c.in-None.is)
    (edge_stands c.take_inside.new.self c.take_edge.new.self c.self.inside.pushed bits c.args.bit read
    (subst (λ (r : Option Reason). (before front : List Bool) → StateStandsFor c.take_inside.new.self before → HasDigits c.take_inside.new.self front → TakesBit r c.take_edge.new.self (before ++ front) c.args.bit) c.in-None-take_edge.is c.take_edge.ensures.goes)
    (c.take_edge.ensures.digits c.in-None-take_edge.is)))

pub returns-in-Some-take_edge-clause-judges : goal.returns-in-Some-take_edge-clause-judges
returns-in-Some-take_edge-clause-judges c = rw (← c.self.view_is) (λ bits keeps.
    let same = sym (c.take_inside.ensures.same c.if-take_inside.false ∙ c.take_digit.ensures.same c.if-take_digit.false) in
    let read = subst (λ (s : State). HasRead s c.self.inside.pushed bits) same (subst (λ (r : Option (ℕ × Reason)). Keeps c.self.inside.state c.self.inside.pushed r bits) c.in-None.is keeps) in
    edge_refused c.take_inside.new.self c.take_edge.new.self c.self.inside.pushed bits c.args.bit c.in-Some-take_edge.reason read
    (subst (λ (r : Option Reason). (before front : List Bool) → StateStandsFor c.take_inside.new.self before → HasDigits c.take_inside.new.self front → TakesBit r c.take_edge.new.self (before ++ front) c.args.bit) c.in-Some-take_edge.is c.take_edge.ensures.goes))

pub returns-in-Some-take_edge-clause-stands : goal.returns-in-Some-take_edge-clause-stands
returns-in-Some-take_edge-clause-stands c = rw (← c.self.view_is) (λ bits keeps.
    let same = sym (c.take_inside.ensures.same c.if-take_inside.false ∙ c.take_digit.ensures.same c.if-take_digit.false) in
    let read = subst (λ (s : State). HasRead s c.self.inside.pushed bits) same (subst (λ (r : Option (ℕ × Reason)). Keeps c.self.inside.state c.self.inside.pushed r bits) c.in-None.is keeps) in
    edge_refused c.take_inside.new.self c.take_edge.new.self c.self.inside.pushed bits c.args.bit c.in-Some-take_edge.reason read
    (subst (λ (r : Option Reason). (before front : List Bool) → StateStandsFor c.take_inside.new.self before → HasDigits c.take_inside.new.self front → TakesBit r c.take_edge.new.self (before ++ front) c.args.bit) c.in-Some-take_edge.is c.take_edge.ensures.goes))

pub invariant_of-self-in-None-take_edge : goal.invariant_of-self-in-None-take_edge
invariant_of-self-in-None-take_edge c =
    let is : IsOpen c.self.inside.state c.self.inside.pushed None = subst (λ (r : Option (ℕ × Reason)). IsOpen c.self.inside.state c.self.inside.pushed r) c.in-None.is c.self.invariant in
    let same = sym (c.take_inside.ensures.same c.if-take_inside.false ∙ c.take_digit.ensures.same c.if-take_digit.false) in
    let read = subst (λ (s : State). HasRead s c.self.inside.pushed is.1) same is.2 in
    subst (λ (r : Option (ℕ × Reason)). IsOpen c.take_edge.new.self (c.self.inside.pushed + 1) r) (sym c.in-None.is) (
      c.take_edge.ensures.sound c.in-None-take_edge.is,
      is.1 ++ c.args.bit ∷ [],
      edge_stands c.take_inside.new.self c.take_edge.new.self c.self.inside.pushed is.1 c.args.bit read
          (subst (λ (r : Option Reason). (before front : List Bool) → StateStandsFor c.take_inside.new.self before → HasDigits c.take_inside.new.self front → TakesBit r c.take_edge.new.self (before ++ front) c.args.bit) c.in-None-take_edge.is c.take_edge.ensures.goes)
          (c.take_edge.ensures.digits c.in-None-take_edge.is),
    )
