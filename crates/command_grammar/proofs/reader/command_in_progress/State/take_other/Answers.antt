use Rattle.std.proofs.Common.{◌≡◌, ◌++◌, ◌∷◌, [], ◌∙◌, Bool, ap, append-nil, subst, sym}
use Rattle.std.specs.Prelude.{not}
use mathlib.Core.Bool.{beq}
use Rattle.command_grammar.specs.declared.reader.command_in_progress.Position.{Position}
use Rattle.command_grammar.specs.reading.CheckNumbers.{IsRegisterOf}
use Rattle.command_grammar.specs.reading.Framing.{CheckGoesAlong, IsAtEdge}
use Rattle.command_grammar.specs.reading.KnownBits.{known_bits}
use Rattle.command_grammar.proofs.reading.KnownBits.{same_bits, known_last}
use Rattle.command_grammar.proofs.reading.Resuming.{known_ends, known_stops, known_counted}
use Rattle.command_grammar.proofs.reader.command_in_progress.State.take_other.Goals as goal

pub returns-then-bit-next-clause-goes : goal.returns-then-bit-next-clause-goes
returns-then-bit-next-clause-goes c = λ bits stands.
    known_stops c.args.self.now bits c.args.bit c.in-Known.reason c.in-Known.wanted c.in-Known.is (ap (λ (b : Bool). not (beq c.args.bit b)) (sym c.next.ensures) ∙ c.if-bit-next.true) stands

pub returns-else-bit-next-clause-goes : goal.returns-else-bit-next-clause-goes
returns-else-bit-next-clause-goes c = λ bits stands.
    let same = same_bits c.args.bit c.next.result c.if-bit-next.false ∙ c.next.ensures in
    let last : known_bits c.in-Known.wanted ≡ c.args.bit ∷ [] = known_last c.in-Known.wanted c.args.bit same (subst (λ (position : Position). IsAtEdge position c.args.bit) c.in-Known.is c.requires.edge same) in
    let register : IsRegisterOf c.args.self.now.check (bits ++ c.args.bit ∷ []) = subst (IsRegisterOf c.args.self.now.check) (append-nil (bits ++ c.args.bit ∷ []))
    (known_counted c.args.self.now.check bits [] c.args.bit c.in-Known.wanted last (subst (λ (position : Position). CheckGoesAlong position c.args.self.now.check bits) c.in-Known.is stands.counted)) in
    record {
      counted = c.begin-in-Known.ensures.counts (bits ++ c.args.bit ∷ []) register;
      served = c.begin-in-Known.ensures.serves;
      reads = λ rest. known_ends c.args.self.now bits c.args.bit c.in-Known.reason c.in-Known.wanted c.in-Known.is last stands rest ∙ c.begin-in-Known.ensures.reads (bits ++ c.args.bit ∷ []) rest register;
    }
