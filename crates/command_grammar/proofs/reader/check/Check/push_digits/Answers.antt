use Rattle.std.proofs.Common.{◌≡◌, ◌-◌, ◌/◌, ◌%◌, ◌^◌, ◌++◌, ◌∷◌, [], ◌∙◌, ℕ, List, Bool, sym, ap, subst, append_assoc, append-nil, arith}
use Rattle.std.specs.Prelude.{◌==◌}
use Rattle.bit_strings.specs.NumbersInBits.{field_of}
use Rattle.bit_strings.specs.laws.NumbersInBits.{field_of-more, field_of-none}
use Rattle.command_grammar.specs.reading.CheckNumbers.{IsRegisterOf}
use Rattle.command_grammar.proofs.reader.check.Check.push_digits.Goals as goal

pub loop-places-preserved : goal.loop-places-preserved
loop-places-preserved c =
    let read : List Bool = c.loop-places.invariant.0.0 in
    let less : ℕ = c.loop-places.places - 1 in
    let bit : Bool = c.args.value / 2 ^ less % 2 == 1 in
    let more : (read ++ bit ∷ []) ++ field_of c.args.value less ≡ field_of c.args.value c.args.width =
    append_assoc read (bit ∷ []) (field_of c.args.value less)
    ∙ ap (λ (l : List Bool). read ++ l) (sym (field_of-more c.args.value c.loop-places.places less (omega arith)))
    ∙ c.loop-places.invariant.0.1 in (
      (read ++ bit ∷ [], more, λ front counts. subst (IsRegisterOf c.push.new.self) (append_assoc front read (bit ∷ [])) (c.push.ensures.counts (front ++ read) (c.loop-places.invariant.0.2 front counts))),
      c.push.ensures.kept ∙ c.loop-places.invariant.1,
      omega arith,
    )

pub returns : goal.returns
returns c =
    let read : List Bool = c.loop-places.invariant.0.0 in
    let whole : read ≡ field_of c.args.value c.args.width =
    sym (append-nil read) ∙ ap (λ (l : List Bool). read ++ l) (sym (field_of-none c.args.value c.loop-places.places (omega (arith, c.loop-places-test.false)))) ∙ c.loop-places.invariant.0.1 in
    record {
      counts = λ front counts. subst (λ (l : List Bool). IsRegisterOf c.loop-places.self (front ++ l)) whole (c.loop-places.invariant.0.2 front counts);
      kept = c.loop-places.invariant.1;
    }
