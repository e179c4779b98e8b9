use Rattle.std.proofs.Common.{◌≡◌, ◌≢◌, ◌+◌, ◌↔◌, inl, inr, Bool, true, false, [], ◌∷◌, ◌++◌, length, Some, IsTrue, slice_get, ap, ◌∙◌, refl, arith, append_assoc}
use Rattle.std.proofs.lemmas.Bool.{both_ways}
use Rattle.bit_strings.specs.BitString.{BitString}
use Rattle.line_code.specs.States.{InsideValue, fits_of}
use Rattle.line_code.specs.TableFacts.{CodeTable}
use Rattle.line_code.specs.laws.Reading.{BlockGoesOn, EndsBlock, reads_bad, reads_more, reads_bit, further}
use Rattle.line_code.specs.laws.LevelTests.{each_bit, chosen}
use Rattle.line_code.proofs.states.Inside.push.Goals as goal

pub returns-then-not-one_fits-clause-answer : goal.returns-then-not-one_fits-clause-answer
returns-then-not-one_fits-clause-answer g c =
    let code : CodeTable = record { table = g.C.LineCode.table; chips = g.C.LineCode.CHIPS; even = g.met.C.LineCode.even; tells = g.met.C.LineCode.tells_bits } in
    rw (← c.self.view_is) (λ trext levels bits stood r e.
    let t = g.C.LineCode.table in
    let inside = c.self.inside in
    let context = g.C.LineCode.context_of inside.mark in
    let Fails : Bool → Type 0 = λ bit. IsTrue (fits_of (record { context = context; place = inside.place; zero_fits = inside.zero_fits; one_fits = inside.one_fits; taken = inside.taken; put = inside.put; last = inside.last }) bit) → slice_get (t.block context bit) inside.place ≢ Some c.args.level in (
      r.taken_is,
      reads_bad code trext _ levels bits c.args.level r
          (each_bit Fails
          (λ fits at. both_ways _ c.if-not-zero_fits.true (c.still_fits-zero_fits.ensures.1 (fits, at)))
          (λ fits at. both_ways _ c.if-not-one_fits.true (c.still_fits-one_fits.ensures.1 (fits, at)))),
      refl,
    ))

pub returns-then-place-CHIPS-clause-answer : goal.returns-then-place-CHIPS-clause-answer
returns-then-place-CHIPS-clause-answer g c =
    rw (← c.self.view_is) (λ trext levels bits stood r e.
    let t = g.C.LineCode.table in
    let inside = c.self.inside in
    let context = g.C.LineCode.context_of inside.mark in
    let z = c.still_fits-zero_fits.result in
    let o = c.still_fits-one_fits.result in
    let state : InsideValue = record { context = context; place = inside.place; zero_fits = inside.zero_fits; one_fits = inside.one_fits; taken = inside.taken; put = inside.put; last = inside.last } in
    let Agrees : Bool → Type 0 = λ bit. IsTrue (fits_of (further state z o) bit) ↔ (IsTrue (fits_of state bit) × (slice_get (t.block context bit) inside.place ≡ Some c.args.level)) in
    let Fits : Type 0 = (bit : Bool) × IsTrue (fits_of (further state z o) bit) in
    let fits : Fits = elim c.else-not-zero_fits.either [ inl both ↦ (true, both.1) | inr one ↦ (false, one) ] in
    let on : BlockGoesOn t state c.args.level =
    record {
      zero_fits = z;
      one_fits = o;
      begun = λ bit. let size = g.met.C.LineCode.even.blocks_even context bit in let chips = c.CHIPS.ensures in omega (arith, c.if-place-CHIPS.true);
      fits_is = each_bit Agrees c.still_fits-zero_fits.ensures c.still_fits-one_fits.ensures;
      some_bit = fits.0;
      some_fits = fits.1;
    } in (
      bits,
      reads_more t trext state levels bits c.args.level r on,
      e,
    ))

pub returns-clause-answer : goal.returns-clause-answer
returns-clause-answer g c =
    let code : CodeTable = record { table = g.C.LineCode.table; chips = g.C.LineCode.CHIPS; even = g.met.C.LineCode.even; tells = g.met.C.LineCode.tells_bits } in
    rw (← c.self.view_is) (λ trext levels bits stood r e.
    let t = g.C.LineCode.table in
    let inside = c.self.inside in
    let context = g.C.LineCode.context_of inside.mark in
    let z = c.still_fits-zero_fits.result in
    let o = c.still_fits-one_fits.result in
    let state : InsideValue = record { context = context; place = inside.place; zero_fits = inside.zero_fits; one_fits = inside.one_fits; taken = inside.taken; put = inside.put; last = inside.last } in
    let Agrees : Bool → Type 0 = λ bit. IsTrue (fits_of state bit) × (slice_get (t.block context bit) inside.place ≡ Some c.args.level) in
    let agrees = chosen z o c.else-not-zero_fits.either Agrees c.still_fits-zero_fits.ensures.0 c.still_fits-one_fits.ensures.0 in
    let inside_is = c.self.invariant.0 in
    let size : length (t.block context o) ≡ inside.place + 1 =
    let even = g.met.C.LineCode.even.blocks_even context o in let chips = c.CHIPS.ensures in omega (arith, c.if-place-CHIPS.false) in
    let ends : EndsBlock t state o c.args.level = record { fits = agrees.0; level_is = agrees.1; last = size } in
    let read = reads_bit code trext state levels bits o c.args.level r ends in (
      bits ++ o ∷ [],
      rw (c.between_blocks.ensures, c.after-mark.ensures) read,
      ap (λ (s : BitString). s.items) c.push_reserved.ensures ∙ ap (λ ls. ls ++ o ∷ []) e ∙ append_assoc stood bits (o ∷ []),
    ))
