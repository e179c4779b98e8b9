use Rattle.std.proofs.Common.{◌≡◌, true, false, arith, rules}
use Rattle.std.specs.Prelude.{Option, Some, None, IfSome, IsSomeAnd}
use Rattle.std.specs.Option.{is_some}
use Rattle.text_fields.proofs.WantedFields.{stuck, one_read}
use Rattle.text_fields.proofs.exact.are_filled.Goals as goal

pub loop-init : goal.loop-init
loop-init c = record {
  wanted = c.args.count;
  sum = omega arith;
  to = λ are. rw c.again-left.ensures are;
  from = λ are. rw c.again-left.ensures at are;
}

found_none : {A : Type 0} (Has : A → Type 0) (found : Option A) → is_some found ≡ false → IsSomeAnd found Has → ⊥
found_none Has None none has = has
found_none Has (Some it) none has = cc

found_one : {A : Type 0} (Has : A → Type 0) (found : Option A) → is_some found ≡ true → IfSome found Has → (it : A) × Has it
found_one Has None some has = cc
found_one Has (Some it) some has = (it, has)

pub returns-then-is_none : goal.returns-then-is_none
returns-then-is_none c = (
  λ true_is. absurd (search rules),
  λ are. absurd (stuck c.loop.counter c.args.count c.args.fields.now c.loop.left c.loop.invariant c.loop-test.true
      (λ field rest cut filled. found_none _ c.filled_field.result c.if-is_none.ensures (c.filled_field.ensures.only field rest cut filled).0) are),
)

pub loop-preserved : goal.loop-preserved
loop-preserved c =
    let found = found_one _ c.filled_field.result c.if-is_none.ensures c.filled_field.ensures.value in
    one_read c.loop.counter c.args.count c.args.fields.now c.filled_field.new.fields found.0.now (rw found.1.0 at c.loop.invariant) c.loop-test.true found.1.1
