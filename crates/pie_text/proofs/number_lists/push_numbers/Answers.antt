-- The list holds one number more.
use Rattle.std.proofs.Common.{◌≡◌, ◌-◌, ◌∷◌, [], eqb, length, take, All, arith, ap, ◌∙◌}
use Rattle.std.specs.Option.{option_map_or}
use Rattle.std.proofs.lemmas.List.Splits.{length-slice_split}
use Rattle.pie_line.specs.IntervalList.{IntervalList}
use Rattle.text_fields.specs.Lines.{fields_of, space}
use Rattle.pie_text.specs.Spelling.{IsNumberUpTo}
use Rattle.pie_text.proofs.LeadingNumbers.{first_end, first_number, lacks_space}
use Rattle.pie_text.proofs.Numerals.{IsNextNumber, holds_next, refused_for, shape_behind}
use Rattle.pie_text.proofs.number_lists.push_numbers.Goals as goal

pub returns-then-len-most_items-clause-all : goal.returns-then-len-most_items-clause-all
returns-then-len-most_items-clause-all c =
    let so_far = c.loop-rest.invariant.holds in
    let left = ap (λ rest. option_map_or (λ text. fields_of text.now) rest []) c.in-Some.is in
    let some = length-slice_split (λ each. eqb each space) c.in-Some.text.now in (
      λ yes. absurd (cc),
      λ both. absurd (omega (arith, both.0, so_far.count, ap length left, some, c.len.ensures.count, c.if-len-most_items.true)),
    )

pub returns-in_default-leading_number-clause-all : goal.returns-in_default-leading_number-clause-all
returns-in_default-leading_number-clause-all c =
    let so_far = c.loop-rest.invariant.holds in
    let left = ap (λ rest. option_map_or (λ text. fields_of text.now) rest []) c.in-Some.is in
    let first = first_end c.in-Some.text.now in (
      λ yes. absurd (cc),
      λ both.
          let are : All (IsNumberUpTo c.args.most) (fields_of c.in-Some.text.now) = rw left at (so_far.numbers.0 both.1) in
          absurd (c.in_default-leading_number.ensures.none first.0 first.1 (first_number c.args.most first.0 c.in-Some.text.now first.1 first.2 are)),
    )

pub returns-then-len-most_items-clause-refused : goal.returns-then-len-most_items-clause-refused
returns-then-len-most_items-clause-refused c = λ shape.
    let so_far = c.loop-rest.invariant.holds in
    let left = ap (λ rest. option_map_or (λ text. fields_of text.now) rest []) c.in-Some.is in
    let some = length-slice_split (λ each. eqb each space) c.in-Some.text.now in
    omega (arith, shape.room, so_far.count, ap length left, some, c.len.ensures.count, c.if-len-most_items.true)

pub returns-in_default-leading_number-clause-refused : goal.returns-in_default-leading_number-clause-refused
returns-in_default-leading_number-clause-refused c =
    let so_far = c.loop-rest.invariant.holds in
    let left = ap (λ rest. option_map_or (λ text. fields_of text.now) rest []) c.in-Some.is in
    let first = first_end c.in-Some.text.now in
    let shape = shape_behind c.args.most_items c.args.most (fields_of c.args.line.now) (fields_of c.in-Some.text.now) c.loop-rest.out.items (rw left at so_far)
    (omega (arith, length-slice_split (λ each. eqb each space) c.in-Some.text.now)) in
    let room : c.args.most_items - length c.loop-rest.out.items ≡ c.args.most_items - c.len-in_default-leading_number.result = omega (arith, c.len-in_default-leading_number.ensures.count) in
    refused_for c.args.most_items c.args.most (fields_of c.args.line.now) c.reason_of.result (omega arith)
    (λ all. let are : All (IsNumberUpTo c.args.most) (fields_of c.in-Some.text.now) = rw left at (so_far.numbers.0 all) in
    c.in_default-leading_number.ensures.none first.0 first.1 (first_number c.args.most first.0 c.in-Some.text.now first.1 first.2 are))
    (λ is has. c.reason_of.ensures.shape is (rw room at (shape.0 has))) (λ is. shape.1 (rw room (c.reason_of.ensures.number is)))

pub push_reserved-requires : goal.push_reserved-requires
push_reserved-requires c =
    let so_far = c.loop-rest.invariant.holds in
    omega (arith, so_far.few, c.if-len-most_items.false, c.len.ensures.count, c.loop-rest.invariant.capacity, c.requires.room)

pub loop-rest-preserved : goal.loop-rest-preserved
loop-rest-preserved c =
    let so_far = c.loop-rest.invariant.holds in
    let reads = c.in-Some-leading_number.ensures.number in
    let field = take c.in-Some-leading_number.end c.in-Some.text.now in
    let rest = option_map_or (λ text. fields_of text.now) c.behind_field-rest.result [] in
    let next : option_map_or (λ text. fields_of text.now) c.loop-rest.rest [] ≡ field ∷ rest =
    ap (λ rest. option_map_or (λ text. fields_of text.now) rest []) c.in-Some.is
    ∙ c.behind_field-rest.ensures.fields (lacks_space c.args.most field (omega arith) reads.0) in
    let has : IsNextNumber c.args.most_items c.args.most field c.loop-rest.out.items = record {
      small = omega arith;
      room = omega (arith, so_far.few, c.if-len-most_items.false, c.len.ensures.count);
      number = reads.0;
    } in
    let pushed = c.push_reserved.ensures in
    let items = ap (λ (list : IntervalList). list.items) pushed in
    record {
      holds = rw (items, reads.1) (holds_next c.args.most_items c.args.most (fields_of c.args.line.now) rest field c.loop-rest.out.items (rw next at so_far) has);
      capacity = ap (λ (list : IntervalList). list.capacity) pushed ∙ c.loop-rest.invariant.capacity;
    }
