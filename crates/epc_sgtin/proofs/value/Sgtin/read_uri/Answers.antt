-- The parts of the text are those of an SGTIN, or the first that is none is known.
use Rattle.std.proofs.Common.{◌≡◌, ◌<◌, ◌^◌, ◌-◌, Err, rules, length, ap, subst, ◌∙◌, arith}
use Rattle.epc_sgtin.specs.SgtinValue.{IsLegalSgtin}
use Rattle.epc_sgtin.specs.Uri.{padded}
use Rattle.epc_sgtin.proofs.UriReading.{parts_cut, uri_read}
use Rattle.epc_sgtin.proofs.UriAnswers.{one_answer}
use Rattle.epc_sgtin.specs.declared.tag_uri.UriFault.TheVariants.{Prefix, Parts, Filter, Company, Item, Serial}
use Rattle.epc_sgtin.proofs.value.Sgtin.read_uri.Goals as goal

pub returns-in_default-filter_of-clause-refused : goal.returns-in_default-filter_of-clause-refused
returns-in_default-filter_of-clause-refused c =
    let parts = parts_cut _ _ _ _ _ _ c.in-Some.ensures.cut c.in-Some-four_parts.ensures.parts in
    (parts, c.in_default-filter_of.ensures.none)

pub returns-in_default-company_of-clause-refused : goal.returns-in_default-company_of-clause-refused
returns-in_default-company_of-clause-refused c =
    let parts = parts_cut _ _ _ _ _ _ c.in-Some.ensures.cut c.in-Some-four_parts.ensures.parts in
    let filter = c.in-Some-filter_of in
    (parts, (filter.filter, filter.ensures.some.0, filter.ensures.some.1), c.in_default-company_of.ensures.none)

pub returns-in_default-item_of-clause-refused : goal.returns-in_default-item_of-clause-refused
returns-in_default-item_of-clause-refused c =
    let parts = parts_cut _ _ _ _ _ _ c.in-Some.ensures.cut c.in-Some-four_parts.ensures.parts in
    let filter = c.in-Some-filter_of in
    (parts, (filter.filter, filter.ensures.some.0, filter.ensures.some.1), c.in-Some-company_of.ensures.some.0, λ is. c.in_default-item_of.ensures.none is.0 is.1)

pub returns-in_default-serial_of-clause-refused : goal.returns-in_default-serial_of-clause-refused
returns-in_default-serial_of-clause-refused c =
    let parts = parts_cut _ _ _ _ _ _ c.in-Some.ensures.cut c.in-Some-four_parts.ensures.parts in
    let filter = c.in-Some-filter_of in
    let item = c.in-Some-item_of.ensures.some in
    (parts, (filter.filter, filter.ensures.some.0, filter.ensures.some.1), c.in-Some-company_of.ensures.some.0, (item.0, item.1), c.in_default-serial_of.ensures.none)

pub returns-clause-ok : goal.returns-clause-ok
returns-clause-ok c =
    let parts = parts_cut _ _ _ _ _ _ c.in-Some.ensures.cut c.in-Some-four_parts.ensures.parts in
    let filter = c.in-Some-filter_of.ensures.some in
    let company = c.in-Some-company_of.ensures.some in
    let item = c.in-Some-item_of.ensures.some in
    let serial = c.in-Some-serial_of.ensures.some in
    let width : length parts.item ≡ 13 - length parts.company = omega (arith, item.0) in
    let legal : IsLegalSgtin _ = record {
      filter_range = filter.0;
      digits_range = company.0.0;
      company_range = company.1;
      item_range = subst (λ n. c.in-Some-item_of.item_number < 10 ^ n) width item.2;
      serial_range = serial.0;
    } in
    uri_read c.args.text.now parts _ legal filter.1 company.2 (item.3 ∙ ap (padded c.in-Some-item_of.item_number) width) serial.1

pub returns-in_default-filter_of-clause-only : goal.returns-in_default-filter_of-clause-only
returns-in_default-filter_of-clause-only c = λ answer is. one_answer c.args.text.now (Err Filter) answer (returns-in_default-filter_of-clause-refused c) is

pub returns-in_default-company_of-clause-only : goal.returns-in_default-company_of-clause-only
returns-in_default-company_of-clause-only c = λ answer is. one_answer c.args.text.now (Err Company) answer (returns-in_default-company_of-clause-refused c) is

pub returns-in_default-item_of-clause-only : goal.returns-in_default-item_of-clause-only
returns-in_default-item_of-clause-only c = λ answer is. one_answer c.args.text.now (Err Item) answer (returns-in_default-item_of-clause-refused c) is

pub returns-in_default-serial_of-clause-only : goal.returns-in_default-serial_of-clause-only
returns-in_default-serial_of-clause-only c = λ answer is. one_answer c.args.text.now (Err Serial) answer (returns-in_default-serial_of-clause-refused c) is

pub returns-clause-only : goal.returns-clause-only
returns-clause-only c = λ answer is. one_answer c.args.text.now _ answer (returns-clause-ok c) is

pub returns-in_default-clause-refused : goal.returns-in_default-clause-refused
returns-in_default-clause-refused c = search rules

pub returns-in_default-clause-only : goal.returns-in_default-clause-only
returns-in_default-clause-only c = λ answer is. one_answer c.args.text.now (Err Prefix) answer (returns-in_default-clause-refused c) is

pub returns-in_default-four_parts-clause-refused : goal.returns-in_default-four_parts-clause-refused
returns-in_default-four_parts-clause-refused c = search rules

pub returns-in_default-four_parts-clause-only : goal.returns-in_default-four_parts-clause-only
returns-in_default-four_parts-clause-only c = λ answer is. one_answer c.args.text.now (Err Parts) answer (returns-in_default-four_parts-clause-refused c) is
