-- The words are read as two halves, and their fields are those of an SGTIN or of none.
use Rattle.std.proofs.Common.{◌∙◌, Err, arith, rules}
use Rattle.epc_sgtin.proofs.EpcWords.{wrong_header, wrong_partition}
use Rattle.epc_sgtin.proofs.EpcDecoding.{read_words, partition_right, is_read, has_company, company_refused, item_refused, accepted}
use Rattle.epc_sgtin.proofs.EpcAnswers.{one_answer}
use Rattle.epc_sgtin.specs.declared.encoding.EpcFault.TheVariants.{Length, Header, Partition, Company, Item}
use Rattle.epc_sgtin.proofs.value.Sgtin.decode.Goals as goal

pub returns-then-front-ne-HEADER-clause-refused : goal.returns-then-front-ne-HEADER-clause-refused
returns-then-front-ne-HEADER-clause-refused c =
    let front = c.half_of-front in
    let back = c.half_of-back in
    let are = read_words c.args.words.now front.result back.result (omega (arith, c.in-len6.len_at_least, c.in-len6.len_below)) (λ i. omega (arith, c.type_inv.words i)) front.ensures.below back.ensures.below front.ensures.bits back.ensures.bits in
    wrong_header c.args.words.now front.result back.result are c.if-front-ne-HEADER.true

pub returns-then-partition-eq7-clause-refused : goal.returns-then-partition-eq7-clause-refused
returns-then-partition-eq7-clause-refused c =
    let front = c.half_of-front in
    let back = c.half_of-back in
    let are = read_words c.args.words.now front.result back.result (omega (arith, c.in-len6.len_at_least, c.in-len6.len_below)) (λ i. omega (arith, c.type_inv.words i)) front.ensures.below back.ensures.below front.ensures.bits back.ensures.bits in
    wrong_partition c.args.words.now front.result back.result are c.if-front-ne-HEADER.false (partition_right front.result ∙ c.if-partition-eq7.true)

pub returns-then-company-ten_to-clause-refused : goal.returns-then-company-ten_to-clause-refused
returns-then-company-ten_to-clause-refused c =
    let front = c.half_of-front in
    let back = c.half_of-back in
    let are = read_words c.args.words.now front.result back.result (omega (arith, c.in-len6.len_at_least, c.in-len6.len_below)) (λ i. omega (arith, c.type_inv.words i)) front.ensures.below back.ensures.below front.ensures.bits back.ensures.bits in
    company_refused c.args.words.now front.result back.result c.company_bits-item_bits.result c.ten_to.result
    (is_read _ _ _ _ are c.if-front-ne-HEADER.false c.if-partition-eq7.false c.company_bits-item_bits.ensures) c.ten_to.ensures c.if-company-ten_to.true

pub returns-then-item-ten_to-clause-refused : goal.returns-then-item-ten_to-clause-refused
returns-then-item-ten_to-clause-refused c =
    let front = c.half_of-front in
    let back = c.half_of-back in
    let are = read_words c.args.words.now front.result back.result (omega (arith, c.in-len6.len_at_least, c.in-len6.len_below)) (λ i. omega (arith, c.type_inv.words i)) front.ensures.below back.ensures.below front.ensures.bits back.ensures.bits in
    let company = has_company c.args.words.now front.result back.result c.company_bits-item_bits.result c.ten_to.result
    (is_read _ _ _ _ are c.if-front-ne-HEADER.false c.if-partition-eq7.false c.company_bits-item_bits.ensures) c.ten_to.ensures c.if-company-ten_to.false in
    item_refused c.args.words.now front.result back.result c.company_bits-item_bits.result c.ten_to-2.result company c.ten_to-2.ensures c.if-item-ten_to.true

pub returns-clause-ok : goal.returns-clause-ok
returns-clause-ok c =
    let front = c.half_of-front in
    let back = c.half_of-back in
    let are = read_words c.args.words.now front.result back.result (omega (arith, c.in-len6.len_at_least, c.in-len6.len_below)) (λ i. omega (arith, c.type_inv.words i)) front.ensures.below back.ensures.below front.ensures.bits back.ensures.bits in
    let company = has_company c.args.words.now front.result back.result c.company_bits-item_bits.result c.ten_to.result
    (is_read _ _ _ _ are c.if-front-ne-HEADER.false c.if-partition-eq7.false c.company_bits-item_bits.ensures) c.ten_to.ensures c.if-company-ten_to.false in
    accepted c.args.words.now front.result back.result c.company_bits-item_bits.result c.ten_to-2.result company c.ten_to-2.ensures c.if-item-ten_to.false

pub returns-then-front-ne-HEADER-clause-only : goal.returns-then-front-ne-HEADER-clause-only
returns-then-front-ne-HEADER-clause-only c = λ answer is. one_answer c.args.words.now (Err Header) answer (returns-then-front-ne-HEADER-clause-refused c) is

pub returns-then-partition-eq7-clause-only : goal.returns-then-partition-eq7-clause-only
returns-then-partition-eq7-clause-only c = λ answer is. one_answer c.args.words.now (Err Partition) answer (returns-then-partition-eq7-clause-refused c) is

pub returns-then-company-ten_to-clause-only : goal.returns-then-company-ten_to-clause-only
returns-then-company-ten_to-clause-only c = λ answer is. one_answer c.args.words.now (Err Company) answer (returns-then-company-ten_to-clause-refused c) is

pub returns-then-item-ten_to-clause-only : goal.returns-then-item-ten_to-clause-only
returns-then-item-ten_to-clause-only c = λ answer is. one_answer c.args.words.now (Err Item) answer (returns-then-item-ten_to-clause-refused c) is

pub returns-clause-only : goal.returns-clause-only
returns-clause-only c = λ answer is. one_answer c.args.words.now _ answer (returns-clause-ok c) is

pub returns-in_default-clause-refused : goal.returns-in_default-clause-refused
returns-in_default-clause-refused c = search rules

pub returns-in_default-clause-only : goal.returns-in_default-clause-only
returns-in_default-clause-only c = λ answer is. one_answer c.args.words.now (Err Length) answer (returns-in_default-clause-refused c) is
