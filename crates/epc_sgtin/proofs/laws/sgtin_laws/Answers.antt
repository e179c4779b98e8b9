use Rattle.epc_sgtin.proofs.EpcEncoding.{some_words}
use Rattle.epc_sgtin.proofs.EpcAnswers.{one_words, one_sgtin, some_answer, apart, one_fault}
use Rattle.epc_sgtin.proofs.laws.sgtin_laws.Goals as goal

pub returns : goal.returns
returns c = record { some_words = some_words; one_words = one_words; one_sgtin = one_sgtin; some = some_answer; apart = apart; one_fault = one_fault }
