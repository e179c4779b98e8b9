use Rattle.epc_sgtin.proofs.UriAnswers.{IsAscii-uri, one_sgtin, some_answer, apart, one_fault}
use Rattle.epc_sgtin.proofs.laws.uri_laws.Goals as goal

pub returns : goal.returns
returns c = record { ascii = IsAscii-uri; one_sgtin = one_sgtin; some = some_answer; apart = apart; one_fault = one_fault }
