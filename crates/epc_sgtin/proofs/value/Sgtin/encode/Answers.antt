-- The six words are the two halves of the SGTIN.
use Rattle.std.proofs.Common.{List, ℕ, [], ◌∷◌, ◌++◌, subst, ◌∙◌, arith}
use Rattle.epc_sgtin.specs.Epc.{IsSgtin}
use Rattle.epc_sgtin.proofs.EpcWords.{three_words_half}
use Rattle.epc_sgtin.proofs.EpcEncoding.{encoded_words}
use Rattle.epc_sgtin.proofs.value.Sgtin.encode.Goals as goal

pub returns : goal.returns
returns c =
    let first = c.words_of-first in
    let second = c.words_of-fourth in
    let ahead : List ℕ = first.result.0 ∷ first.result.1 ∷ first.result.2 ∷ [] in
    let behind : List ℕ = second.result.0 ∷ second.result.1 ∷ second.result.2 ∷ [] in
    subst (λ sgtin. IsSgtin sgtin (ahead ++ behind)) c.self.view_is
    (encoded_words _ c.company_bits-item_bits.result ahead behind c.self.invariant c.company_bits-item_bits.ensures
    (three_words_half first.result.0 first.result.1 first.result.2 _ (omega arith) (omega arith) (omega arith) (first.ensures ∙ rw (c.from.ensures, c.from-2.ensures, c.from-3.ensures)))
    (three_words_half second.result.0 second.result.1 second.result.2 _ (omega arith) (omega arith) (omega arith) (second.ensures ∙ rw c.from.ensures)))
