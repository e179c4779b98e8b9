-- Bytes in groups of one size.
use Rattle.std.proofs.Common.{◌≡◌, ℕ, zero, suc, Bool, true, List, take, drop}
use Rattle.std.specs.Prelude.{All}
use Rattle.std.specs.List.{AllPass}
use Rattle.std.specs.Simd.{first_chunks}
use Rattle.std.proofs.lemmas.List.Elements.{All-cons, All-drop, All-nil, All-take}

-- the bytes of each group pass a test that all bytes pass
pub groups_pass : (test : ℕ → Bool) (size count : ℕ) (bytes : List ℕ) → AllPass test bytes → All (AllPass test) (first_chunks size count bytes)
groups_pass test size zero bytes pass = All-nil (AllPass test)
groups_pass test size (suc count) bytes pass =
    let passes : ℕ → Type 0 = λ byte. test byte ≡ true in
    All-cons (AllPass test) (take size bytes) (first_chunks size count (drop size bytes)) (All-take passes size bytes pass)
    (groups_pass test size count (drop size bytes) (All-drop passes size bytes pass))
