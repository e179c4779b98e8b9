-- What a test for an empty text tells.
use Rattle.std.proofs.Common.{◌≡◌, ◌≢◌, ◌==◌, ℕ, Bool, true, false, List, [], ◌∷◌, length, arith, refl, sym, ◌∙◌}
use Rattle.std.proofs.lemmas.Bool.{eqb-true}

pub is_nothing : (text : List ℕ) (test : Bool) → test ≡ (length text == 0) → test ≡ true → text ≡ []
is_nothing [] test is true_test = refl
is_nothing (byte ∷ text) test is true_test =
    let zero_long : length (byte ∷ text) ≡ 0 = eqb-true (length (byte ∷ text)) 0 (sym is ∙ true_test) in
    absurd (omega arith)

pub is_something : (text : List ℕ) (test : Bool) → test ≡ (length text == 0) → test ≡ false → text ≢ []
is_something [] test is false_test none = cc
is_something (byte ∷ text) test is false_test none = cc
