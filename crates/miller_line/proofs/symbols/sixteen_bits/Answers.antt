-- The blocks of four bits after four bits are those of all.
use Rattle.std.proofs.Common.{◌≡◌, ◌∙◌, ◌==◌, ◌<◌, ◌+◌, ◌*◌, ◌^◌, ℕ, List, Bool, true, [], ◌∷◌, ◌++◌, length, ap, sym, refl, arith, append_assoc, length-append}
use Rattle.std.proofs.lemmas.Bool.{eqb-true}
use Rattle.std.proofs.lemmas.List.{append-nil}
use Rattle.bit_strings.specs.NumbersInBits.{field_of, value_of}
use Rattle.bit_strings.specs.laws.NumbersInBits.{field_of-value_of, length-field_of, value_of-append, value_of-field}
use Rattle.line_code.specs.Table.{Context, Table}
use Rattle.line_code.specs.Stream.{blocks}
use Rattle.line_code.specs.States.{context_after}
use Rattle.line_code.specs.laws.Splits.{blocks-append, context_after-append}
use Rattle.miller_line.specs.Miller.{miller}
use Rattle.miller_line.specs.SymbolContext.{context}
use Rattle.miller_line.proofs.symbols.sixteen_bits.Goals as goal

-- the levels begin with the blocks of bits, and so far the code is read
record Begins (t : Table) (before behind : Context) (levels rest bits : List Bool) : Type 0 where
  levels_are : levels ≡ blocks t before bits ++ rest
  behind_is : behind ≡ context_after t before bits

-- ... and of more bits
more : (t : Table) (before between behind : Context) (levels rest rest' xs ys : List Bool) → Begins t before between levels rest xs → Begins t between behind rest rest' ys
    → Begins t before behind levels rest' (xs ++ ys)
more t before between behind levels rest rest' xs ys first second =
    let here = first.behind_is in
    record {
      levels_are = first.levels_are
          ∙ ap (λ ls. blocks t before xs ++ ls) (second.levels_are ∙ ap (λ c. blocks t c ys ++ rest') here)
          ∙ sym (append_assoc (blocks t before xs) (blocks t (context_after t before xs) ys) rest')
          ∙ ap (λ ls. ls ++ rest') (sym (blocks-append t xs ys before));
      behind_is = second.behind_is ∙ ap (λ c. context_after t c ys) here ∙ sym (context_after-append t xs ys before);
    }

-- a number of four digits, and one of more behind it
behind_it : (high low width : ℕ) → high < 2 ^ 4 → low < 2 ^ width → field_of (high * 2 ^ width + low) (4 + width) ≡ field_of high 4 ++ field_of low width
behind_it high low width small_high small_low =
    let xs = field_of high 4 in
    let ys = field_of low width in
    let long : length (xs ++ ys) ≡ 4 + width = length-append xs ys ∙ ap (λ n. n + length ys) (length-field_of high 4) ∙ ap (λ n. 4 + n) (length-field_of low width) in
    let value : value_of (xs ++ ys) ≡ high * 2 ^ width + low =
    value_of-append xs ys ∙ ap (λ n. value_of xs * 2 ^ n + value_of ys) (length-field_of low width)
    ∙ ap (λ n. n * 2 ^ width + value_of ys) (value_of-field high 4 small_high) ∙ ap (λ n. high * 2 ^ width + n) (value_of-field low width small_low) in
    ap (λ n. field_of n (4 + width)) (sym value) ∙ ap (λ n. field_of (value_of (xs ++ ys)) n) (sym long) ∙ field_of-value_of (xs ++ ys)

-- four times four bits, one behind the other
in_one : (a b c d : ℕ) → a < 16 → b < 16 → c < 16 → d < 16
    → field_of (4096 * a + 256 * b + 16 * c + d) 16 ≡ ((field_of a 4 ++ field_of b 4) ++ field_of c 4) ++ field_of d 4
in_one a b c d small_a small_b small_c small_d =
    let one = behind_it c d 4 small_c small_d in
    let two = behind_it b (c * 2 ^ 4 + d) 8 small_b (omega arith) in
    let three = behind_it a (b * 2 ^ 8 + (c * 2 ^ 4 + d)) 12 small_a (omega arith) in
    let number : 4096 * a + 256 * b + 16 * c + d ≡ a * 2 ^ 12 + (b * 2 ^ 8 + (c * 2 ^ 4 + d)) = omega arith in
    ap (λ n. field_of n 16) number ∙ three ∙ ap (λ ls. field_of a 4 ++ ls) (two ∙ ap (λ ls. field_of b 4 ++ ls) one)
    ∙ simp (append_assoc)

nothing_left : (levels : List Bool) → (length levels == 0) ≡ true → levels ≡ []
nothing_left [] none = refl
nothing_left (level ∷ levels) none = absurd (omega (arith, eqb-true (length (level ∷ levels)) 0 none))

pub returns : goal.returns
returns c =
    let t = miller c.args.m in
    let levels = c.args.levels.now in
    let start = context c.args.before in
    let first = c.in_ok-first in
    let second = c.in_ok-second in
    let third = c.in_ok-third in
    let fourth = c.in_ok-fourth in
    let xs = field_of first.first 4 in
    let ys = field_of second.second 4 in
    let zs = field_of third.third 4 in
    let all = ((xs ++ ys) ++ zs) ++ field_of fourth.fourth 4 in
    let one : Begins t start (context first.mark) levels first.rest.now xs = record { levels_are = first.ensures.1; behind_is = first.ensures.2 } in
    let two : Begins t start (context second.mark) levels second.rest.now (xs ++ ys) =
    more t _ _ _ levels _ _ _ _ one (record { levels_are = second.ensures.1; behind_is = second.ensures.2 }) in
    let three : Begins t start (context third.mark) levels third.rest.now ((xs ++ ys) ++ zs) =
    more t _ _ _ levels _ _ _ _ two (record { levels_are = third.ensures.1; behind_is = third.ensures.2 }) in
    let four : Begins t start (context fourth.last) levels fourth.rest.now all =
    more t _ _ _ levels _ _ _ _ three (record { levels_are = fourth.ensures.1; behind_is = fourth.ensures.2 }) in
    let none = nothing_left fourth.rest.now (sym c.if-not-is_empty.ensures) in
    let bits : c.bits_of.result ≡ all = c.bits_of.ensures ∙ in_one first.first second.second third.third fourth.fourth first.ensures.0 second.ensures.0 third.ensures.0 fourth.ensures.0 in
    let whole : levels ≡ blocks t start all = four.levels_are ∙ ap (λ ls. blocks t start all ++ ls) none ∙ append-nil (blocks t start all) in
    rw bits (whole, four.behind_is)
