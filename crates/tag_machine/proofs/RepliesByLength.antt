-- What is expected in answer to a command, by the length of the answer.
use Rattle.std.proofs.Common.{◌≡◌, ◌≢◌, inl, inr, ℕ, Bool, true, false, List, length, Option, Some, None, refl, sym, ap, ◌∙◌, subst, arith, eq-eqb}
use Rattle.std.specs.Prelude.{◌==◌, not}
use Rattle.std.specs.Option.{IsSomeAnd}
use Rattle.std.proofs.lemmas.Bool.{eqb-true}
use Rattle.command_grammar.specs.declared.commands.Command.{Command}
use Rattle.command_grammar.specs.declared.commands.Command.TheVariants as commands
use Rattle.reply_grammar.specs.Replies.{AnswersExpected}
use Rattle.reply_grammar.specs.declared.expected.Expect.{Expect}
use Rattle.reply_grammar.specs.declared.expected.Expect.TheVariants as expects
use Rattle.reply_grammar.specs.declared.expected.Reply.{Reply}
use Rattle.reply_grammar.specs.laws.Passing.{answers_pass}
use Rattle.tag_machine.specs.TagValue.{StateValue, ReadyState, OpenState}
use Rattle.tag_machine.specs.declared.states.Password.TheVariants as passwords
use Rattle.tag_machine.specs.laws.Extended.{has_half}
use Rattle.tag_machine.specs.laws.AnswersByCommand.{expect_of, expect_of_kill}

-- whether there are other than 32 bits
pub record TellsLength (longer : Bool) (bits : List Bool) : Type 0 where
  pub same : longer ≡ false → length bits ≡ 32
  pub other : longer ≡ true → length bits ≢ 32

-- an answer to a Kill has 32 bits before a first half, and other ones behind it
kill-by-length : (half longer : Bool) (rn : ℕ) (reply : Reply) (bits : List Bool) → TellsLength longer bits → AnswersExpected reply (expect_of_kill half rn) bits → longer ≡ half
kill-by-length false false rn reply bits is answers = refl
kill-by-length true true rn reply bits is answers = refl
kill-by-length false true rn reply bits is answers = absurd (is.other refl (answers_pass reply (expects.Same rn) bits answers).length_fits)
kill-by-length true false rn reply bits is answers =
    let short : length bits ≡ 32 = is.same refl in
    absurd (elim (answers_pass reply (expects.Header rn) bits answers).length_fits [ inl one ↦ omega arith | inr error ↦ omega arith ])

-- what is expected of a tag in some state is what is expected by the length of the answer
pub expected-by-length : (command : Command) (state other : StateValue) (longer : Bool) (reply : Reply) (bits : List Bool) → TellsLength longer bits → has_half other ≡ longer
    → IsSomeAnd (expect_of command state) (λ it. AnswersExpected reply it bits) → expect_of command other ≡ expect_of command state
expected-by-length (commands.Kill covered rn) state other longer reply bits tells is answers =
    ap (λ (half : Bool). Some (expect_of_kill half rn)) (is ∙ kill-by-length (has_half state) longer rn reply bits tells answers)
expected-by-length command state other longer reply bits tells is answers = refl

-- a tag that holds a first half, and one that doesn't
pub some-state : (half : Bool) → (state : StateValue) × (has_half state ≡ half)
some-state false = (ReadyState, refl)
some-state true = (OpenState (record { session = 0; q = 0; handle = 0; cover = None; half = Some (record { password = passwords.Kill; value = 0 }) }), refl)

-- an answer is read by its length
pub read-by-length : (command : Command) (state : StateValue) (longer : Bool) (reply : Reply) (bits : List Bool) (found : Option Expect) → TellsLength longer bits
    → ((other : StateValue) → has_half other ≡ longer → found ≡ expect_of command other)
    → IsSomeAnd (expect_of command state) (λ it. AnswersExpected reply it bits) → IsSomeAnd found (λ it. AnswersExpected reply it bits)
read-by-length command state longer reply bits found tells is answers =
    let other = some-state longer in
    let expected : found ≡ expect_of command state = is other.0 other.1 ∙ expected-by-length command state other.0 longer reply bits tells other.1 answers in
    subst (λ (e : Option Expect). IsSomeAnd e (λ it. AnswersExpected reply it bits)) (sym expected) answers

not-not : (b : Bool) → not b ≡ false → b ≡ true
not-not true is = refl
not-not false is = absurd (cc)

is-not-longer : {A : Type 0} (bits : List A) (count : ℕ) → count ≡ length bits → not (count == 32) ≡ false → length bits ≡ 32
is-not-longer bits count counted is = sym counted ∙ eqb-true count 32 (not-not (count == 32) is)

is-longer : {A : Type 0} (bits : List A) (count : ℕ) → count ≡ length bits → not (count == 32) ≡ true → length bits ≢ 32
is-longer bits count counted is = λ same. let yes : (count == 32) ≡ true = eq-eqb count 32 (counted ∙ same) in let no : not (count == 32) ≡ false = ap not yes in absurd (cc)

-- what the test of a length says
pub tested-length : (bits : List Bool) (count : ℕ) → count ≡ length bits → TellsLength (not (count == 32)) bits
tested-length bits count counted = record { same = is-not-longer bits count counted; other = is-longer bits count counted }
