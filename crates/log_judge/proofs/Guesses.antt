-- Which draws give which slot.
use Rattle.std.proofs.Common.{◌≡◌, ℕ, ◌+◌, ◌-◌, ◌%◌, ◌^◌, ◌<◌, ◌≤◌, ◌==◌, true, false, List, ◌∷◌, ◌++◌, length, slice_index, if◌then◌else◌, refl, sym, ◌∙◌, ap, arith, inl, inr, length-append}
use Rattle.std.proofs.Math.Nat.{zero-mod}
use Rattle.std.proofs.Math.Seq.{get_or-append_seam}
use Rattle.std.proofs.lemmas.List.{get_or-append-add}
use Rattle.std.proofs.lemmas.Bool.Decides.{eqb_tells}
use Rattle.std.proofs.Math.Pow.{not_mod}
use Rattle.std.proofs.lemmas.Nat.{pow_pos, mod_below}
use Rattle.reply_grammar.specs.declared.expected.Reply.TheVariants.{Rn16}
use Rattle.tag_machine.specs.TagValue.{ArbitrateState, ReplyState, BodyValue}
use Rattle.tag_machine.specs.Answers.{silent, plain_answer}
use Rattle.tag_machine.specs.Draws.{place_behind, body_after_draw, slot_of_draw, begin_reply, enter}
use Rattle.log_judge.specs.laws.Kinds.{reworded}

pub some_power : (q : ℕ) → 1 ≤ 2 ^ q
some_power q = pow_pos q

-- the largest slot
pub full_slot : (q : ℕ) → q ≤ 15 → 0xFFFF % 2 ^ q ≡ 2 ^ q - 1
full_slot q small =
    let sum : (16 - q) + q ≡ 16 = omega (arith, small) in
    let whole : 0xFFFF ≡ (2 ^ ((16 - q) + q) - 1) - 0 = sym (ap (λ (n : ℕ). (2 ^ n - 1) - 0) sum) in
    let rest : (2 ^ q - 1) - 0 ≡ 2 ^ q - 1 = omega arith in
    ap (λ (n : ℕ). n % 2 ^ q) whole ∙ not_mod {a = 0} (16 - q) q (some_power q) ∙ rest

pub slot_below_power : (word q : ℕ) → word % 2 ^ q < 2 ^ q
slot_below_power word q = mod_below word (2 ^ q) (some_power q)

-- the test for slot 0
pub is_zero : (n : ℕ) → n ≡ 0 → (n == 0) ≡ true
is_zero n zero_is = ap (λ m. m == 0) zero_is

pub not_zero : (n : ℕ) → 1 ≤ n → (n == 0) ≡ false
not_zero n some =
    elim (eqb_tells n 0) [
      | inl w ↦ absurd (omega (arith, w.1, some))
      | inr w ↦ w.0
    ]

-- ENTER, where the slot is 0, and where it isn't
pub enters_now : (session q : ℕ) (body : BodyValue) → slot_of_draw q body ≡ 0 → enter session q body ≡ begin_reply session q (body_after_draw body)
enters_now session q body zero_is =
    ap (λ test. if test then begin_reply session q (body_after_draw body) else silent (ArbitrateState session q (slot_of_draw q body)) (body_after_draw body)) (is_zero (slot_of_draw q body) zero_is)

pub enters_later : (session q : ℕ) (body : BodyValue) → 1 ≤ slot_of_draw q body → enter session q body ≡ silent (ArbitrateState session q (slot_of_draw q body)) (body_after_draw body)
enters_later session q body some =
    ap (λ test. if test then begin_reply session q (body_after_draw body) else silent (ArbitrateState session q (slot_of_draw q body)) (body_after_draw body)) (not_zero (slot_of_draw q body) some)

pub zero_slot : (q : ℕ) → 0 % 2 ^ q ≡ 0
zero_slot q = zero-mod (2 ^ q)

-- the place behind one stays inside
pub behind_inside : (count place : ℕ) → place < count → place_behind count place < count
behind_inside count place inside =
    elim (eqb_tells (place + 1) count) [
      | inl w ↦ rw w.0 (omega (arith, inside))
      | inr w ↦ rw w.0 (omega (arith, inside, w.1))
    ]

-- a draw behind these words
pub drawn_next : (used : List ℕ) (word : ℕ) (more : List ℕ) → slice_index (used ++ word ∷ more) (length used) ≡ word
drawn_next used word more = get_or-append_seam used word more 0

-- ... where another word stands behind it
pub place_next : (used : List ℕ) (word : ℕ) (more : List ℕ) → 1 ≤ length more → place_behind (length (used ++ word ∷ more)) (length used) ≡ length used + 1
place_next used word more some =
    let count : length (used ++ word ∷ more) ≡ length used + (length more + 1) = omega (arith, length-append used (word ∷ more)) in
    elim (eqb_tells (length used + 1) (length (used ++ word ∷ more))) [
      | inl w ↦ absurd (omega (arith, w.1, count, some))
      | inr w ↦ rw w.0 refl
    ]

-- ... and further on
pub drawn_at : (used rest : List ℕ) (n : ℕ) → slice_index (used ++ rest) (length used + n) ≡ slice_index rest n
drawn_at used rest n = get_or-append-add used rest n 0

pub place_at : (used rest : List ℕ) (n : ℕ) → n + 1 < length rest → place_behind (length (used ++ rest)) (length used + n) ≡ length used + (n + 1)
place_at used rest n inside =
    let count : length (used ++ rest) ≡ length used + length rest = length-append used rest in
    elim (eqb_tells (length used + n + 1) (length (used ++ rest))) [
      | inl w ↦ absurd (omega (arith, w.1, count, inside))
      | inr w ↦ rw w.0 (omega arith)
    ]

-- what is drawn, and what comes of it
pub begins_by : (words : List ℕ) (place next rn session q : ℕ) (body : BodyValue) → slice_index words place ≡ rn → place_behind (length words) place ≡ next
    → begin_reply session q (reworded words place body) ≡ plain_answer (ReplyState session q rn) (reworded words next body) (Rn16 rn) 0
begins_by words place next rn session q body first moves =
    ap (λ number. plain_answer (ReplyState session q number) (reworded words (place_behind (length words) place) body) (Rn16 number) 0) first
    ∙ ap (λ to. plain_answer (ReplyState session q rn) (reworded words to body) (Rn16 rn) 0) moves

pub now_by : (words : List ℕ) (place middle next word rn session q : ℕ) (body : BodyValue) → slice_index words place ≡ word → word % 2 ^ q ≡ 0 → place_behind (length words) place ≡ middle
    → slice_index words middle ≡ rn → place_behind (length words) middle ≡ next
    → enter session q (reworded words place body) ≡ plain_answer (ReplyState session q rn) (reworded words next body) (Rn16 rn) 0
now_by words place middle next word rn session q body first zero_is moves second moves_on =
    enters_now session q (reworded words place body) (ap (λ n. n % 2 ^ q) first ∙ zero_is)
    ∙ ap (λ to. begin_reply session q (reworded words to body)) moves
    ∙ begins_by words middle next rn session q body second moves_on

pub later_by : (words : List ℕ) (place next slot session q : ℕ) (body : BodyValue) → slice_index words place % 2 ^ q ≡ slot → 1 ≤ slot → place_behind (length words) place ≡ next
    → enter session q (reworded words place body) ≡ silent (ArbitrateState session q slot) (reworded words next body)
later_by words place next slot session q body first some moves =
    let there : 1 ≤ slice_index words place % 2 ^ q = omega (arith, first, some) in
    enters_later session q (reworded words place body) there
    ∙ ap (λ number. silent (ArbitrateState session q number) (reworded words (place_behind (length words) place) body)) first
    ∙ ap (λ to. silent (ArbitrateState session q slot) (reworded words to body)) moves
