-- The draw with the number n is the word n places behind the tag's place, modulo the number of words.
use Rattle.std.proofs.Common.{◌≡◌, ℕ, zero, suc, ◌+◌, ◌*◌, ◌/◌, ◌%◌, ◌<◌, length, slice_index, sym, ◌∙◌, ap, arith, inl, inr}
use Rattle.std.proofs.Math.Nat.{mod_self, mod-eq_of_lt, add-mul-mod_self_right}
use Rattle.std.proofs.lemmas.Nat.{mod_below}
use Rattle.std.proofs.lemmas.Bool.Decides.{eqb_tells}
use Rattle.tag_machine.specs.TagValue.{BodyValue}
use Rattle.tag_machine.specs.Draws.{draw_of, place_behind, body_after_draw, body_after_draws}

next_mod : (count number : ℕ) → 0 < count → (number + 1) % count ≡ (number % count + 1) % count
next_mod count number some =
    let apart : number + 1 ≡ (number % count + 1) + number / count * count = omega arith in
    ap (λ n. n % count) apart ∙ add-mul-mod_self_right (number % count + 1) (number / count) count

at_end : (count place : ℕ) → place < count → place_behind count place ≡ (place + 1) % count
at_end count place inside =
    elim (eqb_tells (place + 1) count) [
      | inl w ↦ rw w.0 (sym (ap (λ n. n % count) w.1 ∙ mod_self count))
      | inr w ↦ rw w.0 (sym (mod-eq_of_lt {n = place + 1} {m = count} (omega (arith, w.1))))
    ]

place_moves : (body : BodyValue) (place : ℕ) → place < length body.words → body_after_draw (record body { next_draw = place }) ≡ record body { next_draw = (place + 1) % length body.words }
place_moves body place inside = ap (λ (p : ℕ). let moved : BodyValue = record body { next_draw = p } in moved) (at_end (length body.words) place inside)

one_further : (count place draws : ℕ) → 0 < count → ((place + draws) % count + 1) % count ≡ (place + suc draws) % count
one_further count place draws some =
    let behind : place + draws + 1 ≡ place + suc draws = omega arith in
    sym (next_mod count (place + draws) some) ∙ ap (λ n. n % count) behind

pub after_is : (draws : ℕ) (body : BodyValue) → body.next_draw < length body.words → body_after_draws draws body ≡ record body { next_draw = (body.next_draw + draws) % length body.words }
after_is zero body inside =
    let whole : body.next_draw + 0 ≡ body.next_draw = omega arith in
    let same : (body.next_draw + 0) % length body.words ≡ body.next_draw = ap (λ n. n % length body.words) whole ∙ mod-eq_of_lt {n = body.next_draw} {m = length body.words} inside in
    sym (ap (λ (p : ℕ). let moved : BodyValue = record body { next_draw = p } in moved) same)
after_is (suc draws) body inside =
    let count = length body.words in
    let some : 0 < count = omega arith in
    ap body_after_draw (after_is draws body inside)
    ∙ place_moves body ((body.next_draw + draws) % count) (mod_below (body.next_draw + draws) count some)
    ∙ ap (λ (p : ℕ). let moved : BodyValue = record body { next_draw = p } in moved) (one_further count body.next_draw draws some)

pub word_is : (draws : ℕ) (body : BodyValue) → body.next_draw < length body.words → draw_of (body_after_draws draws body) ≡ slice_index body.words ((body.next_draw + draws) % length body.words)
word_is draws body inside = ap draw_of (after_is draws body inside)
