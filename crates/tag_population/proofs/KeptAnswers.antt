-- The answers that are kept.
use Rattle.std.proofs.Common.{◌≡◌, ℕ, suc, ◌+◌, ◌-◌, ◌≤◌, Bool, List, [], ◌∷◌, ◌++◌, length, take, drop, refl, ap, ◌∙◌, arith, take_all}
use Rattle.std.specs.List.{All}
use Rattle.std.proofs.Math.Seq.{drop-append_seam}
use Rattle.std.proofs.lemmas.List.{drop-append-le, take-append-le, length-drop, map-append}
use Rattle.tag_population.specs.declared.answers.Kept.{Kept}
use Rattle.tag_population.specs.Answers.{AnswerValue, AreKept, answer_kept, answers_kept}

-- what stands in a list stands there too where more follows
part_same : (start end : ℕ) (bits more : List Bool) → start ≤ end → end ≤ length bits → take (end - start) (drop start (bits ++ more)) ≡ take (end - start) (drop start bits)
part_same start end bits more ordered inside =
    let room : end - start ≤ length (drop start bits) = omega (arith, length-drop start bits, ordered, inside) in
    ap (λ (l : List Bool). take (end - start) l) (drop-append-le start bits more (omega (arith, ordered, inside))) ∙ take-append-le (end - start) (drop start bits) more room

kept_same : (bits more : List Bool) (kept : List Kept) → All (λ one. (one.start ≤ one.end) × (one.end ≤ length bits)) kept → answers_kept (bits ++ more) kept ≡ answers_kept bits kept
kept_same bits more [] inside = refl
kept_same bits more (one ∷ kept) inside =
    let first = inside 0 one (omega arith) in
    ap (λ (part : List Bool). let answer : AnswerValue = record { number = one.number; extended = one.extended; bits = part } in answer ∷ answers_kept (bits ++ more) kept)
    (part_same one.start one.end bits more first.0 first.1)
    ∙ ap (λ (l : List AnswerValue). answer_kept bits one ∷ l) (kept_same bits more kept (λ index d within. inside (suc index) d (omega (arith, within))))

last_part : (start end : ℕ) (bits more : List Bool) → start ≡ length bits → end ≡ length bits + length more → take (end - start) (drop start (bits ++ more)) ≡ more
last_part start end bits more from until =
    let count : end - start ≡ length more = omega (arith, from, until) in
    ap (λ n. take n (drop start (bits ++ more))) count
    ∙ ap (λ n. take (length more) (drop n (bits ++ more))) from
    ∙ ap (λ (l : List Bool). take (length more) l) (drop-append_seam bits more)
    ∙ take_all (length more) more (omega arith)

-- an answer more
pub kept_more : (bits more : List Bool) (kept : List Kept) (one : Kept) → AreKept bits kept → one.start ≡ length bits → one.end ≡ length bits + length more
    → answers_kept (bits ++ more) (kept ++ one ∷ []) ≡ answers_kept bits kept ++ record { number = one.number; extended = one.extended; bits = more } ∷ []
kept_more bits more kept one are from until =
    map-append (answer_kept (bits ++ more)) kept (one ∷ [])
    ∙ ap (λ (l : List AnswerValue). l ++ answer_kept (bits ++ more) one ∷ []) (kept_same bits more kept are.inside)
    ∙ ap (λ (part : List Bool). let answer : AnswerValue = record { number = one.number; extended = one.extended; bits = part } in answers_kept bits kept ++ answer ∷ [])
    (last_part one.start one.end bits more from until)
