-- A list of levels is the stream of one list of bits at most, and has one answer.
use Rattle.std.proofs.Common.{◌≡◌, ℕ, ◌*◌, Bool, true, List, [], ◌∷◌, ◌++◌, length, take, Result, Ok, Err, refl, sym, ap, ◌∙◌, arith, append_assoc, length-append}
use Rattle.std.proofs.Math.Nat.{mul-suc}
use Rattle.std.proofs.lemmas.List.{append-nil, append_cancel_left, same_from_push}
use Rattle.bit_strings.specs.Family.{Begins}
use Rattle.bit_strings.specs.laws.Family.{begins-take, bad-one, member-not_bad, short-not_bad}
use Rattle.line_code.specs.Table.{Context, Table}
use Rattle.line_code.specs.Stream.{blocks, IsStream, Streams}
use Rattle.line_code.specs.States.{context_after}
use Rattle.line_code.specs.TableFacts.{IsEven, TellsBits, CodeTable}
use Rattle.line_code.specs.laws.Flips.{parts_same, told}
use Rattle.line_code.specs.Refusal.{RefusesStream}
use Rattle.line_code.specs.Answer.{IsStreamAnswer}
use Rattle.line_code.specs.declared.refusal.LineRefusal.{LineRefusal}
use Rattle.line_code.specs.declared.refusal.LineRefusal.TheVariants.{Invalid, Unfinished}

cons_same : (x z : Bool) (xs ys zs : List Bool) → x ≡ z → zs ≡ xs ++ ys → z ∷ zs ≡ x ∷ (xs ++ ys)
cons_same x z xs ys zs same e = ap (λ ls. z ∷ ls) e ∙ ap (λ b. b ∷ (xs ++ ys)) (sym same)

-- so many levels as each of the bits has
pub length-blocks : (t : Table) (chips : ℕ) → IsEven t chips → (bits : List Bool) (c : Context) → length (blocks t c bits) ≡ chips * length bits
length-blocks t chips even [] c = omega arith
length-blocks t chips even (bit ∷ bits) c =
    let here : length (t.block c bit) ≡ chips = even.blocks_even c bit in
    let rest : length (blocks t (t.next c bit) bits) ≡ chips * length bits = length-blocks t chips even bits (t.next c bit) in
    let joined = length-append (t.block c bit) (blocks t (t.next c bit) bits) in
    let product = mul-suc chips (length bits) in
    omega (arith, joined, here, rest, product)

-- blocks that begin with the blocks of these bits are those of more bits
pub blocks_split : (t : Table) (chips : ℕ) → IsEven t chips → TellsBits t → (xs zs rest : List Bool) (c : Context)
    → blocks t c xs ++ rest ≡ blocks t c zs
    → (ys : List Bool) × (zs ≡ xs ++ ys) × (rest ≡ blocks t (context_after t c xs) ys)
blocks_split t chips even tells [] zs rest c e = (zs, refl, e)
blocks_split t chips even tells (x ∷ xs) [] rest c e =
    let least = even.least in
    let size : length (t.block c x) ≡ chips = even.blocks_even c x in
    let inner = length-append (t.block c x) (blocks t (t.next c x) xs) in
    let whole = length-append (t.block c x ++ blocks t (t.next c x) xs) rest in
    let none = ap length e in
    absurd (omega arith)
blocks_split t chips even tells (x ∷ xs) (z ∷ zs) rest c e =
    let size_x : length (t.block c x) ≡ chips = even.blocks_even c x in
    let size_z : length (t.block c z) ≡ chips = even.blocks_even c z in
    let joined = sym (append_assoc (t.block c x) (blocks t (t.next c x) xs) rest) ∙ e in
    let parts = parts_same (t.block c x) (t.block c z) (blocks t (t.next c x) xs ++ rest) (blocks t (t.next c z) zs) (omega arith) joined in
    let same : x ≡ z = told t tells c x z parts.0 in
    let more = blocks_split t chips even tells xs zs rest (t.next c x) (parts.1 ∙ ap (λ b. blocks t (t.next c b) zs) (sym same)) in
    (more.0, cons_same x z xs more.0 zs same more.1, more.2)

pub no_bits : (t : Table) (chips : ℕ) → IsEven t chips → (bits : List Bool) (c : Context) → [] ≡ blocks t c bits → bits ≡ []
no_bits t chips even [] c e = refl
no_bits t chips even (bit ∷ bits) c e =
    let least = even.least in
    let size = even.blocks_even c bit in
    let joined = length-append (t.block c bit) (blocks t (t.next c bit) bits) in
    let none : 0 ≡ length (blocks t c (bit ∷ bits)) = ap length e in
    absurd (omega arith)

-- one list is the stream of at most one list of bits
pub one_stream : (code : CodeTable) (trext : Bool) (xs ys levels : List Bool)
    → IsStream code.table trext xs levels → IsStream code.table trext ys levels → xs ≡ ys
one_stream code trext xs ys levels e f =
    let t = code.table in
    let ours = blocks t t.start (xs ++ true ∷ []) in
    let theirs = blocks t t.start (ys ++ true ∷ []) in
    let same : ours ≡ theirs = append_cancel_left (t.lead trext) ours theirs (sym e ∙ f) in
    let there = blocks_split t code.chips code.even code.tells (xs ++ true ∷ []) (ys ++ true ∷ []) [] t.start (append-nil ours ∙ same) in
    let none = no_bits t code.chips code.even there.0 (context_after t t.start (xs ++ true ∷ [])) there.2 in
    let whole : ys ++ true ∷ [] ≡ xs ++ true ∷ [] = there.1 ∙ ap (λ ls. (xs ++ true ∷ []) ++ ls) none ∙ append-nil (xs ++ true ∷ []) in
    sym (same_from_push ys xs true true whole).0

-- what is refused is no member
pub refused_is_none : (X : List Bool → Type 0) (levels : List Bool) (refusal : LineRefusal) → RefusesStream X levels refusal → ¬ X levels
refused_is_none X levels (Invalid place) bad member = member-not_bad X levels place member bad
refused_is_none X levels (Unfinished count) short member = short.no_member member

pub begins_front : (X : List Bool → Type 0) (levels : List Bool) (n : ℕ) → Begins X levels → Begins X (take n levels)
begins_front X levels n begins = begins-take X n levels begins

-- there is one answer to each list of levels
pub same_answer : (t : Table) (trext : Bool) (levels : List Bool) (left right : Result (Unit {0}) LineRefusal)
    → IsStreamAnswer t trext levels left → IsStreamAnswer t trext levels right → left ≡ right
same_answer t trext levels (Ok a) (Ok b) l r = refl
same_answer t trext levels (Ok a) (Err e) l r = absurd (refused_is_none (Streams t trext) levels e r l)
same_answer t trext levels (Err e) (Ok b) l r = absurd (refused_is_none (Streams t trext) levels e l r)
same_answer t trext levels (Err (Invalid p)) (Err (Invalid q)) l r = ap (λ n. Err (Invalid n)) (bad-one (Streams t trext) levels p q l r)
same_answer t trext levels (Err (Invalid p)) (Err (Unfinished n)) l r = absurd (short-not_bad (Streams t trext) levels n p r l)
same_answer t trext levels (Err (Unfinished n)) (Err (Invalid q)) l r = absurd (short-not_bad (Streams t trext) levels n q l r)
same_answer t trext levels (Err (Unfinished n)) (Err (Unfinished m)) l r = ap (λ k. Err (Unfinished k)) (l.whole ∙ sym r.whole)
