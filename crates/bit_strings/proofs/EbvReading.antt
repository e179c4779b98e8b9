-- How an extensible bit vector is read bit by bit.
use Rattle.std.proofs.Common.{◌≡◌, ◌≢◌, ℕ, suc, ◌+◌, ◌-◌, ◌*◌, ◌/◌, ◌%◌, ◌^◌, ◌<◌, ◌≤◌, Bool, true, false, List, [], ◌∷◌, ◌++◌, length, replicate, refl, sym, ◌∙◌, ap, subst, inl, inr, arith, length-append, length-drop, append_assoc, append-nil, add-one}
use Rattle.std.proofs.Math.Nat.{pow-suc, pow-le-pow_right}
use Rattle.std.proofs.lemmas.Bool.{cases_lt}
use Rattle.std.specs.Prelude.{slice_get, get_or, take, drop, Some, ◌⊎◌}
use Rattle.std.proofs.lemmas.List.{length-replicate, nil_from_length, get_or-drop, take_more, take_at, drop_at, take-append-drop, take-append-le, drop-append-le}
use Rattle.std.proofs.lemmas.List.Elements.{All-push, All-cons}
use Rattle.bit_strings.specs.NumbersInBits.{value_of, field_of, digit_of, part_of}
use Rattle.bit_strings.specs.laws.NumbersInBits.{value_of-within, value_of-push, value_of-append, value_of-field, length-field_of, same_from_value}
use Rattle.bit_strings.specs.Ebv.{number_of_digits, blocks_of, IsShortest, IsEbv, IsCutEbv, IsTooLong, BeginsWithNothing}
use Rattle.bit_strings.specs.laws.Ebv.{AreSevens, seven-head, seven-tail, nothing-digit, shortest-some, nothing-more, too_long-more}
use Rattle.bit_strings.proofs.EbvFronts.{digit-nothing}
use Rattle.bit_strings.specs.EbvAnswers.{HasEbvAt}
use Rattle.bit_strings.specs.laws.Lists.{slice_get-append_left, slice_get-append_right}
use Rattle.bit_strings.proofs.Digits.{digit_of-byte}
use mir.Val.{bool_byte}

-- ---- blocks

-- blocks that each say that another follows
abbrev open_blocks : List (List Bool) → List Bool
open_blocks [] = []
open_blocks (digit ∷ digits) = true ∷ digit ++ open_blocks digits

-- the first digit, if there is one, is not 0
abbrev IsProper : List (List Bool) → Type 0
IsProper [] = Unit {0}
IsProper (digit ∷ digits) = value_of digit ≢ 0

-- the bits are at most three such blocks and less than a block; the fourth block isn't one that another follows
pub record IsEbvFront (bits : List Bool) : Type 0 where
  digits : List (List Bool)
  part : List Bool
  spelled : bits ≡ open_blocks digits ++ part
  sevens : AreSevens digits
  proper : IsProper digits
  few : length digits ≤ 3
  short : length part < 8
  ends : length digits ≡ 3 → slice_get part 0 ≢ Some true

open_blocks-push : (ds : List (List Bool)) (d : List Bool) → open_blocks (ds ++ d ∷ []) ≡ open_blocks ds ++ (true ∷ d)
open_blocks-push [] d = ap (λ (b : List Bool). true ∷ b) (append-nil d)
open_blocks-push (e ∷ ds) d =
    ap (λ (b : List Bool). true ∷ e ++ b) (open_blocks-push ds d) ∙ ap (λ (b : List Bool). true ∷ b) (sym (append_assoc e (open_blocks ds) (true ∷ d)))

blocks_of-push : (ds : List (List Bool)) (d : List Bool) → blocks_of (ds ++ d ∷ []) ≡ open_blocks ds ++ (false ∷ d)
blocks_of-push [] d = refl
blocks_of-push (e ∷ []) d = ap (λ (b : List Bool). true ∷ b) (ap (λ (b : List Bool). b ++ false ∷ d) (sym (append-nil e)))
blocks_of-push (e ∷ e' ∷ ds) d =
    ap (λ (b : List Bool). true ∷ e ++ b) (blocks_of-push (e' ∷ ds) d) ∙ ap (λ (b : List Bool). true ∷ b) (sym (append_assoc e (open_blocks (e' ∷ ds)) (false ∷ d)))

number_of_digits-push : (ds : List (List Bool)) (d : List Bool) → number_of_digits (ds ++ d ∷ []) ≡ 128 * number_of_digits ds + value_of d
number_of_digits-push [] d = omega arith
number_of_digits-push (e ∷ ds) d =
    let power : 128 ^ (length ds + 1) ≡ 128 ^ length ds * 128 = ap (λ n. 128 ^ n) (add-one (length ds)) ∙ pow-suc 128 (length ds) in
    rw (length-append ds (d ∷ []), number_of_digits-push ds d, power) (omega arith)

sevens-push : (ds : List (List Bool)) (d : List Bool) → AreSevens ds → length d ≡ 7 → AreSevens (ds ++ d ∷ [])
sevens-push ds d sevens seven = All-push (λ digit. length digit ≡ 7) ds d sevens seven

proper-push : (ds : List (List Bool)) (d : List Bool) → IsProper ds → (length ds ≡ 0 → value_of d ≢ 0) → IsProper (ds ++ d ∷ [])
proper-push [] d proper first = first refl
proper-push (e ∷ ds) d proper first = proper

shortest-push : (ds : List (List Bool)) (d : List Bool) → IsProper ds → IsShortest (ds ++ d ∷ [])
shortest-push [] d proper = tt
shortest-push (e ∷ []) d proper = proper
shortest-push (e ∷ e' ∷ ds) d proper = proper

length-open_blocks : (ds : List (List Bool)) → AreSevens ds → length (open_blocks ds) ≡ 8 * length ds
length-open_blocks [] sevens = refl
length-open_blocks (d ∷ ds) sevens = omega (arith, length-append d (open_blocks ds), seven-head d ds sevens, length-open_blocks ds (seven-tail d ds sevens))

-- blocks that say that another follows, and one that does not
closed : (ds : List (List Bool)) (seven : List Bool) → AreSevens ds → IsProper ds → length ds ≤ 3 → length seven ≡ 7 → IsEbv (128 * number_of_digits ds + value_of seven) (open_blocks ds ++ false ∷ seven)
closed ds seven sevens proper few long = record {
  digits = ds ++ seven ∷ [];
  sevens = sevens-push ds seven sevens long;
  few = omega (arith, length-append ds (seven ∷ []));
  shortest = shortest-push ds seven proper;
  value = sym (number_of_digits-push ds seven);
  spelled = sym (blocks_of-push ds seven);
}

-- a front of a digit, made whole by ones, is not 0
record Filled (part : List Bool) : Type 0 where
  more : List Bool
  some_more : more ≢ []
  length_is : length (part ++ more) ≡ 7
  says : value_of (part ++ more) ≢ 0

not-nil : (xs : List Bool) (x : Bool) → xs ++ x ∷ [] ≢ []
not-nil [] x none = cc
not-nil (y ∷ xs) x none = cc

filled : (part : List Bool) → length part < 7 → Filled part
filled part short =
    let ones : List Bool = replicate (6 - length part) true in
    let turned : part ++ (ones ++ true ∷ []) ≡ (part ++ ones) ++ true ∷ [] = sym (append_assoc part ones (true ∷ [])) in
    record {
      more = ones ++ true ∷ [];
      some_more = not-nil ones true;
      length_is = omega (arith, length-append part (ones ++ true ∷ []), length-append ones (true ∷ []), length-replicate (6 - length part) true);
      says = λ none. omega (arith, value_of-push (part ++ ones) true, ap value_of turned);
    }

cut_bits : (bits rest : List Bool) (ds : List (List Bool)) → bits ≡ open_blocks ds ++ rest → AreSevens ds → IsProper ds → length ds ≤ 3 → length rest < 8 → (length ds ≡ 3 → slice_get rest 0 ≢ Some true) → IsCutEbv bits
cut_bits bits [] ds split sevens proper few short last =
    let f : Filled [] = filled [] (omega arith) in
    let whole : bits ++ (false ∷ f.more) ≡ open_blocks ds ++ false ∷ f.more = ap (λ (b : List Bool). b ++ (false ∷ f.more)) (split ∙ append-nil (open_blocks ds)) in
    record {
      number = 128 * number_of_digits ds + value_of f.more;
      more = false ∷ f.more;
      some_more = λ none. cc;
      whole = rw whole (closed ds f.more sevens proper few f.length_is);
    }
cut_bits bits (false ∷ part) ds split sevens proper few short last =
    let f : Filled part = filled part (omega arith) in
    let whole : bits ++ f.more ≡ open_blocks ds ++ false ∷ (part ++ f.more) = ap (λ (b : List Bool). b ++ f.more) split ∙ append_assoc (open_blocks ds) (false ∷ part) f.more in
    record {
      number = 128 * number_of_digits ds + value_of (part ++ f.more);
      more = f.more;
      some_more = f.some_more;
      whole = rw whole (closed ds (part ++ f.more) sevens proper few f.length_is);
    }
cut_bits bits (true ∷ part) ds split sevens proper few short last =
    let fewer : length ds ≤ 2 = elim (cases_lt (length ds) 3) [ inl less ↦ omega arith | inr more ↦ absurd (last (omega arith) refl) ] in
    let f : Filled part = filled part (omega arith) in
    let g : Filled [] = filled [] (omega arith) in
    let es : List (List Bool) = ds ++ (part ++ f.more) ∷ [] in
    let front : bits ++ f.more ≡ open_blocks es =
    ap (λ (b : List Bool). b ++ f.more) split ∙ append_assoc (open_blocks ds) (true ∷ part) f.more ∙ sym (open_blocks-push ds (part ++ f.more)) in
    let whole : bits ++ (f.more ++ (false ∷ g.more)) ≡ open_blocks es ++ false ∷ g.more =
    sym (append_assoc bits f.more (false ∷ g.more)) ∙ ap (λ (b : List Bool). b ++ (false ∷ g.more)) front in
    record {
      number = 128 * number_of_digits es + value_of g.more;
      more = f.more ++ (false ∷ g.more);
      some_more = λ none. omega (arith, ap length none, length-append f.more (false ∷ g.more));
      whole = rw whole (closed es g.more (sevens-push ds (part ++ f.more) sevens f.length_is) (proper-push ds (part ++ f.more) proper (λ none. f.says)) (omega (arith, length-append ds ((part ++ f.more) ∷ []))) g.length_is);
    }

too_long_bits : (bits rest : List Bool) (ds : List (List Bool)) → bits ≡ open_blocks ds ++ rest → AreSevens ds → IsProper ds → length ds ≡ 3 → slice_get rest 0 ≡ Some true → IsTooLong bits
too_long_bits bits rest [] split sevens proper three fourth = absurd (omega arith)
too_long_bits bits rest (d ∷ []) split sevens proper three fourth = absurd (omega arith)
too_long_bits bits rest (d ∷ e ∷ []) split sevens proper three fourth = absurd (omega arith)
too_long_bits bits rest (d ∷ e ∷ f ∷ g ∷ ds) split sevens proper three fourth = absurd (omega arith)
too_long_bits bits rest (d ∷ e ∷ f ∷ []) split sevens proper three fourth =
    let turned : bits ≡ (true ∷ d) ++ ((true ∷ e) ++ ((true ∷ f) ++ rest)) = split
    ∙ append_assoc (true ∷ d) ((true ∷ e) ++ ((true ∷ f) ++ [])) rest
    ∙ ap (λ (b : List Bool). (true ∷ d) ++ b) (append_assoc (true ∷ e) ((true ∷ f) ++ []) rest ∙ ap (λ (b : List Bool). (true ∷ e) ++ (b ++ rest)) (append-nil (true ∷ f))) in
    let d_long : length d ≡ 7 = seven-head d (e ∷ f ∷ []) sevens in
    let e_long : length e ≡ 7 = seven-head e (f ∷ []) (seven-tail d (e ∷ f ∷ []) sevens) in
    let f_long : length f ≡ 7 = seven-head f [] (seven-tail e (f ∷ []) (seven-tail d (e ∷ f ∷ []) sevens)) in
    let at : (i : ℕ) → slice_get bits i ≡ slice_get ((true ∷ d) ++ ((true ∷ e) ++ ((true ∷ f) ++ rest))) i = λ i. ap (λ (b : List Bool). slice_get b i) turned in
    record {
      first = at 0;
      second = at 8 ∙ slice_get-append_right (true ∷ d) ((true ∷ e) ++ ((true ∷ f) ++ rest)) 0 8 (omega arith);
      third = at 16 ∙ slice_get-append_right (true ∷ d) ((true ∷ e) ++ ((true ∷ f) ++ rest)) 8 16 (omega arith) ∙ slice_get-append_right (true ∷ e) ((true ∷ f) ++ rest) 0 8 (omega arith);
      fourth = at 24 ∙ slice_get-append_right (true ∷ d) ((true ∷ e) ++ ((true ∷ f) ++ rest)) 16 24 (omega arith) ∙ slice_get-append_right (true ∷ e) ((true ∷ f) ++ rest) 8 16 (omega arith)
          ∙ slice_get-append_right (true ∷ f) rest 0 8 (omega arith) ∙ fourth;
      says = λ nothing. proper (nothing-digit d ((true ∷ e) ++ ((true ∷ f) ++ rest)) d_long (subst BeginsWithNothing turned nothing));
    }

-- ---- a front

pub no_front : IsEbvFront []
no_front = record {
  digits = [];
  part = [];
  spelled = refl;
  sevens = λ k d h. absurd (omega arith);
  proper = tt;
  few = omega arith;
  short = omega arith;
  ends = λ three. absurd (omega arith);
}

-- with some more bits it is a vector
pub cut_front : (bits : List Bool) → IsEbvFront bits → IsCutEbv bits
cut_front bits f = cut_bits bits f.part f.digits f.spelled f.sevens f.proper f.few f.short f.ends

nil_behind : (bits more : List Bool) → bits ++ more ≡ [] → more ≡ []
nil_behind bits more none = nil_from_length more (omega (arith, ap length none, length-append bits more))

begins_last : (bits more digit : List Bool) → bits ++ more ≡ false ∷ digit → slice_get bits 0 ≢ Some true
begins_last [] more digit same got = cc
begins_last (bit ∷ bits) more digit same got = cc

-- the blocks before the one that the bits end in, and those from it on
record Split (digits : List (List Bool)) (bits : List Bool) : Type 0 where
  front : List (List Bool)
  behind : List (List Bool)
  whole : digits ≡ front ++ behind
  some : 0 < length behind
  part : List Bool
  spelled : bits ≡ open_blocks front ++ part
  short : length part < 8
  ends : length behind ≡ 1 → slice_get part 0 ≢ Some true

cut_block : (block rest bits more : List Bool) → length block ≡ 8 → 8 ≤ length bits → bits ++ more ≡ block ++ rest → (take 8 bits ≡ block) × (drop 8 bits ++ more ≡ rest)
cut_block block rest bits more eight long same = (
  sym (take-append-le 8 bits more long) ∙ ap (λ (b : List Bool). take 8 b) same ∙ take_at block rest 8 eight,
  sym (drop-append-le 8 bits more long) ∙ ap (λ (b : List Bool). drop 8 b) same ∙ drop_at block rest 8 eight,
)

behind_block : (d : List Bool) (digits : List (List Bool)) (bits : List Bool) → take 8 bits ≡ true ∷ d → Split digits (drop 8 bits) → Split (d ∷ digits) bits
behind_block d digits bits first s = record {
  front = d ∷ s.front;
  behind = s.behind;
  whole = ap (λ (l : List (List Bool)). d ∷ l) s.whole;
  some = s.some;
  part = s.part;
  spelled = sym (take-append-drop 8 bits) ∙ ap (λ (b : List Bool). b ++ drop 8 bits) first ∙ ap (λ (b : List Bool). (true ∷ d) ++ b) s.spelled ∙ sym (append_assoc (true ∷ d) (open_blocks s.front) s.part);
  short = s.short;
  ends = s.ends;
}

split : (digits : List (List Bool)) (bits more : List Bool) → more ≢ [] → bits ++ more ≡ blocks_of digits → AreSevens digits → Split digits bits
split [] bits more some same sevens = absurd (some (nil_behind bits more same))
split (d ∷ []) bits more some same sevens = record {
  front = [];
  behind = d ∷ [];
  whole = refl;
  some = omega arith;
  part = bits;
  spelled = refl;
  short = elim (cases_lt (length bits) 8) [
    | inl less ↦ less
    | inr long ↦ absurd (some (nil_from_length more (omega (arith, long, ap length same, length-append bits more, seven-head d [] sevens))))
  ];
  ends = λ one. begins_last bits more d same;
}
split (d ∷ d' ∷ ds) bits more some same sevens =
    elim (cases_lt (length bits) 8) [
      | inl less ↦ record { front = []; behind = d ∷ d' ∷ ds; whole = refl; some = omega arith; part = bits; spelled = refl; short = less; ends = λ one. absurd (omega arith) }
      | inr long ↦
          let cut = cut_block (true ∷ d) (blocks_of (d' ∷ ds)) bits more (omega (arith, seven-head d (d' ∷ ds) sevens)) long same in
          behind_block d (d' ∷ ds) bits cut.0 (split (d' ∷ ds) (drop 8 bits) more some cut.1 (seven-tail d (d' ∷ ds) sevens))
    ]

sevens_front : (front behind : List (List Bool)) → AreSevens (front ++ behind) → AreSevens front
sevens_front [] behind sevens = λ k d h. absurd (omega arith)
sevens_front (d ∷ front) behind sevens = All-cons (λ digit. length digit ≡ 7) d front (seven-head d (front ++ behind) sevens) (sevens_front front behind (seven-tail d (front ++ behind) sevens))

proper_front : (front behind : List (List Bool)) → 0 < length behind → IsShortest (front ++ behind) → IsProper front
proper_front [] behind some shortest = tt
proper_front (d ∷ []) [] some shortest = absurd (omega arith)
proper_front (d ∷ []) (e ∷ behind) some shortest = shortest
proper_front (d ∷ d' ∷ front) behind some shortest = shortest

pub front_of : (bits : List Bool) → IsCutEbv bits → IsEbvFront bits
front_of bits cut =
    let ebv = cut.whole in
    let s : Split ebv.digits bits = split ebv.digits bits cut.more cut.some_more ebv.spelled ebv.sevens in
    record {
      digits = s.front;
      part = s.part;
      spelled = s.spelled;
      sevens = sevens_front s.front s.behind (subst AreSevens s.whole ebv.sevens);
      proper = proper_front s.front s.behind s.some (subst IsShortest s.whole ebv.shortest);
      few = omega (arith, ebv.few, ap length s.whole, length-append s.front s.behind, s.some);
      short = s.short;
      ends = λ three. s.ends (omega (arith, ebv.few, ap length s.whole, length-append s.front s.behind, s.some));
    }

-- ... for bits under another name
pub front_as : (bits front : List Bool) → bits ≡ front → IsCutEbv bits → IsEbvFront front
front_as bits front same cut = front_of front (subst IsCutEbv same cut)

length_front : (bits : List Bool) (f : IsEbvFront bits) → length bits ≡ 8 * length f.digits + length f.part
length_front bits f = omega (arith, ap length f.spelled, length-append (open_blocks f.digits) f.part, length-open_blocks f.digits f.sevens)

pub front_short : (bits : List Bool) → IsEbvFront bits → length bits ≤ 31
front_short bits f = omega (arith, length_front bits f, f.few, f.short)

-- one bit more of the same block
push_part : (bits : List Bool) (bit : Bool) (f : IsEbvFront bits) → length f.part < 7 → (length f.digits ≡ 3 → slice_get (f.part ++ bit ∷ []) 0 ≢ Some true) → IsEbvFront (bits ++ bit ∷ [])
push_part bits bit f short ends = record {
  digits = f.digits;
  part = f.part ++ bit ∷ [];
  spelled = ap (λ (b : List Bool). b ++ bit ∷ []) f.spelled ∙ append_assoc (open_blocks f.digits) f.part (bit ∷ []);
  sevens = f.sevens;
  proper = f.proper;
  few = f.few;
  short = omega (arith, short, length-append f.part (bit ∷ []));
  ends = ends;
}

pub inside_front : (bits : List Bool) (bit : Bool) → IsEbvFront bits → length bits % 8 ≢ 0 → length bits % 8 ≢ 7 → IsEbvFront (bits ++ bit ∷ [])
inside_front bits bit f first last =
    let some : 0 < length f.part = omega (arith, length_front bits f, f.short, first) in
    push_part bits bit f (omega (arith, length_front bits f, f.short, last))
    (λ three got. f.ends three (sym (slice_get-append_left f.part (bit ∷ []) 0 some) ∙ got))

-- ---- the extension bit of a block

no_part : (bits : List Bool) (f : IsEbvFront bits) → length bits % 8 ≡ 0 → f.part ≡ []
no_part bits f first = nil_from_length f.part (omega (arith, length_front bits f, f.short))

is_false : (bit : Bool) → bit ≡ false → slice_get (bit ∷ []) 0 ≢ Some true
is_false bit zero got = cc

pub begun_front : (bits : List Bool) (bit : Bool) → IsEbvFront bits → length bits % 8 ≡ 0 → (bit ≡ false) ⊎ (length bits ≢ 24) → IsEbvFront (bits ++ bit ∷ [])
begun_front bits bit f first ends =
    let none : length f.part ≡ 0 = ap length (no_part bits f first) in
    push_part bits bit f (omega arith)
    (λ three got. elim ends [
      | inl zero ↦ is_false bit zero (sym (ap (λ (p : List Bool). slice_get (p ++ bit ∷ []) 0) (no_part bits f first)) ∙ got)
      | inr fewer ↦ fewer (omega (arith, length_front bits f))
    ])

pub too_long_front : (bits : List Bool) (bit : Bool) → IsEbvFront bits → length bits ≡ 24 → bit ≡ true → IsTooLong (bits ++ bit ∷ [])
too_long_front bits bit f all one =
    let three : length f.digits ≡ 3 = omega (arith, length_front bits f, f.short, f.few) in
    let none : f.part ≡ [] = no_part bits f (omega arith) in
    too_long_bits (bits ++ bit ∷ []) (f.part ++ bit ∷ []) f.digits
    (ap (λ (b : List Bool). b ++ bit ∷ []) f.spelled ∙ append_assoc (open_blocks f.digits) f.part (bit ∷ []))
    f.sevens f.proper three
    (ap (λ (p : List Bool). slice_get (p ++ bit ∷ []) 0) none ∙ ap (λ (b : Bool). slice_get (b ∷ []) 0) one)

-- ---- the last bit of a block

-- the bits are blocks that another follows, and one whole block
record Ended (bits : List Bool) : Type 0 where
  digits : List (List Bool)
  extension : Bool
  seven : List Bool
  whole : bits ≡ open_blocks digits ++ extension ∷ seven
  sevens : AreSevens digits
  long : length seven ≡ 7
  proper : IsProper digits
  few : length digits ≤ 3
  ends : length digits ≡ 3 → extension ≡ false

not_true : (bit : Bool) (more : List Bool) → slice_get (bit ∷ more) 0 ≢ Some true → bit ≡ false
not_true true more other = absurd (other refl)
not_true false more other = refl

ended : (bits : List Bool) (bit : Bool) → IsEbvFront bits → length bits % 8 ≡ 7 → Ended (bits ++ bit ∷ [])
ended bits bit f last = behind f.part refl
  where
    behind : (part : List Bool) → f.part ≡ part → Ended (bits ++ bit ∷ [])
    behind [] same = absurd (omega (arith, length_front bits f, ap length same))
    behind (extension ∷ six) same = record {
      digits = f.digits;
      extension = extension;
      seven = six ++ bit ∷ [];
      whole = ap (λ (b : List Bool). b ++ bit ∷ []) (f.spelled ∙ ap (λ (p : List Bool). open_blocks f.digits ++ p) same) ∙ append_assoc (open_blocks f.digits) (extension ∷ six) (bit ∷ []);
      sevens = f.sevens;
      long = omega (arith, length-append six (bit ∷ []), length_front bits f, ap length same, f.short);
      proper = f.proper;
      few = f.few;
      ends = λ three. not_true extension six (λ got. f.ends three (ap (λ (p : List Bool). slice_get p 0) same ∙ got));
    }

-- a block behind others
value_of-block : (front seven : List Bool) (extension : Bool) → length seven ≡ 7 → value_of (front ++ extension ∷ seven) ≡ value_of front * 256 + digit_of extension * 128 + value_of seven
value_of-block front seven extension long =
    let block : value_of (extension ∷ seven) ≡ digit_of extension * 128 + value_of seven = ap (λ n. digit_of extension * 2 ^ n + value_of seven) long in
    let width : 2 ^ length (extension ∷ seven) ≡ 256 = ap (λ n. 2 ^ suc n) long in
    value_of-append front (extension ∷ seven) ∙ rw (block, width) (omega arith)

small_digit : (bit : Bool) → digit_of bit ≤ 1
small_digit true = omega arith
small_digit false = omega arith

digit_one : (bit : Bool) → digit_of bit ≢ 0 → bit ≡ true
digit_one true some = refl
digit_one false some = absurd (some refl)

digit_zero : (bit : Bool) → digit_of bit ≡ 0 → bit ≡ false
digit_zero true none = absurd (omega arith)
digit_zero false none = refl

-- the number that the bits are shows the extension bit of the last block
extension_in : (bits : List Bool) (all : ℕ) (e : Ended bits) → all ≡ value_of bits → digit_of e.extension ≡ all / 128 % 2
extension_in bits all e same =
    omega (arith, same, ap value_of e.whole, value_of-block (open_blocks e.digits) e.seven e.extension e.long, small_digit e.extension, value_of-within e.seven 7 (omega (arith, e.long)))

pub whole_front : (bits : List Bool) (bit : Bool) (all : ℕ) → IsEbvFront bits → length bits % 8 ≡ 7 → all ≡ value_of (bits ++ bit ∷ []) → all / 128 % 2 ≡ 0 → (number : ℕ) × IsEbv number (bits ++ bit ∷ [])
whole_front bits bit all f last same zero_bit =
    let e : Ended (bits ++ bit ∷ []) = ended bits bit f last in
    let extension : e.extension ≡ false = digit_zero e.extension (extension_in (bits ++ bit ∷ []) all e same ∙ zero_bit) in
    let spelled : bits ++ bit ∷ [] ≡ open_blocks e.digits ++ false ∷ e.seven = e.whole ∙ ap (λ (b : Bool). open_blocks e.digits ++ b ∷ e.seven) extension in
    (128 * number_of_digits e.digits + value_of e.seven, rw spelled (closed e.digits e.seven e.sevens e.proper e.few e.long))

-- bits that begin with a 1
large : (bits : List Bool) → 15 ≤ length bits → 32768 ≤ value_of (true ∷ bits)
large bits long =
    let grows : 2 ^ 15 ≤ 2 ^ length bits = pow-le-pow_right (omega arith) long in
    omega arith

pub nothing_front : (bits : List Bool) (bit : Bool) (all : ℕ) → IsEbvFront bits → length bits % 8 ≡ 7 → all ≡ value_of (bits ++ bit ∷ []) → all ≡ 128 → BeginsWithNothing (bits ++ bit ∷ [])
nothing_front bits bit all f last same says = by_digits e.digits e.sevens e.whole
  where
    e : Ended (bits ++ bit ∷ [])
    e = ended bits bit f last

    extension : e.extension ≡ true
    extension = digit_one e.extension (omega (arith, extension_in (bits ++ bit ∷ []) all e same))

    by_digits : (digits : List (List Bool)) → AreSevens digits → bits ++ bit ∷ [] ≡ open_blocks digits ++ e.extension ∷ e.seven → BeginsWithNothing (bits ++ bit ∷ [])
    by_digits [] sevens whole =
        let spelled : bits ++ bit ∷ [] ≡ true ∷ e.seven ++ [] = whole ∙ ap (λ (b : Bool). b ∷ e.seven) extension ∙ ap (λ (s : List Bool). true ∷ s) (sym (append-nil e.seven)) in
        subst BeginsWithNothing (sym spelled)
        (digit-nothing e.seven [] e.long (omega (arith, same, ap value_of whole, value_of-block [] e.seven e.extension e.long, extension_in (bits ++ bit ∷ []) all e same)))
    by_digits (d ∷ ds) sevens whole =
        let long : 15 ≤ length (d ++ (open_blocks ds ++ e.extension ∷ e.seven)) = omega (arith, length-append d (open_blocks ds ++ (e.extension ∷ e.seven)), length-append (open_blocks ds) (e.extension ∷ e.seven), seven-head d ds sevens, e.long) in
        let turned : bits ++ bit ∷ [] ≡ true ∷ (d ++ (open_blocks ds ++ e.extension ∷ e.seven)) = whole ∙ ap (λ (b : List Bool). true ∷ b) (append_assoc d (open_blocks ds) (e.extension ∷ e.seven)) in
        absurd (omega (arith, same, ap value_of turned, large (d ++ (open_blocks ds ++ e.extension ∷ e.seven)) long))

pub open_front : (bits : List Bool) (bit : Bool) (all : ℕ) → IsEbvFront bits → length bits % 8 ≡ 7 → all ≡ value_of (bits ++ bit ∷ []) → all / 128 % 2 ≢ 0 → all ≢ 128 → IsEbvFront (bits ++ bit ∷ [])
open_front bits bit all f last same one_bit says =
    let e : Ended (bits ++ bit ∷ []) = ended bits bit f last in
    let extension : e.extension ≡ true = digit_one e.extension (λ none. one_bit (sym (extension_in (bits ++ bit ∷ []) all e same) ∙ none)) in
    let spelled : bits ++ bit ∷ [] ≡ open_blocks e.digits ++ true ∷ e.seven = e.whole ∙ ap (λ (b : Bool). open_blocks e.digits ++ b ∷ e.seven) extension in
    record {
      digits = e.digits ++ e.seven ∷ [];
      part = [];
      spelled = spelled ∙ sym (open_blocks-push e.digits e.seven) ∙ sym (append-nil (open_blocks (e.digits ++ e.seven ∷ [])));
      sevens = sevens-push e.digits e.seven e.sevens e.long;
      proper = proper-push e.digits e.seven e.proper (λ none zero_digit. says (alone e none zero_digit spelled));
      few = elim (cases_lt (length e.digits) 3) [ inl less ↦ omega (arith, length-append e.digits (e.seven ∷ [])) | inr more ↦ absurd (other (e.ends (omega (arith, e.few))) extension) ];
      short = omega arith;
      ends = λ three got. cc;
    }
  where
    other : {b : Bool} → b ≡ false → b ≡ true → ⊥
    other p q = cc

    alone : (e : Ended (bits ++ bit ∷ [])) → length e.digits ≡ 0 → value_of e.seven ≡ 0 → bits ++ bit ∷ [] ≡ open_blocks e.digits ++ true ∷ e.seven → all ≡ 128
    alone e none zero_digit spelled =
        let no_digits : e.digits ≡ [] = nil_from_length e.digits none in
        omega (arith, same, ap value_of (spelled ∙ ap (λ (ds : List (List Bool)). open_blocks ds ++ true ∷ e.seven) no_digits), value_of-block [] e.seven true e.long)

-- ---- the bits as a number

pub digit_small : (digit : ℕ) (bit : Bool) → digit ≡ bool_byte bit → digit ≤ 1
digit_small digit bit read = omega (arith, read, digit_of-byte bit, small_digit bit)

pub push_below : (value width digit : ℕ) (bit : Bool) → value < 2 ^ width → digit ≡ bool_byte bit → 2 * value + digit < 2 ^ (width + 1)
push_below value width digit bit small read =
    let power : 2 ^ (width + 1) ≡ 2 ^ width * 2 = ap (λ n. 2 ^ n) (add-one width) ∙ pow-suc 2 width in
    omega (arith, small, read, digit_of-byte bit, small_digit bit, power)

pub field_push : (value width digit : ℕ) (bit : Bool) → value < 2 ^ width → digit ≡ bool_byte bit → field_of (2 * value + digit) (width + 1) ≡ field_of value width ++ bit ∷ []
field_push value width digit bit small read =
    let below : 2 * value + digit < 2 ^ (width + 1) = push_below value width digit bit small read in
    same_from_value (field_of (2 * value + digit) (width + 1)) (field_of value width ++ bit ∷ [])
    (omega (arith, length-field_of (2 * value + digit) (width + 1), length-append (field_of value width) (bit ∷ []), length-field_of value width))
    (omega (arith, value_of-field (2 * value + digit) (width + 1) below, value_of-push (field_of value width) bit, value_of-field value width small, digit_of-byte bit, read))

-- how many bits a front has, and that one more fits
pub counted : (bits count : ℕ) (front : List Bool) → field_of bits count ≡ front → count ≡ length front
counted bits count front same = sym (length-field_of bits count) ∙ ap length same

pub room : (bits count : ℕ) (front : List Bool) (bit : Bool) → field_of bits count ≡ front → bits < 2 ^ count → IsEbvFront (front ++ bit ∷ []) → (count ≤ 30) × (bits < 2 ^ 30)
room bits count front bit same small f =
    let few : count ≤ 30 = omega (arith, counted bits count front same, front_short (front ++ bit ∷ []) f, length-append front (bit ∷ [])) in
    let grows : 2 ^ count ≤ 2 ^ 30 = pow-le-pow_right (omega arith) few in
    (few, omega (arith, small, grows))

-- a block in front of others
value_of-open : (digit rest : List Bool) (width : ℕ) → length digit ≡ 7 → length rest ≡ width → value_of (true ∷ digit ++ rest) ≡ (128 + value_of digit) * 2 ^ width + value_of rest
value_of-open digit rest width long behind =
    let block : value_of (true ∷ digit) ≡ 128 + value_of digit = ap (λ n. 1 * 2 ^ n + value_of digit) long in
    value_of-append (true ∷ digit) rest ∙ rw (block, behind) refl

value_of-last : (digit : List Bool) → value_of (false ∷ digit) ≡ value_of digit
value_of-last digit = omega arith

abbrev number_in : ℕ → ℕ
number_in bits = bits % 128 + bits / 256 % 128 * 128 + bits / 65536 % 128 * 16384 + bits / 16777216 % 128 * 2097152

small_seven : (digit : List Bool) → length digit ≡ 7 → value_of digit < 128
small_seven digit long = value_of-within digit 7 (omega (arith, long))

digits_in : (ds : List (List Bool)) (bits : ℕ) → AreSevens ds → 0 < length ds → length ds ≤ 4 → bits ≡ value_of (blocks_of ds) → number_in bits ≡ number_of_digits ds
digits_in [] bits sevens some few same = absurd (omega arith)
digits_in (a ∷ []) bits sevens some few same =
    let a7 = seven-head a [] sevens in
    omega (arith, same, value_of-last a, small_seven a a7)
digits_in (a ∷ b ∷ []) bits sevens some few same =
    let a7 = seven-head a (b ∷ []) sevens in
    let b7 = seven-head b [] (seven-tail a (b ∷ []) sevens) in
    let value : bits ≡ (128 + value_of a) * 256 + value_of b = same ∙ value_of-open a (false ∷ b) 8 a7 (omega (arith, b7)) ∙ ap (λ n. (128 + value_of a) * 256 + n) (value_of-last b) in
    omega (arith, value, small_seven a a7, small_seven b b7)
digits_in (a ∷ b ∷ c ∷ []) bits sevens some few same =
    let tail = seven-tail a (b ∷ c ∷ []) sevens in
    let a7 = seven-head a (b ∷ c ∷ []) sevens in
    let b7 = seven-head b (c ∷ []) tail in
    let c7 = seven-head c [] (seven-tail b (c ∷ []) tail) in
    let behind : value_of (true ∷ b ++ false ∷ c) ≡ (128 + value_of b) * 256 + value_of c = value_of-open b (false ∷ c) 8 b7 (omega (arith, c7)) ∙ ap (λ n. (128 + value_of b) * 256 + n) (value_of-last c) in
    let value : bits ≡ (128 + value_of a) * 65536 + ((128 + value_of b) * 256 + value_of c) = same ∙ value_of-open a (true ∷ b ++ false ∷ c) 16 a7 (omega (arith, length-append b (false ∷ c), b7, c7)) ∙ ap (λ n. (128 + value_of a) * 65536 + n) behind in
    omega (arith, value, small_seven a a7, small_seven b b7, small_seven c c7)
digits_in (a ∷ b ∷ c ∷ d ∷ []) bits sevens some few same =
    let tail = seven-tail a (b ∷ c ∷ d ∷ []) sevens in
    let tail2 = seven-tail b (c ∷ d ∷ []) tail in
    let a7 = seven-head a (b ∷ c ∷ d ∷ []) sevens in
    let b7 = seven-head b (c ∷ d ∷ []) tail in
    let c7 = seven-head c (d ∷ []) tail2 in
    let d7 = seven-head d [] (seven-tail c (d ∷ []) tail2) in
    let last : value_of (true ∷ c ++ false ∷ d) ≡ (128 + value_of c) * 256 + value_of d = value_of-open c (false ∷ d) 8 c7 (omega (arith, d7)) ∙ ap (λ n. (128 + value_of c) * 256 + n) (value_of-last d) in
    let long : length (true ∷ c ++ false ∷ d) ≡ 16 = omega (arith, length-append c (false ∷ d), c7, d7) in
    let behind : value_of (true ∷ b ++ (true ∷ c ++ false ∷ d)) ≡ (128 + value_of b) * 65536 + ((128 + value_of c) * 256 + value_of d) = value_of-open b (true ∷ c ++ false ∷ d) 16 b7 long ∙ ap (λ n. (128 + value_of b) * 65536 + n) last in
    let value : bits ≡ (128 + value_of a) * 16777216 + ((128 + value_of b) * 65536 + ((128 + value_of c) * 256 + value_of d)) =
    same ∙ value_of-open a (true ∷ b ++ (true ∷ c ++ false ∷ d)) 24 a7 (omega (arith, length-append b (true ∷ c ++ false ∷ d), b7, long)) ∙ ap (λ n. (128 + value_of a) * 16777216 + n) behind in
    omega (arith, value, small_seven a a7, small_seven b b7, small_seven c c7, small_seven d d7)
digits_in (a ∷ b ∷ c ∷ d ∷ e ∷ ds) bits sevens some few same = absurd (omega arith)

pub number_in_is : (bits number : ℕ) (vector : List Bool) → IsEbv number vector → bits ≡ value_of vector → number_in bits ≡ number
number_in_is bits number vector ebv same =
    digits_in ebv.digits bits ebv.sevens (shortest-some ebv.digits ebv.shortest) ebv.few (same ∙ ap value_of ebv.spelled) ∙ sym ebv.value

-- ---- a step with the whole list of bits

-- the number of the bits with one more
pub value_push : (bits count digit : ℕ) (front : List Bool) (bit : Bool) → field_of bits count ≡ front → bits < 2 ^ count → digit ≡ bool_byte bit → 2 * bits + digit ≡ value_of (front ++ bit ∷ [])
value_push bits count digit front bit same small read =
    omega (arith, value_of-push front bit, ap value_of same, value_of-field bits count small, digit_of-byte bit, read)

pub room_in : (bits count : ℕ) (front : List Bool) → field_of bits count ≡ front → bits < 2 ^ count → IsEbvFront front → bits < 2 ^ 31
room_in bits count front same small f =
    let grows : 2 ^ count ≤ 2 ^ 31 = pow-le-pow_right (omega arith) {j = 31} (omega (arith, counted bits count front same, front_short front f)) in
    omega (arith, small, grows)

-- ---- from a place of a list on

-- the bits from a place up to the one that is read next
pub record IsReadTo (items : List Bool) (from at : ℕ) (front : List Bool) : Type 0 where
  pub is : front ≡ part_of items from (at - from)
  pub forward : from ≤ at
  pub inside : at < length items

pub read_more : (items front : List Bool) (from at : ℕ) (bit d : Bool) → IsReadTo items from at front → bit ≡ get_or items at d → front ++ bit ∷ [] ≡ part_of items from (at + 1 - from)
read_more items front from at bit d so_far read =
    let forward = so_far.forward in
    let place : at - from + 1 ≡ at + 1 - from = omega arith in
    let there : get_or (drop from items) (at - from) d ≡ bit = get_or-drop from items (at - from) d ∙ ap (λ n. get_or items n d) (omega arith) ∙ sym read in
    ap (λ (b : List Bool). b ++ bit ∷ []) so_far.is ∙ ap (λ (x : Bool). part_of items from (at - from) ++ x ∷ []) (sym there)
    ∙ sym (take_more (drop from items) (at - from) d (omega (arith, so_far.inside, length-drop from items)))
    ∙ ap (λ n. part_of items from n) place

behind_part : (P : List Bool → Type 0) → ((bits more : List Bool) → P bits → P (bits ++ more)) → (items : List Bool) (from width : ℕ) → P (part_of items from width) → P (drop from items)
behind_part P grows items from width holds = subst P (take-append-drop width (drop from items)) (grows (part_of items from width) (drop width (drop from items)) holds)

pub read_nothing : (items : List Bool) (from width : ℕ) → BeginsWithNothing (part_of items from width) → BeginsWithNothing (drop from items)
read_nothing items from width holds = behind_part BeginsWithNothing nothing-more items from width holds

pub read_too_long : (items : List Bool) (from width : ℕ) → IsTooLong (part_of items from width) → IsTooLong (drop from items)
read_too_long items from width holds = behind_part IsTooLong too_long-more items from width holds

pub read_value : (items front : List Bool) (from at number : ℕ) → from ≤ at → at < length items → front ≡ part_of items from (at + 1 - from) → IsEbv number front → HasEbvAt items from number (at + 1)
read_value items front from at number forward inside same ebv = record {
  forward = omega arith;
  within = omega arith;
  vector = subst (IsEbv number) same ebv;
}
