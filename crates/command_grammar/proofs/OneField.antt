-- In the fields of a command each place stands in one field.
use Rattle.std.proofs.Common.{◌≡◌, ℕ, ◌+◌, ◌-◌, ◌<◌, ◌≤◌, Bool, cond, ltb, List, [], ◌∷◌, ◌++◌, length, refl, sym, ap, ◌∙◌, length-append, arith}
use Rattle.std.specs.Prelude.{Option, Some, None}
use Rattle.std.proofs.lemmas.Bool.{le-ltb, lt-ltb}
use Rattle.command_grammar.specs.declared.refusal.Reason.{Reason}
use Rattle.command_grammar.specs.Commands.{Part, bits_of, IsInField}
use Rattle.command_grammar.proofs.reading.FieldsInOrder.{bits_of-append}

-- the field in which a place stands
field_there : List Part → ℕ → Option Part
field_there [] place = None
field_there (field ∷ parts) place = cond (ltb place (length field.bits)) (Some field) (field_there parts (place - length field.bits))

-- it is each that has the place
is_there : (before : List Part) (field : Part) (behind : List Part) (place : ℕ) → length (bits_of before) ≤ place → place < length (bits_of before) + length field.bits
    → field_there ((before ++ field ∷ []) ++ behind) place ≡ Some field
unfolding field_there
is_there [] field behind place from upto = rw (lt-ltb place (length field.bits) (omega arith)) refl
is_there (part ∷ before) field behind place from upto =
    let whole : length (bits_of (part ∷ before)) ≡ length part.bits + length (bits_of before) = length-append part.bits (bits_of before) in
    rw (le-ltb place (length part.bits) (omega arith)) (is_there before field behind (place - length part.bits) (omega arith) (omega arith))

there : (parts : List Part) (place : ℕ) (reason : Reason) (stands : IsInField parts place reason) → field_there parts place ≡ Some stands.field
there parts place reason stands = ap (λ (ps : List Part). field_there ps place) stands.whole ∙ is_there stands.before stands.field stands.behind place stands.from stands.upto

-- so the field there has one name
pub one_name : (parts : List Part) (place : ℕ) (one other : Reason) → IsInField parts place one → IsInField parts place other → one ≡ other
one_name parts place one other left right =
    let same : left.field ≡ right.field = in_some (sym (there parts place one left) ∙ there parts place other right) in
    in_some (sym left.name ∙ ap (λ (p : Part). p.name) same ∙ right.name)
  where
    in_some : {A : Type 0} {x y : A} → Some x ≡ Some y → x ≡ y
    in_some e = cc

-- ... and is a place of the command
pub stands_inside : (parts : List Part) (place : ℕ) (reason : Reason) → IsInField parts place reason → place < length (bits_of parts)
stands_inside parts place reason stands =
    omega (
      arith,
      stands.upto,
      ap (λ (ps : List Part). length (bits_of ps)) stands.whole,
      ap (λ (l : List Bool). length l) (bits_of-append (stands.before ++ stands.field ∷ []) stands.behind),
      length-append (bits_of (stands.before ++ stands.field ∷ [])) (bits_of stands.behind),
      ap (λ (l : List Bool). length l) (bits_of-append stands.before (stands.field ∷ [])),
      length-append (bits_of stands.before) (bits_of (stands.field ∷ [])),
      length-append stands.field.bits [],
    )
