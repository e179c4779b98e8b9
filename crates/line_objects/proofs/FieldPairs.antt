-- What fields say, joined.
use Rattle.std.proofs.Common.{◌≡◌, ◌≢◌, ◌≤◌, ◌-◌, ℕ, List, [], ◌∷◌, ◌++◌, Option, length, get_or, take, drop, refl, ap, ◌∙◌, append_assoc, arith}
use Rattle.std.proofs.lemmas.List.{take_all}
use Rattle.line_objects.specs.MemberNames.{key_name, key_shape}
use Rattle.line_objects.specs.Objects.{Pair, field_pairs, fields_pairs, kind_pair, pairs_behind, shaped_pairs, uri_pairs}
use Rattle.line_objects.specs.LineMembers.{keys_behind}
use Rattle.line_objects.specs.Values.{text_value}
use Rattle.line_objects.specs.declared.member_names.Key.{Key}
use Rattle.line_objects.specs.declared.member_names.Key.TheVariants as keys
use Rattle.line_objects.specs.declared.member_names.Shape.TheVariants.{EpcText}

abbrev Uris : Type 0
Uris = List ℕ → Option (List ℕ)

-- after two additions
pub added_both : (start first last one other : List Pair) → first ≡ start ++ one → last ≡ first ++ other → last ≡ start ++ (one ++ other)
added_both start first last one other at behind = behind ∙ ap (λ (pairs : List Pair). pairs ++ other) at ∙ append_assoc start one other

-- what an EPC says
pub epc_pairs : (uris : Uris) (key : Key) (field : List ℕ) → key_shape key ≡ EpcText → field_pairs uris key field ≡ (key_name key, text_value field) ∷ uri_pairs (uris field)
epc_pairs uris key field shape = ap (λ shape. shaped_pairs uris shape (key_name key) field) shape

-- a line of which no number stands first
pub kind_first : (uris : Uris) (word : List ℕ) (fields : List (List ℕ)) (others : List Key) → ((behind : List Key) → others ≢ keys.Line ∷ behind)
    → kind_pair word ∷ fields_pairs uris fields others ≡ pairs_behind uris word fields others
kind_first uris word [] others not = refl
kind_first uris word (field ∷ fields) [] not = refl
kind_first uris word (field ∷ fields) (keys.Line ∷ others) not = absurd (not others refl)
kind_first uris word (field ∷ fields) (key ∷ others) not = refl

-- ... and one that has no further field
pub kind_alone : (uris : Uris) (word : List ℕ) (fields : List (List ℕ)) (others : List Key) → fields ≡ []
    → kind_pair word ∷ fields_pairs uris fields others ≡ pairs_behind uris word fields others
kind_alone uris word fields others none = rw none refl

-- what a field and those behind it say
pub one_more : (uris : Uris) (all : List Key) (none : Key) (fields more : List (List ℕ)) (field : List ℕ) → 1 ≤ length all → fields ≡ field ∷ more
    → field_pairs uris (get_or all 0 none) field ++ fields_pairs uris more (keys_behind (get_or all 0 none) field (take (length all - 1) (drop 1 all)))
    ≡ fields_pairs uris fields all
one_more uris [] none fields more field some is = absurd (omega arith)
one_more uris (key ∷ others) none fields more field some is =
    rw is
    (ap (λ (rest : List Key). field_pairs uris key field ++ fields_pairs uris more (keys_behind key field rest)) (take_all (length (key ∷ others) - 1) others (omega arith)))
