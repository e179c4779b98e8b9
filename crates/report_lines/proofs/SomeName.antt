-- Each line has a name or has none, and so becomes some lines.
use Rattle.std.proofs.Common.{◌≡◌, ◌≢◌, ◌⊎◌, ℕ, ◌^◌, ◌<◌, List, [], ◌∷◌, length, refl, sym, ◌∙◌, ap, subst, inl, inr, arith}
use Rattle.std.specs.Prelude.{All, bytes_eq, codes}
use Rattle.std.specs.List.{flat_map}
use Rattle.std.proofs.lemmas.Bool.{cases_Bool}
use Rattle.std.proofs.lemmas.Bool.Decides.{not_from_Decides}
use Rattle.std.proofs.lemmas.List.Elements.{All-nil, All-cons, All-head}
use Rattle.std.proofs.lemmas.Slice.Eq.{bytes_eq-Decides}
use Rattle.text_fields.specs.Lines.{fields_of}
use Rattle.text_fields.specs.Hexadecimal.{hex_word, hex_words}
use Rattle.text_fields.specs.WordLists.{words_of_digits}
use Rattle.text_fields.proofs.WordDigits.{words_back, words_small}
use Rattle.epc_sgtin.specs.SgtinValue.{SgtinValue}
use Rattle.epc_sgtin.specs.Epc.{IsSgtin}
use Rattle.epc_sgtin.specs.EpcFaults.{RefusesEpc}
use Rattle.epc_sgtin.specs.declared.encoding.EpcFault.{EpcFault}
use Rattle.epc_sgtin.specs.SgtinText.{name_line}
use Rattle.report_lines.specs.Names.{IsNamed, BecomesLines}
use Rattle.report_lines.proofs.OneName.{AreNotRefused, six_of}

-- what a law of SGTINs says: words are those of one, or are refused
abbrev pub AreOrRefused : Type 0
AreOrRefused = (words : List ℕ) → All (λ word. word < 2 ^ 16) words → ((sgtin : SgtinValue) × IsSgtin sgtin words) ⊎ ((fault : EpcFault) × RefusesEpc fault words)

same_list : (xs ys : List ℕ) → (xs ≡ ys) ⊎ (xs ≢ ys)
same_list xs ys = elim (cases_Bool (bytes_eq xs ys)) [
  | inl same ↦ inl ((bytes_eq-Decides xs ys).0 same)
  | inr other ↦ inr (not_from_Decides (bytes_eq xs ys) (bytes_eq-Decides xs ys) other)
]

-- six words spell no hyphen
six_spelled : (words : List ℕ) → length words ≡ 6 → hex_words words ≡ flat_map hex_word words
six_spelled [] six = absurd (omega arith)
six_spelled (word ∷ words) six = refl

-- a field is the digits of an SGTIN's words, or of none
abbrev pub IsEpc : List ℕ → Type 0
IsEpc field = (sgtin : SgtinValue) × (words : List ℕ) × IsSgtin sgtin words × (field ≡ hex_words words)

epc_words : AreNotRefused → (field : List ℕ) → (is : IsEpc field) → words_of_digits field ≡ is.1
epc_words not_refused field is =
    let spelled : field ≡ flat_map hex_word is.1 = is.3 ∙ six_spelled is.1 (six_of not_refused is.0 is.1 is.2) in
    ap words_of_digits spelled ∙ words_back is.1 is.2.sixteens

pub epc_answer : AreNotRefused → AreOrRefused → (field : List ℕ) → IsEpc field ⊎ (¬ IsEpc field)
epc_answer not_refused or_refused field =
    let words = words_of_digits field in
    elim (same_list field (hex_words words)) [
      | inr other ↦ inr (λ is. other (is.3 ∙ ap hex_words (sym (epc_words not_refused field is))))
      | inl spelled ↦ elim (or_refused words (words_small field)) [
        | inl found ↦ inl (found.0, words, found.1, spelled)
        | inr refused ↦ inr (λ is. not_refused is.0 words refused.0 (subst (IsSgtin is.0) (sym (epc_words not_refused field is)) is.2) refused.1)
      ]
    ]

-- a field is the digits of a word, or of none
abbrev IsPc : List ℕ → Type 0
IsPc field = (pc : ℕ) × (pc < 2 ^ 16) × (field ≡ hex_word pc)

pc_words : (field : List ℕ) → (is : IsPc field) → words_of_digits field ≡ is.0 ∷ []
pc_words field is = ap words_of_digits is.2 ∙ words_back (is.0 ∷ []) (All-cons (λ word. word < 2 ^ 16) is.0 [] is.1 (All-nil (λ word. word < 2 ^ 16)))

pc_of : (field : List ℕ) (words : List ℕ) → words_of_digits field ≡ words → All (λ word. word < 2 ^ 16) words → IsPc field ⊎ (¬ IsPc field)
pc_of field [] are small = inr (λ is. let none : [] ≡ is.0 ∷ [] = sym are ∙ pc_words field is in cc)
pc_of field (w ∷ v ∷ words) are small = inr (λ is. let none : w ∷ v ∷ words ≡ is.0 ∷ [] = sym are ∙ pc_words field is in cc)
pc_of field (word ∷ []) are small = elim (same_list field (hex_word word)) [
  | inl same ↦ inl (word, All-head (λ word. word < 2 ^ 16) word [] small, same)
  | inr other ↦ inr (λ is. let found : word ∷ [] ≡ is.0 ∷ [] = sym are ∙ pc_words field is in let one : word ≡ is.0 = cc in other (is.2 ∙ ap hex_word (sym one)))
]

pc_answer : (field : List ℕ) → IsPc field ⊎ (¬ IsPc field)
pc_answer field = pc_of field (words_of_digits field) refl (words_small field)

filled : (field : List ℕ) → (field ≢ []) ⊎ (¬ (field ≢ []))
filled [] = inr (λ some. some refl)
filled (byte ∷ bytes) = inl (λ none. cc)

-- five fields are those of a line with a name, or not
abbrev AreNamed : List (List ℕ) → Type 0
AreNamed fields =
    (sgtin : SgtinValue) × (round : List ℕ) × (slot : List ℕ) × (pc : ℕ) × (words : List ℕ) × (fields ≡ codes "list" ∷ round ∷ slot ∷ hex_word pc ∷ hex_words words ∷ [])
    × (round ≢ []) × (slot ≢ []) × (pc < 2 ^ 16) × IsSgtin sgtin words

five_answer : AreNotRefused → AreOrRefused → (kind round slot pc epc : List ℕ) → AreNamed (kind ∷ round ∷ slot ∷ pc ∷ epc ∷ []) ⊎ (¬ AreNamed (kind ∷ round ∷ slot ∷ pc ∷ epc ∷ []))
five_answer not_refused or_refused kind round slot pc epc = elim (same_list kind (codes "list")) [
  | inr other ↦ inr (λ are. let fields = are.5 in let same : kind ≡ codes "list" = cc in other same)
  | inl kind_is ↦ elim (filled round) [
    | inr empty ↦ inr (λ are. let fields = are.5 in let same : are.1 ≡ round = cc in empty (subst (λ (r : List ℕ). r ≢ []) same are.6))
    | inl round_filled ↦ elim (filled slot) [
      | inr empty ↦ inr (λ are. let fields = are.5 in let same : are.2 ≡ slot = cc in empty (subst (λ (s : List ℕ). s ≢ []) same are.7))
      | inl slot_filled ↦ elim (pc_answer pc) [
        | inr none ↦ inr (λ are. let fields = are.5 in let same : pc ≡ hex_word are.3 = cc in none (are.3, are.8, same))
        | inl pc_is ↦ elim (epc_answer not_refused or_refused epc) [
          | inr none ↦ inr (λ are. let fields = are.5 in let same : epc ≡ hex_words are.4 = cc in none (are.0, are.4, are.9, same))
          | inl epc_is ↦
              let pc_same = pc_is.2 in
              let epc_same = epc_is.3 in
              let fields : ◌≡◌ {A = List (List ℕ)} (kind ∷ round ∷ slot ∷ pc ∷ epc ∷ []) (codes "list" ∷ round ∷ slot ∷ hex_word pc_is.0 ∷ hex_words epc_is.1 ∷ []) = cc in
              inl (epc_is.0, round, slot, pc_is.0, epc_is.1, fields, round_filled, slot_filled, pc_is.1, epc_is.2)
        ]
      ]
    ]
  ]
]

few : (fields : List (List ℕ)) → length fields ≢ 5 → ¬ AreNamed fields
few fields other are = other (ap length are.5)

fields_answer : AreNotRefused → AreOrRefused → (fields : List (List ℕ)) → AreNamed fields ⊎ (¬ AreNamed fields)
fields_answer not_refused or_refused (a ∷ b ∷ c ∷ d ∷ e ∷ []) = five_answer not_refused or_refused a b c d e
fields_answer not_refused or_refused fields = inr (few fields (λ same. omega arith))

-- each line becomes some lines
pub some_lines : AreNotRefused → AreOrRefused → (line : List ℕ) → (lines : List (List ℕ)) × BecomesLines line lines
some_lines not_refused or_refused line = elim (fields_answer not_refused or_refused (fields_of line)) [
  | inl are ↦
      let is : IsNamed line are.0 = record { round = are.1; slot = are.2; pc = are.3; words = are.4; fields = are.5; round_filled = are.6; slot_filled = are.7; pc_range = are.8; epc = are.9 } in
      (line ∷ name_line are.0 ∷ [], inl (are.0, is, refl))
  | inr none ↦ (line ∷ [], inr (λ has. let is = has.1 in none (has.0, is.round, is.slot, is.pc, is.words, is.fields, is.round_filled, is.slot_filled, is.pc_range, is.epc), refl))
]
