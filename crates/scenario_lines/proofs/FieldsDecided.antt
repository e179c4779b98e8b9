-- Each field of a line is of its form and range, or it isn't.
use Rattle.std.proofs.Common.{◌≡◌, ◌≢◌, ◌<◌, ◌≤◌, ◌^◌, ◌⊎◌, ℕ, suc, Option, Some, None, Bool, true, false, List, [], ◌∷◌, ◌++◌, length, map, take, drop, refl, sym, ◌∙◌, ap, ap₂, subst, inl, inr, arith}
use Rattle.std.specs.Prelude.{All, codes}
use Rattle.std.specs.Fmt.{decimal}
use Rattle.std.specs.List.{flat_map}
use Rattle.std.proofs.lemmas.List.Elements.{All-cons, All-head, All-nil, All-tail}
use Rattle.text_fields.specs.Binary.{binary, binary_digit, hyphen, or_hyphen}
use Rattle.text_fields.specs.CodeNames.{code_word}
use Rattle.text_fields.specs.Hexadecimal.{hex_word, hex_words}
use Rattle.text_fields.proofs.ToldApart.{binary_told, hex_words_told}
use Rattle.wire_text.specs.CommandText.{bank_word, flag_word, mask_bank_word, payload_digits, side_word}
use Rattle.command_fields.specs.declared.choices.FlagName.{FlagName}
use Rattle.command_fields.specs.declared.choices.FlagName.TheVariants as flags
use Rattle.command_fields.specs.declared.choices.Sel.TheVariants as sels
use Rattle.lock_rules.specs.declared.locks.Pair.{Pair}
use Rattle.q_round.specs.SpecValue.{IsLegalRule}
use Rattle.q_round.specs.declared.rule.Rule.{Rule}
use Rattle.q_round.specs.declared.rule.Rule.TheVariants as rules
use Rattle.scenario_lines.specs.declared.version.Version.{Version}
use Rattle.scenario_lines.specs.declared.version.Version.TheVariants.{One, Two}
use Rattle.scenario_lines.specs.Names.{HasRuleText, rule_text, sel_text, several_text, version_digit}
use Rattle.text_fields.specs.WordLists.{IsWordList}
use Rattle.wire_text.specs.PasswordsAndLocks.{locks_text, password_text}
use Rattle.scenario_lines.specs.Spelling.{flag_text}
use Rattle.wire_text.specs.NameLists.{EachFound, first_named}
use Rattle.wire_text.proofs.NameLists.{found_is, told}
use Rattle.wire_text.specs.FieldNames.{all_banks, all_codes, all_flags, all_mask_banks, all_sels, all_sides, bank_found, code_found, flag_found, mask_bank_found, side_found}
use Rattle.scenario_lines.proofs.ToldNames.{sel_found, several_found, all_severals, version_found, all_versions}
use Rattle.scenario_lines.proofs.Decisions.{Any, Behind, Decided, Spelled, behind_decided, below_decided, both, either, le_decided, nothing_decided, number_decided, same_answer, text_decided}

-- a number in a range
abbrev pub IsWithin : ℕ → ℕ → ℕ → Type 0
IsWithin least most n = (least ≤ n) × (n ≤ most)

-- a number below a bound, in some spelling
spelled_below : (spelling : ℕ → List ℕ) (bound : ℕ) (field : List ℕ) → Decided (Spelled spelling (λ n. n < bound) field)
spelled_below spelling bound field = below_decided (λ n. field ≡ spelling n) (λ n. text_decided field (spelling n)) bound

spelled_within : (spelling : ℕ → List ℕ) (least most : ℕ) (field : List ℕ) → Decided (Spelled spelling (IsWithin least most) field)
spelled_within spelling least most field =
    same_answer {A = (n : ℕ) × (n < suc most) × ((least ≤ n) × (field ≡ spelling n))}
    (λ found. (found.0, (found.2.0, omega (arith, found.1)), found.2.1))
    (λ found. (found.0, omega (arith, found.1.1), (found.1.0, found.2)))
    (below_decided (λ n. (least ≤ n) × (field ≡ spelling n)) (λ n. both (le_decided least n) (text_decided field (spelling n))) (suc most))

pub decimal_decided : (least most : ℕ) (field : List ℕ) → Decided (Spelled decimal (IsWithin least most) field)
decimal_decided least most field = spelled_within decimal least most field

pub payload_decided : (field : List ℕ) → Decided (Spelled payload_digits (λ payload. payload < 1048576) field)
payload_decided field = spelled_below payload_digits 1048576 field

pub password_decided : (field : List ℕ) → Decided (Spelled password_text (λ password. password < 2 ^ 32) field)
password_decided field = spelled_below password_text (2 ^ 32) field

-- a value with a word of its own, or another
tried : {V : Type 0} {May : V → Type 0} {word : V → List ℕ} {field : List ℕ} (value : V) → May value
    → (field ≢ word value → Decided (Spelled word May field)) → Decided (Spelled word May field)
tried {word = word} {field = field} value may others = elim (text_decided field (word value)) [
  | inl is ↦ inl (value, may, is)
  | inr never ↦ others never
]

-- a value by its name, where each value is the first of its name: the first of the name is looked for
first_decided : {V : Type 0} (word : V → List ℕ) (values : List V) → EachFound word values → (field : List ℕ) (first : Option V)
    → first_named word field values ≡ first → Decided (Spelled word Any field)
first_decided word values finds field (Some value) is = inl (value, tt, sym (found_is word field values value is))
first_decided word values finds field None is =
    inr (λ some. let there : first_named word field values ≡ Some some.0 = ap (λ name. first_named word name values) some.2 ∙ finds some.0 in cc)

pub named_decided : {V : Type 0} (word : V → List ℕ) (values : List V) → EachFound word values → (field : List ℕ) → Decided (Spelled word Any field)
named_decided word values finds field = first_decided word values finds field (first_named word field values) refl

-- ... where all values but one may stand
but_decided : {V : Type 0} (word : V → List ℕ) (values : List V) → EachFound word values → (none : V) (field : List ℕ)
    → Decided (Spelled word (λ value. value ≢ none) field)
but_decided word values finds none field = elim (text_decided field (word none)) [
  | inl is ↦ inr (λ some. some.1 (told word values finds some.0 none (sym some.2 ∙ is)))
  | inr other ↦ same_answer (λ some. (some.0, (λ same. other (some.2 ∙ ap word same)), some.2)) (λ some. (some.0, tt, some.2))
      (named_decided word values finds field)
]

pub flag_decided : (field : List ℕ) → Decided (Spelled flag_word Any field)
flag_decided = named_decided flag_word all_flags flag_found

-- the flags that can expire
abbrev pub IsLasting : FlagName → Type 0
IsLasting flag = flag ≢ flags.S0

pub lasting_decided : (field : List ℕ) → Decided (Spelled flag_word IsLasting field)
lasting_decided = but_decided flag_word all_flags flag_found flags.S0

pub bank_decided : (field : List ℕ) → Decided (Spelled mask_bank_word Any field)
bank_decided = named_decided mask_bank_word all_mask_banks mask_bank_found

pub any_bank_decided : (field : List ℕ) → Decided (Spelled bank_word Any field)
any_bank_decided = named_decided bank_word all_banks bank_found

pub code_decided : (field : List ℕ) → Decided (Spelled code_word Any field)
code_decided = named_decided code_word all_codes code_found

pub side_decided : (field : List ℕ) → Decided (Spelled side_word Any field)
side_decided = named_decided side_word all_sides side_found

pub sel_decided : (field : List ℕ) → Decided (Spelled sel_text (λ sel. sel ≢ sels.All01) field)
sel_decided = but_decided sel_text all_sels sel_found sels.All01

pub version_decided : (field : List ℕ) → Decided (Spelled version_digit Any field)
version_decided = named_decided version_digit all_versions version_found

pub several_decided : (field : List ℕ) → Decided (Spelled several_text Any field)
several_decided = named_decided several_text all_severals several_found

-- the rule for Q, as a version spells it
abbrev pub spelled_rule : Version × Rule → List ℕ
spelled_rule rule = rule_text rule.0 rule.1

abbrev pub IsSpelledRule : Version × Rule → Type 0
IsSpelledRule rule = IsLegalRule rule.1 × HasRuleText rule.0 rule.1

-- the name of the rule that moves Qfp
abbrev float_text : ℕ → List ℕ
float_text c = codes "float-" ++ decimal c

record IsNoRule (field : List ℕ) : Type 0 where
  number : ¬ Spelled decimal (IsWithin 100 500) field
  float : ¬ Spelled float_text (IsWithin 100 500) field
  fixed : field ≢ rule_text Two rules.Fixed
  frame : field ≢ rule_text Two rules.Frame

no_rule : (field : List ℕ) → IsNoRule field → (version : Version) (rule : Rule) → IsLegalRule rule → HasRuleText version rule
    → field ≡ rule_text version rule → ⊥
no_rule field none One (rules.Float c) legal has is = none.number (c, legal, is)
no_rule field none One rules.Fixed legal has is = has
no_rule field none One rules.Frame legal has is = has
no_rule field none Two (rules.Float c) legal has is = none.float (c, legal, is)
no_rule field none Two rules.Fixed legal has is = none.fixed is
no_rule field none Two rules.Frame legal has is = none.frame is

pub rule_decided : (field : List ℕ) → Decided (Spelled spelled_rule IsSpelledRule field)
rule_decided field = elim (decimal_decided 100 500 field) [
  | inl found ↦ inl ((One, rules.Float found.0), (found.1, tt), found.2)
  | inr number ↦ elim (spelled_within float_text 100 500 field) [
    | inl found ↦ inl ((Two, rules.Float found.0), (found.1, tt), found.2)
    | inr float ↦ tried (Two, rules.Fixed) (tt, tt) (λ fixed. tried (Two, rules.Frame) (tt, tt) (λ frame.
        let none : IsNoRule field = record { number = number; float = float; fixed = fixed; frame = frame } in
        inr (λ found. no_rule field none found.0.0 found.0.1 found.1.0 found.1.1 found.2)))
  ]
]

-- a digit of a bit
no_digit : (digit : ℕ) → digit ≢ 48 → digit ≢ 49 → (bit : Bool) → digit ≡ binary_digit bit → ⊥
no_digit digit zero_digit one_digit false is = zero_digit is
no_digit digit zero_digit one_digit true is = one_digit is

digit_decided : (digit : ℕ) → Decided (Spelled binary_digit Any digit)
digit_decided digit = elim (number_decided digit 48) [
  | inl is ↦ inl (false, tt, is)
  | inr not_0 ↦ elim (number_decided digit 49) [
    | inl is ↦ inl (true, tt, is)
    | inr not_1 ↦ inr (λ found. no_digit digit not_0 not_1 found.0 found.2)
  ]
]

pub bit_decided : (field : List ℕ) → Decided (Spelled flag_text Any field)
bit_decided field =
    same_answer {A = Behind binary_digit Any (λ (_ : Unit {0}). []) Any field} (λ found. (found.0.0, tt, found.2))
    (λ found. ((found.0, tt), (tt, tt), found.2)) (behind_decided digit_decided nothing_decided field)

no_first_digit : (digit : ℕ) (digits : List ℕ) → (¬ Spelled binary_digit Any digit) → (bits : List Bool) → digit ∷ digits ≡ map binary_digit bits → ⊥
no_first_digit digit digits none [] is = cc
no_first_digit digit digits none (bit ∷ bits) is = none (bit, tt, cc)

no_more_digits : (digit : ℕ) (digits : List ℕ) → (¬ Spelled (map binary_digit) Any digits) → (bits : List Bool) → digit ∷ digits ≡ map binary_digit bits → ⊥
no_more_digits digit digits none [] is = cc
no_more_digits digit digits none (bit ∷ bits) is = none (bits, tt, cc)

-- the digits of bits
digits_decided : (digits : List ℕ) → Decided (Spelled (map binary_digit) Any digits)
digits_decided [] = inl ([], tt, refl)
digits_decided (digit ∷ digits) = elim (digit_decided digit) [
  | inl found ↦ elim (digits_decided digits) [
    | inl more ↦ inl (found.0 ∷ more.0, tt, ap₂ (λ x xs. x ∷ xs) found.2 more.2)
    | inr none ↦ inr (λ some. no_more_digits digit digits none some.0 some.2)
  ]
  | inr none ↦ inr (λ some. no_first_digit digit digits none some.0 some.2)
]

-- a list and the hyphen that stands for none
hyphen_or : (field spelling : List ℕ) → field ≢ hyphen ∷ [] → field ≡ or_hyphen spelling → field ≡ spelling
hyphen_or field [] other is = absurd (other is)
hyphen_or field (byte ∷ bytes) other is = is

or_empty : (field spelling : List ℕ) → field ≢ [] → field ≡ spelling → field ≡ or_hyphen spelling
or_empty field [] some is = absurd (some is)
or_empty field (byte ∷ bytes) some is = is

not_empty : (spelling : List ℕ) → [] ≢ or_hyphen spelling
not_empty [] same = cc
not_empty (byte ∷ bytes) same = cc

-- a list of items whose spellings stand one behind the other, or a hyphen
listed : {A : Type 0} (spelling : List A → List ℕ) (May : List A → Type 0) → May [] → spelling [] ≡ []
    → ((text : List ℕ) → Decided (Spelled spelling May text)) → (field : List ℕ) → Decided (Spelled (λ items. or_hyphen (spelling items)) May field)
listed spelling May none nothing each [] = inr (λ found. not_empty (spelling found.0) found.2)
listed spelling May none nothing each (byte ∷ bytes) = elim (text_decided (byte ∷ bytes) (hyphen ∷ [])) [
  | inl is ↦ inl ([], none, is ∙ sym (ap or_hyphen nothing))
  | inr other ↦ elim (each (byte ∷ bytes)) [
    | inl found ↦ inl (found.0, found.1, or_empty (byte ∷ bytes) (spelling found.0) (λ same. cc) found.2)
    | inr never ↦ inr (λ found. never (found.0, found.1, hyphen_or (byte ∷ bytes) (spelling found.0) other found.2))
  ]
]

-- of the values that are spelled so there is one, and it is in a range or it isn't
ranged : {V : Type 0} (spelling : V → List ℕ) (May In : V → Type 0) → ((one other : V) → May one → May other → spelling one ≡ spelling other → one ≡ other)
    → ((value : V) → Decided (In value)) → (field : List ℕ) → Decided (Spelled spelling May field) → Decided (Spelled spelling (λ value. May value × In value) field)
ranged spelling May In told within field (inr never) = inr (λ found. never (found.0, found.1.0, found.2))
ranged spelling May In told within field (inl found) = elim (within found.0) [
  | inl is ↦ inl (found.0, (found.1, is), found.2)
  | inr out ↦ inr (λ other. out (subst In (told other.0 found.0 other.1.0 found.1 (sym other.2 ∙ found.2)) other.1.1))
]

pub bits_decided : (least most : ℕ) (field : List ℕ) → Decided (Spelled binary (λ bits. (least ≤ length bits) × (length bits ≤ most)) field)
bits_decided least most field =
    same_answer {A = Spelled binary (λ bits. Any bits × ((least ≤ length bits) × (length bits ≤ most))) field} (λ found. (found.0, found.1.1, found.2))
    (λ found. (found.0, (tt, found.1), found.2))
    (ranged binary Any (λ bits. (least ≤ length bits) × (length bits ≤ most)) (λ one other _ _ same. binary_told one other same)
    (λ bits. both (le_decided least (length bits)) (le_decided (length bits) most)) field (listed (map binary_digit) Any tt refl digits_decided field))

-- words of 16 bits
abbrev AreSmall : List ℕ → Type 0
AreSmall words = All (λ word. word < 2 ^ 16) words

-- four digits of one word
pub word_decided : (digits : List ℕ) → Decided (Spelled hex_word (λ word. word < 2 ^ 16) digits)
word_decided digits = spelled_below hex_word (2 ^ 16) digits

short_words : (digits : List ℕ) → digits ≢ [] → length digits < 4 → (words : List ℕ) → digits ≡ flat_map hex_word words → ⊥
short_words digits some short [] is = some is
short_words digits some short (word ∷ words) is = let count = ap length is in omega (arith, count, short)

no_word : (a b c d : ℕ) (digits : List ℕ) → (¬ Spelled hex_word (λ word. word < 2 ^ 16) (a ∷ b ∷ c ∷ d ∷ [])) → (words : List ℕ) → AreSmall words
    → a ∷ b ∷ c ∷ d ∷ digits ≡ flat_map hex_word words → ⊥
no_word a b c d digits none [] small is = cc
no_word a b c d digits none (word ∷ words) small is = none (word, All-head (λ w. w < 2 ^ 16) word words small, ap (take 4) is)

no_words : (a b c d : ℕ) (digits : List ℕ) → (¬ Spelled (flat_map hex_word) AreSmall digits) → (words : List ℕ) → AreSmall words
    → a ∷ b ∷ c ∷ d ∷ digits ≡ flat_map hex_word words → ⊥
no_words a b c d digits none [] small is = cc
no_words a b c d digits none (word ∷ words) small is = none (words, All-tail (λ w. w < 2 ^ 16) word words small, ap (drop 4) is)

words_run : (digits : List ℕ) → Decided (Spelled (flat_map hex_word) AreSmall digits)
words_run [] = inl ([], All-nil (λ w. w < 2 ^ 16), refl)
words_run (a ∷ []) = inr (λ some. short_words (a ∷ []) (λ same. cc) (omega arith) some.0 some.2)
words_run (a ∷ b ∷ []) = inr (λ some. short_words (a ∷ b ∷ []) (λ same. cc) (omega arith) some.0 some.2)
words_run (a ∷ b ∷ c ∷ []) = inr (λ some. short_words (a ∷ b ∷ c ∷ []) (λ same. cc) (omega arith) some.0 some.2)
words_run (a ∷ b ∷ c ∷ d ∷ digits) = elim (word_decided (a ∷ b ∷ c ∷ d ∷ [])) [
  | inl found ↦ elim (words_run digits) [
    | inl more ↦ inl (found.0 ∷ more.0, All-cons (λ w. w < 2 ^ 16) found.0 more.0 found.1 more.1, ap₂ (λ (x xs : List ℕ). x ++ xs) found.2 more.2)
    | inr none ↦ inr (λ some. no_words a b c d digits none some.0 some.1 some.2)
  ]
  | inr none ↦ inr (λ some. no_word a b c d digits none some.0 some.1 some.2)
]

pub words_decided : (least most : ℕ) (field : List ℕ) → Decided (Spelled hex_words (IsWordList least most) field)
words_decided least most field =
    same_answer {A = Spelled hex_words (λ words. AreSmall words × ((least ≤ length words) × (length words ≤ most))) field}
    (λ found. (found.0, record { some = found.1.1.0; room = found.1.1.1; small = found.1.0 }, found.2))
    (λ found. (found.0, (found.1.small, (found.1.some, found.1.room)), found.2))
    (ranged hex_words AreSmall (λ words. (least ≤ length words) × (length words ≤ most)) hex_words_told
    (λ words. both (le_decided least (length words)) (le_decided (length words) most)) field
    (listed (flat_map hex_word) AreSmall (All-nil (λ w. w < 2 ^ 16)) refl words_run field))

-- some bit has the property, and some pair of bits
which_bit : (Has : Bool → Type 0) (bit : Bool) → Has bit → Has false ⊎ Has true
which_bit Has false has = inl has
which_bit Has true has = inr has

some_bit : (Has : Bool → Type 0) → ((bit : Bool) → Decided (Has bit)) → Decided ((bit : Bool) × Has bit)
some_bit Has each =
    same_answer {A = Has false ⊎ Has true} (λ one. elim one [ inl is ↦ (false, is) | inr is ↦ (true, is) ]) (λ some. which_bit Has some.0 some.1)
    (either (each false) (each true))

some_pair : (Has : Pair → Type 0) → ((pair : Pair) → Decided (Has pair)) → Decided ((pair : Pair) × Has pair)
some_pair Has each =
    same_answer {A = (write : Bool) × ((permanent : Bool) × Has (record { write_bit = write; permalock = permanent }))}
    (λ some. (record { write_bit = some.0; permalock = some.1.0 }, some.1.1)) (λ some. (some.0.write_bit, (some.0.permalock, some.1)))
    (some_bit (λ write. (permanent : Bool) × Has (record { write_bit = write; permalock = permanent }))
    (λ write. some_bit (λ permanent. Has (record { write_bit = write; permalock = permanent }))
    (λ permanent. each (record { write_bit = write; permalock = permanent }))))

-- the field spells the lock bits of these pairs
abbrev Pairs : List ℕ → Pair → Pair → Pair → Pair → Pair → Type 0
Pairs field kill access epc tid user =
    field ≡ locks_text (record { kill_word = kill; access_word = access; epc = epc; tid = tid; user = user })

pub locks_decided : (field : List ℕ) → Decided (Spelled locks_text Any field)
locks_decided field =
    same_answer {A = (kill : Pair) × ((access : Pair) × ((epc : Pair) × ((tid : Pair) × ((user : Pair) × Pairs field kill access epc tid user))))}
    (λ some. (
      record { kill_word = some.0; access_word = some.1.0; epc = some.1.1.0; tid = some.1.1.1.0; user = some.1.1.1.1.0 },
      tt,
      some.1.1.1.1.1,
    ))
    (λ found. let locks = found.0 in (locks.kill_word, (locks.access_word, (locks.epc, (locks.tid, (locks.user, found.2))))))
    (some_pair (λ kill. (access : Pair) × ((epc : Pair) × ((tid : Pair) × ((user : Pair) × Pairs field kill access epc tid user))))
    (λ kill. some_pair (λ access. (epc : Pair) × ((tid : Pair) × ((user : Pair) × Pairs field kill access epc tid user)))
    (λ access. some_pair (λ epc. (tid : Pair) × ((user : Pair) × Pairs field kill access epc tid user))
    (λ epc. some_pair (λ tid. (user : Pair) × Pairs field kill access epc tid user)
    (λ tid. some_pair (λ user. Pairs field kill access epc tid user) (λ user. text_decided field _))))))
