-- What can be told of a text: some value is spelled so, or none is.
use Rattle.std.proofs.Common.{◌≡◌, ◌<◌, ◌≤◌, ◌⊎◌, ℕ, zero, suc, List, [], ◌∷◌, refl, ap₂, subst, inl, inr, arith}
use Rattle.std.proofs.lemmas.Bool.{cases_eq, cases_lt}

-- a fact holds, or it doesn't
abbrev pub Decided : Type 0 → Type 0
Decided A = A ⊎ (¬ A)

pub same_answer : {A B : Type 0} → (A → B) → (B → A) → Decided A → Decided B
same_answer to from (inl is) = inl (to is)
same_answer to from (inr never) = inr (λ other. never (from other))

pub both : {A B : Type 0} → Decided A → Decided B → Decided (A × B)
both (inl a) (inl b) = inl (a, b)
both (inl a) (inr never) = inr (λ pair. never pair.1)
both (inr never) other = inr (λ pair. never pair.0)

pub either : {A B : Type 0} → Decided A → Decided B → Decided (A ⊎ B)
either (inl a) other = inl (inl a)
either (inr never) (inl b) = inl (inr b)
either (inr never) (inr none) = inr (λ some. elim some [ inl a ↦ never a | inr b ↦ none b ])

pub le_decided : (m n : ℕ) → Decided (m ≤ n)
le_decided m n = elim (cases_lt n m) [ inl less ↦ inr (λ le. omega arith) | inr le ↦ inl le ]

pub number_decided : (m n : ℕ) → Decided (m ≡ n)
number_decided m n = elim (cases_eq m n) [ inl same ↦ inl same | inr apart ↦ inr apart ]

pub list_decided : {A : Type 0} → ((a b : A) → Decided (a ≡ b)) → (one other : List A) → Decided (one ≡ other)
list_decided same [] [] = inl refl
list_decided same [] (b ∷ other) = inr (λ is. cc)
list_decided same (a ∷ one) [] = inr (λ is. cc)
list_decided same (a ∷ one) (b ∷ other) =
    same_answer (λ (pair : (a ≡ b) × (one ≡ other)). ap₂ (λ x xs. x ∷ xs) pair.0 pair.1) (λ is. (cc, cc)) (both (same a b) (list_decided same one other))

-- whether a text is this one
pub text_decided : (one other : List ℕ) → Decided (one ≡ other)
text_decided one other = list_decided number_decided one other

-- whether some number below the bound has the property
pub below_decided : (Has : ℕ → Type 0) → ((n : ℕ) → Decided (Has n)) → (bound : ℕ) → Decided ((n : ℕ) × (n < bound) × Has n)
below_decided Has each zero = inr (λ some. omega (arith, some.1))
below_decided Has each (suc bound) = elim (each bound) [
  | inl has ↦ inl (bound, omega arith, has)
  | inr never ↦ elim (below_decided Has each bound) [
    | inl some ↦ inl (some.0, omega (arith, some.1), some.2)
    | inr none ↦ inr (λ some. elim (cases_lt some.0 bound) [
      | inl less ↦ none (some.0, less, some.2)
      | inr le ↦ let last : some.0 ≡ bound = omega (arith, some.1, le) in never (subst Has last some.2)
    ])
  ]
]

-- some value that may stand is spelled so
abbrev pub Spelled : {A V : Type 0} → (V → A) → (V → Type 0) → A → Type 0
Spelled spelling May text = (value : _) × May value × (text ≡ spelling value)

-- of each text, whether it spells a value
abbrev pub EachDecided : {A V : Type 0} → (V → A) → (V → Type 0) → Type 0
EachDecided spelling May = (text : _) → Decided (Spelled spelling May text)

-- no limit is set
abbrev pub Any : {V : Type 0} → V → Type 0
Any value = Unit {0}

-- one text alone
abbrev pub Only : {A : Type 0} → A → A → Type 0
Only word text = Spelled (λ (_ : Unit {0}). word) Any text

pub only_decided : {A : Type 0} → ((a b : A) → Decided (a ≡ b)) → (word text : A) → Decided (Only word text)
only_decided same word text = same_answer (λ is. (tt, tt, is)) (λ only. only.2) (same text word)

pub head_same : {A : Type 0} (a b : A) (rest rest' : List A) → a ∷ rest ≡ b ∷ rest' → a ≡ b
head_same a b rest rest' same = cc

tail_same : {A : Type 0} (a b : A) (rest rest' : List A) → a ∷ rest ≡ b ∷ rest' → rest ≡ rest'
tail_same a b rest rest' same = cc

-- an item is spelled so, and the items behind it are
abbrev pub Behind : {A V W : Type 0} → (V → A) → (V → Type 0) → (W → List A) → (W → Type 0) → List A → Type 0
Behind {V = V} {W = W} one May others Might texts = Spelled (λ (value : V × W). one value.0 ∷ others value.1) (λ value. May value.0 × Might value.1) texts

pub behind_decided : {A V W : Type 0} {one : V → A} {May : V → Type 0} {others : W → List A} {Might : W → Type 0}
    → EachDecided one May → EachDecided others Might → EachDecided (λ (value : V × W). one value.0 ∷ others value.1) (λ value. May value.0 × Might value.1)
behind_decided first rest [] = inr (λ some. let same = some.2 in cc)
behind_decided {one = one} {others = others} first rest (text ∷ texts) = elim (first text) [
  | inl found ↦ elim (rest texts) [
    | inl more ↦ inl ((found.0, more.0), (found.1, more.1), ap₂ (λ x xs. x ∷ xs) found.2 more.2)
    | inr none ↦ inr (λ some. none (some.0.1, some.1.1, tail_same text (one some.0.0) texts (others some.0.1) some.2))
  ]
  | inr none ↦ inr (λ some. none (some.0.0, some.1.0, head_same text (one some.0.0) texts (others some.0.1) some.2))
]

-- nothing more
pub nothing_decided : {A : Type 0} (texts : List A) → Decided (Spelled (λ (_ : Unit {0}). []) Any texts)
nothing_decided [] = inl (tt, tt, refl)
nothing_decided (text ∷ texts) = inr (λ some. let same = some.2 in cc)
