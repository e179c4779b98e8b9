-- How many times a number stands in the list of the tags that are listed.
use Rattle.runs.proofs.Names.{◌≡◌, ℕ, ◌+◌, ◌≤◌, ◌==◌, ◌||◌, Bool, true, false, List, [], ◌∷◌, ◌++◌, length, filter, if◌then◌else◌, refl, ap, ◌∙◌, append-nil, arith, length-append, filter-append}
use Rattle.runs.proofs.Names.{Record, Item, exchanged, sender_listed_by, tags_listed_where, times}

-- a test as a number
abbrev pub bit : Bool → ℕ
bit b = if b then 1 else 0

pub times-append : (number : ℕ) (left right : List ℕ) → times number (left ++ right) ≡ times number left + times number right
times-append number left right =
    ap length (filter-append (λ (other : ℕ). other == number) left right)
    ∙ length-append (filter (λ (other : ℕ). other == number) left) (filter (λ (other : ℕ). other == number) right)

kept : (number : ℕ) (keeps : Bool) → length (if keeps then number ∷ [] else []) ≡ bit keeps
kept number true = refl
kept number false = refl

pub times-one : (number other : ℕ) → times number (other ∷ []) ≡ bit (other == number)
times-one number other = kept other (other == number)

pub times-first : (number first : ℕ) (others : List ℕ) → times number (first ∷ others) ≡ bit (first == number) + times number others
times-first number first others = times-append number (first ∷ []) others ∙ ap (λ n. n + times number others) (times-one number first)

pub bit-some : (b : Bool) → 1 ≤ bit b → b ≡ true
bit-some true some = refl
bit-some false some = absurd (omega (arith, some))

pub bit-either : (first second : Bool) → (first ≡ true → second ≡ false) → bit (first || second) ≡ bit first + bit second
bit-either true second once = let none : bit second ≡ 0 = ap bit (once refl) in omega arith
bit-either false second once = omega arith

pub bit-test : (b : Bool) → (bit b == 1) ≡ b
bit-test true = refl
bit-test false = refl

if-none : (test : Bool) (tags : List ℕ) → tags ≡ [] → (if test then tags else []) ≡ []
if-none true tags none = none
if-none false tags none = refl

-- a record that lists no tag adds none
pub lists-none : (test : Record → Bool) (sent : Record) (past : List Item) → sender_listed_by sent ≡ []
    → tags_listed_where test (exchanged sent ∷ past) ≡ tags_listed_where test past
lists-none test sent past none =
    ap (λ (tags : List ℕ). tags_listed_where test past ++ tags) (if-none (test sent) (sender_listed_by sent) none)
    ∙ append-nil (tags_listed_where test past)

-- one that doesn't pass the test neither
pub lists-elsewhere : (test : Record → Bool) (sent : Record) (past : List Item) → test sent ≡ false
    → tags_listed_where test (exchanged sent ∷ past) ≡ tags_listed_where test past
lists-elsewhere test sent past fails =
    ap (λ (passes : Bool). tags_listed_where test past ++ (if passes then sender_listed_by sent else [])) fails
    ∙ append-nil (tags_listed_where test past)

-- one that lists a tag adds it
pub lists-one : (test : Record → Bool) (sent : Record) (past : List Item) (number : ℕ) → test sent ≡ true → sender_listed_by sent ≡ number ∷ []
    → tags_listed_where test (exchanged sent ∷ past) ≡ tags_listed_where test past ++ number ∷ []
lists-one test sent past number passes one =
    ap (λ (passes : Bool). tags_listed_where test past ++ (if passes then sender_listed_by sent else [])) passes
    ∙ ap (λ (tags : List ℕ). tags_listed_where test past ++ tags) one
