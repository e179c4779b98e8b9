-- Who said what in an exchange, told or left out.
use Rattle.std.proofs.lemmas.Bool.{eqb-true}
use Rattle.air_world.proofs.Names.{◌≡◌, ◌≢◌, ◌<◌, ◌≤◌, ◌%◌, ◌==◌, ◌⊎◌, inl, inr, ℕ, ◌+◌, Bool, true, false, Option, Some, None, eq-eqb, List, ◌∷◌, ◌++◌, length, map, take, refl, sym, ◌∙◌, ap, arith}
use Rattle.air_world.proofs.Names.{subst, append_assoc, append-nil, slice_get, [], Given, silence, whole, broken, raw, got_of, levels_of, Record, AreShort, IsOneOf, IsToldWhole, LinkValue, longest_reply}
use Rattle.air_world.proofs.Names.{is_of_exchanges, ReportLine, MissedLine, answer_line, gave_of, said_lines, AreReplies, slice_get-map, AllByRecursion, option_map, Sent, Replied, AnswerValue}
use Rattle.air_world.proofs.Names.{answer_of, answers_of, answer_value_of, All-from_recursion, All-get_or, get_or_from_slice_get, map-append, none-some, same_Some, slice_get-get_or, slice_get_within}
use Rattle.air_world.proofs.Names.{take_more}
use Rattle.air_model.specs.declared.got.Got.TheVariants as gots
use Rattle.air_world.proofs.Passing.{tells-same, tells-then}
use Rattle.reply_grammar.specs.declared.expected.Reply.{Reply}
use Rattle.tag_population.specs.declared.answers.Answer.{Answer}
use Rattle.wave_dump.specs.declared.exchanged.Gave.TheVariants as gaves

-- what is made of one item more
map-more : {A B : Type 0} (make : A → B) (items : List A) (place : ℕ) (item : A) → slice_get items place ≡ Some item
    → map make (take place items) ++ make item ∷ [] ≡ map make (take (place + 1) items)
map-more make items place item found =
    let more = take_more items place item (slice_get_within items place item found) ∙ ap (λ one. take place items ++ one ∷ []) (get_or_from_slice_get items place item item found) in
    sym (ap (λ made. map make made) more ∙ map-append make (take place items) (item ∷ []))

-- what holds of each item holds of the one at a place
at-place : {A : Type 0} (P : A → Type 0) (items : List A) (place : ℕ) (item : A) → AllByRecursion P items → slice_get items place ≡ Some item → P item
at-place P items place item all found =
    subst P (get_or_from_slice_get items place item item found) (All-get_or P items place item (slice_get_within items place item found) (All-from_recursion P items all))

pub reply-at : (P : Sent → Type 0) (replies : List Replied) (place : ℕ) (replied : Replied) → AreReplies P replies → slice_get replies place ≡ Some replied → P replied.sent
reply-at P replies place replied all found = at-place (λ (r : Replied). P r.sent) replies place replied all found

pub short-at : (answers : List AnswerValue) (place : ℕ) (answer : AnswerValue) → AreShort answers → slice_get answers place ≡ Some answer → length answer.bits ≤ longest_reply
short-at answers place answer short found = at-place (λ (a : AnswerValue). length a.bits ≤ longest_reply) answers place answer short found

-- the answer at the place of a reply
pub answer-at : (answers : List AnswerValue) (replies : List Replied) (place : ℕ) (replied : Replied) → answers ≡ answers_of replies → slice_get replies place ≡ Some replied
    → slice_get answers place ≡ Some (answer_of replied)
answer-at answers replies place replied are found =
    ap (λ (all : List AnswerValue). slice_get all place) are ∙ slice_get-map answer_of replies place ∙ ap (λ one. option_map answer_of one) found

-- what an air that is asked for the answer at a place says
pub answer-there : (answers : List AnswerValue) (place : ℕ) (found : Option Answer) (answer : Answer) → option_map answer_value_of found ≡ slice_get answers place → found ≡ Some answer
    → slice_get answers place ≡ Some (answer_value_of answer)
answer-there answers place found answer asked is = sym asked ∙ ap (λ one. option_map answer_value_of one) is

pub none-there : (answers : List AnswerValue) (place : ℕ) (found : Option Answer) → place < length answers → option_map answer_value_of found ≡ slice_get answers place → found ≡ None → ⊥
none-there answers place found inside asked is =
    let there = slice_get-get_or answers place (record { number = 0; extended = false; bits = [] }) inside in
    none-some _ (ap (λ one. option_map answer_value_of one) (sym is) ∙ asked ∙ there)

-- one answer more that is not of the tag
split : (b : Bool) → (b ≡ true) ⊎ (b ≡ false)
split true = inl refl
split false = inr refl

pub others-more : (answers : List AnswerValue) (tag at : ℕ) (here : AnswerValue) → slice_get answers at ≡ Some here → (here.number ≡ tag → ⊥)
    → ((place : ℕ) (answer : AnswerValue) → place < at → slice_get answers place ≡ Some answer → answer.number ≡ tag → ⊥)
    → (place : ℕ) (answer : AnswerValue) → place < at + 1 → slice_get answers place ≡ Some answer → answer.number ≡ tag → ⊥
others-more answers tag at here is other before place answer within found number = elim (split (place == at)) [
  | inl equal ↦
      let same : place ≡ at = eqb-true place at equal in
      let one = same_Some here answer (sym is ∙ ap (λ n. slice_get answers n) (sym same) ∙ found) in other (ap (λ (a : AnswerValue). a.number) one ∙ number)
  | inr differ ↦
      let apart : place ≢ at = λ same. let both : true ≡ false = sym (eq-eqb place at same) ∙ differ in cc in
      before place answer (omega (arith, apart, within)) found number
]

-- what the channel gave, by whom it gave
pub gave-silence : (link : LinkValue) (given : Given) → gots.Silence ≡ got_of link given → gaves.Silence ≡ gave_of link given
gave-silence link silence is = refl
gave-silence link given is = absurd (cc)

pub gave-whole : (link : LinkValue) (replies : List Replied) (given : Given) (tag : ℕ) (reply : Reply) → IsOneOf replies given → gots.Whole tag ≡ got_of link given
    → ((place : ℕ) (replied : Replied) → slice_get replies place ≡ Some replied → tag ≡ replied.number → reply ≡ replied.sent.reply) → gaves.Whole tag reply ≡ gave_of link given
gave-whole link replies (whole replied) tag reply one is reads =
    let same : tag ≡ replied.number = cc in λ i. gaves.Whole (same i) (reads one.0 replied one.1 same i)
gave-whole link replies given tag reply one is reads = absurd (cc)

pub gave-broken : (link : LinkValue) (given : Given) (tag place : ℕ) → gots.Broken tag place ≡ got_of link given → gaves.Broken tag place ≡ gave_of link given
gave-broken link (broken replied number) tag place is =
    let same : tag ≡ replied.number = cc in
    let level : place ≡ number % length (levels_of link replied.sent) = cc in λ i. gaves.Broken (same i) (level i)
gave-broken link given tag place is = absurd (cc)

pub gave-raw : (link : LinkValue) (given : Given) → gots.Raw ≡ got_of link given → gaves.Raw ≡ gave_of link given
gave-raw link (raw code trext levels) is = refl
gave-raw link given is = absurd (cc)

-- each line says who said what
abbrev AreOfExchanges : List ReportLine → Type 0
AreOfExchanges lines = AllByRecursion (λ line. is_of_exchanges line ≡ true) lines

all-made : {A : Type 0} (make : A → ReportLine) → ((item : A) → is_of_exchanges (make item) ≡ true) → (items : List A) (more : List ReportLine) → AreOfExchanges more
    → AreOfExchanges (map make items ++ more)
all-made make are [] more others = others
all-made make are (item ∷ items) more others = (are item, all-made make are items more others)

said-kind : (link : LinkValue) (sent : Record) → AreOfExchanges (said_lines link sent)
said-kind link sent = (
  refl,
  all-made (MissedLine sent.exchange) (λ tag. refl) sent.entry.missed _ (all-made (answer_line sent.exchange) (λ replied. refl) sent.replies _ (refl, tt)),
)

-- lines that make no difference need not be told
skipped : {A : Type 0} (hears : A → List ReportLine → A → Type 0) (now : A)
    → ((first : A) (lines : List ReportLine) (line : ReportLine) → is_of_exchanges line ≡ true → hears first lines now → hears first (lines ++ line ∷ []) now)
    → (lines : List ReportLine) → AreOfExchanges lines → (first : A) (before : List ReportLine) → hears first before now → hears first (before ++ lines) now
skipped hears now same [] are first before heard = subst (λ (lines : List ReportLine). hears first lines now) (sym (append-nil before)) heard
skipped hears now same (line ∷ lines) are first before heard =
    subst (λ (all : List ReportLine). hears first all now) (append_assoc before (line ∷ []) lines)
    (skipped hears now same lines are.1 first (before ++ line ∷ []) (same first before line are.0 heard))

-- an exchange of which nobody wants to hear who said what
pub said-skipped : {A : Type 0} (hears : A → List ReportLine → A → Type 0) (now : A) (link : LinkValue) (sent : Record)
    → ((first : A) (lines : List ReportLine) (line : ReportLine) → is_of_exchanges line ≡ true → hears first lines now → hears first (lines ++ line ∷ []) now)
    → IsToldWhole hears (said_lines link sent) now now
said-skipped hears now link sent same = record { on = λ first before heard. skipped hears now same (said_lines link sent) (said-kind link sent) first before heard }

-- one thing more was told, of a list of things of which a front was told
pub tells-more : {A B : Type 0} {hears : A → List ReportLine → A → Type 0} {old between new : A} (make : B → ReportLine) (lines : List ReportLine) (items : List B) (at : ℕ) (item : B)
    → slice_get items at ≡ Some item → IsToldWhole hears (lines ++ map make (take at items)) old between
    → IsToldWhole hears (make item ∷ []) between new → IsToldWhole hears (lines ++ map make (take (at + 1) items)) old new
tells-more make lines items at item found told more =
    tells-same (append_assoc lines (map make (take at items)) (make item ∷ []) ∙ ap (λ (all : List ReportLine). lines ++ all) (map-more make items at item found)) (tells-then told more)
