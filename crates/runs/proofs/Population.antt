-- Who answers a command among the tags of a start, where nothing is said of the exchange: from each tag's own answer to the replies
-- of the exchange, and back.
use Rattle.runs.proofs.Names.{◌≡◌, ◌≢◌, ℕ, zero, suc, ◌+◌, inl, inr, Bool, true, false, if◌then◌else◌, List, [], ◌∷◌, ◌++◌, Option, Some, None, slice_get, refl, ap, sym, ◌∙◌, subst, arith, Replied}
use Rattle.runs.proofs.Names.{reply_of, replies_from, outcome_in, outcomes_from, Start, Item, tag_behind, tags_behind_from, past_behind_command, next_entry, is_hearer, hearers_of, no_entry, Entry}
use Rattle.runs.proofs.Names.{Command, Sent, step, TagValue}
use Rattle.runs.proofs.Among.{Among, among-later, among-left, among-right, among-split}

-- what the tag with a number answers a command, and what it becomes by it
abbrev pub answer_behind : Command → List Item → ℕ → TagValue → Option Sent
answer_behind command past number tag =
    let now = tag_behind number tag past in (step command now.state now.body).answer

abbrev pub tag_stepped : Command → List Item → ℕ → TagValue → TagValue
tag_stepped command past number tag =
    let now = tag_behind number tag past in (step command now.state now.body).tag

-- where nothing is said of the next exchange, each tag makes its step
pub tag-steps : (start : Start) (round slot : ℕ) (command : Command) (past : List Item) (number : ℕ) (tag : TagValue) → next_entry start past ≡ no_entry
    → tag_behind number tag (past_behind_command start round slot command past) ≡ tag_stepped command past number tag
tag-steps start round slot command past number tag unsaid =
    ap (λ (entry : Entry). (outcome_in number command entry (tag_behind number tag past)).tag) unsaid

-- the replies of the tags that are numbered from a number on, where nothing is said of the exchange
abbrev pub replies_behind : ℕ → Command → List TagValue → List Item → List Replied
replies_behind number command starts past = replies_from number (outcomes_from number command no_entry (tags_behind_from number starts past))

abbrev pub reply_by : ℕ → Sent → Replied
reply_by number sent = record { number = number; sent = sent }

-- who answers is among those who replied
pub answer-replied : (command : Command) (past : List Item) (number : ℕ) (starts : List TagValue) (place : ℕ) (tag : TagValue) (sent : Sent)
    → slice_get starts place ≡ Some tag → answer_behind command past (number + place) tag ≡ Some sent
    → Among (reply_by (number + place) sent) (replies_behind number command starts past)
answer-replied command past number [] place tag sent at answered = absurd (cc)
answer-replied command past number (first ∷ starts) zero tag sent at answered =
    let same : first ≡ tag = cc in
    let here : number + 0 ≡ number = omega arith in
    let answers : answer_behind command past number first ≡ Some sent =
    ap (λ (t : TagValue). answer_behind command past number t) same ∙ sym (ap (λ n. answer_behind command past n tag) here) ∙ answered in
    among-left (reply_by (number + 0) sent) (reply_of number (answer_behind command past number first)) (replies_behind (number + 1) command starts past)
    (subst (λ (answer : Option Sent). Among (reply_by (number + 0) sent) (reply_of number answer)) (sym answers) (inl (ap (λ n. reply_by n sent) (sym here))))
answer-replied command past number (first ∷ starts) (suc place) tag sent at answered =
    let next : number + suc place ≡ number + 1 + place = omega arith in
    among-right (reply_by (number + suc place) sent) (reply_of number (answer_behind command past number first)) (replies_behind (number + 1) command starts past)
    (subst (λ n. Among (reply_by n sent) (replies_behind (number + 1) command starts past)) (sym next)
    (answer-replied command past (number + 1) starts place tag sent at (subst (λ n. answer_behind command past n tag ≡ Some sent) next answered)))

-- the tag with the number in a reply, among tags that are numbered from a number on
pub record Answerer (number : ℕ) (command : Command) (entry : Entry) (past : List Item) (starts : List TagValue) (replied : Replied) : Type 0 where
  pub tag : TagValue
  pub place : ℕ
  pub numbered : slice_get starts place ≡ Some tag
  pub number_is : replied.number ≡ number + place
  pub answered : (outcome_in replied.number command entry (tag_behind replied.number tag past)).answer ≡ Some replied.sent
  pub heard : is_hearer replied.number entry (tag_behind replied.number tag past) ≡ true
      → Among replied.number (hearers_of number entry (tags_behind_from number starts past))

reply-number : (number : ℕ) (answer : Option Sent) (replied : Replied) → Among replied (reply_of number answer)
    → (replied.number ≡ number) × (answer ≡ Some replied.sent)
reply-number number None replied among = absurd among
reply-number number (Some sent) replied (inl is) = (ap (λ (r : Replied). r.number) (sym is), ap (λ (r : Replied). Some r.sent) is)
reply-number number (Some sent) replied (inr none) = absurd none

hearer-here : (number : ℕ) (hears : Bool) (others : List ℕ) → hears ≡ true → Among number (if hears then number ∷ others else others)
hearer-here number true others is = inl refl
hearer-here number false others is = absurd (cc)

answerer-here : (number : ℕ) (command : Command) (entry : Entry) (past : List Item) (start : TagValue) (starts : List TagValue) (replied : Replied)
    → Among replied (reply_of number (outcome_in number command entry (tag_behind number start past)).answer)
    → Answerer number command entry past (start ∷ starts) replied
answerer-here number command entry past start starts replied among =
    let (same, is) = reply-number number (outcome_in number command entry (tag_behind number start past)).answer replied among in
    record {
      tag = start;
      place = 0;
      numbered = refl;
      number_is = same ∙ omega arith;
      answered = subst (λ n. (outcome_in n command entry (tag_behind n start past)).answer ≡ Some replied.sent) (sym same) is;
      heard = λ hears. subst (λ n. Among n (hearers_of number entry (tags_behind_from number (start ∷ starts) past))) (sym same)
          (hearer-here number (is_hearer number entry (tag_behind number start past)) (hearers_of (number + 1) entry (tags_behind_from (number + 1) starts past))
          (subst (λ n. is_hearer n entry (tag_behind n start past) ≡ true) same hears));
    }

pub answerer : (number : ℕ) (command : Command) (entry : Entry) (past : List Item) (starts : List TagValue) (replied : Replied)
    → Among replied (replies_from number (outcomes_from number command entry (tags_behind_from number starts past)))
    → Answerer number command entry past starts replied
answerer number command entry past [] replied among = absurd among
answerer number command entry past (start ∷ starts) replied among =
    elim (among-split replied (reply_of number (outcome_in number command entry (tag_behind number start past)).answer)
    (replies_from (number + 1) (outcomes_from (number + 1) command entry (tags_behind_from (number + 1) starts past))) among) [
      | inl found ↦ answerer-here number command entry past start starts replied found
      | inr found ↦
          let rest = answerer (number + 1) command entry past starts replied found in
          record {
            tag = rest.tag;
            place = suc rest.place;
            numbered = rest.numbered;
            number_is = rest.number_is ∙ omega arith;
            answered = rest.answered;
            heard = λ hears. among-later replied.number number (hearers_of (number + 1) entry (tags_behind_from (number + 1) starts past))
                (is_hearer number entry (tag_behind number start past)) (rest.heard hears);
          }
    ]

-- where no tag answers there are no replies
pub none-replies : (command : Command) (past : List Item) (number : ℕ) (starts : List TagValue)
    → ((place : ℕ) (tag : TagValue) → slice_get starts place ≡ Some tag → answer_behind command past (number + place) tag ≡ None)
    → replies_behind number command starts past ≡ []
none-replies command past number [] none = refl
none-replies command past number (first ∷ starts) none =
    let here : answer_behind command past number first ≡ None = subst (λ n. answer_behind command past n first ≡ None) (omega arith) (none 0 first refl) in
    let rest : replies_behind (number + 1) command starts past ≡ [] =
    none-replies command past (number + 1) starts (λ place tag at. subst (λ n. answer_behind command past n tag ≡ None) (omega arith) (none (suc place) tag at)) in
    ap (λ (answer : Option Sent). reply_of number answer ++ replies_behind (number + 1) command starts past) here ∙ rest

-- the tag at a place, of those that are numbered from a number on, answers
pub record AnswersAt (command : Command) (past : List Item) (number : ℕ) (starts : List TagValue) (place : ℕ) : Type 0 where
  pub tag : TagValue
  pub sent : Sent
  pub numbered : slice_get starts place ≡ Some tag
  pub answered : answer_behind command past (number + place) tag ≡ Some sent

-- where one tag alone answers there is its reply alone
pub one-replies : (command : Command) (past : List Item) (number : ℕ) (starts : List TagValue) (place : ℕ) (by : AnswersAt command past number starts place)
    → ((other : ℕ) (tag : TagValue) → slice_get starts other ≡ Some tag → other ≢ place → answer_behind command past (number + other) tag ≡ None)
    → replies_behind number command starts past ≡ reply_by (number + place) by.sent ∷ []
one-replies command past number [] place by none = let at = by.numbered in absurd (cc)
one-replies command past number (first ∷ starts) zero by none =
    let at = by.numbered in
    let same : first ≡ by.tag = cc in
    let here : number + 0 ≡ number = omega arith in
    let answers : answer_behind command past number first ≡ Some by.sent =
    ap (λ (t : TagValue). answer_behind command past number t) same ∙ sym (ap (λ n. answer_behind command past n by.tag) here) ∙ by.answered in
    let rest : replies_behind (number + 1) command starts past ≡ [] =
    none-replies command past (number + 1) starts
    (λ other later at. subst (λ n. answer_behind command past n later ≡ None) (omega arith) (none (suc other) later at (λ is. absurd (omega (arith, is))))) in
    ap (λ (answer : Option Sent). reply_of number answer ++ replies_behind (number + 1) command starts past) answers
    ∙ ap (λ (others : List Replied). reply_by number by.sent ∷ others) rest
    ∙ ap (λ n. reply_by n by.sent ∷ []) (sym here)
one-replies command past number (first ∷ starts) (suc place) by none =
    let here : answer_behind command past number first ≡ None =
    subst (λ n. answer_behind command past n first ≡ None) (omega arith) (none 0 first refl (λ is. absurd (omega (arith, is)))) in
    let next : number + suc place ≡ number + 1 + place = omega arith in
    let rest : replies_behind (number + 1) command starts past ≡ reply_by (number + 1 + place) by.sent ∷ [] =
    one-replies command past (number + 1) starts place
    (record { tag = by.tag; sent = by.sent; numbered = by.numbered; answered = subst (λ n. answer_behind command past n by.tag ≡ Some by.sent) next by.answered })
    (λ other later at differs. subst (λ n. answer_behind command past n later ≡ None) (omega arith) (none (suc other) later at (λ is. differs (omega (arith, is))))) in
    ap (λ (answer : Option Sent). reply_of number answer ++ replies_behind (number + 1) command starts past) here
    ∙ rest
    ∙ ap (λ n. reply_by n by.sent ∷ []) (sym next)
