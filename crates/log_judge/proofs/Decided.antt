-- Whether a tag that is known may do what an entry says.
use Rattle.std.proofs.Common.{arith, ◌≡◌, ◌≢◌, ℕ, ◌==◌, ◌&&◌, Bool, true, false, List, [], ◌∷◌, Option, Some, None, refl, sym, ◌∙◌, ap, inl, inr}
use Rattle.std.specs.Prelude.{◌⊎◌}
use Rattle.std.proofs.lemmas.Bool.Decides.{eqb_tells}
use Rattle.air_events.specs.declared.Event.{Event}
use Rattle.command_grammar.specs.declared.commands.Command.{Command}
use Rattle.reply_grammar.specs.declared.expected.Reply.{Reply}
use Rattle.reply_grammar.specs.declared.expected.Reply.TheVariants.{Rn16, Epc, Handle, Words, Header, Error}
use Rattle.tag_machine.specs.Events.{tag_after_event}
use Rattle.log_judge.specs.Log.{LogEntry, Seen, Exchange, Befalls}
use Rattle.log_judge.specs.Explaining.{Allows, IsOtherError, LacksCommand, Manner, ByTables, WithLiberties, seen_answer_to, is_optional, outcome_of_heard}
use Rattle.log_judge.specs.laws.Known.{Known, Follows, any_behind, prepared, waits}

abbrev pub Dec : Type 0 → Type 0
Dec A = A ⊎ (¬ A)

abbrev first_in : List ℕ → ℕ
first_in [] = 0
first_in (n ∷ more) = n

-- what is something is one thing
pub some_is : {A : Type 0} {a b : A} → Some a ≡ Some b → a ≡ b
some_is same = cc

same_words : (one other : List ℕ) → Dec (one ≡ other)
same_words [] [] = inl refl
same_words [] (m ∷ other) = inr (λ same. absurd (cc))
same_words (n ∷ one) [] = inr (λ same. absurd (cc))
same_words (n ∷ one) (m ∷ other) = by (eqb_tells n m) (same_words one other)
  where
    by : (((n == m) ≡ true) × (n ≡ m)) ⊎ (((n == m) ≡ false) × (n ≢ m)) → Dec (one ≡ other) → Dec (n ∷ one ≡ m ∷ other)
    by (inl a) (inl b) = inl (ap (λ k. k ∷ one) a.1 ∙ ap (λ l. m ∷ l) b)
    by (inl a) (inr b) = inr (λ same. b (cc))
    by (inr a) b = inr (λ same. a.1 (cc))

-- a reply, as numbers
abbrev kind_in : Reply → ℕ
kind_in (Rn16 number) = 0
kind_in (Epc pc epc) = 1
kind_in (Handle number) = 2
kind_in (Words words) = 3
kind_in Header = 4
kind_in (Error code) = 5

abbrev numbers_in : Reply → List ℕ
numbers_in (Rn16 number) = number ∷ []
numbers_in (Epc pc epc) = pc ∷ epc
numbers_in (Handle number) = number ∷ []
numbers_in (Words words) = words
numbers_in Header = []
numbers_in (Error code) = code ∷ []

-- two replies of one kind
same_kind : (one other : Reply) → kind_in one ≡ kind_in other → numbers_in one ≡ numbers_in other → one ≡ other
same_kind (Rn16 n) (Rn16 m) kinds numbers = cc
same_kind (Epc pc epc) (Epc pc' epc') kinds numbers = cc
same_kind (Handle n) (Handle m) kinds numbers = cc
same_kind (Words words) (Words words') kinds numbers = cc
same_kind Header Header kinds numbers = refl
same_kind (Error code) (Error code') kinds numbers = cc
same_kind one other kinds numbers = absurd (omega (arith, kinds))

same_reply : (one other : Reply) → Dec (one ≡ other)
same_reply one other = by (eqb_tells (kind_in one) (kind_in other)) (same_words (numbers_in one) (numbers_in other))
  where
    by : (((kind_in one == kind_in other) ≡ true) × (kind_in one ≡ kind_in other)) ⊎ (((kind_in one == kind_in other) ≡ false) × (kind_in one ≢ kind_in other)) → Dec (numbers_in one ≡ numbers_in other) → Dec (one ≡ other)
    by (inl a) (inl b) = inl (same_kind one other a.1 b)
    by (inl a) (inr b) = inr (λ same. b (ap numbers_in same))
    by (inr a) b = inr (λ same. a.1 (ap kind_in same))

same_bool : (one other : Bool) → Dec (one ≡ other)
same_bool true true = inl refl
same_bool false false = inl refl
same_bool one other = inr (λ same. absurd (cc))

same_seen : (one other : Seen) → Dec (one ≡ other)
same_seen one other = by (same_reply one.reply other.reply) (same_bool one.extended other.extended)
  where
    by : Dec (one.reply ≡ other.reply) → Dec (one.extended ≡ other.extended) → Dec (one ≡ other)
    by (inl a) (inl b) = inl (ap (λ (r : Reply). let it : Seen = record { reply = r; extended = one.extended } in it) a ∙ ap (λ (x : Bool). let it : Seen = record { reply = other.reply; extended = x } in it) b)
    by (inl a) (inr b) = inr (λ same. b (ap (λ (s : Seen). s.extended) same))
    by (inr a) b = inr (λ same. a (ap (λ (s : Seen). s.reply) same))

pub same_answer : (one other : Option Seen) → Dec (one ≡ other)
same_answer None None = inl refl
same_answer None (Some other) = inr (λ same. absurd (cc))
same_answer (Some one) None = inr (λ same. absurd (cc))
same_answer (Some one) (Some other) = by (same_seen one other)
  where
    by : Dec (one ≡ other) → Dec (Some one ≡ Some other)
    by (inl a) = inl (ap (λ s. Some s) a)
    by (inr a) = inr (λ same. a (some_is same))

-- an error
record IsError (answer : Option Seen) : Type 0 where
  pub code : ℕ
  pub extended : Bool
  pub is : answer ≡ Some (record { reply = Error code; extended = extended })

error_reply : (reply : Reply) (extended : Bool) → Dec (IsError (Some (record { reply = reply; extended = extended })))
error_reply (Error code) extended = inl (record { code = code; extended = extended; is = refl })
error_reply reply extended = inr (λ it. let same : reply ≡ Error it.code = ap (λ (s : Seen). s.reply) (some_is it.is) in absurd (cc))

error_answer : (answer : Option Seen) → Dec (IsError answer)
error_answer None = inr (λ it. absurd (cc))
error_answer (Some seen) = error_reply seen.reply seen.extended

abbrev code_in : Option Seen → ℕ
code_in None = 0
code_in (Some seen) = first_in (numbers_in seen.reply)

abbrev extended_in : Option Seen → Bool
extended_in None = false
extended_in (Some seen) = seen.extended

pub other_error : (answer seen : Option Seen) → Dec (IsOtherError answer seen)
other_error answer seen = by (error_answer answer) (error_answer seen)
  where
    apart : (a : IsError answer) (b : IsError seen) → Dec (a.extended ≡ b.extended) → (((b.code == a.code) ≡ true) × (b.code ≡ a.code)) ⊎ (((b.code == a.code) ≡ false) × (b.code ≢ a.code)) → Dec (IsOtherError answer seen)
    apart a b (inl same) (inr codes) = inl (record {
      code = a.code;
      other = b.code;
      extended = b.extended;
      answered = a.is ∙ ap (λ (x : Bool). let it : Option Seen = Some (record { reply = Error a.code; extended = x }) in it) same;
      said = b.is;
      apart = codes.1;
    })
    apart a b (inl same) (inl codes) = inr (λ it. it.apart (sym (ap code_in it.said) ∙ ap code_in b.is ∙ codes.1 ∙ sym (ap code_in a.is) ∙ ap code_in it.answered))
    apart a b (inr other) codes = inr (λ it. other (sym (ap extended_in a.is) ∙ ap extended_in it.answered ∙ sym (ap extended_in it.said) ∙ ap extended_in b.is))

    by : Dec (IsError answer) → Dec (IsError seen) → Dec (IsOtherError answer seen)
    by (inl a) (inl b) = apart a b (same_bool a.extended b.extended) (eqb_tells b.code a.code)
    by (inl a) (inr b) = inr (λ it. b (record { code = it.other; extended = it.extended; is = it.said }))
    by (inr a) b = inr (λ it. a (record { code = it.code; extended = it.extended; is = it.answered }))

-- what may follow
abbrev pub MayFollow : Manner → Known → LogEntry → Type 0
MayFollow manner known entry = (next : Known) × Follows manner known entry next

module _ (known : Known) (heard : Option Command) (seen : Option Seen) where
  -- what becomes of it where it does what the entry says
  abbrev made : Known
  made = record { tag = (outcome_of_heard heard (prepared known heard seen)).tag; any = any_behind known heard (outcome_of_heard heard (prepared known heard seen)).tag.state }

  strictly : Dec (seen_answer_to heard (prepared known heard seen) ≡ seen) → Dec (MayFollow ByTables known (Exchange heard seen))
  strictly (inl same) = inl (made, ((same, refl), refl))
  strictly (inr other) = inr (λ it. other it.1.0.0)

  lacking : Dec (is_optional heard ≡ true) → Dec (seen_answer_to heard (prepared known heard seen) ≡ None) → Dec (seen ≡ None) → Dec (LacksCommand heard seen (prepared known heard seen) (prepared known heard seen))
  lacking (inl optional) (inr answered) (inl silent) = inl (record { optional = optional; answered = answered; silent = silent; stays = refl })
  lacking (inr optional) answered silent = inr (λ it. optional it.optional)
  lacking (inl optional) (inl none) silent = inr (λ it. it.answered none)
  lacking (inl optional) (inr answered) (inr said) = inr (λ it. said it.silent)

  leniently : Dec (seen_answer_to heard (prepared known heard seen) ≡ seen) → Dec (IsOtherError (seen_answer_to heard (prepared known heard seen)) seen) → Dec (LacksCommand heard seen (prepared known heard seen) (prepared known heard seen))
      → Dec (MayFollow WithLiberties known (Exchange heard seen))
  leniently (inl same) error lacks = inl (made, (inl (same, refl), refl))
  leniently (inr other) (inl error) lacks = inl (made, (inr (inl (record { other = error; becomes = refl })), refl))
  leniently (inr other) (inr no_error) (inl lacks) = inl (record { tag = prepared known heard seen; any = any_behind known heard (prepared known heard seen).state }, (inr (inr lacks), refl))
  leniently (inr other) (inr no_error) (inr lacks_not) = inr (λ it. none it.0 it.1.0)
    where
      none : (next : Known) → Allows WithLiberties (Exchange heard seen) (prepared known heard seen) next.tag → ⊥
      none next (inl explains) = other explains.0
      none next (inr (inl takes)) = no_error takes.other
      none next (inr (inr lacks)) = lacks_not (record { optional = lacks.optional; answered = lacks.answered; silent = lacks.silent; stays = refl })

pub event_follows : (manner : Manner) (known : Known) (event : Event) → MayFollow manner known (Befalls event)
event_follows manner known event =
    (record { tag = tag_after_event event known.tag.state known.tag.body; any = known.any && waits (tag_after_event event known.tag.state known.tag.body).state }, (refl, refl))

pub may_follow : (manner : Manner) (known : Known) (entry : LogEntry) → Dec (MayFollow manner known entry)
may_follow ByTables known (Exchange heard seen) = strictly known heard seen (same_answer (seen_answer_to heard (prepared known heard seen)) seen)
may_follow WithLiberties known (Exchange heard seen) =
    leniently known heard seen (same_answer (seen_answer_to heard (prepared known heard seen)) seen) (other_error (seen_answer_to heard (prepared known heard seen)) seen)
    (lacking known heard seen (same_bool (is_optional heard) true) (same_answer (seen_answer_to heard (prepared known heard seen)) None) (same_answer seen None))
may_follow manner known (Befalls event) = inl (event_follows manner known event)
