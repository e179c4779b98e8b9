-- Each log has exactly one verdict, and what becomes of it where the log goes on.
use Rattle.std.proofs.Common.{rules, ◌≡◌, ℕ, ◌+◌, ◌<◌, ◌^◌, false, List, [], ◌∷◌, ◌++◌, Option, Some, None, refl, sym, ◌∙◌, ap, subst, arith, inl, inr, append_assoc, append-nil}
use Rattle.std.specs.Prelude.{◌⊎◌}
use Rattle.command_grammar.specs.declared.commands.Command.{Command}
use Rattle.reply_grammar.specs.declared.expected.Reply.TheVariants.{Rn16, Handle}
use Rattle.tag_machine.specs.Events.{tag_after_event}
use Rattle.tag_machine.specs.TagValue.{TagValue}
use Rattle.log_judge.specs.Log.{AreDrawn, LogEntry, LoggedTag, Seen, Exchange, Befalls, last_line, line_count, lines_in, tag_with}
use Rattle.log_judge.specs.Explaining.{Allows, IsAllowed, IsExcused, IsExplained, Leads, Manner, ByTables, WithLiberties, outcome_of_heard}
use Rattle.log_judge.specs.Verdicts.{FailsFirst, IsHandle, IsRn16, IsVerdict, IsWanted, Means, Verdict, Yes, Profile, No, Want, Nothing, Exactly, AnyRn16, AnyHandle, NothingOrAnyRn16}
use Rattle.log_judge.specs.laws.Logs.{Deed, IsLegalEntry, IsLegalLog, Sends, Brings, log_made}
use Rattle.log_judge.specs.laws.Known.{Known, Follows, want_of}
use Rattle.log_judge.specs.laws.StandingLaws.{StandsBehind}
use Rattle.log_judge.proofs.Decided.{event_follows, may_follow, some_is}
use Rattle.log_judge.proofs.Standing.{allowed_by, allowed_where_stands, fails_on, stands_first, stands_on, words_of}
use Rattle.log_judge.proofs.Wants.{wanted}

-- what leads through a log leads through its front
leads_front : (manner : Manner) (front more : List LogEntry) (tag behind : TagValue) → Leads manner (front ++ more) tag behind → (middle : TagValue) × Leads manner front tag middle
leads_front manner [] more tag behind leads = (tag, refl)
leads_front manner (entry ∷ front) more tag behind leads =
    let rest = leads_front manner front more leads.0 behind leads.2 in
    (rest.0, (leads.0, leads.1, rest.1))

pub allowed_front : (manner : Manner) (tag : LoggedTag) (front more : List LogEntry) → IsAllowed manner tag (front ++ more) → IsAllowed manner tag front
allowed_front manner tag front more allowed =
    let by = words_of manner tag (front ++ more) allowed in
    let middle = leads_front manner front more (tag_with tag by.0) by.1.behind by.1.leads in
    allowed_by manner tag front by.0 (record { drawn = by.1.drawn; behind = middle.0; leads = middle.1 })

-- what explains a log excuses it
excuses_entry : (entry : LogEntry) (tag behind : TagValue) → Allows ByTables entry tag behind → Allows WithLiberties entry tag behind
excuses_entry (Exchange heard seen) tag behind allows = inl allows
excuses_entry (Befalls event) tag behind allows = allows

excuses_log : (log : List LogEntry) (tag behind : TagValue) → Leads ByTables log tag behind → Leads WithLiberties log tag behind
excuses_log [] tag behind leads = leads
excuses_log (entry ∷ log) tag behind leads = (leads.0, excuses_entry entry tag leads.0 leads.1, excuses_log log leads.0 behind leads.2)

pub explained_is_excused : (tag : LoggedTag) (log : List LogEntry) → IsExplained tag log → IsExcused tag log
explained_is_excused tag log it = record {
  words = it.words;
  excuse = record { drawn = it.explain.drawn; behind = it.explain.behind; leads = excuses_log log (tag_with tag it.words) it.explain.behind it.explain.leads };
}

-- the first failure, or none
abbrev Failure : Manner → LoggedTag → List LogEntry → Type 0
Failure manner tag log = (number : ℕ) × (want : Want) × FailsFirst manner tag log number want

module _ (manner : Manner) (tag : LoggedTag) where
  fails_here : (before : List LogEntry) (known : Known) (entry : LogEntry) (more : List LogEntry) → StandsBehind manner tag before known → IsLegalEntry entry
      → ((next : Known) → ¬ Follows manner known entry next) → Failure manner tag (before ++ entry ∷ more)
  fails_here before known (Exchange heard seen) more stands legal none = (
    last_line (before ++ Exchange heard seen ∷ []),
    want_of known heard,
    record {
      before = before;
      heard = heard;
      seen = seen;
      behind = more;
      cut = refl;
      allowed = allowed_where_stands manner tag before known stands;
      fails = fails_on manner tag before known stands (Exchange heard seen) legal none;
      place = refl;
      wanted = wanted manner tag before known heard stands legal.heard_is;
    },
  )
  fails_here before known (Befalls event) more stands legal none = absurd (none (event_follows manner known event).0 (event_follows manner known event).1)

  first_failure : (before : List LogEntry) (known : Known) (rest : List LogEntry) → StandsBehind manner tag before known → IsLegalLog rest → IsAllowed manner tag (before ++ rest) ⊎ Failure manner tag (before ++ rest)
  first_failure before known [] stands legal =
      inl (subst (λ (log : List LogEntry). IsAllowed manner tag log) (sym (append-nil before)) (allowed_where_stands manner tag before known stands))
  first_failure before known (entry ∷ rest) stands legal =
      elim (may_follow manner known entry) [
        | inl it ↦ subst (λ (log : List LogEntry). IsAllowed manner tag log ⊎ Failure manner tag log) (append_assoc before (entry ∷ []) rest)
            (first_failure (before ++ entry ∷ []) it.0 rest (stands_on manner tag before known stands entry legal.0 it.0 it.1) legal.1)
        | inr none ↦ inr (fails_here before known entry rest stands legal.0 (λ next follows. none (next, follows)))
      ]

pub allowed_or_fails : (manner : Manner) (tag : LoggedTag) (log : List LogEntry) → IsLegalLog log → IsAllowed manner tag log ⊎ Failure manner tag log
allowed_or_fails manner tag log legal = first_failure manner tag [] (record { tag = tag_with tag (0 ∷ []); any = false }) log (stands_first manner tag (0 ∷ [])) legal

-- what is allowed is allowed up to a failure
allowed_up_to : (manner : Manner) {by : Manner} {tag : LoggedTag} {log : List LogEntry} {number : ℕ} {want : Want} → (first : FailsFirst by tag log number want)
    → IsAllowed manner tag log → IsAllowed manner tag (first.before ++ Exchange first.heard first.seen ∷ [])
allowed_up_to manner {tag = tag} first allowed =
    allowed_front manner tag (first.before ++ Exchange first.heard first.seen ∷ []) first.behind
    (subst (λ (l : List LogEntry). IsAllowed manner tag l) (first.cut ∙ sym (append_assoc first.before (Exchange first.heard first.seen ∷ []) first.behind)) allowed)

pub some_verdict : (tag : LoggedTag) (log : List LogEntry) → IsLegalLog log → (verdict : Verdict) × IsVerdict tag log verdict
some_verdict tag log legal = by (allowed_or_fails ByTables tag log legal) (allowed_or_fails WithLiberties tag log legal)
  where
    by : IsExplained tag log ⊎ Failure ByTables tag log → IsExcused tag log ⊎ Failure WithLiberties tag log → (verdict : Verdict) × IsVerdict tag log verdict
    by (inl explained) other = (Yes, explained)
    by (inr one) (inl excused) = (Profile one.0 one.1, record { unexplained = λ explained. one.2.fails (allowed_up_to ByTables one.2 explained); excused = excused; first = one.2 })
    by (inr one) (inr other) = (No other.0 other.1, record { unexcused = λ excused. other.2.fails (allowed_up_to WithLiberties other.2 excused); first = other.2 })

-- Two wants that mean the same are one.
abbrev rn_answer : ℕ → Option Seen
rn_answer number = Some (record { reply = Rn16 number; extended = false })

abbrev handle_answer : ℕ → Option Seen
handle_answer number = Some (record { reply = Handle number; extended = false })

an_rn : (number : ℕ) → number < 2 ^ 16 → IsRn16 (rn_answer number)
an_rn number range = record { number = number; range = range; is = refl }

a_handle : (number : ℕ) → number < 2 ^ 16 → IsHandle (handle_answer number)
a_handle number range = record { number = number; range = range; is = refl }

one_word : 1 < 2 ^ 16
one_word = omega arith

no_word : 0 < 2 ^ 16
no_word = omega arith

none_is_some : {seen : Seen} → None ≡ Some seen → ⊥
none_is_some same = absurd (cc)

same_rn : (n m : ℕ) → rn_answer n ≡ rn_answer m → n ≡ m
same_rn n m same = let both : Rn16 n ≡ Rn16 m = ap (λ (seen : Seen). seen.reply) (some_is same) in cc

same_handle : (n m : ℕ) → handle_answer n ≡ handle_answer m → n ≡ m
same_handle n m same = let both : Handle n ≡ Handle m = ap (λ (seen : Seen). seen.reply) (some_is same) in cc

not_two_rn : {answer : Option Seen} → rn_answer 0 ≡ answer → rn_answer 1 ≡ answer → ⊥
not_two_rn zero_is one_is = absurd (omega (arith, same_rn 0 1 (zero_is ∙ sym one_is)))

not_two_handles : {answer : Option Seen} → handle_answer 0 ≡ answer → handle_answer 1 ≡ answer → ⊥
not_two_handles zero_is one_is = absurd (omega (arith, same_handle 0 1 (zero_is ∙ sym one_is)))

rn_no_handle : {n m : ℕ} → rn_answer n ≡ handle_answer m → ⊥
rn_no_handle {n = n} {m = m} same = let both : Rn16 n ≡ Handle m = ap (λ (seen : Seen). seen.reply) (some_is same) in absurd (cc)

pub one_want : (one other : Want) → ((answer : Option Seen) → Means one answer → Means other answer) → ((answer : Option Seen) → Means other answer → Means one answer) → one ≡ other
one_want Nothing Nothing to from = refl
one_want Nothing (Exactly seen) to from = absurd (none_is_some (to None refl))
one_want Nothing AnyRn16 to from = absurd (none_is_some (to None refl).is)
one_want Nothing AnyHandle to from = absurd (none_is_some (to None refl).is)
one_want Nothing NothingOrAnyRn16 to from = absurd (none_is_some (sym (from (rn_answer 0) (inr (an_rn 0 no_word)))))
one_want (Exactly seen) Nothing to from = absurd (none_is_some (from None refl))
one_want (Exactly seen) (Exactly seen') to from = ap (λ (s : Seen). Exactly s) (some_is (to (Some seen) refl))
one_want (Exactly seen) AnyRn16 to from = absurd (not_two_rn (from (rn_answer 0) (an_rn 0 no_word)) (from (rn_answer 1) (an_rn 1 one_word)))
one_want (Exactly seen) AnyHandle to from = absurd (not_two_handles (from (handle_answer 0) (a_handle 0 no_word)) (from (handle_answer 1) (a_handle 1 one_word)))
one_want (Exactly seen) NothingOrAnyRn16 to from = absurd (none_is_some (from None (inl refl)))
one_want AnyRn16 Nothing to from = absurd (none_is_some (from None refl).is)
one_want AnyRn16 (Exactly seen) to from = absurd (not_two_rn (to (rn_answer 0) (an_rn 0 no_word)) (to (rn_answer 1) (an_rn 1 one_word)))
one_want AnyRn16 AnyRn16 to from = refl
one_want AnyRn16 AnyHandle to from = absurd (rn_no_handle (to (rn_answer 0) (an_rn 0 no_word)).is)
one_want AnyRn16 NothingOrAnyRn16 to from = absurd (none_is_some (from None (inl refl)).is)
one_want AnyHandle Nothing to from = absurd (none_is_some (from None refl).is)
one_want AnyHandle (Exactly seen) to from = absurd (not_two_handles (to (handle_answer 0) (a_handle 0 no_word)) (to (handle_answer 1) (a_handle 1 one_word)))
one_want AnyHandle AnyRn16 to from = absurd (rn_no_handle (from (rn_answer 0) (an_rn 0 no_word)).is)
one_want AnyHandle AnyHandle to from = refl
one_want AnyHandle NothingOrAnyRn16 to from = absurd (none_is_some (from None (inl refl)).is)
one_want NothingOrAnyRn16 Nothing to from = absurd (none_is_some (sym (to (rn_answer 0) (inr (an_rn 0 no_word)))))
one_want NothingOrAnyRn16 (Exactly seen) to from = absurd (none_is_some (to None (inl refl)))
one_want NothingOrAnyRn16 AnyRn16 to from = absurd (none_is_some (to None (inl refl)).is)
one_want NothingOrAnyRn16 AnyHandle to from = absurd (none_is_some (to None (inl refl)).is)
one_want NothingOrAnyRn16 NothingOrAnyRn16 to from = refl

-- Two cuts of one log: at one place, or one behind the other.
data TwoCuts (before other : List LogEntry) (entry entry' : LogEntry) : Type 0 where
  at_one : before ≡ other → entry ≡ entry' → TwoCuts before other entry entry'
  earlier : (between : List LogEntry) → other ≡ (before ++ entry ∷ []) ++ between → TwoCuts before other entry entry'
  later : (between : List LogEntry) → before ≡ (other ++ entry' ∷ []) ++ between → TwoCuts before other entry entry'

two_cuts : (before : List LogEntry) (entry : LogEntry) (behind other : List LogEntry) (entry' : LogEntry) (behind' : List LogEntry) → before ++ entry ∷ behind ≡ other ++ entry' ∷ behind' → TwoCuts before other entry entry'
two_cuts [] entry behind [] entry' behind' same = at_one refl (cc)
two_cuts [] entry behind (next ∷ other) entry' behind' same = earlier other (cc)
two_cuts (next ∷ before) entry behind [] entry' behind' same = later before (cc)
two_cuts (next ∷ before) entry behind (next' ∷ other) entry' behind' same = by (two_cuts before entry behind other entry' behind' (cc))
  where
    by : TwoCuts before other entry entry' → TwoCuts (next ∷ before) (next' ∷ other) entry entry'
    by (at_one lists entries) = at_one (cc) entries
    by (earlier between is) = earlier between (cc)
    by (later between is) = later between (cc)

module _ (manner : Manner) (tag : LoggedTag) (log : List LogEntry) where
  pub one_failure : (number number' : ℕ) (want want' : Want) → FailsFirst manner tag log number want → FailsFirst manner tag log number' want' → (number ≡ number') × (want ≡ want')
  one_failure number number' want want' one other = by (two_cuts one.before (Exchange one.heard one.seen) one.behind other.before (Exchange other.heard other.seen) other.behind (sym one.cut ∙ other.cut))
    where
      by : TwoCuts one.before other.before (Exchange one.heard one.seen) (Exchange other.heard other.seen) → (number ≡ number') × (want ≡ want')
      by (earlier between is) = absurd (one.fails (allowed_front manner tag (one.before ++ Exchange one.heard one.seen ∷ []) between (subst (λ (l : List LogEntry). IsAllowed manner tag l) is other.allowed)))
      by (later between is) = absurd (other.fails (allowed_front manner tag (other.before ++ Exchange other.heard other.seen ∷ []) between (subst (λ (l : List LogEntry). IsAllowed manner tag l) is one.allowed)))
      by (at_one befores entries) =
          let heards : one.heard ≡ other.heard = cc in
          let places : one.before ++ Exchange one.heard one.seen ∷ [] ≡ other.before ++ Exchange other.heard other.seen ∷ []
          = ap (λ (l : List LogEntry). l ++ Exchange one.heard one.seen ∷ []) befores ∙ ap (λ (e : LogEntry). other.before ++ e ∷ []) entries in
          let wanted' : IsWanted manner tag other.before other.heard want
          = subst (λ (h : Option Command). IsWanted manner tag other.before h want) heards (subst (λ (l : List LogEntry). IsWanted manner tag l one.heard want) befores one.wanted) in (
            one.place ∙ ap last_line places ∙ sym other.place,
            one_want want want' (λ answer means. other.wanted.only answer (wanted'.each answer means)) (λ answer means. wanted'.only answer (other.wanted.each answer means)),
          )

pub one_verdict : (tag : LoggedTag) (log : List LogEntry) (one other : Verdict) → IsVerdict tag log one → IsVerdict tag log other → one ≡ other
one_verdict tag log Yes Yes left right = refl
one_verdict tag log (Profile number want) (Profile number' want') left right =
    let same = one_failure ByTables tag log number number' want want' left.first right.first in
    ap (λ n. Profile n want) same.0 ∙ ap (λ w. Profile number' w) same.1
one_verdict tag log (No number want) (No number' want') left right =
    let same = one_failure WithLiberties tag log number number' want want' left.first right.first in
    ap (λ n. No n want) same.0 ∙ ap (λ w. No number' w) same.1
one_verdict tag log one other left right = absurd (search (rules, explained_is_excused))

-- Where a log goes on, its first failure stays the first.
pub goes_on : (manner : Manner) (tag : LoggedTag) (log more : List LogEntry) (number : ℕ) (want : Want) → FailsFirst manner tag log number want → FailsFirst manner tag (log ++ more) number want
goes_on manner tag log more number want first = record {
  before = first.before;
  heard = first.heard;
  seen = first.seen;
  behind = first.behind ++ more;
  cut = ap (λ (l : List LogEntry). l ++ more) first.cut ∙ append_assoc first.before (Exchange first.heard first.seen ∷ first.behind) more;
  allowed = first.allowed;
  fails = first.fails;
  place = first.place;
  wanted = first.wanted;
}

pub no_stays : (tag : LoggedTag) (log more : List LogEntry) (number : ℕ) (want : Want) → IsVerdict tag log (No number want) → IsVerdict tag (log ++ more) (No number want)
no_stays tag log more number want is = record {
  unexcused = λ excused. is.unexcused (allowed_front WithLiberties tag log more excused);
  first = goes_on WithLiberties tag log more number want is.first;
}

lines_over : (log more : List LogEntry) → lines_in (log ++ more) ≡ lines_in log + lines_in more
lines_over [] more = omega arith
lines_over (entry ∷ log) more = ap (λ n. line_count entry + n) (lines_over log more) ∙ omega arith

-- A later failure of a log that is excused up to there stands behind it.
fails_later : (tag : LoggedTag) (log more : List LogEntry) (number number' : ℕ) (want want' : Want) → IsExcused tag log → FailsFirst ByTables tag log number want
    → FailsFirst WithLiberties tag (log ++ more) number' want' → number < number'
fails_later tag log more number number' want want' excused one other = by (two_cuts one.before (Exchange one.heard one.seen) (one.behind ++ more) other.before (Exchange other.heard other.seen) other.behind (sym whole ∙ other.cut))
  where
    whole : log ++ more ≡ one.before ++ Exchange one.heard one.seen ∷ (one.behind ++ more)
    whole = ap (λ (l : List LogEntry). l ++ more) one.cut ∙ append_assoc one.before (Exchange one.heard one.seen ∷ one.behind) more

    up_to_one : IsExcused tag (one.before ++ Exchange one.heard one.seen ∷ [])
    up_to_one = allowed_up_to WithLiberties one excused

    by : TwoCuts one.before other.before (Exchange one.heard one.seen) (Exchange other.heard other.seen) → number < number'
    by (at_one befores entries) = absurd (other.fails (subst (λ (l : List LogEntry). IsExcused tag l)
        (ap (λ (l : List LogEntry). l ++ Exchange one.heard one.seen ∷ []) befores ∙ ap (λ (e : LogEntry). other.before ++ e ∷ []) entries) up_to_one))
    by (later between is) = absurd (other.fails (allowed_front WithLiberties tag (other.before ++ Exchange other.heard other.seen ∷ []) (between ++ Exchange one.heard one.seen ∷ [])
        (subst (λ (l : List LogEntry). IsExcused tag l) (ap (λ (l : List LogEntry). l ++ Exchange one.heard one.seen ∷ []) is ∙ append_assoc (other.before ++ Exchange other.heard other.seen ∷ []) between (Exchange one.heard one.seen ∷ [])) up_to_one)))
    by (earlier between is) =
        let parts = lines_over other.before (Exchange other.heard other.seen ∷ []) in
        let front = ap lines_in is ∙ lines_over (one.before ++ Exchange one.heard one.seen ∷ []) between in
        omega (arith, one.place, other.place, parts, front)

pub profile_stays : (tag : LoggedTag) (log more : List LogEntry) (number : ℕ) (want : Want) (verdict : Verdict) → IsVerdict tag log (Profile number want) → IsVerdict tag (log ++ more) verdict
    → (verdict ≡ Profile number want) ⊎ ((number' : ℕ) × (want' : Want) × (verdict ≡ No number' want') × (number < number'))
profile_stays tag log more number want Yes is other = absurd (is.unexplained (allowed_front ByTables tag log more other))
profile_stays tag log more number want (Profile number' want') is other =
    let same = one_failure ByTables tag (log ++ more) number' number want' want other.first (goes_on ByTables tag log more number want is.first) in
    inl (ap (λ n. Profile n want') same.0 ∙ ap (λ w. Profile number w) same.1)
profile_stays tag log more number want (No number' want') is other =
    inr (number', want', refl, fails_later tag log more number number' want want' is.excused is.first other.first)

-- A log that a tag made
made_leads : (deeds : List Deed) (tag : TagValue) → (behind : TagValue) × Leads ByTables (log_made deeds tag) tag behind
made_leads [] tag = (tag, refl)
made_leads (Sends heard ∷ deeds) tag =
    let rest = made_leads deeds (outcome_of_heard heard tag).tag in
    (rest.0, ((outcome_of_heard heard tag).tag, (refl, refl), rest.1))
made_leads (Brings event ∷ deeds) tag =
    let rest = made_leads deeds (tag_after_event event tag.state tag.body) in
    (rest.0, (tag_after_event event tag.state tag.body, refl, rest.1))

pub made_is_explained : (tag : LoggedTag) (words : List ℕ) (deeds : List Deed) → AreDrawn words → IsVerdict tag (log_made deeds (tag_with tag words)) Yes
made_is_explained tag words deeds drawn =
    let leads = made_leads deeds (tag_with tag words) in
    record { words = words; explain = record { drawn = drawn; behind = leads.0; leads = leads.1 } }
