-- The text of one line more.
use Rattle.std.proofs.Common.{◌≡◌, ◌⊎◌, inl, inr, ℕ, ◌≤◌, true, false, List, [], ◌++◌, take, drop, Option, Some, None, Result, Ok, Err, refl, sym, ap, ◌∙◌, subst, arith, append_assoc}
use Rattle.std.proofs.lemmas.List.{append-nil, take-append-drop}
use Rattle.std.specs.Result.{OnOk, result_err, IsErrAnd}
use Rattle.std.specs.Option.{is_some}
use Rattle.air_io.specs.Flow.{Adds, FaultsRose}
use Rattle.air_io.specs.laws.Flow.{Adds-more}
use Rattle.report_lines.specs.TextReport.{IsAdded}
use Rattle.report_lines.specs.declared.mode.PlayFault.{PlayFault}
use Rattle.report_lines.specs.declared.mode.PlayFault.TheVariants.{Write}

rose-later : (first before after : ℕ) → first ≤ before → FaultsRose before after → FaultsRose first after
rose-later first before after count rose = record { no_less = omega arith; larger_or_last = λ same. rose.larger_or_last (omega arith) }

-- without a fault all is added
all-added : (text : List ℕ) (first written : Option (List ℕ)) (before after : ℕ) → IsAdded text first written before after None → Adds first written text
all-added text first written before after added =
    let whole : text ≡ added.front = added.split ∙ ap (λ (rest : List ℕ). added.front ++ rest) (added.whole refl) ∙ append-nil added.front in
    subst (λ (bytes : List ℕ). Adds first written bytes) (sym whole) added.added

-- a sink as it stands: what it was given, and how many faults it met
pub record SinkAt : Type 0 where
  pub given : Option (List ℕ)
  pub faults : ℕ

-- the text of a line was written behind what was added
pub added-line : (text line : List ℕ) (first old new : SinkAt) → IsAdded text first.given old.given first.faults old.faults None → Adds old.given new.given line → new.faults ≡ old.faults
    → IsAdded (text ++ line) first.given new.given first.faults new.faults None
added-line text line first old new added written stands = record {
  front = text ++ line;
  rest = [];
  split = sym (append-nil (text ++ line));
  whole = λ none. refl;
  added = Adds-more first.given old.given new.given text line (all-added text first.given old.given first.faults old.faults added) written;
  rose = λ rose. absurd (cc);
  steady = λ other. stands ∙ added.steady (λ write. cc);
  count = omega (arith, added.count, stands);
}

-- ... or a front of it, where the write failed
pub added-part : (text line : List ℕ) (first old new : SinkAt) (count : ℕ) → IsAdded text first.given old.given first.faults old.faults None → Adds old.given new.given (take count line)
    → FaultsRose old.faults new.faults → IsAdded (text ++ line) first.given new.given first.faults new.faults (Some Write)
added-part text line first old new count added written rose = record {
  front = text ++ take count line;
  rest = drop count line;
  split = ap (λ (bytes : List ℕ). text ++ bytes) (sym (take-append-drop count line)) ∙ sym (append_assoc text (take count line) (drop count line));
  whole = λ none. absurd (cc);
  added = Adds-more first.given old.given new.given text (take count line) (all-added text first.given old.given first.faults old.faults added) written;
  rose = λ write. rose-later first.faults old.faults new.faults added.count rose;
  steady = λ other. absurd (other refl);
  count = omega (arith, added.count, rose.no_less);
}

-- a fault that is handed on
pub fault-kept : {T : Type 0} (r : Result T PlayFault) (cause : PlayFault) (P : Option PlayFault → Type 0) → IsErrAnd r (λ fault. fault ≡ cause) → P (Some cause) → P (result_err r)
fault-kept (Ok x) cause P is holds = absurd is
fault-kept (Err fault) cause P is holds = subst (λ (f : PlayFault). P (Some f)) (sym is) holds

-- where a fault was met, further lines add nothing
pub added-nothing : (text more : List ℕ) (first written : Option (List ℕ)) (before after : ℕ) (fault : Option PlayFault) → is_some fault ≡ true
    → IsAdded text first written before after fault → IsAdded (text ++ more) first written before after fault
added-nothing text more first written before after None met added = absurd (cc)
added-nothing text more first written before after (Some fault) met added = record {
  front = added.front;
  rest = added.rest ++ more;
  split = ap (λ (bytes : List ℕ). bytes ++ more) added.split ∙ append_assoc added.front added.rest more;
  whole = λ none. absurd (cc);
  added = added.added;
  rose = added.rose;
  steady = added.steady;
  count = added.count;
}

-- a fault was met, or none was
pub not-met : (fault : Option PlayFault) → is_some fault ≡ false → fault ≡ None
not-met None is = refl
not-met (Some fault) is = absurd (cc)

pub not-both : (fault : Option PlayFault) → is_some fault ≡ true → fault ≡ None → ⊥
not-both None met none = absurd (cc)
not-both (Some fault) met none = absurd (cc)

-- what holds at an end without a fault
pub without-fault : {T P : Type 0} (r : Result T PlayFault) → result_err r ≡ None → OnOk r P → P
without-fault (Ok x) none holds = holds
without-fault (Err fault) none holds = absurd (cc)

pub met-or-not : (fault : Option PlayFault) → (fault ≡ None) ⊎ (is_some fault ≡ true)
met-or-not None = inl refl
met-or-not (Some fault) = inr refl
