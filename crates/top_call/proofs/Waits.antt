-- Bytes that wait on a page, and writes of them one after another.
use Rattle.std.proofs.Common.{◌≡◌, ℕ, ◌≤◌, List, [], ◌++◌, length, take, drop, Option, refl, sym, ◌∙◌, ap, subst, append_assoc}
use Rattle.std.specs.Prelude.{Result, Ok, Err, OnErr}
use Rattle.std.proofs.lemmas.List.{take-append-drop, append-nil}
use Rattle.air_io.specs.Flow.{Adds}
use Rattle.air_io.specs.laws.Flow.{Adds-nothing, Adds-more}
use Rattle.top_call.specs.UnwrittenBytes.{WritesWaiting, Loses}

-- nothing was written
pub sends_none : (waited : List ℕ) (written : Option (List ℕ)) → WritesWaiting waited waited written written
sends_none waited written = record { sent = []; all = refl; added = Adds-nothing written }

-- all was written
pub sends_all : (waited : List ℕ) (written written' : Option (List ℕ)) → Adds written written' waited → WritesWaiting waited [] written written'
sends_all waited written written' added = record { sent = waited; all = sym (append-nil waited); added = added }

-- a part of the bytes was written
pub loses_some : (waited : List ℕ) (written written' : Option (List ℕ)) → (count : ℕ) × (count ≤ length waited) × Adds written written' (take count waited) → Loses waited written written'
loses_some waited written written' part =
    record { sent = take part.0 waited; lost = drop part.0 waited; all = sym (take-append-drop part.0 waited); added = part.2 }

-- what is added to the bytes that wait is lost with them
pub loses_more : (waited more : List ℕ) (written written' : Option (List ℕ)) → Loses waited written written' → Loses (waited ++ more) written written'
loses_more waited more written written' loses = record {
  sent = loses.sent;
  lost = loses.lost ++ more;
  all = ap (λ (bytes : List ℕ). bytes ++ more) loses.all ∙ append_assoc loses.sent loses.lost more;
  added = loses.added;
}

-- bytes are added to those that wait, and more is written
pub sends_more : (waited between more waits : List ℕ) (written written' written'' : Option (List ℕ)) → WritesWaiting waited between written written' → WritesWaiting (between ++ more) waits written' written''
    → WritesWaiting (waited ++ more) waits written written''
sends_more waited between more waits written written' written'' first second = record {
  sent = first.sent ++ second.sent;
  all = ap (λ (bytes : List ℕ). bytes ++ more) first.all ∙ append_assoc first.sent between more ∙ ap (λ (bytes : List ℕ). first.sent ++ bytes) second.all ∙ sym (append_assoc first.sent second.sent waits);
  added = Adds-more written written' written'' first.sent second.sent first.added second.added;
}

-- and then a write fails
pub loses_later : (waited between more : List ℕ) (written written' written'' : Option (List ℕ)) → WritesWaiting waited between written written' → Loses (between ++ more) written' written''
    → Loses (waited ++ more) written written''
loses_later waited between more written written' written'' first second = record {
  sent = first.sent ++ second.sent;
  lost = second.lost;
  all = ap (λ (bytes : List ℕ). bytes ++ more) first.all ∙ append_assoc first.sent between more ∙ ap (λ (bytes : List ℕ). first.sent ++ bytes) second.all ∙ sym (append_assoc first.sent second.sent second.lost);
  added = Adds-more written written' written'' first.sent second.sent first.added second.added;
}

-- what holds whichever way a call ended holds where it failed
pub on_failure : {T E P : Type 0} (r : Result T E) → P → OnErr r P
on_failure (Ok x) p = tt
on_failure (Err e) p = p

-- all that waited was written, and then a piece
pub sends_through : (waited piece page : List ℕ) (written written' written'' : Option (List ℕ)) → WritesWaiting waited [] written written' → page ≡ [] → Adds written' written'' piece
    → WritesWaiting (waited ++ piece) page written written''
sends_through waited piece page written written' written'' first empty added =
    subst (λ (p : List ℕ). WritesWaiting (waited ++ piece) p written written'') (sym empty) (sends_more waited [] piece [] written written' written'' first (sends_all piece written' written'' added))

-- the bytes that wait are written at last,
pub sends_whole : (waited between : List ℕ) (written written' written'' : Option (List ℕ)) → WritesWaiting waited between written written' → WritesWaiting between [] written' written'' → Adds written written'' waited
sends_whole waited between written written' written'' first last =
    let all : waited ≡ first.sent ++ last.sent = first.all ∙ ap (λ (bytes : List ℕ). first.sent ++ bytes) (last.all ∙ append-nil last.sent) in
    subst (Adds written written'') (sym all) (Adds-more written written' written'' first.sent last.sent first.added last.added)

-- or are lost
pub loses_last : (waited between : List ℕ) (written written' written'' : Option (List ℕ)) → WritesWaiting waited between written written' → Loses between written' written'' → Loses waited written written''
loses_last waited between written written' written'' first last = record {
  sent = first.sent ++ last.sent;
  lost = last.lost;
  all = first.all ∙ ap (λ (bytes : List ℕ). first.sent ++ bytes) last.all ∙ sym (append_assoc first.sent last.sent last.lost);
  added = Adds-more written written' written'' first.sent last.sent first.added last.added;
}
