-- What is left of the entries, one exchange after another.
use Rattle.std.proofs.Common.{◌≡◌, ◌≢◌, ℕ, ◌+◌, ◌<◌, List, [], ◌∷◌, refl, sym, ◌∙◌, arith}
use Rattle.std.proofs.lemmas.Bool.{ne_eqb}
use Rattle.air_events.specs.declared.Entry.{Entry}
use Rattle.air_events.specs.Entries.{Rises, entry_at, no_entry}
use Rattle.air_events.specs.Cursor.{AreEntriesLeft}

-- nothing is said of an exchange before those that are spoken of
entry_at-before : (entries : List (ℕ × Entry)) (before exchange : ℕ) → Rises before entries → exchange < before + 1 → entry_at entries exchange ≡ no_entry
entry_at-before [] before exchange rises low = refl
entry_at-before (entry ∷ entries) before exchange rises low =
    rw (ne_eqb entry.0 exchange (λ e. omega (arith, rises.0))) (entry_at-before entries entry.0 exchange rises.1 (omega (arith, rises.0)))

-- where the first that is left speaks of another exchange, nothing is said of the next one
pub other-entry : (first : ℕ × Entry) (behind entries : List (ℕ × Entry)) (played exchange : ℕ) → AreEntriesLeft (first ∷ behind) entries played →
    first.0 ≢ exchange → exchange ≡ played + 1 → no_entry ≡ entry_at entries exchange
other-entry first behind entries played exchange is other next =
    sym (entry_at-before (first ∷ behind) exchange exchange (omega (arith, is.rises.0), is.rises.1) (omega arith)) ∙ is.same exchange (omega arith)
