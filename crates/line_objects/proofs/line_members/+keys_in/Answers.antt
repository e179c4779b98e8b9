-- A word of a later row.
use Rattle.std.proofs.Common.{◌≡◌, ◌≤◌, ◌-◌, ℕ, List, [], ◌∷◌, false, length, get_or, take, drop, map, ap, ◌∙◌, sym, arith}
use Rattle.std.proofs.lemmas.List.{take_all}
use Rattle.std.specs.Prelude.{bytes_eq}
use Rattle.line_objects.specs.LineMembers.{keys_in, row_of}
use Rattle.line_objects.specs.declared.member_names.Key.{Key}
use Rattle.line_objects.specs.declared.line_members.Row.{Row}
use Rattle.line_objects.proofs.line_members.+keys_in.Goals as goal

other_row : (rows : List Row) (word : List ℕ) (others : List Key) (none : Row) → 1 ≤ length rows → bytes_eq word (get_or rows 0 none).0.now ≡ false
    → keys_in (map row_of (take (length rows - 1) (drop 1 rows))) word others ≡ keys_in (map row_of rows) word others
other_row [] word others none some differs = absurd (omega arith)
other_row (row ∷ rows) word others none some differs =
    rw differs (ap (λ (rest : List Row). keys_in (map row_of rest) word others) (take_all (length (row ∷ rows) - 1) rows (omega arith)))

pub returns-else-eq : goal.returns-else-eq
returns-else-eq t c = c.keys_in.ensures ∙ other_row c.args.rows.now c.args.word.now c.args.others.now _ c.in-len1-up.len_at_least (sym c.eq.ensures ∙ c.if-eq.false)
