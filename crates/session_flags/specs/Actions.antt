-- 6.3.2.11.1.1 Select, the table of the tag's response to Action: one row for each action, from 000 to 111.
use Rattle.std.specs.Prelude.{ℕ, Bool, List, [], ◌∷◌, if◌then◌else◌, slice_index_or}
use Rattle.session_flags.specs.declared.flags.Effect.{Effect}
use Rattle.session_flags.specs.declared.flags.Effect.TheVariants.{Keep, Assert, Deassert, Negate}

-- what an action does to its target at a tag that matches the mask, and at one that doesn't
pub record Row : Type 0 where
  pub matching : Effect
  pub not_matching : Effect

-- a row of the table: what happens where the mask matches, and where it doesn't
abbrev pub action_row : Effect → Effect → Row
action_row matching not_matching = record { matching = matching; not_matching = not_matching }

-- the table, its rows in the order of the actions
abbrev pub action_rows : List Row
action_rows =
    action_row Assert Deassert ∷
    action_row Assert Keep ∷
    action_row Keep Deassert ∷
    action_row Negate Keep ∷
    action_row Deassert Assert ∷
    action_row Deassert Keep ∷
    action_row Keep Assert ∷
    action_row Keep Negate ∷ []

-- no action is 8 or above
abbrev pub action_row_of : ℕ → Row
action_row_of action = slice_index_or action_rows action (action_row Keep Keep)

-- what an action does at a tag that matches the mask or doesn't
abbrev pub effect_of : ℕ → Bool → Effect
effect_of action matching = (if matching then (action_row_of action).matching else (action_row_of action).not_matching)
