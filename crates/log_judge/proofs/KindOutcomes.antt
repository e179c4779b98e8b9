-- What comes of the words that a tag draws, by what a command does to it, and that Q stays in its range.
use Rattle.std.specs.Prelude.{ℕ, ◌≤◌, List}
use Rattle.reply_grammar.specs.declared.expected.Reply.TheVariants.{Handle}
use Rattle.tag_machine.specs.TagValue.{ArbitrateState, BodyValue}
use Rattle.tag_machine.specs.Answers.{Outcome, silent, plain_answer}
use Rattle.tag_machine.specs.Draws.{draw_of, body_after_draw, begin_reply, enter}
use Rattle.log_judge.specs.laws.Kinds.{reworded, Kind, Settled, Enters, Replies, Gives, count_kind, ArbitrateMove, Stays, Leaves, Counts, HasSmallQ}

-- an outcome of a tag with other words
abbrev pub outcome_reworded : List ℕ → ℕ → Outcome → Outcome
outcome_reworded words place outcome = record {
  tag = record { state = outcome.tag.state; body = reworded words place outcome.tag.body };
  answer = outcome.answer;
}

-- what then comes of these words from a place on
abbrev pub outcome_from : Kind → List ℕ → ℕ → Outcome
outcome_from (Settled outcome) words place = outcome_reworded words place outcome
outcome_from (Enters session q body) words place = enter session q (reworded words place body)
outcome_from (Replies session q body) words place = begin_reply session q (reworded words place body)
outcome_from (Gives state body) words place =
    plain_answer (state (draw_of (reworded words place body))) (body_after_draw (reworded words place body)) (Handle (draw_of (reworded words place body))) 0

-- what a command does to a tag in arbitrate that has this slot
abbrev pub kind_at : ArbitrateMove → ℕ → ℕ → BodyValue → ℕ → Kind
kind_at Stays session q body slot = Settled (silent (ArbitrateState session q slot) body)
kind_at (Leaves kind) session q body slot = kind
kind_at (Counts other) session q body slot = count_kind other q slot body

-- Q stays in its range behind a command of this kind
abbrev pub KeepsSmallQ : Kind → Type 0
KeepsSmallQ (Settled outcome) = HasSmallQ outcome.tag.state
KeepsSmallQ (Enters session q body) = q ≤ 15
KeepsSmallQ (Replies session q body) = q ≤ 15
KeepsSmallQ (Gives state body) = (number : ℕ) → HasSmallQ (state number)
