use Rattle.std.proofs.Common.{◌-◌, ◌≤◌}
use Rattle.reply_grammar.specs.laws.Reading.{ReadTo}
use Rattle.reply_grammar.proofs.decode.put_words.Given as goal

abbrev pub invariant-loop-at : goal.invariant-loop-at
invariant-loop-at l =
    ReadTo l.bits.items 1 l.at l.words
    × (l.at ≤ l.end)

abbrev pub decreases-loop-at : goal.decreases-loop-at
decreases-loop-at l = l.end - l.at
