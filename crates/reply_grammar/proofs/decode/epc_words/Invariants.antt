use Rattle.std.proofs.Common.{◌-◌, ◌≤◌}
use Rattle.reply_grammar.specs.laws.Reading.{ReadTo}
use Rattle.reply_grammar.proofs.decode.epc_words.Given as goal

abbrev pub invariant-loop-at : goal.invariant-loop-at
invariant-loop-at l =
    ReadTo l.bits.items 16 l.at l.words
    × (l.at ≤ l.end)

abbrev pub decreases-loop-at : goal.decreases-loop-at
decreases-loop-at l = l.end - l.at
