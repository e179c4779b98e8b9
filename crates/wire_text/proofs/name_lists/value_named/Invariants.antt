use Rattle.std.proofs.Common.{◌≡◌, length}
use Rattle.wire_text.specs.NameLists.{first_named}
use Rattle.wire_text.proofs.name_lists.value_named.Given as goal

-- no value before the rest has the name
abbrev pub invariant-loop-rest : goal.invariant-loop-rest
invariant-loop-rest g l = record {
  passed : first_named g.T.Named.word l.name g.T.Named.values ≡ first_named g.T.Named.word l.name l.rest;
}

abbrev pub decreases-loop-rest : goal.decreases-loop-rest
decreases-loop-rest g l = length l.rest
