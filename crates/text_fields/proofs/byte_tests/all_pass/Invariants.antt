use Rattle.std.proofs.Common.{◌≡◌, take}
use Rattle.std.specs.List.{list_all}
use Rattle.text_fields.proofs.byte_tests.all_pass.Given as goal

-- whether the bytes so far pass
abbrev pub invariant-loop-byte : goal.invariant-loop-byte
invariant-loop-byte g l = l.pass ≡ list_all g.T.ByteTest.test (take l.byte-index l.bytes)
