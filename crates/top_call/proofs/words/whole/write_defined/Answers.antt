-- The words that read nothing write the same for any bytes.
use Rattle.top_call.proofs.words.whole.write_defined.Goals as goal

pub returns-in-Gen-clause-ends : goal.returns-in-Gen-clause-ends
returns-in-Gen-clause-ends g c = rw c.in-Gen.is (c.write_summary.ensures c.args.input.now)

pub returns-in-Help-clause-ends : goal.returns-in-Help-clause-ends
returns-in-Help-clause-ends g c = rw c.in-Help.is (rw (c.as_bytes.ensures.value, c.help_text.ensures.text) at (c.write_own_text.ensures c.args.input.now))

pub returns-in-Version-clause-ends : goal.returns-in-Version-clause-ends
returns-in-Version-clause-ends g c =
    rw c.in-Version.is (rw (c.as_bytes-in-Version.ensures.value, c.version_text.ensures.text) at (c.write_own_text-in-Version.ensures c.args.input.now))
