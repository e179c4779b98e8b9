-- The objects of the plain text.
use Rattle.top_call.specs.words.Objects.{objects_job}
use Rattle.top_call.proofs.Ends.{ends_so}
use Rattle.top_call.proofs.words.objects.write_objects.Goals as goal

pub returns : goal.returns
returns g c = λ bytes writes.
    ends_so (objects_job c.args.set) bytes _ _ _ _ c.write_text.ensures (rw c.as_slice.ensures.value (record { plain = c.args.plain.now; named = writes; objects = c.in_ok-text.ensures }))
