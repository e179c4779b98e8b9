use Rattle.line_objects.proofs.ObjectLines.{one_object_more}
use Rattle.line_objects.proofs.objects.objects_of.Goals as goal

pub loop-line-preserved : goal.loop-line-preserved
loop-line-preserved c uris are =
    one_object_more uris c.args.set c.args.plain.now c.loop-line.rest.now c.in-Some.line.now c.in-Some.behind.now c.loop-line.text.items c.push_object.new.text.items
    c.in-Some.ensures.lines (c.in_ok-push_object.ensures uris are) (c.loop-line.invariant uris are)
