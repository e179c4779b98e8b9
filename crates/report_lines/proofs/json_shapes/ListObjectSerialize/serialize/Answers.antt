use Rattle.std.proofs.lemmas.Result.{on_ok_weaker}
use Rattle.report_lines.specs.JsonLines.{list_pairs}
use Rattle.report_lines.proofs.SentPairs.{sent_before, sent_last, sent_object}
use Rattle.report_lines.proofs.json_shapes.ListObjectSerialize.serialize.Goals as goal

pub returns : goal.returns
returns g c =
    let log = g.S.Serializer.written in
    let it = c.args.self.now in
    on_ok_weaker c.end_map.result (λ ends.
    sent_object (list_pairs it.epc.now it.pc.now it.round it.slot) (log c.args.out.now) _ (log c.end_map.new.self) c.begin_map-sent.result c.begin_map-sent.ensures
    (sent_before c.send_text-sent.result c.send_text-sent.ensures
    (sent_before c.send_text-sent-2.result c.send_text-sent-2.ensures
    (sent_before c.send_text-sent-3.result c.send_text-sent-3.ensures
    (sent_before c.send_count-sent.result c.send_count-sent.ensures
    (sent_last c.in_ok-sent.ensures ends))))))
    c.end_map.ensures
