use Rattle.std.proofs.Common.{◌≡◌, ◌∙◌, ℕ, List, ap, length, sym, subst, Some}
use Rattle.std.proofs.lemmas.Result.{on_ok_weaker}
use Rattle.serde.specs.Event.{Logs, map_begins}
use Rattle.serde_json.specs.Events.{SendsMembers, members_len}
use Rattle.report_lines.specs.JsonLines.{members_in}
use Rattle.line_objects.specs.Members.{pairs_of}
use Rattle.line_objects.specs.declared.members.Member.{Member}
use Rattle.line_objects.proofs.SentMembers.{members_counted}
use Rattle.line_objects.proofs.members.ObjectSerialize.serialize.Goals as goal

pub returns : goal.returns
returns g c =
    let log = g.S.Serializer.written in
    let members = c.args.self.now.members.items in
    let count : c.len.result ≡ members_len (members_in (pairs_of members)) =
    c.len.ensures ∙ sym c.as_slice.ensures.len ∙ ap length c.as_slice.ensures.value ∙ members_counted members in
    let begins = subst (λ (n : ℕ). Logs (log c.args.out.now) (log c.begin_map.new.self) (map_begins (Some n))) count c.in_ok-begin_map.ensures in
    on_ok_weaker c.send_members.result
    (λ sends. (log c.begin_map.new.self, begins, subst (λ (ms : List Member). SendsMembers (members_in (pairs_of ms)) (log c.begin_map.new.self) (log c.send_members.new.out)) c.as_slice.ensures.value sends))
    c.send_members.ensures
