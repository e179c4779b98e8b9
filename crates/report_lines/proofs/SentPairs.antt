-- An object was sent, where each of its members was, since the last was.
use Rattle.std.proofs.Common.{ℕ, List, [], ◌∷◌, Some}
use Rattle.std.specs.Prelude.{IsOk, OnOk, Result, Ok, Err}
use Rattle.serde.specs.Event.{Log, Logs, map_begins, map_ends}
use Rattle.serde_json.specs.Data.{Data}
use Rattle.serde_json.specs.Events.{SendsMembers, members_len}
use Rattle.report_lines.specs.JsonLines.{members_in}
use Rattle.report_lines.specs.JsonObject.{SendsPair, SendsPairs}

-- these pairs are sent as the last members of an object, and its end
pub record EndsWith (pairs : List (List ℕ × Data)) (old new : Log) : Type 0 where
  pub sends : SendsMembers (members_in pairs) old new

-- the last member was sent, and the end
pub sent_last : {P : Type 0} {key : List ℕ} {value : Data} {old mid new : Log} → P × SendsPair key value old mid → Logs mid new map_ends → P × EndsWith ((key, value) ∷ []) old new
sent_last {mid = mid} last ends = (last.0, record { sends = (last.1.named, mid, last.1.key_sent, last.1.value_sent, ends) })

-- a member was sent before those, since the first of them was
pub sent_before : {T E P : Type 0} {key : List ℕ} {value : Data} {pairs : List (List ℕ × Data)} {old mid new : Log} (r : Result T E)
    → OnOk r (P × SendsPair key value old mid) → IsOk r × EndsWith pairs mid new → P × EndsWith ((key, value) ∷ pairs) old new
sent_before {mid = mid} (Ok done) sent others = (sent.0, record { sends = (sent.1.named, mid, sent.1.key_sent, sent.1.value_sent, others.1.sends) })
sent_before (Err error) sent others = let is = others.0 in absurd (cc)

-- an object was begun before its members
pub sent_object : {T E : Type 0} (pairs : List (List ℕ × Data)) (old first new : Log) (r : Result T E)
    → OnOk r (Logs old first (map_begins (Some (members_len (members_in pairs))))) → IsOk r × EndsWith pairs first new → SendsPairs pairs old new
sent_object pairs old first new (Ok done) begun members = (first, begun, members.1.sends)
sent_object pairs old first new (Err error) begun members = let is = members.0 in absurd (cc)
