-- The objects of lines have simple members.
use Rattle.std.proofs.Common.{◌<◌, ◌^◌, ℕ, List, codes, refl}
use Rattle.std.specs.Str.{IsUtf8}
use Rattle.json.proofs.Printed.Utf8.{IsUtf8-are_ascii}
use Rattle.report_lines.proofs.Members.{AreSimple}
use Rattle.report_lines.specs.JsonLines.{done_pairs, list_pairs, op_pairs, round_pairs, seen_pairs, tag_pairs}

pub list_simple : (epc pc : List ℕ) (round slot : ℕ) → IsUtf8 epc → IsUtf8 pc → round < 2 ^ 64 → slot < 2 ^ 64 → AreSimple (list_pairs epc pc round slot)
list_simple epc pc round slot epc_is pc_is round_fits slot_fits = (refl, epc_is, (refl, IsUtf8-are_ascii (codes "list") refl, (refl, pc_is, (refl, round_fits, (refl, slot_fits, tt)))))

pub op_simple : (index : ℕ) (result : List ℕ) (round slot : ℕ) (value : List ℕ) → index < 2 ^ 64 → IsUtf8 result → round < 2 ^ 64 → slot < 2 ^ 64 → IsUtf8 value
    → AreSimple (op_pairs index result round slot value)
op_simple index result round slot value index_fits result_is round_fits slot_fits value_is =
    (refl, index_fits, (refl, IsUtf8-are_ascii (codes "op") refl, (refl, result_is, (refl, round_fits, (refl, slot_fits, (refl, value_is, tt))))))

pub round_simple : (end : List ℕ) (round slots : ℕ) → IsUtf8 end → round < 2 ^ 64 → slots < 2 ^ 64 → AreSimple (round_pairs end round slots)
round_simple end round slots end_is round_fits slots_fit = (refl, end_is, (refl, IsUtf8-are_ascii (codes "round") refl, (refl, round_fits, (refl, slots_fit, tt))))

pub seen_simple : (count : ℕ) (epc pc : List ℕ) → count < 2 ^ 64 → IsUtf8 epc → IsUtf8 pc → AreSimple (seen_pairs count epc pc)
seen_simple count epc pc count_fits epc_is pc_is = (refl, count_fits, (refl, epc_is, (refl, IsUtf8-are_ascii (codes "seen") refl, (refl, pc_is, tt))))

pub tag_simple : (epc flags locks : List ℕ) (number : ℕ) (reserved state tid user : List ℕ) → IsUtf8 epc → IsUtf8 flags → IsUtf8 locks → number < 2 ^ 64 → IsUtf8 reserved
    → IsUtf8 state → IsUtf8 tid → IsUtf8 user → AreSimple (tag_pairs epc flags locks number reserved state tid user)
tag_simple epc flags locks number reserved state tid user epc_is flags_are locks_are fits reserved_is state_is tid_is user_is = (
  refl,
  epc_is,
  (
    refl,
    flags_are,
    (
      refl,
      IsUtf8-are_ascii (codes "tag") refl,
      (refl, locks_are, (refl, fits, (refl, reserved_is, (refl, state_is, (refl, tid_is, (refl, user_is, tt)))))),
    ),
  ),
)

pub done_simple : AreSimple done_pairs
done_simple = (refl, IsUtf8-are_ascii (codes "done") refl, tt)
