-- The rx line of a record is read back, so that a line that differs from it in some part is another.
use Rattle.air_audit.proofs.Names.{◌≡◌, ◌≢◌, ◌^◌, ◌<◌, ◌≤◌, ℕ, Bool, List, length, codes, arith, ap, refl, subst, DiffersFirst, rx_parts, AuditReason, text_of, most_rx_levels, RxFields, RxLine}
use Rattle.air_audit.proofs.Names.{report_fields, All-from_recursion, decimal, IsFieldText-binary, fields_come_back, Lacks, fields_of, space}
use Rattle.air_audit.proofs.FirstPart.{none-fails}
use Rattle.air_audit.proofs.SentLines.{number-is}
use Rattle.air_audit.proofs.Spelled.{decimal-lacks}
use Rattle.air_audit.proofs.Words.{word-text}

-- so many replies and these levels in the exchange are within what is read
pub record IsReadable (exchange count : ℕ) (levels : List Bool) : Type 0 where
  pub exchange_small : exchange < 2 ^ 64
  pub count_small : count < 2 ^ 64
  pub few : length levels ≤ most_rx_levels

rx-fields : (exchange count : ℕ) (levels : List Bool) → fields_of (text_of (RxLine exchange count levels)) ≡ report_fields (RxLine exchange count levels)
rx-fields exchange count levels =
    fields_come_back (report_fields (RxLine exchange count levels)) (λ none. cc)
    (All-from_recursion (Lacks space) (report_fields (RxLine exchange count levels)) (
      (word-text 114 (codes "x") refl).no_space,
      (
        decimal-lacks space exchange (omega arith),
        (
          decimal-lacks space count (omega arith),
          ((IsFieldText-binary levels).no_space, tt),
        ),
      ),
    ))

abbrev rx-read : (exchange count : ℕ) (levels : List Bool) → IsReadable exchange count levels → RxFields (text_of (RxLine exchange count levels))
rx-read exchange count levels is = record {
  exchange = decimal exchange;
  count = decimal count;
  levels = levels;
  are = rx-fields exchange count levels;
  number = number-is exchange is.exchange_small;
  count_number = number-is count is.count_small;
  few = is.few;
}

pub rx-differs : (exchange count : ℕ) (levels : List Bool) (line : List ℕ) (reason : AuditReason) → IsReadable exchange count levels
    → DiffersFirst exchange count levels line reason → line ≢ text_of (RxLine exchange count levels)
rx-differs exchange count levels line reason is first same =
    let rx = rx-read exchange count levels is in
    none-fails (rx_parts exchange count levels (text_of (RxLine exchange count levels))) reason
    (ap length (rx-fields exchange count levels), (rx, ((rx, refl), ((rx, refl, refl), ((rx, refl, refl, refl), tt)))))
    (subst (λ (text : List ℕ). DiffersFirst exchange count levels text reason) same first)
