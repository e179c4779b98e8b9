-- Profile: the lines of a frame that was sent and of what came back, as they are read.
use Rattle.std.proofs.Common.{get_or}
use Rattle.std.specs.Fmt.{decimal}
use Rattle.std.specs.Prelude.{◌≡◌, ◌≢◌, ◌⊎◌, ℕ, ◌+◌, ◌≤◌, Bool, All, List, [], ◌∷◌, codes, length, map}
use Rattle.pie_line.specs.Pie.{longest_interval}
use Rattle.text_fields.specs.Binary.{binary}
use Rattle.text_fields.specs.Lines.{fields_of, line_with}
use Rattle.text_fields.specs.declared.fields_fault.FieldsFault.{FieldsFault}
use Rattle.text_fields.specs.declared.fields_fault.FieldsFault.TheVariants.{Word, Shape, Number}
use Rattle.report_lines.specs.ReportLine.{ReportLine, report_fields}

-- how many intervals a tx line has at most, and how many levels an rx line
abbrev pub most_tx_intervals : ℕ
most_tx_intervals = 20000

abbrev pub most_rx_levels : ℕ
most_rx_levels = 132000

-- a line without its line feed
abbrev pub text_of : ReportLine → List ℕ
text_of line = line_with (report_fields line)

-- the first field of a line of a trace: the word that the line begins with
abbrev pub first_field : List ℕ → List ℕ
first_field line = get_or (fields_of line) 0 []

-- decimal digits, however many there are, without leading zeros
pub record IsDecimal (text : List ℕ) : Type 0 where
  pub some : text ≢ []
  pub digits : All (λ digit. (48 ≤ digit) × (digit ≤ 57)) text
  pub no_zeros : (text ≡ codes "0") ⊎ (get_or text 0 48 ≢ 48)

-- the fields of a tx line are of their forms: the number of the exchange, and intervals in nanoseconds
pub record TxFields (line : List ℕ) : Type 0 where
  pub exchange : List ℕ
  pub intervals : List ℕ
  pub are : fields_of line ≡ codes "tx" ∷ exchange ∷ map decimal intervals
  pub number : IsDecimal exchange
  pub some : 1 ≤ length intervals
  pub few : length intervals ≤ most_tx_intervals
  pub short : All (λ interval. interval ≤ longest_interval) intervals

-- the fields of an rx line are of their forms: the number of the exchange, how many tags replied, and the levels that came
pub record RxFields (line : List ℕ) : Type 0 where
  pub exchange : List ℕ
  pub count : List ℕ
  pub levels : List Bool
  pub are : fields_of line ≡ codes "rx" ∷ exchange ∷ count ∷ binary levels ∷ []
  pub number : IsDecimal exchange
  pub count_number : IsDecimal count
  pub few : length levels ≤ most_rx_levels

-- a tx line has its word, the number of the exchange and the intervals
abbrev pub HasTxShape : List ℕ → Type 0
HasTxShape line = (3 ≤ length (fields_of line)) × (length (fields_of line) ≤ most_tx_intervals + 2)

-- an rx line has its word, the number of the exchange, the count and the levels
abbrev pub HasRxShape : List ℕ → Type 0
HasRxShape line = length (fields_of line) ≡ 4

-- the first reason for which a line is no tx line
abbrev pub IsNoTx : List ℕ → FieldsFault → Type 0
IsNoTx line Word = first_field line ≢ codes "tx"
IsNoTx line Shape = (first_field line ≡ codes "tx") × (¬ HasTxShape line)
IsNoTx line Number = (first_field line ≡ codes "tx") × HasTxShape line × (¬ TxFields line)

-- the first reason for which a line is no rx line
abbrev pub IsNoRx : List ℕ → FieldsFault → Type 0
IsNoRx line Word = first_field line ≢ codes "rx"
IsNoRx line Shape = (first_field line ≡ codes "rx") × (¬ HasRxShape line)
IsNoRx line Number = (first_field line ≡ codes "rx") × HasRxShape line × (¬ RxFields line)
