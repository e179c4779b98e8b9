-- How keys are sent with their values, and what is written for them.
use Rattle.std.specs.Prelude.{ℕ, List, [], Some}
use Rattle.serde.specs.Event.{Log, Logs, field_key}
use Rattle.serde.specs.declared.name.Case.TheVariants.{AsIs}
use Rattle.serde_json.specs.Data.{Data, object}
use Rattle.serde_json.specs.Events.{SendsValue}
use Rattle.serde_json.specs.Sent.{IsTextOf}
use Rattle.report_lines.specs.JsonLines.{members_in}

-- a value is sent as an object of these pairs
abbrev pub SendsPairs : List (List ℕ × Data) → Log → Log → Type 0
SendsPairs pairs old new = SendsValue (object (members_in pairs)) old new

-- a key is sent with its value
pub record SendsPair (key : List ℕ) (value : Data) (old new : Log) : Type 0 where
  pub named : Log
  pub key_sent : Logs old named (field_key key AsIs)
  pub value_sent : SendsValue value named new

-- the bytes are the JSON in compact form of what is sent
abbrev pub IsJsonOf : (Log → Log → Type 0) → List ℕ → Type 0
IsJsonOf sends bytes = (log : Log) × sends (Some []) log × IsTextOf log bytes
