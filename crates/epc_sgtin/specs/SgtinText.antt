-- Profile: how an SGTIN, its words, and refusals of words and texts that have none, are written.
use Rattle.std.specs.Prelude.{ℕ, List, [], ◌∷◌, codes}
use Rattle.text_fields.specs.Lines.{line_with}
use Rattle.text_fields.specs.Hexadecimal.{hex_words}
use Rattle.epc_sgtin.specs.SgtinValue.{SgtinValue}
use Rattle.epc_sgtin.specs.Uri.{uri_of}
use Rattle.epc_sgtin.specs.declared.encoding.EpcFault.{EpcFault}
use Rattle.epc_sgtin.specs.declared.encoding.EpcFault.TheVariants as epc
use Rattle.epc_sgtin.specs.declared.tag_uri.UriFault.{UriFault}
use Rattle.epc_sgtin.specs.declared.tag_uri.UriFault.TheVariants as uri

-- an SGTIN by its URI
abbrev pub name_line : SgtinValue → List ℕ
name_line sgtin = line_with (codes "name" ∷ uri_of sgtin ∷ [])

-- an SGTIN by the words of its EPC
abbrev pub sgtin_words_line : List ℕ → List ℕ
sgtin_words_line words = line_with (codes "sgtin" ∷ hex_words words ∷ [])

-- why words are no SGTIN-96
abbrev pub epc_fault_line : EpcFault → List ℕ
epc_fault_line epc.Length = line_with (codes "refused" ∷ codes "length" ∷ [])
epc_fault_line epc.Header = line_with (codes "refused" ∷ codes "header" ∷ [])
epc_fault_line epc.Partition = line_with (codes "refused" ∷ codes "partition" ∷ [])
epc_fault_line epc.Company = line_with (codes "refused" ∷ codes "company" ∷ [])
epc_fault_line epc.Item = line_with (codes "refused" ∷ codes "item" ∷ [])

-- why a text is no URI of an SGTIN-96
abbrev pub uri_fault_line : UriFault → List ℕ
uri_fault_line uri.Prefix = line_with (codes "refused" ∷ codes "prefix" ∷ [])
uri_fault_line uri.Parts = line_with (codes "refused" ∷ codes "parts" ∷ [])
uri_fault_line uri.Filter = line_with (codes "refused" ∷ codes "filter" ∷ [])
uri_fault_line uri.Company = line_with (codes "refused" ∷ codes "company" ∷ [])
uri_fault_line uri.Item = line_with (codes "refused" ∷ codes "item" ∷ [])
uri_fault_line uri.Serial = line_with (codes "refused" ∷ codes "serial" ∷ [])
