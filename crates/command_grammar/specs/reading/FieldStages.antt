-- Profile: a field of which some bits were read, and what reading gives from there for the bits that are still to come.
use Rattle.std.specs.Prelude.{ℕ, zero, suc, ◌+◌, Bool, List, [], ◌∷◌, ◌++◌, length, Option, Some, None, Ok, Err, ◌==◌, if◌then◌else◌}
use Rattle.command_grammar.specs.declared.reader.fields.Fields.{Fields}
use Rattle.command_grammar.specs.reading.Readers.{Reading, ◌>>=◌, bit_at, reading_bits, reading_number, Choice, child, next_at, m_values, sel_values, query_target_values, updn_values, select_target_values, mask_bank_values, bank_values, words_at, ebv_at, Bad}
use Rattle.command_grammar.specs.declared.reader.field_in_progress.BitField.{BitField}
use Rattle.command_grammar.specs.declared.reader.field_in_progress.BitField.TheVariants as bit_fields
use Rattle.command_grammar.specs.declared.reader.field_in_progress.PairField.{PairField}
use Rattle.command_grammar.specs.declared.reader.field_in_progress.PairField.TheVariants as pair_fields
use Rattle.command_grammar.specs.declared.reader.field_in_progress.TripleField.{TripleField}
use Rattle.command_grammar.specs.declared.reader.field_in_progress.TripleField.TheVariants as triple_fields
use Rattle.command_grammar.specs.declared.reader.field_in_progress.TripleFront.{TripleFront}
use Rattle.command_grammar.specs.declared.reader.field_in_progress.TripleFront.TheVariants.{Nothing, One, Two}
use Rattle.command_grammar.specs.declared.reader.field_in_progress.NumberField.{NumberField}
use Rattle.command_grammar.specs.declared.reader.field_in_progress.NumberField.TheVariants as number_fields
use Rattle.command_grammar.specs.declared.reader.field_in_progress.Stage.{Stage}
use Rattle.command_grammar.specs.declared.reader.field_in_progress.Stage.TheVariants as stages
use Rattle.command_grammar.specs.declared.reader.field_in_progress.Next.{Next}
use Rattle.command_grammar.specs.declared.reader.field_in_progress.Next.TheVariants as next
use Rattle.command_grammar.specs.declared.refusal.Reason.TheVariants as reasons

-- what the first bit of two leaves of a choice, where it was read
abbrev pub behind_first : {A : Type 0} → Choice A → Option Bool → Choice A
behind_first t None = t
behind_first t (Some first) = child t first

-- what the bits of three that were read leave of a choice
abbrev pub behind_front : {A : Type 0} → Choice A → TripleFront → Choice A
behind_front t Nothing = t
behind_front t (One first) = child t first
behind_front t (Two first second) = child (child t first) second

-- how many bits a number has
abbrev pub width_of : NumberField → ℕ
width_of number_fields.Session = 2
width_of number_fields.Q = 4
width_of number_fields.Action = 3
width_of number_fields.Count = 8
width_of number_fields.WordCount = 8
width_of number_fields.Covered = 16
width_of number_fields.Payload = 20
width_of number_fields.Rn = 16
width_of number_fields.MaskLength = 8
width_of number_fields.WordsLength = 8
width_of (number_fields.FirstWord left) = 16
width_of (number_fields.Word left) = 16

-- a mask: how many bits come behind the next one, and the bits read
abbrev pub mask_from : ℕ → List Bool → List Bool → Reading (List Bool)
mask_from zero mask bits = bit_at bits >>= λ next. Ok (mask ++ next.0 ∷ [], next.1)
mask_from (suc behind) mask bits = bit_at bits >>= λ next. mask_from behind (mask ++ next.0 ∷ []) next.1

-- an extensible bit vector of which these bits were read, and at least one is still to come
abbrev pub ebv_from : List Bool → List Bool → Reading ℕ
ebv_from front bits = bit_at bits >>= λ next. ebv_at (front ++ next.0 ∷ next.1)

-- reads a field of one bit, and sets its value in the fields of the command
abbrev pub bit_from : BitField → Fields → List Bool → Reading Fields
bit_from bit_fields.Dr v bits = bit_at bits >>= λ x. Ok (record v { dr = x.0 }, x.1)
bit_from bit_fields.TRext v bits = bit_at bits >>= λ x. Ok (record v { trext = x.0 }, x.1)
bit_from bit_fields.QueryTarget v bits = next_at query_target_values reasons.Code bits >>= λ x. Ok (record v { query_target = x.0 }, x.1)

-- a field of two bits
abbrev pub pair_from : PairField → Option Bool → Fields → List Bool → Reading Fields
pair_from pair_fields.M first v bits = next_at (behind_first m_values first) reasons.Code bits >>= λ x. Ok (record v { m = x.0 }, x.1)
pair_from pair_fields.Sel first v bits = next_at (behind_first sel_values first) reasons.Code bits >>= λ x. Ok (record v { sel = x.0 }, x.1)
pair_from pair_fields.Bank first v bits = next_at (behind_first bank_values first) reasons.Code bits >>= λ x. Ok (record v { bank = x.0 }, x.1)
pair_from pair_fields.MaskBank first v bits = next_at (behind_first mask_bank_values first) reasons.Bank bits >>= λ x. Ok (record v { mask_bank = x.0 }, x.1)

-- a field of three bits
abbrev pub triple_from : TripleField → TripleFront → Fields → List Bool → Reading Fields
triple_from triple_fields.UpDn front v bits = next_at (behind_front updn_values front) reasons.UpDn bits >>= λ x. Ok (record v { updn = x.0 }, x.1)
triple_from triple_fields.SelectTarget front v bits = next_at (behind_front select_target_values front) reasons.Target bits >>= λ x. Ok (record v { select_target = x.0 }, x.1)

-- reads the words of a BlockWrite that follow a word, where so many are left
abbrev pub words_then : ℕ → Fields → List Bool → Reading Fields
words_then left v bits = words_at left bits >>= λ x. Ok (record v { words = v.words ++ x.0 }, x.1)

-- what follows the number of a field
abbrev pub number_then : NumberField → ℕ → Fields → List Bool → Reading Fields
number_then number_fields.Session n v bits = Ok (record v { session = n }, bits)
number_then number_fields.Q n v bits = Ok (record v { q = n }, bits)
number_then number_fields.Action n v bits = Ok (record v { action = n }, bits)
number_then number_fields.Count n v bits = Ok (record v { count = n }, bits)
number_then number_fields.WordCount n v bits = if n == 0 then Err (Bad (length bits + 1) reasons.Count) else Ok (record v { word_count = n }, bits)
number_then number_fields.Covered n v bits = Ok (record v { covered = n }, bits)
number_then number_fields.Payload n v bits = Ok (record v { payload = n }, bits)
number_then number_fields.Rn n v bits = Ok (record v { rn = n }, bits)
number_then number_fields.MaskLength n v bits = reading_bits n bits >>= λ x. Ok (record v { mask = x.0 }, x.1)
number_then number_fields.WordsLength n v bits = if n == 0 then Err (Bad (length bits + 1) reasons.Count) else words_at n bits >>= λ x. Ok (record v { words = x.0 }, x.1)
number_then (number_fields.FirstWord left) n v bits = words_at left bits >>= λ x. Ok (record v { words = n ∷ x.0 }, x.1)
number_then (number_fields.Word left) n v bits = words_at left bits >>= λ x. Ok (record v { words = v.words ++ n ∷ x.0 }, x.1)

-- the field that is being read, from its next bit on
abbrev pub stage_from : Stage → Fields → List Bool → Reading Fields
stage_from (stages.Bit field) v bits = bit_from field v bits
stage_from (stages.Pair field first) v bits = pair_from field first v bits
stage_from (stages.Triple field front) v bits = triple_from field front v bits
stage_from (stages.Number field) v bits = reading_number (width_of field) bits >>= λ n. number_then field n.0 v n.1
stage_from (stages.Ebv front) v bits = ebv_from front bits >>= λ x. Ok (record v { pointer = x.0 }, x.1)
stage_from (stages.Mask behind) v bits = mask_from behind v.mask bits >>= λ x. Ok (record v { mask = x.0 }, x.1)

-- what follows a bit of a field
abbrev pub next_from : Next → Fields → List Bool → Reading Fields
next_from (next.Stay stage) v bits = stage_from stage v bits
next_from next.Done v bits = Ok (v, bits)
next_from (next.Refused reason) v bits = Err (Bad (length bits + 1) reason)
