-- What the encoder has written.
use Rattle.std.proofs.Common.{◌≡◌, ℕ, ◌+◌, ◌*◌, ◌≤◌, Bool, List, [], ◌∷◌, ◌++◌, length, take, drop, sym, ap, ◌∙◌, arith, length-append, subst}
use Rattle.std.proofs.lemmas.List.{append-nil, take-take, take-append-drop, drop-take, length-take-le}
use Rattle.bit_strings.specs.BitString.{BitString}
use Rattle.line_code.specs.Table.{Context, Table}
use Rattle.line_code.specs.Stream.{blocks}
use Rattle.line_code.specs.States.{HasBlocks, context_after}
use Rattle.line_code.specs.TableFacts.{CodeTable}
use Rattle.line_code.specs.laws.Reading.{has_more}
use Rattle.line_code.specs.laws.Streams.{length-blocks}

pub capacity_of : (new old : BitString) (items : List Bool) → new ≡ record { items = items; capacity = old.capacity } → new.capacity ≡ old.capacity
capacity_of new old items e = ap (λ (s : BitString). s.capacity) e

-- the block of one bit
pub one_block : (t : Table) (c : Context) (bit : Bool) (block : List Bool) → block ≡ t.block c bit → block ≡ blocks t c (bit ∷ [])
one_block t c bit block is = is ∙ sym (append-nil (t.block c bit))

-- the next bits, so many
pub take_next : (bits : List Bool) (n count : ℕ) → take (n + count) bits ≡ take n bits ++ take count (drop n bits)
take_next bits n count =
    let front = take (n + count) bits in
    sym (take-append-drop n front) ∙ ap (λ ls. ls ++ drop n front) (take-take n (n + count) bits (omega arith)) ∙ ap (λ ls. take n bits ++ ls) (drop-take n count bits)

-- the encoder before each step: behind the lead stand the blocks of the first bits, so many, and the room is as it was
pub record HasWritten (t : Table) (trext : Bool) (bits : List Bool) (n : ℕ) (context : Context) (before out : BitString) : Type 0 where
  pub within : n ≤ length bits
  pub has : HasBlocks t trext context out.items (take n bits)
  pub same : out.capacity ≡ before.capacity

-- how many levels it has
pub written_size : (code : CodeTable) (trext : Bool) (bits : List Bool) (n : ℕ) (context : Context) (before out : BitString)
    → HasWritten code.table trext bits n context before out → length out.items ≡ length (code.table.lead trext) + code.chips * n
written_size code trext bits n context before out is =
    let t = code.table in
    ap length is.has.levels_are ∙ length-append (t.lead trext) (blocks t t.start (take n bits))
    ∙ ap (λ k. length (t.lead trext) + k) (length-blocks t code.chips code.even (take n bits) t.start ∙ ap (λ k. code.chips * k) (length-take-le n bits is.within))

-- the blocks of the next bits go behind those before
pub writes_more : (t : Table) (trext : Bool) (bits : List Bool) (n count : ℕ) (context : Context) (before out new : BitString)
    → HasWritten t trext bits n context before out → n + count ≤ length bits
    → new.items ≡ out.items ++ blocks t context (take count (drop n bits)) → new.capacity ≡ out.capacity
    → HasWritten t trext bits (n + count) (context_after t context (take count (drop n bits))) before new
writes_more t trext bits n count context before out new is within items capacity =
    let more = take count (drop n bits) in
    let P : List Bool → Type 0 = λ ls. HasBlocks t trext (context_after t context more) ls (take (n + count) bits) in
    record {
      within = within;
      has = subst P (sym items) (rw (take_next bits n count) (has_more t trext context out.items (take n bits) more is.has));
      same = capacity ∙ is.same;
    }
