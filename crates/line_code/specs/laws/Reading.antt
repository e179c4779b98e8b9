-- What one more level does to what the decoder in the data has read.
use Rattle.std.proofs.Common.{◌≡◌, ◌≢◌, ℕ, ◌+◌, ◌<◌, ◌↔◌, Bool, true, false, List, [], ◌∷◌, ◌++◌, length, take, drop, Option, Some, None, IsTrue, slice_get, refl, sym, ap, ◌∙◌, arith, append_assoc, length-append}
use Rattle.std.proofs.lemmas.List.{append_cancel_left, append-nil, nil_from_length, same_from_push, take_all, take-append-drop, take_at}
use Rattle.bit_strings.specs.Family.{Begins, IsBadAt, IsShortAt}
use Rattle.line_code.specs.Table.{Context, Table}
use Rattle.line_code.specs.Stream.{blocks, IsStream, Streams}
use Rattle.line_code.specs.States.{InsideValue, context_after, fits_of, LastIs, Reads, HasBlocks}
use Rattle.line_code.specs.TableFacts.{CodeTable}
use Rattle.line_code.specs.laws.Streams.{blocks_split}
use Rattle.line_code.specs.laws.Splits.{blocks-append, context_after-append, context_after-push, front_of, front_more}

-- what stands behind the blocks read, where the levels and more are a stream
pub record Rest (t : Table) (context : Context) (bits part more : List Bool) : Type 0 where
  pub all : List Bool
  pub others : List Bool
  pub bits_are : all ++ true ∷ [] ≡ bits ++ others
  pub blocks_are : part ++ more ≡ blocks t context others

pub rest_of : (code : CodeTable) (trext : Bool) (state : InsideValue) (levels bits more : List Bool)
    → (r : Reads code.table trext state levels bits) → Streams code.table trext (levels ++ more) → Rest code.table state.context bits r.part more
rest_of code trext state levels bits more r (all, e) =
    let t = code.table in
    let lead = t.lead trext in
    let before = blocks t t.start bits in
    let joined : lead ++ (before ++ (r.part ++ more)) ≡ lead ++ blocks t t.start (all ++ true ∷ []) =
    sym (append_assoc lead before (r.part ++ more)) ∙ sym (append_assoc (lead ++ before) r.part more)
    ∙ ap (λ ls. ls ++ more) (append_assoc lead before r.part ∙ sym r.levels_are) ∙ e in
    let behind = append_cancel_left lead (before ++ (r.part ++ more)) (blocks t t.start (all ++ true ∷ [])) joined in
    let split = blocks_split t code.chips code.even code.tells bits (all ++ true ∷ []) (r.part ++ more) t.start behind in
    record { all = all; others = split.0; bits_are = split.1; blocks_are = split.2 ∙ ap (λ c. blocks t c split.0) (sym r.context_is) }

-- the levels begin a stream: that of the bits and a bit that still fits
pub reads_begins : (t : Table) (trext : Bool) (state : InsideValue) (levels bits : List Bool) → Reads t trext state levels bits → Begins (Streams t trext) levels
reads_begins t trext state levels bits r =
    let lead = t.lead trext in
    let before = blocks t t.start bits in
    let bit = r.some_bit in
    let block = t.block state.context bit in
    let dummy = blocks t (t.next state.context bit) (true ∷ []) in
    let more = drop state.place block ++ dummy in
    let front = (r.fits_is bit).0 r.some_fits in
    let whole : r.part ++ more ≡ blocks t (context_after t t.start bits) (bit ∷ true ∷ []) =
    sym (append_assoc r.part (drop state.place block) dummy)
    ∙ ap (λ ls. ls ++ dummy) (ap (λ ls. ls ++ drop state.place block) front ∙ take-append-drop state.place block)
    ∙ ap (λ c. blocks t c (bit ∷ true ∷ [])) r.context_is in
    let stream : levels ++ more ≡ lead ++ blocks t t.start ((bits ++ bit ∷ []) ++ true ∷ []) =
    ap (λ ls. ls ++ more) r.levels_are
    ∙ append_assoc lead (before ++ r.part) more
    ∙ ap (λ ls. lead ++ ls) (append_assoc before r.part more ∙ ap (λ ls. before ++ ls) whole ∙ sym (blocks-append t bits (bit ∷ true ∷ []) t.start)
    ∙ ap (λ bs. blocks t t.start bs) (sym (append_assoc bits (bit ∷ []) (true ∷ [])))) in
    (more, (bits ++ bit ∷ [], stream))

-- where the next level is that of no bit that still fits, the levels with it begin no stream
pub reads_stops : (code : CodeTable) (trext : Bool) (state : InsideValue) (levels bits : List Bool) (level : Bool)
    → Reads code.table trext state levels bits
    → ((bit : Bool) → IsTrue (fits_of state bit) → slice_get (code.table.block state.context bit) state.place ≢ Some level)
    → ¬ Begins (Streams code.table trext) (levels ++ level ∷ [])
reads_stops code trext state levels bits level r none (more, (all, e)) =
    let rest = rest_of code trext state levels bits (level ∷ more) r (all, sym (append_assoc levels (level ∷ []) more) ∙ e) in
    stops rest.others rest.blocks_are
  where
    stops : (others : List Bool) → r.part ++ level ∷ more ≡ blocks code.table state.context others → ⊥
    stops [] f = let sizes = sym (length-append r.part (level ∷ more)) ∙ ap length f in omega arith
    stops (bit ∷ others) f =
        let t = code.table in
        let place = r.place_is in
        let begun = r.begun bit in
        let front = front_of r.part (t.block state.context bit) more (blocks t (t.next state.context bit) others) level (omega arith) f in
        let fits = (r.fits_is bit).1 (front.0 ∙ ap (λ n. take n (t.block state.context bit)) (sym place)) in
        none bit fits (ap (λ n. slice_get (t.block state.context bit) n) place ∙ front.1)

-- the refusal of the next level
pub reads_bad : (code : CodeTable) (trext : Bool) (state : InsideValue) (levels bits : List Bool) (level : Bool)
    → Reads code.table trext state levels bits
    → ((bit : Bool) → IsTrue (fits_of state bit) → slice_get (code.table.block state.context bit) state.place ≢ Some level)
    → IsBadAt (Streams code.table trext) (levels ++ level ∷ []) state.taken
reads_bad code trext state levels bits level r none =
    let size = length-append levels (level ∷ []) in
    let taken = r.taken_is in
    record {
      inside = omega arith;
      begins = rw (take_at levels (level ∷ []) state.taken (sym taken)) (reads_begins code.table trext state levels bits r);
      stops = rw (take_all (state.taken + 1) (levels ++ level ∷ []) (omega arith)) (reads_stops code trext state levels bits level r none);
    }

-- the state after a level that is not its block's last
abbrev pub further : InsideValue → Bool → Bool → InsideValue
further state zero_fits one_fits =
    record { context = state.context; place = state.place + 1; zero_fits = zero_fits; one_fits = one_fits; taken = state.taken + 1; put = state.put; last = state.last }

-- the state after the last level of a bit's block
abbrev pub behind : Table → InsideValue → Bool → InsideValue
behind t state bit =
    record { context = t.next state.context bit; place = 0; zero_fits = true; one_fits = true; taken = state.taken + 1; put = state.put + 1; last = Some bit }

-- the next level is that of some bit that still fits, and the block goes on: which bits fit with the level
pub record BlockGoesOn (t : Table) (state : InsideValue) (level : Bool) : Type 0 where
  pub zero_fits : Bool
  pub one_fits : Bool
  pub begun : (bit : Bool) → state.place + 1 < length (t.block state.context bit)
  pub fits_is : (bit : Bool) → IsTrue (fits_of (further state zero_fits one_fits) bit) ↔ (IsTrue (fits_of state bit) × (slice_get (t.block state.context bit) state.place ≡ Some level))
  pub some_bit : Bool
  pub some_fits : IsTrue (fits_of (further state zero_fits one_fits) some_bit)

pub reads_more : (t : Table) (trext : Bool) (state : InsideValue) (levels bits : List Bool) (level : Bool) → Reads t trext state levels bits
    → (on : BlockGoesOn t state level) → Reads t trext (further state on.zero_fits on.one_fits) (levels ++ level ∷ []) bits
reads_more t trext state levels bits level r on =
    let lead = t.lead trext in
    let before = blocks t t.start bits in
    record {
      part = r.part ++ level ∷ [];
      levels_are = ap (λ ls. ls ++ level ∷ []) r.levels_are ∙ append_assoc lead (before ++ r.part) (level ∷ []) ∙ ap (λ ls. lead ++ ls) (append_assoc before r.part (level ∷ []));
      context_is = r.context_is;
      place_is = let size = length-append r.part (level ∷ []) in let old = r.place_is in omega arith;
      begun = on.begun;
      fits_is = λ bit.
          let more = front_more r.part (t.block state.context bit) level state.place r.place_is (r.begun bit) in
          (λ h. let f = (on.fits_is bit).0 h in more.0 ((r.fits_is bit).0 f.0, f.1), λ h. let f = more.1 h in (on.fits_is bit).1 ((r.fits_is bit).1 f.0, f.1));
      some_bit = on.some_bit;
      some_fits = on.some_fits;
      taken_is = let size = length-append levels (level ∷ []) in let old = r.taken_is in omega arith;
      put_is = r.put_is;
      last_is = r.last_is;
    }

-- before a block each bit fits
pub all_fit : (t : Table) (state : InsideValue) → state.zero_fits ≡ true → state.one_fits ≡ true → state.place ≡ 0
    → (bit : Bool) → IsTrue (fits_of state bit) ↔ ([] ≡ take state.place (t.block state.context bit))
all_fit t state zero_fits one_fits place false = (λ _. rw place refl, λ _. zero_fits)
all_fit t state zero_fits one_fits place true = (λ _. rw place refl, λ _. one_fits)

-- the next level is the last of a bit's block
pub record EndsBlock (t : Table) (state : InsideValue) (bit level : Bool) : Type 0 where
  pub fits : IsTrue (fits_of state bit)
  pub level_is : slice_get (t.block state.context bit) state.place ≡ Some level
  pub last : length (t.block state.context bit) ≡ state.place + 1

pub reads_bit : (code : CodeTable) (trext : Bool) (state : InsideValue) (levels bits : List Bool) (bit level : Bool)
    → Reads code.table trext state levels bits → EndsBlock code.table state bit level
    → Reads code.table trext (behind code.table state bit) (levels ++ level ∷ []) (bits ++ bit ∷ [])
reads_bit code trext state levels bits bit level r ends =
    let t = code.table in
    let last = ends.last in
    let lead = t.lead trext in
    let before = blocks t t.start bits in
    let block = t.block state.context bit in
    let front = (front_more r.part block level state.place r.place_is (r.begun bit)).0 ((r.fits_is bit).0 ends.fits, ends.level_is) in
    let whole : r.part ++ level ∷ [] ≡ block = front ∙ take_all (state.place + 1) block (omega arith) in
    let all : before ++ (r.part ++ level ∷ []) ≡ blocks t t.start (bits ++ bit ∷ []) =
    ap (λ ls. before ++ ls) (whole ∙ sym (append-nil block) ∙ ap (λ c. blocks t c (bit ∷ [])) r.context_is) ∙ sym (blocks-append t bits (bit ∷ []) t.start) in
    record {
      part = [];
      levels_are =
          ap (λ ls. ls ++ level ∷ []) r.levels_are ∙ append_assoc lead (before ++ r.part) (level ∷ [])
          ∙ ap (λ ls. lead ++ ls) (append_assoc before r.part (level ∷ []) ∙ all ∙ sym (append-nil (blocks t t.start (bits ++ bit ∷ []))));
      context_is = ap (λ c. t.next c bit) r.context_is ∙ sym (context_after-push t bits bit t.start);
      place_is = refl;
      begun = λ b. let least = code.even.least in let long = code.even.blocks_even (t.next state.context bit) b in omega arith;
      fits_is = all_fit t (behind t state bit) refl refl refl;
      some_bit = true;
      some_fits = refl;
      taken_is = let more = length-append levels (level ∷ []) in let old = r.taken_is in omega arith;
      put_is = let more = length-append bits (bit ∷ []) in let old = r.put_is in omega arith;
      last_is = (bits, refl);
    }

-- more blocks behind those before
pub has_more : (t : Table) (trext : Bool) (context : Context) (levels bits more : List Bool) → HasBlocks t trext context levels bits
    → HasBlocks t trext (context_after t context more) (levels ++ blocks t context more) (bits ++ more)
has_more t trext context levels bits more h = record {
  levels_are =
      ap (λ ls. ls ++ blocks t context more) h.levels_are ∙ append_assoc (t.lead trext) (blocks t t.start bits) (blocks t context more)
      ∙ ap (λ c. t.lead trext ++ (blocks t t.start bits ++ blocks t c more)) h.context_is ∙ ap (λ ls. t.lead trext ++ ls) (sym (blocks-append t bits more t.start));
  context_is = ap (λ c. context_after t c more) h.context_is ∙ sym (context_after-append t bits more t.start);
}

-- the state between two blocks
abbrev pub between : Context → ℕ → ℕ → Option Bool → InsideValue
between context taken put last = record { context = context; place = 0; zero_fits = true; one_fits = true; taken = taken; put = put; last = last }

pub reads_between : (code : CodeTable) (trext : Bool) (context : Context) (taken put : ℕ) (levels bits : List Bool) (last : Option Bool) → taken ≡ length levels → put ≡ length bits
    → HasBlocks code.table trext context levels bits → LastIs bits last → Reads code.table trext (between context taken put last) levels bits
reads_between code trext context taken put levels bits last taken_is put_is h is =
    let t = code.table in
    record {
      part = [];
      levels_are = h.levels_are ∙ ap (λ ls. t.lead trext ++ ls) (sym (append-nil (blocks t t.start bits)));
      context_is = h.context_is;
      place_is = refl;
      begun = λ b. let least = code.even.least in let long = code.even.blocks_even context b in omega arith;
      fits_is = all_fit t (between context taken put last) refl refl refl;
      some_bit = true;
      some_fits = refl;
      taken_is = taken_is;
      put_is = put_is;
      last_is = is;
    }

-- the state behind the lead
abbrev pub behind_lead : Table → ℕ → InsideValue
behind_lead t taken = between t.start taken 0 None

pub reads_none : (code : CodeTable) (trext : Bool) (taken : ℕ) → taken ≡ length (code.table.lead trext)
    → Reads code.table trext (behind_lead code.table taken) (code.table.lead trext) []
reads_none code trext taken whole =
    let t = code.table in
    let has : HasBlocks t trext t.start (t.lead trext) [] = record { levels_are = sym (append-nil (t.lead trext)); context_is = refl } in
    reads_between code trext t.start taken 0 (t.lead trext) [] None whole refl has refl

-- what the levels are where they are a stream: whole blocks, the last of them the dummy's
pub record Finished (t : Table) (trext : Bool) (levels bits : List Bool) : Type 0 where
  pub front : List Bool
  pub bits_are : bits ≡ front ++ true ∷ []
  pub stream : IsStream t trext front levels

-- the levels are whole blocks, the last of them the dummy's
pub reads_whole : (t : Table) (trext : Bool) (state : InsideValue) (levels bits : List Bool) → Reads t trext state levels bits
    → state.place ≡ 0 → state.last ≡ Some true → Finished t trext levels bits
reads_whole t trext state levels bits r place last =
    let is : LastIs bits (Some true) = rw last at r.last_is in
    let old = r.place_is in
    let none : r.part ≡ [] = nil_from_length r.part (omega arith) in
    record {
      front = is.0;
      bits_are = is.1;
      stream =
          r.levels_are ∙ ap (λ ls. t.lead trext ++ (blocks t t.start bits ++ ls)) none
          ∙ ap (λ ls. t.lead trext ++ ls) (append-nil (blocks t t.start bits) ∙ ap (λ bs. blocks t t.start bs) is.1);
    }

-- the last bit of bits that are not empty
pub last_of_push : (bits front : List Bool) (bit : Bool) (last : Option Bool) → bits ≡ front ++ bit ∷ [] → LastIs bits last → last ≡ Some bit
last_of_push bits front bit None e l = let sizes = length-append front (bit ∷ []) in let none = ap length (sym e ∙ l) in absurd (omega arith)
last_of_push bits front bit (Some b) e l = ap Some (sym (same_from_push front l.0 bit b (sym e ∙ l.1)).1)

-- where the levels are a stream, the block is whole and the last bit is the dummy
pub reads_finished : (code : CodeTable) (trext : Bool) (state : InsideValue) (levels bits : List Bool)
    → Reads code.table trext state levels bits → Streams code.table trext levels → (state.place ≡ 0) × (state.last ≡ Some true)
reads_finished code trext state levels bits r (all, e) =
    let t = code.table in
    let rest = rest_of code trext state levels bits [] r (all, append-nil levels ∙ e) in
    none rest.all rest.others rest.blocks_are rest.bits_are
  where
    none : (ends others : List Bool) → r.part ++ [] ≡ blocks code.table state.context others → ends ++ true ∷ [] ≡ bits ++ others → (state.place ≡ 0) × (state.last ≡ Some true)
    none ends [] f g =
        let size = r.place_is ∙ ap length (sym (append-nil r.part) ∙ f) in
        (size, last_of_push bits ends true state.last (sym (append-nil bits) ∙ sym g) r.last_is)
    none ends (bit ∷ others) f g =
        let begun = r.begun bit in
        let old = r.place_is in
        let left = length-append r.part [] in
        let right = length-append (code.table.block state.context bit) (blocks code.table (code.table.next state.context bit) others) in
        let sizes = ap length f in
        absurd (omega arith)

-- where the levels end in the data, but not behind the whole block of the dummy, they are refused as too short for a stream
pub reads_short : (code : CodeTable) (trext : Bool) (state : InsideValue) (levels bits : List Bool)
    → Reads code.table trext state levels bits → ¬ ((state.place ≡ 0) × (state.last ≡ Some true)) → IsShortAt (Streams code.table trext) levels state.taken
reads_short code trext state levels bits r none =
    record {
      whole = r.taken_is;
      begins = reads_begins code.table trext state levels bits r;
      no_member = λ s. none (reads_finished code trext state levels bits r s);
    }
