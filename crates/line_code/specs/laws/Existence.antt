-- That each list of levels has an answer.
use Rattle.std.proofs.Common.{◌≡◌, ◌≢◌, ◌≤◌, ◌<◌, ℕ, zero, suc, ◌+◌, ◌⊎◌, inl, inr, ◌↔◌, Bool, true, false, ◌&&◌, List, [], ◌∷◌, ◌++◌, length, take, get_or, Option, Some, None, IsTrue, slice_get, Result, Ok, Err, refl, sym, ap, ◌∙◌, subst, arith, add-one}
use mathlib.Core.Bool.{beq}
use Rattle.std.proofs.lemmas.Bool.{cases_lt, cases_eq, both_ways, and_parts, and_from}
use Rattle.std.proofs.lemmas.List.{take_all, take_more, nil_from_length}
use Rattle.std.proofs.lemmas.Option.{slice_get-get_or, same_Some}
use Rattle.bit_strings.specs.Family.{IsBadAt}
use Rattle.line_code.specs.Table.{Table}
use Rattle.line_code.specs.Stream.{Streams}
use Rattle.line_code.specs.TableFacts.{IsEven, TellsBits, CodeTable}
use Rattle.line_code.specs.States.{SeekingValue, InsideValue, Seeks, Reads, fits_of}
use Rattle.line_code.specs.Answer.{IsStreamAnswer}
use Rattle.line_code.specs.declared.refusal.LineRefusal.{LineRefusal}
use Rattle.line_code.specs.declared.refusal.LineRefusal.TheVariants.{Invalid, Unfinished}
use Rattle.line_code.specs.laws.Lead.{seeks_more, seeks_size, seeks_bad, seeks_short, lead_all}
use Rattle.line_code.specs.laws.Reading.{BlockGoesOn, EndsBlock, reads_none, reads_bad, reads_more, reads_bit, reads_short, reads_whole, further, behind, behind_lead}
use Rattle.line_code.specs.laws.LevelTests.{each_bit, chosen}
use Rattle.bit_strings.specs.laws.Family.{bad-in_front}

-- how far the levels go: some level of the whole list is refused, or those so far are in the lead, or in the data
pub data Progress (t : Table) (trext : Bool) (levels front : List Bool) : Type 0 where
  stopped : (place : ℕ) → IsBadAt (Streams t trext) levels place → Progress t trext levels front
  seeking : (state : SeekingValue) → Seeks t trext state front → Progress t trext levels front
  inside : (state : InsideValue) (bits : List Bool) → Reads t trext state front bits → Progress t trext levels front

pub level_cases : (levels : List Bool) (at : ℕ) (level : Bool) → at < length levels → (slice_get levels at ≡ Some level) ⊎ (slice_get levels at ≢ Some level)
level_cases levels at level within = same (get_or levels at false) level (slice_get-get_or levels at false within)
  where
    same : (x y : Bool) → slice_get levels at ≡ Some x → (slice_get levels at ≡ Some y) ⊎ (slice_get levels at ≢ Some y)
    same true true e = inl e
    same false false e = inl e
    same true false e = inr (λ f. let h : true ≡ false = same_Some true false (sym e ∙ f) in cc)
    same false true e = inr (λ f. let h : false ≡ true = same_Some false true (sym e ∙ f) in cc)

-- before the first level
pub starts : (code : CodeTable) (trext : Bool) (levels : List Bool) → Progress code.table trext levels []
starts code trext levels =
    let t = code.table in
    elim (cases_lt 0 (length (t.lead trext))) [
      | inl some ↦ seeking (record { trext = trext; taken = 0 }) (record { trext_is = refl; levels_are = refl; inside = some })
      | inr none ↦
          let empty : t.lead trext ≡ [] = nil_from_length (t.lead trext) (omega arith) in
          let P : List Bool → Type 0 = λ ls. Reads t trext (behind_lead t 0) ls [] in
          inside (behind_lead t 0) [] (subst P empty (reads_none code trext 0 (sym (ap length empty))))
    ]

-- the list of levels begins with so many, which are the front and one more
pub record OneMore (levels front : List Bool) (level : Bool) : Type 0 where
  pub count : ℕ
  pub begins : front ++ level ∷ [] ≡ take count levels

-- one level more in the lead
pub seeks_on : (code : CodeTable) (trext : Bool) (levels front : List Bool) (level : Bool) → OneMore levels front level
    → (state : SeekingValue) → Seeks code.table trext state front → Progress code.table trext levels (front ++ level ∷ [])
seeks_on code trext levels front level more state s =
    let t = code.table in
    elim (level_cases (t.lead trext) state.taken level s.inside) [
      | inr other ↦
          let size = seeks_size t trext state front s in
          let bad = seeks_bad t trext state front level s other state.taken size in
          stopped state.taken (bad-in_front (Streams t trext) levels more.count state.taken (rw (← more.begins) bad))
      | inl at ↦ elim (cases_lt (state.taken + 1) (length (t.lead trext))) [
        | inl within ↦
            seeking (record { trext = state.trext; taken = state.taken + 1 }) (record { trext_is = s.trext_is; levels_are = seeks_more t trext state front level s at; inside = within })
        | inr last ↦
            let begun = s.inside in
            let end : state.taken + 1 ≡ length (t.lead trext) = omega arith in
            let all = lead_all t trext state front level s at end in
            let next = behind_lead t (state.taken + 1) in
            let P : List Bool → Type 0 = λ ls. Reads t trext next ls [] in
            inside next [] (subst P (sym all) (reads_none code trext (state.taken + 1) end))
      ]
    ]

-- whether a bit still fits with one level more
pub fits_more : (fits : Bool) (block : List Bool) (place : ℕ) (level : Bool) → place < length block
    → IsTrue (fits && beq (get_or block place false) level) ↔ (IsTrue fits × (slice_get block place ≡ Some level))
fits_more fits block place level within = (
  λ h. let both = and_parts fits (beq (get_or block place false) level) h in (both.0, slice_get-get_or block place false within ∙ ap Some (equal (get_or block place false) level both.1)),
  λ (f, at). and_from fits (beq (get_or block place false) level) f (equals (get_or block place false) level (same_Some (get_or block place false) level (sym (slice_get-get_or block place false within) ∙ at))),
)
  where
    equal : (x y : Bool) → beq x y ≡ true → x ≡ y
    equal true true e = refl
    equal false false e = refl
    equal true false e = cc
    equal false true e = cc

    equals : (x y : Bool) → x ≡ y → beq x y ≡ true
    equals true true e = refl
    equals false false e = refl
    equals true false e = cc
    equals false true e = cc

pub either : (z o : Bool) → (((z ≡ false) × (o ≡ true)) ⊎ (z ≡ true)) ⊎ ((z ≡ false) × (o ≡ false))
either true o = inl (inr refl)
either false true = inl (inl (refl, refl))
either false false = inr (refl, refl)

-- one level more in the data
pub reads_on : (code : CodeTable) (trext : Bool) (levels front : List Bool) (level : Bool) → OneMore levels front level
    → (state : InsideValue) (bits : List Bool) → Reads code.table trext state front bits → Progress code.table trext levels (front ++ level ∷ [])
reads_on code trext levels front level more state bits r =
    let t = code.table in
    let z = state.zero_fits && beq (get_or (t.block state.context false) state.place false) level in
    let o = state.one_fits && beq (get_or (t.block state.context true) state.place false) level in
    let at_false = fits_more state.zero_fits (t.block state.context false) state.place level (r.begun false) in
    let at_true = fits_more state.one_fits (t.block state.context true) state.place level (r.begun true) in
    let Agrees : Bool → Type 0 = λ bit. IsTrue (fits_of (further state z o) bit) ↔ (IsTrue (fits_of state bit) × (slice_get (t.block state.context bit) state.place ≡ Some level)) in
    let Fails : Bool → Type 0 = λ bit. IsTrue (fits_of state bit) → slice_get (t.block state.context bit) state.place ≢ Some level in
    let Holds : Bool → Type 0 = λ bit. IsTrue (fits_of state bit) × (slice_get (t.block state.context bit) state.place ≡ Some level) in
    elim (either z o) [
      | inr none ↦
          let bad = reads_bad code trext state front bits level r
          (each_bit Fails (λ f at. both_ways z none.0 (at_false.1 (f, at))) (λ f at. both_ways o none.1 (at_true.1 (f, at)))) in
          stopped state.taken (bad-in_front (Streams t trext) levels more.count state.taken (rw (← more.begins) bad))
      | inl some ↦ elim (cases_lt (state.place + 1) code.chips) [
        | inl within ↦
            let Fits : Type 0 = (bit : Bool) × IsTrue (fits_of (further state z o) bit) in
            let fits : Fits = elim some [ inl both ↦ (true, both.1) | inr one ↦ (false, one) ] in
            let on : BlockGoesOn t state level =
            record {
              zero_fits = z;
              one_fits = o;
              begun = λ bit. let size = code.even.blocks_even state.context bit in omega arith;
              fits_is = each_bit Agrees at_false at_true;
              some_bit = fits.0;
              some_fits = fits.1;
            } in
            inside (further state z o) bits (reads_more t trext state front bits level r on)
        | inr last ↦
            let holds = chosen z o some Holds at_false.0 at_true.0 in
            let size = code.even.blocks_even state.context o in
            let begun = r.begun o in
            let ends : EndsBlock t state o level = record { fits = holds.0; level_is = holds.1; last = omega arith } in
            inside (behind t state o) (bits ++ o ∷ []) (reads_bit code trext state front bits o level r ends)
      ]
    ]

pub steps : (code : CodeTable) (trext : Bool) (levels front : List Bool) (level : Bool) → OneMore levels front level
    → Progress code.table trext levels front → Progress code.table trext levels (front ++ level ∷ [])
steps code trext levels front level more (stopped place bad) = stopped place bad
steps code trext levels front level more (seeking state s) = seeks_on code trext levels front level more state s
steps code trext levels front level more (inside state bits r) = reads_on code trext levels front level more state bits r

pub goes : (code : CodeTable) (trext : Bool) (levels : List Bool) (n : ℕ) → n ≤ length levels → Progress code.table trext levels (take n levels)
goes code trext levels zero l = starts code trext levels
goes code trext levels (suc n) l =
    let P : List Bool → Type 0 = λ ls. Progress code.table trext levels ls in
    let more : OneMore levels (take n levels) (get_or levels n false) = record { count = n + 1; begins = sym (take_more levels n false (omega arith)) } in
    let next : Progress code.table trext levels (take (n + 1) levels) =
    subst P more.begins (steps code trext levels (take n levels) (get_or levels n false) more (goes code trext levels n (omega arith))) in
    rw (← add-one n) next

pub last_cases : (last : Option Bool) → (last ≡ Some true) ⊎ (last ≢ Some true)
last_cases None = inr (λ e. cc)
last_cases (Some true) = inl refl
last_cases (Some false) = inr (λ e. let h : false ≡ true = same_Some false true e in cc)

pub ends : (code : CodeTable) (trext : Bool) (levels : List Bool) → Progress code.table trext levels levels
    → (answer : Result (Unit {0}) LineRefusal) × IsStreamAnswer code.table trext levels answer
ends code trext levels (stopped place bad) = (Err (Invalid place), bad)
ends code trext levels (seeking state s) = (Err (Unfinished state.taken), seeks_short code.table trext state levels s)
ends code trext levels (inside state bits r) =
    elim (cases_eq state.place 0) [
      | inr begun ↦ (Err (Unfinished state.taken), reads_short code trext state levels bits r (λ h. begun h.0))
      | inl whole ↦ elim (last_cases state.last) [
        | inr other ↦ (Err (Unfinished state.taken), reads_short code trext state levels bits r (λ h. other h.1))
        | inl dummy ↦ let f = reads_whole code.table trext state levels bits r whole dummy in (Ok tt, (f.front, f.stream))
      ]
    ]

pub some_answer : (t : Table) (chips : ℕ) → IsEven t chips → TellsBits t → (trext : Bool) (levels : List Bool)
    → (answer : Result (Unit {0}) LineRefusal) × IsStreamAnswer t trext levels answer
some_answer t chips even tells trext levels =
    let code : CodeTable = record { table = t; chips = chips; even = even; tells = tells } in
    let P : List Bool → Type 0 = λ ls. Progress t trext levels ls in
    let all = take_all (length levels) levels (omega arith) in
    ends code trext levels (subst P all (goes code trext levels (length levels) (omega arith)))
