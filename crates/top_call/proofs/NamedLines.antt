-- The lines before a place of the input, with their names.
use Rattle.std.proofs.Common.{◌≡◌, ℕ, ◌+◌, ◌≤◌, List, [], ◌∷◌, ◌++◌, length, refl, sym, ◌∙◌, ap, subst, arith, append_assoc, length-append, Option, inl, inr}
use Rattle.std.specs.List.{AllZip, flat_map}
use Rattle.std.proofs.lemmas.Grind.{flat_map-append}
use Rattle.std.proofs.lemmas.List.{append_cancel_right, append-nil}
use Rattle.text_fields.specs.Lines.{lines_of, line_feed, text_with}
use Rattle.epc_sgtin.specs.SgtinValue.{SgtinValue}
use Rattle.epc_sgtin.specs.SgtinText.{name_line}
use Rattle.report_lines.specs.Names.{IsNamed, HasName, BecomesLines, AreWithNames}
use Rattle.top_call.specs.StatusMeanings.{AddsFront}
use Rattle.top_call.specs.UnwrittenBytes.{WritesWaiting, Loses}
use Rattle.text_fields.specs.FaultLine.{fault_line}
use Rattle.checked_lines.specs.FaultWords.{reason_word}
use Rattle.top_call.specs.words.Names.{IsOfLines, AddsNames, IsCutAt, RefusesCutLine}
use Rattle.checked_lines.specs.declared.fault.FaultReason.TheVariants.{End}
use Rattle.text_fields.proofs.LineLaws.{some_line}
use Rattle.text_fields.proofs.ListLaws.{flat_map_push, zip_push}

-- two ways to cut a last line off agree
last_agrees : (before : List (List ℕ)) (last : List ℕ) (before' : List (List ℕ)) (last' : List ℕ) → before ++ last ∷ [] ≡ before' ++ last' ∷ [] → (before ≡ before') × (last ≡ last')
last_agrees [] last [] last' same = (refl, cc)
last_agrees [] last (b ∷ []) last' same = cc
last_agrees [] last (b ∷ c ∷ before') last' same = cc
last_agrees (b ∷ []) last [] last' same = cc
last_agrees (b ∷ c ∷ before) last [] last' same = cc
last_agrees (b ∷ before) last (c ∷ before') last' same =
    let first : b ≡ c = cc in
    let others : before ++ last ∷ [] ≡ before' ++ last' ∷ [] = cc in
    let found = last_agrees before last before' last' others in
    let rest : before ≡ before' = found.0 in
    (cc, found.1)

-- an input of whole lines has no cut line
pub whole_not_cut : (bytes : List ℕ) (number : ℕ) → IsOfLines bytes → IsCutAt bytes number → ⊥
whole_not_cut bytes number whole at = at.filled (sym (last_agrees whole.0 [] at.before at.last (sym whole.1 ∙ at.cut)).1)

-- an input has one number of its cut line, and so one fault line
pub same_cut_line : (bytes one other : List ℕ) → RefusesCutLine bytes one → RefusesCutLine bytes other → one ≡ other
same_cut_line bytes one other left right =
    let before = (last_agrees left.at.before left.at.last right.at.before right.at.last (sym left.at.cut ∙ right.at.cut)).0 in
    let number : left.number ≡ right.number = left.at.count ∙ ap (λ (b : List (List ℕ)). length b + 1) before ∙ sym right.at.count in
    left.line ∙ ap (λ n. fault_line n (reason_word End)) number ∙ sym right.line

-- what the law of names says
abbrev pub HaveOneText : Type 0
HaveOneText = (lines : List (List ℕ)) (one other : List ℕ) → AreWithNames lines one → AreWithNames lines other → one ≡ other

pub same_named : HaveOneText → (bytes one other : List ℕ) → AddsNames bytes one → AddsNames bytes other → one ≡ other
same_named one_text bytes one other left right =
    let lines : left.lines ≡ right.lines = append_cancel_right left.lines right.lines ([] ∷ []) (sym left.cut ∙ right.cut) in
    one_text right.lines one other (subst (λ l. AreWithNames l one) lines left.names) right.names

-- the lines before what is left, counted
pub record CountsTo (input rest : List ℕ) (count : ℕ) : Type 0 where
  pub before : List (List ℕ)
  pub cut : lines_of input ≡ before ++ lines_of rest
  pub number : count ≡ length before + 1
  pub room : length before + length rest ≤ length input

-- the lines before what is left have become the text, with their names, and what is left is of whole lines
pub record NamesTo (input rest text : List ℕ) : Type 0 where
  pub before : List (List ℕ)
  pub cut : lines_of input ≡ before ++ lines_of rest
  pub names : AreWithNames before text
  pub others : IsOfLines rest

pub counts_more : (input rest line behind : List ℕ) (count : ℕ) → CountsTo input rest count → lines_of rest ≡ line ∷ lines_of behind → rest ≡ line ++ line_feed ∷ behind → CountsTo input behind (count + 1)
counts_more input rest line behind count so_far lines split = record {
  before = so_far.before ++ line ∷ [];
  cut = so_far.cut ∙ ap (λ tail. so_far.before ++ tail) lines ∙ sym (append_assoc so_far.before (line ∷ []) (lines_of behind));
  number = omega (arith, so_far.number, length-append so_far.before (line ∷ []));
  room = omega (arith, so_far.room, length-append so_far.before (line ∷ []), ap length split, length-append line (line_feed ∷ behind));
}

-- what stands behind a line of an input of whole lines is of whole lines
others_whole : (lines : List (List ℕ)) (line : List ℕ) (tail : List (List ℕ)) → 1 ≤ length tail → lines ++ [] ∷ [] ≡ line ∷ tail → (others : List (List ℕ)) × (tail ≡ others ++ [] ∷ [])
others_whole [] line tail some same = let none : [] ≡ tail = cc in absurd (omega (arith, ap length none))
others_whole (l ∷ lines) line tail some same = (lines, cc)

-- one more line, with its name
pub names_more : (input rest line behind text : List ℕ) (lines : List (List ℕ)) → NamesTo input rest text → lines_of rest ≡ line ∷ lines_of behind → BecomesLines line lines → NamesTo input behind (text ++ text_with lines)
names_more input rest line behind text lines so_far split becomes = record {
  before = so_far.before ++ line ∷ [];
  cut = so_far.cut ∙ ap (λ tail. so_far.before ++ tail) split ∙ sym (append_assoc so_far.before (line ∷ []) (lines_of behind));
  names = record {
    pieces = so_far.names.pieces ++ lines ∷ [];
    each = zip_push BecomesLines so_far.before so_far.names.pieces line lines so_far.names.each becomes;
    text_is = ap (λ (t : List ℕ). t ++ text_with lines) so_far.names.text_is ∙ sym (flat_map_push text_with so_far.names.pieces lines);
  };
  others = others_whole so_far.others.0 line (lines_of behind) (some_line behind) (sym so_far.others.1 ∙ split);
}

-- where the rest is one piece, all lines have been named
pub names_all : (input rest text : List ℕ) → NamesTo input rest text → lines_of rest ≡ rest ∷ [] → AddsNames input text
names_all input rest text so_far one =
    let end = last_agrees so_far.others.0 [] [] rest (sym so_far.others.1 ∙ one) in
    record {
      lines = so_far.before;
      cut = so_far.cut ∙ ap (λ tail. so_far.before ++ tail) (one ∙ ap (λ (r : List ℕ). r ∷ []) (sym end.1));
      names = so_far.names;
    }

-- the lines that are left become some text, whatever stands before them
pub some_names : (lines : List (List ℕ)) → ((line : List ℕ) → (pieces : List (List ℕ)) × BecomesLines line pieces) → (text : List ℕ) × AreWithNames lines text
some_names [] become = ([], record { pieces = []; each = tt; text_is = refl })
some_names (line ∷ lines) become =
    let first = become line in
    let others = some_names lines become in
    (text_with first.0 ++ others.0, record { pieces = first.0 ∷ others.1.pieces; each = (first.1, others.1.each); text_is = ap (λ (t : List ℕ). text_with first.0 ++ t) others.1.text_is })

zip_append : {A B : Type 0} (R : A → B → Type 0) (xs : List A) (ys : List B) (us : List A) (vs : List B) → AllZip R xs ys → AllZip R us vs → AllZip R (xs ++ us) (ys ++ vs)
zip_append R [] [] us vs first second = second
zip_append R [] (y ∷ ys) us vs first second = absurd first
zip_append R (x ∷ xs) [] us vs first second = absurd first
zip_append R (x ∷ xs) (y ∷ ys) us vs first second = (first.0, zip_append R xs ys us vs first.1 second)

-- with the lines that are left, the lines so far are all
names_rest : (input rest text tail : List ℕ) → (so_far : NamesTo input rest text) → AreWithNames so_far.others.0 tail → AddsNames input (text ++ tail)
names_rest input rest text tail so_far left = record {
  lines = so_far.before ++ so_far.others.0;
  cut = so_far.cut ∙ ap (λ lines. so_far.before ++ lines) so_far.others.1 ∙ sym (append_assoc so_far.before so_far.others.0 ([] ∷ []));
  names = record {
    pieces = so_far.names.pieces ++ left.pieces;
    each = zip_append BecomesLines so_far.before so_far.names.pieces so_far.others.0 left.pieces so_far.names.each left.each;
    text_is = ap (λ (t : List ℕ). t ++ tail) so_far.names.text_is ∙ ap (λ (t : List ℕ). flat_map text_with so_far.names.pieces ++ t) left.text_is
        ∙ sym (flat_map-append text_with so_far.names.pieces left.pieces);
  };
}

-- what the law of names says of a line
abbrev pub BecomeSome : Type 0
BecomeSome = (line : List ℕ) → (lines : List (List ℕ)) × BecomesLines line lines

-- what was written before a write failed is a front of the whole text
pub front_of_names : BecomeSome → (input rest text : List ℕ) (written written' : Option (List ℕ)) → NamesTo input rest text → Loses text written written' → AddsFront (AddsNames input) written written'
front_of_names become input rest text written written' so_far loses =
    let tail = some_names so_far.others.0 become in
    let whole : text ++ tail.0 ≡ loses.sent ++ (loses.lost ++ tail.0) = ap (λ (t : List ℕ). t ++ tail.0) loses.all ∙ append_assoc loses.sent loses.lost tail.0 in
    record {
      front = loses.sent;
      rest = loses.lost ++ tail.0;
      named = subst (AddsNames input) whole (names_rest input rest text tail.0 so_far tail.1);
      added = loses.added;
    }

-- the text of a line and its name, and that of a line alone
two_lines : (line name : List ℕ) → line ++ ((line_feed ∷ name) ++ line_feed ∷ []) ≡ text_with (line ∷ name ∷ [])
two_lines line name = simp (append_assoc, append-nil)

one_line : (line : List ℕ) → line ++ line_feed ∷ [] ≡ text_with (line ∷ [])
one_line line = simp append-nil

-- a line becomes lines whose text is these bytes
pub record BecomesBytes (line bytes : List ℕ) : Type 0 where
  pub lines : List (List ℕ)
  pub becomes : BecomesLines line lines
  pub is : bytes ≡ text_with lines

-- a line that has a name becomes itself and the line of the name
pub named_becomes : (line piece : List ℕ) (sgtin : SgtinValue) → IsNamed line sgtin → piece ≡ (line_feed ∷ name_line sgtin) ++ line_feed ∷ [] → BecomesBytes line (line ++ piece)
named_becomes line piece sgtin is piece_is = record {
  lines = line ∷ name_line sgtin ∷ [];
  becomes = inl (sgtin, is, refl);
  is = ap (λ (p : List ℕ). line ++ p) piece_is ∙ two_lines line (name_line sgtin);
}

-- and one that has none itself alone
pub plain_becomes : (line : List ℕ) → ¬ HasName line → BecomesBytes line (line ++ line_feed ∷ [])
plain_becomes line none = record { lines = line ∷ []; becomes = inr (none, refl); is = one_line line }

-- it waits,
pub becomes_sent : (line bytes page waits : List ℕ) (written written' : Option (List ℕ)) → BecomesBytes line bytes → WritesWaiting (page ++ bytes) waits written written'
    → (lines : List (List ℕ)) × BecomesLines line lines × WritesWaiting (page ++ text_with lines) waits written written'
becomes_sent line bytes page waits written written' becomes sends =
    (becomes.lines, becomes.becomes, subst (λ (t : List ℕ). WritesWaiting (page ++ t) waits written written') becomes.is sends)

-- or is lost
pub becomes_lost : (line bytes page : List ℕ) (written written' : Option (List ℕ)) → BecomesBytes line bytes → Loses (page ++ bytes) written written'
    → (lines : List (List ℕ)) × BecomesLines line lines × Loses (page ++ text_with lines) written written'
becomes_lost line bytes page written written' becomes loses =
    (becomes.lines, becomes.becomes, subst (λ (t : List ℕ). Loses (page ++ t) written written') becomes.is loses)
