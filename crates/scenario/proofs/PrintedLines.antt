-- What a text has gained after several lines.
use Rattle.std.proofs.Common.{◌≡◌, ℕ, ◌+◌, ◌<◌, List, [], ◌∷◌, ◌++◌, length, get_or, map, take, ap, refl, sym, ◌∙◌}
use Rattle.std.proofs.lemmas.List.{append_assoc, append-nil, take_more, map-append}
use Rattle.std.proofs.lemmas.List.Concat.{flat_map-append}
use Rattle.text_fields.specs.Lines.{line_feed, text_with}
use Rattle.scenario_lines.specs.declared.line.Line.{Line}
use Rattle.scenario_lines.specs.Spelling.{line_text}

-- the text of the lines of two lists
pub text-append : (one other : List Line) → text_with (map line_text (one ++ other)) ≡ text_with (map line_text one) ++ text_with (map line_text other)
text-append one other = rw (map-append line_text one other) (flat_map-append (λ line. line ++ line_feed ∷ []) (map line_text one) (map line_text other))

-- a text has gained these lines
pub record HasGained (start after : List ℕ) (said : List Line) : Type 0 where
  pub is : after ≡ start ++ text_with (map line_text said)

-- ... and more
pub gains-lines : {start before after : List ℕ} (said more : List Line) → HasGained start before said → after ≡ before ++ text_with (map line_text more)
    → HasGained start after (said ++ more)
gains-lines said more gained grows = record { is = rw (grows, gained.is, text-append said more) (simp append_assoc) }

-- ... and one line more
pub gains-line : {start before after : List ℕ} (said : List Line) (line : Line) → HasGained start before said
    → after ≡ before ++ (line_text line ++ line_feed ∷ []) → HasGained start after (said ++ line ∷ [])
gains-line said line gained grows = record { is = rw (grows, gained.is, text-append said (line ∷ [])) (simp (append_assoc, append-nil)) }

-- the lines of the first items, with that of the next
pub items-more : {A : Type 0} (g : A → Line) (xs : List A) (i : ℕ) (x : A) → i < length xs → x ≡ get_or xs i x
    → map g (take i xs) ++ g x ∷ [] ≡ map g (take (i + 1) xs)
items-more g xs i x lt is =
    let e : take (i + 1) xs ≡ take i xs ++ x ∷ [] = take_more xs i x lt ∙ ap (λ y. take i xs ++ y ∷ []) (sym is) in
    rw (e, map-append g (take i xs) (x ∷ [])) refl

-- after three lists of lines
pub three_lists : (start t s : List ℕ) (a b c : List Line) → t ≡ start ++ text_with (map line_text a) → s ≡ t ++ text_with (map line_text b) →
    s ++ text_with (map line_text c) ≡ start ++ text_with (map line_text (a ++ b ++ c))
three_lists start t s a b c f g = rw (g, f, text-append (a ++ b) c, text-append a b) (simp append_assoc)
