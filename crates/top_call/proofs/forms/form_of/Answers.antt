use Rattle.std.proofs.Common.{◌≡◌, map, string_bytes, String, Global, List, ℕ, [], ◌∷◌, ◌<◌, ◌≤◌, length, get_or, ap, sym, ◌∙◌, subst, arith}
use Rattle.std.specs.Prelude.{IfSome}
use Rattle.top_call.specs.Form.{SpellForm}
use Rattle.top_call.proofs.forms.form_of.Goals as goal

one_word : (words : List (String Global)) (word : String Global) (text : List ℕ) → 1 ≤ length words → length words < 2 → word ≡ get_or words 0 word → string_bytes word ≡ text → map string_bytes words ≡ text ∷ []
one_word [] word text a b e f = absurd (omega arith)
one_word (w ∷ []) word text a b e f = ap (λ t. t ∷ []) (ap string_bytes (sym e) ∙ f)
one_word (w ∷ v ∷ ws) word text a b e f = absurd (omega arith)

pub returns-in-len1-clause-found : goal.returns-in-len1-clause-found
returns-in-len1-clause-found c =
    let words = one_word c.args.words.now c.word-item.result _ c.in-len1.len_at_least c.in-len1.len_below c.word-item.is (sym c.as_bytes.ensures.value) in
    subst (λ words. IfSome c.form_of_one.result (SpellForm words)) (sym words) c.form_of_one.ensures.found
