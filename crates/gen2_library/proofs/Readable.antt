-- The words of each form are UTF-8.
use Rattle.std.proofs.Common.{◌≡◌, ◌^◌, ◌<◌, ℕ, List, [], ◌∷◌, All, Contains, codes, true, nat_lt, refl, subst, arith, IsUtf8, decimal}
use Rattle.std.specs.List.{list_all}
use Rattle.std.proofs.lemmas.Bool.Decides.{nat_tests}
use Rattle.std.proofs.lemmas.Fmt.{IsAscii-decimal}
use Rattle.std.proofs.lemmas.List.Elements.{All-contains, All-cons, All-nil, All-weaker}
use Rattle.std.proofs.lemmas.List.Sums.{AllPass-from_list_all}
use Rattle.std.proofs.lemmas.Str.{IsUtf8-from_ascii}
use Rattle.std.proofs.lemmas.Str.Ascii.{IsAscii-from_all}
use Rattle.gen2_library.specs.LentRoom.{HasUnreadableWord}
use Rattle.line_objects.specs.declared.line_members.LineSet.TheVariants as sets
use Rattle.report_lines.specs.declared.mode.Mode.TheVariants.{Plain, Trace, Json, Exchanges, Vcd}
use Rattle.text_fields.specs.Lines.{fields_of}
use Rattle.top_call.specs.Form.{SpellForm, IsForm, words_of}
use Rattle.top_call.specs.declared.forms.Form.{Form}
use Rattle.top_call.specs.declared.forms.Form.TheVariants.{Decode, Encode, Run, Upgrade, Portals, Names, Probe, Judge, Audit, Objects, Gen, Help, Version}

decimal-readable : (n : ℕ) → n < 2 ^ 64 → IsUtf8 (decimal n)
decimal-readable n small = IsUtf8-from_ascii (decimal n) (IsAscii-decimal n small)

-- a word whose bytes are below 128 is, which is computed
below-ascii : (byte : ℕ) → nat_lt byte 128 ≡ true → byte < 128
below-ascii byte is = grind (arith, nat_tests)

plain-readable : (word : List ℕ) → list_all (λ byte. nat_lt byte 128) word ≡ true → IsUtf8 word
plain-readable word plain =
    let below = All-weaker (λ byte. nat_lt byte 128 ≡ true) (λ byte. byte < 128) below-ascii word (AllPass-from_list_all (λ byte. nat_lt byte 128) word plain) in
    IsUtf8-from_ascii word (IsAscii-from_all word below)

one-readable : (word : List ℕ) → IsUtf8 word → All IsUtf8 (word ∷ [])
one-readable word is = All-cons IsUtf8 word [] is (All-nil IsUtf8)

run-readable : (mode : List ℕ) → IsUtf8 mode → All IsUtf8 (codes "run" ∷ mode ∷ [])
run-readable mode is = All-cons IsUtf8 (codes "run") (mode ∷ []) (plain-readable (codes "run") refl) (one-readable mode is)

json-readable : (word : List ℕ) → IsUtf8 word → All IsUtf8 (word ∷ codes "json" ∷ [])
json-readable word is = All-cons IsUtf8 word (codes "json" ∷ []) is (one-readable (codes "json") (plain-readable (codes "json") refl))

words-readable : (form : Form) → IsForm form → All IsUtf8 (words_of form)
words-readable Decode is = one-readable (codes "decode") (plain-readable (codes "decode") refl)
words-readable Encode is = one-readable (codes "encode") (plain-readable (codes "encode") refl)
words-readable (Run Plain) is = one-readable (codes "run") (plain-readable (codes "run") refl)
words-readable (Run Trace) is = run-readable (codes "trace") (plain-readable (codes "trace") refl)
words-readable (Run Json) is = run-readable (codes "json") (plain-readable (codes "json") refl)
words-readable (Run Exchanges) is = run-readable (codes "exchanges") (plain-readable (codes "exchanges") refl)
words-readable (Run Vcd) is = run-readable (codes "vcd") (plain-readable (codes "vcd") refl)
words-readable Upgrade is = one-readable (codes "upgrade") (plain-readable (codes "upgrade") refl)
words-readable Portals is = one-readable (codes "portals") (plain-readable (codes "portals") refl)
words-readable Names is = one-readable (codes "names") (plain-readable (codes "names") refl)
words-readable Probe is = one-readable (codes "probe") (plain-readable (codes "probe") refl)
words-readable Judge is = one-readable (codes "judge") (plain-readable (codes "judge") refl)
words-readable Audit is = one-readable (codes "audit") (plain-readable (codes "audit") refl)
words-readable (Objects sets.Decode) is = json-readable (codes "decode") (plain-readable (codes "decode") refl)
words-readable (Objects sets.Probe) is = json-readable (codes "probe") (plain-readable (codes "probe") refl)
words-readable (Objects sets.Judge) is = json-readable (codes "judge") (plain-readable (codes "judge") refl)
words-readable (Objects sets.Audit) is = json-readable (codes "audit") (plain-readable (codes "audit") refl)
words-readable (Objects sets.Exchanges) is =
    All-cons IsUtf8 (codes "run") (codes "exchanges" ∷ codes "json" ∷ []) (plain-readable (codes "run") refl) (json-readable (codes "exchanges") (plain-readable (codes "exchanges") refl))
words-readable Help is = one-readable (codes "--help") (plain-readable (codes "--help") refl)
words-readable Version is = one-readable (codes "--version") (plain-readable (codes "--version") refl)
words-readable (Gen seed tags) is =
    All-cons IsUtf8 (codes "gen") (decimal seed ∷ decimal tags ∷ []) (plain-readable (codes "gen") refl)
    (All-cons IsUtf8 (decimal seed) (decimal tags ∷ []) (decimal-readable seed is.0)
    (one-readable (decimal tags) (decimal-readable tags (omega (arith, is.1)))))

-- so none of them is unreadable, nor is one of words that are
pub readable : (form : Form) (text : List ℕ) → SpellForm (fields_of text) form → HasUnreadableWord text → ⊥
readable form text asks has =
    has.2 (All-contains IsUtf8 (words_of form) has.0 (words-readable form asks.legal) (subst (λ words. Contains words has.0) asks.spelled has.1))

pub read : (text : List ℕ) → All IsUtf8 (fields_of text) → HasUnreadableWord text → ⊥
read text all has = has.2 (All-contains IsUtf8 (fields_of text) has.0 all has.1)
