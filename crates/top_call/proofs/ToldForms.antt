-- A list of words asks for one form at most: the words say which.
use Rattle.std.proofs.Common.{◌≡◌, ℕ, ◌==◌, ◌<◌, ◌^◌, List, [], length, get_or, refl, ap, sym, ◌∙◌, arith, if◌then◌else◌, codes}
use Rattle.std.proofs.lemmas.Fmt.{digits_value-decimal}
use Rattle.std.specs.Str.{bytes_eq}
use Rattle.std.specs.Fmt.{decimal}
use Rattle.std.specs.Str.Parse.{digits_value}
use Rattle.std.proofs.lemmas.Str.Parse.{numerals_by_value, tells_digits}
use Rattle.line_objects.specs.declared.line_members.LineSet.TheVariants as sets
use Rattle.report_lines.specs.declared.mode.Mode.TheVariants.{Plain, Trace, Json, Exchanges, Vcd}
use Rattle.top_call.specs.Form.{words_of, IsForm, SpellForm}
use Rattle.top_call.specs.declared.forms.Form.{Form}
use Rattle.top_call.specs.declared.forms.Form.TheVariants.{Decode, Encode, Run, Upgrade, Portals, Names, Probe, Judge, Audit, Objects, Gen, Help, Version}

-- the form that words spell, where they spell one
form_spelled : List (List ℕ) → Form
form_spelled words =
    if bytes_eq (get_or words 0 []) (codes "decode") then (if length words == 1 then Decode else Objects sets.Decode)
    else if bytes_eq (get_or words 0 []) (codes "encode") then Encode
    else if bytes_eq (get_or words 0 []) (codes "upgrade") then Upgrade
    else if bytes_eq (get_or words 0 []) (codes "portals") then Portals
    else if bytes_eq (get_or words 0 []) (codes "names") then Names
    else if bytes_eq (get_or words 0 []) (codes "probe") then (if length words == 1 then Probe else Objects sets.Probe)
    else if bytes_eq (get_or words 0 []) (codes "judge") then (if length words == 1 then Judge else Objects sets.Judge)
    else if bytes_eq (get_or words 0 []) (codes "audit") then (if length words == 1 then Audit else Objects sets.Audit)
    else if bytes_eq (get_or words 0 []) (codes "--help") then Help
    else if bytes_eq (get_or words 0 []) (codes "--version") then Version
    else if bytes_eq (get_or words 0 []) (codes "gen") then Gen (digits_value 10 (get_or words 1 [])) (digits_value 10 (get_or words 2 []))
    else if length words == 1 then Run Plain
    else if bytes_eq (get_or words 1 []) (codes "trace") then Run Trace
    else if bytes_eq (get_or words 1 []) (codes "json") then Run Json
    else if bytes_eq (get_or words 1 []) (codes "exchanges") then (if length words == 2 then Run Exchanges else Objects sets.Exchanges)
    else Run Vcd

value_of : (n : ℕ) → n < 2 ^ 64 → digits_value 10 (decimal n) ≡ n
value_of n small = digits_value-decimal (numerals_by_value _ tells_digits) n small

same_made : (seed tags seed' tags' : ℕ) → seed ≡ seed' → tags ≡ tags' → Gen seed tags ≡ Gen seed' tags'
same_made seed tags seed' tags' one two = rw (one, two) refl

spelled_back : (form : Form) → IsForm form → form_spelled (words_of form) ≡ form
unfolding form_spelled
spelled_back (Run Plain) fits = refl
spelled_back (Run Trace) fits = refl
spelled_back (Run Json) fits = refl
spelled_back (Run Exchanges) fits = refl
spelled_back (Run Vcd) fits = refl
spelled_back (Objects sets.Decode) fits = refl
spelled_back (Objects sets.Probe) fits = refl
spelled_back (Objects sets.Judge) fits = refl
spelled_back (Objects sets.Audit) fits = refl
spelled_back (Objects sets.Exchanges) fits = refl
spelled_back (Gen seed tags) fits = same_made _ _ seed tags (value_of seed fits.0) (value_of tags (omega (arith, fits.1)))
spelled_back form fits = refl

pub forms_told : (words : List (List ℕ)) (one other : Form) → SpellForm words one → SpellForm words other → one ≡ other
forms_told words one other left right =
    sym (spelled_back one left.legal) ∙ ap form_spelled (sym left.spelled ∙ right.spelled) ∙ spelled_back other right.legal
