-- Profile: the words of the program's command line, and what they ask for.
use Rattle.std.specs.Prelude.{◌≡◌, ℕ, ◌<◌, ◌≤◌, ◌^◌, List, [], ◌∷◌, map, codes, String}
use Rattle.std.specs.Fmt.{decimal}
use Rattle.std.specs.Global.{Global}
use Rattle.std.specs.String.{string_bytes}
use Rattle.line_objects.specs.declared.line_members.LineSet.TheVariants as sets
use Rattle.report_lines.specs.declared.mode.Mode.TheVariants.{Plain, Trace, Json, Exchanges, Vcd}
use Rattle.top_call.specs.declared.forms.Form.{Form}
use Rattle.top_call.specs.declared.forms.Form.TheVariants.{Decode, Encode, Run, Upgrade, Portals, Names, Probe, Judge, Audit, Objects, Gen, Help, Version}
use Rattle.made_runs.specs.Made.{most_made_tags}

-- the bytes of each word
abbrev pub texts : List (String Global) → List (List ℕ)
texts words = map string_bytes words

-- the one spelling of a form
abbrev pub words_of : Form → List (List ℕ)
words_of Decode = codes "decode" ∷ []
words_of Encode = codes "encode" ∷ []
words_of (Run Plain) = codes "run" ∷ []
words_of (Run Trace) = codes "run" ∷ codes "trace" ∷ []
words_of (Run Json) = codes "run" ∷ codes "json" ∷ []
words_of (Run Exchanges) = codes "run" ∷ codes "exchanges" ∷ []
words_of (Run Vcd) = codes "run" ∷ codes "vcd" ∷ []
words_of Upgrade = codes "upgrade" ∷ []
words_of Portals = codes "portals" ∷ []
words_of Names = codes "names" ∷ []
words_of Probe = codes "probe" ∷ []
words_of Judge = codes "judge" ∷ []
words_of Audit = codes "audit" ∷ []
words_of (Objects sets.Decode) = codes "decode" ∷ codes "json" ∷ []
words_of (Objects sets.Probe) = codes "probe" ∷ codes "json" ∷ []
words_of (Objects sets.Judge) = codes "judge" ∷ codes "json" ∷ []
words_of (Objects sets.Audit) = codes "audit" ∷ codes "json" ∷ []
words_of (Objects sets.Exchanges) = codes "run" ∷ codes "exchanges" ∷ codes "json" ∷ []
words_of (Gen seed tags) = codes "gen" ∷ decimal seed ∷ decimal tags ∷ []
words_of Help = codes "--help" ∷ []
words_of Version = codes "--version" ∷ []

-- the numbers of a form are in their ranges
abbrev pub IsForm : Form → Type 0
IsForm (Gen seed tags) = (seed < 2 ^ 64) × (tags ≤ most_made_tags)
IsForm form = Unit {0}

-- the words of the form read their whole input, where they have one, before they look at it
abbrev pub ReadsFirst : Form → Type 0
ReadsFirst Decode = ⊥
ReadsFirst (Objects set) = ⊥
ReadsFirst form = Unit {0}

-- the words are the one spelling of the form
pub record SpellForm (words : List (List ℕ)) (form : Form) : Type 0 where
  pub spelled : words ≡ words_of form
  pub legal : IsForm form

-- the words are the spelling of some form
abbrev pub SpellSomeForm : List (List ℕ) → Type 0
SpellSomeForm words = (form : Form) × SpellForm words form
