-- Profile: the words of a scenario. Those for flags, banks and sides are the ones that commands have in a text.
use Rattle.std.specs.Prelude.{ℕ, List, [], ◌∷◌, ◌++◌, codes, refl}
use Rattle.std.specs.Fmt.{decimal}
use Rattle.wire_text.specs.NameLists.{EachFound}
use Rattle.command_fields.specs.declared.choices.Sel.{Sel}
use Rattle.command_fields.specs.declared.choices.Sel.TheVariants as sels
use Rattle.access_ops.specs.declared.Op.{Op}
use Rattle.access_ops.specs.declared.Op.TheVariants as ops
use Rattle.air_events.specs.declared.Event.{Event}
use Rattle.air_events.specs.declared.Event.TheVariants as events
use Rattle.air_events.specs.declared.Choice.TheVariants as choices
use Rattle.air_events.specs.declared.Several.{Several}
use Rattle.air_events.specs.declared.Several.TheVariants as severals
use Rattle.q_round.specs.declared.rule.Rule.{Rule}
use Rattle.q_round.specs.declared.rule.Rule.TheVariants as rules
use Rattle.scenario_lines.specs.declared.keywords.Keyword.{Keyword}
use Rattle.scenario_lines.specs.declared.keywords.Keyword.TheVariants as keywords
use Rattle.scenario_lines.specs.declared.version.Version.{Version}
use Rattle.scenario_lines.specs.declared.version.Version.TheVariants.{One, Two}
use Rattle.scenario_lines.specs.declared.keywords.EventKind.{EventKind}
use Rattle.scenario_lines.specs.declared.keywords.EventKind.TheVariants.{Timeout, Off, On, Expire}
use Rattle.scenario_lines.specs.declared.keywords.OpKind.{OpKind}
use Rattle.scenario_lines.specs.declared.keywords.OpKind.TheVariants as op_kinds
use Rattle.scenario_lines.specs.declared.keywords.AirKind.{AirKind}
use Rattle.scenario_lines.specs.declared.keywords.AirKind.TheVariants as airs
use Rattle.scenario_lines.specs.declared.line.Happening.{Happening}
use Rattle.scenario_lines.specs.declared.line.Happening.TheVariants as happenings

-- the word of a keyword, the first field of a scenario's line
abbrev pub keyword_text : Keyword → List ℕ
keyword_text keywords.Version = codes "gen2"
keyword_text keywords.Link = codes "link"
keyword_text keywords.Default = codes "default"
keyword_text keywords.Tag = codes "tag"
keyword_text keywords.Copies = codes "copies"
keyword_text keywords.Air = codes "air"
keyword_text keywords.Select = codes "select"
keyword_text keywords.Nak = codes "nak"
keyword_text keywords.Event = codes "event"
keyword_text keywords.Round = codes "round"
keyword_text keywords.Only = codes "only"
keyword_text keywords.Op = codes "op"
keyword_text keywords.End = codes "end"

abbrev pub all_keywords : List Keyword
all_keywords =
    keywords.Version ∷ keywords.Link ∷ keywords.Default ∷ keywords.Tag ∷ keywords.Copies ∷ keywords.Air ∷ keywords.Select ∷ keywords.Nak
    ∷ keywords.Event ∷ keywords.Round ∷ keywords.Only ∷ keywords.Op ∷ keywords.End ∷ []

-- no two keywords have one word
pub keyword_found : EachFound keyword_text all_keywords
keyword_found keywords.Version = refl
keyword_found keyword = refl

-- the version of the text
abbrev pub version_digit : Version → List ℕ
version_digit One = codes "1"
version_digit Two = codes "2"

-- the word of a scenario for what the channel gives where several tags reply and nothing is chosen
abbrev pub several_text : Several → List ℕ
several_text severals.Break = codes "break"
several_text severals.Capture = codes "capture"

-- the rule for Q of a round. Version 1 has the one that moves Qfp, and names it by its number alone.
abbrev pub rule_text : Version → Rule → List ℕ
rule_text One (rules.Float c) = decimal c
rule_text One rule = []
rule_text Two rules.Fixed = codes "fixed"
rule_text Two (rules.Float c) = codes "float-" ++ decimal c
rule_text Two rules.Frame = codes "frame"

-- the version has a spelling for the rule
abbrev pub HasRuleText : Version → Rule → Type 0
HasRuleText One (rules.Float c) = Unit {0}
HasRuleText One rule = ⊥
HasRuleText Two rule = Unit {0}

-- the word for the kind of an event
abbrev pub event_word : EventKind → List ℕ
event_word Timeout = codes "timeout"
event_word Off = codes "off"
event_word On = codes "on"
event_word Expire = codes "expire"

-- the word for the kind of an operation
abbrev pub op_word : OpKind → List ℕ
op_word op_kinds.Read = codes "read"
op_word op_kinds.Write = codes "write"
op_word op_kinds.BlockWrite = codes "blockwrite"
op_word op_kinds.BlockErase = codes "blockerase"
op_word op_kinds.Lock = codes "lock"
op_word op_kinds.Access = codes "access"
op_word op_kinds.Kill = codes "kill"

abbrev pub all_op_kinds : List OpKind
all_op_kinds = op_kinds.Read ∷ op_kinds.Write ∷ op_kinds.BlockWrite ∷ op_kinds.BlockErase ∷ op_kinds.Lock ∷ op_kinds.Access ∷ op_kinds.Kill ∷ []

-- no two kinds of operations have one word
pub op_found : EachFound op_word all_op_kinds
op_found op_kinds.Read = refl
op_found kind = refl

-- the word for the kind of an air line
abbrev pub air_word : AirKind → List ℕ
air_word (airs.Event kind) = event_word kind
air_word airs.Miss = codes "miss"
air_word airs.Pick = codes "pick"
air_word airs.Silent = codes "silent"
air_word airs.Break = codes "break"
air_word airs.Raw = codes "raw"

abbrev pub all_air_kinds : List AirKind
all_air_kinds =
    airs.Event Timeout ∷ airs.Event Off ∷ airs.Event On ∷ airs.Event Expire ∷ airs.Miss ∷ airs.Pick ∷ airs.Silent ∷ airs.Break ∷ airs.Raw ∷ []

-- no two kinds of air lines have one word
pub air_found : EachFound air_word all_air_kinds
air_found (airs.Event Timeout) = refl
air_found kind = refl

-- how many fields stand behind the kind of a scenario's event
abbrev pub event_field_count : EventKind → ℕ
event_field_count Timeout = 1
event_field_count Off = 1
event_field_count On = 1
event_field_count Expire = 2

-- how many fields stand behind the kind of an operation
abbrev pub op_field_count : OpKind → ℕ
op_field_count op_kinds.Read = 3
op_field_count op_kinds.Write = 3
op_field_count op_kinds.BlockWrite = 3
op_field_count op_kinds.BlockErase = 3
op_field_count op_kinds.Lock = 1
op_field_count op_kinds.Access = 1
op_field_count op_kinds.Kill = 1

-- how many fields stand behind the kind of an air line
abbrev pub air_field_count : AirKind → ℕ
air_field_count (airs.Event kind) = event_field_count kind
air_field_count airs.Miss = 1
air_field_count airs.Pick = 1
air_field_count airs.Silent = 0
air_field_count airs.Break = 1
air_field_count airs.Raw = 1

-- which kind an event is of
abbrev pub event_kind : Event → EventKind
event_kind events.Timeout = Timeout
event_kind events.Off = Off
event_kind events.On = On
event_kind (events.Expire flag) = Expire

-- which kind an operation is of
abbrev pub op_kind : Op → OpKind
op_kind (ops.Read bank pointer count) = op_kinds.Read
op_kind (ops.Write bank pointer word) = op_kinds.Write
op_kind (ops.BlockWrite bank pointer words) = op_kinds.BlockWrite
op_kind (ops.BlockErase bank pointer count) = op_kinds.BlockErase
op_kind (ops.Lock payload) = op_kinds.Lock
op_kind (ops.Access password) = op_kinds.Access
op_kind (ops.Kill password) = op_kinds.Kill

-- which kind of air line says this
abbrev pub air_kind : Happening → AirKind
air_kind (happenings.Event event tag) = airs.Event (event_kind event)
air_kind (happenings.Miss tag) = airs.Miss
air_kind (happenings.Choice (choices.Pick reply)) = airs.Pick
air_kind (happenings.Choice choices.Silent) = airs.Silent
air_kind (happenings.Choice (choices.Break place)) = airs.Break
air_kind (happenings.Choice (choices.Raw levels)) = airs.Raw

-- the tags that a round speaks to: all (the code 00), those with SL deasserted, those with SL asserted. The code 01,
-- which means all as well, has no word.
abbrev pub sel_text : Sel → List ℕ
sel_text sels.All00 = codes "all"
sel_text sels.All01 = []
sel_text sels.NotSl = codes "nsl"
sel_text sels.Sl = codes "sl"
