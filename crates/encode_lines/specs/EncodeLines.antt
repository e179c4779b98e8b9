-- Profile: what is written for the bytes of encode lines: the lines for all of them, or the line of the first fault.
use Rattle.std.specs.Prelude.{◌≡◌, ℕ, Bool, List, [], ◌∷◌, ◌++◌, codes, map}
use Rattle.std.specs.Fmt.{decimal}
use Rattle.pie_line.specs.Link.{LinkValue}
use Rattle.pie_line.specs.Pie.{wave_of}
use Rattle.pie_line.specs.declared.frame.Lead.{Lead}
use Rattle.text_fields.specs.Lines.{line_feed, line_with}
use Rattle.checked_lines.specs.LineRules.{LineRules, AskForSome, Answers, IsFirstFaultyLine, IsFaultyLineText}
use Rattle.checked_lines.specs.Answered.{AddsLine, AddsLineFor}
use Rattle.checked_lines.specs.declared.fault.FaultyLine.{FaultyLine}
use Rattle.encode_lines.specs.Request.{AsksToEncode, IsFaultyToEncode}
use Rattle.encode_lines.specs.Written.{AreWritten}
use Rattle.encode_lines.specs.declared.request.Request.{Request}

-- the line with these fields, with its line feed
abbrev pub written_line : List (List ℕ) → List ℕ
written_line fields = line_with fields ++ line_feed ∷ []

-- what is said of one encode line
abbrev pub encode_rules : LineRules Request (List (List ℕ))
encode_rules = record { asks = AsksToEncode; is_faulty = IsFaultyToEncode; answers = AreWritten; line_of = written_line }

-- the bytes are encode lines, each of which asks for something
abbrev pub AskForEncoding : List ℕ → Type 0
AskForEncoding = AskForSome encode_rules

-- the text is the encoded lines of the bytes
abbrev pub Encodes : (bytes text : List ℕ) → Type 0
Encodes = Answers encode_rules

-- the first faulty encode line of the bytes, counted from 1, with its first reason
abbrev pub IsFirstEncodeFault : (bytes : List ℕ) → FaultyLine → Type 0
IsFirstEncodeFault = IsFirstFaultyLine encode_rules

-- the text is the fault line of the bytes of encode lines
abbrev pub IsEncodeFaultText : (bytes text : List ℕ) → Type 0
IsEncodeFaultText = IsFaultyLineText encode_rules

-- the text is the one before with the line for the request at its end
abbrev pub AddsWritten : Request → (old new : List ℕ) → Type 0
AddsWritten = AddsLine encode_rules

-- the text is the one before with the line for what the line asks for at its end
abbrev pub EncodesLine : (line old new : List ℕ) → Type 0
EncodesLine = AddsLineFor encode_rules

-- the text is the one before with the line of the frame of the bits over this link at its end
abbrev pub AddsWave : LinkValue → Lead → List Bool → (old new : List ℕ) → Type 0
AddsWave link lead bits old new = new ≡ old ++ written_line (codes "pie" ∷ map decimal (wave_of link lead bits))
