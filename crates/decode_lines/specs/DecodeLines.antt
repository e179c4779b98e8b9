-- Profile: what is written for the bytes of decode lines: the answers to all of them, or the line of the first fault.
use Rattle.std.specs.Prelude.{ℕ, List}
use Rattle.checked_lines.specs.LineRules.{AskForSome, Answers, IsFirstFaultyLine, IsFaultyLineText}
use Rattle.checked_lines.specs.declared.fault.FaultyLine.{FaultyLine}
use Rattle.decode_lines.specs.Answer.{decode_rules}

-- the bytes are decode lines, each of which asks for something
abbrev pub AskForDecoding : List ℕ → Type 0
AskForDecoding = AskForSome decode_rules

-- the text is the decoded lines of the bytes
abbrev pub Decodes : (bytes text : List ℕ) → Type 0
Decodes = Answers decode_rules

-- the first faulty decode line of the bytes, counted from 1, with its first reason
abbrev pub IsFirstDecodeFault : (bytes : List ℕ) → FaultyLine → Type 0
IsFirstDecodeFault = IsFirstFaultyLine decode_rules

-- the text is the fault line of the bytes of decode lines
abbrev pub IsDecodeFaultText : (bytes text : List ℕ) → Type 0
IsDecodeFaultText = IsFaultyLineText decode_rules
