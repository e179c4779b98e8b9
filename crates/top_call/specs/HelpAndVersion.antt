-- Profile: what the words `--help` and `--version` write. Made by tools/help_and_version of docs/help.txt and docs/version.txt.
use Rattle.std.specs.Prelude.{ℕ, List, [], ◌∷◌, codes}
use Rattle.text_fields.specs.Lines.{text_with}

-- the lines of `--help`
abbrev pub help_lines : List (List ℕ)
help_lines =
    codes "gen2run WORDS < INPUT > OUTPUT"
    ∷ []
    ∷ codes "Plays scenarios of readers and tags of the EPC Gen2 air interface, answers as a"
    ∷ codes "tag does, audits traces that others made, and explains and makes captures."
    ∷ []
    ∷ codes "words            input -> output"
    ∷ codes "  run            a scenario -> its report"
    ∷ codes "  run trace      a scenario -> its report, with the waves of each exchange"
    ∷ codes "  run json       a scenario -> its report, each line as a JSON object"
    ∷ codes "  run exchanges  a scenario -> its report, and who said what in each exchange"
    ∷ codes "  run exchanges json  a scenario -> the same, each line as a JSON object"
    ∷ codes "  run vcd        a scenario -> its waves, for GTKWave and PulseView"
    ∷ codes "  upgrade        a scenario -> the same in version 2"
    ∷ codes "  audit          a scenario, its trace -> yes, or the first line that can't be"
    ∷ codes "  audit json     a scenario, its trace -> the same, as a JSON object"
    ∷ codes "  portals        a scenario of two readers -> what each lists, also alone"
    ∷ codes "  decode         lines of captures -> what each of them says"
    ∷ codes "  decode json    lines of captures -> the same, each line as a JSON object"
    ∷ codes "  encode         bits, commands, replies -> for each the line that decode reads"
    ∷ codes "  probe          a tag, lines for it -> what it answers to each, and then is"
    ∷ codes "  probe json     a tag, lines for it -> the same, each line as a JSON object"
    ∷ codes "  judge          a tag, its log -> yes, or the first answer that can't be"
    ∷ codes "  judge json     a tag, its log -> the same, as a JSON object"
    ∷ codes "  names          any lines -> the same, with trade item numbers"
    ∷ codes "  gen SEED TAGS  nothing -> the summary of a run over generated tags"
    ∷ codes "  --help         nothing -> this text"
    ∷ codes "  --version      nothing -> the version, and what it was proved with"
    ∷ []
    ∷ codes "The input is the standard input, and has at most 16,777,216 bytes. The script"
    ∷ codes "gen2run of a checkout takes a file too, behind the words; and --check before"
    ∷ codes "audit or judge: then an answer that isn't yes ends with 1."
    ∷ []
    ∷ codes "exit status"
    ∷ codes "  0  done"
    ∷ codes "  1  of the script alone: --check, and the answer isn't yes"
    ∷ codes "  2  there are no such words"
    ∷ codes "  3  the input is faulty: the output is its one line, fault LINE REASON"
    ∷ codes "  4  the input can't be read"
    ∷ codes "  5  the output can't be written: what was written is the front of it"
    ∷ codes "  6  the input is too long"
    ∷ codes "  7  there is no memory: what was written is the front of the output"
    ∷ codes "  8  the words can't be read: each has to be UTF-8"
    ∷ codes "  9  of the script alone: there is no program"
    ∷ []

-- what `--help` writes
abbrev pub help_text : List ℕ
help_text = text_with help_lines

-- the lines of `--version`
abbrev pub version_lines : List (List ℕ)
version_lines =
    codes "gen2run 1.0.0"
    ∷ codes "texts of version 1"
    ∷ codes "proved with rattle-kit-13f logic dac8208d650f15bf"
    ∷ []

-- what `--version` writes
abbrev pub version_text : List ℕ
version_text = text_with version_lines

-- the program's version as a number: 1,000,000 for each major version, 1,000 for each minor one, and 1 for each patch
abbrev pub version_number : ℕ
version_number = 1000000
