-- The lines that a run tells have no line feed in them, so that the lines of its trace are these.
use Rattle.std.specs.Prelude.{All}
use Rattle.std.specs.Fmt.{digits}
use Rattle.air_audit.proofs.Names.{◌≡◌, ◌≢◌, ◌+◌, ◌<◌, ◌≤◌, ◌/◌, ◌%◌, ◌==◌, ℕ, Bool, true, false, cond, zero, suc, List, [], ◌∷◌, ◌++◌, map, filter, codes, arith, ap, refl, ◌∙◌, lt-ltb, OpResult}
use Rattle.air_audit.proofs.Names.{LinkValue, RoundEnd, keeps, line_text_of, text_of, ReportLine, BlfLine, TxLine, RxLine, ListLine, OpLine, RoundLine, SeenLine, TagLine, DoneLine, end_word}
use Rattle.air_audit.proofs.Names.{state_word, flags_word, result_fields, report_fields, text_by, Trace, All-append, All-cons, All-from_recursion, All-head, All-nil, All-tail, All-weaker}
use Rattle.air_audit.proofs.Names.{filter_passes, decimal, digits_onto, digit_glyph, AllByRecursion, IsFieldText-binary, IsFieldText-hex_byte, IsFieldText-hex_word, IsFieldText-hex_words, line_lacks}
use Rattle.air_audit.proofs.Names.{lines_come_back, binary_digit, Lacks, line_feed, lines_of, text_with}
use Rattle.access_ops.specs.declared.op_next.OpResult.TheVariants as results
use Rattle.command_fields.specs.declared.choices.Side.{Side}
use Rattle.command_fields.specs.declared.choices.Side.TheVariants.{A, B}
use Rattle.wire_text.specs.CommandText.{side_letter}
use Rattle.lock_rules.specs.declared.locks.Locks.{Locks}
use Rattle.lock_rules.specs.declared.locks.Pair.{Pair}
use Rattle.q_round.specs.declared.round.RoundEnd.TheVariants as ends
use Rattle.report_lines.specs.ModeSpelling.{text_in}
use Rattle.session_flags.specs.declared.flags.Flags.{Flags}
use Rattle.tag_machine.specs.StateNames.{name_of}
use Rattle.tag_machine.specs.declared.states.StateName.{StateName}
use Rattle.tag_machine.specs.declared.states.StateName.TheVariants as names
use Rattle.text_fields.specs.Hexadecimal.{hex_words}
use Rattle.wire_text.specs.PasswordsAndLocks.{locks_text, pair_text}
use Rattle.air_audit.proofs.Words.{all_visible, word-text}

-- a decimal digit
abbrev pub IsDigit : ℕ → Type 0
IsDigit byte = (48 ≤ byte) × (byte ≤ 57)

glyph-digit : (n : ℕ) → IsDigit (digit_glyph false (n % 10))
glyph-digit n =
    let small : n % 10 < 10 = omega arith in
    let is : digit_glyph false (n % 10) ≡ 48 + n % 10 = ap (λ (b : Bool). cond b (48 + n % 10) (87 + n % 10)) (lt-ltb (n % 10) 10 small) in
    (omega arith, omega arith)

digits-either : (last : Bool) (one other : List ℕ) → All IsDigit one → All IsDigit other → All IsDigit (cond last one other)
digits-either true one other here there = here
digits-either false one other here there = there

digits-onto : (fuel n : ℕ) (behind : List ℕ) → All IsDigit behind → All IsDigit (digits_onto fuel 10 false n behind)
digits-onto zero n behind are = are
digits-onto (suc fuel) n behind are =
    let more = All-cons IsDigit (digit_glyph false (n % 10)) behind (glyph-digit n) are in
    digits-either (n / 10 == 0) _ _ more (digits-onto fuel (n / 10) (digit_glyph false (n % 10) ∷ behind) more)

-- a number is spelled with digits alone, however large it is
pub decimal-digits : (n : ℕ) → All IsDigit (decimal n)
unfolding digits
decimal-digits n = digits-onto 64 n [] (All-nil IsDigit)

pub decimal-lacks : (byte n : ℕ) → byte < 48 → Lacks byte (decimal n)
decimal-lacks byte n below = All-weaker IsDigit (λ each. each ≢ byte) (λ each digit same. omega arith) (decimal n) (decimal-digits n)

number-line : (n : ℕ) → Lacks line_feed (decimal n)
number-line n = decimal-lacks line_feed n (omega arith)

word-line : (byte : ℕ) (bytes : List ℕ) → all_visible (byte ∷ bytes) ≡ true → Lacks line_feed (byte ∷ bytes)
word-line byte bytes visible = (word-text byte bytes visible).no_line_feed

joined : (one other : List ℕ) → Lacks line_feed one → Lacks line_feed other → Lacks line_feed (one ++ other)
joined one other here there = All-append (λ each. each ≢ line_feed) one other here there

pub numbers-lack : (byte : ℕ) (numbers : List ℕ) → byte < 48 → AllByRecursion (Lacks byte) (map decimal numbers)
numbers-lack byte [] below = tt
numbers-lack byte (n ∷ numbers) below = (decimal-lacks byte n below, numbers-lack byte numbers below)

side-line : (side : Side) → Lacks line_feed (side_letter side)
side-line A = word-line 65 [] refl
side-line B = word-line 66 [] refl

bit-line : (bit : Bool) → Lacks line_feed (binary_digit bit ∷ [])
bit-line false = word-line 48 [] refl
bit-line true = word-line 49 [] refl

flags-line : (flags : Flags) → Lacks line_feed (flags_word flags)
flags-line flags =
    joined _ _ (joined _ _ (joined _ _ (joined _ _ (side-line flags.s0) (side-line flags.s1)) (side-line flags.s2)) (side-line flags.s3)) (bit-line flags.sl)

pair-line : (pair : Pair) → Lacks line_feed (pair_text pair)
pair-line pair = joined (binary_digit pair.write_bit ∷ []) (binary_digit pair.permalock ∷ []) (bit-line pair.write_bit) (bit-line pair.permalock)

locks-line : (locks : Locks) → Lacks line_feed (locks_text locks)
locks-line locks =
    let kill : List ℕ = pair_text locks.kill_word in
    let access : List ℕ = pair_text locks.access_word in
    let epc : List ℕ = pair_text locks.epc in
    let tid : List ℕ = pair_text locks.tid in
    joined (kill ++ access ++ epc ++ tid) (pair_text locks.user)
    (joined (kill ++ access ++ epc) tid (joined (kill ++ access) epc (joined kill access (pair-line locks.kill_word) (pair-line locks.access_word)) (pair-line locks.epc))
    (pair-line locks.tid))
    (pair-line locks.user)

state-line : (name : StateName) → Lacks line_feed (state_word name)
state-line names.Ready = word-line 114 (codes "eady") refl
state-line names.Arbitrate = word-line 97 (codes "rbitrate") refl
state-line names.InReply = word-line 114 (codes "eply") refl
state-line names.Acknowledged = word-line 97 (codes "cknowledged") refl
state-line names.Opened = word-line 111 (codes "pen") refl
state-line names.Secured = word-line 115 (codes "ecured") refl
state-line names.Killed = word-line 107 (codes "illed") refl
state-line names.Unpowered = word-line 111 (codes "ff") refl

end-line : (end : RoundEnd) → Lacks line_feed (end_word end)
end-line ends.Quiet = word-line 113 (codes "uiet") refl
end-line ends.Limit = word-line 108 (codes "imit") refl

words-line : (words : List ℕ) → Lacks line_feed (hex_words words)
words-line words = (IsFieldText-hex_words words).no_line_feed

result-lacks : (result : OpResult) → AllByRecursion (Lacks line_feed) (result_fields result)
result-lacks (results.Ok []) = (word-line 111 (codes "k") refl, tt)
result-lacks (results.Ok (word ∷ words)) = (word-line 111 (codes "k") refl, (words-line (word ∷ words), tt))
result-lacks (results.TagError code) = (word-line 101 (codes "rror") refl, ((IsFieldText-hex_byte code).no_line_feed, tt))
result-lacks results.Silent = (word-line 115 (codes "ilent") refl, tt)
result-lacks results.Broken = (word-line 98 (codes "roken") refl, tt)
result-lacks results.Denied = (word-line 100 (codes "enied") refl, tt)

-- a line that a trace has
abbrev pub IsOfTrace : ReportLine → Type 0
IsOfTrace line = keeps Trace line ≡ true

fields-lack : (line : ReportLine) → IsOfTrace line → AllByRecursion (Lacks line_feed) (report_fields line)
fields-lack (BlfLine numerator denominator) is =
    (word-line 98 (codes "lf") refl, (joined _ _ (joined _ _ (number-line numerator) (word-line 47 [] refl)) (number-line denominator), tt))
fields-lack (TxLine exchange intervals) is = (word-line 116 (codes "x") refl, (number-line exchange, numbers-lack line_feed intervals (omega arith)))
fields-lack (RxLine exchange count levels) is =
    (word-line 114 (codes "x") refl, (number-line exchange, (number-line count, ((IsFieldText-binary levels).no_line_feed, tt))))
fields-lack (ListLine round slot pc epc) is =
    (word-line 108 (codes "ist") refl, (number-line round, (number-line slot, ((IsFieldText-hex_word pc).no_line_feed, (words-line epc, tt)))))
fields-lack (OpLine round slot index result) is =
    (word-line 111 (codes "p") refl, (number-line round, (number-line slot, (number-line index, result-lacks result))))
fields-lack (RoundLine round end slots) is = (word-line 114 (codes "ound") refl, (number-line round, (end-line end, (number-line slots, tt))))
fields-lack (SeenLine count pc epc) is =
    (word-line 115 (codes "een") refl, (number-line count, ((IsFieldText-hex_word pc).no_line_feed, (words-line epc, tt))))
fields-lack (TagLine number tag) is =
    let memory = tag.body.memory in (
      word-line 116 (codes "ag") refl,
      (
        number-line number,
        (
          state-line (name_of tag.state),
          (
            flags-line tag.body.flags,
            (
              locks-line tag.body.locks,
              (words-line memory.reserved, (words-line memory.epc, (words-line memory.tid, (words-line memory.user, tt)))),
            ),
          ),
        ),
      ),
    )
fields-lack DoneLine is = (word-line 100 (codes "one") refl, tt)
fields-lack line is = absurd (cc)

text-lines : (lines : List ReportLine) → text_by (line_text_of Trace) lines ≡ text_with (map text_of lines)
text-lines [] = refl
text-lines (line ∷ lines) = ap (λ (rest : List ℕ). (text_of line ++ line_feed ∷ []) ++ rest) (text-lines lines)

texts-lack : (lines : List ReportLine) → All IsOfTrace lines → All (Lacks line_feed) (map text_of lines)
texts-lack [] are = All-nil (Lacks line_feed)
texts-lack (line ∷ lines) are =
    All-cons (Lacks line_feed) (text_of line) (map text_of lines)
    (line_lacks (report_fields line) (All-from_recursion (Lacks line_feed) (report_fields line) (fields-lack line (All-head IsOfTrace line lines are))))
    (texts-lack lines (All-tail IsOfTrace line lines are))

-- the lines of a trace are those of what was told that it has
pub lines-of-trace : (link : LinkValue) (lines : List ReportLine)
    → lines_of (text_in Trace link (filter (keeps Trace) lines)) ≡ map text_of (filter (keeps Trace) lines) ++ [] ∷ []
lines-of-trace link lines =
    let kept = filter (keeps Trace) lines in
    ap lines_of (text-lines kept) ∙ lines_come_back (map text_of kept) (texts-lack kept (filter_passes (keeps Trace) lines))
