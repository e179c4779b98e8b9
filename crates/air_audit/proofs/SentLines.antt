-- The tx line of a command is read back: the frame over a link sends it.
use Rattle.std.specs.Prelude.{All}
use Rattle.air_audit.proofs.Names.{◌≡◌, ◌≢◌, ◌^◌, ◌<◌, ◌≤◌, ◌⊎◌, ℕ, Bool, zero, suc, List, [], ◌∷◌, inl, inr, length, map, get_or, codes, arith, ap, refl, FrameBeginsWith, Sends, lead_of, wave_for}
use Rattle.air_audit.proofs.Names.{IsLegalCommand, SpellsCommand, spelling_of, Command, LinkValue, IsLegalLink, IsFrame, frame_kind_of, longest_interval, wave_of, text_of, IsDecimal, TxLine}
use Rattle.air_audit.proofs.Names.{report_fields, decimal_digit, decimal_nonempty, first_decimal, All-from_recursion, decimal, fields_come_back, Lacks, fields_of, space}
use Rattle.pie_line.specs.declared.frame.Lead.{Lead}
use Rattle.pie_line.specs.declared.frame.Lead.TheVariants.{Preamble, FrameSync}
use Rattle.pie_text.proofs.WaveLength.{length-wave}
use Rattle.air_audit.proofs.Spelled.{decimal-digits, decimal-lacks, numbers-lack}
use Rattle.air_audit.proofs.Words.{word-text}

-- what laws of lower crates say of the frames that are written, and of the spellings of commands
pub record WrittenLaws : Type 0 where
  pub frame : (link : LinkValue) (lead : Lead) (bits : List Bool) → IsLegalLink link → IsFrame (frame_kind_of link lead) bits (wave_of link lead bits)
  pub each : (link : LinkValue) (lead : Lead) (bits : List Bool) → IsLegalLink link → All (λ interval. interval ≤ longest_interval) (wave_of link lead bits)
  pub short : (command : Command) (bits : List Bool) → SpellsCommand command bits → length bits ≤ 4162

begins : (link : LinkValue) (lead : Lead) → FrameBeginsWith (frame_kind_of link lead) lead
begins link Preamble = tt
begins link FrameSync = tt

no-zero : (text : List ℕ) → text ≢ [] → 48 < get_or text 0 0 → get_or text 0 48 ≢ 48
no-zero [] some above same = some refl
no-zero (byte ∷ bytes) some above same = omega arith

no-leading-zero : (n : ℕ) → n < 2 ^ 64 → decimal n ≢ [] → (decimal n ≡ codes "0") ⊎ (get_or (decimal n) 0 48 ≢ 48)
no-leading-zero zero small filled = inl (decimal_digit 0 (omega arith))
no-leading-zero (suc n) small filled = inr (no-zero (decimal (suc n)) filled (first_decimal (suc n) (omega arith) small))

-- a number is one as it is spelled
pub number-is : (n : ℕ) → n < 2 ^ 64 → IsDecimal (decimal n)
number-is n small =
    let filled : decimal n ≢ [] = λ none. let length_is = ap length none in omega (arith, decimal_nonempty n small) in
    record { some = filled; digits = decimal-digits n; no_zeros = no-leading-zero n small filled }

pub frame-sends : WrittenLaws → (link : LinkValue) (command : Command) (exchange : ℕ) → IsLegalLink link → IsLegalCommand command → exchange < 2 ^ 64
    → Sends exchange (text_of (TxLine exchange (wave_for link command))) command
frame-sends laws link command exchange lawful legal small =
    let wave : List ℕ = wave_for link command in
    let spells : SpellsCommand command (spelling_of command) = record { legal = legal; spelled = refl } in
    let size = length-wave link (lead_of command) (spelling_of command) in
    let short = laws.short command (spelling_of command) spells in
    let fields : fields_of (text_of (TxLine exchange wave)) ≡ codes "tx" ∷ decimal exchange ∷ map decimal wave =
    fields_come_back (report_fields (TxLine exchange wave)) (λ none. cc)
    (All-from_recursion (Lacks space) (report_fields (TxLine exchange wave))
    ((word-text 116 (codes "x") refl).no_space, (decimal-lacks space exchange (omega arith), numbers-lack space wave (omega arith)))) in
    record {
      tx = record {
        exchange = decimal exchange;
        intervals = wave;
        are = fields;
        number = number-is exchange small;
        some = size.0;
        few = omega (arith, size.1, short);
        short = laws.each link (lead_of command) (spelling_of command) lawful;
      };
      number = refl;
      frame = record {
        kind = frame_kind_of link (lead_of command);
        bits = spelling_of command;
        frame = laws.frame link (lead_of command) (spelling_of command) lawful;
        spells = spells;
        lead = begins link (lead_of command);
      };
    }
