-- What is read from the intervals of a frame is what they are.
use Rattle.air_audit.proofs.Names.{◌≡◌, ℕ, Bool, List, Result, Ok, Err, refl, sym, subst, IsNoTxLine, IsNoFrame, ReadsCommand, ReadsFrame, AreFrameOf, FrameBeginsWith, AuditReason, lead_of}
use Rattle.air_audit.proofs.Names.{SpellsCommand, Command, IsFrame, FrameKind, TxFields, decimal}
use Rattle.air_audit.specs.declared.verdict.AuditReason.TheVariants as reasons
use Rattle.command_grammar.specs.declared.refusal.CommandRefusal.{CommandRefusal}
use Rattle.pie_line.specs.declared.frame.PieRefusal.{PieRefusal}
use Rattle.air_audit.proofs.ReadLines.{tx-no-frame}

-- what a decoder answers of intervals that are a frame, where these bits are read from them
abbrev pub ReadsFrames : List ℕ → List Bool → Result FrameKind PieRefusal → Type 0
ReadsFrames intervals bits answer = (kind : FrameKind) (others : List Bool) → IsFrame kind others intervals → (answer ≡ Ok kind) × (bits ≡ others)

-- ... and of bits that spell a command
abbrev pub ReadsCommands : List Bool → Result Command CommandRefusal → Type 0
ReadsCommands bits answer = (command : Command) → SpellsCommand command bits → answer ≡ Ok command

-- intervals that are refused are no frame of a command
pub no-frame : (intervals : List ℕ) (bits : List Bool) (answer : Result FrameKind PieRefusal) (refusal : PieRefusal) → ReadsFrames intervals bits answer → answer ≡ Err refusal
    → IsNoFrame intervals reasons.Frame
no-frame intervals bits answer refusal reads is = record {
  named = refl;
  none = λ command frame. let read = (reads frame.kind frame.bits frame.frame).0 in absurd (cc);
}

-- the bits of a frame, and what is read from them
pub record WereRead (intervals : List ℕ) (bits : List Bool) (answer : Result Command CommandRefusal) : Type 0 where
  pub bits_are : (kind : FrameKind) (others : List Bool) → IsFrame kind others intervals → bits ≡ others
  pub command_is : ReadsCommands bits answer

-- the bits that are read spell what the frame brings
spelled-as : (intervals : List ℕ) (bits : List Bool) (answer : Result Command CommandRefusal) → WereRead intervals bits answer → (command : Command)
    → AreFrameOf command intervals → answer ≡ Ok command
spelled-as intervals bits answer read command frame =
    read.command_is command (subst (λ (b : List Bool). SpellsCommand command b) (sym (read.bits_are frame.kind frame.bits frame.frame)) frame.spells)

-- bits that are refused are no command
pub no-command : (intervals : List ℕ) (bits : List Bool) (answer : Result Command CommandRefusal) (refusal : CommandRefusal) → WereRead intervals bits answer
    → answer ≡ Err refusal → IsNoFrame intervals reasons.Frame
no-command intervals bits answer refusal read is = record {
  named = refl;
  none = λ command frame. let same = spelled-as intervals bits answer read command frame in absurd (cc);
}

-- a frame that begins otherwise than its command does is none of it
pub other-lead : (intervals : List ℕ) (bits : List Bool) (kind : FrameKind) (command : Command) → WereRead intervals bits (Ok command)
    → ((other : FrameKind) (others : List Bool) → IsFrame other others intervals → kind ≡ other) → ¬ FrameBeginsWith kind (lead_of command)
    → IsNoFrame intervals reasons.Frame
other-lead intervals bits kind command read kind_is other = record {
  named = refl;
  none = λ sent frame.
      let same : Ok command ≡ Ok sent = spelled-as intervals bits (Ok command) read sent frame in
      let command_is : sent ≡ command = cc in
      other (subst (λ (k : FrameKind). FrameBeginsWith k (lead_of command)) (sym (kind_is frame.kind frame.bits frame.frame))
      (subst (λ (c : Command). FrameBeginsWith frame.kind (lead_of c)) command_is frame.lead));
}

-- the fields of a tx line of the exchange, which has these intervals
abbrev pub HasIntervals : ℕ → List ℕ → List ℕ → Type 0
HasIntervals exchange line intervals = (tx : TxFields line) × (tx.exchange ≡ decimal exchange) × (tx.intervals ≡ intervals)

-- the line sends what is read from the frame
pub line-sends : (exchange : ℕ) (line intervals : List ℕ) (answer : Result Command CommandRefusal) → HasIntervals exchange line intervals → ReadsFrame intervals answer
    → ReadsCommand exchange line answer
line-sends exchange line intervals answer has reads = record {
  command = reads.command;
  read = reads.read;
  sends = record { tx = has.0; number = has.1; frame = subst (AreFrameOf reads.command) (sym has.2) reads.frame };
}

-- ... or is refused where that is none
pub line-refused : (exchange : ℕ) (line intervals : List ℕ) (reason : AuditReason) → HasIntervals exchange line intervals → IsNoFrame intervals reason
    → IsNoTxLine exchange line reason
line-refused exchange line intervals reason has none =
    subst (IsNoTxLine exchange line) (sym none.named) (tx-no-frame exchange line has.0 has.1 (λ command frame. none.none command (subst (AreFrameOf command) has.2 frame)))
