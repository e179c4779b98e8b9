-- A line that follows leads to one standing: a tx line sends one command.
use Rattle.std.specs.Prelude.{All}
use Rattle.air_audit.proofs.Names.{◌≡◌, ◌+◌, ◌≤◌, ℕ, Bool, List, [], ◌∷◌, map, get_or, codes, arith, ap, refl, sym, ◌∙◌, subst, GoesOnAs, TraceStanding, begun, between, sending, listing, telling}
use Rattle.air_audit.proofs.Names.{record_of, word_of_line, word_of, AreFrameOf, Sends, Word, Start, exchanges_in, SpellsCommand, Command, IsFrame, longest_interval, FrameKind, TxFields, RxFields}
use Rattle.air_audit.proofs.Names.{All-head, All-tail, decimal, binary_told, decimal_told, binary}
use Rattle.air_audit.specs.declared.trace_line_words.Word.TheVariants as words

-- the laws of frames and of commands that this goes by
pub record Laws : Type 0 where
  pub frame : (kind other : FrameKind) (bits others : List Bool) (intervals : List ℕ) → IsFrame kind bits intervals → IsFrame other others intervals
      → (kind ≡ other) × (bits ≡ others)
  pub command : (c d : Command) (bits : List Bool) → SpellsCommand c bits → SpellsCommand d bits → c ≡ d

-- intervals that are spelled alike
intervals-told : (one other : List ℕ) → All (λ interval. interval ≤ longest_interval) one → All (λ interval. interval ≤ longest_interval) other
    → map decimal one ≡ map decimal other → one ≡ other
intervals-told [] [] short short' same = refl
intervals-told [] (n ∷ ns) short short' same = absurd (cc)
intervals-told (m ∷ ms) [] short short' same = absurd (cc)
intervals-told (m ∷ ms) (n ∷ ns) short short' same =
    let small : m ≤ longest_interval = All-head (λ interval. interval ≤ longest_interval) m ms short in
    let small' : n ≤ longest_interval = All-head (λ interval. interval ≤ longest_interval) n ns short' in
    let digits : decimal m ≡ decimal n = cc in
    let first : m ≡ n = decimal_told m n (omega arith) (omega arith) digits in
    let rest : ms ≡ ns = intervals-told ms ns (All-tail (λ interval. interval ≤ longest_interval) m ms short) (All-tail (λ interval. interval ≤ longest_interval) n ns short') (cc) in
    cc

-- the fields of a tx line, and of an rx line, are read in one way
pub tx-same : (line : List ℕ) (one other : TxFields line) → (one.exchange ≡ other.exchange) × (one.intervals ≡ other.intervals)
tx-same line one other =
    let fields : codes "tx" ∷ one.exchange ∷ map decimal one.intervals ≡ codes "tx" ∷ other.exchange ∷ map decimal other.intervals = sym one.are ∙ other.are in
    (cc, intervals-told one.intervals other.intervals one.short other.short (cc))

pub rx-same : (line : List ℕ) (one other : RxFields line) → (one.exchange ≡ other.exchange) × (one.count ≡ other.count) × (one.levels ≡ other.levels)
rx-same line one other =
    let fields : codes "rx" ∷ one.exchange ∷ one.count ∷ binary one.levels ∷ [] ≡ codes "rx" ∷ other.exchange ∷ other.count ∷ binary other.levels ∷ [] =
    sym one.are ∙ other.are in
    (cc, cc, binary_told one.levels other.levels (cc))

-- a frame sends one command
pub frame-one : Laws → (one other : Command) (intervals : List ℕ) → AreFrameOf one intervals → AreFrameOf other intervals → one ≡ other
frame-one laws one other intervals first second =
    let same = (laws.frame first.kind second.kind first.bits second.bits intervals first.frame second.frame).1 in
    laws.command one other second.bits (subst (SpellsCommand one) same first.spells) second.spells

sends-one : Laws → (exchange : ℕ) (line : List ℕ) (one other : Command) → Sends exchange line one → Sends exchange line other → one ≡ other
sends-one laws exchange line one other first second =
    frame-one laws one other second.tx.intervals (subst (AreFrameOf one) (tx-same line first.tx second.tx).1 first.frame) second.frame

-- a line that sends a command begins with tx
pub tx-is-tx : (line : List ℕ) → TxFields line → word_of_line line ≡ words.Tx
tx-is-tx line tx = ap (λ (fields : List (List ℕ)). word_of (get_or fields 0 [])) tx.are

pub goes-one : Laws → (start : Start) (from : TraceStanding) (word : Word) (line : List ℕ) (one other : TraceStanding) → GoesOnAs start from word line one → GoesOnAs start from word line other
    → one ≡ other
goes-one laws start begun word line one other a b = a.leads ∙ sym b.leads
goes-one laws start (between past) words.Tx line one other a b =
    a.leads ∙ ap (λ (command : Command). sending past (record_of start past command)) (sends-one laws (exchanges_in past + 1) line a.command b.command a.sends b.sends) ∙ sym b.leads
goes-one laws start (between past) words.Unjudged line one other a b = a ∙ sym b
goes-one laws start (between past) words.OfTags line one other a b = a.leads ∙ sym b.leads
goes-one laws start (sending past sent) words.Rx line one other a b = a.leads ∙ sym b.leads
goes-one laws start (listing past listed) word line one other a b = a.leads ∙ sym b.leads
goes-one laws start (telling past told) words.OfTags line one other a b = a.leads ∙ sym b.leads
goes-one laws start from word line one other a b = absurd a
