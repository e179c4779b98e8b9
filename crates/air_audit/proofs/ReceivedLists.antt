-- The list lines of an audited trace are what is received of the levels before them.
use Rattle.air_audit.proofs.Names.{◌≡◌, ℕ, ◌+◌, inl, inr, List, [], ◌∷◌, ◌++◌, Option, Some, None, codes, refl, sym, ap, ◌∙◌, subst, length, append_assoc, IsAudited, trace_rules, IsReceivedBefore}
use Rattle.air_audit.proofs.Names.{ListsWhatIsReceived, GoesOnAs, TraceStanding, begun, between, sending, listing, telling, TraceGoesOn, behind_exchange, behind_told, link_line, next_tag, record_of}
use Rattle.air_audit.proofs.Names.{rx_line, word_of_line, word_of, Sends, Word, whole_is_heard, Given, heard_levels, Start, Record, Item, exchanged, exchanges_in, next_entry, tags_behind, IsGivenFor}
use Rattle.air_audit.proofs.Names.{reception_of, HasOutcomeFrom, Whole, Command, table_of, LinkValue, Reception, whole_reply, IsReceived, first_field, text_of, TagLaws, given-in-expected, made-read}
use Rattle.air_audit.proofs.Names.{tags-exchanged, Listed, listed_by, listed_from, reception_of_ack, expectation_of, list_line, append-nil, TagValue, AreLegalTags, lines_of}
use Rattle.command_grammar.specs.declared.commands.Command.TheVariants as commands
use Rattle.reply_grammar.specs.declared.expected.Expect.TheVariants as expects
use Rattle.reply_grammar.specs.declared.expected.Reply.TheVariants as replies
use Rattle.air_audit.specs.declared.trace_line_words.Word.TheVariants as words
use Rattle.air_audit.specs.TraceOrder.{ended}
use Rattle.reply_grammar.specs.declared.expected.Received.TheVariants.{Whole}
use Rattle.runs.proofs.LegalPasts.{HeardLegal, first-legal, outcomes-legal}
use Rattle.air_audit.proofs.Received.{made-again}
use Rattle.air_audit.proofs.Words.{link-is-other}

-- the laws of tags that this goes by
pub record Laws : Type 0 where
  pub tags : TagLaws
  pub heard : HeardLegal

-- a record whose tx line stands last
record IsSentLast (start : Start) (front : List (List ℕ)) (past : List Item) (sent : Record) : Type 0 where
  earlier : List (List ℕ)
  tx : List ℕ
  front_is : front ≡ earlier ++ tx ∷ []
  sends : Sends (exchanges_in past + 1) tx sent.command
  made : sent ≡ record_of start past sent.command
  legal : AreLegalTags (tags_behind start past)

-- what is known where a trace stands behind these lines
abbrev IsKnown : Start → List (List ℕ) → TraceStanding → Type 0
IsKnown start front begun = AreLegalTags (tags_behind start [])
IsKnown start front (between past) = AreLegalTags (tags_behind start past)
IsKnown start front (sending past sent) = IsSentLast start front past sent
IsKnown start front (listing past listed) = AreLegalTags (tags_behind start past) × IsReceivedBefore start.link front (text_of (list_line listed))
IsKnown start front (telling past told) = Unit {0}
IsKnown start front (ended past) = Unit {0}

-- what is listed came whole in reply to an ACK
record IsListed (sent : Record) (listed : Listed) (command : Command) : Type 0 where
  rn : ℕ
  ack : command ≡ commands.Ack rn
  whole : reception_of expects.Epc sent.given ≡ whole_reply (replies.Epc listed.pc listed.epc)

listed-whole : (sent : Record) (listed : Listed) (others : List Listed) (reception : Reception) → listed ∷ others ≡ listed_from sent reception
    → reception ≡ whole_reply (replies.Epc listed.pc listed.epc)
listed-whole sent listed others (whole_reply (replies.Epc pc epc)) same =
    let one : listed ≡ record { round = sent.round; slot = sent.slot; pc = pc; epc = epc } = cc in
    let first : pc ≡ listed.pc = sym (ap (λ (l : Listed). l.pc) one) in
    let second : epc ≡ listed.epc = sym (ap (λ (l : Listed). l.epc) one) in
    ap (λ p. whole_reply (replies.Epc p epc)) first ∙ ap (λ (e : List ℕ). whole_reply (replies.Epc listed.pc e)) second
listed-whole sent listed others reception same = absurd (cc)

listed-by-ack : (sent : Record) (listed : Listed) (others : List Listed) (command : Command) → listed ∷ others ≡ listed_from sent (reception_of_ack sent command)
    → IsListed sent listed command
listed-by-ack sent listed others (commands.Ack rn) same =
    record { rn = rn; ack = refl; whole = listed-whole sent listed others (reception_of expects.Epc sent.given) same }
listed-by-ack sent listed others command same = absurd (cc)

-- the tags behind an exchange are legal
behind-legal : Laws → (start : Start) (front : List (List ℕ)) (past : List Item) (sent : Record) → IsSentLast start front past sent
    → AreLegalTags (tags_behind start (exchanged sent ∷ past))
behind-legal laws start front past sent last =
    subst AreLegalTags (sym (tags-exchanged start sent past))
    (outcomes-legal 0 sent.command sent.entry (tags_behind start past) laws.heard laws.tags.stays last.sends.frame.spells.legal last.legal)

-- what is listed is received of the levels that are heard
heard-whole : Laws → (start : Start) (front : List (List ℕ)) (past : List Item) (sent : Record) (listed : Listed) → IsSentLast start front past sent
    → (is : IsListed sent listed sent.command)
    → IsReceived (table_of start.link.code) start.link.trext expects.Epc (heard_levels start.link sent.given) (Whole (replies.Epc listed.pc listed.epc))
heard-whole laws start front past sent listed last is =
    let expected : IsGivenFor expects.Epc sent.given =
    subst (λ (g : Given). IsGivenFor expects.Epc g) (sym (ap (λ (r : Record). r.given) last.made))
    (given-in-expected laws.tags start sent.command expects.Epc (next_entry start past) (tags_behind start past)
    (ap (λ (c : Command). expectation_of c) is.ack) last.legal) in
    whole_is_heard start.link expects.Epc sent.given (replies.Epc listed.pc listed.epc) expected
    (made-read start sent past (made-again start past sent last.made)) is.whole

-- behind the rx line
heard-known : Laws → (start : Start) (front : List (List ℕ)) (past : List Item) (sent : Record) (line : List ℕ) (all : List Listed) → IsSentLast start front past sent
    → line ≡ text_of (rx_line start sent) → all ≡ listed_by sent → IsKnown start (front ++ line ∷ []) (behind_exchange (exchanged sent ∷ past) all)
heard-known laws start front past sent line [] last text are = behind-legal laws start front past sent last
heard-known laws start front past sent line (listed ∷ others) last text are =
    let is = listed-by-ack sent listed others sent.command are in
    let number : sent.exchange ≡ exchanges_in past + 1 = ap (λ (r : Record). r.exchange) last.made in (
      behind-legal laws start front past sent last,
      record {
        earlier = last.earlier;
        tx = last.tx;
        rx = line;
        before_is = ap (λ (f : List (List ℕ)). f ++ line ∷ []) last.front_is ∙ append_assoc last.earlier (last.tx ∷ []) (line ∷ []);
        is = record {
          exchange = sent.exchange;
          rn = is.rn;
          count = length sent.replies;
          levels = heard_levels start.link sent.given;
          listed = listed;
          sends =
              subst (λ n. Sends n last.tx (commands.Ack is.rn)) (sym number)
              (subst (λ (c : Command). Sends (exchanges_in past + 1) last.tx c) is.ack last.sends);
          heard = text;
          received = heard-whole laws start front past sent listed last is;
          text = refl;
        };
      },
    )

told-known : (start : Start) (front : List (List ℕ)) (past : List Item) (told : ℕ) (next : Option TagValue) → IsKnown start front (behind_told past told next)
told-known start front past told None = tt
told-known start front past told (Some tag) = tt

-- what is known behind one line more
known-next : Laws → (start : Start) (front : List (List ℕ)) (from : TraceStanding) (word : Word) (line : List ℕ) (to : TraceStanding) → IsKnown start front from → GoesOnAs start from word line to
    → IsKnown start (front ++ line ∷ []) to
known-next laws start front begun word line to known goes = subst (λ (s : TraceStanding). IsKnown start (front ++ line ∷ []) s) (sym goes.leads) known
known-next laws start front (between past) words.Tx line to known goes =
    subst (λ (s : TraceStanding). IsKnown start (front ++ line ∷ []) s) (sym goes.leads)
    (record { earlier = front; tx = line; front_is = refl; sends = goes.sends; made = refl; legal = known })
known-next laws start front (between past) words.Unjudged line to known goes = subst (λ (s : TraceStanding). IsKnown start (front ++ line ∷ []) s) (sym goes) known
known-next laws start front (between past) words.OfTags line to known goes =
    subst (λ (s : TraceStanding). IsKnown start (front ++ line ∷ []) s) (sym goes.leads) (told-known start (front ++ line ∷ []) past 0 (next_tag start past 0))
known-next laws start front (sending past sent) words.Rx line to known goes =
    subst (λ (s : TraceStanding). IsKnown start (front ++ line ∷ []) s) (sym goes.leads)
    (heard-known laws start front past sent line (listed_by sent) known goes.text refl)
known-next laws start front (listing past listed) word line to known goes = subst (λ (s : TraceStanding). IsKnown start (front ++ line ∷ []) s) (sym goes.leads) known.0
known-next laws start front (telling past told) words.OfTags line to known goes =
    subst (λ (s : TraceStanding). IsKnown start (front ++ line ∷ []) s) (sym goes.leads) (told-known start (front ++ line ∷ []) past told (next_tag start past told))
known-next laws start front from word line to known goes = absurd goes

-- the word of the first line is another
no-link : (link : LinkValue) (line : List ℕ) → line ≡ text_of (link_line link) → word_of_line line ≡ words.List → ⊥
no-link link line text word = let same = sym word ∙ ap word_of_line text ∙ link-is-other link in absurd (cc)

-- a list line that may follow is what is received of the levels before it
list-known : (start : Start) (front : List (List ℕ)) (from : TraceStanding) (line : List ℕ) (to : TraceStanding) → IsKnown start front from → GoesOnAs start from words.List line to
    → word_of_line line ≡ words.List → IsReceivedBefore start.link front line
list-known start front begun line to known goes word = absurd (no-link start.link line goes.text word)
list-known start front (listing past listed) line to known goes word = subst (λ (l : List ℕ). IsReceivedBefore start.link front l) (sym goes.text) known.1
list-known start front from line to known goes word = absurd goes

no-word : [] ≡ codes "list" → ⊥
no-word is = cc

-- so does each list line of lines that follow one another
lists-received : Laws → (start : Start) (front : List (List ℕ)) (from : TraceStanding) (number : ℕ) (lines : List (List ℕ)) (to : TraceStanding) (before : List (List ℕ)) (line : List ℕ)
    (behind : List (List ℕ)) → IsKnown start front from → HasOutcomeFrom (trace_rules start) from number lines (Whole to) → lines ≡ before ++ line ∷ behind → first_field line ≡ codes "list"
    → IsReceivedBefore start.link (front ++ before) line
lists-received laws start front from number [] to before line behind known is cut word = absurd is
lists-received laws start front from number (last ∷ []) to [] line behind known is cut word =
    let same : last ≡ line = cc in absurd (no-word (ap first_field (sym is.0 ∙ same) ∙ word))
lists-received laws start front from number (last ∷ []) to (other ∷ []) line behind known is cut word = absurd (cc)
lists-received laws start front from number (last ∷ []) to (other ∷ next ∷ before) line behind known is cut word = absurd (cc)
lists-received laws start front from number (first ∷ next ∷ lines) to before line behind known (inl stops) cut word = absurd stops
lists-received laws start front from number (first ∷ next ∷ lines) to [] line behind known (inr more) cut word =
    let one : first ≡ line = cc in
    let is : word_of_line line ≡ words.List = ap word_of word in
    let goes : TraceGoesOn start from line more.0 = subst (λ (l : List ℕ). TraceGoesOn start from l more.0) one more.1 in
    subst (λ (f : List (List ℕ)). IsReceivedBefore start.link f line) (sym (append-nil front))
    (list-known start front from line more.0 known (subst (λ (w : Word). GoesOnAs start from w line more.0) is goes) is)
lists-received laws start front from number (first ∷ next ∷ lines) to (other ∷ before) line behind known (inr more) cut word =
    let one : first ≡ other = cc in
    let rest : next ∷ lines ≡ before ++ line ∷ behind = cc in
    let longer : (front ++ first ∷ []) ++ before ≡ front ++ other ∷ before =
    append_assoc front (first ∷ []) before ∙ ap (λ (l : List ℕ). front ++ l ∷ before) one in
    subst (λ (f : List (List ℕ)). IsReceivedBefore start.link f line) longer
    (lists-received laws start (front ++ first ∷ []) more.0 (number + 1) (next ∷ lines) to before line behind
    (known-next laws start front from (word_of_line first) first more.0 known more.1) more.2 rest word)

-- ... and each of an audited trace
pub audited-lists : Laws → (start : Start) (bytes : List ℕ) → AreLegalTags start.tags → IsAudited start bytes → ListsWhatIsReceived start.link bytes
audited-lists laws start bytes legal audited = λ before line behind cut word.
    lists-received laws start [] begun 1 (lines_of bytes) (ended audited.0) before line behind (first-legal 0 start.tags legal) audited.1 cut word
