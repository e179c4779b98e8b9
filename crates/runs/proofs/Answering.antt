-- What tags answer to the commands of an inventory is what the interrogator expects, and what they answer to the commands of a
-- dialogue is unmistakable.
use Rattle.runs.proofs.Names.{◌≡◌, ℕ, zero, suc, ◌⊎◌, inl, inr, Bool, true, false, ◌&&◌, List, length, Some, refl, sym, ap, ◌∙◌, subst, arith, eq-eqb, Expects, words_expected, AreLegalTags}
use Rattle.runs.proofs.Names.{outcomes_in, replies_in, given_in, Start, has_handle, is_expected, HoldsOfSent, IsReplyFor, IsGivenFor, IsUnmistakable, Entry, expected_answers, given_of_sent}
use Rattle.runs.proofs.Names.{expectation_of, AnswersSo, StaysLegal, outcomes-answered, replies-answered, Command, answers_pass, suits-from, AnswersExpected, Suits, handle_of, spelling, suits, Expect}
use Rattle.runs.proofs.Names.{Reply, Rn16, Epc, Handle, Words, Header, Error, Sent, IsSent, has_half, IsAnswerTo, IsHandleAnswer, IsHeaderOrError, IsDelayedAnswer, IsReadReply, IsReadAnswer}
use Rattle.runs.proofs.Names.{IsKillAnswer, step, TagValue, StateValue, BodyValue, IsLegalTag}
use Rattle.command_grammar.specs.declared.commands.Command.TheVariants as commands
use Rattle.reply_grammar.specs.declared.expected.Expect.TheVariants as expects

-- the laws of tag_machine
abbrev pub AnswersByRow : Type 0
AnswersByRow = (command : Command) (state : StateValue) (body : BodyValue) (sent : Sent) → IsLegalTag (record { state = state; body = body })
    → (step command state body).answer ≡ Some sent → IsAnswerTo command state body sent

abbrev pub SendsInRange : Type 0
SendsInRange = (command : Command) (state : StateValue) (body : BodyValue) (sent : Sent) → IsLegalTag (record { state = state; body = body })
    → (step command state body).answer ≡ Some sent → IsSent (Some sent)

-- what is used of the laws of tag_machine
pub record TagLaws : Type 0 where
  pub rows : AnswersByRow
  pub range : SendsInRange
  pub stays : StaysLegal

rn16-expected : (expect : Expect) (sent : Sent) (rn : ℕ) → Some expects.Rn16 ≡ Some expect → IsSent (Some sent) → sent.reply ≡ Rn16 rn → sent.extended ≡ false → IsReplyFor expect sent
rn16-expected expect sent rn asked legal reply plain =
    let same : expects.Rn16 ≡ expect = cc in
    subst (λ (e : Expect). IsReplyFor e sent) same
    (record { in_range = legal; by_link = plain; expected = ap (λ (r : Reply). suits r expects.Rn16 && has_handle r sent.handle 0) reply })

epc-expected : (expect : Expect) (sent : Sent) (pc : ℕ) (epc : List ℕ) → Some expects.Epc ≡ Some expect → IsSent (Some sent) → sent.reply ≡ Epc pc epc → sent.extended ≡ false → IsReplyFor expect sent
epc-expected expect sent pc epc asked legal reply plain =
    let same : expects.Epc ≡ expect = cc in
    subst (λ (e : Expect). IsReplyFor e sent) same
    (record { in_range = legal; by_link = plain; expected = ap (λ (r : Reply). suits r expects.Epc && has_handle r sent.handle 0) reply })

row-expected : (command : Command) (expect : Expect) (state : StateValue) (body : BodyValue) (sent : Sent) → expectation_of command ≡ Some expect
    → IsSent (Some sent) → IsAnswerTo command state body sent → IsReplyFor expect sent
row-expected (commands.QueryRep session) expect state body sent asked legal is = rn16-expected expect sent _ asked legal is.reply is.plain
row-expected (commands.Ack rn) expect state body sent asked legal is = epc-expected expect sent _ _ asked legal is.reply is.plain
row-expected (commands.Query dr line_code trext sel session target q) expect state body sent asked legal is = rn16-expected expect sent _ asked legal is.reply is.plain
row-expected (commands.QueryAdjust session updn) expect state body sent asked legal is = rn16-expected expect sent _ asked legal is.reply is.plain
row-expected command expect state body sent asked legal is = absurd (cc)

-- what holds of whatever legal tags answer to a command holds of what the channel gives
pub given-of-answers : (P : Sent → Type 0) (start : Start) (command : Command) (entry : Entry) (tags : List TagValue) → AnswersSo P command → StaysLegal → AreLegalTags tags
    → HoldsOfSent P (given_in start.link start.several command entry tags)
given-of-answers P start command entry tags answers stays legal =
    given_of_sent P start.link (replies_in command entry tags) entry.choice start.several
    (replies-answered P 0 (outcomes_in command entry tags) (outcomes-answered P 0 command entry tags answers stays legal))

-- what the channel gives of the answers of legal tags is expected
pub given-in-expected : TagLaws → (start : Start) (command : Command) (expect : Expect) (entry : Entry) (tags : List TagValue) → expectation_of command ≡ Some expect
    → AreLegalTags tags → IsGivenFor expect (given_in start.link start.several command entry tags)
given-in-expected laws start command expect entry tags asked legal =
    given-of-answers (IsReplyFor expect) start command entry tags
    (λ tag lawful sent is.
    row-expected command expect tag.state tag.body sent asked (laws.range command tag.state tag.body sent lawful is) (laws.rows command tag.state tag.body sent lawful is)) laws.stays legal

-- what suits, with the handle that is named, is expected
suiting-expected : (expect : Expect) (sent : Sent) → Suits sent.reply expect → has_handle sent.reply sent.handle (handle_of expect) ≡ true → is_expected expect sent ≡ true
suiting-expected expect sent suit same = rw (suits-from sent.reply expect suit) same

number-expected : (sent : Sent) (number : ℕ) → sent.reply ≡ Handle number → is_expected expects.Handle sent ≡ true
number-expected sent number reply = ap (λ (r : Reply). suits r expects.Handle && has_handle r sent.handle 0) reply

handle-expected : (rn : ℕ) (state : StateValue) (sent : Sent) → IsHandleAnswer rn state sent → is_expected (expects.Same rn) sent ≡ true
handle-expected rn state sent is = suiting-expected (expects.Same rn) sent (rw is.reply refl) (rw is.reply refl)

header-suits : (rn : ℕ) (reply : Reply) → IsHeaderOrError reply → Suits reply (expects.Header rn)
header-suits rn Header is = tt
header-suits rn (Error code) is = tt
header-suits rn reply is = absurd is

header-handle : (rn : ℕ) (reply : Reply) (handle : ℕ) → IsHeaderOrError reply → handle ≡ rn → has_handle reply handle rn ≡ true
header-handle rn Header handle is same = eq-eqb handle rn same
header-handle rn (Error code) handle is same = eq-eqb handle rn same
header-handle rn reply handle is same = absurd is

delayed-expected : (rn : ℕ) (state : StateValue) (sent : Sent) → IsDelayedAnswer rn state sent → is_expected (expects.Header rn) sent ≡ true
delayed-expected rn state sent is = suiting-expected (expects.Header rn) sent (header-suits rn sent.reply is.reply) (header-handle rn sent.reply sent.handle is.reply is.handle)

words-suit : (count rn : ℕ) (reply : Reply) → IsReadReply count reply → Suits reply (words_expected count rn)
words-suit zero rn (Words words) is = is
words-suit zero rn (Error code) is = tt
words-suit zero rn reply is = absurd is
words-suit (suc more) rn (Words words) is = is
words-suit (suc more) rn (Error code) is = tt
words-suit (suc more) rn reply is = absurd is

words-handle : (count rn : ℕ) (reply : Reply) (handle : ℕ) → IsReadReply count reply → handle ≡ rn → has_handle reply handle (handle_of (words_expected count rn)) ≡ true
words-handle zero rn (Words words) handle is same = eq-eqb handle rn same
words-handle zero rn (Error code) handle is same = eq-eqb handle rn same
words-handle zero rn reply handle is same = absurd is
words-handle (suc more) rn (Words words) handle is same = eq-eqb handle rn same
words-handle (suc more) rn (Error code) handle is same = eq-eqb handle rn same
words-handle (suc more) rn reply handle is same = absurd is

read-expected : (count rn : ℕ) (state : StateValue) (sent : Sent) → IsReadAnswer count rn state sent → is_expected (words_expected count rn) sent ≡ true
read-expected count rn state sent is =
    suiting-expected (words_expected count rn) sent (words-suit count rn sent.reply is.reply) (words-handle count rn sent.reply sent.handle is.reply is.handle)

-- what is expected is unmistakable
expected-unmistakable : (expect named : Expect) (sent : Sent) → expect ≡ named → IsSent (Some sent) → is_expected named sent ≡ true → IsUnmistakable expect sent
expected-unmistakable expect named sent same legal expected =
    let here : is_expected expect sent ≡ true = ap (λ (e : Expect). is_expected e sent) same ∙ expected in
    record { in_range = legal; unexpected = λ not_here other answers. let both : true ≡ false = sym here ∙ not_here in absurd (cc) }

-- a handle alone has another length than a header or an error, so that no bits are both
handle-or-header : (handle named : ℕ) (left right : Reply) (bits : List Bool) → AnswersExpected left (expects.Same handle) bits → AnswersExpected right (expects.Header named) bits → ⊥
handle-or-header handle named left right bits one other =
    let short : length bits ≡ 32 = (answers_pass left (expects.Same handle) bits one).length_fits in
    elim (answers_pass right (expects.Header named) bits other).length_fits [
      | inl plain ↦ omega arith
      | inr error ↦ omega arith
    ]

-- a Kill awaits the handle, or a header or an error, and a tag answers the one or the other
kill-unmistakable : (half : Bool) (expect : Expect) (extended : Bool) (rn : ℕ) (state : StateValue) (sent : Sent)
    → ((expect ≡ expects.Same rn) × (extended ≡ false)) ⊎ ((expect ≡ expects.Header rn) × (extended ≡ true)) → IsSent (Some sent) → IsKillAnswer half rn state sent → IsUnmistakable expect sent
kill-unmistakable false expect extended rn state sent (inl asked) legal is = expected-unmistakable expect (expects.Same rn) sent asked.0 legal (handle-expected rn state sent is)
kill-unmistakable true expect extended rn state sent (inr asked) legal is = expected-unmistakable expect (expects.Header rn) sent asked.0 legal (delayed-expected rn state sent is)
kill-unmistakable false expect extended rn state sent (inr asked) legal is =
    let sends = expected_answers (expects.Same rn) sent legal (handle-expected rn state sent is) in
    record {
      in_range = legal;
      unexpected = λ other reply answers.
          handle-or-header rn rn sent.reply reply (spelling sent.reply sent.handle) sends (subst (λ (e : Expect). AnswersExpected reply e (spelling sent.reply sent.handle)) asked.0 answers);
    }
kill-unmistakable true expect extended rn state sent (inl asked) legal is =
    let sends = expected_answers (expects.Header rn) sent legal (delayed-expected rn state sent is) in
    record {
      in_range = legal;
      unexpected = λ other reply answers.
          handle-or-header rn rn reply sent.reply (spelling sent.reply sent.handle) (subst (λ (e : Expect). AnswersExpected reply e (spelling sent.reply sent.handle)) asked.0 answers) sends;
    }

row-unmistakable : (command : Command) (expect : Expect) (extended : Bool) (state : StateValue) (body : BodyValue) (sent : Sent) → Expects command expect extended
    → IsSent (Some sent) → IsAnswerTo command state body sent → IsUnmistakable expect sent
row-unmistakable (commands.ReqRn rn) expect extended state body sent asked legal is = expected-unmistakable expect expects.Handle sent asked.0 legal (number-expected sent _ is.reply)
row-unmistakable (commands.Read bank pointer count rn) expect extended state body sent asked legal is =
    expected-unmistakable expect (words_expected count rn) sent asked.0 legal (read-expected count rn state sent is)
row-unmistakable (commands.Write bank pointer covered rn) expect extended state body sent asked legal is =
    expected-unmistakable expect (expects.Header rn) sent asked.0 legal (delayed-expected rn state sent is)
row-unmistakable (commands.BlockWrite bank pointer words rn) expect extended state body sent asked legal is =
    expected-unmistakable expect (expects.Header rn) sent asked.0 legal (delayed-expected rn state sent is)
row-unmistakable (commands.BlockErase bank pointer count rn) expect extended state body sent asked legal is =
    expected-unmistakable expect (expects.Header rn) sent asked.0 legal (delayed-expected rn state sent is)
row-unmistakable (commands.Lock payload rn) expect extended state body sent asked legal is =
    expected-unmistakable expect (expects.Header rn) sent asked.0 legal (delayed-expected rn state sent is)
row-unmistakable (commands.Access covered rn) expect extended state body sent asked legal is =
    expected-unmistakable expect (expects.Same rn) sent asked.0 legal (handle-expected rn state sent is)
row-unmistakable (commands.Kill covered rn) expect extended state body sent asked legal is = kill-unmistakable (has_half state) expect extended rn state sent asked legal is
row-unmistakable command expect extended state body sent asked legal is = absurd asked

-- what the channel gives of the answers of legal tags to a command of a dialogue is unmistakable
pub given-unmistakable : TagLaws → (start : Start) (command : Command) (expect : Expect) (extended : Bool) (entry : Entry) (tags : List TagValue) → Expects command expect extended
    → AreLegalTags tags → HoldsOfSent (IsUnmistakable expect) (given_in start.link start.several command entry tags)
given-unmistakable laws start command expect extended entry tags asked legal =
    given-of-answers (IsUnmistakable expect) start command entry tags
    (λ tag lawful sent is.
    row-unmistakable command expect extended tag.state tag.body sent asked (laws.range command tag.state tag.body sent lawful is) (laws.rows command tag.state tag.body sent lawful is))
    laws.stays legal
