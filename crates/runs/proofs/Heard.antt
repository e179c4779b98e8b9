-- What the interrogator hears of a slot command, of which nothing is said, tells who answered it; and whom an ACK lists.
use Rattle.runs.proofs.Names.{◌≡◌, ℕ, ◌+◌, ◌==◌, inl, inr, Bool, true, false, List, [], ◌∷◌, Option, Some, None, slice_get, if◌then◌else◌, refl, ap, sym, ◌∙◌, subst, arith, eq-eqb, eqb-true, given_in}
use Rattle.runs.proofs.Names.{Given, whole, default_given, Replied, Start, Item, tag_behind, tags_behind, next_entry, next_record, is_expected, reception_of, Reception, whole_reply, no_such_reply}
use Rattle.runs.proofs.Names.{no_entry, Entry, Several, outcome_of, slot_reception, listed_from, listed_by, Command, HasNumber, AreApart, sender_where, sender_listed_by, listed_as, slot_answer_of}
use Rattle.runs.proofs.Names.{is_acknowledged_by, Reply, Sent, epc_reply, TagValue, StateValue, BodyValue, ReplyState}
use Rattle.air_events.specs.declared.Several.TheVariants as severals
use Rattle.command_grammar.specs.declared.commands.Command.TheVariants as commands
use Rattle.q_round.specs.declared.frame.Outcome.TheVariants as outcomes
use Rattle.reply_grammar.specs.declared.expected.Expect.TheVariants as expects
use Rattle.reply_grammar.specs.declared.expected.Reply.TheVariants as replies
use Rattle.runs.proofs.Among.{Among, contains-of}
use Rattle.runs.proofs.HeadlineSent.{whole-reply}
use Rattle.runs.proofs.Population.{answer_behind, reply_by, replies_behind, answer-replied, Answerer, answerer}

-- where nothing is said of an exchange, the channel goes by its default
pub slot-heard : (start : Start) (round slot : ℕ) (command : Command) (past : List Item) (reception : Reception) → next_entry start past ≡ no_entry
    → slot_reception start round slot command past ≡ reception → reception_of expects.Rn16 (default_given start.several (replies_behind 0 command start.tags past)) ≡ reception
slot-heard start round slot command past reception unsaid is =
    sym (ap (λ (entry : Entry). reception_of expects.Rn16 (given_in start.link start.several command entry (tags_behind start past))) unsaid) ∙ is

pub given-by-default : (start : Start) (round slot : ℕ) (command : Command) (past : List Item) → next_entry start past ≡ no_entry
    → (next_record start round slot command past).given ≡ default_given start.several (replies_behind 0 command start.tags past)
given-by-default start round slot command past unsaid = ap (λ (entry : Entry). given_in start.link start.several command entry (tags_behind start past)) unsaid

one-not-silent : (expected : Bool) (reply : Reply) → outcome_of (if expected then whole_reply reply else no_such_reply) ≡ outcomes.Silence → ⊥
one-not-silent true reply is = absurd (cc)
one-not-silent false reply is = absurd (cc)

-- silence is heard only where there is no reply
pub silent-none : (several : Several) (all : List Replied) → outcome_of (reception_of expects.Rn16 (default_given several all)) ≡ outcomes.Silence → all ≡ []
silent-none several [] is = refl
silent-none several (one ∷ []) is = absurd (one-not-silent (is_expected expects.Rn16 one.sent) one.sent.reply is)
silent-none severals.Break (one ∷ other ∷ others) is = absurd (cc)
silent-none severals.Capture (one ∷ other ∷ others) is = absurd (one-not-silent (is_expected expects.Rn16 one.sent) one.sent.reply is)

-- one of the replies, which alone has this RN16
pub record IsOneReply (all : List Replied) (rn : ℕ) : Type 0 where
  pub replied : Replied
  pub among : Among replied all
  pub reply : replied.sent.reply ≡ replies.Rn16 rn
  pub only : (other : Replied) → Among other all → other.sent.reply ≡ replies.Rn16 rn → other.number ≡ replied.number

alone-same : (one other : Replied) → Among other (one ∷ []) → other.number ≡ one.number
alone-same one other (inl is) = ap (λ (r : Replied). r.number) (sym is)
alone-same one other (inr none) = absurd none

-- An RN16 is heard whole only where one tag replied, or where one of several is captured; then the others sent other RN16s.
pub heard-one : (several : Several) (all : List Replied) (rn : ℕ) → (several ≡ severals.Capture → AreApart all)
    → reception_of expects.Rn16 (default_given several all) ≡ whole_reply (replies.Rn16 rn) → IsOneReply all rn
heard-one several [] rn apart is = absurd (cc)
heard-one several (one ∷ []) rn apart is = record {
  replied = one;
  among = inl refl;
  reply = whole-reply (is_expected expects.Rn16 one.sent) one.sent.reply (replies.Rn16 rn) is;
  only = λ other among same. alone-same one other among;
}
heard-one severals.Break (one ∷ other ∷ others) rn apart is = absurd (cc)
heard-one severals.Capture (one ∷ other ∷ others) rn apart is =
    let all = one ∷ other ∷ others in
    let reply : one.sent.reply ≡ replies.Rn16 rn = whole-reply (is_expected expects.Rn16 one.sent) one.sent.reply (replies.Rn16 rn) is in
    record {
      replied = one;
      among = inl refl;
      reply = reply;
      only = λ second among same. apart refl second one (contains-of second all among) (contains-of one all (inl refl)) (same ∙ sym reply);
    }

answers-none : (start : Start) (command : Command) (past : List Item) (number : ℕ) (tag : TagValue) (answer : Option Sent)
    → replies_behind 0 command start.tags past ≡ [] → HasNumber start number tag → answer_behind command past number tag ≡ answer → answer ≡ None
answers-none start command past number tag None none numbered is = refl
answers-none start command past number tag (Some sent) none numbered is =
    let here : 0 + number ≡ number = omega arith in
    let among : Among (reply_by (0 + number) sent) (replies_behind 0 command start.tags past) =
    answer-replied command past 0 start.tags number tag sent numbered (subst (λ n. answer_behind command past n tag ≡ Some sent) (sym here) is) in
    absurd (subst (λ (all : List Replied). Among (reply_by (0 + number) sent) all) none among)

-- where there is no reply no tag answered
pub no-replies-none : (start : Start) (command : Command) (past : List Item) (number : ℕ) (tag : TagValue) → replies_behind 0 command start.tags past ≡ []
    → HasNumber start number tag → answer_behind command past number tag ≡ None
no-replies-none start command past number tag none numbered =
    answers-none start command past number tag (answer_behind command past number tag) none numbered refl

-- The one tag that answered a command with this RN16. Where the channel breaks one of several replies no other tag answered; where it
-- captures one, others may have answered with other numbers.
pub record IsOnlyAnswerer (start : Start) (command : Command) (past : List Item) (rn : ℕ) : Type 0 where
  pub number : ℕ
  pub tag : TagValue
  pub sent : Sent
  pub numbered : HasNumber start number tag
  pub answered : answer_behind command past number tag ≡ Some sent
  pub reply : sent.reply ≡ replies.Rn16 rn
  pub only : (other : ℕ) (tag : TagValue) (sent : Sent) → HasNumber start other tag → answer_behind command past other tag ≡ Some sent
      → sent.reply ≡ replies.Rn16 rn → other ≡ number

pub one-answerer : (start : Start) (command : Command) (past : List Item) (rn : ℕ) → IsOneReply (replies_behind 0 command start.tags past) rn → IsOnlyAnswerer start command past rn
one-answerer start command past rn one =
    let by : Answerer 0 command no_entry past start.tags one.replied = answerer 0 command no_entry past start.tags one.replied one.among in
    record {
      number = one.replied.number;
      tag = by.tag;
      sent = one.replied.sent;
      numbered = subst (λ n. slice_get start.tags n ≡ Some by.tag) (sym (by.number_is ∙ omega arith)) by.numbered;
      answered = by.answered;
      reply = one.reply;
      only = λ other tag sent numbered answered same.
          let here : 0 + other ≡ other = omega arith in
          sym here ∙ one.only (reply_by (0 + other) sent)
          (answer-replied command past 0 start.tags other tag sent numbered (subst (λ n. answer_behind command past n tag ≡ Some sent) (sym here) answered)) same;
    }

abbrev rn16_sent : ℕ → Sent
rn16_sent rn = record { reply = replies.Rn16 rn; handle = 0; extended = false }

-- a tag that an ACK acknowledges answered with its RN16 ..
acknowledged-answered : (rn : ℕ) (state : StateValue) → is_acknowledged_by rn state ≡ true
    → slot_answer_of state ≡ Some (record { reply = replies.Rn16 rn; handle = 0; extended = false })
acknowledged-answered rn (ReplyState session q own) is =
    ap (λ n. Some (record { reply = replies.Rn16 n; handle = 0; extended = false })) (eqb-true own rn is)
acknowledged-answered rn state is = absurd (cc)

-- .. and the other way round
answered-acknowledged : (rn : ℕ) (state : StateValue) (sent : Sent) → slot_answer_of state ≡ Some sent → sent.reply ≡ replies.Rn16 rn → is_acknowledged_by rn state ≡ true
answered-acknowledged rn (ReplyState session q own) sent answered same =
    let said : rn16_sent own ≡ sent = cc in
    let reply : replies.Rn16 own ≡ sent.reply = ap (λ (s : Sent). s.reply) said in
    eq-eqb own rn (cc)
answered-acknowledged rn state sent answered same = absurd (cc)

-- a slot command of a run: what was past when it was sent, and what was past just behind it
pub record SlotCommand : Type 0 where
  pub start : Start
  pub command : Command
  pub past : List Item
  pub behind : List Item

-- the state of a tag behind it
abbrev pub state_behind : SlotCommand → ℕ → TagValue → StateValue
state_behind sent number tag = (tag_behind number tag sent.behind).state

-- what each tag answered it is what its state behind it says
abbrev pub AnswersByState : SlotCommand → Type 0
AnswersByState sent =
    (number : ℕ) (tag : TagValue) → HasNumber sent.start number tag → answer_behind sent.command sent.past number tag ≡ slot_answer_of (state_behind sent number tag)

pub same-tag : (start : Start) (number other : ℕ) (tag tag_of_other : TagValue) → HasNumber start number tag → HasNumber start other tag_of_other → number ≡ other → tag ≡ tag_of_other
same-tag start number other tag tag_of_other numbered others same =
    let found : Some tag ≡ Some tag_of_other = sym numbered ∙ ap (λ n. slice_get start.tags n) same ∙ others in cc

-- a tag that an ACK acknowledges is the one tag ..
acknowledged-one : (by : SlotCommand) (rn : ℕ) (one : IsOnlyAnswerer by.start by.command by.past rn) → AnswersByState by
    → (number : ℕ) (tag : TagValue) → HasNumber by.start number tag → is_acknowledged_by rn (state_behind by number tag) ≡ true → (one.number == number) ≡ true
acknowledged-one by rn one by_state number tag numbered is =
    let answered = by_state number tag numbered ∙ acknowledged-answered rn (state_behind by number tag) is in
    eq-eqb one.number number (sym (one.only number tag _ numbered answered refl))

-- .. and the other way round
one-acknowledged : (by : SlotCommand) (rn : ℕ) (one : IsOnlyAnswerer by.start by.command by.past rn) → AnswersByState by
    → (number : ℕ) (tag : TagValue) → HasNumber by.start number tag → (one.number == number) ≡ true → is_acknowledged_by rn (state_behind by number tag) ≡ true
one-acknowledged by rn one by_state number tag numbered same =
    let alike : one.number ≡ number = eqb-true one.number number same in
    let tags : one.tag ≡ tag = same-tag by.start one.number number one.tag tag one.numbered numbered alike in
    let answered : answer_behind by.command by.past number tag ≡ Some one.sent =
    subst (λ (t : TagValue). answer_behind by.command by.past number t ≡ Some one.sent) tags
    (subst (λ n. answer_behind by.command by.past n one.tag ≡ Some one.sent) alike one.answered) in
    answered-acknowledged rn (state_behind by number tag) one.sent (sym (by_state number tag numbered) ∙ answered) one.reply

both-or-none : (one other : Bool) → (one ≡ true → other ≡ true) → (other ≡ true → one ≡ true) → one ≡ other
both-or-none true other first second = sym (first refl)
both-or-none false true first second = second refl
both-or-none false false first second = refl

-- An ACK with the RN16 of the one tag acknowledges that tag alone.
pub acknowledges-one : (by : SlotCommand) (rn : ℕ) (one : IsOnlyAnswerer by.start by.command by.past rn) → AnswersByState by
    → (number : ℕ) (tag : TagValue) → HasNumber by.start number tag → is_acknowledged_by rn (state_behind by number tag) ≡ (one.number == number)
acknowledges-one by rn one by_state number tag numbered =
    both-or-none (is_acknowledged_by rn (state_behind by number tag)) (one.number == number)
    (acknowledged-one by rn one by_state number tag numbered) (one-acknowledged by rn one by_state number tag numbered)

-- the answer to an ACK
abbrev pub epc_sent : BodyValue → Sent
epc_sent body = record { reply = epc_reply body; handle = 0; extended = false }

-- a record of an ACK that brought one reply with an EPC lists the tag that sent it
pub ack-lists : (start : Start) (round slot rn : ℕ) (past : List Item) (number : ℕ) (body : BodyValue) → next_entry start past ≡ no_entry
    → replies_behind 0 (commands.Ack rn) start.tags past ≡ reply_by number (epc_sent body) ∷ []
    → sender_listed_by (next_record start round slot (commands.Ack rn) past) ≡ number ∷ []
ack-lists start round slot rn past number body unsaid alone =
    let sent = next_record start round slot (commands.Ack rn) past in
    let given : sent.given ≡ whole (reply_by number (epc_sent body)) = given-by-default start round slot (commands.Ack rn) past unsaid ∙ ap (λ (all : List Replied). default_given start.several all) alone in
    ap (λ (given : Given). sender_where (listed_from sent (reception_of expects.Epc given)) given) given

-- ... with the PC and the EPC in its memory
pub ack-lists-as : (start : Start) (round slot rn : ℕ) (past : List Item) (number : ℕ) (body : BodyValue) → next_entry start past ≡ no_entry
    → replies_behind 0 (commands.Ack rn) start.tags past ≡ reply_by number (epc_sent body) ∷ []
    → listed_by (next_record start round slot (commands.Ack rn) past) ≡ listed_as (next_record start round slot (commands.Ack rn) past) body.memory ∷ []
ack-lists-as start round slot rn past number body unsaid alone =
    let sent = next_record start round slot (commands.Ack rn) past in
    let given : sent.given ≡ whole (reply_by number (epc_sent body)) =
    given-by-default start round slot (commands.Ack rn) past unsaid ∙ ap (λ (all : List Replied). default_given start.several all) alone in
    ap (λ (given : Given). listed_from sent (reception_of expects.Epc given)) given
