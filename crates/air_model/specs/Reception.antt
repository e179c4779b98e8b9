-- What the interrogator makes of what the channel gives, as a function of the reply that was sent, or of the levels of a raw
-- stream. That it is what the levels say by the line code and the table of replies (Received.antt) is a law.
use Rattle.std.specs.Prelude.{◌≡◌, ℕ, ◌==◌, ◌&&◌, ◌||◌, not, Bool, true, false, Some, if◌then◌else◌}
use Rattle.reply_grammar.specs.Replies.{AnswersExpected, handle_of, spelling, suits}
use Rattle.reply_grammar.specs.declared.expected.Expect.{Expect}
use Rattle.reply_grammar.specs.declared.expected.Reply.{Reply}
use Rattle.reply_grammar.specs.declared.expected.Reply.TheVariants.{Rn16, Epc, Handle, Words, Header, Error}
use Rattle.reply_grammar.specs.Reception.{Reception, no_stream, whole_reply, no_such_reply, reception_from}
use Rattle.reply_wire.specs.Receiving.{received_of}
use Rattle.tag_machine.specs.Answers.{Sent, IsSent}
use Rattle.air_model.specs.Channel.{Given, silence, whole, broken, raw}

-- the handle in a reply is the one that is expected, where a reply of its kind has one
abbrev pub has_handle : Reply → ℕ → ℕ → Bool
has_handle (Rn16 rn) handle expected = true
has_handle (Epc pc epc) handle expected = true
has_handle (Handle rn) handle expected = true
has_handle (Words words) handle expected = handle == expected
has_handle Header handle expected = handle == expected
has_handle (Error code) handle expected = handle == expected

-- what was sent is a reply that is expected
abbrev pub is_expected : Expect → Sent → Bool
is_expected expect sent = suits sent.reply expect && has_handle sent.reply sent.handle (handle_of expect)

-- no stream with one level inverted is a stream, so that a broken reply is never whole; levels of a raw stream may be anything
abbrev pub reception_of : Expect → Given → Reception
reception_of expect silence = no_stream
reception_of expect (whole replied) = if is_expected expect replied.sent then whole_reply replied.sent.reply else no_such_reply
reception_of expect (broken replied place) = no_such_reply
reception_of expect (raw code trext levels) = reception_from (received_of code trext expect levels)

-- 6.3.2.11.3.3 Write: some replies come with the extended preamble whatever the TRext of the Query says. A reply has the
-- preamble that is awaited.
abbrev pub has_preamble : (trext extended : Bool) → Sent → Bool
has_preamble trext extended sent = trext || (if extended then sent.extended else not sent.extended)

-- what is made of what the channel gives, where a reply with the extended preamble is awaited or one by the TRext: a reply with
-- the other preamble is no stream with the one that is awaited
abbrev pub reception_with : (trext extended : Bool) → Expect → Given → Reception
reception_with trext extended expect (whole replied) =
    (if has_preamble trext extended replied.sent then reception_of expect (whole replied) else no_such_reply)
reception_with trext extended expect (raw code own levels) = reception_from (received_of code (extended || own) expect levels)
reception_with trext extended expect given = reception_of expect given

-- this holds of what was sent, where the channel gives a reply, whole or broken
abbrev pub HoldsOfSent : (Sent → Type 0) → Given → Type 0
HoldsOfSent P silence = Unit {0}
HoldsOfSent P (whole replied) = P replied.sent
HoldsOfSent P (broken replied place) = P replied.sent
HoldsOfSent P (raw code trext levels) = Unit {0}

-- the numbers of what the channel gives are in their ranges
abbrev pub IsGiven : Given → Type 0
IsGiven given = HoldsOfSent (λ sent. IsSent (Some sent)) given

-- what was sent is in its ranges, and where it is no reply that is expected, its bits are none: it is not taken for another
pub record IsUnmistakable (expect : Expect) (sent : Sent) : Type 0 where
  pub in_range : IsSent (Some sent)
  pub unexpected : is_expected expect sent ≡ false → (reply : Reply) → ¬ AnswersExpected reply expect (spelling sent.reply sent.handle)

-- what was sent is in its ranges, has the preamble of the link's TRext, and is a reply that is expected
pub record IsReplyFor (expect : Expect) (sent : Sent) : Type 0 where
  pub in_range : IsSent (Some sent)
  pub by_link : sent.extended ≡ false
  pub expected : is_expected expect sent ≡ true

-- what the channel gives is such a reply, whole or broken, or silence
abbrev pub IsGivenFor : Expect → Given → Type 0
IsGivenFor expect given = HoldsOfSent (IsReplyFor expect) given
