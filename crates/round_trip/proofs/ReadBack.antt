-- What is written is a line of `decode`, and what was read is its answer.
use Rattle.std.proofs.Common.{◌≡◌, ◌⊎◌, ◌≤◌, ◌<◌, ◌^◌, ℕ, Bool, List, [], ◌∷◌, ◌++◌, length, map, refl, sym, ◌∙◌, ap, arith, inl, inr, subst}
use Rattle.std.specs.Prelude.{Ok}
use Rattle.std.specs.Prelude.{All, codes}
use Rattle.std.specs.List.{AllZip}
use Rattle.std.specs.Fmt.{decimal}
use Rattle.std.proofs.lemmas.List.{append-nil}
use Rattle.std.proofs.lemmas.List.Elements.{All-cons, All-head, All-nil, All-tail, All-weaker}
use Rattle.bit_strings.specs.declared.code.Code.{Code}
use Rattle.text_fields.specs.Binary.{binary, binary_digit}
use Rattle.text_fields.specs.CodeNames.{code_word}
use Rattle.text_fields.proofs.FieldTextLaws.{IsFieldText-binary, IsFieldText-cons, IsFieldText-decimal, IsFieldText-one}
use Rattle.text_fields.specs.Lines.{IsFieldText, Lacks, line_feed, line_with, lines_of, space}
use Rattle.text_fields.proofs.LineLaws.{fields_come_back, line_lacks, lines_come_back}
use Rattle.line_code.specs.Stream.{stream_of}
use Rattle.reply_wire.specs.Codes.{table_of}
use Rattle.reply_wire.specs.laws.Codes.{stream_most}
use Rattle.pie_line.specs.Pie.{frame_kind_of, longest_interval, wave_of, IsFrame}
use Rattle.pie_line.specs.Link.{IsLegalLink, LinkValue}
use Rattle.pie_line.specs.declared.frame.Lead.{Lead}
use Rattle.pie_text.proofs.WaveLength.{length-wave}
use Rattle.command_grammar.specs.Commands.{spelling_of, IsLegalCommand, SpellsCommand}
use Rattle.command_grammar.specs.declared.commands.Command.{Command as OneCommand}
use Rattle.wire_text.proofs.CommandFieldTexts.{Texts, bit_is, code_is, no_more, only, with}
use Rattle.reply_grammar.specs.Replies.{AnswersExpected, FitsBank, IsReply, handle_of}
use Rattle.reply_grammar.proofs.Suiting.{spelling-within}
use Rattle.reply_grammar.specs.declared.expected.Expect.{Expect}
use Rattle.reply_grammar.specs.declared.expected.Expect.TheVariants.{Rn16 as OneRn16, Epc as OneEpc, Handle as OneHandle, Same, Words as SomeWords, AnyWords, Header as OneHeader}
use Rattle.reply_grammar.specs.declared.expected.Reply.{Reply}
use Rattle.reply_grammar.specs.declared.expected.Reply.TheVariants.{Rn16, Epc, Handle, Words, Header, Error}
use Rattle.reply_grammar.specs.declared.expected.Received.TheVariants.{Whole}
use Rattle.wire_text.specs.ReplyText.{expect_word, IsExpect, IsReplyForm}
use Rattle.wire_text.proofs.ExpectationFieldTexts.{expect_word_is_field_text}
use Rattle.decode_lines.specs.Answer.{Answer, IsLineAnswer, line_of_answer, StreamAnswer, PieAnswer, CommandAnswer, ReplyAnswer, HeardAnswer}
use Rattle.decode_lines.specs.DecodeLines.{Decodes}
use Rattle.decode_lines.specs.Request.{AsksToDecodeBehind, request_word}
use Rattle.decode_lines.specs.declared.request.RequestKind.{RequestKind}
use Rattle.decode_lines.specs.declared.request.RequestKind.TheVariants as kinds
use Rattle.decode_lines.specs.declared.request.Request.{Request as DecodeRequest}
use Rattle.decode_lines.specs.declared.request.Request.TheVariants as decode
use Rattle.encode_lines.specs.EncodeLines.{Encodes, written_line}
use Rattle.encode_lines.specs.Request.{AsksToEncode, IsWithinEncodeLimits}
use Rattle.encode_lines.specs.Written.{AreOfReply, AreWritten, IsAllowedReply, link_of, refusal_word, refused_fields, reply_bits}
use Rattle.encode_lines.specs.declared.request.Request.{Request}
use Rattle.encode_lines.specs.declared.request.Request.TheVariants.{Stream, Pie, Command, Reply as ReplyLine, Heard}
use Rattle.round_trip.specs.ReadBack.{ComesBack, IsReadBack}

-- a line that asks `decode` for something, with its answer
decodes_line : (kind : RequestKind) (others : List (List ℕ)) (request : DecodeRequest) (answer : Answer) → Texts (request_word kind ∷ others) → AsksToDecodeBehind kind others request
    → IsLineAnswer request answer → Decodes (written_line (request_word kind ∷ others)) (line_of_answer answer)
decodes_line kind others request answer texts asks right =
    let fields = request_word kind ∷ others in
    let line = line_with fields in
    let lacks : Lacks line_feed line = line_lacks fields (All-weaker IsFieldText (Lacks line_feed) (λ field text. text.no_line_feed) fields texts.are) in
    record {
      requests = request ∷ [];
      asks = record {
        lines = line ∷ [];
        cut = ap lines_of (sym (append-nil (line ++ line_feed ∷ []))) ∙ lines_come_back (line ∷ []) (All-cons (Lacks line_feed) line [] lacks (All-nil (Lacks line_feed)));
        each = (
          record {
            kind = kind;
            others = others;
            fields = fields_come_back fields (λ none. cc) (All-weaker IsFieldText (Lacks space) (λ field text. text.no_space) fields texts.are);
            asks = asks;
          },
          tt,
        );
      };
      answers = record { answers = answer ∷ []; each = (right, tt); lines = sym (append-nil (line_of_answer answer)) };
    }

pie_is : IsFieldText (codes "pie")
pie_is = search (arith, IsFieldText-cons, IsFieldText-one) depth 12

command_is : IsFieldText (codes "command")
command_is = search (arith, IsFieldText-cons, IsFieldText-one) depth 20

reply_is : IsFieldText (codes "reply")
reply_is = search (arith, IsFieldText-cons, IsFieldText-one) depth 20

heard_is : IsFieldText (codes "heard")
heard_is = search (arith, IsFieldText-cons, IsFieldText-one) depth 20

numbers_are : (numbers : List ℕ) → All (λ number. number ≤ longest_interval) numbers → Texts (map decimal numbers)
numbers_are [] within = no_more
numbers_are (n ∷ numbers) within =
    let Small : ℕ → Type 0 = λ number. number ≤ longest_interval in
    with (decimal n) (map decimal numbers) (IsFieldText-decimal n (omega (arith, All-head Small n numbers within))) (numbers_are numbers (All-tail Small n numbers within))

-- the stream of bits that are no more than those of the longest reply has room in a line
stream_back : (code : Code) (trext : Bool) (bits : List Bool) → length bits ≤ 8225
    → Decodes (written_line (code_word code ∷ (binary_digit trext ∷ []) ∷ binary (stream_of (table_of code) trext bits) ∷ [])) (line_of_answer (StreamAnswer (Ok bits)))
stream_back code trext bits few =
    let levels = stream_of (table_of code) trext bits in
    let most = stream_most code trext bits in
    decodes_line (kinds.Stream code) ((binary_digit trext ∷ []) ∷ binary levels ∷ []) (decode.Stream code trext levels) (StreamAnswer (Ok bits))
    (with _ _ (code_is code) (with _ _ (bit_is trext) (only _ (IsFieldText-binary levels))))
    (record { same_kind = refl; spelling = refl; limits = omega (arith, few, most) }) refl

-- what laws of lower crates say: a wave is a frame, none of whose intervals is too long; a stream that brings an allowed reply is received
-- whole; and commands have short spellings
pub record WrittenLaws : Type 0 where
  pub frame : (link : LinkValue) (lead : Lead) (bits : List Bool) → IsLegalLink link → IsFrame (frame_kind_of link lead) bits (wave_of link lead bits)
  pub each : (link : LinkValue) (lead : Lead) (bits : List Bool) → IsLegalLink link → All (λ interval. interval ≤ longest_interval) (wave_of link lead bits)
  pub short : (command : OneCommand) (bits : List Bool) → SpellsCommand command bits → length bits ≤ 4162

wave_back : WrittenLaws → (link : LinkValue) (lead : Lead) (bits : List Bool) → IsLegalLink link → length bits ≤ 8240
    → Decodes (written_line (codes "pie" ∷ map decimal (wave_of link lead bits))) (line_of_answer (PieAnswer (Ok (frame_kind_of link lead, bits))))
wave_back laws link lead bits legal few =
    let wave = wave_of link lead bits in
    let size = length-wave link lead bits in
    let small = laws.each link lead bits legal in
    decodes_line kinds.Pie (map decimal wave) (decode.Pie wave) (PieAnswer (Ok (frame_kind_of link lead, bits)))
    (with _ _ pie_is (numbers_are wave small))
    (record { same_kind = refl; spelling = refl; limits = (size.0, omega (arith, few, size.1), small) }) (laws.frame link lead bits legal)

command_back : WrittenLaws → (command : OneCommand) → IsLegalCommand command
    → Decodes (written_line (codes "command" ∷ binary (spelling_of command) ∷ [])) (line_of_answer (CommandAnswer (Ok command)))
command_back laws command legal =
    let spells : SpellsCommand command (spelling_of command) = record { legal = legal; spelled = refl } in
    decodes_line kinds.Command (binary (spelling_of command) ∷ []) (decode.Command (spelling_of command)) (CommandAnswer (Ok command))
    (with _ _ command_is (only _ (IsFieldText-binary (spelling_of command))))
    (record { same_kind = refl; spelling = refl; limits = omega (arith, laws.short command (spelling_of command) spells) }) spells

-- an allowed reply is in its ranges
allowed_range : (expect : Expect) (reply : Reply) → IsReplyForm reply → IsAllowedReply expect reply → IsReply reply
allowed_range expect (Rn16 rn) form allowed = form
allowed_range expect (Epc pc epc) form allowed = (form.0, form.1.small, allowed.1)
allowed_range expect (Handle rn) form allowed = form
allowed_range expect (Words words) form allowed = form.small
allowed_range expect Header form allowed = tt
allowed_range expect (Error code) form allowed = form

form_fits : (reply : Reply) → IsReplyForm reply → FitsBank reply
form_fits (Rn16 rn) form = tt
form_fits (Epc pc epc) form = tt
form_fits (Handle rn) form = tt
form_fits (Words words) form = form.room
form_fits Header form = tt
form_fits (Error code) form = tt

expect_range : (expect : Expect) → IsExpect expect → handle_of expect < 2 ^ 16
expect_range OneRn16 is = omega arith
expect_range OneEpc is = omega arith
expect_range OneHandle is = omega arith
expect_range (Same handle) is = is
expect_range (SomeWords count handle) is = is.2
expect_range (AnyWords handle) is = is
expect_range (OneHeader handle) is = is

reply_answers : (expect : Expect) (reply : Reply) → IsExpect expect → IsReplyForm reply → IsAllowedReply expect reply → AnswersExpected reply expect (reply_bits expect reply)
reply_answers expect reply is form allowed =
    record { suits = allowed.0; in_range = allowed_range expect reply form allowed; handle_in_range = expect_range expect is; spelled = refl }

reply_few : (expect : Expect) (reply : Reply) → IsReplyForm reply → IsAllowedReply expect reply → length (reply_bits expect reply) ≤ 8225
reply_few expect reply form allowed = (spelling-within reply (handle_of expect) (allowed_range expect reply form allowed) (form_fits reply form)).1

reply_back : (expect : Expect) (reply : Reply) → IsExpect expect → IsReplyForm reply → IsAllowedReply expect reply
    → Decodes (written_line (codes "reply" ∷ expect_word expect ∷ binary (reply_bits expect reply) ∷ [])) (line_of_answer (ReplyAnswer (Ok reply)))
reply_back expect reply is form allowed =
    let bits = reply_bits expect reply in
    decodes_line kinds.Reply (expect_word expect ∷ binary bits ∷ []) (decode.Reply expect bits) (ReplyAnswer (Ok reply))
    (with _ _ reply_is (with _ _ (expect_word_is_field_text expect is) (only _ (IsFieldText-binary bits))))
    (record { same_kind = refl; spelling = refl; limits = (is, omega (arith, reply_few expect reply form allowed)) })
    (reply_answers expect reply is form allowed)

heard_back : (code : Code) (trext : Bool) (expect : Expect) (reply : Reply) → IsExpect expect → IsReplyForm reply → IsAllowedReply expect reply
    → Decodes (written_line (codes "heard" ∷ code_word code ∷ (binary_digit trext ∷ []) ∷ expect_word expect ∷ binary (stream_of (table_of code) trext (reply_bits expect reply)) ∷ []))
    (line_of_answer (HeardAnswer (Whole reply)))
heard_back code trext expect reply is form allowed =
    let bits = reply_bits expect reply in
    let levels = stream_of (table_of code) trext bits in
    let most = stream_most code trext bits in
    decodes_line kinds.Heard (code_word code ∷ (binary_digit trext ∷ []) ∷ expect_word expect ∷ binary levels ∷ []) (decode.Heard code trext expect levels) (HeardAnswer (Whole reply))
    (with _ _ heard_is (with _ _ (code_is code) (with _ _ (bit_is trext) (with _ _ (expect_word_is_field_text expect is) (only _ (IsFieldText-binary levels))))))
    (record { same_kind = refl; spelling = refl; limits = (is, omega (arith, reply_few expect reply form allowed, most)) })
    (record { bits = bits; stream = refl; answers = reply_answers expect reply is form allowed })

-- fields of an allowed reply are read back, and others refuse it
of_reply : (expect : Expect) (reply : Reply) (written fields : List (List ℕ)) (text : List ℕ) → AreOfReply expect reply written fields → (IsAllowedReply expect reply → Decodes (written_line written) text)
    → ((what : List ℕ) × (fields ≡ refused_fields what)) ⊎ Decodes (written_line fields) text
of_reply expect reply written fields text (inl (allowed, same)) back = inr (subst (λ f. Decodes (written_line f) text) (sym same) (back allowed))
of_reply expect reply written fields text (inr (none, same)) back = inl (codes "reply", same)

request_back : WrittenLaws → (request : Request) (fields : List (List ℕ)) → IsWithinEncodeLimits request → AreWritten request fields → IsReadBack request fields
request_back laws (Stream code trext bits) fields within written =
    inr (subst (λ f. Decodes (written_line f) (line_of_answer (StreamAnswer (Ok bits)))) (sym written) (stream_back code trext bits within))
request_back laws (Pie durations lead bits) fields within (inl wave) =
    let link = link_of durations in
    inr (subst (λ f. Decodes (written_line f) (line_of_answer (PieAnswer (Ok (frame_kind_of link lead, bits))))) (sym wave.wave)
    (wave_back laws link lead bits wave.legal within.1))
request_back laws (Pie durations lead bits) fields within (inr refused) = inl (refusal_word refused.refusal, refused.refused)
request_back laws (Command command) fields within written =
    inr (subst (λ f. Decodes (written_line f) (line_of_answer (CommandAnswer (Ok command)))) (sym written) (command_back laws command within))
request_back laws (ReplyLine expect reply) fields within written = of_reply expect reply _ fields _ written (reply_back expect reply within.0 within.1)
request_back laws (Heard code trext expect reply) fields within written = of_reply expect reply _ fields _ written (heard_back code trext expect reply within.0 within.1)

pub line_back : WrittenLaws → (line : List ℕ) (request : Request) (fields : List (List ℕ)) → AsksToEncode line request → AreWritten request fields → IsReadBack request fields
line_back laws line request fields asks written = request_back laws request fields asks.asks.limits written

-- ... and so are all
all_back : WrittenLaws → (lines : List (List ℕ)) (requests : List Request) (written : List (List (List ℕ))) → AllZip AsksToEncode lines requests → AllZip AreWritten requests written
    → AllZip IsReadBack requests written
all_back laws [] [] [] asks each = tt
all_back laws [] [] (w ∷ written) asks each = each
all_back laws [] (r ∷ requests) written asks each = absurd asks
all_back laws (l ∷ lines) [] written asks each = absurd asks
all_back laws (l ∷ lines) (r ∷ requests) [] asks each = absurd each
all_back laws (l ∷ lines) (r ∷ requests) (w ∷ written) asks each = (line_back laws l r w asks.0 each.0, all_back laws lines requests written asks.1 each.1)

pub text_back : WrittenLaws → (bytes text : List ℕ) → Encodes bytes text → ComesBack bytes text
text_back laws bytes text encodes = record {
  requests = encodes.requests;
  asks = encodes.asks;
  written = encodes.answers.answers;
  each = encodes.answers.each;
  lines = encodes.answers.lines;
  back = all_back laws encodes.asks.lines encodes.requests encodes.answers.answers encodes.asks.each encodes.answers.each;
}
