-- The lines that are written for those before a place of the input.
use Rattle.std.proofs.Common.{◌≡◌, ℕ, ◌+◌, List, [], ◌∷◌, ◌++◌, Option, refl, sym, ◌∙◌, ap, subst, append_assoc}
use Rattle.air_io.specs.laws.Flow.{Adds-nothing}
use Rattle.text_fields.specs.Lines.{lines_of}
use Rattle.checked_lines.specs.Answered.{AddsLineFor, AnswersTo}
use Rattle.checked_lines.specs.laws.AnsweredLines.{WholeLine, answers_all, answers_more, answers_none, answers_rest, line_asks}
use Rattle.checked_lines.specs.laws.OneLine.{HaveAnswers}
use Rattle.encode_lines.specs.EncodeLines.{Encodes, EncodesLine, AskForEncoding, encode_rules, written_line}
use Rattle.encode_lines.specs.Request.{AsksToEncode}
use Rattle.encode_lines.specs.Written.{AreWritten}
use Rattle.encode_lines.specs.declared.request.Request.{Request}
use Rattle.top_call.specs.StatusMeanings.{AddsFront}
use Rattle.top_call.specs.UnwrittenBytes.{Loses}

-- what the law of requests says
abbrev pub HaveLines : Type 0
HaveLines = (request : Request) → (fields : List (List ℕ)) × AreWritten request fields

have_answers : HaveLines → HaveAnswers encode_rules
have_answers have line request asks = have request

-- the lines so far have become the text, and those that are left ask for something
pub record EncodesTo (input rest text : List ℕ) : Type 0 where
  pub number : ℕ
  pub so_far : AnswersTo encode_rules input rest text number
  pub others : AskForEncoding rest

-- before the first line
pub encodes_none : (input : List ℕ) → AskForEncoding input → EncodesTo input input []
encodes_none input asks = record { number = 1; so_far = answers_none encode_rules input [] refl; others = asks }

-- the next line asks for something
pub next_asks : (input rest line behind text : List ℕ) → EncodesTo input rest text → lines_of rest ≡ line ∷ lines_of behind → (request : Request) × AsksToEncode line request
next_asks input rest line behind text so_far lines = (line_asks encode_rules rest line behind so_far.others lines).0

-- nothing is left behind the last line feed
nothing_left : (lines : List (List ℕ)) (rest : List ℕ) → lines ++ [] ∷ [] ≡ rest ∷ [] → rest ≡ []
nothing_left [] rest same = cc
nothing_left (line ∷ []) rest same = cc
nothing_left (line ∷ next ∷ lines) rest same = cc

-- the lines so far are all, where none is left
pub encodes_all : (input rest text : List ℕ) → EncodesTo input rest text → lines_of rest ≡ rest ∷ [] → Encodes input text
encodes_all input rest text so_far one =
    answers_all encode_rules input rest text so_far.number so_far.so_far (nothing_left so_far.others.1.lines rest (sym so_far.others.1.cut ∙ one))

-- there is a line for a line that asks for something
line_for : HaveLines → (line : List ℕ) → (request : Request) × AsksToEncode line request → (piece : List ℕ) × EncodesLine line [] piece
line_for have line asks =
    let found = have asks.0 in
    (written_line found.0, record { request = asks.0; asks = asks.1; adds = record { answer = found.0; right = found.1; line = refl } })

-- it is lost with the page where it was not made
pub unmade_line : HaveLines → (line page : List ℕ) (written : Option (List ℕ)) → (request : Request) × AsksToEncode line request
    → (piece : List ℕ) × EncodesLine line [] piece × Loses (page ++ piece) written written
unmade_line have line page written asks =
    let found = line_for have line asks in
    (found.0, found.1, record { sent = []; lost = page ++ found.0; all = refl; added = Adds-nothing written })

-- one more line
pub encodes_more : (input rest text written : List ℕ) → EncodesTo input rest text → (next : WholeLine rest) → lines_of rest ≡ next.line ∷ lines_of next.behind
    → EncodesLine next.line [] written → EncodesTo input next.behind (text ++ written)
encodes_more input rest text written so_far next lines adds =
    let here : AddsLineFor encode_rules next.line text (text ++ written) = record {
      request = adds.request;
      asks = adds.asks;
      adds = record { answer = adds.adds.answer; right = adds.adds.right; line = ap (λ (bytes : List ℕ). text ++ bytes) adds.adds.line };
    } in
    record {
      number = so_far.number + 1;
      so_far = answers_more encode_rules input rest text (text ++ written) so_far.number next so_far.so_far here;
      others = (line_asks encode_rules rest next.line next.behind so_far.others lines).1;
    }

-- what was written before the end is a front of the whole text
pub front_of_lines : HaveLines → (input rest text : List ℕ) (written written' : Option (List ℕ)) → EncodesTo input rest text → Loses text written written' → AddsFront (Encodes input) written written'
front_of_lines have input rest text written written' so_far loses =
    let tail = answers_rest encode_rules (have_answers have) input rest text so_far.number so_far.so_far so_far.others in
    let whole : text ++ tail.0 ≡ loses.sent ++ (loses.lost ++ tail.0) = ap (λ (t : List ℕ). t ++ tail.0) loses.all ∙ append_assoc loses.sent loses.lost tail.0 in
    record {
      front = loses.sent;
      rest = loses.lost ++ tail.0;
      named = subst (Encodes input) whole tail.1;
      added = loses.added;
    }

-- nothing was written where there was no room for the encoder
pub unstarted : HaveLines → (input : List ℕ) (written : Option (List ℕ)) → AskForEncoding input → AddsFront (Encodes input) written written
unstarted have input written asks =
    front_of_lines have input input [] written written (encodes_none input asks) (record { sent = []; lost = []; all = refl; added = Adds-nothing written })
