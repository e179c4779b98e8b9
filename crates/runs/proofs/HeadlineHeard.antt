-- What is listed is what was heard, whoever sent it.
use Rattle.runs.proofs.Names.{◌≡◌, ℕ, ◌∷◌, ◌++◌, [], List, length, Some, ap, arith, AreLegalTags, Given, silence, whole, broken, raw, heard_levels, IsReadBy, Item, Record, exchanged, tags_behind}
use Rattle.runs.proofs.Names.{IsGivenFor, reception_of, stream_reception, whole_is_heard, Command, table_of, stream_least, LinkValue, whole_reply, Expect, Reply, IsWhole, Mode, AreLegalSteps}
use Rattle.runs.proofs.Names.{AreHeardAsListed, IsRecordOf, Acknowledges, Listed, expectation_of, report_of, history, start_of, Scenario}
use Rattle.reply_grammar.specs.declared.expected.Expect.TheVariants as expects
use Rattle.reply_grammar.specs.declared.expected.Reply.TheVariants as replies
use Rattle.reply_grammar.specs.declared.expected.Received.TheVariants.{Whole}
use Rattle.runs.proofs.Growth.{RoundsKeepLimit}
use Rattle.runs.proofs.Answering.{TagLaws}
use Rattle.runs.proofs.HeadlineAll.{listed-kept, told-whole}
use Rattle.runs.proofs.HeadlineListed.{IsTold}
use Rattle.runs.proofs.HeadlineTold.{told-report, told-ack}
use Rattle.runs.proofs.MadeRecords.{behind-record, recorded-expected, made-record, made-read}

-- the tags of a scenario are legal behind each past of its history
abbrev pub StayLegal : Scenario → Type 0
StayLegal scenario = (later earlier : List Item) → history scenario ≡ later ++ earlier → AreLegalTags (tags_behind (start_of scenario) earlier)

-- what is received as a whole reply of the levels that are heard is taken for that reply; of no levels nothing is
whole-taken : (link : LinkValue) (expect : Expect) (given : Given) (reply : Reply) → IsGivenFor expect given → IsReadBy link given
    → IsWhole (table_of link.code) link.trext expect (heard_levels link given) reply → reception_of expect given ≡ whole_reply reply
whole-taken link expect silence reply meets reads is =
    let least = stream_least link.code link.trext is.bits in
    let none = ap length is.stream in
    absurd (omega arith)
whole-taken link expect (whole replied) reply meets reads is = stream_reception link expect (whole replied) (Whole reply) meets reads (λ none. cc) is
whole-taken link expect (broken replied place) reply meets reads is = stream_reception link expect (broken replied place) (Whole reply) meets reads (λ none. cc) is
whole-taken link expect (raw code trext levels) reply meets reads is = stream_reception link expect (raw code trext levels) (Whole reply) meets reads (λ none. cc) is

-- what the channel gives in reply to an ACK of the run of a scenario is an EPC that a tag sent, or is heard by the link
record IsGivenToAck (scenario : Scenario) (given : Given) : Type 0 where
  pub expected : IsGivenFor expects.Epc given
  pub read : IsReadBy scenario.link given

given-to-ack : TagLaws → (scenario : Scenario) (sent : Record) (earlier : List Item) (rn : ℕ) → StayLegal scenario → IsRecordOf (history scenario) sent earlier → Acknowledges sent rn
    → IsGivenToAck scenario sent.given
given-to-ack laws scenario sent earlier rn tags recorded acknowledges =
    let start = start_of scenario in
    let made = made-record start scenario.steps sent earlier recorded in
    let asked : expectation_of sent.command ≡ Some expects.Epc = ap (λ (command : Command). expectation_of command) acknowledges in
    let legal = tags (recorded.later ++ exchanged sent ∷ []) earlier (behind-record (history scenario) sent earlier recorded) in
    record {
      expected = recorded-expected laws start sent earlier expects.Epc made legal asked;
      read = made-read start sent earlier made;
    }

pub heard-as-listed : RoundsKeepLimit → TagLaws → (mode : Mode) (scenario : Scenario) → AreLegalSteps scenario.steps → StayLegal scenario
    → AreHeardAsListed (start_of scenario) (history scenario) (report_of mode (start_of scenario) scenario.steps)
heard-as-listed keeps laws mode scenario legal tags = record {
  listed_is_heard = λ round slot pc epc contains.
      let start = start_of scenario in
      let listed : Listed = record { round = round; slot = slot; pc = pc; epc = epc } in
      let found : IsTold (history scenario) listed = told-report mode start scenario.steps listed contains in
      let to = given-to-ack laws scenario found.sent found.earlier found.tells.rn tags found.recorded found.tells.acknowledges in
      record {
        sent = found.sent;
        earlier = found.earlier;
        ack = told-ack keeps start scenario.steps listed legal found;
        heard = whole_is_heard scenario.link expects.Epc found.sent.given (replies.Epc pc epc) to.expected to.read found.tells.heard;
      };
  heard_is_listed = λ sent earlier rn pc epc recorded acknowledges is.
      let to = given-to-ack laws scenario sent earlier rn tags recorded acknowledges in
      listed-kept keeps mode (start_of scenario) scenario.steps (record { round = sent.round; slot = sent.slot; pc = pc; epc = epc }) legal
      (told-whole (history scenario) sent earlier rn pc epc recorded acknowledges
      (whole-taken scenario.link expects.Epc sent.given (replies.Epc pc epc) to.expected to.read is));
}
