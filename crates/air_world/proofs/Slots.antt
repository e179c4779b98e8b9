-- What the exchanges of a slot make of a run.
use Rattle.std.proofs.lemmas.List.{append-nil}
use Rattle.air_world.proofs.Names.{◌≡◌, ◌≢◌, ℕ, ◌+◌, ◌||◌, Bool, false, List, ◌∷◌, ◌++◌, map, Option, Some, None, refl, sym, ◌∙◌, ap, subst, arith, append_assoc, [], Dialogue, IsAnswerFor}
use Rattle.air_world.proofs.Names.{dialogue_of, done, OpList, AirValue, awaited_reception, stream_reception, IsReadBy, heard_levels, Start, Record, Item, exchanged, past_behind_command, Gave, Begun}
use Rattle.air_world.proofs.Names.{HasRoomForExchanges, IsSentAndHeard, RunIsAt, RunValue, StandsAt, IsBehind, IsToldWhole, lines_to_tell, Command, LinkValue, Reception, reception_from, no_stream, whole_reply}
use Rattle.air_world.proofs.Names.{no_such_reply, Expect, pair_received, rn16_received, ReportLine, ack_reception, dialogue_begun, past_behind_ack, past_behind_answer, past_behind_dialogue}
use Rattle.air_world.proofs.Names.{past_behind_slot, slot_reception, Listed, reception_of_ack, listed_from, listed_by, exchange_lines, list_line}
use Rattle.air_model.specs.declared.got.Got.TheVariants as gots
use Rattle.command_grammar.specs.declared.commands.Command.TheVariants as commands
use Rattle.reply_grammar.specs.declared.expected.Expect.TheVariants as expects
use Rattle.reply_grammar.specs.declared.expected.Reply.TheVariants as replies
use Rattle.access_ops.specs.declared.op_next.Answer.TheVariants.{Got}
use Rattle.air_model.specs.Reception.{HoldsOfSent, IsGivenFor, IsUnmistakable, reception_of, reception_with}
use Rattle.line_code.specs.Table.{Table}
use Rattle.reply_wire.specs.Codes.{table_of}
use Rattle.reply_grammar.specs.declared.expected.Received.{Received}
use Rattle.reply_grammar.specs.declared.expected.Received.TheVariants as receiveds
use Rattle.reply_wire.specs.Received.{IsReceived}

-- what is heard of levels that came, where this is expected
pub received-answer : (t : Table) (trext : Bool) (expect : Expect) (levels : List Bool) (received : Received) → IsReceived t trext expect levels received → IsAnswerFor expect (Got received)
received-answer t trext expect levels (receiveds.Whole reply) is = (is.answers.suits, is.answers.in_range)
received-answer t trext expect levels (receiveds.Refused place) is = tt

-- what is received of the stream of an exchange is received of the levels of its record
received-of : {link : LinkValue} {sent : Record} {air : AirValue} {got : Gave} → IsBehind link sent air got → (extended : Bool) (expect : Expect) (received : Received)
    → IsReceived (table_of air.link.code) (extended || air.link.trext) expect air.stream received
    → IsReceived (table_of link.code) (extended || link.trext) expect (heard_levels link sent.given) received
received-of {link} {air} behind extended expect received heard =
    subst (λ (levels : List Bool). IsReceived (table_of link.code) (extended || link.trext) expect levels received) behind.stream
    (subst (λ (l : LinkValue). IsReceived (table_of l.code) (extended || l.trext) expect air.stream received) behind.link_is heard)

-- what is received of the stream of an exchange, where the command of an inventory awaits it, is what the record says
pub inventory-heard : {link : LinkValue} {sent : Record} {air : AirValue} {got : Gave} → IsBehind link sent air got → (expect : Expect) (received : Received) → IsGivenFor expect sent.given
    → IsReadBy link sent.given → got ≢ gots.Silence → IsReceived (table_of air.link.code) air.link.trext expect air.stream received → reception_from received ≡ reception_of expect sent.given
inventory-heard {link} {sent} {got} behind expect received expected read came heard =
    sym (stream_reception link expect sent.given received expected read (λ none. came (behind.got_is ∙ none)) (received-of behind false expect received heard))

-- ... and where one of a dialogue does
pub dialogue-heard : {link : LinkValue} {sent : Record} {air : AirValue} {got : Gave} → IsBehind link sent air got → (expect : Expect) (extended : Bool) (received : Received)
    → HoldsOfSent (IsUnmistakable expect) sent.given → IsReadBy link sent.given → got ≢ gots.Silence
    → IsReceived (table_of air.link.code) (extended || air.link.trext) expect air.stream received → reception_from received ≡ reception_with link.trext extended expect sent.given
dialogue-heard {link} {sent} behind expect extended received unmistakable read came heard =
    sym (awaited_reception link extended expect sent.given received unmistakable read (λ none. came (behind.got_is ∙ none)) (received-of behind extended expect received heard))

-- what a slot command with a stream brings, by the RN16 that comes whole
abbrev pub rn16_reception : Option ℕ → Reception
rn16_reception (Some rn) = whole_reply (replies.Rn16 rn)
rn16_reception None = no_such_reply

-- a stream that brings no RN16 where one is expected is no such reply
pub rn16-heard : (t : Table) (trext : Bool) (levels : List Bool) (received : Received) (rn : Option ℕ) → IsReceived t trext expects.Rn16 levels received
    → rn ≡ rn16_received (reception_from received) → rn16_reception rn ≡ reception_from received
rn16-heard t trext levels (receiveds.Whole (replies.Rn16 own)) rn is found = ap rn16_reception found
rn16-heard t trext levels (receiveds.Whole reply) rn is found = absurd is.answers.suits
rn16-heard t trext levels (receiveds.Refused place) rn is found = ap rn16_reception found

-- behind an exchange that lists these, which were told
stands-exchanged : {A : Type 0} {hears : A → List ReportLine → A → Type 0} {begun : Begun A} {past : List Item} {sent : Record} {air : AirValue} {run after : RunValue} {report next : A} {got : Gave}
    (listed : List Listed) → IsSentAndHeard hears begun past sent air run report got → listed_by sent ≡ listed → after ≡ run
    → hears begun.first ((lines_to_tell begun.start past ++ exchange_lines begun.start.link sent) ++ map list_line listed) next → StandsAt hears begun (exchanged sent ∷ past) air after next
stands-exchanged {hears} {begun} {past} {sent} {air} {next} listed is lists same heard =
    let before : List ReportLine = lines_to_tell begun.start past in
    let lines : List ReportLine = exchange_lines begun.start.link sent in
    record {
      at = subst (λ (r : RunValue). RunIsAt begun.start begun.earlier (exchanged sent ∷ past) air r) (sym same) is.at;
      heard = subst (λ (all : List ReportLine). hears begun.first all next)
          (append_assoc before lines (map list_line listed) ∙ ap (λ (l : List Listed). before ++ (lines ++ map list_line l)) (sym lists)) heard;
    }

-- where an exchange lists nothing
pub stands-unlisted : {A : Type 0} {hears : A → List ReportLine → A → Type 0} {begun : Begun A} {past : List Item} {sent : Record} {air : AirValue} {run after : RunValue} {report : A} {got : Gave}
    → IsSentAndHeard hears begun past sent air run report got → listed_by sent ≡ [] → after ≡ run → StandsAt hears begun (exchanged sent ∷ past) air after report
stands-unlisted {hears} {begun} {past} {sent} {report} is none same =
    stands-exchanged [] is none same
    (subst (λ (lines : List ReportLine). hears begun.first lines report) (sym (append-nil (lines_to_tell begun.start past ++ exchange_lines begun.start.link sent))) is.heard)

-- where it lists one tag, which was told
pub stands-listed : {A : Type 0} {hears : A → List ReportLine → A → Type 0} {begun : Begun A} {past : List Item} {sent : Record} {air : AirValue} {run after : RunValue} {report next : A} {got : Gave}
    (listed : Listed) → IsSentAndHeard hears begun past sent air run report got → listed_by sent ≡ listed ∷ [] → after ≡ run → IsToldWhole hears (list_line listed ∷ []) report next
    → StandsAt hears begun (exchanged sent ∷ past) air after next
stands-listed {begun} listed is one same told = stands-exchanged (listed ∷ []) is one same (told.on begun.first _ is.heard)

-- what stands behind the same past
pub stands-same : {A : Type 0} {hears : A → List ReportLine → A → Type 0} {begun : Begun A} {past same : List Item} {air : AirValue} {run : RunValue} {report : A}
    → past ≡ same → StandsAt hears begun same air run report → StandsAt hears begun past air run report
stands-same {hears} {begun} {air} {run} {report} is stands = subst (λ (p : List Item). StandsAt hears begun p air run report) (sym is) stands

not-ack : (sent : Record) (command : Command) → ((rn : ℕ) → command ≢ commands.Ack rn) → reception_of_ack sent command ≡ no_stream
not-ack sent (commands.Ack rn) other = absurd (other rn refl)
not-ack sent command other = refl

-- no command but an ACK lists
pub others-unlisted : (sent : Record) → ((rn : ℕ) → sent.command ≢ commands.Ack rn) → listed_by sent ≡ []
others-unlisted sent other = ap (λ (r : Reception). listed_from sent r) (not-ack sent sent.command other)

-- what the PC and the EPC that an ACK brings list
pub whole-listed : (sent : Record) (reception : Reception) (pair : ℕ × List ℕ) → pair_received reception ≡ Some pair
    → listed_from sent reception ≡ record { round = sent.round; slot = sent.slot; pc = pair.0; epc = pair.1 } ∷ []
whole-listed sent (whole_reply (replies.Epc pc epc)) pair is =
    let same : (pc, epc) ≡ pair = cc in ap (λ (p : ℕ × List ℕ). record { round = sent.round; slot = sent.slot; pc = p.0; epc = p.1 } ∷ []) same
whole-listed sent reception pair is = absurd (cc)

pub other-unlisted : (sent : Record) (reception : Reception) → pair_received reception ≡ None → listed_from sent reception ≡ []
other-unlisted sent (whole_reply (replies.Epc pc epc)) is = absurd (cc)
other-unlisted sent reception is = refl

-- what is past behind a slot, by what its slot command brought
pub slot-behind : {reception : Reception} (start : Start) (operations : OpList) (round slot : ℕ) (command : Command) (past : List Item) → reception ≡ slot_reception start round slot command past
    → past_behind_slot start operations round slot command past ≡ past_behind_answer start operations round slot reception (past_behind_command start round slot command past)
slot-behind start operations round slot command past is =
    ap (λ (r : Reception). past_behind_answer start operations round slot r (past_behind_command start round slot command past)) (sym is)

-- what is done behind an ACK that brought no EPC
pub other-begun : (operations : OpList) (rn : ℕ) (reception : Reception) → pair_received reception ≡ None → dialogue_begun operations rn reception ≡ done
other-begun operations rn (whole_reply (replies.Epc pc epc)) is = absurd (cc)
other-begun operations rn reception is = refl

-- ... and behind one that brought an EPC
pub whole-begun : (operations : OpList) (rn : ℕ) (reception : Reception) (pair : ℕ × List ℕ) → pair_received reception ≡ Some pair
    → dialogue_begun operations rn reception ≡ dialogue_of operations pair.1 rn
whole-begun operations rn (whole_reply (replies.Epc pc epc)) pair is = let same : (pc, epc) ≡ pair = cc in ap (λ (p : ℕ × List ℕ). dialogue_of operations p.1 rn) same
whole-begun operations rn reception pair is = absurd (cc)

-- the past behind an ACK, by what is done then
pub ack-behind : {dialogue : Dialogue} (start : Start) (operations : OpList) (round slot rn : ℕ) (past : List Item) → dialogue_begun operations rn (ack_reception start round slot rn past) ≡ dialogue
    → past_behind_ack start operations round slot rn past ≡ past_behind_dialogue start round slot 1 dialogue (past_behind_command start round slot (commands.Ack rn) past)
ack-behind start operations round slot rn past is = ap (λ (d : Dialogue). past_behind_dialogue start round slot 1 d (past_behind_command start round slot (commands.Ack rn) past)) is

-- room for one exchange more
pub room-behind : (start : Start) (round slot : ℕ) (command : Command) (past : List Item) (more : ℕ) → HasRoomForExchanges (1 + more) past
    → HasRoomForExchanges more (past_behind_command start round slot command past)
room-behind start round slot command past more room = omega arith
