-- What an exchange lists, by what is received of its levels.
use Rattle.air_audit.proofs.Names.{◌≡◌, ◌≢◌, ℕ, Bool, List, [], ◌∷◌, Option, Some, None, Ok, slice_get, refl, sym, ap, ◌∙◌, subst, AuditorValue, GivesStream, IsHearing, Lists, place_in}
use Rattle.air_audit.proofs.Names.{place_of_command, record_of, Several, stream_reception, Given, IsOfStreamLength, whole_or_silence, first_broken, default_given, given_of, got_of, heard_levels}
use Rattle.air_audit.proofs.Names.{silence, Start, Record, Item, next_entry, next_record, tags_behind, IsGivenFor, reception_of, Command, table_of, LinkValue, Reception, no_stream, whole_reply}
use Rattle.air_audit.proofs.Names.{no_such_reply, reception_from, Received, IsReceived, TagLaws, given-in-expected, made-read, listed_by, listed_from, reception_of_ack, expectation_of, Replied}
use Rattle.air_events.specs.declared.Several.TheVariants as severals
use Rattle.command_grammar.specs.declared.commands.Command.TheVariants as commands
use Rattle.reply_grammar.specs.declared.expected.Expect.TheVariants as expects
use Rattle.reply_grammar.specs.declared.expected.Reply.TheVariants as replies
use Rattle.air_events.specs.declared.Choice.{Choice}
use Rattle.air_events.specs.declared.Choice.TheVariants as choices
use Rattle.reply_wire.specs.Heard.{pair_received}
use Rattle.air_model.specs.declared.got.Got.TheVariants.{Silence}

-- a raw stream that is given has a length of streams
picked-length : (picked : Option Replied) → IsOfStreamLength (whole_or_silence picked)
picked-length None = tt
picked-length (Some replied) = tt

broken-length : (replies : List Replied) (place : ℕ) → IsOfStreamLength (first_broken replies place)
broken-length [] place = tt
broken-length (replied ∷ others) place = tt

default-length : (several : Several) (replies : List Replied) → IsOfStreamLength (default_given several replies)
default-length several [] = tt
default-length several (replied ∷ []) = tt
default-length severals.Break (replied ∷ other ∷ others) = tt
default-length severals.Capture (replied ∷ other ∷ others) = tt

given-length : (link : LinkValue) (replies : List Replied) (choice : Option Choice) (several : Several) → GivesStream choice → IsOfStreamLength (given_of link replies choice several)
given-length link replies (Some (choices.Pick number)) several gives = picked-length (slice_get replies number)
given-length link replies (Some choices.Silent) several gives = tt
given-length link replies (Some (choices.Break place)) several gives = broken-length replies place
given-length link replies (Some (choices.Raw levels)) several gives = gives
given-length link replies None several gives = default-length several replies

pub made-length : (start : Start) (past : List Item) (sent : Record) (auditor : AuditorValue) → IsHearing start past sent auditor → IsOfStreamLength sent.given
made-length start past sent auditor is =
    subst (λ (g : Given). IsOfStreamLength g) (sym (ap (λ (r : Record). r.given) is.made))
    (given-length start.link _ _ start.several (is.keeps.given.streams _))

some-stream : (link : LinkValue) (given : Given) → heard_levels link given ≢ [] → got_of link given ≢ Silence
some-stream link silence some got = some refl
some-stream link given some got = cc

-- what a reception lists
lists-from : (sent : Record) (reception : Reception) → listed_by sent ≡ listed_from sent reception → Lists (pair_received reception) sent
lists-from sent no_stream same = same
lists-from sent (whole_reply (replies.Epc pc epc)) same = same
lists-from sent (whole_reply reply) same = same
lists-from sent no_such_reply same = same

pub made-again : (start : Start) (past : List Item) (sent : Record) → sent ≡ record_of start past sent.command → sent ≡ next_record start sent.round sent.slot sent.command past
made-again start past sent made =
    let round : sent.round ≡ (place_of_command (place_in past) sent.command).round = ap (λ (r : Record). r.round) made in
    let slot : sent.slot ≡ (place_of_command (place_in past) sent.command).slot = ap (λ (r : Record). r.slot) made in
    made ∙ ap (λ n. next_record start n (place_of_command (place_in past) sent.command).slot sent.command past) (sym round)
    ∙ ap (λ n. next_record start sent.round n sent.command past) (sym slot)

-- what is received of the levels that came behind an ACK
pub record HearsEpc (start : Start) (past : List Item) (sent : Record) (auditor : AuditorValue) (received : Received) : Type 0 where
  pub is : IsHearing start past sent auditor
  pub rn : ℕ
  pub ack : auditor.sent ≡ Ok (commands.Ack rn)
  pub some : auditor.answers.levels ≢ []
  pub heard : IsReceived (table_of auditor.answers.link.code) auditor.answers.link.trext expects.Epc auditor.answers.levels received

-- ... is what the record makes of them
pub lists-received : TagLaws → (start : Start) (past : List Item) (sent : Record) (auditor : AuditorValue) (received : Received) (pair : Option (ℕ × List ℕ))
    → HearsEpc start past sent auditor received → pair ≡ pair_received (reception_from received) → Lists pair sent
lists-received laws start past sent auditor received pair hears brings =
    let is = hears.is in
    let command : sent.command ≡ commands.Ack hears.rn = let same = is.command in let ack = hears.ack in cc in
    let at_link : IsReceived (table_of start.link.code) start.link.trext expects.Epc auditor.answers.levels received =
    subst (λ (l : LinkValue). IsReceived (table_of l.code) l.trext expects.Epc auditor.answers.levels received) is.keeps.link hears.heard in
    let by_record : IsReceived (table_of start.link.code) start.link.trext expects.Epc (heard_levels start.link sent.given) received =
    subst (λ (levels : List Bool). IsReceived (table_of start.link.code) start.link.trext expects.Epc levels received) is.levels at_link in
    let expected : IsGivenFor expects.Epc sent.given =
    subst (λ (g : Given). IsGivenFor expects.Epc g) (sym (ap (λ (r : Record). r.given) is.made))
    (given-in-expected laws start sent.command expects.Epc (next_entry start past) (tags_behind start past) (ap (λ (c : Command). expectation_of c) command) is.legal) in
    let reception : reception_of expects.Epc sent.given ≡ reception_from received =
    stream_reception start.link expects.Epc sent.given received expected (made-read start sent past (made-again start past sent is.made))
    (some-stream start.link sent.given (λ none. hears.some (is.levels ∙ none))) by_record in
    subst (λ (p : Option (ℕ × List ℕ)). Lists p sent) (sym brings)
    (lists-from sent (reception_from received) (ap (λ (c : Command). listed_from sent (reception_of_ack sent c)) command ∙ ap (λ (r : Reception). listed_from sent r) reception))
