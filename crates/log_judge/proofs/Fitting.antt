-- Of which kind a command is at which so much may be drawn.
use Rattle.std.proofs.Common.{◌≡◌, ℕ, ◌==◌, ◌&&◌, Bool, true, false, Option, Some, None, if◌then◌else◌, refl, rules}
use Rattle.command_fields.specs.declared.choices.Sel.{Sel}
use Rattle.command_fields.specs.declared.choices.Side.{Side}
use Rattle.command_fields.specs.declared.choices.UpDn.{UpDn}
use Rattle.command_grammar.specs.declared.commands.Command.{Command}
use Rattle.command_grammar.specs.declared.commands.Command.TheVariants as commands
use Rattle.lock_rules.specs.declared.fields_and_levels.Level.{Level}
use Rattle.lock_rules.specs.declared.fields_and_levels.Level.TheVariants as levels
use Rattle.tag_machine.specs.declared.states.Half.{Half}
use Rattle.tag_machine.specs.declared.states.Held.{Held}
use Rattle.tag_machine.specs.TagValue.{StateValue, ReadyState, ArbitrateState, BodyValue}
use Rattle.tag_machine.specs.Answers.{Outcome, silent}
use Rattle.tag_machine.specs.Draws.{back, close}
use Rattle.tag_machine.specs.Inventory.{end_turn, q_after_adjust, unless_half}
use Rattle.tag_machine.specs.Access.{held_state}
use Rattle.log_judge.specs.laws.Kinds.{Kind, Settled, Enters, Replies, Gives, query_kind, rep_kind, adjust_kind, number_kind, kind_of}
use Rattle.log_judge.specs.laws.Known.{waits}
use Rattle.log_judge.specs.declared.draws.Draws.{Draws}
use Rattle.log_judge.specs.declared.draws.Draws.TheVariants as draws
use Rattle.log_judge.specs.Drawing.{draws_at, has_drawn}

-- not in arbitrate with a slot that was drawn at a command of this session
abbrev pub IsElsewhere : ℕ → StateValue → Type 0
IsElsewhere session (ArbitrateState own q slot) = has_drawn session own slot ≡ false
IsElsewhere session state = Unit {0}

-- a kind of command by what may be drawn at it
abbrev pub Fits : Draws → Kind → Type 0
Fits (draws.Slot session) (Settled outcome) = (outcome.answer ≡ None) × IsElsewhere session outcome.tag.state
Fits (draws.Slot session) (Enters own q body) = (own == session) ≡ true
Fits (draws.Turn session) (Settled outcome) = outcome.answer ≡ None
Fits (draws.Turn session) (Replies own q body) = Unit {0}
Fits draws.Number (Settled outcome) = outcome.answer ≡ None
Fits draws.Number (Gives state body) = (number : ℕ) → waits (state number) ≡ false
Fits draws.Nothing (Settled outcome) = Unit {0}
Fits drawn kind = ⊥

either : (drawn : Draws) (test : Bool) (k l : Kind) → Fits drawn k → Fits drawn l → Fits drawn (if test then k else l)
either drawn true k l of_k of_l = of_k
either drawn false k l of_k of_l = of_l

pub same_number : (n : ℕ) → (n == n) ≡ true
same_number n = search rules

-- an end of a turn is silent; behind a first half the tag is in arbitrate with slot 0
and_false : (test : Bool) → (test && false) ≡ false
and_false true = refl
and_false false = refl

abbrev ends_so : ℕ → Outcome → Type 0
ends_so session outcome = (outcome.answer ≡ None) × IsElsewhere session outcome.tag.state

ended : (session : ℕ) (held : Held) (body : BodyValue) → ends_so session (end_turn session held body)
ended session held body = by held.half
  where
    by : (half : Option Half) → ends_so session (unless_half half (back session held.q body) (close session body))
    by None = (refl, tt)
    by (Some half) = (refl, and_false (session == session))

of_query : (sel : Sel) (session : ℕ) (target : Side) (q : ℕ) (state : StateValue) (body : BodyValue) → Fits (draws.Slot session) (query_kind sel session target q state body)
of_query sel session target q ReadyState body = search (rules, either, same_number)
of_query sel session target q state body = search (rules, either, same_number)

ended_silent : (session : ℕ) (held : Held) (body : BodyValue) → (end_turn session held body).answer ≡ None
ended_silent session held body = (ended session held body).0

-- QueryAdjust: in another session than the command's the tag stays as it is
other_session : (own session slot : ℕ) → (own == session) ≡ false → has_drawn session own slot ≡ false
other_session own session slot other = rw other refl

adjusted : (session own q new_q slot : ℕ) (body : BodyValue) (test : Bool) → (own == session) ≡ test
    → Fits (draws.Slot session) (if test then Enters session new_q body else Settled (silent (ArbitrateState own q slot) body))
adjusted session own q new_q slot body true same = same_number session
adjusted session own q new_q slot body false same = (refl, other_session own session slot same)

of_adjust : (session : ℕ) (updn : UpDn) (state : StateValue) (body : BodyValue) → Fits (draws.Slot session) (adjust_kind session updn state body)
of_adjust session updn (ArbitrateState own q slot) body = adjusted session own q (q_after_adjust updn q) slot body (own == session) refl
of_adjust session updn state body = search (rules, either, same_number, ended)

of_rep : (session : ℕ) (state : StateValue) (body : BodyValue) → Fits (draws.Turn session) (rep_kind session state body)
of_rep session ReadyState body = refl
of_rep session state body = search (rules, either, ended_silent)

-- Req_RN
held_waits : (level : Level) (held : Held) → waits (held_state level held) ≡ false
held_waits levels.Opened held = refl
held_waits levels.Secured held = refl

of_number : (rn : ℕ) (state : StateValue) (body : BodyValue) → Fits draws.Number (number_kind rn state body)
of_number rn ReadyState body = refl
of_number rn state body = search (rules, either, held_waits)

pub fits : (command : Command) (state : StateValue) (body : BodyValue) → Fits (draws_at command) (kind_of (Some command) state body)
fits (commands.QueryRep session) state body = of_rep session state body
fits (commands.Query dr line_code trext sel session target q) state body = of_query sel session target q state body
fits (commands.QueryAdjust session updn) state body = of_adjust session updn state body
fits (commands.ReqRn rn) state body = of_number rn state body
fits command state body = tt
