-- What is guessed goes by the command: a slot is drawn at a Query or a QueryAdjust alone. And what a tag in arbitrate does.
use Rattle.std.proofs.Common.{rules, ◌≡◌, ℕ, ◌≤◌, ◌==◌, Bool, true, false, Option, Some, None, if◌then◌else◌, refl}
use Rattle.command_fields.specs.declared.choices.Sel.{Sel}
use Rattle.command_fields.specs.declared.choices.Side.{Side}
use Rattle.command_fields.specs.declared.choices.UpDn.{UpDn}
use Rattle.command_grammar.specs.declared.commands.Command.{Command}
use Rattle.command_grammar.specs.declared.commands.Command.TheVariants as commands
use Rattle.session_flags.specs.Flags.{matches}
use Rattle.tag_machine.specs.TagValue.{StateValue, ReadyState, BodyValue}
use Rattle.log_judge.specs.laws.Logs.{IsLegalHeard}
use Rattle.log_judge.specs.laws.Kinds.{Kind, Settled, Enters, Replies, Gives, query_kind, rep_kind, adjust_kind, number_kind, kind_of, ArbitrateMove, Stays, Leaves, Counts, move_of}
use Rattle.log_judge.proofs.KindOutcomes.{KeepsSmallQ}
use Rattle.log_judge.specs.laws.Known.{draws_slot, waits}
use Rattle.log_judge.proofs.KindsOfSteps.{adjusted}
use Rattle.log_judge.proofs.OneKind.{Suits}

of_query : (sel : Sel) (session : ℕ) (target : Side) (q : ℕ) (state : StateValue) (body : BodyValue) → Suits true (query_kind sel session target q state body)
of_query sel session target q ReadyState body = search rules
of_query sel session target q state body = search rules

of_rep : (session : ℕ) (state : StateValue) (body : BodyValue) → Suits false (rep_kind session state body)
of_rep session ReadyState body = tt
of_rep session state body = search rules

of_adjust : (session : ℕ) (updn : UpDn) (state : StateValue) (body : BodyValue) → Suits true (adjust_kind session updn state body)
of_adjust session updn ReadyState body = tt
of_adjust session updn state body = search rules

of_number : (rn : ℕ) (state : StateValue) (body : BodyValue) → Suits false (number_kind rn state body)
of_number rn ReadyState body = tt
of_number rn state body = search rules

pub suits : (heard : Option Command) (state : StateValue) (body : BodyValue) → Suits (draws_slot heard) (kind_of heard state body)
suits (Some (commands.QueryRep session)) state body = of_rep session state body
suits (Some (commands.Query dr line_code trext sel session target q)) state body = of_query sel session target q state body
suits (Some (commands.QueryAdjust session updn)) state body = of_adjust session updn state body
suits (Some (commands.ReqRn rn)) state body = of_number rn state body
suits heard state body = tt

-- where a slot counter makes no difference, the tag enters a round, or takes part in none and is silent
abbrev pub LeavesSo : Kind → Type 0
LeavesSo (Settled outcome) = (waits outcome.tag.state ≡ false) × (outcome.answer ≡ None)
LeavesSo (Enters session q body) = Unit {0}
LeavesSo (Replies session q body) = ⊥
LeavesSo (Gives state body) = ⊥

pub record IsGoodKind (draws : Bool) (kind : Kind) : Type 0 where
  pub suited : Suits draws kind
  pub small : KeepsSmallQ kind
  pub so : LeavesSo kind

abbrev pub IsGoodMove : Bool → ArbitrateMove → Type 0
IsGoodMove draws Stays = Unit {0}
IsGoodMove draws (Leaves kind) = IsGoodKind draws kind
IsGoodMove draws (Counts session) = draws ≡ false

either_kind : {draws : Bool} {k l : Kind} (test : Bool) → IsGoodKind draws k → IsGoodKind draws l → IsGoodKind draws (if test then k else l)
either_kind true of_k of_l = of_k
either_kind false of_k of_l = of_l

either_good : {draws : Bool} {k : Kind} (test : Bool) → IsGoodKind draws k → IsGoodMove draws (if test then Leaves k else Stays)
either_good true of_k = of_k
either_good false of_k = tt

pub good_move : (heard : Option Command) (session q : ℕ) (body : BodyValue) → IsLegalHeard heard → q ≤ 15 → IsGoodMove (draws_slot heard) (move_of heard session q body)
good_move (Some (commands.QueryRep other)) session q body legal small = search rules
good_move (Some (commands.Query dr line_code trext sel other target new_q)) session q body legal small =
    either_kind (matches sel other target body.flags) (record { suited = refl; small = legal.1; so = tt }) (record { suited = tt; small = tt; so = (refl, refl) })
good_move (Some (commands.QueryAdjust other updn)) session q body legal small = either_good (session == other) (record { suited = refl; small = adjusted updn q small; so = tt })
good_move (Some (commands.Select target action bank pointer mask)) session q body legal small = record { suited = tt; small = tt; so = (refl, refl) }
good_move heard session q body legal small = tt
