-- What a tag that was given words shows where it may lack the command.
use Rattle.std.proofs.Common.{◌≡◌, ℕ, true, is_some, List, Option, Some, None, refl, sym, ◌∙◌, ap, subst}
use Rattle.command_grammar.specs.declared.commands.Command.{Command}
use Rattle.command_grammar.specs.Commands.{IsLegalCommand}
use Rattle.tag_machine.specs.StateNumbers.{numbers_of}
use Rattle.tag_machine.specs.TagValue.{StateValue, ArbitrateState, ReplyState, AcknowledgedState, OpenState, SecuredState, TagValue, IsLegalState}
use Rattle.log_judge.specs.Log.{Seen}
use Rattle.log_judge.specs.Explaining.{seen_answer_to}
use Rattle.log_judge.specs.laws.Kinds.{HasSmallQ, reworded}
use Rattle.log_judge.specs.laws.Known.{Known, want_of, want_of_answer}
use Rattle.log_judge.specs.Drawing.{draws_at, fallen, words_given}
use Rattle.log_judge.specs.Optional.{answers_now}
use Rattle.log_judge.specs.KnownTag.{HasFirstSlot, IsExcusedHere, known_of}
use Rattle.log_judge.proofs.Lacking.{answers_so}
use Rattle.log_judge.proofs.Moving.{Moves, moves}
use Rattle.log_judge.proofs.Showing.{excused_lack, want_lacking}

pub legal_small : (state : StateValue) → IsLegalState state → HasSmallQ state
legal_small (ArbitrateState session q slot) legal = legal.1
legal_small (ReplyState session q rn) legal = legal.1
legal_small (AcknowledgedState session q rn) legal = legal.1
legal_small (OpenState held) legal = legal.q
legal_small (SecuredState held) legal = legal.q
legal_small state legal = tt

-- What is known of a tag looks at none of its words.
pub known_given : (words : List ℕ) (tag : TagValue) (most : Option ℕ) → known_of (record { state = tag.state; body = reworded words 0 tag.body }) most ≡ known_of tag most
known_given words tag None = refl
known_given words tag (Some m) = refl

module _ (command : Command) (tag : TagValue) (most : Option ℕ) (seen : Option Seen) (legal : IsLegalCommand command) (state : IsLegalState tag.state) (first : HasFirstSlot most tag.state)
    (lasts : fallen (draws_at command) (is_some seen) (numbers_of tag.state) most ≡ None) where
  abbrev given_tag : TagValue
  given_tag = record { state = tag.state; body = reworded (words_given (draws_at command) seen) 0 tag.body }

  it_moves : Moves command given_tag most seen
  it_moves = moves command given_tag most seen legal (legal_small tag.state state) first lasts

  -- ... for a tag that is told
  module _ (given : TagValue) (given_is : given ≡ given_tag) where
    pub lacks : seen ≡ None → answers_now command given ≡ true → IsExcusedHere (known_of tag most) (Some command) seen (known_of given most)
    lacks silent_then answers =
        subst (λ (t : TagValue). IsExcusedHere (known_of tag most) (Some command) seen (known_of t most)) (sym given_is)
        (subst (λ (k : Known). IsExcusedHere k (Some command) seen (known_of given_tag most)) (known_given (words_given (draws_at command) seen) tag most)
        (excused_lack command given_tag most seen it_moves first silent_then refl
        (answers_so command given_tag (sym (ap (λ (t : TagValue). answers_now command t) given_is) ∙ answers))))

    pub lacks_want : answers_now command given ≡ true → want_of_answer (seen_answer_to (Some command) given) ≡ want_of (known_of tag most) (Some command)
    lacks_want answers =
        ap (λ (t : TagValue). want_of_answer (seen_answer_to (Some command) t)) given_is
        ∙ want_lacking command given_tag most seen it_moves refl (answers_so command given_tag (sym (ap (λ (t : TagValue). answers_now command t) given_is) ∙ answers))
        ∙ ap (λ (k : Known). want_of k (Some command)) (known_given (words_given (draws_at command) seen) tag most)
