-- What a command leaves of what a tag holds in every state: it is legal, it is so many draws further with the same words, and
-- its flags differ in those alone that the command may change.
use Rattle.std.proofs.Common.{◌≡◌, ◌≢◌, ℕ, zero, suc, ◌+◌, ◌^◌, ◌<◌, length, refl, ap, arith, inl, inr}
use Rattle.std.proofs.lemmas.Bool.Decides.{eqb_tells, nat_tests}
use Rattle.std.proofs.lemmas.List.Elements.{All-get_or}
use Rattle.command_grammar.specs.declared.commands.Command.{Command}
use Rattle.command_grammar.specs.Commands.{IsLegalCommand}
use Rattle.lock_rules.specs.declared.locks.Locks.{Locks}
use Rattle.session_flags.specs.declared.flags.Flags.{Flags}
use Rattle.session_flags.specs.Flags.{side_of, flags_after_inversion}
use Rattle.session_flags.specs.laws.FlagLaws.{side_of-flags_after_inversion, sl-flags_after_inversion}
use Rattle.tag_memory.specs.Memory.{Banks, AreSound}
use Rattle.tag_machine.specs.TagValue.{StateValue, BodyValue, IsLegalBody, IsLegalTag}
use Rattle.tag_machine.specs.Draws.{draw_of, place_behind, body_after_draw, body_after_draws, body_after_inversion}
use Rattle.tag_machine.specs.laws.Isolation.{MayChange, IsIsolated}

abbrev pub IsLegalAt : StateValue → BodyValue → Type 0
IsLegalAt state body = IsLegalTag (record { state = state; body = body })

pub record BodyFacts (command : Command) (state : StateValue) (before after : BodyValue) (draws : ℕ) : Type 0 where
  pub legal : IsLegalCommand command → IsLegalAt state before → IsLegalBody after
  pub next_draw : after.next_draw ≡ (body_after_draws draws before).next_draw
  pub words : after.words ≡ before.words
  pub isolated : IsIsolated command before.flags after.flags

-- flags as they were are isolated
unchanged : (command : Command) (flags : Flags) → IsIsolated command flags flags
unchanged command flags = record { sides = λ session small other. refl; sl = λ other. refl }

pub same_body : {command : Command} {state : StateValue} {body : BodyValue} → BodyFacts command state body body 0
same_body {command} {state} {body} = record { legal = λ of_command of_tag. of_tag.body; next_draw = refl; words = refl; isolated = unchanged command body.flags }

-- flags
pub legal_with_flags : (body : BodyValue) (flags : Flags) → IsLegalBody body → IsLegalBody (record body { flags = flags })
legal_with_flags body flags legal = record { memory = legal.memory; memory_words = legal.memory_words; words = legal.words; next_draw = legal.next_draw }

pub with_flags : {command : Command} {state : StateValue} {body : BodyValue} (flags : Flags) → IsIsolated command body.flags flags → BodyFacts command state body (record body { flags = flags }) 0
with_flags {command} {state} {body} flags isolated = record {
  legal = λ of_command of_tag. legal_with_flags body flags of_tag.body;
  next_draw = refl;
  words = refl;
  isolated = isolated;
}

-- no session is 4 or above
no_session : (flags : Flags) (session : ℕ) → flags_after_inversion flags (suc (suc (suc (suc session)))) ≡ flags
no_session flags session = grind (arith, nat_tests)

side_inverted : (flags : Flags) (changes session : ℕ) → session < 4 → changes ≢ session → side_of (flags_after_inversion flags changes) session ≡ side_of flags session
side_inverted flags zero session small other = side_of-flags_after_inversion flags 0 session (omega arith) small other
side_inverted flags (suc zero) session small other = side_of-flags_after_inversion flags 1 session (omega arith) small other
side_inverted flags (suc (suc zero)) session small other = side_of-flags_after_inversion flags 2 session (omega arith) small other
side_inverted flags (suc (suc (suc zero))) session small other = side_of-flags_after_inversion flags 3 session (omega arith) small other
side_inverted flags (suc (suc (suc (suc more)))) session small other = ap (λ (f : Flags). side_of f session) (no_session flags more)

-- a command of a session, which may change the flag of that session
abbrev pub MayInvert : Command → ℕ → Type 0
MayInvert command session = (own : ℕ) → session ≡ own → MayChange command own

pub inverted : {command : Command} {state : StateValue} {body : BodyValue} (session : ℕ) → MayInvert command session → BodyFacts command state body (body_after_inversion session body) 0
inverted {command} {state} {body} session may =
    with_flags (flags_after_inversion body.flags session) (record {
      sides = λ own small other. side_inverted body.flags session own small (λ is. other (may own is));
      sl = λ other. sl-flags_after_inversion body.flags session;
    })

-- memory and locks
pub sound_of : (body : BodyValue) → IsLegalBody body → AreSound body.memory
sound_of body legal = record { legal = legal.memory; words = legal.memory_words }

pub legal_with_memory : (body : BodyValue) (memory : Banks) → IsLegalBody body → AreSound memory → IsLegalBody (record body { memory = memory })
legal_with_memory body memory legal sound = record { memory = sound.legal; memory_words = sound.words; words = legal.words; next_draw = legal.next_draw }

pub with_memory : {command : Command} {state : StateValue} {body : BodyValue} (memory : Banks) → (IsLegalCommand command → IsLegalAt state body → AreSound memory) → BodyFacts command state body (record body { memory = memory }) 0
with_memory {command} {state} {body} memory sound = record {
  legal = λ of_command of_tag. legal_with_memory body memory of_tag.body (sound of_command of_tag);
  next_draw = refl;
  words = refl;
  isolated = unchanged command body.flags;
}

pub with_locks : {command : Command} {state : StateValue} {body : BodyValue} (locks : Locks) → BodyFacts command state body (record body { locks = locks }) 0
with_locks {command} {state} {body} locks = record {
  legal = λ of_command of_tag.
      let legal = of_tag.body in
      record { memory = legal.memory; memory_words = legal.memory_words; words = legal.words; next_draw = legal.next_draw };
  next_draw = refl;
  words = refl;
  isolated = unchanged command body.flags;
}

-- draws
pub word_drawn : (body : BodyValue) → IsLegalBody body → draw_of body < 2 ^ 16
word_drawn body legal = All-get_or (λ (word : ℕ). word < 2 ^ 16) body.words body.next_draw 0 legal.next_draw legal.words.small

place_inside : (count place : ℕ) → place < count → place_behind count place < count
place_inside count place inside =
    elim (eqb_tells (place + 1) count) [
      | inl w ↦ rw w.0 (omega arith)
      | inr w ↦ rw w.0 (omega (arith, w.1))
    ]

pub behind_draw : (body : BodyValue) → IsLegalBody body → IsLegalBody (body_after_draw body)
behind_draw body legal = record {
  memory = legal.memory;
  memory_words = legal.memory_words;
  words = legal.words;
  next_draw = place_inside (length body.words) body.next_draw legal.next_draw;
}

words_stay : (draws : ℕ) (body : BodyValue) → (body_after_draws draws body).words ≡ body.words
words_stay zero body = refl
words_stay (suc draws) body = words_stay draws body

pub drawn : {command : Command} {state : StateValue} {before after : BodyValue} {draws : ℕ} → BodyFacts command state before after draws → BodyFacts command state before (body_after_draw after) (suc draws)
drawn {command} {state} {before} {after} {draws} facts =
    let kept = words_stay draws before in
    record {
      legal = λ of_command of_tag. behind_draw after (facts.legal of_command of_tag);
      next_draw = cc (facts.next_draw, facts.words, kept);
      words = facts.words;
      isolated = facts.isolated;
    }
