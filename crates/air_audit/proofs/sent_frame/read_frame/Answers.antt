use Rattle.air_audit.proofs.Names.{◌∙◌, Bool, List, sym, subst, true≢false, SpellsCommand}
use Rattle.air_audit.proofs.SentFrames.{no-frame, no-command, other-lead}
use Rattle.air_audit.proofs.sent_frame.read_frame.Goals as goal

pub returns-in-Err-clause-refused : goal.returns-in-Err-clause-refused
returns-in-Err-clause-refused c =
    no-frame c.args.intervals.now.items c.decode_frame.new.out.items c.decode_frame.result c.in-Err.field-0 c.decode_frame.ensures.only c.in-Err.is

pub returns-in-Ok-2-clause-refused : goal.returns-in-Ok-2-clause-refused
returns-in-Ok-2-clause-refused c =
    other-lead c.args.intervals.now.items c.decode_frame.new.out.items c.in-Ok.kind c.in-Ok-answer.command
    (record {
      bits_are = λ kind bits frame. (c.decode_frame.ensures.only kind bits frame).1;
      command_is = λ command spells.
          sym c.in-Ok-answer.is ∙ c.decode_command_to.ensures.only command (subst (λ (b : List Bool). SpellsCommand command b) (sym c.as_slice.ensures.value) spells);
    })
    (λ kind bits frame. let same = (c.decode_frame.ensures.only kind bits frame).0 in let is = c.in-Ok.is in cc)
    (λ begins. true≢false (sym (c.if-begins_as.ensures.1 begins)))

pub returns-in-Err-answer-clause-refused : goal.returns-in-Err-answer-clause-refused
returns-in-Err-answer-clause-refused c =
    no-command c.args.intervals.now.items c.decode_frame.new.out.items c.decode_command_to.new.answer c.in-Err-answer.field-0
    (record {
      bits_are = λ kind bits frame. (c.decode_frame.ensures.only kind bits frame).1;
      command_is = λ command spells. c.decode_command_to.ensures.only command (subst (λ (b : List Bool). SpellsCommand command b) (sym c.as_slice.ensures.value) spells);
    })
    c.in-Err-answer.is
