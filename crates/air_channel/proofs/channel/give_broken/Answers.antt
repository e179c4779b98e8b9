use Rattle.std.proofs.Common.{◌≡◌, ◌%◌, ◌∙◌, Bool, List, length, ap, sym, arith}
use Rattle.air_channel.proofs.Names.{length-set, BitString, Given, heard_levels, answer_levels}
use Rattle.line_code.specs.TableFacts.{with_level_flipped}
use Rattle.air_channel.proofs.GivenAnswers.{some_given, answer_short, levels_answered, first_given}
use Rattle.air_channel.proofs.channel.give_broken.Goals as goal

pub encode-requires-clause-short : goal.encode-requires-clause-short
encode-requires-clause-short c =
    let found = some_given c.args.answers.now.items c.requires.answers.0.0 0 c.in-Some.answer c.requires.answers.0.1 c.get.ensures c.in-Some.is in
    answer_short c.in-Some.answer found.0 found.2

pub returns-clause-stream : goal.returns-clause-stream
returns-clause-stream c = λ replies are.
    let link = c.args.link.now in
    let found = some_given c.args.answers.now.items replies 0 c.in-Some.answer are c.get.ensures c.in-Some.is in
    let written : c.encode.new.stream.items ≡ answer_levels link c.in-Some.answer = ap (λ (stream : BitString). stream.items) c.encode.ensures.stream in
    ap (λ (stream : BitString). stream.items) c.invert_level.ensures
    ∙ ap (λ n. with_level_flipped c.encode.new.stream.items (c.args.number % n)) c.len.ensures.count
    ∙ ap (λ (levels : List Bool). with_level_flipped levels (c.args.number % length levels)) (written ∙ levels_answered link c.in-Some.answer found.0 found.2)
    ∙ ap (λ (given : Given). heard_levels link given) (sym (first_given replies c.args.number found.0 found.1))

pub returns-clause-room : goal.returns-clause-room
returns-clause-room c = (
  omega (arith, ap (λ (o : BitString). length o.items) c.invert_level.ensures, length-set {A = Bool}, c.encode.ensures.most),
  ap (λ (o : BitString). o.capacity) c.invert_level.ensures ∙ ap (λ (o : BitString). o.capacity) c.encode.ensures.stream,
  c.encode.ensures.bits_capacity,
)
