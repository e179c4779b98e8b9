use Rattle.std.proofs.Common.{◌∙◌, Option, ap, sym}
use Rattle.air_channel.proofs.Names.{BitString, Replied, AnswerValue, got_of, heard_levels, whole_or_silence}
use Rattle.air_model.specs.declared.got.Got.TheVariants as Got
use Rattle.air_channel.proofs.GivenAnswers.{some_given, answer_short, levels_answered}
use Rattle.air_channel.proofs.channel.give_whole.Goals as goal

pub encode-requires-clause-short : goal.encode-requires-clause-short
encode-requires-clause-short c =
    let found = some_given c.args.answers.now.items c.requires.answers.0.0 c.args.at c.in-Some.answer c.requires.answers.0.1 c.get.ensures c.in-Some.is in
    answer_short c.in-Some.answer found.0 found.2

pub returns-clause-stream : goal.returns-clause-stream
returns-clause-stream c = λ replies are.
    let link = c.args.link.now in
    let found = some_given c.args.answers.now.items replies c.args.at c.in-Some.answer are c.get.ensures c.in-Some.is in
    ap (λ (stream : BitString). stream.items) c.encode.ensures.stream ∙ levels_answered link c.in-Some.answer found.0 found.2
    ∙ ap (λ (picked : Option Replied). heard_levels link (whole_or_silence picked)) (sym found.1)

pub returns-clause-got : goal.returns-clause-got
returns-clause-got c = λ replies are.
    let link = c.args.link.now in
    let found = some_given c.args.answers.now.items replies c.args.at c.in-Some.answer are c.get.ensures c.in-Some.is in
    ap Got.Whole (c.from.ensures ∙ c.get-2.ensures.value ∙ ap (λ (value : AnswerValue). value.number) found.2.same)
    ∙ ap (λ (picked : Option Replied). got_of link (whole_or_silence picked)) (sym found.1)
