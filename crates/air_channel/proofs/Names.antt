-- The names of definitions and lemmas of crates below, and of this one, that the proofs of this crate cite.
pub use Rattle.air_channel.specs.Air.{AirValue}
pub use Rattle.air_channel.specs.Giving.{AreSentAnswers, IsAnswer, answer_levels}
pub use Rattle.air_model.specs.Channel.{Given, broken, first_broken, got_of, heard_levels, levels_of, whole_or_silence}
pub use Rattle.bit_strings.specs.BitString.{BitString}
pub use Rattle.std.proofs.lemmas.List.{length-set}
pub use Rattle.std.specs.List.{All}
pub use Rattle.std.specs.Option.{option_map}
pub use Rattle.tag_machine.specs.Answers.{IsSent, Outcome}
pub use Rattle.tag_machine.specs.TagValue.{TagValue}
pub use Rattle.tag_machine.specs.TagsInExchange.{IsQueryRep, Replied, busy_from, outcomes_in, replies_from, replies_in, tags_after}
pub use Rattle.tag_population.specs.Answers.{AnswerValue, AnswersValue, answer_of, answer_value_of, answers_of}
pub use Rattle.tag_population.specs.declared.answers.Answer.{Answer}
