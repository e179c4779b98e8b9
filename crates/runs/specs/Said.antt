-- Profile: who said what in an exchange, as lines.
use Rattle.std.specs.Prelude.{ℕ, ◌%◌, List, [], ◌∷◌, ◌++◌, length, map}
use Rattle.air_model.specs.Channel.{Given, silence, whole, broken, raw, heard_levels, levels_of, wave_for}
use Rattle.air_model.specs.Past.{Record}
use Rattle.pie_line.specs.Link.{LinkValue}
use Rattle.report_lines.specs.ReportLine.{ReportLine, ExchangeLine, MissedLine, AnswerLine, GivenLine}
use Rattle.tag_machine.specs.TagsInExchange.{Replied}
use Rattle.wave_dump.specs.Exchanged.{Exchanged}
use Rattle.wave_dump.specs.declared.exchanged.Gave.{Gave}
use Rattle.wave_dump.specs.declared.exchanged.Gave.TheVariants as gave

-- what the channel gave, by the numbers of tags: the place of a broken level is its number modulo the number of levels
abbrev pub gave_of : LinkValue → Given → Gave
gave_of link silence = gave.Silence
gave_of link (whole replied) = gave.Whole replied.number replied.sent.reply
gave_of link (broken replied place) = gave.Broken replied.number (place % length (levels_of link replied.sent))
gave_of link (raw code trext levels) = gave.Raw

-- a line for what a tag answered
abbrev pub answer_line : ℕ → Replied → ReportLine
answer_line exchange replied = AnswerLine exchange replied.number replied.sent.extended replied.sent.reply

-- an exchange that is over
abbrev pub exchanged_by : LinkValue → Record → Exchanged
exchanged_by link sent = record {
  number = sent.exchange;
  command = sent.command;
  intervals = wave_for link sent.command;
  replies = length sent.replies;
  given = gave_of link sent.given;
  levels = heard_levels link sent.given;
}

-- who said what: the command, who misses it, what each tag that hears it answers, in the order of the tags, and what the channel gave
abbrev pub said_lines : LinkValue → Record → List ReportLine
said_lines link sent =
    ExchangeLine sent.exchange sent.command
    ∷ map (MissedLine sent.exchange) sent.entry.missed ++ (map (answer_line sent.exchange) sent.replies ++ GivenLine (exchanged_by link sent) ∷ [])
