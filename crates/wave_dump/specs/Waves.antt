-- Profile: the waves of a run as a value change dump (IEEE 1364, with GTKWave's string variables). The intervals and the levels are
-- those that were played; the gaps between them are drawn, since a scenario has none.
use Rattle.std.specs.Prelude.{ℕ, ◌+◌, ◌*◌, ◌/◌, ◌^◌, ◌-◌, ◌==◌, max, min, nat_eq, Bool, true, false, not, List, [], ◌∷◌, ◌++◌, length, codes, Option, Some, None, if◌then◌else◌}
use Rattle.std.specs.Cmp.Lexicographic.{pointwise}
use Rattle.std.specs.Fmt.{decimal}
use Rattle.std.specs.List.{join_with_byte}
use Rattle.command_grammar.specs.declared.commands.Command.{Command}
use Rattle.command_grammar.specs.declared.commands.Command.TheVariants as commands
use Rattle.wire_text.specs.CommandText.{command_line}
use Rattle.pie_line.specs.Link.{LinkValue, blf_of}
use Rattle.wire_text.specs.ReplyText.{reply_line}
use Rattle.text_fields.specs.Binary.{binary_digit}
use Rattle.text_fields.specs.Lines.{fields_of, text_with}
use Rattle.wave_dump.specs.Exchanged.{Exchanged}
use Rattle.wave_dump.specs.declared.exchanged.Gave.{Gave}
use Rattle.wave_dump.specs.declared.exchanged.Gave.TheVariants as gave

-- TIMES, in nanoseconds

-- the latest time that a dump tells: what is later is told at it
abbrev pub latest_time : ℕ
latest_time = 2 ^ 64 - 1

-- the time that lies so many nanoseconds behind a time of a dump, and at most the latest time that a dump tells
abbrev pub later : ℕ → ℕ → ℕ
later time gap = min (time + gap) latest_time

-- how many nanoseconds so many periods of the backscatter link frequency last, rounded down
abbrev pub periods : LinkValue → ℕ → ℕ
periods link count = count * (blf_of link).1 / (blf_of link).0

-- 6.3.1.6 Link timing: T1 lies between a frame and the reply, T2 between the reply and the next frame, T3 is what an interrogator
-- waits behind T1 for a reply, and T4 lies between two commands
abbrev pub t1 : LinkValue → ℕ
t1 link = max link.rtcal (periods link 10)

abbrev pub t2 : LinkValue → ℕ
t2 link = periods link 10

abbrev pub t3 : LinkValue → ℕ
t3 link = periods link 3

abbrev pub t4 : LinkValue → ℕ
t4 link = 2 * link.rtcal

-- how far behind the first level of a stream the level with this number begins: each lasts half a period, and this is rounded once
abbrev pub level_offset : LinkValue → ℕ → ℕ
level_offset link number = number * (blf_of link).1 / (2 * (blf_of link).0)

-- where a frame ends that begins at a time
abbrev pub frame_end : ℕ → List ℕ → ℕ
frame_end time [] = time
frame_end time (interval ∷ intervals) = frame_end (later time interval) intervals

-- where the answer begins behind a frame that ends at a time
abbrev pub answer_begin : LinkValue → ℕ → ℕ
answer_begin link end = later end (t1 link)

-- where a level of a stream begins that begins at a time
abbrev pub level_begin : LinkValue → ℕ → ℕ → ℕ
level_begin link begin number = later begin (level_offset link number)

-- where the next frame begins behind a frame that ends at a time, where no levels came: no tag answers a Select or a NAK, and behind
-- another command the interrogator waits for T3
abbrev pub begin_behind_silence : LinkValue → Command → ℕ → ℕ
begin_behind_silence link (commands.Select target action bank pointer mask) end = later end (t4 link)
begin_behind_silence link commands.Nak end = later end (t4 link)
begin_behind_silence link command end = max (later (answer_begin link end) (t3 link)) (later end (t4 link))

-- where a stream ends whose levels begin at a time
abbrev pub stream_end : LinkValue → ℕ → List Bool → ℕ
stream_end link begin levels = level_begin link begin (length levels)

-- where the next frame begins behind a frame of a command that ends at a time, and the levels that came
abbrev pub begin_behind : LinkValue → Command → ℕ → List Bool → ℕ
begin_behind link command end [] = begin_behind_silence link command end
begin_behind link command end (level ∷ levels) = later (stream_end link (answer_begin link end) (level ∷ levels)) (t2 link)

-- SIGNALS

-- the values of the signals: the levels of the reader and of the tags, none where no stream comes, the number of the exchange, how
-- many tags reply, the command and the reply
pub record Signals : Type 0 where
  pub reader : Bool
  pub tag : Option Bool
  pub exchange : ℕ
  pub replies : ℕ
  pub command : List ℕ
  pub reply : List ℕ

-- no command, or no reply
abbrev pub none_text : List ℕ
none_text = codes "-"

-- a line as the value of a string variable: its fields with `_` in place of each space
abbrev pub with_underscores : List ℕ → List ℕ
with_underscores line = join_with_byte 95 (fields_of line)

-- what is read of a stream
abbrev pub reply_value : Gave → List ℕ
reply_value gave.Silence = none_text
reply_value (gave.Whole tag reply) = with_underscores (reply_line reply)
reply_value (gave.Broken tag place) = codes "broken"
reply_value gave.Raw = codes "raw"

-- between two exchanges: the number of the last exchange, its command, and how many tags replied to it of which no stream came
abbrev pub idle_between : ℕ → ℕ → List ℕ → Signals
idle_between exchange replies command = record { reader = true; tag = None; exchange = exchange; replies = replies; command = command; reply = none_text }

-- before the first frame
abbrev pub first_signals : Signals
first_signals = idle_between 0 0 none_text

-- from the frame of an exchange on: the reader is high but in the lows of the frame, and no tag replies
abbrev pub sent_signals : Exchanged → Signals
sent_signals exchanged = idle_between exchanged.number 0 (with_underscores (command_line exchanged.command))

-- the signals of a dump behind the frame of an exchange, where tags replied of which no stream came
abbrev pub unheard_signals : Exchanged → Signals
unheard_signals exchanged = record (sent_signals exchanged) { replies = exchanged.replies }

-- the signals of a dump where a stream comes in an exchange, in whose levels the tags' signal is the level
abbrev pub heard_signals : Exchanged → Signals
heard_signals exchanged = record (unheard_signals exchanged) { reply = reply_value exchanged.given }

-- MOMENTS: times from which on the signals are so

-- the intervals of a frame that begins at a time, lows and highs in turn, and its end
abbrev pub frame_moments : Signals → ℕ → Bool → List ℕ → List (ℕ × Signals)
frame_moments sent time high [] = (time, sent) ∷ []
frame_moments sent time high (interval ∷ intervals) =
    (time, record sent { reader = high }) ∷ frame_moments sent (later time interval) (not high) intervals

-- the levels of a stream that begins at a time, numbered from a number on, and its end
abbrev pub stream_moments : LinkValue → (sent heard : Signals) → ℕ → ℕ → List Bool → List (ℕ × Signals)
stream_moments link sent heard begin number [] = (level_begin link begin number, sent) ∷ []
stream_moments link sent heard begin number (level ∷ levels) =
    (level_begin link begin number, record heard { tag = Some level }) ∷ stream_moments link sent heard begin (number + 1) levels

-- what comes behind a frame: a stream, or none
abbrev pub answer_moments : LinkValue → Exchanged → ℕ → List Bool → List (ℕ × Signals)
answer_moments link exchanged begin [] = (begin, unheard_signals exchanged) ∷ []
answer_moments link exchanged begin (level ∷ levels) =
    stream_moments link (sent_signals exchanged) (heard_signals exchanged) begin 0 (level ∷ levels)

-- the signals behind the last of these
abbrev pub signals_behind : Exchanged → List Bool → Signals
signals_behind exchanged [] = unheard_signals exchanged
signals_behind exchanged (level ∷ levels) = sent_signals exchanged

-- an exchange whose frame begins at a time
abbrev pub exchange_moments : LinkValue → ℕ → Exchanged → List (ℕ × Signals)
exchange_moments link time exchanged =
    frame_moments (sent_signals exchanged) time false exchanged.intervals
    ++ answer_moments link exchanged (answer_begin link (frame_end time exchanged.intervals)) exchanged.levels

-- TEXT

-- a change is told where there is one
abbrev pub change_line : Bool → List ℕ → List (List ℕ)
change_line same line = if same then [] else line ∷ []

-- two values of a signal are the same, so that no change is told: two levels, two levels or none, and two texts
abbrev pub same_bool : Bool → Bool → Bool
same_bool true true = true
same_bool false false = true
same_bool one other = false

abbrev pub same_level : Option Bool → Option Bool → Bool
same_level None None = true
same_level (Some one) (Some other) = same_bool one other
same_level one other = false

abbrev pub same_text : List ℕ → List ℕ → Bool
same_text one other = pointwise nat_eq one other

-- a level of the tags, or none
abbrev pub level_digit : Option Bool → ℕ
level_digit None = 122
level_digit (Some level) = binary_digit level

-- each signal as a line that gives its value
abbrev pub reader_line : Bool → List ℕ
reader_line high = binary_digit high ∷ codes "r"

abbrev pub tag_line : Option Bool → List ℕ
tag_line level = level_digit level ∷ codes "t"

abbrev pub exchange_line : ℕ → List ℕ
exchange_line number = codes "r" ++ decimal number ++ codes " e"

abbrev pub replies_line : ℕ → List ℕ
replies_line count = codes "r" ++ decimal count ++ codes " n"

abbrev pub command_value_line : List ℕ → List ℕ
command_value_line value = codes "s" ++ value ++ codes " c"

abbrev pub reply_value_line : List ℕ → List ℕ
reply_value_line value = codes "s" ++ value ++ codes " g"

-- a line for each signal that changes
abbrev pub change_lines : Signals → Signals → List (List ℕ)
change_lines old new =
    change_line (same_bool old.reader new.reader) (reader_line new.reader)
    ++ change_line (same_level old.tag new.tag) (tag_line new.tag)
    ++ change_line (old.exchange == new.exchange) (exchange_line new.exchange)
    ++ change_line (old.replies == new.replies) (replies_line new.replies)
    ++ change_line (same_text old.command new.command) (command_value_line new.command)
    ++ change_line (same_text old.reply new.reply) (reply_value_line new.reply)

-- the line of a time, in nanoseconds
abbrev pub time_line : ℕ → List ℕ
time_line time = codes "#" ++ decimal time

-- the time and what changes at it, where something changes
abbrev pub text_at : ℕ → List (List ℕ) → List ℕ
text_at time [] = []
text_at time (line ∷ lines) = text_with (time_line time ∷ line ∷ lines)

-- moments one after another, behind these signals
abbrev pub moments_text : Signals → List (ℕ × Signals) → List ℕ
moments_text old [] = []
moments_text old (moment ∷ moments) = text_at moment.0 (change_lines old moment.1) ++ moments_text moment.1 moments

-- the head of a dump
abbrev pub dump_head : List (List ℕ)
dump_head =
    codes "$comment intervals and levels as played; the gaps between them are drawn $end"
    ∷ codes "$timescale 1 ns $end"
    ∷ codes "$scope module gen2 $end"
    ∷ codes "$var wire 1 r reader $end"
    ∷ codes "$var wire 1 t tag $end"
    ∷ codes "$var real 64 e exchange $end"
    ∷ codes "$var real 64 n replies $end"
    ∷ codes "$var string 1 c command $end"
    ∷ codes "$var string 1 g reply $end"
    ∷ codes "$upscope $end"
    ∷ codes "$enddefinitions $end"
    ∷ codes "#0"
    ∷ codes "$dumpvars"
    ∷ codes "1r"
    ∷ codes "zt"
    ∷ codes "r0 e"
    ∷ codes "r0 n"
    ∷ codes "s- c"
    ∷ codes "s- g"
    ∷ codes "$end"
    ∷ []

-- where a dump stands between two exchanges: when the next frame begins, and the signals until then
pub record DumpValue : Type 0 where
  pub begin : ℕ
  pub signals : Signals

-- before the first frame
abbrev pub new_dump : LinkValue → DumpValue
new_dump link = record { begin = t4 link; signals = first_signals }

-- where a dump stands behind an exchange
abbrev pub dump_behind : LinkValue → DumpValue → Exchanged → DumpValue
dump_behind link dump exchanged = record {
  begin = begin_behind link exchanged.command (frame_end dump.begin exchanged.intervals) exchanged.levels;
  signals = signals_behind exchanged exchanged.levels;
}

-- the waves of an exchange, as text
abbrev pub exchange_text : LinkValue → DumpValue → Exchanged → List ℕ
exchange_text link dump exchanged = moments_text dump.signals (exchange_moments link dump.begin exchanged)

-- no tag replies any more
abbrev pub idle_signals : Signals → Signals
idle_signals signals = record signals { replies = 0 }

-- the end of a dump: the time at which a further frame would begin
abbrev pub end_text : DumpValue → List ℕ
end_text dump = text_with (time_line dump.begin ∷ change_lines dump.signals (idle_signals dump.signals))

-- the head of a dump, as text
abbrev pub head_text : List ℕ
head_text = text_with dump_head
