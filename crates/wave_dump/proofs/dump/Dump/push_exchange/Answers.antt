use Rattle.std.proofs.Common.{◌≡◌, ℕ, List, ◌++◌, false, ap, ◌∙◌}
use Rattle.std.specs.String.{string_bytes}
use Rattle.wire_text.specs.CommandText.{command_line}
use Rattle.wave_dump.specs.Borrowed.{exchanged_of}
use Rattle.wave_dump.specs.DumpValue.{DrawingValue}
use Rattle.wave_dump.specs.Exchanged.{Exchanged}
use Rattle.wave_dump.specs.Waves.{Signals, answer_begin, answer_moments, exchange_text, frame_moments, idle_between, with_underscores, moments_text, sent_signals}
use Rattle.wave_dump.proofs.DumpTexts.{exchange-drawn}
use Rattle.wave_dump.proofs.dump.Dump.push_exchange.Goals as goal

pub returns-clause-text : goal.returns-clause-text
returns-clause-text c =
    let inside = c.self.inside in
    let exchanged : Exchanged = exchanged_of c.args.exchanged.now in
    let start : List ℕ = string_bytes c.args.text.now in
    let before : Signals = idle_between inside.exchange inside.replies (string_bytes inside.command) in
    let old : c.as_str.result.now ≡ string_bytes inside.command = c.as_str.ensures.value in
    let command : c.as_str-2.result.now ≡ with_underscores (command_line exchanged.command) = c.as_str-2.ensures.value ∙ c.in_ok-set_command.ensures in
    let frame : string_bytes c.push_frame.new.text ≡ start ++ moments_text before (frame_moments (sent_signals exchanged) inside.begin false exchanged.intervals) =
    c.in_ok-end.ensures.text
    ∙ ap (λ (text : List ℕ). start ++ moments_text (idle_between inside.exchange inside.replies text) (frame_moments (idle_between exchanged.number 0 c.as_str-2.result.now) inside.begin false exchanged.intervals)) old
    ∙ ap (λ (text : List ℕ). start ++ moments_text before (frame_moments (idle_between exchanged.number 0 text) inside.begin false exchanged.intervals)) command in
    let answer =
    c.in_ok-self-inside.ensures.text
    ∙ ap (λ (end : ℕ). string_bytes c.push_frame.new.text ++ moments_text (sent_signals exchanged) (answer_moments inside.link exchanged (answer_begin inside.link end) exchanged.levels)) c.in_ok-end.ensures.end in
    exchange-drawn inside.link (record { begin = inside.begin; signals = before }) exchanged start (string_bytes c.push_frame.new.text) (string_bytes c.push_answer.new.text) frame answer
    ∙ ap (λ (drawing : DrawingValue). start ++ exchange_text drawing.link drawing.dump exchanged) c.self.view_is
