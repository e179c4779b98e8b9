use Rattle.std.specs.String.{string_bytes}
use Rattle.bench_lines.proofs.PlayedParts.{all_sent, none_sent, none_waits}
use Rattle.bench_lines.proofs.playing.PlayingRooms.write_page.Goals as goal

pub returns-then-len-lt-PAGE_BYTES-clause-sent : goal.returns-then-len-lt-PAGE_BYTES-clause-sent
returns-then-len-lt-PAGE_BYTES-clause-sent g c = none_sent (string_bytes c.args.self.now.text) (g.O.Sink.written c.args.out.now)

pub returns-clause-sent : goal.returns-clause-sent
returns-clause-sent g c = all_sent c.flush.result _ _ _ _ c.flush.ensures.sent c.flush.ensures.empty

pub returns-clause-page : goal.returns-clause-page
returns-clause-page g c = none_waits c.flush.result _ c.flush.ensures.empty
