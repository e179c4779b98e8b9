-- What a dump is drawn of, behind what it borrows.
use Rattle.wave_dump.specs.Exchanged.{Exchanged}
use Rattle.wave_dump.specs.Waves.{Signals}
use Rattle.wave_dump.specs.declared.exchanged.Exchanged.{Exchanged as BorrowedExchange}
use Rattle.wave_dump.specs.declared.signals.Signals.{Signals as BorrowedSignals}

-- an exchange that is over, behind what it borrows
abbrev pub exchanged_of : BorrowedExchange → Exchanged
exchanged_of borrowed = record {
  number = borrowed.number;
  command = borrowed.command.now;
  intervals = borrowed.intervals.now;
  replies = borrowed.replies;
  given = borrowed.given.now;
  levels = borrowed.levels.now.items;
}

-- the values of the signals, behind what they borrow
abbrev pub signals_of : BorrowedSignals → Signals
signals_of borrowed = record {
  reader = borrowed.reader;
  tag = borrowed.tag;
  exchange = borrowed.exchange;
  replies = borrowed.replies;
  command = borrowed.command.now;
  reply = borrowed.reply.now;
}
