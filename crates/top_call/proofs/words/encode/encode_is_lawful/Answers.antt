use Rattle.top_call.proofs.words.encode.encode_is_lawful.Goals as goal

pub returns : goal.returns
returns c = record {
  one_text = c.encode_lines_have_one_text.ensures.written;
  one_fault_line = c.encode_lines_have_one_text.ensures.fault_line;
  allowed = λ bytes text writes. (writes.requests, writes.asks);
  not_refused = λ bytes text allowed refused. c.encode_lines_are_not_faulty.ensures bytes (record { line = refused.number; reason = refused.reason }) allowed refused.first;
  unread = λ unread bytes text refused. absurd (cc);
  kept = c.written_lines_are_read_back.ensures.text;
}
