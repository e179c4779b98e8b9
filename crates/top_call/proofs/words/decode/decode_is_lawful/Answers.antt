use Rattle.top_call.proofs.words.decode.decode_is_lawful.Goals as goal

pub returns : goal.returns
returns c = record {
  one_text = c.decode_lines_have_one_text.ensures.answers;
  one_fault_line = c.decode_lines_have_one_text.ensures.fault_line;
  allowed = λ bytes text writes. (writes.requests, writes.asks);
  not_refused = λ bytes text allowed refused. c.decode_lines_are_not_faulty.ensures bytes (record { line = refused.number; reason = refused.reason }) allowed refused.first;
  unread = λ unread bytes text refused. absurd (cc);
  kept = λ bytes text writes. tt;
}
