-- Each line asks for something, or is the first faulty one.
use Rattle.std.proofs.Common.{◌≡◌, ◌≢◌, ◌∷◌, [], length, ap, arith, length-append, rules, subst}
use Rattle.std.proofs.lemmas.List.{append-nil, nil_from_length}
use Rattle.text_fields.specs.Lines.{Lacks, line_feed}
use Rattle.checked_lines.specs.laws.AnsweredLines.{WholeLine, asks_all, asks_more, asks_none, fault_here, fault_last}
use Rattle.encode_lines.specs.EncodeLines.{IsFirstEncodeFault, encode_rules}
use Rattle.encode_lines.proofs.checking.check_lines.Goals as goal

pub loop-line-init : goal.loop-line-init
loop-line-init c = record { so_far = asks_none encode_rules c.args.input.now; room = omega arith }

pub loop-line-preserved : goal.loop-line-preserved
loop-line-preserved c =
    let line = c.in-Some.line.now in
    let behind = c.in-Some.behind.now in
    let next : WholeLine c.loop-line.rest.now = record { line = line; behind = behind; cut = c.in-Some.ensures.cut; lacks = c.in-Some.ensures.first } in
    record {
      so_far =
          asks_more encode_rules c.args.input.now c.loop-line.rest.now c.loop-line.number next c.in_default-request_of.field-0 c.loop-line.invariant.so_far
          c.in_default-request_of.ensures.ok;
      room = omega (arith, c.loop-line.invariant.room, ap length c.in-Some.ensures.cut, length-append line (line_feed ∷ behind));
    }

pub returns-in-Err-clause-refused : goal.returns-in-Err-clause-refused
returns-in-Err-clause-refused c =
    subst (λ bytes. IsFirstEncodeFault bytes (record { line = c.loop-line.number; reason = c.in-Err.reason })) (append-nil c.args.input.now)
    (fault_here encode_rules c.args.input.now c.loop-line.rest.now [] c.loop-line.number
    (record { line = c.in-Some.line.now; behind = c.in-Some.behind.now; cut = c.in-Some.ensures.cut; lacks = c.in-Some.ensures.first }) c.in-Err.reason c.loop-line.invariant.so_far
    c.in-Err.ensures.refused)

pub returns-then-is_empty-clause-ok : goal.returns-then-is_empty-clause-ok
returns-then-is_empty-clause-ok c ok =
    let none : length c.loop-line.rest.now ≡ 0 = search rules in
    (_, asks_all encode_rules c.args.input.now c.loop-line.rest.now c.loop-line.number c.loop-line.invariant.so_far (nil_from_length c.loop-line.rest.now none))

pub returns-clause-refused : goal.returns-clause-refused
returns-clause-refused c =
    let lacks : Lacks line_feed c.loop-line.rest.now = search rules in
    let some : length c.loop-line.rest.now ≢ 0 = search rules in
    fault_last encode_rules c.args.input.now c.loop-line.rest.now c.loop-line.number c.loop-line.invariant.so_far lacks (λ none. some (ap length none))
