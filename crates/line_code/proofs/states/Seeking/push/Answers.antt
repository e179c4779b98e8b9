use Rattle.std.proofs.Common.{◌≡◌, ◌+◌, Bool, List, [], length, arith, sym, subst}
use Rattle.line_code.specs.States.{Reads}
use Rattle.line_code.specs.TableFacts.{CodeTable}
use Rattle.line_code.specs.laws.Reading.{reads_none}
use Rattle.line_code.specs.laws.Lead.{seeks_bad, seeks_more, seeks_size, lead_all, lead_level, lead_other, lead_size}
use Rattle.line_code.specs.laws.LevelTests.{differs, agrees}
use Rattle.line_code.proofs.states.Seeking.push.Goals as goal

pub returns-then-lead-level : goal.returns-then-lead-level
returns-then-lead-level g c =
    rw (← c.self.view_is) (λ trext levels s.
    let t = g.C.LineCode.table in
    let size = seeks_size t trext _ levels s in
    let other = lead_other t trext _ levels c.lead.result c.args.level s c.lead.ensures (differs c.lead.result c.args.level c.if-lead-level.true) in
    (size, seeks_bad t trext _ levels c.args.level s other c.self.inside.taken size))

pub returns-then-taken-lead_len : goal.returns-then-taken-lead_len
returns-then-taken-lead_len g c =
    rw (← c.self.view_is) (λ trext levels s.
    let t = g.C.LineCode.table in
    let at = lead_level t trext _ levels c.lead.result c.args.level s c.lead.ensures (agrees c.lead.result c.args.level c.if-lead-level.false) in
    let size = lead_size t trext _ levels s in
    record {
      trext_is = s.trext_is;
      levels_are = seeks_more t trext _ levels c.args.level s at;
      inside = let long = c.lead_len-lead_len.ensures in omega arith;
    })

pub returns-else-taken-lead_len : goal.returns-else-taken-lead_len
returns-else-taken-lead_len g c =
    let code : CodeTable = record { table = g.C.LineCode.table; chips = g.C.LineCode.CHIPS; even = g.met.C.LineCode.even; tells = g.met.C.LineCode.tells_bits } in
    rw (← c.self.view_is) (λ trext levels s.
    let t = g.C.LineCode.table in
    let at = lead_level t trext _ levels c.lead.result c.args.level s c.lead.ensures (agrees c.lead.result c.args.level c.if-lead-level.false) in
    let size = lead_size t trext _ levels s in
    let long = c.lead_len-lead_len.ensures in
    let inside = s.inside in
    let last : c.self.inside.taken + 1 ≡ length (t.lead trext) = omega arith in
    let all = lead_all t trext _ levels c.args.level s at last in
    let read : Reads t trext c.between_blocks.result (t.lead trext) [] = rw (c.between_blocks.ensures, c.after_lead.ensures) (reads_none code trext _ last) in
    (all, let P : List Bool → Type 0 = λ ls. Reads t trext c.between_blocks.result ls [] in subst P (sym all) read))
