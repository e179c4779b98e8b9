use Rattle.std.proofs.Common.{◌≡◌, ◌≤◌, length, take}
use Rattle.std.specs.Prelude.{All, vec_capacity, vec_len}
use Rattle.q_round.specs.SpecValue.{IsLegalSpec}
use Rattle.two_portals.proofs.Underway.{AreLinesOf, Course}
use Rattle.two_portals.proofs.portals.play_all.Given as goal

abbrev pub invariant-loop-spec : goal.invariant-loop-spec
invariant-loop-spec g l =
    let tags = g.H.Hall.tags l.fn.joint in
    let course : Course = record { played = g.H.Hall.played; tags = tags; specs = l.specs } in
    record {
      lines : AreLinesOf course 2 l.spec-index (g.H.Hall.tags l.joint) (record { alone = g.H.Hall.tags l.alone2; count = vec_len l.lines; lines = l.lines.items });
      lines3 : AreLinesOf course 3 l.spec-index (g.H.Hall.tags l.joint) (record { alone = g.H.Hall.tags l.alone3; count = vec_len l.lines3; lines = l.lines3.items });
      few : vec_len l.lines ≤ l.spec-index;
      few3 : vec_len l.lines3 ≤ l.spec-index;
      fits : length l.specs ≤ vec_capacity l.lines;
      fits3 : length l.specs ≤ vec_capacity l.lines3;
      joint : length (g.H.Hall.tags l.joint) ≡ length tags;
      alone2 : length (g.H.Hall.tags l.alone2) ≡ length tags;
      alone3 : length (g.H.Hall.tags l.alone3) ≡ length tags;
      room : l.heard.capacity ≡ length tags;
      room_alone : l.heard_alone.capacity ≡ length tags;
      legal : All IsLegalSpec (take l.spec-index l.specs);
    }
