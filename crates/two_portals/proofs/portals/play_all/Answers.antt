use Rattle.std.proofs.Common.{◌≡◌, ◌≢◌, ◌<◌, ◌⊎◌, inl, inr, ℕ, List, ◌++◌, length, refl, sym, ap, ◌∙◌, subst, arith}
use Rattle.std.specs.Prelude.{All, vec_len}
use Rattle.std.proofs.lemmas.List.{take_all}
use Rattle.std.proofs.lemmas.List.Elements.{All-get_or, All-more}
use Rattle.q_round.specs.SpecValue.{IsLegalSpec}
use Rattle.tag_machine.specs.TagValue.{TagValue}
use Rattle.two_portals.proofs.Independence.{Laws, new-tags-same}
use Rattle.two_portals.proofs.Underway.{Course, JointRound, Portal, IsPlayed, both-told, not-of, other-more, own-more}
use Rattle.two_portals.specs.PortalLines.{AreIndependent, IsOfPortal}
use Rattle.two_portals.specs.declared.portal_line.PortalLine.{PortalLine}
use Rattle.two_portals.proofs.portals.play_all.Goals as goal
use Rattle.two_portals.proofs.portals.play_all.Goals.{then-get-eq2, else-get-eq2}

-- the other portal
third : (session : ℕ) → (session ≡ 2) ⊎ (session ≡ 3) → session ≢ 2 → session ≡ 3
third session (inl two) other = absurd (other two)
third session (inr three) other = three

pub loop-spec-preserved : goal.loop-spec-preserved
loop-spec-preserved g c =
    let l = c.loop-spec in
    let u = l.invariant in
    let tags_of = g.H.Hall.tags in
    let played = g.H.Hall.played in
    let spec = c.spec-item.result in
    let course : Course = record { played = played; tags = tags_of c.args.joint.now; specs = c.args.specs.now } in
    let inside : l.spec-index < length course.specs = omega arith in
    let session : spec.session ≡ c.get.result = sym (c.get.ensures.value ∙ c.session.ensures.value) in
    let portal = subst IsOfPortal (sym c.spec-item.is) (All-get_or IsOfPortal c.args.specs.now l.spec-index spec inside c.requires.sessions) in
    let joint_kept = (g.met.H.Hall.senders (tags_of l.joint) spec c.session.ensures.legal).as_many in
    let alone2 : Portal = record { alone = tags_of l.alone2; count = vec_len l.lines; lines = l.lines.items } in
    let alone3 : Portal = record { alone = tags_of l.alone3; count = vec_len l.lines3; lines = l.lines3.items } in
    let legal = All-more IsLegalSpec c.args.specs.now l.spec-index spec inside u.legal (subst IsLegalSpec c.spec-item.is c.session.ensures.legal) in
    elim c.if-get-eq2.branch [
      | then-get-eq2 w ↦
          let p = w.play_both.ensures in
          let two : spec.session ≡ 2 = session ∙ w.if-get-eq2.true in
          let round : JointRound course = record {
            place = l.spec-index;
            spec = spec;
            before = tags_of l.joint;
            behind = tags_of w.play_both.new.joint;
            inside = inside;
            is = c.spec-item.is;
            tags = p.joint;
          } in
          let behind : Portal = record { alone = tags_of w.play_both.new.alone; count = vec_len w.play_both.new.lines; lines = w.play_both.new.lines.items } in
          let is : IsPlayed course round alone2 behind = record { alone = p.alone; count = p.len; lines = p.line } in
          let kept = (g.met.H.Hall.senders (tags_of l.alone2) spec c.session.ensures.legal).as_many in
          rw (w.joint-is, w.alone2-is, w.alone3-is, w.heard-is, w.heard_alone-is, w.lines-is, w.lines3-is)
          (record {
            lines = own-more course 2 round alone2 behind u.lines two is;
            lines3 = other-more course 3 round alone3 u.lines3 (not-of 3 2 spec two refl);
            few = omega (arith, u.few, p.len);
            few3 = omega (arith, u.few3);
            fits = omega (arith, u.fits, p.capacity);
            fits3 = u.fits3;
            joint = ap (λ (tags : List TagValue). length tags) p.joint ∙ joint_kept ∙ u.joint;
            alone2 = ap (λ (tags : List TagValue). length tags) p.alone ∙ kept ∙ u.alone2;
            alone3 = u.alone3;
            room = p.room ∙ u.room;
            room_alone = p.room_alone ∙ u.room_alone;
            legal = legal;
          })
      | else-get-eq2 w ↦
          let p = w.play_both-else-get-eq2.ensures in
          let three : spec.session ≡ 3 = third spec.session portal (λ two. w.if-get-eq2.false (sym session ∙ two)) in
          let round : JointRound course = record {
            place = l.spec-index;
            spec = spec;
            before = tags_of l.joint;
            behind = tags_of w.play_both-else-get-eq2.new.joint;
            inside = inside;
            is = c.spec-item.is;
            tags = p.joint;
          } in
          let lines3 = w.play_both-else-get-eq2.new.lines in
          let behind : Portal = record { alone = tags_of w.play_both-else-get-eq2.new.alone; count = vec_len lines3; lines = lines3.items } in
          let is : IsPlayed course round alone3 behind = record { alone = p.alone; count = p.len; lines = p.line } in
          let kept = (g.met.H.Hall.senders (tags_of l.alone3) spec c.session.ensures.legal).as_many in
          rw (w.joint-is, w.alone2-is, w.alone3-is, w.heard-is, w.heard_alone-is, w.lines-is, w.lines3-is)
          (record {
            lines = other-more course 2 round alone2 u.lines (not-of 2 3 spec three refl);
            lines3 = own-more course 3 round alone3 behind u.lines3 three is;
            few = omega (arith, u.few);
            few3 = omega (arith, u.few3, p.len);
            fits = u.fits;
            fits3 = omega (arith, u.fits3, p.capacity);
            joint = ap (λ (tags : List TagValue). length tags) p.joint ∙ joint_kept ∙ u.joint;
            alone2 = u.alone2;
            alone3 = ap (λ (tags : List TagValue). length tags) p.alone ∙ kept ∙ u.alone3;
            room = p.room ∙ u.room;
            room_alone = p.room_alone ∙ u.room_alone;
            legal = legal;
          })
    ]

-- the lines are those of both portals
pub returns-clause-lines : goal.returns-clause-lines
returns-clause-lines g c =
    let l = c.loop-spec in
    let u = l.invariant in
    let tags_of = g.H.Hall.tags in
    let course : Course = record { played = g.H.Hall.played; tags = tags_of c.args.joint.now; specs = c.args.specs.now } in
    let two : Portal = record { alone = tags_of l.alone2; count = vec_len l.lines; lines = l.lines.items } in
    let three : Portal = record { alone = tags_of l.alone3; count = vec_len l.lines3; lines = l.lines3.items } in
    c.in_ok-extend_from_slice.ensures.items
    ∙ ap (λ (others : List PortalLine). l.lines.items ++ others) c.deref.ensures.value
    ∙ both-told course l.spec-index (tags_of l.joint) two three u.lines u.lines3 (omega arith)

pub returns-clause-independent : goal.returns-clause-independent
returns-clause-independent g c =
    let l = c.loop-spec in
    let specs = c.args.specs.now in
    let legal = subst (All IsLegalSpec) (take_all l.spec-index specs (omega arith)) l.invariant.legal in
    let laws : Laws g.H.Hall.played = record { senders = g.met.H.Hall.senders; quiet = g.met.H.Hall.quiet } in
    let same = new-tags-same g.H.Hall.played laws specs (g.H.Hall.tags c.args.joint.now) legal c.requires.sessions c.requires.fresh in
    subst AreIndependent (sym (returns-clause-lines g c)) same
