use Rattle.air_audit.proofs.Names.{◌≡◌, ◌∙◌, Bool, true, false, not, refl, sym, subst, DiffersFirst, AuditReason, slice_eq-Decides, booleans_Decides}
use Rattle.air_audit.proofs.ReadLines.{rx-faulty, rx-other-count, rx-other-levels, rx-other-number, rx-text}
use Rattle.air_audit.proofs.rx_line.compare_rx_line.Goals as goal

differs : (same : Bool) → not same ≡ true → same ≡ true → ⊥
differs true is equal = cc
differs false is equal = cc

equals : (same : Bool) → not same ≡ false → same ≡ true
equals true is = refl
equals false is = absurd (cc)

pub returns-in-Err-clause-refused : goal.returns-in-Err-clause-refused
returns-in-Err-clause-refused c =
    subst (λ (reason : AuditReason). DiffersFirst c.args.exchange c.args.count c.args.levels.now.items c.args.line.now reason) (sym c.reason_of.ensures)
    (rx-faulty c.args.exchange c.args.count c.args.levels.now.items c.args.line.now c.in-Err.fault c.requires.word c.in-Err.ensures.refused)

pub returns-then-not-spells-clause-refused : goal.returns-then-not-spells-clause-refused
returns-then-not-spells-clause-refused c =
    let rx = c.in-Ok.ensures.fields in
    rx-other-number c.args.exchange c.args.count c.args.levels.now.items c.args.line.now rx.0 (λ same. c.if-not-spells.ensures.no refl (sym rx.1 ∙ same))

pub returns-then-not-spells-2-clause-refused : goal.returns-then-not-spells-2-clause-refused
returns-then-not-spells-2-clause-refused c =
    let rx = c.in-Ok.ensures.fields in
    rx-other-count c.args.exchange c.args.count c.args.levels.now.items c.args.line.now rx.0 (rx.1 ∙ c.if-not-spells.ensures.yes refl)
    (λ same. c.if-not-spells-2.ensures.no refl (sym rx.2 ∙ same))

pub returns-then-ne-clause-refused : goal.returns-then-ne-clause-refused
returns-then-ne-clause-refused c =
    let rx = c.in-Ok.ensures.fields in
    let room : c.as_slice.result.now ≡ c.read_rx_line.new.levels.items = c.as_slice.ensures.value in
    rx-other-levels c.args.exchange c.args.count c.args.levels.now.items c.args.line.now rx.0 (rx.1 ∙ c.if-not-spells.ensures.yes refl) (rx.2 ∙ c.if-not-spells-2.ensures.yes refl)
    (λ same. differs _ (sym c.ne.ensures ∙ c.if-ne.true)
    ((slice_eq-Decides booleans_Decides c.as_slice.result.now c.as_slice-2.result.now _ refl).1 (room ∙ sym rx.3 ∙ same ∙ sym c.as_slice-2.ensures.value)))

pub returns-clause-same : goal.returns-clause-same
returns-clause-same c = λ ok.
    let rx = c.in-Ok.ensures.fields in
    let room : c.as_slice.result.now ≡ c.read_rx_line.new.levels.items = c.as_slice.ensures.value in
    let equal : c.as_slice.result.now ≡ c.as_slice-2.result.now =
    (slice_eq-Decides booleans_Decides c.as_slice.result.now c.as_slice-2.result.now _ refl).0 (equals _ (sym c.ne.ensures ∙ c.if-ne.false)) in
    rx-text c.args.exchange c.args.count c.args.levels.now.items c.args.line.now rx.0
    (record {
      number_is = rx.1 ∙ c.if-not-spells.ensures.yes refl;
      count_is = rx.2 ∙ c.if-not-spells-2.ensures.yes refl;
      levels_are = rx.3 ∙ sym room ∙ equal ∙ c.as_slice-2.ensures.value;
    })
