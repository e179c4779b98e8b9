-- The lines of exchanges, as they were read.
use Rattle.std.proofs.lemmas.List.Splits.{join_with_byte-slice_split}
use Rattle.air_audit.proofs.Names.{◌≡◌, ◌≢◌, ℕ, Bool, inl, inr, List, [], ◌∷◌, length, refl, sym, ap, ◌∙◌, subst, codes, DiffersFirst, IsNoTxLine, audit_reason_of, AreFrameOf, Command, IsNoRx, IsNoTx}
use Rattle.air_audit.proofs.Names.{RxFields, TxFields, first_field, text_of, RxLine, decimal, binary, line_with, space}
use Rattle.air_audit.specs.declared.verdict.AuditReason.TheVariants as reasons
use Rattle.text_fields.specs.declared.fields_fault.FieldsFault.{FieldsFault}
use Rattle.text_fields.specs.declared.fields_fault.FieldsFault.TheVariants.{Word, Shape, Number}
use Rattle.air_audit.proofs.OneStanding.{rx-same, tx-same}
use Rattle.air_audit.proofs.OneVerdict.{tx-shape}

-- a line that begins with tx and is no tx line is refused
pub tx-faulty : (exchange : ℕ) (line : List ℕ) (fault : FieldsFault) → first_field line ≡ codes "tx" → IsNoTx line fault → IsNoTxLine exchange line (audit_reason_of fault)
tx-faulty exchange line Word word none = absurd (none word)
tx-faulty exchange line Shape word none = inl (none.1, refl)
tx-faulty exchange line Number word none = inr (none.1, inl (none.2, refl))

-- ... for another number, or since its intervals are no frame
pub tx-other : (exchange : ℕ) (line : List ℕ) (tx : TxFields line) → tx.exchange ≢ decimal exchange → IsNoTxLine exchange line reasons.Exchange
tx-other exchange line tx differs = inr (tx-shape line tx, inr (tx, inl (λ is. differs ((tx-same line tx is.0).0 ∙ is.1), refl)))

pub tx-no-frame : (exchange : ℕ) (line : List ℕ) (tx : TxFields line) → tx.exchange ≡ decimal exchange → ((command : Command) → ¬ AreFrameOf command tx.intervals)
    → IsNoTxLine exchange line reasons.Frame
tx-no-frame exchange line tx number none =
    inr (tx-shape line tx, inr (tx, inr ((tx, number), inl (λ sends. none sends.0 (subst (AreFrameOf sends.0) (tx-same line sends.1.tx tx).1 sends.1.frame), refl))))

-- ... and so is one that begins with rx
pub rx-faulty : (exchange count : ℕ) (levels : List Bool) (line : List ℕ) (fault : FieldsFault) → first_field line ≡ codes "rx" → IsNoRx line fault
    → DiffersFirst exchange count levels line (audit_reason_of fault)
rx-faulty exchange count levels line Word word none = absurd (none word)
rx-faulty exchange count levels line Shape word none = inl (none.1, refl)
rx-faulty exchange count levels line Number word none = inr (none.1, inl (none.2, refl))

-- ... for another number, another count or other levels
module _ (exchange count : ℕ) (levels : List Bool) (line : List ℕ) (rx : RxFields line) where
  pub rx-other-number : rx.exchange ≢ decimal exchange → DiffersFirst exchange count levels line reasons.Exchange
  rx-other-number differs = inr (ap length rx.are, inr (rx, inl (λ is. differs ((rx-same line rx is.0).0 ∙ is.1), refl)))

  pub rx-other-count : rx.exchange ≡ decimal exchange → rx.count ≢ decimal count → DiffersFirst exchange count levels line reasons.Count
  rx-other-count number differs =
      inr (ap length rx.are, inr (rx, inr ((rx, number), inl (λ is. differs ((rx-same line rx is.0).1 ∙ is.2), refl))))

  pub rx-other-levels : rx.exchange ≡ decimal exchange → rx.count ≡ decimal count → rx.levels ≢ levels → DiffersFirst exchange count levels line reasons.Levels
  rx-other-levels number counted differ =
      inr (ap length rx.are, inr (rx, inr ((rx, number), inr ((rx, number, counted), inl (λ is. differ ((rx-same line rx is.0).2 ∙ is.3), refl)))))

-- the fields of an rx line spell so many replies and these levels in the exchange
pub record SpellRx (exchange replied : ℕ) (bits : List Bool) (line : List ℕ) (rx : RxFields line) : Type 0 where
  pub number_is : rx.exchange ≡ decimal exchange
  pub count_is : rx.count ≡ decimal replied
  pub levels_are : rx.levels ≡ bits

-- a line has the text of its fields
pub rx-text : (exchange replied : ℕ) (bits : List Bool) (line : List ℕ) (rx : RxFields line) → SpellRx exchange replied bits line rx
    → line ≡ text_of (RxLine exchange replied bits)
rx-text exchange replied bits line rx spell =
    sym (join_with_byte-slice_split space line) ∙ ap line_with rx.are
    ∙ ap (λ (n : List ℕ). line_with (codes "rx" ∷ n ∷ rx.count ∷ binary rx.levels ∷ [])) spell.number_is
    ∙ ap (λ (n : List ℕ). line_with (codes "rx" ∷ decimal exchange ∷ n ∷ binary rx.levels ∷ [])) spell.count_is
    ∙ ap (λ (b : List Bool). line_with (codes "rx" ∷ decimal exchange ∷ decimal replied ∷ binary b ∷ [])) spell.levels_are
