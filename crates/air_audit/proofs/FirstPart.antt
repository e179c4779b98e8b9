-- Parts that are looked for one after another: one alone is the first that fails, and none is where each holds.
use Rattle.air_audit.proofs.Names.{◌≡◌, inl, inr, List, [], ◌∷◌, sym, ◌∙◌, LinePart, FirstFails, AuditReason}

pub one-first : (parts : List LinePart) (one other : AuditReason) → FirstFails parts one → FirstFails parts other → one ≡ other
one-first [] one other a b = absurd a
one-first (part ∷ parts) one other (inl a) (inl b) = a.1 ∙ sym b.1
one-first (part ∷ parts) one other (inl a) (inr b) = absurd (a.0 b.0)
one-first (part ∷ parts) one other (inr a) (inl b) = absurd (b.0 a.0)
one-first (part ∷ parts) one other (inr a) (inr b) = one-first parts one other a.1 b.1

abbrev pub AllHold : List LinePart → Type 0
AllHold [] = Unit {0}
AllHold (part ∷ parts) = part.holds × AllHold parts

pub none-fails : (parts : List LinePart) (reason : AuditReason) → AllHold parts → FirstFails parts reason → ⊥
none-fails [] reason all fails = fails
none-fails (part ∷ parts) reason all (inl fails) = fails.0 all.0
none-fails (part ∷ parts) reason all (inr fails) = none-fails parts reason all.1 fails.1
