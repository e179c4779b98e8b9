use Rattle.std.proofs.Common.{ℕ, List, ◌∙◌, ap}
use Rattle.std.proofs.lemmas.List.{with_items_is}
use Rattle.tag_memory.specs.Memory.{Banks}
use Rattle.tag_memory.specs.ReadsAndWrites.{with_words_at}
use Rattle.tag_memory.proofs.memory.Memory.put.Goals as goal

-- The search finds each of these four too, in some six seconds.
pub returns-in-Reserved-clause-value : goal.returns-in-Reserved-clause-value
returns-in-Reserved-clause-value c =
    let banks : List ℕ → Banks = λ words. record { reserved = words; epc = c.self.inside.epc.items; tid = c.self.inside.tid.items; user = c.self.inside.user.items } in
    rw (c.in-Reserved.is, ← c.self.view_is) (ap banks c.replace.ensures.value)

pub returns-in-Epc-clause-value : goal.returns-in-Epc-clause-value
returns-in-Epc-clause-value c =
    let banks : List ℕ → Banks = λ words. record { reserved = c.self.inside.reserved; epc = words; tid = c.self.inside.tid.items; user = c.self.inside.user.items } in
    let written = with_items_is c.self.inside.epc c.replace-in-Epc.new.old (c.replace-in-Epc.ensures.whole ∙ c.deref_mut.ensures.len)
    ∙ c.replace-in-Epc.ensures.value ∙ ap (λ (old : List ℕ). with_words_at old c.args.from c.args.words.now) c.deref_mut.ensures.value in
    rw (c.in-Epc.is, ← c.self.view_is) (ap banks written)

pub returns-in-Tid-clause-value : goal.returns-in-Tid-clause-value
returns-in-Tid-clause-value c =
    let banks : List ℕ → Banks = λ words. record { reserved = c.self.inside.reserved; epc = c.self.inside.epc.items; tid = words; user = c.self.inside.user.items } in
    let written = with_items_is c.self.inside.tid c.replace-in-Tid.new.old (c.replace-in-Tid.ensures.whole ∙ c.deref_mut-in-Tid.ensures.len)
    ∙ c.replace-in-Tid.ensures.value ∙ ap (λ (old : List ℕ). with_words_at old c.args.from c.args.words.now) c.deref_mut-in-Tid.ensures.value in
    rw (c.in-Tid.is, ← c.self.view_is) (ap banks written)

pub returns-in-User-clause-value : goal.returns-in-User-clause-value
returns-in-User-clause-value c =
    let banks : List ℕ → Banks = λ words. record { reserved = c.self.inside.reserved; epc = c.self.inside.epc.items; tid = c.self.inside.tid.items; user = words } in
    let written = with_items_is c.self.inside.user c.replace-in-User.new.old (c.replace-in-User.ensures.whole ∙ c.deref_mut-in-User.ensures.len)
    ∙ c.replace-in-User.ensures.value ∙ ap (λ (old : List ℕ). with_words_at old c.args.from c.args.words.now) c.deref_mut-in-User.ensures.value in
    rw (c.in-User.is, ← c.self.view_is) (ap banks written)
