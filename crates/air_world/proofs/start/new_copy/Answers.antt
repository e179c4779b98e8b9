use Rattle.std.proofs.lemmas.Grind.{common_steps}
use Rattle.air_world.proofs.Names.{◌≡◌, ◌-◌, ◌<◌, ◌∙◌, List, ℕ, ap, arith, length, slice_index, subst, raised, IfOk, TagValue, tag_value_of}
use Rattle.scenario_lines.specs.TagForm.{epc_length}
use Rattle.tag_machine.specs.Events.{new_tag}
use Rattle.tag_memory.specs.Image.{banks_of, with_last_words}
use Rattle.air_world.proofs.start.new_copy.Goals as goal

pub returns : goal.returns
returns c =
    let spec = c.args.spec.now in
    let inside : epc_length spec < length spec.image.epc = grind (arith, common_steps) in
    let epc : c.raised-last_of_epc.result ≡ raised c.args.number (slice_index spec.image.epc (epc_length spec)) =
    grind (arith, common_steps, c.raised-last_of_epc.ensures, c.as_slice-epc.ensures.value, c.from.ensures) in
    let last : length c.as_slice-tid.result.now - 1 ≡ length spec.image.tid - 1 = ap (λ (words : List ℕ). length words - 1) c.as_slice-tid.ensures.value in
    let tid : c.raised-last_of_tid.result ≡ raised c.args.number (slice_index spec.image.tid (length spec.image.tid - 1)) =
    grind (arith, common_steps, c.raised-last_of_tid.ensures, c.as_slice-tid.ensures.value, last) in
    let memory = c.in_ok-memory.ensures ∙ (λ i. banks_of (with_last_words spec.image (epc i) (tid i))) in
    subst (λ (value : TagValue). IfOk c.new.result (λ tag. tag_value_of tag ≡ value)) (λ i. new_tag (memory i) spec.locks (c.in_ok-words.ensures i)) c.new.ensures
