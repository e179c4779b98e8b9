use Rattle.top_call.proofs.PortalNames.{◌≡◌, ◌+◌, ◌≤◌, List, length, Some, sym, ap, ◌∙◌, arith, Step, Version, One, Two, first_refused, head_length, lines_of_steps}
use Rattle.top_call.proofs.PortalsRefused.{few-groups, not-both, said, unsaid}
use Rattle.top_call.proofs.portal_faults.fault_behind_head.Goals as goal

short : (version : Version) → head_length version ≤ 3
short One = omega arith
short Two = omega arith

pub overflow_add-behind_tags : goal.overflow_add-behind_tags
overflow_add-behind_tags c =
    let head = short c.args.scenario.now.version in
    let few = few-groups c.args.scenario.now c.requires.scenario in
    omega (arith, head, few, c.head_length.ensures, c.len.ensures)

pub overflow_add-result : goal.overflow_add-result
overflow_add-result c =
    let head = short c.args.scenario.now.version in
    let few = few-groups c.args.scenario.now c.requires.scenario in
    omega (arith, head, few, c.head_length.ensures, c.len.ensures)

pub returns-then-not-is_empty : goal.returns-then-not-is_empty
returns-then-not-is_empty c =
    ap (λ n. Some (n + 1)) (λ i. c.head_length.ensures i + c.len.ensures i)
    ∙ sym (said c.args.scenario.now c.requires.scenario c.requires.breaks (λ none. not-both c.is_empty.result c.if-not-is_empty.true (c.is_empty.ensures.1 none)))

pub step_fault-requires : goal.step_fault-requires
step_fault-requires c =
    let head = short c.args.scenario.now.version in
    let few = few-groups c.args.scenario.now c.requires.scenario in
    let steps = ap (λ (l : List Step). length l) c.as_slice.ensures.value in
    omega (arith, head, few, c.head_length.ensures, c.len.ensures, steps, c.requires.scenario.few_steps)

pub returns : goal.returns
returns c =
    let version = c.args.scenario.now.version in
    c.step_fault.ensures version
    ∙ ap (λ n. first_refused (n + 1) 2 (lines_of_steps version c.as_slice.result.now)) (λ i. c.head_length.ensures i + c.len.ensures i)
    ∙ ap (λ (steps : List Step). first_refused (head_length version + length c.args.scenario.now.groups + 1) 2 (lines_of_steps version steps)) c.as_slice.ensures.value
    ∙ sym (unsaid c.args.scenario.now c.requires.breaks (c.is_empty.ensures.0 c.if-not-is_empty.false))
