-- What the samples are is what is answered.
use Rattle.std.proofs.Common.{sym, ◌∙◌}
use Rattle.sample_slicer.proofs.OneAnswer.{only_levels, only_refusal, refused_all}
use Rattle.sample_slicer.proofs.slicer.slice_levels.Goals as goal

pub returns-then-is_err-clause-only : goal.returns-then-is_err-clause-only
returns-then-is_err-clause-only c = λ levels are.
    let call = c.slice_groups-outcome in
    absurd (refused_all c.args.threshold c.args.per_level c.args.samples.now call.result levels c.requires.least (sym c.is_err.ensures.value ∙ c.if-is_err.true) call.ensures.refused are)

pub returns-then-is_err-clause-first : goal.returns-then-is_err-clause-first
returns-then-is_err-clause-first c = λ refusal refuses.
    let call = c.slice_groups-outcome in
    only_refusal c.args.threshold c.args.per_level c.args.samples.now call.result call.new.out.items refusal c.requires.least (record { ok = call.ensures.ok; refused = call.ensures.refused }) refuses

pub returns-else-is_err-clause-only : goal.returns-else-is_err-clause-only
returns-else-is_err-clause-only c = λ levels are.
    let call = c.slice_groups-outcome in
    only_levels c.args.threshold c.args.per_level c.args.samples.now call.result call.new.out.items levels c.requires.least (record { ok = call.ensures.ok; refused = call.ensures.refused }) are

pub returns-else-is_err-clause-first : goal.returns-else-is_err-clause-first
returns-else-is_err-clause-first c = λ refusal refuses.
    let call = c.slice_groups-outcome in
    only_refusal c.args.threshold c.args.per_level c.args.samples.now call.result call.new.out.items refusal c.requires.least (record { ok = call.ensures.ok; refused = call.ensures.refused }) refuses
