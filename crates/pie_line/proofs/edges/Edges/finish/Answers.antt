use Rattle.std.proofs.Common.{inl}
use Rattle.pie_line.proofs.Leads.{leads-ends, leads-unfinished}
use Rattle.pie_line.proofs.DecoderStandsFor.{stands-at, stands-refused}
use Rattle.pie_line.proofs.OneAnswer.{only_frame, only_refusal}
use Rattle.pie_line.proofs.edges.Edges.finish.Goals as goal

pub returns-in-Err-clause-answer : goal.returns-in-Err-clause-answer
returns-in-Err-clause-answer c = rw (← c.self.view_is) (λ bits xs s. inl (stands-refused _ c.in-Err.refusal bits xs c.in-Err.is s))

pub returns-in-Err-clause-only : goal.returns-in-Err-clause-only
returns-in-Err-clause-only c = λ bits read xs kind s frame. only_frame _ bits read xs kind (returns-in-Err-clause-answer c bits xs s) frame

pub returns-in-Err-clause-first : goal.returns-in-Err-clause-first
returns-in-Err-clause-first c = λ bits xs refusal s refuses. only_refusal _ bits xs refusal (returns-in-Err-clause-answer c bits xs s) refuses

pub returns-in-Some-clause-answer : goal.returns-in-Some-clause-answer
returns-in-Some-clause-answer c = rw (← c.self.view_is) (λ bits xs s.
    let at = stands-at _ c.in-Ok.place bits xs c.in-Ok.is s in
    leads-ends c.in-Ok.place bits xs c.in-Some.kind at.1 c.in-Some.ensures.ends)

pub returns-in-Some-clause-only : goal.returns-in-Some-clause-only
returns-in-Some-clause-only c = λ bits read xs kind s frame. only_frame _ bits read xs kind (returns-in-Some-clause-answer c bits xs s) frame

pub returns-in-Some-clause-first : goal.returns-in-Some-clause-first
returns-in-Some-clause-first c = λ bits xs refusal s refuses. only_refusal _ bits xs refusal (returns-in-Some-clause-answer c bits xs s) refuses

pub returns-in-None-clause-answer : goal.returns-in-None-clause-answer
returns-in-None-clause-answer c = rw (← c.self.view_is) (λ bits xs s.
    let at = stands-at _ c.in-Ok.place bits xs c.in-Ok.is s in
    leads-unfinished c.in-Ok.place bits xs c.self.inside.count at.1 at.0 c.in-None.ensures.goes_on)

pub returns-in-None-clause-only : goal.returns-in-None-clause-only
returns-in-None-clause-only c = λ bits read xs kind s frame. only_frame _ bits read xs kind (returns-in-None-clause-answer c bits xs s) frame

pub returns-in-None-clause-first : goal.returns-in-None-clause-first
returns-in-None-clause-first c = λ bits xs refusal s refuses. only_refusal _ bits xs refusal (returns-in-None-clause-answer c bits xs s) refuses
