use Rattle.std.proofs.Common.{◌≡◌, ℕ, List, inl, inr}
use Rattle.top_call.specs.Job.{Job, Defines, IsLawful}
use Rattle.top_call.specs.Jobs.{job_of}
use Rattle.top_call.proofs.laws.inputs_have_one_text.Goals as goal

-- no input has both a text to write and a fault line
apart : (job : Job) → IsLawful job → (bytes one other : List ℕ) → job.writes bytes one → job.refuses bytes other → ⊥
apart job lawful bytes one other writes refused = lawful.not_refused bytes other (lawful.allowed bytes one writes) refused

-- what is defined is one text, where it is one in each of its two cases
defined_once : (job : Job) → IsLawful job → (bytes one other : List ℕ) → Defines job bytes one → Defines job bytes other → one ≡ other
defined_once job lawful bytes one other (inl left) (inl right) = lawful.one_text bytes one other left right
defined_once job lawful bytes one other (inl left) (inr right) = absurd (apart job lawful bytes one other left right)
defined_once job lawful bytes one other (inr left) (inl right) = absurd (apart job lawful bytes other one right left)
defined_once job lawful bytes one other (inr left) (inr right) = lawful.one_fault_line bytes one other left right

pub returns-clause-one : goal.returns-clause-one
returns-clause-one c form = defined_once (job_of form) (c.jobs_are_lawful.ensures form)

pub returns-clause-apart : goal.returns-clause-apart
returns-clause-apart c form = apart (job_of form) (c.jobs_are_lawful.ensures form)
