-- Profile: what a summary says where each tag was listed.
use Rattle.std.specs.Prelude.{◌≡◌, ℕ}
use Rattle.runs.specs.declared.summary.Summary.{Summary}

-- a tag was listed as often as there are tags, and there are as many different pairs of PC and EPC
pub record CountsAll (summary : Summary) (tags : ℕ) : Type 0 where
  pub listed : summary.listed ≡ tags
  pub distinct_pairs : summary.distinct ≡ tags
